use Rattle.std.proofs.Common.{take}
use Rattle.std.specs.Prelude.{flat_map}
use Rattle.gtfs_merge.specs.MergeReport.{kinds}
use Rattle.gtfs_cli.specs.MergeReport.{count_line}
use Rattle.gtfs_cli.proofs.Sent.{output, SentWhole}
use Rattle.gtfs_cli.proofs.commands.merge.printed_names.print_joined.Given as goal

abbrev pub invariant-loop-kind : goal.invariant-loop-kind
invariant-loop-kind g l =
    SentWhole (flat_map (count_line l.names) (take l.kind-index kinds)) (output (g.O.Out.told l.initial.out) (g.O.Out.failure_count l.initial.out))
    (output (g.O.Out.told l.out) (g.O.Out.failure_count l.out))
