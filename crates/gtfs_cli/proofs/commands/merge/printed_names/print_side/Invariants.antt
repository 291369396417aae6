use Rattle.std.proofs.Common.{take}
use Rattle.std.specs.Prelude.{flat_map}
use Rattle.gtfs_cli.specs.MergeReport.{id_line}
use Rattle.gtfs_cli.proofs.Sent.{output, SentWhole}
use Rattle.gtfs_cli.proofs.commands.merge.printed_names.print_side.Given as goal

abbrev pub invariant-loop-number : goal.invariant-loop-number
invariant-loop-number g l =
    SentWhole (flat_map (id_line l.names l.side l.kind) (take l.number l.ids)) (output (g.O.Out.told l.initial.out) (g.O.Out.failure_count l.initial.out))
    (output (g.O.Out.told l.out) (g.O.Out.failure_count l.out))
