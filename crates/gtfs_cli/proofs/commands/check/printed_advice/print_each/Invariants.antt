use Rattle.std.proofs.Common.{None, map, take}
use Rattle.gtfs_advice.specs.Advice.{advice_of}
use Rattle.gtfs_cli.specs.AdviceLines.{advice_line}
use Rattle.gtfs_cli.specs.SentText.{joined}
use Rattle.gtfs_cli.proofs.Sent.{output, SentWhole}
use Rattle.gtfs_cli.proofs.commands.check.printed_advice.print_each.Given as goal

abbrev pub invariant-loop-one : goal.invariant-loop-one
invariant-loop-one g l =
    SentWhole (joined (take l.one-index (map (λ a. advice_line a None) (map (advice_of l.feed) l.advice)))) (output (g.O.Out.told l.initial.out) (g.O.Out.failure_count l.initial.out))
    (output (g.O.Out.told l.out) (g.O.Out.failure_count l.out))
