use Rattle.gtfs_cli.proofs.AlikeProblems.{kind-counted}
use Rattle.gtfs_cli.proofs.commands.check.kind_counts.KindCounts.of.Goals as goal

pub loop-problem-preserved : goal.loop-problem-preserved
loop-problem-preserved c =
    kind-counted c.args.problems.now c.loop-problem.problem-index _ c.loop-problem-test.true c.kind_of-kind.result c.kind_of-kind.ensures c.loop-problem.counts c.insert.new.self
    c.count_of-before.result c.count_of-before.ensures c.loop-problem.invariant c.in_ok-insert.ensures.updates.0
