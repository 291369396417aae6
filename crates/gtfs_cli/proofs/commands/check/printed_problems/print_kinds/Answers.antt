use Rattle.std.proofs.Common.{[], map}
use Rattle.gtfs_schema.specs.ProblemTexts.{problem_of}
use Rattle.gtfs_cli.specs.CheckLines.{is_alike, shown_line}
use Rattle.gtfs_cli.specs.FirstOfEachKind.{firsts}
use Rattle.gtfs_cli.proofs.AlikeProblems.{kind-line-at, kinds-left}
use Rattle.gtfs_cli.proofs.MadeLines.{firsts-end, firsts-inside}
use Rattle.gtfs_cli.proofs.SentLines.{line-failed, line-more, lines-sent, lines-unmade}
use Rattle.gtfs_cli.proofs.commands.check.printed_problems.print_kinds.Goals as goal

pub returns-in_err-counts : goal.returns-in_err-counts
returns-in_err-counts g c = lines-unmade _ _ c.from_residual.result c.from_residual.ensures.1

pub loop-problem-preserved : goal.loop-problem-preserved
loop-problem-preserved g c =
    let ps = c.args.problems.now in
    let line = shown_line c.args.values c.args.tables.now in
    let i = c.loop-problem.problem-index in
    let inside = c.loop-problem-test.true in
    let held = c.loop-problem.invariant.counts in
    record {
      counts = kinds-left ps i _ inside c.loop-problem.counts c.take-count.new.self c.take-count.ensures.left held;
      sent = line-more (firsts is_alike line (map problem_of ps)) i [] _
          (kind-line-at ps i _ inside c.args.values c.args.tables.now c.take-count.result c.loop-problem.counts c.take-count.ensures.taken held)
          (firsts-inside problem_of ps i is_alike line inside) _ _ _ _ c.loop-problem.invariant.sent c.in_ok-print_kind.ensures;
    }

pub returns-in_err-print_kind : goal.returns-in_err-print_kind
returns-in_err-print_kind g c =
    let ps = c.args.problems.now in
    let line = shown_line c.args.values c.args.tables.now in
    let i = c.loop-problem.problem-index in
    let inside = c.loop-problem-test.true in
    line-failed (firsts is_alike line (map problem_of ps)) i [] _
    (kind-line-at ps i _ inside c.args.values c.args.tables.now c.take-count.result c.loop-problem.counts c.take-count.ensures.taken c.loop-problem.invariant.counts)
    (firsts-inside problem_of ps i is_alike line inside) _ _ _ _ c.from_residual-in_err-print_kind.result c.from_residual-in_err-print_kind.ensures.1
    c.loop-problem.invariant.sent c.in_err-print_kind.ensures

pub returns : goal.returns
returns g c =
    let ps = c.args.problems.now in
    let line = shown_line c.args.values c.args.tables.now in
    lines-sent (firsts is_alike line (map problem_of ps)) c.loop-problem.problem-index _ _ _
    (firsts-end problem_of ps c.loop-problem.problem-index is_alike line c.loop-problem-test.false) c.loop-problem.invariant.sent
