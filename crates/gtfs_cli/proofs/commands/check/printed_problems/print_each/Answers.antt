use Rattle.std.proofs.Common.{[], map, None, refl}
use Rattle.gtfs_schema.specs.Problems.{Problem}
use Rattle.gtfs_schema.specs.ProblemTexts.{problem_of}
use Rattle.gtfs_cli.specs.CheckLines.{shown_line}
use Rattle.gtfs_cli.proofs.MadeLines.{line-at, lines-end, lines-inside}
use Rattle.gtfs_cli.proofs.SentLines.{line-failed, line-more, lines-sent}
use Rattle.gtfs_cli.proofs.commands.check.printed_problems.print_each.Goals as goal

pub loop-problem-preserved : goal.loop-problem-preserved
loop-problem-preserved g c =
    let ps = c.args.problems.now in
    let line = (λ (p : Problem). shown_line c.args.values c.args.tables.now p None) in
    let i = c.loop-problem.problem-index in
    line-more (map line (map problem_of ps)) i [] _
    (line-at problem_of ps i _ _ refl c.loop-problem-test.true line)
    (lines-inside problem_of ps i line c.loop-problem-test.true) _ _ _ _ c.loop-problem.invariant c.in_ok-print_shown.ensures

pub returns-in_err-print_shown : goal.returns-in_err-print_shown
returns-in_err-print_shown g c =
    let ps = c.args.problems.now in
    let line = (λ (p : Problem). shown_line c.args.values c.args.tables.now p None) in
    let i = c.loop-problem.problem-index in
    line-failed (map line (map problem_of ps)) i [] _
    (line-at problem_of ps i _ _ refl c.loop-problem-test.true line)
    (lines-inside problem_of ps i line c.loop-problem-test.true) _ _ _ _ c.from_residual.result c.from_residual.ensures.1 c.loop-problem.invariant c.in_err-print_shown.ensures

pub returns : goal.returns
returns g c =
    let ps = c.args.problems.now in
    let line = (λ (p : Problem). shown_line c.args.values c.args.tables.now p None) in
    lines-sent (map line (map problem_of ps)) c.loop-problem.problem-index _ _ _ (lines-end problem_of ps c.loop-problem.problem-index line c.loop-problem-test.false) c.loop-problem.invariant
