use Rattle.std.proofs.Common.{◌∙◌, ap, length, arith}
use Rattle.std.specs.Prelude.{count_by, if◌then◌else◌, ◌&&◌, None, Some}
use Rattle.std.proofs.lemmas.List.{length-map}
use Rattle.gtfs_schema.specs.Codes.{is_error}
use Rattle.gtfs_schema.specs.Problems.{passes, Problem}
use Rattle.gtfs_schema.specs.ProblemTexts.{problem_of}
use Rattle.gtfs_rows.specs.ContentRead.{content_of}
use Rattle.gtfs_commands.specs.Words.{check_texts_of}
use Rattle.gtfs_cli.specs.CheckLines.{problem_lines}
use Rattle.gtfs_cli.proofs.Checked.{lines-stopped}
use Rattle.gtfs_cli.proofs.Counted.{all-counted}
use Rattle.gtfs_cli.proofs.SentLines.{lines-passed, lines-same}
use Rattle.gtfs_cli.proofs.commands.check.print_begun.Goals as goal

pub returns-in_err-print_lines-clause-sent : goal.returns-in_err-print_lines-clause-sent
returns-in_err-print_lines-clause-sent g c =
    lines-passed (problem_lines (check_texts_of c.args.words.now) c.args.tables.now c.args.report.problems) _ _ _ c.from_residual.result c.from_residual.ensures.1
    (lines-same _ _ _ _ _ (ap (problem_lines (check_texts_of c.args.words.now) c.args.tables.now) c.problems-problems.ensures.value) c.in_err-print_lines.ensures)

pub returns-in_err-draft-clause-sent : goal.returns-in_err-draft-clause-sent
returns-in_err-draft-clause-sent g c =
    lines-stopped (problem_lines (check_texts_of c.args.words.now) c.args.tables.now c.args.report.problems) _ _ _ c.from_residual-in_err-draft.result c.from_residual-in_err-draft.ensures.1
    (lines-same _ _ _ _ _ (ap (problem_lines (check_texts_of c.args.words.now) c.args.tables.now) c.problems-problems.ensures.value) c.in_ok-print_lines.ensures)

pub returns-clause-begun : goal.returns-clause-begun
returns-clause-begun g c =
    let errors = c.errors_among-errors.ensures.value ∙ ap (count_by (λ (p : Problem). is_error p.code)) c.problems-problems.ensures.value in
    record {
      errors = errors;
      warnings = omega (
        arith,
        errors,
        c.errors_among-errors.ensures.within,
        all-counted (λ (p : Problem). is_error p.code) c.args.report.problems,
        length-map c.problems-problems.result.now problem_of,
        ap length c.problems-problems.ensures.value,
      );
      feed = c.in_ok-draft.ensures ∙ ap (λ d. if c.args.words.now.advise && passes c.args.report.problems then Some (content_of d) else None) c.requires.dataset;
    }
