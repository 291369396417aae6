use Rattle.std.proofs.Common.{◌∙◌, Bool, Err, inl, inr, not, refl, subst, arith}
use Rattle.std.proofs.lemmas.Result.{IfOk-weaker}
use Rattle.gtfs_table.specs.declared.tables.Tables.{Tables}
use Rattle.gtfs_schema.specs.Problems.{passes}
use Rattle.gtfs_rows.specs.ContentRead.{content_of}
use Rattle.gtfs_advice.specs.Advice.{advice}
use Rattle.gtfs_commands.specs.Words.{check_texts_of}
use Rattle.gtfs_cli.specs.CheckLines.{problem_lines}
use Rattle.gtfs_cli.specs.CheckCommand.{check_judges, check_lines, check_plan, last_lines, CheckSetting, IsReportOf, IsReportPart}
use Rattle.gtfs_cli.specs.CheckOptions.{IsUnread}
use Rattle.gtfs_cli.specs.CommandPlan.{Ends}
use Rattle.gtfs_cli.specs.ReadingCauses.{IsTablesCause}
use Rattle.gtfs_cli.specs.declared.commands.refusal.Refusal.{Refusal}
use Rattle.gtfs_cli.specs.declared.commands.refusal.Refusal.TheVariants.{OutOfMemory}
use Rattle.gtfs_cli.proofs.Checked.{folder-refused, last-lines, output-refused, unread-quiet, unread-refused}
use Rattle.gtfs_cli.proofs.Counted.{error-counted}
use Rattle.gtfs_cli.proofs.Plans.{ends-checked, err-up-check, not-failed, prints-none}
use Rattle.gtfs_cli.proofs.ReadsThen.{asks-done, asks-none}
use Rattle.gtfs_cli.proofs.SentLines.{lines-both, lines-first, lines-same}
use Rattle.gtfs_cli.proofs.commands.check.print_report.Goals as goal

pub returns-in_err-day : goal.returns-in_err-day
returns-in_err-day g c =
    let limit = g.F.Folders.limit c.args.folders.now in
    let held = g.F.Folders.held c.args.folders.now in
    let asked = check_texts_of c.args.words.now in
    let r = c.in_err-day.field-0.0 in
    let bad = c.in_err-day.ensures.refused in
    err-up-check c.from_residual.result r (Ends (check_plan limit held asked) _ _) c.from_residual.ensures.1
    (prints-none held (check_judges limit held asked) _ _ _ 10 _ _ _ r refl (λ is. unread-quiet asked (subst (λ (e : Refusal). IsUnread asked e) is bad))
    (inl (unread-refused limit held asked _ _ r bad)) {T = Bool} 0 (omega arith) (asks-none 0 _ (Err r) r refl))

pub returns-in_err-tables : goal.returns-in_err-tables
returns-in_err-tables g c =
    let limit = g.F.Folders.limit c.args.folders.now in
    let held = g.F.Folders.held c.args.folders.now in
    let asked = check_texts_of c.args.words.now in
    let r = c.in_err-tables.field-0.0 in
    let bad = c.in_err-tables.ensures.refused in
    let reads = c.in_err-tables.ensures.reads in
    err-up-check c.from_residual-in_err-tables.result r (Ends (check_plan limit held asked) _ _) c.from_residual-in_err-tables.ensures.1
    (prints-none held (check_judges limit held asked) _ _ _ 10 _ _ _ r reads.unchanged
    (λ is. subst (λ (e : Refusal). IsTablesCause limit held asked.dir (g.F.Folders.failure_count c.args.folders.now) (g.F.Folders.failure_count c.read_tables.new.folders) e) is bad)
    (inl (folder-refused limit held asked _ _ r c.in_ok-day.day c.in_ok-day.ensures.wanted c.in_ok-day.ensures.read bad)) 10 (omega arith) reads.asks)

pub returns-in_err-report : goal.returns-in_err-report
returns-in_err-report g c =
    let limit = g.F.Folders.limit c.args.folders.now in
    let held = g.F.Folders.held c.args.folders.now in
    let asked = check_texts_of c.args.words.now in
    let reads = c.in_ok-tables.ensures.reads in
    err-up-check c.from_residual-in_err-report.result OutOfMemory (Ends (check_plan limit held asked) _ _) c.from_residual-in_err-report.ensures.1
    (prints-none held (check_judges limit held asked) _ _ _ 10 _ _ _ OutOfMemory reads.unchanged (not-failed OutOfMemory refl)
    (inr (refl, (reads.asks.no_failure, refl))) {T = Tables} 10 (omega arith) (asks-done 10 _ _ c.in_ok-tables.tables (Err OutOfMemory) reads.asks))

pub returns-in_err-begun : goal.returns-in_err-begun
returns-in_err-begun g c =
    let limit = g.F.Folders.limit c.args.folders.now in
    let held = g.F.Folders.held c.args.folders.now in
    let asked = check_texts_of c.args.words.now in
    let day = c.in_ok-day.day in
    let d = c.in_ok-tables.tables in
    let ps = c.in_ok-report.report.problems in
    let reads = c.in_ok-tables.ensures.reads in
    let holds = c.in_ok-tables.ensures.whole in
    let wanted = c.in_ok-day.ensures.wanted in
    let is_day = c.in_ok-day.ensures.read in
    let r = c.in_err-begun.field-0.0 in
    let setting : CheckSetting limit held asked = record {
      day = day;
      dataset = d;
      problems = ps;
      is_wanted = wanted;
      is_day = is_day;
      holds = holds;
      is_report = c.in_ok-report.ensures.report;
    } in
    err-up-check c.from_residual-in_err-begun.result r (Ends (check_plan limit held asked) _ _) c.from_residual-in_err-begun.ensures.1
    (ends-checked _ _ _ _ (check_judges limit held asked) (IsReportOf limit held asked) (IsReportPart limit held asked) (check_lines asked day d ps) 10 reads.unchanged
    (λ e cause. inl (output-refused limit held asked _ _ e day wanted is_day d holds cause)) (not (passes ps)) (record { setting = setting; is_text = refl; answer = refl })
    (λ t first. (setting, first)) (Err r) tt (asks-done 10 _ _ d (Err r) reads.asks)
    (lines-first (problem_lines asked d ps) (last_lines asked ps (advice (content_of d) day)) _ _ r (Err r) refl c.in_err-begun.ensures.sent))

pub returns : goal.returns
returns g c =
    let limit = g.F.Folders.limit c.args.folders.now in
    let held = g.F.Folders.held c.args.folders.now in
    let asked = check_texts_of c.args.words.now in
    let day = c.in_ok-day.day in
    let d = c.in_ok-tables.tables in
    let ps = c.in_ok-report.report.problems in
    let reads = c.in_ok-tables.ensures.reads in
    let holds = c.in_ok-tables.ensures.whole in
    let wanted = c.in_ok-day.ensures.wanted in
    let is_day = c.in_ok-day.ensures.read in
    let begun = c.in_ok-begun.ensures.begun in
    let setting : CheckSetting limit held asked = record {
      day = day;
      dataset = d;
      problems = ps;
      is_wanted = wanted;
      is_day = is_day;
      holds = holds;
      is_report = c.in_ok-report.ensures.report;
    } in
    ends-checked _ _ _ _ (check_judges limit held asked) (IsReportOf limit held asked) (IsReportPart limit held asked) (check_lines asked day d ps) 10 reads.unchanged
    (λ e cause. inl (output-refused limit held asked _ _ e day wanted is_day d holds cause)) (not (passes ps)) (record { setting = setting; is_text = refl; answer = refl })
    (λ t first. (setting, first)) c.print_rest.result
    (IfOk-weaker c.print_rest.result _ _ (λ failed is. is ∙ error-counted ps c.in_ok-begun.begun.errors begun.errors) c.print_rest.ensures.answer)
    (asks-done 10 _ _ d c.print_rest.result reads.asks)
    (lines-both (problem_lines asked d ps) (last_lines asked ps (advice (content_of d) day)) _ _ _ c.in_ok-begun.begun c.print_rest.result c.in_ok-begun.ensures.sent
    (lines-same _ _ _ _ _ (last-lines asked d ps day c.in_ok-begun.begun.errors c.in_ok-begun.begun.warnings begun.errors begun.warnings _ begun.feed) c.print_rest.ensures.sent))
