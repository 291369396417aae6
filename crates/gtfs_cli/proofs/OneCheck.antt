-- A check has one outcome.
use Rattle.std.proofs.Common.{◌≡◌, ◌∙◌, ap, sym, subst, refl, ℕ, Bool, false, List, [], Some, None, Option, codes}
use Rattle.std.specs.Prelude.{not}
use Rattle.std.proofs.lemmas.Option.{same_Some}
use Rattle.gtfs_devices.specs.Folder.{Store}
use Rattle.gtfs_table.specs.Tables.{Dataset}
use Rattle.gtfs_schema.specs.Problems.{Problem, passes, IsReport}
use Rattle.gtfs_commands.specs.Words.{CheckTexts}
use Rattle.gtfs_rules.proofs.ReportLaws.{one_report}
use Rattle.gtfs_cli.specs.CheckOptions.{judged_check, lacks_advise, needed, IsLack}
use Rattle.gtfs_cli.specs.CheckCommand.{check_judges, check_lines, check_plan, CheckSetting, IsReportOf, IsReportPart, IsSomeReport}
use Rattle.gtfs_cli.specs.FilesInFolders.{HoldsTables}
use Rattle.gtfs_cli.specs.RefusalOrder.{followed_by, sending, tables, values, Judged}
use Rattle.gtfs_cli.specs.RefusalMessages.{line_of}
use Rattle.gtfs_cli.specs.SharedOptions.{first_of_bad}
use Rattle.gtfs_cli.specs.SentText.{joined, Begins}
use Rattle.gtfs_cli.specs.declared.commands.refusal.Refusal.{Refusal}
use Rattle.gtfs_cli.specs.declared.commands.refusal.Refusal.TheVariants.{DayWithoutAdvice}
use Rattle.gtfs_cli.proofs.Checked.{none-bad-check}
use Rattle.gtfs_cli.proofs.FolderEnds.{excludes-tables, one_dataset, one-tables, quiet-tables}
use Rattle.gtfs_cli.proofs.OneOutcome.{one-printed, IsOne}
use Rattle.gtfs_cli.proofs.OneRefusal.{alike, excludes-by, excludes-chain, excludes-sending, excludes-values, one-chain, one-sending, one-values, quiet-chain, quiet-sending, quiet-values, Excludes, One, Quiet, Says}

-- ---- a day without advice

lack-says : (asked : CheckTexts) (r : Refusal) → IsLack asked r → Says r (line_of (codes "--day needs --advise") []) 2
lack-says asked DayWithoutAdvice h = (refl, refl)
lack-says asked _ h = absurd h

one-needed : (asked : CheckTexts) → One (needed asked)
one-needed asked r s g h = alike r s (line_of (codes "--day needs --advise") []) 2 (lack-says asked r g.cause) (lack-says asked s h.cause)

excludes-needed : (asked : CheckTexts) → Excludes (lacks_advise asked ≡ false) (needed asked)
excludes-needed asked none DayWithoutAdvice h = cc (sym none ∙ h.cause)
excludes-needed asked none _ h = absurd h.cause

quiet-needed : (asked : CheckTexts) → Quiet (needed asked)
quiet-needed asked h = h.cause

module _ (limit : ℕ) (store : Store) (asked : CheckTexts) where
  abbrev held : Option Store
  held = Some store

  -- ---- one report

  same-dataset : (a b : CheckSetting limit held asked) → a.dataset ≡ b.dataset
  same-dataset a b = sym (one_dataset limit store asked.dir b.dataset a.dataset b.holds a.holds)

  same-problems : (a b : CheckSetting limit held asked) → a.problems ≡ b.problems
  same-problems a b = one_report a.dataset a.problems b.problems a.is_report (subst (λ (d : Dataset). IsReport d b.problems) (sym (same-dataset a b)) b.is_report)

  same-day : (a b : CheckSetting limit held asked) → a.day ≡ b.day
  same-day a b = same_Some a.day b.day (sym a.is_day ∙ b.is_day)

  one-text : (t u : List ℕ) (f g : Bool) → IsReportOf limit held asked t f → IsReportOf limit held asked u g → (t ≡ u) × (f ≡ g)
  one-text t u f g a b =
      let ps = same-problems a.setting b.setting in
      let d = same-dataset a.setting b.setting in
      let day = same-day a.setting b.setting in
      (a.is_text ∙ (λ i. joined (check_lines asked (day i) (d i) (ps i))) ∙ sym b.is_text, a.answer ∙ ap (λ (qs : List Problem). not (passes qs)) ps ∙ sym b.answer)

  -- ---- all that is judged

  abbrev Text : Type 0
  Text = (text : List ℕ) × IsSomeReport limit held asked text

  abbrev after_values : Judged
  after_values = followed_by (tables limit held asked.dir) sending

  abbrev after_needed : Judged
  after_needed = followed_by (values (judged_check asked)) after_values

  one-folder : One after_values
  one-folder = one-chain (tables limit held asked.dir) sending (one-tables limit store asked.dir) (excludes-tables limit store asked.dir) one-sending

  one-judges : One (check_judges limit held asked)
  one-judges = one-chain (needed asked) after_needed (one-needed asked) (excludes-needed asked)
      (one-chain (values (judged_check asked)) after_values (one-values (judged_check asked)) (excludes-values (judged_check asked)) one-folder)

  excludes-judges : Excludes Text (check_judges limit held asked)
  excludes-judges = excludes-chain (needed asked) after_needed Text
      (excludes-by Text (lacks_advise asked ≡ false) (needed asked) (λ t. t.1.1.setting.is_wanted) (excludes-needed asked))
      (excludes-chain (values (judged_check asked)) after_values Text
      (excludes-by Text (first_of_bad (judged_check asked) ≡ None) (values (judged_check asked)) (λ t. none-bad-check asked t.1.1.setting.day t.1.1.setting.is_day) (excludes-values (judged_check asked)))
      (excludes-chain (tables limit held asked.dir) sending Text
      (excludes-by Text ((d : Dataset) × HoldsTables limit held asked.dir d) (tables limit held asked.dir) (λ t. (t.1.1.setting.dataset, t.1.1.setting.holds)) (excludes-tables limit store asked.dir))
      (excludes-sending Text)))

  quiet-judges : Quiet (check_judges limit held asked)
  quiet-judges = quiet-chain (needed asked) after_needed (quiet-needed asked)
      (quiet-chain (values (judged_check asked)) after_values (quiet-values (judged_check asked))
      (quiet-chain (tables limit held asked.dir) sending (quiet-tables limit store asked.dir) quiet-sending))

  pub one-check : IsOne (check_plan limit held asked) held
  one-check = one-printed held (check_judges limit held asked) (IsReportOf limit held asked) (Begins (IsSomeReport limit held asked))
      (IsReportPart limit held asked) 10 one-text one-judges (λ t f is. excludes-judges (t, (f, is))) quiet-judges
