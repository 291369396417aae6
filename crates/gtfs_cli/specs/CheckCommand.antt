-- What `gtfs check` prints, and what it answers.
use Rattle.std.specs.Prelude.{◌≡◌, ◌&&◌, ℕ, Bool, false, not, if◌then◌else◌, List, [], ◌∷◌, ◌++◌, length, ℤ, Option, Some}
use Rattle.gtfs_devices.specs.Folder.{Store}
use Rattle.gtfs_table.specs.Tables.{Dataset}
use Rattle.gtfs_schema.specs.Problems.{Problem, passes, IsReport}
use Rattle.gtfs_rows.specs.ContentRead.{content_of}
use Rattle.gtfs_rules.specs.Report.{counts_line}
use Rattle.gtfs_advice.specs.Advice.{advice, About}
use Rattle.gtfs_advice.specs.declared.code.Code.{Code}
use Rattle.gtfs_commands.specs.Words.{CheckTexts}
use Rattle.gtfs_cli.specs.AdviceLines.{advice_lines, advised_line}
use Rattle.gtfs_cli.specs.CheckLines.{problem_lines}
use Rattle.gtfs_cli.specs.CheckOptions.{judged_check, lacks_advise, needed}
use Rattle.gtfs_cli.specs.FilesInFolders.{HoldsTables}
use Rattle.gtfs_cli.specs.RefusalOrder.{followed_by, sending, tables, values, Judged}
use Rattle.gtfs_cli.specs.SharedOptions.{day_if_given}
use Rattle.gtfs_cli.specs.CommandPlan.{prints, Plan}
use Rattle.gtfs_cli.specs.SentText.{joined, AreWholeLines, Begins}

-- ---- the lines

-- the advice on a dataset without errors, where that is asked for, and the last line
abbrev pub last_lines : CheckTexts → List Problem → List (Code × About) → List (List ℕ)
last_lines asked ps told =
    if asked.advise && passes ps then advice_lines asked.summary told ++ advised_line ps (length told) ∷ [] else counts_line ps ∷ []

-- all lines of a check on a day
abbrev pub check_lines : CheckTexts → Option ℤ → Dataset → List Problem → List (List ℕ)
check_lines asked day d ps = problem_lines asked d ps ++ last_lines asked ps (advice (content_of d) day)

-- ---- a folder

-- the day that is given, with advice alone, the dataset that the folder holds, and the report of it
pub record CheckSetting (limit : ℕ) (held : Option Store) (asked : CheckTexts) : Type 0 where
  pub day : Option ℤ
  pub dataset : Dataset
  pub problems : List Problem
  pub is_wanted : lacks_advise asked ≡ false
  pub is_day : day_if_given asked.day ≡ Some day
  pub holds : HoldsTables limit held asked.dir dataset
  pub is_report : IsReport dataset problems

abbrev pub lines_of_check : {limit : ℕ} {held : Option Store} → (asked : CheckTexts) → CheckSetting limit held asked → List (List ℕ)
lines_of_check asked s = check_lines asked s.day s.dataset s.problems

-- the text of that report, and whether one of its problems is an error
pub record IsReportOf (limit : ℕ) (held : Option Store) (asked : CheckTexts) (text : List ℕ) (failed : Bool) : Type 0 where
  pub setting : CheckSetting limit held asked
  pub is_text : text ≡ joined (lines_of_check asked setting)
  pub answer : failed ≡ not (passes setting.problems)

-- that report, whatever its problems are
abbrev pub IsSomeReport : ℕ → Option Store → CheckTexts → List ℕ → Type 0
IsSomeReport limit held asked text = (failed : Bool) × IsReportOf limit held asked text failed

-- the first lines of it, whole
abbrev pub IsReportPart : ℕ → Option Store → CheckTexts → List ℕ → Type 0
IsReportPart limit held asked text = (s : CheckSetting limit held asked) × AreWholeLines (lines_of_check asked s) text

-- the options, and then the folder
abbrev pub check_judges : ℕ → Option Store → CheckTexts → Judged
check_judges limit held asked =
    followed_by (needed asked) (followed_by (values (judged_check asked)) (followed_by (tables limit held asked.dir) sending))

-- the check of a folder
abbrev pub check_plan : ℕ → Option Store → CheckTexts → Plan
check_plan limit held asked = prints held (check_judges limit held asked) (IsReportOf limit held asked)
    (Begins (IsSomeReport limit held asked)) (IsReportPart limit held asked) 10
