-- What words ask for, and what is then done.
use Rattle.std.specs.Prelude.{◌≡◌, ⊤, ℕ, false, List, Option}
use Rattle.clap.specs.Words.{Text, takes}
use Rattle.gtfs_devices.specs.Folder.{Store}
use Rattle.gtfs_commands.specs.Words.{gtfs_app, AsksBoardOf, AsksBoardsOf, AsksCheckOf, AsksMergeOf, AsksServeOf, AsksTimetableOf, BoardTexts, BoardsTexts, CheckTexts, MergeTexts, ServeTexts, TimetableTexts}
use Rattle.gtfs_cli.specs.BoardCommand.{board_plan}
use Rattle.gtfs_cli.specs.CheckCommand.{check_plan}
use Rattle.gtfs_cli.specs.BoardsCommand.{boards_plan}
use Rattle.gtfs_cli.specs.MergeCommand.{merge_plan}
use Rattle.gtfs_cli.specs.CommandPlan.{Plan}
use Rattle.gtfs_cli.specs.DevicesSeen.{Talk}
use Rattle.gtfs_cli.specs.ServeCommand.{serve_plan}
use Rattle.gtfs_cli.specs.TimetableCommand.{timetable_plan}
use Rattle.gtfs_cli.specs.UntakenWords.{words_plan}

-- a command with the texts that are given to it, or words that `clap` does not take: they ask for help or for the version, or are refused
pub data Asked : Type 0 where
  Check : CheckTexts → Asked
  Board : BoardTexts → Asked
  Boards : BoardsTexts → Asked
  Serve : ServeTexts → Asked
  Timetable : TimetableTexts → Asked
  Merge : MergeTexts → Asked
  Untaken : Asked

-- the words ask for it
abbrev pub Asks : List Text → Asked → Type 0
Asks words (Check texts) = AsksCheckOf words texts
Asks words (Board texts) = AsksBoardOf words texts
Asks words (Boards texts) = AsksBoardsOf words texts
Asks words (Serve texts) = AsksServeOf words texts
Asks words (Timetable texts) = AsksTimetableOf words texts
Asks words (Merge texts) = AsksMergeOf words texts
Asks words Untaken = takes gtfs_app words ≡ false

-- ---- what is done

-- what is asked for, over folders that read files up to a limit and hold this, in a conversation, in which only `serve` takes part
abbrev pub plan_of : ℕ → Option Store → Talk → List Text → Asked → Plan
plan_of limit held talk words (Check texts) = check_plan limit held texts
plan_of limit held talk words (Board texts) = board_plan limit held texts
plan_of limit held talk words (Boards texts) = boards_plan limit held texts
plan_of limit held talk words (Serve texts) = serve_plan limit held talk texts
plan_of limit held talk words (Timetable texts) = timetable_plan limit held texts
plan_of limit held talk words (Merge texts) = merge_plan limit held texts
plan_of limit held talk words Untaken = words_plan held words

-- it is another command than `serve`, or none, so no line of the input is asked for
abbrev pub HearsNothing : Asked → Type 0
HearsNothing (Serve texts) = ⊥
HearsNothing _ = ⊤
