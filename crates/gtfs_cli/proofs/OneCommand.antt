-- Each command has one outcome.
use Rattle.std.proofs.Common.{◌≡◌, ℕ, true, true≢false, List, Some, sym, ◌∙◌}
use Rattle.clap.specs.Words.{Text, takes}
use Rattle.gtfs_devices.specs.Folder.{Store}
use Rattle.gtfs_commands.specs.Words.{gtfs_app}
use Rattle.gtfs_cli.specs.AskedCommand.{plan_of, Asked, Asks, HearsNothing, Board, Boards, Check, Merge, Serve, Timetable, Untaken}
use Rattle.gtfs_cli.specs.DevicesSeen.{Talk}
use Rattle.gtfs_cli.proofs.OneBoard.{one-board}
use Rattle.gtfs_cli.proofs.OneBoards.{one-boards}
use Rattle.gtfs_cli.proofs.OneCheck.{one-check}
use Rattle.gtfs_cli.proofs.OneMerge.{one-merge}
use Rattle.gtfs_cli.proofs.OneOutcome.{IsOne}
use Rattle.gtfs_cli.proofs.OneTimetable.{one-timetable}

pub one-command : (limit : ℕ) (store : Store) (talk : Talk) (words : List Text) (asked : Asked) → takes gtfs_app words ≡ true → Asks words asked → HearsNothing asked
    → IsOne (plan_of limit (Some store) talk words asked) (Some store)
one-command limit store talk words (Check texts) taken asks quiet = one-check limit store texts
one-command limit store talk words (Board texts) taken asks quiet = one-board limit store texts
one-command limit store talk words (Boards texts) taken asks quiet = one-boards limit store texts
one-command limit store talk words (Timetable texts) taken asks quiet = one-timetable limit store texts
one-command limit store talk words (Merge texts) taken asks quiet = one-merge limit store texts
one-command limit store talk words (Serve texts) taken asks quiet = absurd quiet
one-command limit store talk words Untaken taken asks quiet = absurd (true≢false (sym taken ∙ asks))
