-- The words of this crate's clauses, in the order in which a reader meets them: of each what it means, and where it is
-- defined. A reader starts here, and reads on in the file of a word.

-- ---- `read_words`: how the program is called, as `clap` is told

-- the program with its six commands
pub use Rattle.gtfs_commands.specs.CommandLine.{gtfs_app}
-- `check`, its folder and its options
pub use Rattle.gtfs_commands.specs.CommandLine.{check_app}
-- `board`, its folder and its options
pub use Rattle.gtfs_commands.specs.CommandLine.{board_app}
-- `boards`, its folder and its options
pub use Rattle.gtfs_commands.specs.CommandLine.{boards_app}
-- `serve`, its folder and its options
pub use Rattle.gtfs_commands.specs.CommandLine.{serve_app}
-- `timetable`, its folder and its options
pub use Rattle.gtfs_commands.specs.CommandLine.{timetable_app}
-- `merge`, its three folders and its options
pub use Rattle.gtfs_commands.specs.CommandLine.{merge_app}
-- ---- the texts that are given to a command

-- words that `clap` takes ask for this command, with its texts
pub use Rattle.gtfs_commands.specs.AskedTexts.{IsCommandOf}
-- the texts of `check`, of which a day may be missing, and its flags
pub use Rattle.gtfs_commands.specs.AskedTexts.{CheckTexts}
-- the same of the command that the code has
pub use Rattle.gtfs_commands.specs.AskedTexts.{check_texts_of}
-- each of them is the text that was given for it
pub use Rattle.gtfs_commands.specs.AskedTexts.{GivesCheck}
-- the texts of `board`: a limit and a key may be missing, and a flag says whether times are filled
pub use Rattle.gtfs_commands.specs.AskedTexts.{BoardTexts}
-- the same of the command that the code has
pub use Rattle.gtfs_commands.specs.AskedTexts.{texts_of}
-- each of them is the text that was given for it
pub use Rattle.gtfs_commands.specs.AskedTexts.{GivesBoard}
-- the texts of `boards`, and its flag
pub use Rattle.gtfs_commands.specs.AskedTexts.{BoardsTexts}
-- the same of the command that the code has
pub use Rattle.gtfs_commands.specs.AskedTexts.{boards_texts_of}
-- each of them is the text that was given for it
pub use Rattle.gtfs_commands.specs.AskedTexts.{GivesBoards}
-- the texts of `serve`, and its flag
pub use Rattle.gtfs_commands.specs.AskedTexts.{ServeTexts}
-- the same of the command that the code has
pub use Rattle.gtfs_commands.specs.AskedTexts.{serve_texts_of}
-- each of them is the text that was given for it
pub use Rattle.gtfs_commands.specs.AskedTexts.{GivesServe}
-- the texts of `timetable`, of which a direction may be missing, and its flag
pub use Rattle.gtfs_commands.specs.AskedTexts.{TimetableTexts}
-- the same of the command that the code has
pub use Rattle.gtfs_commands.specs.AskedTexts.{timetable_texts_of}
-- each of them is the text that was given for it
pub use Rattle.gtfs_commands.specs.AskedTexts.{GivesTimetable}
-- the texts of `merge`, of which a distance and a cutoff may be missing
pub use Rattle.gtfs_commands.specs.AskedTexts.{MergeTexts}
-- the same of the command that the code has
pub use Rattle.gtfs_commands.specs.AskedTexts.{merge_texts_of}
-- each of them is the text that was given for it
pub use Rattle.gtfs_commands.specs.AskedTexts.{GivesMerge}
-- ---- `words_ask_for_one`: which words ask for which command

-- `clap` takes the words, and they ask for the check of these texts
pub use Rattle.gtfs_commands.specs.AskedTexts.{AsksCheckOf}
-- the same of the board of these texts
pub use Rattle.gtfs_commands.specs.AskedTexts.{AsksBoardOf}
-- the same of the boards of these texts
pub use Rattle.gtfs_commands.specs.AskedTexts.{AsksBoardsOf}
-- the same of serving with these texts
pub use Rattle.gtfs_commands.specs.AskedTexts.{AsksServeOf}
-- the same of the timetable of these texts
pub use Rattle.gtfs_commands.specs.AskedTexts.{AsksTimetableOf}
-- the same of the merge of these texts
pub use Rattle.gtfs_commands.specs.AskedTexts.{AsksMergeOf}
-- ---- words that `clap` does not take

-- the fault that the words get
pub use Rattle.gtfs_commands.specs.HelpAndRefusals.{IsFaultOf}
-- they ask for help
pub use Rattle.gtfs_commands.specs.HelpAndRefusals.{AreForHelp}
-- they ask for the version
pub use Rattle.gtfs_commands.specs.HelpAndRefusals.{AreForVersion}
-- they ask for one of the two
pub use Rattle.gtfs_commands.specs.HelpAndRefusals.{AreForHelpOrVersion}
-- they ask for neither, and are refused
pub use Rattle.gtfs_commands.specs.HelpAndRefusals.{AreRefused}
-- the fault where memory ran out
pub use Rattle.gtfs_commands.specs.HelpAndRefusals.{no_memory}
