-- The words of this crate's clauses, in the order in which a reader meets them: of each what it means, and where it is
-- defined. A reader starts here, and reads on in the file of a word.

-- ---- `run`: what words ask for

-- how the program is called, as `clap` is told
pub use Rattle.gtfs_commands.specs.CommandLine.{gtfs_app}
-- a command with the texts that are given to it, or words that `clap` does not take
pub use Rattle.gtfs_cli.specs.AskedCommand.{Asked}
-- the words ask for it
pub use Rattle.gtfs_cli.specs.AskedCommand.{Asks}
-- what is given to `serve`
pub use Rattle.gtfs_commands.specs.AskedTexts.{ServeTexts}
-- ---- `run`: what is done, and how it ends

-- a conversation: what had gone out before it, and the input before and after it
pub use Rattle.gtfs_cli.specs.DevicesSeen.{Talk}
-- an input without lines, which is never asked for one
pub use Rattle.gtfs_cli.specs.DevicesSeen.{no_lines}
-- it is another command than `serve`, or none, so no line of the input is asked for
pub use Rattle.gtfs_cli.specs.AskedCommand.{HearsNothing}
-- what is then judged, in which order, what is printed and written, and how many calls of the folders are made
pub use Rattle.gtfs_cli.specs.AskedCommand.{plan_of}
-- the folders and the output, as a run sees them and leaves them
pub use Rattle.gtfs_cli.specs.DevicesSeen.{Devices}
-- what went out to an output, and how often it failed
pub use Rattle.gtfs_cli.specs.DevicesSeen.{Output}
-- all was done, or the first refusal came with what is left then; the status and the error output tell which
pub use Rattle.gtfs_cli.specs.CommandPlan.{IsRun}
-- neither the folders nor the output failed
pub use Rattle.gtfs_cli.specs.Failures.{FailedNowhere}
-- folders by their names, each the bytes of its files by their names
pub use Rattle.gtfs_devices.specs.Folder.{Store}
-- ---- `tell` and `close`: after the run

-- the status of a fault that kept the program from running
pub use Rattle.gtfs_cli.specs.WordFaults.{fault_status}
-- the line that the error output gets for it
pub use Rattle.gtfs_cli.specs.WordFaults.{fault_line}
-- a text went out whole, or the output failed after a beginning of it
pub use Rattle.gtfs_cli.specs.SentText.{Sends}
-- a count of failures after one more
pub use Rattle.gtfs_devices.specs.Device.{counted}
-- ---- the laws of runs: which outcome a command has where nothing fails

-- what the folders hold, what is printed, the line of the error output, and the status
pub use Rattle.gtfs_cli.specs.CommandOutcomes.{Outcome}
-- the outcome of a plan
pub use Rattle.gtfs_cli.specs.CommandOutcomes.{IsOutcome}
-- the folders and the output did not fail, and memory sufficed
pub use Rattle.gtfs_cli.specs.CommandOutcomes.{IsUnhindered}
-- all lines of an input were answered, one after another, and memory sufficed for each answer
pub use Rattle.gtfs_cli.specs.ServeCommand.{IsWhollyServed}
-- a run ended with an outcome that has a property
pub use Rattle.gtfs_cli.specs.CommandOutcomes.{EndsAsOne}
