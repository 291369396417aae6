-- What a run sees of its folders and its outputs, and what it leaves: of each, one record.
use Rattle.std.specs.Prelude.{ℕ, List, [], Option, None, Some}
use Rattle.gtfs_conversation.specs.Conversation.{Hearing}
use Rattle.gtfs_devices.specs.Device.{Calls}
use Rattle.gtfs_devices.specs.Folder.{Store}

-- folders: the most bytes of a file that they read, what they hold, how often they failed, and their calls
pub record Device : Type 0 where
  pub limit : ℕ
  pub held : Option Store
  pub failures : ℕ
  pub calls : Option Calls

-- an output: what went out, and how often it failed
pub record Output : Type 0 where
  pub told : Option (List ℕ)
  pub failures : ℕ

-- the folders and the output of a command
pub record Devices : Type 0 where
  pub folders : Device
  pub output : Output

-- a conversation: what had gone out before it, and the input before and after it
pub record Talk : Type 0 where
  pub told : Option (List ℕ)
  pub before : Hearing
  pub after : Hearing

-- an input without lines, which is never asked for one
abbrev pub no_lines : Hearing
no_lines = record { waiting = Some []; asked = None; failures = 0 }
