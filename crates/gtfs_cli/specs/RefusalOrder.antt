-- What a command judges before it is done, one thing after another: the first that is refused is told.
use Rattle.std.specs.Prelude.{◌≡◌, ◌⊎◌, ⊤, ℕ, Bool, List, Option, None, Some}
use Rattle.clap.specs.Words.{Text}
use Rattle.gtfs_devices.specs.Folder.{Store}
use Rattle.gtfs_table.specs.Tables.{Dataset}
use Rattle.gtfs_cli.specs.Failures.{Failures}
use Rattle.gtfs_cli.specs.FilesInFolders.{HoldsSomeZone, HoldsPassing, HoldsTables}
use Rattle.gtfs_cli.specs.ReadingCauses.{IsZoneCause, IsReadingCause, IsTablesCause}
use Rattle.gtfs_cli.specs.SharedOptions.{first_of_bad}
use Rattle.gtfs_cli.specs.SentText.{IsSendingCause}
use Rattle.gtfs_cli.specs.declared.commands.refusal.Refusal.{Refusal}
use Rattle.gtfs_cli.specs.declared.commands.refusal.Refusal.TheVariants.{BadValue}

-- one thing that is judged: when it is refused, by the counts of failures before and after, and what is so where it is not
pub record Judged : Type 1 where
  pub Refuses : Failures → Failures → Refusal → Type 0
  pub Holds : Type 0

-- one thing, and then another
abbrev pub followed_by : Judged → Judged → Judged
followed_by first second = record {
  Refuses = λ before after refusal. first.Refuses before after refusal ⊎ (first.Holds × second.Refuses before after refusal);
  Holds = first.Holds × second.Holds;
}

-- the refusal names the first option that has no value
abbrev pub IsFirstBad : List (Text × Bool) → Refusal → Type 0
IsFirstBad options (BadValue option) = first_of_bad options ≡ Some option.now
IsFirstBad options _ = ⊥

-- the values of options, in the order of the usage
abbrev pub values : List (Text × Bool) → Judged
values options = record { Refuses = λ before after. IsFirstBad options; Holds = first_of_bad options ≡ None }

-- the folder of a feed, of which only the tables are wanted
abbrev pub tables : ℕ → Option Store → List ℕ → Judged
tables limit held dir = record {
  Refuses = λ before after. IsTablesCause limit held dir before.folders after.folders;
  Holds = (d : Dataset) × HoldsTables limit held dir d;
}

-- the folder of a feed, which has to pass
abbrev pub feed : ℕ → Option Store → List ℕ → Judged
feed limit held dir = record {
  Refuses = λ before after. IsReadingCause limit held dir before.folders after.folders;
  Holds = HoldsPassing limit held dir;
}

-- a zone file
abbrev pub zone : ℕ → Option Store → List ℕ → Judged
zone limit held path = record {
  Refuses = λ before after. IsZoneCause limit held path before.folders after.folders;
  Holds = HoldsSomeZone limit held path;
}

-- the output, to which all goes out
abbrev pub sending : Judged
sending = record { Refuses = λ before after. IsSendingCause before.output after.output; Holds = ⊤ }
