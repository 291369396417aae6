-- Words that `clap` does not take: they ask for help or for the version, or they are refused.
use Rattle.std.specs.Prelude.{◌≡◌, ◌≢◌, ◌⊎◌, List, [], ◌∷◌, false}
use Rattle.clap.specs.Words.{Text, fault_of, takes}
use Rattle.clap.specs.declared.error.kind.ErrorKind.{ErrorKind}
use Rattle.clap.specs.declared.error.kind.ErrorKind.TheVariants.{DisplayHelp, DisplayVersion}
use Rattle.clap.specs.declared.error.kind.ErrorKind.TheVariants as kinds
use Rattle.gtfs_commands.specs.CommandLine.{gtfs_app}
use Rattle.gtfs_commands.specs.declared.fault.WordsFault.{WordsFault}
use Rattle.gtfs_commands.specs.declared.fault.WordsFault.TheVariants.{Refused, Help, Version, OutOfMemory}

-- what `clap` has to say of the words first is that they ask for help
abbrev pub AsksForHelp : List Text → Type 0
AsksForHelp words = fault_of gtfs_app words ≡ DisplayHelp ∷ []

-- that they ask for the version
abbrev pub AsksForVersion : List Text → Type 0
AsksForVersion words = fault_of gtfs_app words ≡ DisplayVersion ∷ []

-- `clap` does not take the words, since they ask for help
abbrev pub AreForHelp : List Text → Type 0
AreForHelp words = (takes gtfs_app words ≡ false) × AsksForHelp words

-- since they ask for the version
abbrev pub AreForVersion : List Text → Type 0
AreForVersion words = (takes gtfs_app words ≡ false) × AsksForVersion words

-- since they ask for one of the two
abbrev pub AreForHelpOrVersion : List Text → Type 0
AreForHelpOrVersion words = AreForHelp words ⊎ AreForVersion words

-- it does not take them, since something else is the matter with them
pub record AreRefused (words : List Text) : Type 0 where
  pub untaken : takes gtfs_app words ≡ false
  pub no_help : AsksForHelp words → ⊥
  pub no_version : AsksForVersion words → ⊥

abbrev pub no_memory : WordsFault
no_memory = OutOfMemory

-- the fault for an error of `clap` of this kind
abbrev pub IsToldOf : ErrorKind → WordsFault → Type 0
IsToldOf kind (Refused text) = (kind ≢ DisplayHelp) × ((kind ≢ DisplayVersion) × (kind ≢ kinds.OutOfMemory))
IsToldOf kind (Help text) = kind ≡ DisplayHelp
IsToldOf kind (Version text) = kind ≡ DisplayVersion
IsToldOf kind OutOfMemory = Unit {0}

-- the fault for words that `clap` does not take
abbrev pub IsFaultOf : List Text → WordsFault → Type 0
IsFaultOf words (Refused text) = AreRefused words
IsFaultOf words (Help text) = AreForHelp words
IsFaultOf words (Version text) = AreForVersion words
IsFaultOf words OutOfMemory = Unit {0}
