-- Words that `clap` does not take: what is told of them, which is its text, as it came, and once, and what is then done.
use Rattle.std.specs.Prelude.{◌≡◌, ℕ, Bool, List, Option, None, Some, Result, Err, string_bytes, ⊤}
use Rattle.clap.specs.Words.{Text}
use Rattle.gtfs_devices.specs.Folder.{Store}
use Rattle.gtfs_commands.specs.Words.{AreForHelpOrVersion, AreRefused, IsFaultOf}
use Rattle.gtfs_commands.specs.declared.fault.WordsFault.{WordsFault}
use Rattle.gtfs_commands.specs.declared.fault.WordsFault.TheVariants.{Help, OutOfMemory, Refused, Version}
use Rattle.gtfs_cli.specs.CommandPlan.{passed, prints, Plan}
use Rattle.gtfs_cli.specs.RefusalOrder.{followed_by, sending, Judged}
use Rattle.gtfs_cli.specs.SentText.{Begins}
use Rattle.gtfs_cli.specs.declared.commands.refusal.Refusal.{Refusal}
use Rattle.gtfs_cli.specs.declared.commands.refusal.Refusal.TheVariants.{Words}

-- the text for the output: of the help or the version that was asked for
abbrev pub text_for_output : WordsFault → Option (List ℕ)
text_for_output (Help text) = Some (string_bytes text)
text_for_output (Version text) = Some (string_bytes text)
text_for_output (Refused text) = None
text_for_output OutOfMemory = None

-- words that are refused are so by the text of their fault
abbrev pub AnswersRefused : WordsFault → Result Bool Refusal → Type 0
AnswersRefused (Refused text) answer = answer ≡ Err (Words text)
AnswersRefused (Help text) answer = ⊤
AnswersRefused (Version text) answer = ⊤
AnswersRefused OutOfMemory answer = ⊤

-- ---- what is done

-- words that are refused are so by `clap`'s text
abbrev pub IsWordsCause : List Text → Refusal → Type 0
IsWordsCause words (Words text) = AreRefused words
IsWordsCause words _ = ⊥

abbrev pub usage : List Text → Judged
usage words = record { Refuses = λ before after. IsWordsCause words; Holds = ⊤ }

-- the text of the help or of the version that was asked for
pub record IsAnswer (words : List Text) (text : List ℕ) : Type 0 where
  pub fault : WordsFault
  pub asked : AreForHelpOrVersion words
  pub is_fault : IsFaultOf words fault
  pub is_text : text_for_output fault ≡ Some text

-- help or the version is printed, and no call of the folders is made
abbrev pub words_plan : Option Store → List Text → Plan
words_plan held words = prints held (followed_by (usage words) sending) (passed (IsAnswer words)) (Begins (IsAnswer words)) (Begins (IsAnswer words)) 0
