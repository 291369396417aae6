-- What `gtfs serve` does: it reads a feed and a zone, and then answers the lines of its input, one after another.
use Rattle.std.specs.Prelude.{◌≡◌, ◌≤◌, ◌⊎◌, ⊤, ℕ, false, List, [], Option, Result, IfErr, OnOk}
use Rattle.gtfs_conversation.specs.Conversation.{AnswersAll, AnswersSome}
use Rattle.gtfs_conversation.specs.declared.conversation.ConversationFault.{ConversationFault}
use Rattle.gtfs_conversation.specs.declared.conversation.ConversationFault.TheVariants as faults
use Rattle.gtfs_days.specs.declared.zone.Zone.{Zone}
use Rattle.gtfs_devices.specs.Device.{counted}
use Rattle.gtfs_devices.specs.Folder.{Store}
use Rattle.gtfs_table.specs.Tables.{Dataset}
use Rattle.gtfs_schema.specs.Problems.{Passes}
use Rattle.gtfs_rows.specs.Content.{Content}
use Rattle.gtfs_rows.specs.ContentRead.{content_of}
use Rattle.gtfs_times.specs.declared.times.Times.{Times}
use Rattle.gtfs_commands.specs.Words.{ServeTexts}
use Rattle.gtfs_cli.specs.ServeAnswers.{AnswersLine, IsAnswerPart, AnswersWhole}
use Rattle.gtfs_cli.specs.FilesInFolders.{HoldsTables, HoldsZone}
use Rattle.gtfs_cli.specs.RefusalOrder.{feed, followed_by, sending, zone, Judged}
use Rattle.gtfs_cli.specs.SharedOptions.{times_of}
use Rattle.gtfs_cli.specs.CommandPlan.{Plan}
use Rattle.gtfs_cli.specs.Refusals.{TellsOutput}
use Rattle.gtfs_cli.specs.DevicesSeen.{Output as Told, Talk}
use Rattle.gtfs_cli.specs.SentText.{IsSendingCause, SendsSome}
use Rattle.gtfs_cli.specs.declared.commands.refusal.Refusal.{Refusal}
use Rattle.gtfs_cli.specs.declared.commands.refusal.Refusal.TheVariants.{InputFailed, OutputFailed}

-- ---- of a folder and a zone file

-- what answers are made of: the dataset that the folder holds and that passes, and the zone of the file
pub record ServeSetting (limit : ℕ) (held : Option Store) (asked : ServeTexts) : Type 0 where
  pub dataset : Dataset
  pub zone : Zone
  pub holds : HoldsTables limit held asked.dir dataset
  pub passes : Passes dataset
  pub holds_zone : HoldsZone limit held asked.zone zone

-- all lines of the input were answered, each before the next was asked for, and this is what went out
abbrev pub IsServed : ℕ → Option Store → Talk → ServeTexts → List ℕ → Type 0
IsServed limit held talk asked text = (s : ServeSetting limit held asked)
    × AnswersAll (AnswersLine (content_of s.dataset) s.zone (times_of asked.interpolate)) talk.told talk.before talk.after text

-- the same, where memory sufficed for each answer
abbrev pub IsWhollyServed : ℕ → Option Store → Talk → ServeTexts → List ℕ → Type 0
IsWhollyServed limit held talk asked text = (s : ServeSetting limit held asked)
    × AnswersAll (AnswersWhole (content_of s.dataset) s.zone (times_of asked.interpolate)) talk.told talk.before talk.after text

-- the first lines were answered so, until a device failed
abbrev pub IsServedUntil : ℕ → Option Store → Talk → ServeTexts → ConversationFault → List ℕ → Type 0
IsServedUntil limit held talk asked fault text = (s : ServeSetting limit held asked)
    × AnswersSome (AnswersLine (content_of s.dataset) s.zone (times_of asked.interpolate)) (IsAnswerPart (content_of s.dataset) s.zone (times_of asked.interpolate))
    talk.told talk.before talk.after fault text

-- ---- how it ends

-- what went out where a refusal came: answers, where a device failed, and else nothing, and then no line was asked for
abbrev pub ServesUntil : ℕ → Option Store → Talk → ServeTexts → List ℕ → Refusal → Type 0
ServesUntil limit held talk asked text InputFailed = IsServedUntil limit held talk asked faults.Input text
ServesUntil limit held talk asked text OutputFailed = IsServedUntil limit held talk asked faults.Output text
ServesUntil limit held talk asked text _ = (text ≡ []) × (talk.after ≡ talk.before)

-- when the input is refused
abbrev pub IsHearingCause : Talk → Refusal → Type 0
IsHearingCause talk InputFailed = talk.after.failures ≡ counted talk.before.failures
IsHearingCause talk _ = ⊥

abbrev pub hearing : Talk → Judged
hearing talk = record { Refuses = λ before after. IsHearingCause talk; Holds = ⊤ }

-- the folder and the zone file are judged in this order, and then the devices of the conversation
abbrev pub serve_judges : ℕ → Option Store → Talk → ServeTexts → Judged
serve_judges limit held talk asked = followed_by (feed limit held asked.dir) (followed_by (zone limit held asked.zone) (followed_by (hearing talk) sending))

-- answers to the lines of the input
abbrev pub serve_plan : ℕ → Option Store → Talk → ServeTexts → Plan
serve_plan limit held talk asked = record {
  judges = serve_judges limit held talk asked;
  Done = λ now text failed. (now ≡ held) × (failed ≡ false) × IsServed limit held talk asked text;
  Left = λ now text refusal. (now ≡ held) × ServesUntil limit held talk asked text refusal;
  calls = 11;
}

-- ---- what the parts of the work give

-- what went out of the answers of a feed in a zone where a refusal came
abbrev pub ConversesUntil : Content → Zone → Times → Talk → List ℕ → Refusal → Type 0
ConversesUntil f z times talk text InputFailed = AnswersSome (AnswersLine f z times) (IsAnswerPart f z times) talk.told talk.before talk.after faults.Input text
ConversesUntil f z times talk text OutputFailed = AnswersSome (AnswersLine f z times) (IsAnswerPart f z times) talk.told talk.before talk.after faults.Output text
ConversesUntil f z times talk text _ = (text ≡ []) × (talk.after ≡ talk.before)

-- how it ends to answer the lines of the input
pub record Converses (f : Content) (z : Zone) (times : Times) (talk : Talk) {T : Type 0} (before after : Told) (ended : Result T Refusal) : Type 0 where
  pub answered : OnOk ended (SendsSome (AnswersAll (AnswersLine f z times) talk.told talk.before talk.after) before after)
  pub left : IfErr ended (λ refusal. SendsSome (λ text. ConversesUntil f z times talk text refusal) before after)
  pub refused : IfErr ended (λ refusal. IsHearingCause talk refusal ⊎ IsSendingCause before.failures after.failures refusal)
  pub told : IfErr ended (TellsOutput before.failures after.failures)
  pub grows : before.failures ≤ after.failures
  pub no_failure : OnOk ended (after.failures ≡ before.failures)
