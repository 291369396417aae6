-- Texts that go out to an output, which may fail.
use Rattle.std.specs.Prelude.{◌≡◌, ◌≤◌, ◌⊎◌, ◌++◌, ℕ, List, [], Option, Result, IfErr, IsErrOf, OnErr, OnOk}
use Rattle.std.specs.Io.KnownBytes.{Appends}
use Rattle.std.specs.List.{flat_map}
use Rattle.gtfs_devices.specs.Device.{counted, Rises}
use Rattle.gtfs_cli.specs.Refusals.{TellsOutput}
use Rattle.gtfs_cli.specs.declared.commands.refusal.Refusal.{Refusal}
use Rattle.gtfs_cli.specs.declared.commands.refusal.Refusal.TheVariants.{OutputFailed, OutOfMemory}
pub use Rattle.gtfs_cli.specs.DevicesSeen.{Output}

-- a beginning of a text went out
pub record SendsBeginning (before after : Option (List ℕ)) (text : List ℕ) : Type 0 where
  pub sent : List ℕ
  pub left : List ℕ
  pub whole : text ≡ sent ++ left
  pub out : Appends before after sent

-- a text went out whole, or a beginning of it did and the output failed
abbrev pub Sends : Output → Output → List ℕ → Type 0
Sends before after text = Appends before.told after.told text ⊎ (SendsBeginning before.told after.told text × Rises before.failures after.failures)

-- why a text was not sent out; the counts are those of the output's failures, before and after
abbrev pub IsSendingCause : ℕ → ℕ → Refusal → Type 0
IsSendingCause before after OutputFailed = after ≡ counted before
IsSendingCause before after OutOfMemory = after ≡ before
IsSendingCause before after _ = ⊥

-- how it ends to send a text out: the whole of it went out, or a beginning of it did and the refusal says why
pub record IsSent (text : List ℕ) {T : Type 0} (before after : Output) (ended : Result T Refusal) : Type 0 where
  pub sent : OnOk ended (Appends before.told after.told text)
  pub cut_short : OnErr ended (SendsBeginning before.told after.told text)
  pub refused : IfErr ended (IsSendingCause before.failures after.failures)
  pub grows : before.failures ≤ after.failures
  pub no_failure : OnOk ended (after.failures ≡ before.failures)

-- ---- texts of which only a property is known

-- a text went out of which this is so
abbrev pub SendsSome : (List ℕ → Type 0) → Output → Output → Type 0
SendsSome Fact before after = (text : List ℕ) × Fact text × Appends before.told after.told text

-- a text is a beginning of one of which this is so
pub record Begins (Text : List ℕ → Type 0) (part : List ℕ) : Type 0 where
  pub text : List ℕ
  pub left : List ℕ
  pub is_text : Text text
  pub whole : text ≡ part ++ left

-- the texts of the first of some things, one after another: of all, of some or of none
abbrev pub AreFirst : {A : Type 0} → (A → List ℕ) → List A → List ℕ → Type 0
AreFirst {A} text_of all text = (first : List A) × (rest : List A) × (all ≡ first ++ rest) × (text ≡ flat_map text_of first)

-- lines, one after another
abbrev pub joined : List (List ℕ) → List ℕ
joined lines = flat_map (λ line. line) lines

-- the first of some lines, whole: all, some or none
abbrev pub AreWholeLines : List (List ℕ) → List ℕ → Type 0
AreWholeLines lines text = AreFirst (λ line. line) lines text

-- how it ends to send lines out: as their text does, and where memory ran out the first ones went out, whole
pub record AreSent (lines : List (List ℕ)) {T : Type 0} (before after : Output) (ended : Result T Refusal) : Type 0 where
  pub sent : IsSent (joined lines) before after ended
  pub stopped : IsErrOf ended OutOfMemory → SendsSome (AreWholeLines lines) before after

-- nothing, or a text of which this is so
abbrev pub or_none : (List ℕ → Type 0) → List ℕ → Type 0
or_none Text part = (part ≡ []) ⊎ Text part

-- what went out of a text where a refusal came: a part that was cut short where the output failed, a part that stopped where memory ran
-- out, and else nothing
abbrev pub text_left : (List ℕ → Type 0) → (List ℕ → Type 0) → List ℕ → Refusal → Type 0
text_left Cut Stopped part OutputFailed = Cut part
text_left Cut Stopped part OutOfMemory = Stopped part
text_left Cut Stopped part _ = part ≡ []

-- how it ends to print a text: the whole of it went out, or what is left of it where a refusal came, which has this cause or that of sending
pub record PrintsText (Whole Cut Stopped : List ℕ → Type 0) (Cause : Refusal → Type 0) {T : Type 0} (before after : Output) (ended : Result T Refusal) : Type 0 where
  pub printed : OnOk ended (SendsSome Whole before after)
  pub left : IfErr ended (λ refusal. SendsSome (λ part. text_left Cut Stopped part refusal) before after)
  pub refused : IfErr ended (λ refusal. Cause refusal ⊎ IsSendingCause before.failures after.failures refusal)
  pub told : IfErr ended (TellsOutput before.failures after.failures)
  pub grows : before.failures ≤ after.failures
  pub no_failure : OnOk ended (after.failures ≡ before.failures)
