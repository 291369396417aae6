-- A command has one outcome where its devices work and memory suffices, and ends with it.
use Rattle.std.proofs.Common.{◌≡◌, ◌≢◌, ◌⊎◌, ◌∙◌, ap, sym, refl, subst, inl, inr, ℕ, Bool, List, [], Option, Result, Ok, Err}
use Rattle.std.specs.Prelude.{cond}
use Rattle.std.specs.Io.KnownBytes.{Appends, Keeps}
use Rattle.gtfs_devices.specs.Folder.{Store}
use Rattle.gtfs_cli.specs.Failures.{FailedNowhere}
use Rattle.gtfs_cli.specs.RefusalOrder.{Judged}
use Rattle.gtfs_cli.specs.RefusalMessages.{message}
use Rattle.gtfs_cli.specs.CommandOutcomes.{EndsAsOne, IsOutcome, IsPlainRefusal, IsUnhindered, Outcome}
use Rattle.gtfs_cli.specs.CommandPlan.{failures_of, prints, Ends, IsRun, Plan, TellsEnd}
use Rattle.gtfs_cli.specs.Refusals.{status_in, status_of}
use Rattle.gtfs_cli.specs.DevicesSeen.{Devices, Output}
use Rattle.gtfs_cli.specs.SentText.{or_none, text_left, Sends}
use Rattle.gtfs_cli.specs.declared.commands.refusal.Refusal.{Refusal}
use Rattle.gtfs_cli.specs.declared.commands.refusal.Refusal.TheVariants.{OutputFailed, OutOfMemory}
use Rattle.gtfs_cli.proofs.OneRefusal.{One, Quiet}
use Rattle.gtfs_cli.proofs.Parts.{appends-nothing}

-- what is done is one thing, what is refused is told in one way, nothing that is done is refused, and a refusal leaves all as it was
pub record IsOne (plan : Plan) (held : Option Store) : Type 0 where
  pub done : (now later : Option Store) (t u : List ℕ) (f g : Bool) → plan.Done now t f → plan.Done later u g → (now ≡ later) × (t ≡ u) × (f ≡ g)
  pub refusal : One plan.judges
  pub apart : (now : Option Store) (t : List ℕ) (f : Bool) → plan.Done now t f → (r : Refusal) → IsPlainRefusal plan.judges r → ⊥
  pub nothing : (now : Option Store) (part : List ℕ) (r : Refusal) → IsPlainRefusal plan.judges r → plan.Left now part r → (now ≡ held) × (part ≡ [])

-- that of a command that prints a text
pub one-printed : (held : Option Store) (judges : Judged) (Text : List ℕ → Bool → Type 0) (Cut Stopped : List ℕ → Type 0) (calls : ℕ)
    → ((t u : List ℕ) (f g : Bool) → Text t f → Text u g → (t ≡ u) × (f ≡ g)) → One judges → ((t : List ℕ) (f : Bool) → Text t f → (r : Refusal) → IsPlainRefusal judges r → ⊥)
    → Quiet judges → IsOne (prints held judges Text Cut Stopped calls) held
one-printed held judges Text Cut Stopped calls text one apart quiet = record {
  done = λ now later t u f g a b. let same = text t u f g a.1 b.1 in (a.0 ∙ sym b.0, same.0, same.1);
  refusal = one;
  apart = λ now t f a r h. apart t f a.1 r h;
  nothing = λ now part r h left. (left.0, none part r h left.1);
}
  where
    none : (part : List ℕ) (r : Refusal) → IsPlainRefusal judges r → text_left Cut (or_none Stopped) part r → part ≡ []
    none part OutputFailed h left = absurd (quiet h)
    none part OutOfMemory h left = absurd (h.enough refl)
    none part _ h left = left

module _ (plan : Plan) (held : Option Store) (law : IsOne plan held) where
  same-outcome : (x y : Outcome) → x.folders ≡ y.folders → x.text ≡ y.text → x.told ≡ y.told → x.status ≡ y.status → x ≡ y
  same-outcome x y folders text told status = λ i. record { folders = folders i; text = text i; told = told i; status = status i }

  pub one-outcome : (x y : Outcome) → IsOutcome plan held x → IsOutcome plan held y → x ≡ y
  one-outcome x y (inl a) (inl b) =
      let same = law.done x.folders y.folders x.text y.text a.failed b.failed a.done b.done in
      same-outcome x y same.0 same.1 (a.told ∙ sym b.told) (a.status ∙ ap (λ (f : Bool). cond {A = ℕ} f 1 0) same.2 ∙ sym b.status)
  one-outcome x y (inl a) (inr b) = absurd (law.apart x.folders x.text a.failed a.done b.refusal b.is_refusal)
  one-outcome x y (inr a) (inl b) = absurd (law.apart y.folders y.text b.failed b.done a.refusal a.is_refusal)
  one-outcome x y (inr a) (inr b) =
      let same = law.refusal a.refusal b.refusal a.is_refusal b.is_refusal in
      same-outcome x y (a.folders ∙ sym b.folders) (a.text ∙ sym b.text) (a.told ∙ same.0 ∙ sym b.told) (a.status ∙ same.1 ∙ sym b.status)

  -- ---- a run ends with it

  module _ (before after : Devices) (err told : Output) (status : ℕ) (free : IsUnhindered before after status) where
    done-as : (failed : Bool) → Ends plan before after (Ok failed) → status ≡ cond failed 1 0 → Keeps err.told told.told → EndsAsOne before after err told status (IsOutcome plan held)
    done-as failed ends gives keeps =
        let sent = ends.done in (
          record { folders = after.folders.held; text = sent.0; told = []; status = cond failed 1 0 },
          inl (record { failed = failed; done = sent.1; told = refl; status = refl }),
          record { folders = refl; text = sent.2; line = inl (appends-nothing err.told told.told keeps); gives = gives },
        )

    refusal-of : (r : Refusal) → Ends plan before after (Err r) → status ≡ status_of r → IsPlainRefusal plan.judges r
    refusal-of r ends gives = by ends.refused
      where
        enough : r ≢ OutOfMemory
        enough is = free.memory (gives ∙ ap status_of is)

        by : plan.judges.Refuses (failures_of before) (failures_of after) r ⊎ ((r ≡ OutOfMemory) × FailedNowhere (failures_of before) (failures_of after)) → IsPlainRefusal plan.judges r
        by (inl cause) = record { before = failures_of before; after = failures_of after; nowhere = free.nowhere; cause = cause; enough = enough }
        by (inr memory) = absurd (enough memory.0)

    refused-as : (r : Refusal) → Ends plan before after (Err r) → status ≡ status_of r → Sends err told (message r) → EndsAsOne before after err told status (IsOutcome plan held)
    refused-as r ends gives line =
        let is = refusal-of r ends gives in
        let left = ends.left in
        let none = law.nothing after.folders.held left.0 r is left.1 in (
          record { folders = held; text = []; told = message r; status = status_of r },
          inr (record { refusal = r; is_refusal = is; folders = refl; text = refl; told = refl; status = refl }),
          record {
            folders = none.0;
            text = subst (λ (t : List ℕ). Appends before.output.told after.output.told t) none.1 left.2;
            line = line;
            gives = gives;
          },
        )

    pub run-ends : IsRun plan before after err told status → EndsAsOne before after err told status (IsOutcome plan held)
    run-ends run = by run.ended run.ends run.gives run.line
      where
        by : (ended : Result Bool Refusal) → Ends plan before after ended → status ≡ status_in ended → TellsEnd err told ended → EndsAsOne before after err told status (IsOutcome plan held)
        by (Ok failed) ends gives line = done-as failed ends gives line
        by (Err r) ends gives line = refused-as r ends gives line
