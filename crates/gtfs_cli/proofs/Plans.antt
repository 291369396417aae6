-- From the parts of a command's work to how the command ends.
use Rattle.std.proofs.Common.{◌≡◌, ◌∙◌, ap, ◌⊎◌, ◌≤◌, ℕ, Bool, List, [], Option, Result, Ok, Err, inl, inr, refl, sym, subst, arith}
use Rattle.std.specs.Prelude.{IfOk, IsErrAnd}
use Rattle.std.specs.Io.KnownBytes.{Appends}
use Rattle.std.proofs.KnownBytes.{Appends-nil}
use Rattle.gtfs_devices.specs.Device.{counted}
use Rattle.gtfs_devices.specs.Folder.{Store}
use Rattle.gtfs_cli.specs.Failures.{FailedNowhere}
use Rattle.gtfs_cli.specs.RefusalOrder.{Judged}
use Rattle.gtfs_cli.specs.CommandPlan.{answer_of, passed, prints, Ends, IsRefusedIn, Plan}
use Rattle.gtfs_cli.specs.FolderCalls.{CallsFolders}
use Rattle.gtfs_cli.specs.Refusals.{TellsFolders, TellsOutput}
use Rattle.gtfs_cli.specs.DevicesSeen.{Device, Output}
use Rattle.gtfs_cli.specs.SentText.{joined, or_none, text_left, AreWholeLines, AreSent, Begins, IsSendingCause, IsSent, PrintsText, SendsSome}
use Rattle.gtfs_cli.specs.declared.commands.refusal.Refusal.{Refusal}
use Rattle.gtfs_cli.specs.declared.commands.refusal.Refusal.TheVariants.{OutputFailed, OutOfMemory}
use Rattle.gtfs_cli.proofs.FailuresTold.{output-kept, sending-told}
use Rattle.gtfs_cli.proofs.ReadsThen.{asks-up}

-- a refusal that `?` passes on, as the answer of a command that is no check
pub err-up : {A : Type 0} (r : Result A Refusal) (e : Refusal) (P : Result Bool Refusal → Type 0) → IsErrAnd r (λ y. y ≡ e) → P (Err e) → P (answer_of r)
err-up (Ok x) e P is h = absurd is
err-up (Err y) e P is h = subst (λ (x : Refusal). P (Err x)) (sym is) h

-- the same of a check
pub err-up-check : (r : Result Bool Refusal) (e : Refusal) (P : Result Bool Refusal → Type 0) → IsErrAnd r (λ y. y ≡ e) → P (Err e) → P r
err-up-check (Ok x) e P is h = absurd is
err-up-check (Err y) e P is h = subst (λ (x : Refusal). P (Err x)) (sym is) h

pub asks-answered : {A : Type 0} (n : ℕ) (a b : Device) (r : Result A Refusal) → CallsFolders n a b r → CallsFolders n a b (answer_of r)
asks-answered n a b (Ok x) h = record { grows = h.grows; no_failure = h.no_failure; told = tt; called = h.called; few = h.few; last = h.last }
asks-answered n a b (Err e) h = record { grows = h.grows; no_failure = tt; told = h.told; called = tt; few = h.few; last = h.last }

-- ---- refused before anything goes out

module _ (held now : Option Store) (judges : Judged) (Text : List ℕ → Bool → Type 0) (Cut Stopped : List ℕ → Type 0) (calls : ℕ) (same : now ≡ held) where
  -- nothing goes out where the output is not at fault
  none-left : (r : Refusal) → (r ≡ OutputFailed → ⊥) → (prints held judges Text Cut Stopped calls).Left now [] r
  none-left OutputFailed other = absurd (other refl)
  none-left OutOfMemory other = (same, inl refl)
  none-left _ other = (same, refl)

pub ends-refused : (plan : Plan) (a b : Device) (o : Output) (r : Refusal) → plan.Left b.held [] r
    → IsRefusedIn plan.judges (record { folders = a.failures; output = o.failures }) (record { folders = b.failures; output = o.failures }) r
    → {T : Type 0} (n : ℕ) → n ≤ plan.calls → CallsFolders n {T = T} a b (Err r) → Ends plan (record { folders = a; output = o }) (record { folders = b; output = o }) (Err r)
ends-refused plan a b o r left cause n few asks = record {
  done = tt;
  left = ([], left, Appends-nil o.told);
  refused = cause;
  told = output-kept o.failures r;
  grows = omega arith;
  no_failure = tt;
  asks = asks-up n plan.calls a b (Err r) r few refl asks;
}

-- the same of a command that prints a text
pub prints-none : (held : Option Store) (judges : Judged) (Text : List ℕ → Bool → Type 0) (Cut Stopped : List ℕ → Type 0) (calls : ℕ) (a b : Device) (o : Output) (r : Refusal)
    → b.held ≡ held → (r ≡ OutputFailed → ⊥)
    → IsRefusedIn judges (record { folders = a.failures; output = o.failures }) (record { folders = b.failures; output = o.failures }) r
    → {T : Type 0} (n : ℕ) → n ≤ calls → CallsFolders n {T = T} a b (Err r)
    → Ends (prints held judges Text Cut Stopped calls) (record { folders = a; output = o }) (record { folders = b; output = o }) (Err r)
prints-none held judges Text Cut Stopped calls a b o r same other cause n few asks =
    ends-refused (prints held judges Text Cut Stopped calls) a b o r (none-left held b.held judges Text Cut Stopped calls same r other) cause n few asks

-- ---- a text that is printed

left-as : (C D Cut Stopped : List ℕ → Type 0) → ((t : List ℕ) → C t → Cut t) → ((t : List ℕ) → D t → Stopped t) → (part : List ℕ) (r : Refusal)
    → text_left C D part r → text_left Cut Stopped part r
left-as C D Cut Stopped f g part OutputFailed h = f part h
left-as C D Cut Stopped f g part OutOfMemory h = g part h
left-as C D Cut Stopped f g part _ h = h

-- nothing failed where memory ran out
nowhere-at : (a b : Device) (before after : Output) (e : Refusal) → TellsFolders a.failures b.failures e → TellsOutput before.failures after.failures e → e ≡ OutOfMemory
    → FailedNowhere (record { folders = a.failures; output = before.failures }) (record { folders = b.failures; output = after.failures })
nowhere-at a b before after e folders output is =
    (subst (λ (r : Refusal). TellsFolders a.failures b.failures r) is folders, subst (λ (r : Refusal). TellsOutput before.failures after.failures r) is output)

-- the parts of its work gave this text, and what was judged in them is what the command judges
module _ (a b : Device) (before after : Output) (judges : Judged) (Text Cut Stopped W C D : List ℕ → Type 0) (Cause : Refusal → Type 0) (calls : ℕ)
    (whole : (t : List ℕ) → W t → Text t) (cut : (t : List ℕ) → C t → Cut t) (stopped : (t : List ℕ) → D t → or_none Stopped t)
    (cause : (e : Refusal) → (e ≡ OutOfMemory → FailedNowhere (record { folders = a.failures; output = before.failures }) (record { folders = b.failures; output = after.failures }))
    → Cause e ⊎ IsSendingCause before.failures after.failures e
    → IsRefusedIn judges (record { folders = a.failures; output = before.failures }) (record { folders = b.failures; output = after.failures }) e) (same : b.held ≡ a.held) where
  pub ends-printed : {A : Type 0} (r : Result A Refusal) → CallsFolders calls a b r → PrintsText W C D Cause before after r
      → Ends (prints a.held judges (passed Text) Cut Stopped calls) (record { folders = a; output = before }) (record { folders = b; output = after }) (answer_of r)
  ends-printed (Ok x) asks p = record {
    done = let sent = p.printed in (sent.0, (same, (refl, whole sent.0 sent.1)), sent.2);
    left = tt;
    refused = tt;
    told = tt;
    grows = p.grows;
    no_failure = p.no_failure;
    asks = asks-answered calls a b (Ok x) asks;
  }
  ends-printed (Err e) asks p = record {
    done = tt;
    left = let sent = p.left in (sent.0, (same, left-as C D Cut (or_none Stopped) cut stopped sent.0 e sent.1), sent.2);
    refused = cause e (nowhere-at a b before after e asks.told p.told) p.refused;
    told = p.told;
    grows = p.grows;
    no_failure = tt;
    asks = asks-answered calls a b (Err e) asks;
  }

-- ---- texts of which only a property is known

pub prints-up : {A : Type 0} (W C D : List ℕ → Type 0) (Cause : Refusal → Type 0) (a b : Output) (r : Result A Refusal) (e : Refusal) → IsErrAnd r (λ y. y ≡ e)
    → PrintsText W C D Cause {T = A} a b (Err e) → PrintsText W C D Cause a b r
prints-up W C D Cause a b (Ok x) e is h = absurd is
prints-up {A} W C D Cause a b (Err y) e is h = subst (λ (x : Refusal). PrintsText W C D Cause {T = A} a b (Err x)) (sym is) (record {
  printed = tt;
  left = h.left;
  refused = h.refused;
  told = h.told;
  grows = h.grows;
  no_failure = tt;
})

nothing-left : (C D : List ℕ → Type 0) (r : Refusal) → (r ≡ OutOfMemory → D []) → (r ≡ OutputFailed → ⊥) → text_left C D [] r
nothing-left C D OutputFailed none other = absurd (other refl)
nothing-left C D OutOfMemory none other = none refl
nothing-left C D _ none other = refl

-- refused before anything goes out
pub prints-refused-so : {A : Type 0} (W C D : List ℕ → Type 0) (Cause : Refusal → Type 0) (a : Output) (r : Result A Refusal) (e : Refusal) → IsErrAnd r (λ y. y ≡ e)
    → (e ≡ OutOfMemory → D []) → Cause e ⊎ (e ≡ OutOfMemory) → (e ≡ OutputFailed → ⊥) → PrintsText W C D Cause a a r
prints-refused-so W C D Cause a (Ok x) e is none cause other = absurd is
prints-refused-so {A} W C D Cause a (Err y) e is none cause other = subst (λ (x : Refusal). PrintsText W C D Cause {T = A} a a (Err x)) (sym is) (record {
  printed = tt;
  left = ([], nothing-left C D e none other, Appends-nil a.told);
  refused = refused-by e cause;
  told = output-kept a.failures e;
  grows = omega arith;
  no_failure = tt;
})
  where
    refused-by : (x : Refusal) → Cause x ⊎ (x ≡ OutOfMemory) → Cause x ⊎ IsSendingCause a.failures a.failures x
    refused-by x (inl c) = inl c
    refused-by x (inr memory) = inr (subst (λ (u : Refusal). IsSendingCause a.failures a.failures u) (sym memory) refl)

-- the same, where nothing may have gone out before memory ran out
pub prints-refused : {A : Type 0} (W C D : List ℕ → Type 0) (Cause : Refusal → Type 0) → D [] → (a : Output) (r : Result A Refusal) (e : Refusal) → IsErrAnd r (λ y. y ≡ e)
    → Cause e ⊎ (e ≡ OutOfMemory) → (e ≡ OutputFailed → ⊥) → PrintsText W C D Cause a a r
prints-refused W C D Cause none a r e is cause other = prints-refused-so W C D Cause a r e is (λ _. none) cause other

-- the whole text went out
pub prints-whole : {A : Type 0} (W C D : List ℕ → Type 0) (Cause : Refusal → Type 0) (a b : Output) (x : A) → SendsSome W a b → b.failures ≡ a.failures
    → PrintsText W C D Cause a b (Ok x)
prints-whole W C D Cause a b x sent same = record { printed = sent; left = tt; refused = tt; told = tt; grows = omega (arith, same); no_failure = same }

-- the output failed after a part of it
pub prints-cut : {A : Type 0} (W C D : List ℕ → Type 0) (Cause : Refusal → Type 0) (a b : Output) → SendsSome C a b → b.failures ≡ counted a.failures → a.failures ≤ b.failures
    → PrintsText W C D Cause {T = A} a b (Err OutputFailed)
prints-cut W C D Cause a b sent once grows = record { printed = tt; left = sent; refused = inr once; told = tt; grows = grows; no_failure = tt }

-- memory ran out after a part of it
pub prints-stopped : {A : Type 0} (W C D : List ℕ → Type 0) (Cause : Refusal → Type 0) (a b : Output) → SendsSome D a b → b.failures ≡ a.failures
    → PrintsText W C D Cause {T = A} a b (Err OutOfMemory)
prints-stopped W C D Cause a b sent same =
    record { printed = tt; left = sent; refused = inr same; told = same; grows = omega (arith, same); no_failure = tt }

-- what was printed is so in other words
pub prints-as : {A : Type 0} (W C D W' C' D' : List ℕ → Type 0) (Cause Cause' : Refusal → Type 0) (a b : Output) (r : Result A Refusal) → ((t : List ℕ) → W t → W' t)
    → ((t : List ℕ) → C t → C' t) → ((t : List ℕ) → D t → D' t) → ((e : Refusal) → Cause e → Cause' e) → PrintsText W C D Cause a b r → PrintsText W' C' D' Cause' a b r
prints-as W C D W' C' D' Cause Cause' a b (Ok x) f g h k p =
    record { printed = let sent = p.printed in (sent.0, f sent.0 sent.1, sent.2); left = tt; refused = tt; told = tt; grows = p.grows; no_failure = p.no_failure }
prints-as W C D W' C' D' Cause Cause' a b (Err e) f g h k p = record {
  printed = tt;
  left = let sent = p.left in (sent.0, left-as C D C' D' g h sent.0 e sent.1, sent.2);
  refused = elim p.refused [ inl cause ↦ inl (k e cause) | inr sending ↦ inr sending ];
  told = p.told;
  grows = p.grows;
  no_failure = tt;
}

-- nobody is to blame but the output
pub no-cause : (Cause : Refusal → Type 0) (e : Refusal) → ⊥ → Cause e
no-cause Cause e none = absurd none

pub as-it-is : (Fact : List ℕ → Type 0) (t : List ℕ) → Fact t → Fact t
as-it-is Fact t h = h

pub or-none : (Fact : List ℕ → Type 0) (t : List ℕ) → Fact t → or_none Fact t
or-none Fact t h = inr h

pub not-failed : (e : Refusal) → e ≡ OutOfMemory → e ≡ OutputFailed → ⊥
not-failed e memory failed = cc (sym memory ∙ failed)

-- a refusal after more of a text went out
pub prints-later : {A B : Type 0} (W C D W' C' D' : List ℕ → Type 0) (a b c : Output) (e : Refusal) → b.failures ≡ a.failures
    → PrintsText W' C' D' (λ _. ⊥) {T = A} b c (Err e) → (t : List ℕ) × text_left C D t e × Appends a.told c.told t → PrintsText W C D (λ _. ⊥) {T = B} a c (Err e)
prints-later W C D W' C' D' a b c e same p sent = record {
  printed = tt;
  left = sent;
  refused = elim p.refused [ inl none ↦ absurd none | inr cause ↦ inr (subst (λ (n : ℕ). IsSendingCause n c.failures e) same cause) ];
  told = subst (λ (n : ℕ). TellsOutput n c.failures e) same p.told;
  grows = omega (arith, p.grows, same);
  no_failure = tt;
}

-- a text that was sent out is one that was printed
pub sent-printed : {A : Type 0} (W : List ℕ → Type 0) (Cause : Refusal → Type 0) (a b : Output) (text : List ℕ) → W text → (r : Result A Refusal) → IsSent text a b r
    → PrintsText W (Begins W) (or_none (Begins W)) Cause a b r
sent-printed W Cause a b text is (Ok x) h = record { printed = (text, is, h.sent); left = tt; refused = tt; told = tt; grows = h.grows; no_failure = h.no_failure }
sent-printed W Cause a b text is (Err e) h = record {
  printed = tt;
  left = left-of e h.refused;
  refused = inr h.refused;
  told = sending-told a.failures b.failures e h.refused;
  grows = h.grows;
  no_failure = tt;
}
  where
    begun : Begins W h.cut_short.sent
    begun = record { text = text; left = h.cut_short.left; is_text = is; whole = h.cut_short.whole }

    left-of : (x : Refusal) → IsSendingCause a.failures b.failures x → SendsSome (λ part. text_left (Begins W) (or_none (Begins W)) part x) a b
    left-of OutputFailed cause = (h.cut_short.sent, begun, h.cut_short.out)
    left-of OutOfMemory cause = (h.cut_short.sent, inr begun, h.cut_short.out)
    left-of _ cause = absurd cause

-- ---- a check

module _ (a b : Device) (before after : Output) (judges : Judged) (Text : List ℕ → Bool → Type 0) (Part : List ℕ → Type 0) (lines : List (List ℕ)) (calls : ℕ) (same : b.held ≡ a.held)
    (cause : (e : Refusal) → IsSendingCause before.failures after.failures e
    → IsRefusedIn judges (record { folders = a.failures; output = before.failures }) (record { folders = b.failures; output = after.failures }) e) where
  abbrev Some : List ℕ → Type 0
  Some t = (failed : Bool) × Text t failed

  -- its lines were sent out, and this is its answer
  pub ends-checked : (failed : Bool) → Text (joined lines) failed → ((t : List ℕ) → AreWholeLines lines t → Part t) → (r : Result Bool Refusal) → IfOk r (λ x. x ≡ failed)
      → CallsFolders calls a b r → AreSent lines before after r
      → Ends (prints a.held judges Text (Begins Some) Part calls) (record { folders = a; output = before }) (record { folders = b; output = after }) r
  ends-checked failed is part (Ok x) answer asks h = record {
    done = (joined lines, (same, subst (Text (joined lines)) (sym answer) is), h.sent.sent);
    left = tt;
    refused = tt;
    told = tt;
    grows = h.sent.grows;
    no_failure = h.sent.no_failure;
    asks = asks;
  }
  ends-checked failed is part (Err e) answer asks h = record {
    done = tt;
    left = left-of e refl h.sent.refused;
    refused = cause e h.sent.refused;
    told = sending-told before.failures after.failures e h.sent.refused;
    grows = h.sent.grows;
    no_failure = tt;
    asks = asks;
  }
    where
      left-of : (x : Refusal) → x ≡ e → IsSendingCause before.failures after.failures x
          → SendsSome (λ t. (b.held ≡ a.held) × text_left (Begins Some) (or_none Part) t x) before after
      left-of OutputFailed is_e c = (
        h.sent.cut_short.sent,
        (same, record { text = joined lines; left = h.sent.cut_short.left; is_text = (failed, is); whole = h.sent.cut_short.whole }),
        h.sent.cut_short.out,
      )
      left-of OutOfMemory is_e c = let s = h.stopped (ap (λ (y : Refusal). Err y) (sym is_e)) in (s.0, (same, inr (part s.0 s.1)), s.2)
      left-of _ is_e c = absurd c
