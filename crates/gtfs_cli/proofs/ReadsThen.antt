-- Calls of the folders by parts of the work, one after another, and errors that are passed on.
use Rattle.std.proofs.Common.{◌≡◌, ◌∙◌, ℕ, ◌+◌, ◌≤◌, Option, Result, Ok, Err, refl, sym, subst, arith}
use Rattle.std.specs.Prelude.{IfErr, IsErrAnd}
use Rattle.std.proofs.lemmas.Result.{IfErr-weaker}
use Rattle.gtfs_devices.specs.Device.{FailsAtLast, MakesCalls}
use Rattle.gtfs_devices.specs.Folder.{CountsFault, Store}
use Rattle.gtfs_devices.specs.declared.folders.FolderFault.{FolderFault}
use Rattle.gtfs_devices.specs.declared.folders.FolderFault.TheVariants as faults
use Rattle.gtfs_table.proofs.FolderFacts.{calls-more}
use Rattle.gtfs_table.proofs.StoreFacts.{on_ok-always, on_ok-map}
use Rattle.gtfs_cli.specs.FolderCalls.{MakesAtMost, CallsFolders, Reads}
use Rattle.gtfs_cli.specs.Refusals.{TellsFolders}
use Rattle.gtfs_cli.specs.DevicesSeen.{Device}
use Rattle.gtfs_cli.specs.declared.commands.refusal.Refusal.{Refusal}
use Rattle.gtfs_cli.proofs.CallsMade.{at-most, few-more, last-of, no-calls, so-many}
use Rattle.gtfs_cli.proofs.FailuresTold.{each-err, folders-kept, folders-since}

-- a `?` passes its error on
pub told-up : {A : Type 0} (r : Result A Refusal) (e : Refusal) (P : Refusal → Type 0) → IsErrAnd r (λ y. y ≡ e) → P e → IfErr r P
told-up (Ok x) e P is h = absurd is
told-up (Err y) e P is h = subst P (sym is) h

-- ---- one part

-- all calls were made and none failed, however it ends
pub asks-made : {T : Type 0} (n : ℕ) (a b : Device) (r : Result T Refusal) → b.failures ≡ a.failures → MakesCalls n a.calls b.calls → CallsFolders n a b r
asks-made n a b r same made = record {
  grows = omega (arith, same);
  no_failure = on_ok-always r _ same;
  told = each-err r (TellsFolders a.failures b.failures) (folders-kept a.failures b.failures same);
  called = on_ok-always r _ made;
  few = so-many n n a.calls b.calls (omega arith) made;
  last = λ differ. absurd (differ same);
}

-- no call was made before an error
pub asks-none : {T : Type 0} (n : ℕ) (a : Device) (r : Result T Refusal) (e : Refusal) → IsErrAnd r (λ y. y ≡ e) → CallsFolders n a a r
asks-none n a (Ok x) e is = absurd is
asks-none n a (Err y) e is = record {
  grows = omega arith;
  no_failure = tt;
  told = folders-kept a.failures a.failures refl y;
  called = tt;
  few = no-calls n a.calls;
  last = λ differ. absurd (differ refl);
}

-- a fault ended the calls; that of a device is the end of the last one
pub asks-fault : {T : Type 0} (n : ℕ) (a b : Device) (fault : FolderFault) (e : Refusal) → a.failures ≤ b.failures → CountsFault fault a.failures b.failures
    → TellsFolders a.failures b.failures e → MakesAtMost n a.calls b.calls → (fault ≡ faults.Read → FailsAtLast b.calls) → (fault ≡ faults.Write → FailsAtLast b.calls)
    → CallsFolders n {T = T} a b (Err e)
asks-fault n a b fault e grows count told few read write = record {
  grows = grows;
  no_failure = tt;
  told = told;
  called = tt;
  few = few;
  last = last-of fault a.failures b.failures (FailsAtLast b.calls) count read write;
}

-- ---- one part after another

-- what comes after the calls makes none, however it ends
pub asks-done : {T U : Type 0} (n : ℕ) (a b : Device) (x : T) (r : Result U Refusal) → CallsFolders n a b (Ok x) → CallsFolders n a b r
asks-done n a b x r h = asks-made n a b r h.no_failure h.called

pub asks-then : {T U : Type 0} (m n : ℕ) (a b c : Device) (x : T) (r : Result U Refusal) → CallsFolders m a b (Ok x) → CallsFolders n b c r → CallsFolders (m + n) a c r
asks-then m n a b c x r h k = record {
  grows = omega (arith, h.grows, k.grows);
  no_failure = on_ok-map r _ _ (λ same. same ∙ h.no_failure) k.no_failure;
  told = IfErr-weaker r _ (TellsFolders a.failures c.failures) (folders-since a.failures b.failures c.failures h.no_failure) k.told;
  called = on_ok-map r _ _ (calls-more m n a.calls b.calls c.calls h.called) k.called;
  few = few-more m n a.calls b.calls c.calls h.called k.few;
  last = λ differ. k.last (λ same. differ (same ∙ h.no_failure));
}

pub asks-as : {T : Type 0} (m n : ℕ) (a b : Device) (r : Result T Refusal) → m ≡ n → CallsFolders m a b r → CallsFolders n a b r
asks-as m n a b r same h = subst (λ (k : ℕ). CallsFolders k a b r) same h

-- an error that is passed on, of a part that makes no more calls
pub asks-up : {T U : Type 0} (m n : ℕ) (a b : Device) (r : Result U Refusal) (e : Refusal) → m ≤ n → IsErrAnd r (λ y. y ≡ e) → CallsFolders m {T = T} a b (Err e) → CallsFolders n a b r
asks-up m n a b (Ok x) e few is h = absurd is
asks-up m n a b (Err y) e few is h = record {
  grows = h.grows;
  no_failure = tt;
  told = subst (TellsFolders a.failures b.failures) (sym is) h.told;
  called = tt;
  few = at-most n m a.calls b.calls few h.few;
  last = h.last;
}

-- ---- the same, where the folders are read

pub reads-done : {T U : Type 0} (n : ℕ) (a b : Device) (x : T) (r : Result U Refusal) → Reads n a b (Ok x) → Reads n a b r
reads-done n a b x r h = record { unchanged = h.unchanged; same_limit = h.same_limit; asks = asks-done n a b x r h.asks }

pub reads-then : {T U : Type 0} (m n : ℕ) (a b c : Device) (x : T) (r : Result U Refusal) → Reads m a b (Ok x) → Reads n b c r → Reads (m + n) a c r
reads-then m n a b c x r h k = record {
  unchanged = k.unchanged ∙ h.unchanged;
  same_limit = k.same_limit ∙ h.same_limit;
  asks = asks-then m n a b c x r h.asks k.asks;
}

pub reads-up : {T U : Type 0} (m n : ℕ) (a b : Device) (r : Result U Refusal) (e : Refusal) → m ≤ n → IsErrAnd r (λ y. y ≡ e) → Reads m {T = T} a b (Err e) → Reads n a b r
reads-up m n a b r e few is h = record { unchanged = h.unchanged; same_limit = h.same_limit; asks = asks-up m n a b r e few is h.asks }

-- what is so of the folders after they were read is so of them before
pub reads-back : {T : Type 0} (n : ℕ) (a b : Device) (x : T) (P : ℕ → Option Store → ℕ → Type 0) → Reads n a b (Ok x) → P b.limit b.held b.failures → P a.limit a.held a.failures
reads-back n a b x P h p =
    subst (λ (l : ℕ). P l a.held a.failures) h.same_limit
    (subst (λ (s : Option Store). P b.limit s a.failures) h.unchanged (subst (λ (k : ℕ). P b.limit b.held k) h.asks.no_failure p))
