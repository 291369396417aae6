-- Which devices failed where a refusal is told.
use Rattle.std.proofs.Common.{◌≡◌, ℕ, Result, Ok, Err, refl, subst}
use Rattle.std.specs.Prelude.{IfErr}
use Rattle.gtfs_cli.specs.SentText.{IsSendingCause}
use Rattle.gtfs_cli.specs.Refusals.{TellsFolders, TellsOutput}
use Rattle.gtfs_cli.specs.declared.commands.refusal.Refusal.{Refusal}
use Rattle.gtfs_cli.specs.declared.commands.refusal.Refusal.TheVariants.{Unreadable, Unwritable, OutputFailed, OutOfMemory}

-- ---- a device that did not fail

pub folders-kept : (before after : ℕ) → after ≡ before → (r : Refusal) → TellsFolders before after r
folders-kept before after same (Unreadable path) = tt
folders-kept before after same (Unwritable path) = tt
folders-kept before after same _ = same

pub output-kept : (count : ℕ) (r : Refusal) → TellsOutput count count r
output-kept count OutputFailed = tt
output-kept count _ = refl

-- nothing had failed before
pub folders-since : (first before after : ℕ) → before ≡ first → (r : Refusal) → TellsFolders before after r → TellsFolders first after r
folders-since first before after same r h = subst (λ (n : ℕ). TellsFolders n after r) same h

-- ---- lines that are sent out

pub sending-told : (before after : ℕ) (r : Refusal) → IsSendingCause before after r → TellsOutput before after r
sending-told before after OutputFailed h = tt
sending-told before after OutOfMemory h = h
sending-told before after _ h = absurd h

-- ---- calls that are refused

-- what is so of each refusal
pub each-err : {A : Type 0} (r : Result A Refusal) (P : Refusal → Type 0) → ((e : Refusal) → P e) → IfErr r P
each-err (Ok x) P h = tt
each-err (Err e) P h = h e
