-- What is refused is refused in one way, and nothing that is found good is refused.
use Rattle.std.proofs.Common.{◌≡◌, ◌⊎◌, ◌∙◌, ap, sym, refl, inl, inr, ℕ, Bool, List, Some, None, codes, ◌≤◌, subst, arith}
use Rattle.gtfs_devices.specs.Device.{counted}
use Rattle.clap.specs.Words.{Text}
use Rattle.gtfs_cli.specs.RefusalOrder.{followed_by, sending, values, IsFirstBad, Judged}
use Rattle.gtfs_cli.specs.RefusalMessages.{line_of, message}
use Rattle.gtfs_cli.specs.SharedOptions.{first_of_bad}
use Rattle.gtfs_cli.specs.CommandOutcomes.{IsPlainRefusal}
use Rattle.gtfs_cli.specs.Refusals.{status_of}
use Rattle.gtfs_cli.specs.declared.commands.refusal.Refusal.{Refusal}
use Rattle.gtfs_cli.specs.declared.commands.refusal.Refusal.TheVariants.{BadValue, OutputFailed, OutOfMemory}
use Rattle.std.proofs.lemmas.Option.{same_Some}

-- ---- refusals that tell the same

-- a refusal has this line and this status
abbrev pub Says : Refusal → List ℕ → ℕ → Type 0
Says r line status = (message r ≡ line) × (status_of r ≡ status)

abbrev pub Alike : Refusal → Refusal → Type 0
Alike r s = (message r ≡ message s) × (status_of r ≡ status_of s)

pub alike : (r s : Refusal) (line : List ℕ) (status : ℕ) → Says r line status → Says s line status → Alike r s
alike r s line status a b = (a.0 ∙ sym b.0, a.1 ∙ sym b.1)

-- a line about a path that is this one
pub line-at : (path dir after : List ℕ) → path ≡ dir → line_of path after ≡ line_of dir after
line-at path dir after is = ap (λ (t : List ℕ). line_of t after) is

-- ---- what is judged

-- two refusals tell the same
abbrev pub One : Judged → Type 0
One j = (r s : Refusal) → IsPlainRefusal j r → IsPlainRefusal j s → Alike r s

-- where this is so, nothing is refused
abbrev pub Excludes : Type 0 → Judged → Type 0
Excludes Fact j = Fact → (r : Refusal) → IsPlainRefusal j r → ⊥

-- the output is never to blame
abbrev pub Quiet : Judged → Type 0
Quiet j = IsPlainRefusal j OutputFailed → ⊥

module _ (j k : Judged) where
  first : (r : Refusal) (h : IsPlainRefusal (followed_by j k) r) → j.Refuses h.before h.after r → IsPlainRefusal j r
  first r h cause = record { before = h.before; after = h.after; nowhere = h.nowhere; cause = cause; enough = h.enough }

  second : (r : Refusal) (h : IsPlainRefusal (followed_by j k) r) → k.Refuses h.before h.after r → IsPlainRefusal k r
  second r h cause = record { before = h.before; after = h.after; nowhere = h.nowhere; cause = cause; enough = h.enough }

  pub one-chain : One j → Excludes j.Holds j → One k → One (followed_by j k)
  one-chain one apart next r s g h = by g.cause h.cause
    where
      by : j.Refuses g.before g.after r ⊎ (j.Holds × k.Refuses g.before g.after r) → j.Refuses h.before h.after s ⊎ (j.Holds × k.Refuses h.before h.after s) → Alike r s
      by (inl x) (inl y) = one r s (first r g x) (first s h y)
      by (inl x) (inr y) = absurd (apart y.0 r (first r g x))
      by (inr x) (inl y) = absurd (apart x.0 s (first s h y))
      by (inr x) (inr y) = next r s (second r g x.1) (second s h y.1)

  pub excludes-chain : (Fact : Type 0) → Excludes Fact j → Excludes Fact k → Excludes Fact (followed_by j k)
  excludes-chain Fact apart next fact r h = elim h.cause [ inl x ↦ apart fact r (first r h x) | inr y ↦ next fact r (second r h y.1) ]

  pub quiet-chain : Quiet j → Quiet k → Quiet (followed_by j k)
  quiet-chain here there h = elim h.cause [ inl x ↦ here (first OutputFailed h x) | inr y ↦ there (second OutputFailed h y.1) ]

-- what follows from a fact is so of it
pub excludes-by : (Fact Holds : Type 0) (j : Judged) → (Fact → Holds) → Excludes Holds j → Excludes Fact j
excludes-by Fact Holds j f apart fact r h = apart (f fact) r h

-- ---- the output

none-sending : (r : Refusal) → IsPlainRefusal sending r → ⊥
none-sending OutputFailed h = h.nowhere.output (subst (λ (n : ℕ). counted h.before.output ≤ n) (sym h.cause) (omega arith))
none-sending OutOfMemory h = h.enough refl
none-sending _ h = h.cause

pub one-sending : One sending
one-sending r s g h = absurd (none-sending r g)

pub excludes-sending : (Fact : Type 0) → Excludes Fact sending
excludes-sending Fact fact r h = none-sending r h

pub quiet-sending : Quiet sending
quiet-sending h = none-sending OutputFailed h

-- ---- the values of options

bad-says : (options : List (Text × Bool)) (option : Text) → first_of_bad options ≡ Some option → (r : Refusal) → IsFirstBad options r
    → Says r (line_of (codes "bad value of ") option) 2
bad-says options option is (BadValue other) h = (ap (line_of (codes "bad value of ")) (same_Some other.now option (sym h ∙ is)), refl)
bad-says options option is _ h = absurd h

bad-option : (options : List (Text × Bool)) (r : Refusal) → IsFirstBad options r → (option : Text) × (first_of_bad options ≡ Some option)
bad-option options (BadValue option) h = (option.now, h)
bad-option options _ h = absurd h

pub one-values : (options : List (Text × Bool)) → One (values options)
one-values options r s g h =
    let bad = bad-option options r g.cause in
    alike r s (line_of (codes "bad value of ") bad.0) 2 (bad-says options bad.0 bad.1 r g.cause) (bad-says options bad.0 bad.1 s h.cause)

pub excludes-values : (options : List (Text × Bool)) → Excludes (first_of_bad options ≡ None) (values options)
excludes-values options none r h = let bad = bad-option options r h.cause in cc (sym none ∙ bad.1)

pub quiet-values : (options : List (Text × Bool)) → Quiet (values options)
quiet-values options h = h.cause

-- what is judged last is followed by the output alone
pub one-last : (j : Judged) → One j → One (followed_by j sending)
one-last j one r s g h = by g.cause h.cause
  where
    by : j.Refuses g.before g.after r ⊎ (j.Holds × sending.Refuses g.before g.after r) → j.Refuses h.before h.after s ⊎ (j.Holds × sending.Refuses h.before h.after s) → Alike r s
    by (inl x) (inl y) = one r s (first j sending r g x) (first j sending s h y)
    by (inl x) (inr y) = absurd (none-sending s (second j sending s h y.1))
    by (inr x) y = absurd (none-sending r (second j sending r g x.1))

pub excludes-last : (Fact : Type 0) (j : Judged) → Excludes Fact j → Excludes Fact (followed_by j sending)
excludes-last Fact j apart = excludes-chain j sending Fact apart (excludes-sending Fact)

pub quiet-last : (j : Judged) → Quiet j → Quiet (followed_by j sending)
quiet-last j quiet = quiet-chain j sending quiet quiet-sending
