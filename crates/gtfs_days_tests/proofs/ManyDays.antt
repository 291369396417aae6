-- Exceptions for day after day.
use Rattle.std.proofs.Common.{◌≡◌, ◌++◌, ◌∷◌, List, [], arith, subst, sym, w32, SFits, to_z, of_z}
use Rattle.std.specs.Prelude.{All, ℤ, pos, ◌+ℤ◌, ◌<ℤ◌, ◌≤ℤ◌}
use Rattle.std.proofs.lemmas.Int.{to_z-of_z}
use Rattle.std.proofs.lemmas.List.Elements.{All-push}
use Rattle.std.proofs.lemmas.List.Quantifiers.{all_pairs_push}
use Rattle.jiff_core.proofs.SignedLemmas.{signed_arith}
use Rattle.gtfs_days.specs.Service.{NamesEachDayOnce}
use Rattle.gtfs_days.specs.declared.exception.Exception.{Exception}

-- the exceptions are for days before this one, no two for one day
abbrev pub AreBefore : ℤ → List (ℤ × Exception) → Type 0
AreBefore n es = NamesEachDayOnce es × All (λ e. e.0 <ℤ n) es

-- with one more, for the day itself
one-more : (n : ℤ) (kind : Exception) (es : List (ℤ × Exception)) → AreBefore n es → AreBefore (n +ℤ pos 1) (es ++ (n, kind) ∷ [])
one-more n kind es are = (
  all_pairs_push (λ e f. e.0 ≡ f.0 → ⊥) es (n, kind) are.0 (λ k d within same. let before = are.1 k d within in omega (arith, signed_arith)),
  All-push (λ e. e.0 <ℤ (n +ℤ pos 1)) es (n, kind) (λ k d within. let before = are.1 k d within in omega (arith, signed_arith)) (omega (arith, signed_arith)),
)

next-fits : (n : ℤ) → pos 0 ≤ℤ n → n <ℤ pos 70_000 → SFits w32 (n +ℤ pos 1)
next-fits n low high = omega (arith, signed_arith)

-- the same of the number that the loop goes on with
pub next-day : (n : ℤ) (kind : Exception) (es fs : List (ℤ × Exception)) → pos 0 ≤ℤ n → n <ℤ pos 70_000 → fs ≡ es ++ (n, kind) ∷ [] → AreBefore n es
    → (pos 0 ≤ℤ to_z w32 (of_z w32 (n +ℤ pos 1))) × AreBefore (to_z w32 (of_z w32 (n +ℤ pos 1))) fs
next-day n kind es fs low high grown are =
    let is = to_z-of_z w32 (n +ℤ pos 1) (next-fits n low high) in
    subst (λ m. (pos 0 ≤ℤ m) × AreBefore m fs) (sym is) (omega (arith, signed_arith), subst (AreBefore (n +ℤ pos 1)) (sym grown) (one-more n kind es are))
