-- Sorted rows with distinct ids ascend.
use Rattle.std.proofs.Common.{◌≡◌, ◌<◌, ◌≤◌, ◌+◌, ℕ, zero, suc, Bool, true, cond, List, [], ◌∷◌, ◌++◌, refl, sym, ap, ◌∙◌, subst, inl, inr, length, get_or, bytes_eq, count_by, true≢false, arith}
use Rattle.std.specs.List.{All, AllPairs, Contains}
use Rattle.std.specs.List.Sorted.{IsPermutation, IsSorted}
use Rattle.std.specs.Ordering.{is_lt, on, ordering_reverse}
use Rattle.std.specs.declared.cmp.Ordering.{Ordering}
use Rattle.std.specs.declared.cmp.Ordering.TheVariants.{Less, Equal, Greater}
use Rattle.std.specs.Cmp.{tied_itself}
use Rattle.std.specs.Cmp.Lexicographic.{on_texts}
use Rattle.std.proofs.lemmas.Bool.{cases_Bool}
use Rattle.std.proofs.lemmas.List.Elements.{Contains-get_or}
use Rattle.std.proofs.lemmas.List.Kept.{AllPairs-cons}
use Rattle.std.proofs.lemmas.List.Sorted.{sum_by-IsPermutation}
use Rattle.std.proofs.lemmas.List.Sums.{sum_by-cons}
use Rattle.gtfs_field.specs.TextOrder.{text_cmp}
use Rattle.gtfs_field.proofs.TextOrderFacts.{texts_total}
use Rattle.gtfs_schema.proofs.SiteFacts.{text_is as same_bytes}
use Rattle.gtfs_rows.specs.TransferOrder.{Ascends}
use Rattle.gtfs_rows.proofs.ByKey.{ascends-from_adjacent}
use Rattle.gtfs_rows.proofs.Held.{text_antisymmetric}
use Rattle.gtfs_rows.proofs.SameElements.{contains-first, contains-later, pairs-head, pairs-tail}
use Rattle.gtfs_merge.proofs.Lookups.{bytes_same}

-- ---- pairs of two lists

pub pairs-append : {X : Type 0} (R : X → X → Type 0) (xs ys : List X) → AllPairs R xs → AllPairs R ys → ((x y : X) → Contains xs x → Contains ys y → R x y) → AllPairs R (xs ++ ys)
pairs-append R [] ys first second across = second
pairs-append {X = X} R (x ∷ xs) ys first second across =
    AllPairs-cons R x (xs ++ ys) (both xs ys (pairs-head R x xs first) (λ k d within. across x (get_or ys k d) (contains-first x x xs refl) (Contains-get_or ys k d within)))
    (pairs-append R xs ys (pairs-tail R x xs first) second (λ y z at other. across y z (contains-later y x xs at) other))
  where
    both : (us vs : List X) → All (R x) us → All (R x) vs → All (R x) (us ++ vs)
    both [] vs first second k d within = second k d within
    both (u ∷ us) vs first second zero d within = first 0 d (omega arith)
    both (u ∷ us) vs first second (suc k) d within = both us vs (λ i e below. first (suc i) e (omega arith)) second k d (omega arith)

-- ---- how often an id stands

module _ {E : Type 0} (p : E → Bool) where
  count-cons : (e : E) (es : List E) → count_by p (e ∷ es) ≡ cond (p e) 1 0 + count_by p es
  count-cons e es = sum_by-cons (λ x. cond (p x) 1 0) e es

  none : (es : List E) → All (λ e. p e ≡ true → ⊥) es → count_by p es ≡ 0
  none [] fails = refl
  none (e ∷ es) fails =
      let rest = none es (λ k d within. fails (suc k) d (omega arith)) in
      elim (cases_Bool (p e)) [
        | inl here ↦ absurd (fails 0 e (omega arith) here)
        | inr other ↦ count-cons e es ∙ (λ i. cond (other i) 1 0 + rest i)
      ]

  -- of elements that do not pass together at most one passes
  pub once : (es : List E) → AllPairs (λ e f. p e ≡ true → p f ≡ true → ⊥) es → count_by p es ≤ 1
  once [] apart = omega arith
  once (e ∷ es) apart =
      elim (cases_Bool (p e)) [
        | inl here ↦
            let head = pairs-head (λ e f. p e ≡ true → p f ≡ true → ⊥) e es apart in
            let rest = none es (λ k d within other. head k d within here other) in
            let is : count_by p (e ∷ es) ≡ 1 + 0 = count-cons e es ∙ (λ i. cond (here i) 1 0 + rest i) in
            omega arith
        | inr other ↦
            let is : count_by p (e ∷ es) ≡ 0 + count_by p es = count-cons e es ∙ ap (λ b. cond b 1 0 + count_by p es) other in
            let rest = once es (pairs-tail (λ e f. p e ≡ true → p f ≡ true → ⊥) e es apart) in
            omega arith
      ]

  -- two neighbours that pass are two
  twice : (es : List E) (k : ℕ) (d : E) → k + 1 < length es → p (get_or es k d) ≡ true → p (get_or es (k + 1) d) ≡ true → 2 ≤ count_by p es
  twice [] k d within first second = absurd (omega arith)
  twice (e ∷ []) k d within first second = absurd (omega arith)
  twice (e ∷ f ∷ es) zero d within first second =
      let is : count_by p (e ∷ f ∷ es) ≡ 1 + (1 + count_by p es) =
      count-cons e (f ∷ es) ∙ (λ i. cond (first i) 1 0 + count-cons f es i) ∙ (λ i. 1 + (cond (second i) 1 0 + count_by p es)) in
      omega arith
  twice (e ∷ f ∷ es) (suc k) d within first second =
      let next : suc k + 1 ≡ suc (k + 1) = omega arith in
      let rest = twice (f ∷ es) k d (omega arith) first (ap (λ n. p (get_or (e ∷ f ∷ es) n d)) (sym next) ∙ second) in
      let is = count-cons e (f ∷ es) in
      omega arith

-- ---- sorted rows

-- a text below another is another
pub less-apart : {x y : List ℕ} → text_cmp x y ≡ Less → x ≡ y → ⊥
less-apart {x} {y} below same =
    let tie : text_cmp x y ≡ Equal = ap (text_cmp x) (sym same) ∙ tied_itself texts_total x in
    cc

less : (r : Ordering) → r ≡ Less → is_lt r ≡ true
less r e = ap is_lt e

module _ {E : Type 0} (entry_id : E → List ℕ) where
  abbrev named : List ℕ → E → Bool
  named x e = bytes_eq x (entry_id e)

  ascends : (es : List E) → IsSorted (on entry_id text_cmp) es → ((x : List ℕ) → count_by (named x) es ≤ 1) → Ascends (on entry_id text_cmp) es
  ascends es up once = ascends-from_adjacent (on_texts entry_id) es (λ k d within. by k d within (text_cmp (entry_id (get_or es k d)) (entry_id (get_or es (k + 1) d))) refl)
    where
      by : (k : ℕ) (d : E) → k + 1 < length es → (r : Ordering) → text_cmp (entry_id (get_or es k d)) (entry_id (get_or es (k + 1) d)) ≡ r → text_cmp (entry_id (get_or es k d)) (entry_id (get_or es (k + 1) d)) ≡ Less
      by k d within Less e = e
      by k d within Equal e =
          let x = entry_id (get_or es k d) in
          let same : x ≡ entry_id (get_or es (k + 1) d) = text_antisymmetric x (entry_id (get_or es (k + 1) d)) e in
          let two = twice (named x) es k d within (bytes_same x x refl) (bytes_same x _ same) in
          let one = once x in
          absurd (omega arith)
      by k d within Greater e =
          let turned : text_cmp (entry_id (get_or es (k + 1) d)) (entry_id (get_or es k d)) ≡ Less =
          texts_total.antisymm (entry_id (get_or es (k + 1) d)) (entry_id (get_or es k d)) ∙ ap ordering_reverse e in
          absurd (true≢false (sym (less _ turned) ∙ up k d (omega arith) within))

  -- rows that are sorted by distinct ids ascend by them
  pub ascends-distinct : (source es : List E) → AllPairs (λ e f. entry_id e ≡ entry_id f → ⊥) source → IsPermutation source es → IsSorted (on entry_id text_cmp) es → Ascends (on entry_id text_cmp) es
  ascends-distinct source es apart moved up = ascends es up (λ x.
      let first = once (named x) source (λ i j d before within here there. apart i j d before within (sym (same_bytes x _ here) ∙ same_bytes x _ there)) in
      let same = sum_by-IsPermutation (λ e. cond (named x e) 1 0) source es moved in
      subst (λ n. n ≤ 1) (sym same) first)
