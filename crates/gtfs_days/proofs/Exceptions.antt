-- Lists of exceptions that ascend by day.
use Rattle.std.proofs.Common.{◌≡◌, ◌≢◌, ℕ, zero, suc, ◌+◌, ◌<◌, ◌≤◌, ◌&&◌, Bool, false, List, [], ◌∷◌, length, get_or, map, ℤ, pos, ◌<ℤ◌, int_cmp, int_eq, sym, ◌∙◌, ap, subst, inl, inr, arith}
use Rattle.std.specs.List.{All, HoldsAt, list_any, IsDistinct}
use Rattle.std.specs.List.Sorted.{IsPermutation, IsSortedByKey, IsStrictlySortedBy, IsNonDecreasingBy, IsPartitionPoint}
use Rattle.std.specs.Ordering.{is_lt, ordering_index}
use Rattle.std.specs.declared.cmp.Ordering.TheVariants.{Less, Equal, Greater}
use Rattle.std.proofs.lemmas.Bool.{cases_lt}
use Rattle.std.proofs.lemmas.Cmp.{int_cmp_total}
use Rattle.std.proofs.lemmas.Int.{ints}
use Rattle.std.proofs.lemmas.List.{get_or-map, length-map}
use Rattle.std.proofs.lemmas.List.Folds.{list_any_none}
use Rattle.std.proofs.lemmas.List.Sorted.{IsPermutation-map}
use Rattle.std.proofs.lemmas.Map.Keys.{IsDistinct-from_apart, IsDistinct-IsPermutation, apart_from_distinct, sorted_from_all_adjacent, Less-from_sorted}
use Rattle.std.proofs.Math.Bool.{or-false}
use Rattle.gtfs_field.proofs.NumberFacts.{eq-int_eq, int_eq_flips}
use Rattle.gtfs_days.specs.declared.exception.Exception.{Exception}
use Rattle.gtfs_days.specs.declared.exception.Exception.TheVariants.{Removed}
use Rattle.gtfs_days.specs.Service.{IsByDay, NamesEachDayOnce}

-- a row of calendar_dates.txt, without its service
abbrev pub Row : Type 0
Row = ℤ × Exception

pub ne-int_eq : (a b : ℤ) → a ≢ b → int_eq a b ≡ false
ne-int_eq a b h = grind (arith, ints)

less_from : (a b : ℤ) → is_lt (int_cmp b a) ≡ false → int_eq a b ≡ false → int_cmp a b ≡ Less
less_from a b h k = grind (arith, ints)

lt_from : (a b : ℤ) → int_cmp a b ≡ Less → a <ℤ b
lt_from a b h = grind (arith, ints)

-- no exception stands for a day that none of them names
pub no_exception : (kind : Exception → Bool) (d : ℤ) (es : List Row) → All (λ e. e.0 ≢ d) es → list_any (λ e. int_eq e.0 d && kind e.1) es ≡ false
no_exception kind d es apart =
    list_any_none (λ (e : Row). int_eq e.0 d && kind e.1) es (λ k e h. rw (ne-int_eq (get_or es k e).0 d (apart k e h)))

-- and ascend themselves
pub by_day_tail : (y : Row) (es : List Row) → IsByDay (y ∷ es) → IsByDay es
by_day_tail y es up = λ i j d h l. up (suc i) (suc j) d (omega arith) (omega arith)

-- the exceptions after the first name later days
pub by_day_head : (y : Row) (es : List Row) → IsByDay (y ∷ es) → All (λ e. y.0 <ℤ e.0) es
by_day_head y es up = λ k d h. up 0 (suc k) d (omega arith) (omega arith)

-- in ascending order, the exception that names a day is the only one for it
pub one_exception : (kind : Exception → Bool) (d : ℤ) (es : List Row) (i : ℕ) (x : Row) → IsByDay es → i < length es → (get_or es i x).0 ≡ d → list_any (λ e. int_eq e.0 d && kind e.1) es ≡ kind (get_or es i x).1
one_exception kind d [] i x up h e = absurd (omega arith)
one_exception kind d (y ∷ es) zero x up h e =
    let later : All (λ (z : Row). z.0 ≢ d) es = λ k z l same. let after = by_day_head y es up k z l in omega (arith, ints) in
    rw (eq-int_eq y.0 d e, no_exception kind d es later) (or-false (kind y.1))
one_exception kind d (y ∷ es) (suc i) x up h e =
    let before : y.0 <ℤ (get_or es i x).0 = by_day_head y es up i x (omega arith) in
    let apart : y.0 ≢ d = λ same. omega (arith, ints) in
    rw (ne-int_eq y.0 d apart) (one_exception kind d es i x (by_day_tail y es up) (omega arith) e)

-- distinct days that a sort put in order ascend
pub by_day_from_sort : (es fs : List Row) → NamesEachDayOnce es → IsPermutation es fs → IsSortedByKey (λ e. e.0) int_cmp fs → IsByDay fs
by_day_from_sort es fs once moved sorted =
    let day : Row → ℤ = λ e. e.0 in
    let here : (xs : List Row) (k : ℕ) (d : Row) (z : ℤ) → k < length xs → get_or (map day xs) k z ≡ (get_or xs k d).0 = λ xs k d z h. get_or-map day xs k d z h in
    let apart : IsDistinct int_eq (map day es) = IsDistinct-from_apart int_eq (map day es) (λ i j z h l.
    let l' : j < length es = omega (arith, length-map es day) in
    rw (here es i (z, Removed) z (omega arith), here es j (z, Removed) z l') (ne-int_eq _ _ (once i j (z, Removed) h l'))) in
    let apart' : IsDistinct int_eq (map day fs) = IsDistinct-IsPermutation int_eq int_eq_flips _ _ (IsPermutation-map day es fs moved) apart in
    let rises : IsStrictlySortedBy int_cmp (map day fs) = sorted_from_all_adjacent int_cmp_total (map day fs) (pos 0) (λ k l.
    let l' : k + 1 < length fs = omega (arith, length-map fs day) in
    let not_less = sorted k (pos 0, Removed) (omega arith) l' in
    let not_same = apart_from_distinct int_eq (map day fs) k (k + 1) (pos 0) apart' (omega arith) l in
    less_from (get_or (map day fs) k (pos 0)) (get_or (map day fs) (k + 1) (pos 0)) (rw (here fs (k + 1) (pos 0, Removed) (pos 0) l', here fs k (pos 0, Removed) (pos 0) (omega arith)) not_less) not_same) in
    λ i j d h l.
    let l' : j < length (map day fs) = omega (arith, length-map fs day) in
    let below = Less-from_sorted int_cmp (map day fs) i j d.0 rises h l' in
    lt_from (get_or fs i d).0 (get_or fs j d).0 (rw (here fs i d d.0 (omega arith), here fs j d d.0 l) at below)

same_from : (a b : ℤ) → int_cmp a b ≡ Equal → a ≡ b
same_from a b h = grind (arith, ints)

-- what a binary search by day found is the one exception for the day
pub found_exception : (kind : Exception → Bool) (d : ℤ) (es : List Row) (i : ℕ) (x : Row) → IsByDay es → i < length es → HoldsAt (λ e. int_cmp e.0 d ≡ Equal) es i → x ≡ get_or es i x → list_any (λ e. int_eq e.0 d && kind e.1) es ≡ kind x.1
found_exception kind d es i x up h found is =
    let here : (get_or es i x).0 ≡ d = same_from _ _ (found x) in
    one_exception kind d es i x up h here ∙ ap (λ (y : Row). kind y.1) (sym is)

greater_from : (a b : ℤ) → int_cmp a b ≡ Greater → b <ℤ a
greater_from a b h = grind (arith, ints)

index_rises : (a b d : ℤ) → a <ℤ b → ordering_index (int_cmp a d) ≤ ordering_index (int_cmp b d)
index_rises a b d h = grind (arith, ints)

searchable : (d : ℤ) (es : List Row) → IsByDay es → IsNonDecreasingBy (λ e. ordering_index (int_cmp e.0 d)) es
searchable d es up i j x h l = elim (cases_lt i j) [
  | inl before ↦ index_rises _ _ d (up i j x before l)
  | inr after ↦
      let same : i ≡ j = omega arith in
      let F : ℕ → Type 0 = λ k. ordering_index (int_cmp (get_or es i x).0 d) ≤ ordering_index (int_cmp (get_or es k x).0 d) in
      subst F same (omega arith)
]

-- where a binary search by day found none, there is none
pub missing_exception : (kind : Exception → Bool) (d : ℤ) (es : List Row) (i : ℕ) → IsByDay es → (IsNonDecreasingBy (λ e. ordering_index (int_cmp e.0 d)) es → IsPartitionPoint (λ e. int_cmp e.0 d ≡ Less) (λ e. int_cmp e.0 d ≡ Greater) es i) → list_any (λ e. int_eq e.0 d && kind e.1) es ≡ false
missing_exception kind d es i up searched =
    let sides = searched (searchable d es up) in
    no_exception kind d es (λ k x h same. elim (cases_lt k i) [
      | inl before ↦ let less = lt_from (get_or es k x).0 d (sides.0 k x (omega arith) before) in omega (arith, ints)
      | inr after ↦ let more = greater_from (get_or es k x).0 d (sides.1 k x after h) in omega (arith, ints)
    ])
