-- No day stands twice exactly where the days, put in order, rise.
use Rattle.std.proofs.Common.{◌≡◌, ℕ, ◌+◌, ◌<◌, Bool, true, false, List, [], ◌∷◌, ◌++◌, map, length, get_or, take, drop, Option, Some, None, ℤ, pos, int_cmp, refl, sym, ap, subst, ◌∙◌, inl, inr, arith}
use Rattle.std.specs.Prelude.{not, if◌then◌else◌, option_and_then, option_map, int_lt}
use Rattle.std.specs.List.{list_all, AllByRecursion, IsAllAdjacentAnswer, IsDistinct}
use Rattle.std.specs.List.Sorted.{IsPermutation, IsSorted}
use Rattle.std.specs.Ordering.{int_eq, is_lt}
use Rattle.std.specs.declared.cmp.Ordering.TheVariants.{Less}
use Rattle.std.proofs.lemmas.Bool.{and_from as and_both, cases_Bool, not-true as not_true}
use Rattle.std.proofs.lemmas.Cmp.{int_cmp_total}
use Rattle.std.proofs.lemmas.Int.{ints}
use Rattle.std.proofs.lemmas.List.{drop_more, get_or-map, length-map, map-append, take-append-drop, take_more}
use Rattle.std.proofs.lemmas.List.Sorted.{IsPermutation-sym}
use Rattle.std.proofs.lemmas.Map.Keys.{IsDistinct-IsPermutation, IsDistinct-from_apart, apart_from_distinct, Less-from_sorted, sorted_from_all_adjacent}
use Rattle.gtfs_field.proofs.NumberFacts.{int_eq_flips as flips}
use Rattle.gtfs_days.specs.Service.{NamesEachDayOnce}
use Rattle.gtfs_days.specs.declared.exception.Exception.{Exception}
use Rattle.gtfs_schema.specs.KeyRules.{all_there}
use Rattle.gtfs_trip_rules.specs.ServiceCalendars.{each_day_once, exceptions_of_rows}
use Rattle.gtfs_schema.proofs.BoolFacts.{and_parts, no_test}

-- ---- one more row

pub all_there_more : {X : Type 0} (os : List (Option X)) (xs : List X) (x : X) → all_there os ≡ Some xs → all_there (os ++ Some x ∷ []) ≡ Some (xs ++ x ∷ [])
all_there_more [] xs x e = let none : [] ≡ xs = cc in ap (λ ys. Some (ys ++ x ∷ [])) none
all_there_more (None ∷ os) xs x e = cc e
all_there_more {X} (Some y ∷ os) xs x e =
    elim (all_there os) as (λ (r : Option (List X)). all_there os ≡ r → option_map (λ ys. y ∷ ys) r ≡ Some xs → all_there (Some y ∷ os ++ Some x ∷ []) ≡ Some (xs ++ x ∷ [])) [
      | None ↦ λ is f. cc f
      | Some ys ↦ λ is f. let whole : y ∷ ys ≡ xs = cc in
          ap (option_map (λ zs. y ∷ zs)) (all_there_more os ys x is) ∙ ap (λ zs. Some (zs ++ x ∷ [])) whole
    ] refl e

pub all_there_none : {X : Type 0} (os ps : List (Option X)) → all_there (os ++ None ∷ ps) ≡ None
all_there_none [] ps = refl
all_there_none (None ∷ os) ps = refl
all_there_none (Some y ∷ os) ps = ap (option_map (λ ys. y ∷ ys)) (all_there_none os ps)

module _ {A B X : Type 0} (g : B → Option X) (h : A → B) (rs : List A) (i : ℕ) (d : A) (inside : i < length rs) where
  abbrev at : Option X
  at = g (h (get_or rs i d))

  taken : map g (map h (take (i + 1) rs)) ≡ map g (map h (take i rs)) ++ at ∷ []
  taken = ap (λ ys. map g (map h ys)) (take_more rs i d inside) ∙ ap (map g) (map-append h (take i rs) (get_or rs i d ∷ [])) ∙ map-append g (map h (take i rs)) (h (get_or rs i d) ∷ [])

  pub read_more : (xs : List X) (x : X) → all_there (map g (map h (take i rs))) ≡ Some xs → at ≡ Some x → all_there (map g (map h (take (i + 1) rs))) ≡ Some (xs ++ x ∷ [])
  read_more xs x before is = ap all_there (taken ∙ ap (λ o. map g (map h (take i rs)) ++ o ∷ []) is) ∙ all_there_more (map g (map h (take i rs))) xs x before

  pub read_none : at ≡ None → all_there (map g (map h rs)) ≡ None
  read_none is =
      let rest : map g (map h rs) ≡ map g (map h (take i rs)) ++ at ∷ map g (map h (drop (i + 1) rs)) =
      ap (λ ys. map g (map h ys)) (sym (take-append-drop i rs) ∙ ap (λ ys. take i rs ++ ys) (drop_more rs i d inside))
      ∙ ap (map g) (map-append h (take i rs) (get_or rs i d ∷ drop (i + 1) rs)) ∙ map-append g (map h (take i rs)) (h (get_or rs i d) ∷ map h (drop (i + 1) rs)) in
      ap all_there (rest ∙ ap (λ o. map g (map h (take i rs)) ++ o ∷ map g (map h (drop (i + 1) rs))) is) ∙ all_there_none (map g (map h (take i rs))) (map g (map h (drop (i + 1) rs)))

-- ---- days apart

abbrev days : List (ℤ × Exception) → List ℤ
days es = map (λ e. e.0) es

head_apart : (d : ℤ) (es : List (ℤ × Exception)) → list_all (λ f. not (int_eq f.0 d)) es ≡ true → AllByRecursion (λ y. int_eq d y ≡ false) (days es)
head_apart d [] h = tt
head_apart d (e ∷ es) h =
    let parts = and_parts (not (int_eq e.0 d)) (list_all (λ f. not (int_eq f.0 d)) es) h in
    (flips d e.0 ∙ not_true (int_eq e.0 d) parts.0, head_apart d es parts.1)

apart_head : (d : ℤ) (es : List (ℤ × Exception)) → AllByRecursion (λ y. int_eq d y ≡ false) (days es) → list_all (λ f. not (int_eq f.0 d)) es ≡ true
apart_head d [] h = refl
apart_head d (e ∷ es) h = and_both (not (int_eq e.0 d)) (list_all (λ f. not (int_eq f.0 d)) es) (ap not (flips e.0 d ∙ h.0)) (apart_head d es h.1)

pub once_distinct : (es : List (ℤ × Exception)) → each_day_once es ≡ true → IsDistinct int_eq (days es)
unfolding IsDistinct
once_distinct [] h = tt
once_distinct (e ∷ es) h =
    let parts = and_parts (list_all (λ f. not (int_eq f.0 e.0)) es) (each_day_once es) h in
    (head_apart e.0 es parts.0, once_distinct es parts.1)

distinct_once : (es : List (ℤ × Exception)) → IsDistinct int_eq (days es) → each_day_once es ≡ true
unfolding IsDistinct
distinct_once [] h = refl
distinct_once (e ∷ es) h = and_both (list_all (λ f. not (int_eq f.0 e.0)) es) (each_day_once es) (apart_head e.0 es h.0) (distinct_once es h.1)

not_same : (a b : ℤ) → int_eq a b ≡ false → a ≡ b → ⊥
not_same a b h e = let same : int_eq a b ≡ true = grind (arith, ints) in cc (sym same ∙ h)

pub names_once : (es : List (ℤ × Exception)) → each_day_once es ≡ true → NamesEachDayOnce es
names_once es h i j d before l same =
    let inside : j < length (days es) = omega (arith, length-map es (λ (e : ℤ × Exception). e.0)) in
    let apart = apart_from_distinct int_eq (days es) i j d.0 (once_distinct es h) before inside in
    let at_i : get_or (days es) i d.0 ≡ (get_or es i d).0 = get_or-map (λ (e : ℤ × Exception). e.0) es i d d.0 (omega arith) in
    let at_j : get_or (days es) j d.0 ≡ (get_or es j d).0 = get_or-map (λ (e : ℤ × Exception). e.0) es j d d.0 l in
    not_same _ _ apart (at_i ∙ same ∙ sym at_j)

-- ---- days put in order

less-from : (a b : ℤ) → true ≡ int_lt a b → int_cmp a b ≡ Less
less-from a b h = grind (arith, ints)

unequal-from : (a b : ℤ) → int_cmp a b ≡ Less → int_eq a b ≡ false
unequal-from a b h = grind (arith, ints)

rises-from : (a b : ℤ) → is_lt (int_cmp b a) ≡ false → int_eq a b ≡ false → false ≡ int_lt a b → ⊥
rises-from a b h k e = grind (arith, ints)

rising_distinct : (xs : List ℤ) → IsAllAdjacentAnswer (λ x y b. b ≡ int_lt x y) xs true → IsDistinct int_eq xs
rising_distinct xs rises = IsDistinct-from_apart int_eq xs (λ i j d before l.
    unequal-from (get_or xs i d) (get_or xs j d) (Less-from_sorted int_cmp xs i j d
    (sorted_from_all_adjacent int_cmp_total xs d (λ k below. less-from (get_or xs k d) (get_or xs (k + 1) d) (rises k d below))) before l))

distinct_rising : (xs : List ℤ) → IsSorted int_cmp xs → IsDistinct int_eq xs → IsAllAdjacentAnswer (λ x y b. b ≡ int_lt x y) xs false → ⊥
distinct_rising xs sorted distinct answer =
    let k = answer.0 in
    let inside = answer.1 in
    rises-from (get_or xs k (pos 0)) (get_or xs (k + 1) (pos 0)) (sorted k (pos 0) (omega arith) (omega (arith, inside)))
    (apart_from_distinct int_eq xs k (k + 1) (pos 0) distinct (omega arith) (omega (arith, inside))) (answer.2 (pos 0))

moved_once : (es : List (ℤ × Exception)) (xs : List ℤ) (r : Bool) → IsPermutation (days es) xs → IsSorted int_cmp xs
    → IsAllAdjacentAnswer (λ x y b. b ≡ int_lt x y) xs r → r ≡ each_day_once es
moved_once es xs true moved sorted answer =
    sym (distinct_once es (IsDistinct-IsPermutation int_eq flips xs (days es) (IsPermutation-sym (days es) xs moved) (rising_distinct xs answer)))
moved_once es xs false moved sorted answer =
    sym (no_test (each_day_once es) (λ once. absurd (distinct_rising xs sorted (IsDistinct-IsPermutation int_eq flips (days es) xs moved (once_distinct es once)) answer)))

pub once_is : (es : List (ℤ × Exception)) (xs ys : List ℤ) (r : Bool) → xs ≡ days es → IsPermutation xs ys → IsSorted int_cmp ys
    → IsAllAdjacentAnswer (λ x y b. b ≡ int_lt x y) ys r → r ≡ each_day_once es
once_is es xs ys r is moved sorted answer = moved_once es ys r (subst (λ zs. IsPermutation zs ys) is moved) sorted answer

-- exceptions that were taken as sound name each day once
pub taken_once : (read : ℕ → Option (ℤ × Exception)) (ns : List ℕ) (es : List (ℤ × Exception)) → Some es ≡ exceptions_of_rows read ns → each_day_once es ≡ true
taken_once read ns es is =
    elim (all_there (map read ns)) as (λ (o : Option (List (ℤ × Exception))). Some es ≡ option_and_then (λ fs. if each_day_once fs then Some fs else None) o → each_day_once es ≡ true) [
      | None ↦ λ e. cc e
      | Some fs ↦ λ e. elim (cases_Bool (each_day_once fs)) [
        | inl once ↦ let same : Some es ≡ Some fs = e ∙ ap (λ b. if b then Some fs else None) once in let whole : es ≡ fs = cc in ap each_day_once whole ∙ once
        | inr twice ↦ let none : Some es ≡ None = e ∙ ap (λ b. if b then Some fs else None) twice in cc none
      ]
    ] is
