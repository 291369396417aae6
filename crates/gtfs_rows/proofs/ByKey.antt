-- Rows ascending by a key: the list that a sort leaves.
use Rattle.std.proofs.Common.{◌≡◌, suc, ◌&&◌, true, false, cond, List, [], ◌∷◌, length, map, Some, None, refl, sym, ◌∙◌, ap, subst, inl, inr, arith}
use Rattle.std.specs.FinMap as table
use Rattle.std.specs.FinMap.Entries.{below_all}
use Rattle.std.specs.Cmp.{IsTotalOrder}
use Rattle.std.specs.declared.cmp.Ordering.{Ordering}
use Rattle.std.specs.declared.cmp.Ordering.TheVariants.{Less, Equal, Greater}
use Rattle.std.specs.Ordering.{is_eq, is_lt, eq_by_cmp, on}
use Rattle.std.specs.List.{All, AllAdjacentBelow, Contains}
use Rattle.std.proofs.lemmas.Map.Keys.{sorted_from_all_adjacent, Less-from_sorted}
use lib.Dec.{T}
use Rattle.gtfs_field.proofs.OrderingFacts.{equal as tie-from}
use Rattle.gtfs_field.proofs.TestFacts.{both_so as both_true}
use Rattle.gtfs_rows.specs.TransferOrder.{Ascends}
use Rattle.gtfs_rows.specs.TransferOrder.{by_key}
use Rattle.gtfs_rows.proofs.SameElements.{SameElements, contains-first, contains-later, contains-cases, contains-none, same-map, pairs-head, pairs-tail, pairs-map}

-- a list of which each element is below the next ascends
pub ascends-from_adjacent : {X : Type 0} {order : X → X → Ordering} → IsTotalOrder order → (xs : List X) → AllAdjacentBelow (λ x y. order x y ≡ Less) xs (length xs) → Ascends order xs
ascends-from_adjacent {order = order} o xs up = λ i j d h l. Less-from_sorted order xs i j d (sorted_from_all_adjacent o xs d (λ k below. up k d below)) h l

module _ {K X : Type 0} (order : K → K → Ordering) (o : IsTotalOrder order) (key : X → K) where
  abbrev keyed : List X → List (K × X)
  keyed xs = map (λ x. (key x, x)) xs

  found : (q : K) (rows : List X) (x : X) → table.find order q (keyed rows) ≡ Some x → Contains rows x × (order q (key x) ≡ Equal)
  found q [] x e = cc
  found q (y ∷ rows) x e =
      elim (eq_by_cmp order q (key y)) as (λ b. eq_by_cmp order q (key y) ≡ b → cond b (Some y) (table.find order q (keyed rows)) ≡ Some x → Contains (y ∷ rows) x × (order q (key x) ≡ Equal)) [
        | true ↦ λ ties here.
            let same : y ≡ x = cc in
            (contains-first x y rows same, sym (ap (λ z. order q (key z)) same) ∙ tie-from _ ties)
        | false ↦ λ ties here. let rest = found q rows x here in (contains-later x y rows rest.0, rest.1)
      ] refl e

  not_missed : (q : K) (rows : List X) (x : X) → Contains rows x → order q (key x) ≡ Equal → table.find order q (keyed rows) ≡ None → ⊥
  not_missed q [] x at tie e = contains-none x at
  not_missed q (y ∷ rows) x at tie e = elim (contains-cases x y rows at) [
    | inl same ↦
        let ties : eq_by_cmp order q (key y) ≡ true = ap (λ z. is_eq (order q (key z))) same ∙ ap is_eq tie in
        let none : cond true (Some y) (table.find order q (keyed rows)) ≡ None = subst (λ b. cond b (Some y) (table.find order q (keyed rows)) ≡ None) ties e in
        cc
    | inr later ↦
        elim (eq_by_cmp order q (key y)) as (λ b. cond b (Some y) (table.find order q (keyed rows)) ≡ None → ⊥) [
          | true ↦ λ none. cc
          | false ↦ λ none. not_missed q rows x later tie none
        ] e
  ]

  -- in an ascending list the one element that ties is found
  found_ascending : (q : K) (xs : List X) (x : X) → Ascends (on key order) xs → Contains xs x → order q (key x) ≡ Equal → table.find order q (keyed xs) ≡ Some x
  found_ascending q [] x up at tie = absurd (contains-none x at)
  found_ascending q (y ∷ xs) x up at tie = elim (contains-cases x y xs at) [
    | inl same ↦
        let ties : eq_by_cmp order q (key y) ≡ true = ap (λ z. is_eq (order q (key z))) same ∙ ap is_eq tie in
        subst (λ b. cond b (Some y) (table.find order q (keyed xs)) ≡ Some x) (sym ties) (ap Some same)
    | inr later ↦
        let below : All (λ z. order (key y) (key z) ≡ Less) xs = pairs-head (λ a b. order (key a) (key b) ≡ Less) y xs up in
        let less : order (key y) (key x) ≡ Less = subst (λ z. order (key y) (key z) ≡ Less) later.2 (below later.0 x later.1) in
        let rest = found_ascending q xs x (pairs-tail (λ a b. order (key a) (key b) ≡ Less) y xs up) later tie in
        elim (order q (key y)) as (λ r. order q (key y) ≡ r → cond (is_eq r) (Some y) (table.find order q (keyed xs)) ≡ Some x) [
          | Less ↦ λ e. rest
          | Equal ↦ λ e. let bad : Equal ≡ Less = sym tie ∙ o.congr q (key y) (key x) e ∙ less in cc
          | Greater ↦ λ e. rest
        ] refl
  ]

  found_alike : (rows xs : List X) → SameElements rows xs → Ascends (on key order) xs → (q : K) → table.find order q (keyed rows) ≡ table.find order q (keyed xs)
  found_alike rows xs same up q =
      elim (table.find order q (keyed rows)) as (λ r. table.find order q (keyed rows) ≡ r → r ≡ table.find order q (keyed xs)) [
        | Some x ↦ λ e. let at = found q rows x e in sym (found_ascending q xs x up (same.there x at.0) at.1)
        | None ↦ λ e.
            elim (table.find order q (keyed xs)) as (λ r. table.find order q (keyed xs) ≡ r → None ≡ r) [
              | Some x ↦ λ f. let at = found q xs x f in absurd (not_missed q rows x (same.back x at.0) at.1 e)
              | None ↦ λ f. refl
            ] refl
      ] refl

  below_keyed : (k : K) (xs : List X) → All (λ x. order k (key x) ≡ Less) xs → T (below_all order k (keyed xs))
  below_keyed k [] up = tt
  below_keyed k (x ∷ xs) up =
      subst (λ r. T (is_lt r && below_all order k (keyed xs))) (sym (up 0 x (omega arith))) (below_keyed k xs (λ i d h. up (suc i) d (omega arith)))

  sorted_keyed : (xs : List X) → Ascends (on key order) xs → T (table.is_sorted order (keyed xs))
  sorted_keyed [] up = tt
  sorted_keyed (x ∷ xs) up =
      both_true _ _ (below_keyed (key x) xs (pairs-head (λ a b. order (key a) (key b) ≡ Less) x xs up)) (sorted_keyed xs (pairs-tail (λ a b. order (key a) (key b) ≡ Less) x xs up))

  values_keyed : (xs : List X) → map (λ e. e.1) (keyed xs) ≡ xs
  values_keyed [] = refl
  values_keyed (x ∷ xs) = ap (λ ys. x ∷ ys) (values_keyed xs)

  -- rows by key are the ascending list of the same elements
  pub by_key_is : table.IsAntisymmetric order → (rows xs : List X) → SameElements rows xs → Ascends (on key order) xs → by_key order key rows ≡ xs
  by_key_is antisymmetric rows xs same up =
      let sorted = sorted_keyed xs up in
      let maps : table.from_entries {R = order} (keyed rows) ≡ table.from_sorted {R = order} (keyed xs) =
      table.same_map o antisymmetric _ _ (λ q. table.get-from_entries o (keyed rows) q ∙ found_alike rows xs same up q ∙ sym (table.get-from_sorted order (keyed xs) q sorted)) in
      ap table.values maps ∙ ap (map (λ e. e.1)) (table.entries-from_sorted order (keyed xs) sorted) ∙ values_keyed xs

-- the same for rows that a function gives
pub by_key_map : {A K X : Type 0} (order : K → K → Ordering) (o : IsTotalOrder order) → table.IsAntisymmetric order → (key : X → K) (f : A → X) (rows xs : List A) → SameElements rows xs → Ascends (λ x y. order (key (f x)) (key (f y))) xs → by_key order key (map f rows) ≡ map f xs
by_key_map order o antisymmetric key f rows xs same up =
    by_key_is order o key antisymmetric (map f rows) (map f xs) (same-map f rows xs same) (pairs-map f (λ x y. order (key x) (key y) ≡ Less) xs up)
