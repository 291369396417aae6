-- All stops with a place, listed one by one.
use Rattle.std.proofs.Common.{◌≡◌, ◌≤◌, ◌<◌, ◌+◌, ◌∙◌, ◌++◌, ◌∷◌, [], ◌⊎◌, inl, inr, ℕ, ◌≢◌, true, false, List, sym, ap, subst, arith, length, get_or, true≢false}
use Rattle.std.specs.Prelude.{option_map}
use Rattle.std.specs.List.{Any, All}
use Rattle.std.specs.List.Sorted.{IsPermutation}
use Rattle.std.proofs.lemmas.List.{get_or-set_other, get_or-set_same, get_or_append_left, get_or_default, length-append, length-set}
use Rattle.std.proofs.Math.ListN.{set}
use Rattle.std.proofs.lemmas.List.Elements.{All-push, All-set}
use Rattle.std.proofs.lemmas.List.Quantifiers.{Any-push}
use Rattle.std.proofs.lemmas.List.Sorted.{All-permutation, Contains-permutation}
use Rattle.gtfs_rows.specs.declared.stop.Stop.{Stop}
use Rattle.gtfs_nearby.specs.AreaTree.{AreListed, AreStillListed, IsListed}
use Rattle.gtfs_nearby.specs.PlacedStops.{IsPlacedStop, can_be_near}
use Rattle.gtfs_nearby.specs.declared.listed.Listed.{Listed}

-- of the first stops, those with a place are listed
pub record AreListedSoFar (stops : List Stop) (n : ℕ) (xs : List Listed) : Type 0 where
  pub listed : All (IsListed stops) xs
  pub all : (k : ℕ) (d : Stop) → k < n → can_be_near (get_or stops k d) ≡ true → Any (λ x. x.number ≡ k) xs

pub none-listed : (stops : List Stop) → AreListedSoFar stops 0 []
none-listed stops = record { listed = λ k d h. absurd (omega arith); all = λ k d h. absurd (omega arith) }

cases : (n k : ℕ) → k < n + 1 → (k < n) ⊎ (k ≡ n)
cases n k h = grind arith

any-kept : (xs : List Listed) (x : Listed) (k : ℕ) → Any (λ y. y.number ≡ k) xs → Any (λ y. y.number ≡ k) (xs ++ x ∷ [])
any-kept xs x k it =
    let at = get_or_append_left xs (x ∷ []) it.1 it.0 it.2 in
    (it.0, it.1, omega (arith, length-append xs (x ∷ []), it.2), at ∙ it.3, it.4)

pub one-listed : (stops : List Stop) (n : ℕ) (xs ys : List Listed) (s : Stop) (x : Listed) → n < length stops → s ≡ get_or stops n s → x.number ≡ n
    → IsPlacedStop s (option_map (λ m. m.0) s.parent_station) x.place → ys ≡ xs ++ x ∷ [] → AreListedSoFar stops n xs → AreListedSoFar stops (n + 1) ys
one-listed stops n xs ys s x within is number place new so_far = record {
  listed = subst (All (IsListed stops)) (sym new) (All-push (IsListed stops) xs x so_far.listed (record {
    within = omega (arith, number, within);
    place = λ d. subst (λ t. IsPlacedStop t (option_map (λ m. m.0) t.parent_station) x.place) (is ∙ get_or_default stops n s d within ∙ ap (λ k. get_or stops k d) (sym number)) place;
  }));
  all = λ k d h has_it. elim (cases n k h) as (λ w. Any (λ y. y.number ≡ k) ys) [
    | inl l ↦ subst (Any (λ y. y.number ≡ k)) (sym new) (any-kept xs x k (so_far.all k d l has_it))
    | inr e ↦ subst (Any (λ y. y.number ≡ k)) (sym new) (Any-push (λ y. y.number ≡ k) xs x (number ∙ sym e))
  ];
}

pub none-more : (stops : List Stop) (n : ℕ) (xs ys : List Listed) (s : Stop) → n < length stops → s ≡ get_or stops n s → can_be_near s ≡ false → ys ≡ xs → AreListedSoFar stops n xs → AreListedSoFar stops (n + 1) ys
none-more stops n xs ys s within is none same so_far = record {
  listed = subst (All (IsListed stops)) (sym same) so_far.listed;
  all = λ k d h has_it. elim (cases n k h) as (λ w. Any (λ y. y.number ≡ k) ys) [
    | inl l ↦ subst (Any (λ y. y.number ≡ k)) (sym same) (so_far.all k d l has_it)
    | inr e ↦ absurd (true≢false (sym has_it ∙ ap can_be_near (sym (is ∙ get_or_default stops n s d within ∙ ap (λ j. get_or stops j d) (sym e))) ∙ none))
  ];
}

pub all-listed : (stops : List Stop) (n : ℕ) (xs : List Listed) → length stops ≤ n → AreListedSoFar stops n xs → AreListed stops xs
all-listed stops n xs all so_far = record { listed = so_far.listed; all = λ k d h. so_far.all k d (omega (arith, h)) }

pub listed-moved : (stops : List Stop) (xs ys : List Listed) → IsPermutation xs ys → AreListed stops xs → AreListed stops ys
listed-moved stops xs ys moved are = record {
  listed = All-permutation (IsListed stops) xs ys moved are.listed;
  all = λ k d h has_it.
      let it = are.all k d h has_it in
      let there = Contains-permutation xs ys it.1 moved (it.0, it.2, it.3) in
      (there.0, it.1, there.1, there.2, it.4);
}

-- ---- another order of a listed stop

pub still_listed-moved : (xs ys : List Listed) → IsPermutation xs ys → AreStillListed xs ys
still_listed-moved xs ys moved stops are = listed-moved stops xs ys moved are

pub still_listed-ordered : (xs ys zs : List Listed) (n : ℕ) (d x : Listed) → n < length ys → x.number ≡ (get_or ys n d).number → x.place ≡ (get_or ys n d).place → zs ≡ set ys n x → AreStillListed xs ys → AreStillListed xs zs
still_listed-ordered xs ys zs n d x within number place written still stops are = subst (AreListed stops) (sym written) (record {
  listed = All-set (IsListed stops) ys n x (record {
    within = let old = before.listed n d within in subst (λ m. m < length stops) (sym number) old.within;
    place = λ e.
        let old = before.listed n d within in
        subst (λ p. IsPlacedStop (get_or stops x.number e) (option_map (λ m. m.0) (get_or stops x.number e).parent_station) p) (sym place)
        (subst (λ j. IsPlacedStop (get_or stops j e) (option_map (λ m. m.0) (get_or stops j e).parent_station) (get_or ys n d).place) (sym number) (old.place e));
  }) before.listed;
  all = λ k e h has_it. let it = before.all k e h has_it in elim (same_or_not it.0) as (λ w. Any (λ y. y.number ≡ k) (set ys n x)) [
    | inl same ↦ (
      n,
      x,
      omega (arith, within, length-set ys n x),
      get_or-set_same ys n x x within,
      number ∙ ap (λ y. y.number) (get_or_default ys n d it.1 within ∙ ap (λ j. get_or ys j it.1) (sym same) ∙ it.3) ∙ it.4,
    )
    | inr other ↦ (it.0, it.1, omega (arith, it.2, length-set ys n x), get_or-set_other ys n it.0 x it.1 other ∙ it.3, it.4)
  ];
})
  where
    before : AreListed stops ys
    before = still stops are

    same_or_not : (k : ℕ) → (k ≡ n) ⊎ (k ≢ n)
    same_or_not k = grind arith
