-- The least number of a near stop, from a search of its run.
use Rattle.std.proofs.Common.{◌≡◌, ◌≤◌, ◌<◌, ◌+◌, ◌*◌, ◌∙◌, ◌∷◌, [], ℕ, zero, suc, Bool, true, false, cond, not, List, Option, Some, None, refl, sym, ap, subst, arith, length, get_or, nat_lt}
use Rattle.std.specs.Prelude.{is_some, option_map, position}
use Rattle.std.specs.List.{position_or_len}
use Rattle.std.specs.Bool.{then_some}
use Rattle.std.proofs.lemmas.Bool.{lt-ltb, ltb-false, ltb-true}
use Rattle.std.proofs.lemmas.Bool.Decides.{nat_tests}
use Rattle.gtfs_field.proofs.ListFacts.{some_of}
use Rattle.gtfs_stop_times.specs.declared.numbers.StopNo.{StopNo}
use Rattle.gtfs_rows.specs.declared.stop.Stop.{Stop}
use Rattle.gtfs_nearby.specs.MapAreas.{area_around, has}
use Rattle.gtfs_nearby.specs.AreaTree.{IsIndex, IsRun}
use Rattle.gtfs_nearby.specs.NearRows.{is_near_row}
use Rattle.gtfs_nearby.specs.PlacedStops.{IsPlacedStop, can_be_near}
use Rattle.gtfs_nearby.specs.TreeSearch.{IsLeastOfRun}
use Rattle.gtfs_nearby.specs.declared.tree.Node.{Node}
use Rattle.gtfs_nearby.specs.declared.listed.Listed.{Listed}
use Rattle.gtfs_nearby.specs.declared.placed_stop.PlacedStop.{PlacedStop}
use Rattle.gtfs_nearby.specs.declared.run.Run.{Run}
use Rattle.gtfs_nearby.proofs.Places.{IsParent, near-back, near-group, near-inside, near-placed, orphan}

no_test : (a : Bool) → (a ≡ true → false ≡ true) → a ≡ false
no_test true f = sym (f refl)
no_test false f = refl

-- ---- the first that passes

module _ {X : Type 0} (p : X → Bool) where
  first-index : (xs : List X) (m : ℕ) → m < length xs → ((d : X) → p (get_or xs m d) ≡ true) → ((k : ℕ) (d : X) → k < m → p (get_or xs k d) ≡ false) → position_or_len p xs ≡ m
  first-index [] m within at before = absurd (omega arith)
  first-index (x ∷ xs) zero within at before = ap (λ b. cond (not b) (1 + position_or_len p xs) 0) (at x)
  first-index (x ∷ xs) (suc m) within at before =
      ap (λ b. cond (not b) (1 + position_or_len p xs) 0) (before 0 x (omega arith))
      ∙ ap (λ n. 1 + n) (first-index xs m (omega arith) at (λ k d h. before (suc k) d (omega arith)))
      ∙ omega arith

  no-index : (xs : List X) → ((k : ℕ) (d : X) → k < length xs → p (get_or xs k d) ≡ false) → position_or_len p xs ≡ length xs
  no-index [] none = refl
  no-index (x ∷ xs) none =
      ap (λ b. cond (not b) (1 + position_or_len p xs) 0) (none 0 x (omega arith))
      ∙ ap (λ n. 1 + n) (no-index xs (λ k d h. none (suc k) d (omega arith)))
      ∙ omega arith

  pub first-is : (xs : List X) (m : ℕ) → m < length xs → ((d : X) → p (get_or xs m d) ≡ true) → ((k : ℕ) (d : X) → k < m → p (get_or xs k d) ≡ false) → position p xs ≡ Some m
  first-is xs m within at before = (λ i. cond (nat_lt (first-index xs m within at before i) (length xs)) (Some (first-index xs m within at before i)) None) ∙ ap (λ b. cond b (Some m) None) (lt-ltb m (length xs) within)

  pub none-is : (xs : List X) → ((k : ℕ) (d : X) → k < length xs → p (get_or xs k d) ≡ false) → position p xs ≡ None
  none-is xs none = (λ i. cond (nat_lt (no-index xs none i) (length xs)) (Some (no-index xs none i)) None) ∙ ap (λ b. cond b (Some (length xs)) None) (itself (length xs))
    where
      itself : (n : ℕ) → nat_lt n n ≡ false
      itself n = grind (arith, nat_tests)

-- ---- where a search cannot begin

pub nowhere : (n : ℕ) (stops : List Stop) (y : Stop) (became : Option ℕ) → can_be_near y ≡ false → position (is_near_row n y became) stops ≡ None
nowhere n stops y became none = none-is (is_near_row n y became) stops (λ k d h. no_test _ (λ near. sym none ∙ (near-placed n y became (get_or stops k d) near).0))

pub childless : (n : ℕ) (stops : List Stop) (y : Stop) → is_some (option_map (λ m. m.0) y.parent_station) ≡ true → position (is_near_row n y None) stops ≡ None
childless n stops y has = none-is (is_near_row n y None) stops (λ k d h. no_test _ (λ near. absurd (orphan n y (get_or stops k d) has near)))

-- ---- what a search found

module _ (n : ℕ) (stops : List Stop) (xs : List Listed) (ns : List Node) (index : IsIndex stops xs ns) (y : Stop) (became parent : Option ℕ) (parents : IsParent y became parent)
    (p : PlacedStop) (place : IsPlacedStop y parent p) (run : Run) (is_run : IsRun xs p run) (least : ℕ) (is_least : IsLeastOfRun (area_around p (n * 1000)) xs run (length stops) least) where
  at-least : least < length stops → (d : Stop) → is_near_row n y became (get_or stops least d) ≡ true
  at-least found d =
      let it = is_least.one found in
      let e = some_of xs it.0 (omega (arith, it.2, is_run.within)) in
      let x = get_or xs it.0 e in
      let listed = index.listed.listed it.0 e (omega (arith, it.2, is_run.within)) in
      let inside = it.3 e in
      subst (λ m. is_near_row n y became (get_or stops m d) ≡ true) inside.1
      (near-back n y became parent parents p place (get_or stops x.number d) x.place (listed.place d) (is_run.inside it.0 e it.1 it.2) inside.0)

  none-lower : (k : ℕ) (d : Stop) → k < length stops → k < least → is_near_row n y became (get_or stops k d) ≡ false
  none-lower k d within lower = no_test _ (λ near.
      let it = index.listed.all k d within (near-placed n y became (get_or stops k d) near).1 in
      let listed = index.listed.listed it.0 it.1 it.2 in
      let number : (get_or xs it.0 it.1).number ≡ k = ap (λ x. x.number) it.3 ∙ it.4 in
      let here : is_near_row n y became (get_or stops (get_or xs it.0 it.1).number d) ≡ true = ap (λ m. is_near_row n y became (get_or stops m d)) number ∙ near in
      let group = near-group n y became parent parents p place (get_or stops (get_or xs it.0 it.1).number d) (get_or xs it.0 it.1).place (listed.place d) here in
      let inside = near-inside n y became parent parents p place (get_or stops (get_or xs it.0 it.1).number d) (get_or xs it.0 it.1).place (listed.place d) here in
      let between = is_run.all it.0 it.1 it.2 group in
      absurd (omega (arith, lower, number, is_least.each it.0 it.1 between.0 between.1 inside)))

  found-is : least < length stops → position (is_near_row n y became) stops ≡ Some least
  found-is found = first-is (is_near_row n y became) stops least found (at-least found) (λ k d h. none-lower k d (omega arith) h)

  missing-is : length stops ≤ least → position (is_near_row n y became) stops ≡ None
  missing-is missing = none-is (is_near_row n y became) stops (λ k d h. none-lower k d h (omega arith))

  pub searched : (x : StopNo) → x.0 ≡ least → option_map (λ m. m.0) (then_some (nat_lt least (length stops)) x) ≡ position (is_near_row n y became) stops
  searched x is = by (nat_lt least (length stops)) refl
    where
      by : (b : Bool) → nat_lt least (length stops) ≡ b → option_map (λ m. m.0) (then_some b x) ≡ position (is_near_row n y became) stops
      by true e = ap Some is ∙ sym (found-is (ltb-true least (length stops) e))
      by false e = sym (missing-is (ltb-false least (length stops) e))
