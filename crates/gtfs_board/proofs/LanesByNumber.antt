-- The lanes of a stop by their numbers: first the lists, then the periods, and then the lists with a time that was filled.
use Rattle.std.proofs.Common.{◌≡◌, ◌∙◌, ◌+◌, ◌≤◌, ◌<◌, ℕ, zero, suc, List, [], ◌∷◌, ◌++◌, map, length, get_or, Some, sym, ap, subst, arith}
use Rattle.std.specs.Prelude.{◌-◌, slice_get}
use Rattle.std.proofs.lemmas.List.{length-append, length-map}
use Rattle.std.proofs.lemmas.Option.{get_or_from_slice_get, slice_get-get_or}
use Rattle.gtfs_field.proofs.ListFacts.{mapped_at}
use Rattle.gtfs_runs.specs.StopLanes.{LaneValue, StopLanesValue, lanes_of}
use Rattle.gtfs_board.specs.LaneDays.{lane_at, no_lane}

got_right : {X : Type 0} (xs ys : List X) (i : ℕ) → length xs ≤ i → slice_get (xs ++ ys) i ≡ slice_get ys (i - length xs)
got_right [] ys i past = ap (slice_get ys) (omega arith)
got_right (z ∷ xs) ys zero past = absurd (omega (arith, past))
got_right (z ∷ xs) ys (suc i) past = got_right xs ys i (omega (arith, past)) ∙ ap (slice_get ys) (omega arith)

-- the value of a lane stands where the lane does
there : {A : Type 0} (f : A → LaneValue) (xs : List A) (ls : List LaneValue) (i : ℕ) (x : A) → map f xs ≡ ls → i < length xs → x ≡ get_or xs i x → slice_get ls i ≡ Some (f x)
there f xs ls i x are inside is = subst (λ ms. slice_get ms i ≡ Some (f x)) are (mapped_at f xs i x (slice_get-get_or xs i x inside ∙ ap Some (sym is)))

count : {A : Type 0} (f : A → LaneValue) (xs : List A) (ls : List LaneValue) → map f xs ≡ ls → length ls ≡ length xs
count f xs ls are = ap length (sym are) ∙ length-map xs f

module _ (lanes : StopLanesValue) (i : ℕ) where
  lane-is : (l : LaneValue) → slice_get (lanes_of lanes) i ≡ Some l → l ≡ lane_at lanes i
  lane-is l at = sym (get_or_from_slice_get (lanes_of lanes) i l no_lane at)

  module _ {A : Type 0} (f : A → LaneValue) (xs : List A) (lists : map f xs ≡ lanes.lists) where
    module _ {B : Type 0} (g : B → LaneValue) (ys : List B) (periods : map g ys ≡ lanes.periods) (past : length xs ≤ i) where
      many : length lanes.lists ≡ length xs
      many = count f xs lanes.lists lists

      module _ {C : Type 0} (h : C → LaneValue) (zs : List C) (filled : map h zs ≡ lanes.filled) (beyond : length ys ≤ i - length xs) where
        both : length (lanes.lists ++ lanes.periods) ≡ length xs + length ys
        both = omega (arith, length-append lanes.lists lanes.periods, many, count g ys lanes.periods periods)

        pub filled-within : i < length (lanes_of lanes) → i - length xs - length ys < length zs
        filled-within within =
            omega (arith, past, beyond, within, both, count h zs lanes.filled filled, length-append (lanes.lists ++ lanes.periods) lanes.filled)

        pub is_filled : (z : C) → i - length xs - length ys < length zs → z ≡ get_or zs (i - length xs - length ys) z → h z ≡ lane_at lanes i
        is_filled z inside is =
            let place : i - length (lanes.lists ++ lanes.periods) ≡ i - length xs - length ys = omega (arith, both) in
            lane-is (h z) (got_right (lanes.lists ++ lanes.periods) lanes.filled i (omega (arith, past, beyond, both)) ∙ ap (slice_get lanes.filled) place
            ∙ there h zs lanes.filled (i - length xs - length ys) z filled inside is)
