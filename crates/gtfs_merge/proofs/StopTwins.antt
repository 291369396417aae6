-- The twins of stops, and which stops are joined.
use Rattle.std.proofs.Common.{◌≡◌, ◌<◌, ◌+◌, ◌++◌, ℕ, true, List, [], ◌∷◌, Some, None, Option, refl, sym, ap, ◌∙◌, subst, length, map, take, get_or, is_some, option_map, option_and_then, add-one, arith}
use Rattle.std.specs.Prelude.{IfSome}
use Rattle.std.specs.List.{slice_get}
use Rattle.std.proofs.Math.Seq.{take-suc}
use Rattle.std.proofs.lemmas.List.{length-map, map-append}
use Rattle.gtfs_rows.specs.Content.{Content}
use Rattle.gtfs_rows.specs.RowsInMemory.{IsSoundParts, content_of_parts, stop_ids, text_of_number}
use Rattle.gtfs_stop_times.specs.declared.numbers.StopNo.{StopNo}
use Rattle.gtfs_rows.specs.declared.stop.Stop.{Stop as StopByNumber}
use Rattle.gtfs_rows.proofs.NumberFacts.{stop_parent}
use Rattle.gtfs_merge.specs.JoinedNumbers.{number_if}
use Rattle.gtfs_merge.specs.Renaming.{lists_id, joined_stop, stop_b}
use Rattle.gtfs_merge.specs.MergedSides.{nearness_of}
use Rattle.gtfs_merge.specs.Twins.{became, parent_became, twin_numbers}
use Rattle.gtfs_merge.specs.declared.kind.Kind.TheVariants as kind
use Rattle.gtfs_merge.specs.declared.sides.Sides.{Sides}
use Rattle.gtfs_merge.proofs.JoinedIds.{number-tells, under-has}
use Rattle.gtfs_merge.proofs.JoinedKinds.{id-at, ids-known}
use Rattle.gtfs_merge.proofs.JoinedNames.{twin-at-index, twins-length}

-- one more flag
pub flags-more : {X Y : Type 0} (f : X → Y) (xs : List X) (d : X) (n : ℕ) (items after : List Y) (y : Y) → n < length xs → items ≡ map f (take n xs) → after ≡ items ++ y ∷ [] → y ≡ f (get_or xs n d) → after ≡ map f (take (n + 1) xs)
flags-more f xs d n items after y within so_far pushed here =
    pushed ∙ (λ i. so_far i ++ here i ∷ []) ∙ sym (map-append f (take n xs) (get_or xs n d ∷ [])) ∙ ap (map f) (sym (ap (λ m. take m xs) (add-one n) ∙ take-suc xs n d within))

some-mapped : {X Y : Type 0} (f : X → Y) (o : Option X) → is_some o ≡ is_some (option_map f o)
some-mapped f None = refl
some-mapped f (Some x) = refl

module _ (sides : Sides) (sound_a : IsSoundParts sides.a.now) (sound_b : IsSoundParts sides.b.now) (twins : List (Option StopNo)) (known : map (option_map (λ n. n.0)) twins ≡ twin_numbers kind.Stop sides)
    (k : ℕ) (y : StopByNumber) (at : slice_get sides.b.now.stops k ≡ Some y) where
  abbrev a : Content
  a = content_of_parts sides.a.now

  abbrev b : Content
  b = content_of_parts sides.b.now

  -- the parent of a stop has a twin or none
  pub parent-there : IfSome y.parent_station (λ n. n.0 < length twins)
  parent-there = by y.parent_station (stop_parent sides.b.now sound_b k y at)
    where
      by : (o : Option StopNo) → IfSome (option_map (λ s. s.0) o) (λ s. s < length sides.b.now.stops) → IfSome o (λ n. n.0 < length twins)
      by None within = tt
      by (Some n) within = omega (arith, within, twins-length (λ n. n.0) kind.Stop sides twins known, length-map sides.b.now.stops (λ s. s.stop_id))

  pub parent-twin : (parent : Option ℕ) → parent ≡ option_and_then (λ n. get_or (map (option_map (λ n. n.0)) twins) n.0 None) y.parent_station → parent ≡ parent_became sides (stop_b (nearness_of sides) a b) y
  parent-twin parent is = is ∙ by y.parent_station (stop_parent sides.b.now sound_b k y at)
    where
      by : (o : Option StopNo) → IfSome (option_map (λ s. s.0) o) (λ s. s < length sides.b.now.stops)
          → option_and_then (λ n. get_or (map (option_map (λ n. n.0)) twins) n.0 None) o ≡ option_and_then (λ n. became (stop_ids sides.a.now) (stop_b (nearness_of sides) a b) (text_of_number (stop_ids sides.b.now) n.0)) o
      by None within = refl
      by (Some n) within = twin-at-index (λ n. n.0) kind.Stop sides twins n.0 known (omega (arith, within, length-map sides.b.now.stops (λ s. s.stop_id)))

  -- a stop is joined where a stop of A is found that it is joined with
  pub stop-flag : (o : Option StopNo) → option_map (λ n. n.0) o ≡ number_if (joined_stop (nearness_of sides) a b y.stop_id) (stop_ids sides.a.now) y.stop_id → is_some o ≡ joined_stop (nearness_of sides) a b (get_or (stop_ids sides.b.now) k [])
  stop-flag o is =
      some-mapped (λ n. n.0) o ∙ ap is_some is
      ∙ number-tells (joined_stop (nearness_of sides) a b y.stop_id) (stop_ids sides.a.now) y.stop_id
      (λ j. subst (λ xs. lists_id xs y.stop_id ≡ true) (ids-known kind.Stop sides.a.now sound_a) (under-has (stop_b (nearness_of sides) a b) a b y.stop_id j))
      ∙ ap (joined_stop (nearness_of sides) a b) (sym (id-at (λ s. s.stop_id) sides.b.now.stops k y at))
