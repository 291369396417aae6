-- The trips of a merged feed in a loop: each is a trip of its side.
use Rattle.std.proofs.Common.{◌≡◌, ◌<◌, ◌≤◌, ◌∙◌, ℕ, zero, suc, List, [], ◌∷◌, Some, length, map, take, get_or, refl, sym, ap, subst, inl, inr, arith}
use Rattle.std.specs.List.{All, slice_get}
use Rattle.std.proofs.lemmas.List.{length-map, take_all}
use Rattle.std.proofs.lemmas.Option.{get_or_from_slice_get}
use Rattle.gtfs_rows.specs.Trips.{frequencies_by_trip}
use Rattle.gtfs_rows.specs.declared.parts.Parts.{Parts}
use Rattle.gtfs_rows.proofs.Members.{In}
use Rattle.gtfs_merge.specs.MergeEntries.{Entry, entry_value}
use Rattle.gtfs_merge.specs.FeedIds.{known_ids}
use Rattle.gtfs_merge.specs.KindEntries.{AllEntries, AreMergedKinds}
use Rattle.gtfs_merge.specs.MergedSides.{side_parts}
use Rattle.gtfs_merge.specs.TripRows.{StandInTurn}
use Rattle.gtfs_merge.specs.declared.kind.Kind.TheVariants as kind
use Rattle.gtfs_merge.specs.declared.kind.Side.{Side}
use Rattle.gtfs_merge.specs.declared.numbering.sorted_rows.MergedRow.{MergedRow}
use Rattle.gtfs_merge.specs.declared.sides.Sides.{Sides}
use Rattle.gtfs_merge.proofs.InTurn.{all-mapped}

pub In-get : {X : Type 0} (xs : List X) (n : ℕ) (d : X) → n < length xs → In (get_or xs n d) xs
In-get [] n d within = absurd (omega arith)
In-get (y ∷ ys) zero d within = inl refl
In-get (y ∷ ys) (suc n) d within = inr (In-get ys n d (omega arith))

abbrev pub IsThere : Sides → Entry → Type 0
IsThere sides e = e.number < length (known_ids kind.Trip (side_parts e.side sides))

module _ (sides : Sides) (k : AllEntries) (are : AreMergedKinds sides k) where
  -- a merged trip is one of its side
  pub trip-there : (trips : List MergedRow) → map entry_value trips ≡ k.trips.rows → (n : ℕ) (t : MergedRow) → n < length trips → t ≡ get_or trips n t
      → t.number < length (known_ids kind.Trip (side_parts t.side sides))
  trip-there trips known n t within is = all-mapped entry_value (IsThere sides) trips n t (subst (All (IsThere sides)) (sym known) (are kind.Trip).rows.within) within is

  pub trip-of_side : (s : Side) (feed : Parts) (n : ℕ) → feed ≡ side_parts s sides → n < length (known_ids kind.Trip (side_parts s sides)) → n < length feed.trips
  trip-of_side s feed n own there =
      let count : length feed.trips ≡ length (side_parts s sides).trips = ap (λ f. length f.trips) own in
      omega (arith, there, count, length-map (side_parts s sides).trips (λ t. t.trip_id))

  pub periods-are : (s : Side) (feed : Parts) → feed ≡ side_parts s sides → (n : ℕ) (rows : List _) → slice_get (frequencies_by_trip feed) n ≡ Some rows → rows ≡ get_or (frequencies_by_trip (side_parts s sides)) n []
  periods-are s feed own n rows at = sym (get_or_from_slice_get (frequencies_by_trip feed) n rows [] at) ∙ ap (λ f. get_or (frequencies_by_trip f) n []) own

-- after the last trip
pub all-in_turn : {X : Type 0} (f : Entry → List X) (trips : List MergedRow) (known : List Entry) (n : ℕ) (starts : List ℕ) (rows : List X) → map entry_value trips ≡ known → length trips ≤ n
    → StandInTurn (map f (take n (map entry_value trips))) starts rows → StandInTurn (map f known) starts rows
all-in_turn {X = X} f trips known n starts rows is past stand =
    subst (λ (es : List Entry). StandInTurn (map f es) starts rows) (take_all n (map entry_value trips) (omega (arith, past, length-map trips entry_value)) ∙ is) stand
