-- The stop times of the merged trips stand in turn.
use Rattle.std.proofs.Common.{◌≡◌, ◌<◌, ◌∙◌, ◌∷◌, [], ℕ, List, length, map, refl, sym, ap, subst, arith}
use Rattle.std.specs.List.{All, flat_map}
use Rattle.std.specs.Prelude.{slice_index_or}
use Rattle.std.proofs.Math.ListN.{get_or-map}
use Rattle.std.proofs.lemmas.List.{length-map}
use Rattle.std.proofs.lemmas.List.Elements.{All-cons, All-head, All-nil, All-tail}
use Rattle.std.proofs.lemmas.Simd.{map-map}
use Rattle.gtfs_table.specs.FieldOffsets.{parts}
use Rattle.gtfs_rows.specs.Trips.{stop_rows_by_trip}
use Rattle.gtfs_rows.specs.RowsInMemory.{IsSoundParts}
use Rattle.gtfs_rows.specs.declared.parts.Parts.{Parts}
use Rattle.gtfs_stop_times.specs.StopTimesByTrip.{in_turn}
use Rattle.gtfs_stop_times.specs.JoinedStopTimes.{IsTripOf, trip_rows}
use Rattle.gtfs_stop_times.specs.RenumberedRows.{renumbered_row}
use Rattle.gtfs_stop_times.specs.declared.joined.TripOf.{TripOf}
use Rattle.gtfs_stop_times.specs.declared.stop_row.StopRow.{StopRow}
use Rattle.gtfs_stop_times.proofs.Turns.{end-first, parts-in_turn, parts-map, rising-starts}
use Rattle.gtfs_merge.specs.MergeEntries.{Entry}
use Rattle.gtfs_merge.specs.FeedIds.{known_ids}
use Rattle.gtfs_merge.specs.Headsigns.{HeadsignTable, numbers_on}
use Rattle.gtfs_merge.specs.KindEntries.{AllEntries, AreMergedKinds}
use Rattle.gtfs_merge.specs.MergedLists.{joined_stop_times}
use Rattle.gtfs_merge.specs.NewNumbers.{NewNumbers, numbers_of}
use Rattle.gtfs_merge.specs.MergedSides.{side_parts}
use Rattle.gtfs_merge.specs.TripRows.{StandInTurn, stop_rows_from, entry_trip, trip_on, with_numbers}
use Rattle.gtfs_merge.specs.declared.kind.Kind.TheVariants as kind
use Rattle.gtfs_merge.specs.declared.kind.Side.{Side}
use Rattle.gtfs_merge.specs.declared.kind.Side.TheVariants as side
use Rattle.gtfs_merge.specs.declared.rows.all_lists.MergedLists.{MergedLists}
use Rattle.gtfs_merge.specs.declared.sides.Sides.{Sides}
use Rattle.gtfs_merge.proofs.TripsOfSides.{IsThere}

stand : (ls : List (List StopRow)) → StandInTurn ls (in_turn ls).starts (in_turn ls).rows
stand ls = record {
  whole = refl;
  stretches = parts-in_turn ls;
  rising = rising-starts 0 0 ls (length (flat_map (λ l. l) ls)) (omega arith) (omega arith);
  from_first = end-first 0 ls (length (flat_map (λ l. l) ls)) (omega arith);
}

-- ---- each has those of its side, with their new numbers

module _ (sides : Sides) (stops : NewNumbers) (hs : HeadsignTable) where
  of_trip : (p : Parts) (numbers : List ℕ) (headsigns : List _) (n : ℕ)
      → slice_index_or (parts (with_numbers numbers headsigns p.stop_times).starts (with_numbers numbers headsigns p.stop_times).rows) n [] ≡ map (renumbered_row numbers headsigns) (slice_index_or (stop_rows_by_trip p) n [])
  of_trip p numbers headsigns n =
      ap (λ ps. slice_index_or ps n []) (parts-map (renumbered_row numbers headsigns) p.stop_times.starts p.stop_times.rows)
      ∙ get_or-map (map (renumbered_row numbers headsigns)) (stop_rows_by_trip p) n []

  abbrev rows_at : TripOf → List StopRow
  rows_at = trip_rows (with_numbers stops.a hs.a sides.a.now.stop_times) (with_numbers stops.b hs.b sides.b.now.stop_times)

  on-side : (s : Side) (n : ℕ) → rows_at (trip_on s n) ≡ map (renumbered_row (numbers_of stops s) (numbers_on hs s)) (slice_index_or (stop_rows_by_trip (side_parts s sides)) n [])
  on-side side.A n = of_trip sides.a.now stops.a hs.a n
  on-side side.B n = of_trip sides.b.now stops.b hs.b n

  pub in-turn-from : (es : List Entry) (l : MergedLists) → l.stops ≡ stops → l.headsigns ≡ hs → l.trips.items ≡ map entry_trip es
      → StandInTurn (map (stop_rows_from sides stops hs) es) (joined_stop_times l sides.a.now.stop_times sides.b.now.stop_times).starts (joined_stop_times l sides.a.now.stop_times sides.b.now.stop_times).rows
  in-turn-from es l stops_are hs_are trips_are =
      let own = joined_stop_times l sides.a.now.stop_times sides.b.now.stop_times in
      let lists : map rows_at (map entry_trip es) ≡ map (stop_rows_from sides stops hs) es =
      map-map rows_at entry_trip es ∙ ap (λ (g : Entry → List StopRow). map g es) (λ i e. on-side e.side e.number i) in
      let is : own ≡ in_turn (map (stop_rows_from sides stops hs) es) =
      (λ i. in_turn (map (trip_rows (with_numbers (stops_are i).a (hs_are i).a sides.a.now.stop_times) (with_numbers (stops_are i).b (hs_are i).b sides.b.now.stop_times)) (trips_are i)))
      ∙ ap in_turn lists in
      subst (λ t. StandInTurn (map (stop_rows_from sides stops hs) es) t.starts t.rows) (sym is) (stand (map (stop_rows_from sides stops hs) es))

-- ---- each is a trip of its side

module _ (sides : Sides) (sound_a : IsSoundParts sides.a.now) (sound_b : IsSoundParts sides.b.now) where
  abbrev IsOfSide : TripOf → Type 0
  IsOfSide = IsTripOf (length sides.a.now.stop_times.starts) (length sides.b.now.stop_times.starts)

  there-on : (s : Side) (n : ℕ) → n < length (known_ids kind.Trip (side_parts s sides)) → IsOfSide (trip_on s n)
  there-on side.A n within = omega (arith, within, sound_a.stop_rows.0, length-map sides.a.now.trips (λ t. t.trip_id))
  there-on side.B n within = omega (arith, within, sound_b.stop_rows.0, length-map sides.b.now.trips (λ t. t.trip_id))

  all-there : (es : List Entry) → All (IsThere sides) es → All IsOfSide (map entry_trip es)
  all-there [] there = All-nil IsOfSide
  all-there (e ∷ es) there =
      All-cons IsOfSide (entry_trip e) (map entry_trip es) (there-on e.side e.number (All-head (IsThere sides) e es there)) (all-there es (All-tail (IsThere sides) e es there))

  pub trips-there : (k : AllEntries) → AreMergedKinds sides k → (trips : List TripOf) → trips ≡ map entry_trip k.trips.rows → All IsOfSide trips
  trips-there k are trips is = subst (All IsOfSide) (sym is) (all-there k.trips.rows (are kind.Trip).rows.within)
