use Rattle.std.proofs.Common.{◌∙◌, ◌++◌, ◌∷◌, [], ap}
use Rattle.gtfs_merge.specs.MergeEntries.{entry_value}
use Rattle.gtfs_merge.specs.TripRows.{frequencies_from}
use Rattle.gtfs_merge.proofs.InTurn.{start-in_turn, turn-in_turn}
use Rattle.gtfs_merge.proofs.Ordering.{own-row, row_at}
use Rattle.gtfs_merge.proofs.TripsOfSides.{all-in_turn, periods-are, trip-of_side, trip-there}
use Rattle.gtfs_merge.proofs.rows.frequencies.merged_frequencies.Goals as goal

pub trip_frequencies-of_trip-requires : goal.trip_frequencies-of_trip-requires
trip_frequencies-of_trip-requires c =
    trip-of_side c.args.sides.now c.args.kinds.now c.requires _ _ _ c.of.ensures
    (trip-there c.args.sides.now c.args.kinds.now c.requires c.rows-trips.result.now (c.rows-trips.ensures ∙ ap (λ m. m.trips.rows) c.kinds.view_is) c.loop-trip.trip-index (row_at c.rows-trips.result.now c.loop-trip.trip-index) c.loop-trip-test.true (own-row c.rows-trips.result.now c.loop-trip.trip-index c.loop-trip-test.true))

pub loop-trip-init : goal.loop-trip-init
loop-trip-init c = start-in_turn _ _ c.in_ok-starts.ensures.items c.new-rows.ensures.items

pub loop-trip-preserved : goal.loop-trip-preserved
loop-trip-preserved c =
    let f = frequencies_from c.args.sides.now in
    let t = row_at c.rows-trips.result.now c.loop-trip.trip-index in
    let own = periods-are c.args.sides.now c.args.kinds.now c.requires t.side c.of.result.now c.of.ensures t.number c.trip_frequencies-of_trip.result.now c.trip_frequencies-of_trip.ensures in
    turn-in_turn f entry_value c.rows-trips.result.now c.loop-trip.trip-index t c.loop-trip.starts.items _ c.loop-trip.rows.items _ c.loop-trip-test.true c.loop-trip.invariant
    (c.in_ok-push.ensures.items ∙ ap (λ n. c.loop-trip.starts.items ++ n ∷ []) (c.len.ensures ∙ c.loop-trip.rows.ok.0))
    (c.in_ok-extend_from_slice.ensures.items ∙ ap (λ xs. c.loop-trip.rows.items ++ xs) own ∙ ap (λ u. c.loop-trip.rows.items ++ f (entry_value u)) (own-row c.rows-trips.result.now c.loop-trip.trip-index c.loop-trip-test.true))

pub returns : goal.returns
returns c =
    all-in_turn (frequencies_from c.args.sides.now) c.rows-trips.result.now c.args.kinds.now.trips.rows c.loop-trip.trip-index
    c.loop-trip.starts.items c.loop-trip.rows.items (c.rows-trips.ensures ∙ ap (λ m. m.trips.rows) c.kinds.view_is) c.loop-trip-test.false c.loop-trip.invariant
