use Rattle.std.proofs.Common.{◌∙◌, ◌∷◌, [], suc, add-one, ap, get_or, map, sym}
use Rattle.gtfs_schema.specs.Columns.{columns_of}
use Rattle.gtfs_rows.specs.Cells.{record_text}
use Rattle.gtfs_rows.specs.RowCells.{trip_cells}
use Rattle.gtfs_rows.specs.RowsInMemory.{trip_names_rows, trip_of}
use Rattle.gtfs_table.specs.declared.file.File.TheVariants as file
use Rattle.gtfs_writing.specs.TakenRecords.{with_rows}
use Rattle.gtfs_writing.proofs.Items.{frequencies_by_trip, item_passes, left-cons, left-none, stop_rows_by_trip, trips_left}
use Rattle.gtfs_writing.proofs.Taken.{step}
use Rattle.gtfs_writing.proofs.trips.write_trips.Goals as goal

pub write_trip-requires : goal.write_trip-requires
write_trip-requires g c =
    item_passes (trip_names_rows c.args.parts.now) _ _ _ _ c.as_slice-trips.ensures c.requires.names_rows.trips c.loop-trip-test.true c.trip-item.is

pub loop-trip-preserved : goal.loop-trip-preserved
loop-trip-preserved g c =
    let p = c.args.parts.now in
    let split = ap (λ ts. map (record_text (columns_of file.Trips)) (map trip_cells ts)) (left-cons p c.requires _ c.as_slice-trips.ensures c.loop-trip.trip-index c.trip-item.result c.loop-trip-test.true c.trip-item.is) in
    ap (λ n. with_rows g.S.Sink.takes c.write_trip.new.rows (map (record_text (columns_of file.Trips)) (map trip_cells (trips_left p n)))) (add-one c.loop-trip.trip-index)
    ∙ step g.S.Sink.takes _ (record_text (columns_of file.Trips) (trip_cells (trip_of p c.trip-item.result (get_or (stop_rows_by_trip p) c.loop-trip.trip-index []) (get_or (frequencies_by_trip p) c.loop-trip.trip-index []))) ∷ []) (map (record_text (columns_of file.Trips)) (map trip_cells (trips_left p (suc c.loop-trip.trip-index)))) split _ _ _ c.loop-trip.invariant (c.in_ok-write_trip.ensures (get_or (stop_rows_by_trip p) c.loop-trip.trip-index []) (get_or (frequencies_by_trip p) c.loop-trip.trip-index []))

pub returns : goal.returns
returns g c =
    let none = left-none c.args.parts.now c.requires _ c.as_slice-trips.ensures c.loop-trip.trip-index c.loop-trip-test.false in
    sym (ap (λ ts. with_rows g.S.Sink.takes c.loop-trip.rows (map (record_text (columns_of file.Trips)) (map trip_cells ts))) none) ∙ c.loop-trip.invariant
