use Rattle.std.proofs.Common.{◌∙◌, [], ap, map, sym}
use Rattle.std.proofs.lemmas.Option.{get_or_from_slice_get}
use Rattle.gtfs_schema.specs.Columns.{columns_of}
use Rattle.gtfs_rows.specs.Cells.{record_text}
use Rattle.gtfs_rows.specs.RowCells.{stop_time_cells, held_by}
use Rattle.gtfs_rows.specs.RowsInMemory.{stop_row_of, stop_time_names_rows}
use Rattle.gtfs_table.specs.declared.file.File.TheVariants as file
use Rattle.gtfs_table.proofs.PartFacts.{all_in_part}
use Rattle.gtfs_writing.specs.TakenRecords.{with_rows}
use Rattle.gtfs_writing.proofs.Items.{after_trip, left-none, stop_rows_by_trip}
use Rattle.gtfs_writing.proofs.stop_times.write_stop_times.Goals as goal

pub write_trip_rows-requires-clause-names : goal.write_trip_rows-requires-clause-names
write_trip_rows-requires-clause-names g c =
    all_in_part (stop_time_names_rows c.args.parts.now) _ _ _ _ c.requires.names_rows.stop_rows c.of_trip.ensures

pub loop-n-preserved : goal.loop-n-preserved
loop-n-preserved g c =
    let p = c.args.parts.now in
    let held = ap (map (stop_row_of p)) (sym (get_or_from_slice_get (stop_rows_by_trip p) c.loop-n.n _ [] c.of_trip.ensures)) in
    after_trip p c.requires _ c.as_slice-trips.ensures c.loop-n.n g.S.Sink.takes (record_text (columns_of file.StopTimes)) stop_time_cells (λ t. t.stop_rows) c.index-trips-n.result
    c.loop-n-test.true _ (c.as_str.ensures ∙ ap (λ t. t.trip_id) c.index-trips-n.is) _ held _ _ _ c.loop-n.invariant c.in_ok-write_trip_rows.ensures

pub returns : goal.returns
returns g c =
    let none = left-none c.args.parts.now c.requires _ c.as_slice-trips.ensures c.loop-n.n c.loop-n-test.false in
    sym (ap (λ ts. with_rows g.S.Sink.takes c.loop-n.rows (map (record_text (columns_of file.StopTimes)) (map stop_time_cells (held_by (λ t. t.trip_id) (λ t. t.stop_rows) ts)))) none) ∙ c.loop-n.invariant
