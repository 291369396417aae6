use Rattle.std.proofs.Common.{◌∙◌, ap, map, sym}
use Rattle.gtfs_schema.specs.Columns.{columns_of}
use Rattle.gtfs_rows.specs.Cells.{record_text}
use Rattle.gtfs_rows.specs.RowCells.{frequency_cells, held_by}
use Rattle.gtfs_rows.specs.RowsInMemory.{frequency_of}
use Rattle.gtfs_table.specs.declared.file.File.TheVariants as file
use Rattle.gtfs_writing.specs.TakenRecords.{with_rows}
use Rattle.gtfs_writing.proofs.Items.{after_trip, left-none, stretch_is}
use Rattle.gtfs_writing.proofs.frequencies.write_frequencies.Goals as goal

pub loop-n-preserved : goal.loop-n-preserved
loop-n-preserved g c =
    let p = c.args.parts.now in
    let held = ap (map frequency_of) (stretch_is _ p.frequency_starts _ p.frequencies _ _ c.as_slice-starts.ensures c.as_slice-frequencies.ensures c.stretch.ensures) in
    after_trip p c.requires _ c.as_slice-trips.ensures c.loop-n.n g.S.Sink.takes (record_text (columns_of file.Frequencies)) frequency_cells (λ t. t.frequencies) c.index-trips-n.result
    c.loop-n-test.true _ (c.as_str.ensures ∙ ap (λ t. t.trip_id) c.index-trips-n.is) _ held _ _ _ c.loop-n.invariant c.in_ok-write_periods.ensures

pub returns : goal.returns
returns g c =
    let none = left-none c.args.parts.now c.requires _ c.as_slice-trips.ensures c.loop-n.n c.loop-n-test.false in
    sym (ap (λ ts. with_rows g.S.Sink.takes c.loop-n.rows (map (record_text (columns_of file.Frequencies)) (map frequency_cells (held_by (λ t. t.trip_id) (λ t. t.frequencies) ts)))) none) ∙ c.loop-n.invariant
