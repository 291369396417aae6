use Rattle.std.proofs.Common.{◌≡◌, ◌∙◌, ◌<◌, List, ap, arith, codes, length, map, refl, subst, sym, true}
use Rattle.std.specs.Prelude.{IfOk}
use Rattle.std.specs.Ordering.{nat_cmp}
use Rattle.gtfs_table.proofs.RowFacts.{value_is}
use Rattle.gtfs_table.specs.Rows.{is_row, records_in}
use Rattle.gtfs_table.specs.declared.file.File.TheVariants as file
use Rattle.gtfs_schema.specs.Columns.{id, required}
use Rattle.gtfs_schema.specs.RowConditions.{text_in}
use Rattle.gtfs_schema.specs.steps.Ids.{rows_by_number}
use Rattle.gtfs_rows.specs.TransferOrder.{by_key}
use Rattle.gtfs_rows.specs.ContentRead.{frequency_in, rows_of, trip_in}
use Rattle.gtfs_rows.specs.Rows.{Frequency}
use Rattle.gtfs_rows.specs.RowsInMemory.{frequency_of}
use Rattle.gtfs_reading.proofs.ByIds.{as_many}
use Rattle.gtfs_reading.proofs.Fields.{numbered_row}
use Rattle.gtfs_reading.proofs.IdTexts.{text_at_is}
use Rattle.gtfs_reading.proofs.NamedTrips.{none-of}
use Rattle.gtfs_reading.proofs.frequencies.FrequencyFile.of_number.Goals as goal

pub returns-then-not-named-number : goal.returns-then-not-named-number
returns-then-not-named-number c =
    let within : c.args.number < length (rows_by_number c.args.trips.now) = omega (arith, c.requires.within, as_many c.args.trips.now) in
    ap (map frequency_of) c.new.ensures.items
    ∙ none-of c.args.self.now c.requires.passes c.args.trips.now c.requires.trips c.args.named.now c.requires.named c.args.number _ within refl
    c.if-not-named-number.true

pub returns : goal.returns
returns c =
    let d = c.args.self.now in
    let ns = rows_by_number c.args.trips.now in
    let within : c.args.number < length ns = omega (arith, c.requires.within, as_many c.args.trips.now) in
    let row : is_row (records_in d file.Trips) c.row.result ≡ true = numbered_row d file.Trips (codes "trip_id") c.args.trips.now c.requires.trips c.args.number c.row.result within c.row.ensures in
    let text = c.value.ensures ∙ value_is (records_in c.self.inside.tables.now file.Trips) c.row.result _ (codes "trip_id") c.column-trip_id.result c.record-record.ensures c.column-trip_id.ensures
    ∙ ap (λ d. text_in d file.Trips c.row.result (codes "trip_id")) c.self.view_is in
    let trip = text ∙ sym (text_at_is d c.requires.passes file.Trips c.row.result row "trip_id" (required "trip_id" id) refl refl) in
    subst (λ (fs : List Frequency). IfOk c.of_trip.result (λ periods. map frequency_of periods.items ≡ fs))
    (ap (λ t. by_key nat_cmp (λ r. r.start_time) (map (frequency_in d) (rows_of d file.Frequencies t))) trip ∙ ap (λ n. (trip_in d n).frequencies) c.row.ensures)
    c.of_trip.ensures
