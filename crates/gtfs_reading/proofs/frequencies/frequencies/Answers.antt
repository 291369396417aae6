use Rattle.std.proofs.Common.{◌≡◌, ◌∙◌, ℕ, List, ap, codes, length, map, refl, subst, sym}
use Rattle.std.proofs.lemmas.Simd.{map-map}
use Rattle.gtfs_table.specs.FieldOffsets.{parts}
use Rattle.gtfs_table.specs.declared.file.File.TheVariants as file
use Rattle.gtfs_schema.specs.Columns.{id, required}
use Rattle.gtfs_schema.specs.steps.Ids.{first_rows, ids_of, rows_by_number}
use Rattle.gtfs_rows.specs.declared.frequency.Frequency.{Frequency as FrequencyRow}
use Rattle.gtfs_rows.specs.ContentRead.{content_of, trip_in}
use Rattle.gtfs_rows.specs.RowsInMemory.{frequency_of}
use Rattle.gtfs_reading.specs.CutStopTimes.{IsCutInto}
use Rattle.gtfs_reading.specs.declared.frequencies.TripFrequencies.{TripFrequencies}
use Rattle.gtfs_reading.proofs.Filled.{filled}
use Rattle.gtfs_reading.proofs.IdTexts.{content_list}
use Rattle.gtfs_reading.proofs.frequencies.frequencies.Goals as goal

pub returns-clause-rows : goal.returns-clause-rows
returns-clause-rows c =
    let d = c.args.tables.now in
    filled (λ (f : TripFrequencies). map (map frequency_of) (parts f.starts f.rows) ≡ map (λ t. t.frequencies) (content_of d).trips) c.push_by_trip.result c.and.result _ c.and.ensures
    c.push_by_trip.ensures (λ are.
    (λ i. map (map frequency_of) (parts (c.new-3.ensures i) (c.new-2.ensures i)))
    ∙ are.rows ∙ (λ i. map (λ n. (trip_in (c.in_ok-file.ensures i) n).frequencies) (rows_by_number (c.requires.trips i)))
    ∙ sym (ap (map (λ t. t.frequencies)) (content_list d c.requires.passes file.Trips "trip_id" (required "trip_id" id) refl refl (λ r. r.trip_id) (trip_in d) (λ n. refl))
    ∙ map-map (λ t. t.frequencies) (trip_in d) (rows_by_number (first_rows d file.Trips (codes "trip_id")))))

pub returns-clause-cut : goal.returns-clause-cut
returns-clause-cut c =
    filled (λ (f : TripFrequencies). IsCutInto (length (ids_of c.args.trips.now)) f.starts f.rows) c.push_by_trip.result c.and.result _ c.and.ensures
    c.push_by_trip.ensures (λ are.
    subst (λ (p : List ℕ × List FrequencyRow). IsCutInto (length (ids_of c.args.trips.now)) p.0 p.1) (λ i. (sym c.new-3.ensures i, sym c.new-2.ensures i)) are.cut)
