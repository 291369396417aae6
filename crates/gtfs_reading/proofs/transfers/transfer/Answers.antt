use Rattle.std.proofs.Common.{◌∙◌, ◌∷◌, [], ap, codes, refl}
use Rattle.gtfs_table.specs.declared.file.File.TheVariants as file
use Rattle.gtfs_schema.specs.Columns as kind
use Rattle.gtfs_schema.specs.Columns.{id, optional}
use Rattle.gtfs_rows.specs.RowsInMemory.{text_of_number}
use Rattle.gtfs_reading.specs.NamedTexts.{ids_of}
use Rattle.gtfs_reading.specs.NumbersOfIds.{chosen, number_if_there}
use Rattle.gtfs_reading.proofs.Fields.{field_at, numbers_of}
use Rattle.gtfs_reading.proofs.IdTexts.{none_unknown}
use Rattle.gtfs_reading.proofs.ReferenceFacts.{end_named, end_within}
use Rattle.gtfs_reading.proofs.transfers.transfer.Goals as goal

pub returns-clause-value : goal.returns-clause-value
returns-clause-value c =
    let d = c.args.tables.now in
    let text = field_at d file.Transfers c.args.row _ _ c.record-record.ensures c.requires.columns in
    λ i. record {
      from_stop_id = (numbers_of (λ n. n.0) (text_of_number (ids_of d file.Stops "stop_id")) c.as_stop.result
          ∙ end_named d c.requires.passes c.args.row c.requires.row file.Stops "stop_id" refl "from_stop_id" refl
          (none_unknown d c.requires.passes file.Transfers c.args.row c.requires.row "from_stop_id" (optional "from_stop_id" id) refl refl) _ _ _ (c.requires.stops)
          (c.value.ensures ∙ text 0) (c.as_stop.ensures ∙ c.number.ensures.number)) i;
      to_stop_id = (numbers_of (λ n. n.0) (text_of_number (ids_of d file.Stops "stop_id")) c.as_stop-2.result
          ∙ end_named d c.requires.passes c.args.row c.requires.row file.Stops "stop_id" refl "to_stop_id" refl
          (none_unknown d c.requires.passes file.Transfers c.args.row c.requires.row "to_stop_id" (optional "to_stop_id" id) refl refl) _ _ _ (c.number.ensures.same ∙ c.requires.stops)
          (c.value-2.ensures ∙ text 1) (c.as_stop-2.ensures ∙ c.number-2.ensures.number)) i;
      from_route_id = (numbers_of (λ n. n.0) (text_of_number (ids_of d file.Routes "route_id")) c.as_route.result
          ∙ end_named d c.requires.passes c.args.row c.requires.row file.Routes "route_id" refl "from_route_id" refl
          (none_unknown d c.requires.passes file.Transfers c.args.row c.requires.row "from_route_id" (optional "from_route_id" id) refl refl) _ _ _ (c.requires.routes)
          (c.value-3.ensures ∙ text 2) (c.as_route.ensures ∙ c.number-3.ensures.number)) i;
      to_route_id = (numbers_of (λ n. n.0) (text_of_number (ids_of d file.Routes "route_id")) c.as_route-2.result
          ∙ end_named d c.requires.passes c.args.row c.requires.row file.Routes "route_id" refl "to_route_id" refl
          (none_unknown d c.requires.passes file.Transfers c.args.row c.requires.row "to_route_id" (optional "to_route_id" id) refl refl) _ _ _ (c.number-3.ensures.same ∙ c.requires.routes)
          (c.value-4.ensures ∙ text 3) (c.as_route-2.ensures ∙ c.number-4.ensures.number)) i;
      from_trip_id = (numbers_of (λ n. n.0) (text_of_number (ids_of d file.Trips "trip_id")) c.as_trip.result
          ∙ end_named d c.requires.passes c.args.row c.requires.row file.Trips "trip_id" refl "from_trip_id" refl
          (none_unknown d c.requires.passes file.Transfers c.args.row c.requires.row "from_trip_id" (optional "from_trip_id" id) refl refl) _ _ _ (c.requires.trips)
          (c.value-5.ensures ∙ text 4) (c.as_trip.ensures ∙ c.number-5.ensures.number)) i;
      to_trip_id = (numbers_of (λ n. n.0) (text_of_number (ids_of d file.Trips "trip_id")) c.as_trip-2.result
          ∙ end_named d c.requires.passes c.args.row c.requires.row file.Trips "trip_id" refl "to_trip_id" refl
          (none_unknown d c.requires.passes file.Transfers c.args.row c.requires.row "to_trip_id" (optional "to_trip_id" id) refl refl) _ _ _ (c.number-5.ensures.same ∙ c.requires.trips)
          (c.value-6.ensures ∙ text 5) (c.as_trip-2.ensures ∙ c.number-6.ensures.number)) i;
      transfer_type = (c.transfer_type.ensures ∙ ap (chosen ((0, 5) ∷ []) (codes "0")) (c.value-7.ensures ∙ text 6)) i;
      min_transfer_time = (c.optional_count.ensures ∙ ap (number_if_there kind.count) (c.value-8.ensures ∙ text 7)) i;
    }

pub returns-clause-numbers : goal.returns-clause-numbers
returns-clause-numbers c =
    let d = c.args.tables.now in
    let from_stop_id = end_within d file.Stops "stop_id" _ _ _ (c.requires.stops) (c.as_stop.ensures ∙ c.number.ensures.number) in
    let to_stop_id = end_within d file.Stops "stop_id" _ _ _ (c.number.ensures.same ∙ c.requires.stops) (c.as_stop-2.ensures ∙ c.number-2.ensures.number) in
    let from_route_id = end_within d file.Routes "route_id" _ _ _ (c.requires.routes) (c.as_route.ensures ∙ c.number-3.ensures.number) in
    let to_route_id = end_within d file.Routes "route_id" _ _ _ (c.number-3.ensures.same ∙ c.requires.routes) (c.as_route-2.ensures ∙ c.number-4.ensures.number) in
    let from_trip_id = end_within d file.Trips "trip_id" _ _ _ (c.requires.trips) (c.as_trip.ensures ∙ c.number-5.ensures.number) in
    let to_trip_id = end_within d file.Trips "trip_id" _ _ _ (c.number-5.ensures.same ∙ c.requires.trips) (c.as_trip-2.ensures ∙ c.number-6.ensures.number) in
    rw (from_stop_id, to_stop_id, from_route_id, to_route_id, from_trip_id, to_trip_id) refl
