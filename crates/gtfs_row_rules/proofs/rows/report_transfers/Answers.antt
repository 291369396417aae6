use Rattle.std.proofs.Common.{[], ◌∷◌, codes, refl}
use Rattle.std.proofs.lemmas.Result.{on_ok_weaker}
use Rattle.gtfs_table.specs.declared.file.File.TheVariants as file
use Rattle.gtfs_table.specs.Rows.{is_row, records_in}
use Rattle.gtfs_schema.specs.RowConditions.{text_in}
use Rattle.gtfs_schema.proofs.StopTypeFacts.{named_reported}
use Rattle.gtfs_schema.proofs.ReferenceFacts.{unknown_in}
use Rattle.gtfs_schema.proofs.StepFacts.{reported_as}
use Rattle.gtfs_row_rules.proofs.RowSites.{rows_reported}
use Rattle.gtfs_row_rules.proofs.rows.report_transfers.Goals as goal

pub unknown-to_trip-requires : goal.unknown-to_trip-requires
unknown-to_trip-requires c = λ n. unknown_in c.args.tables.now file.Transfers n (codes "to_trip_id") file.Trips (codes "trip_id") _ c.requires.ids.trips

pub unknown-from_trip-requires : goal.unknown-from_trip-requires
unknown-from_trip-requires c = λ n. unknown_in c.args.tables.now file.Transfers n (codes "from_trip_id") file.Trips (codes "trip_id") _ c.requires.ids.trips

pub unknown-to_route-requires : goal.unknown-to_route-requires
unknown-to_route-requires c = λ n. unknown_in c.args.tables.now file.Transfers n (codes "to_route_id") file.Routes (codes "route_id") _ c.requires.ids.routes

pub unknown-from_route-requires : goal.unknown-from_route-requires
unknown-from_route-requires c = λ n. unknown_in c.args.tables.now file.Transfers n (codes "from_route_id") file.Routes (codes "route_id") _ c.requires.ids.routes

pub unknown-to_stop-requires : goal.unknown-to_stop-requires
unknown-to_stop-requires c = λ n. unknown_in c.args.tables.now file.Transfers n (codes "to_stop_id") file.Stops (codes "stop_id") _ c.requires.ids.stops

pub unknown-from_stop-requires : goal.unknown-from_stop-requires
unknown-from_stop-requires c = λ n. unknown_in c.args.tables.now file.Transfers n (codes "from_stop_id") file.Stops (codes "stop_id") _ c.requires.ids.stops

pub names_other-to_kind-requires : goal.names_other-to_kind-requires
names_other-to_kind-requires c = λ n. named_reported c.args.tables.now c.args.types.now c.requires.types c.args.ids.now.stops c.requires.ids.stops
    (is_row (records_in c.args.tables.now file.Transfers) n) (0 ∷ 1 ∷ []) (text_in c.args.tables.now file.Transfers n (codes "to_stop_id"))

pub names_other-from_kind-requires : goal.names_other-from_kind-requires
names_other-from_kind-requires c = λ n. named_reported c.args.tables.now c.args.types.now c.requires.types c.args.ids.now.stops c.requires.ids.stops
    (is_row (records_in c.args.tables.now file.Transfers) n) (0 ∷ 1 ∷ []) (text_in c.args.tables.now file.Transfers n (codes "from_stop_id"))

pub judge_rows-requires : goal.judge_rows-requires
judge_rows-requires c = (
  c.in_ok-header.ensures,
  (
    c.repeated_transfer-key.ensures.rule,
    (
      c.unknown-from_stop.ensures,
      (
        c.unknown-to_stop.ensures,
        (
          c.unknown-from_route.ensures,
          (
            c.unknown-to_route.ensures,
            (
              c.unknown-from_trip.ensures,
              (
                c.unknown-to_trip.ensures,
                (
                  c.names_other-from_kind.ensures,
                  (
                    c.names_other-to_kind.ensures,
                    (
                      (λ n. reported_as _ _ _ (c.lacks_end-lacks_from_stop.ensures n)),
                      (
                        (λ n. reported_as _ _ _ (c.lacks_end-lacks_to_stop.ensures n)),
                        (
                          (λ n. reported_as _ _ _ (c.lacks_end-lacks_from_trip.ensures n)),
                          (
                            (λ n. reported_as _ _ _ (c.lacks_end-lacks_to_trip.ensures n)),
                            tt,
                          ),
                        ),
                      ),
                    ),
                  ),
                ),
              ),
            ),
          ),
        ),
      ),
    ),
  ),
)

pub returns : goal.returns
returns c = on_ok_weaker c.judge_rows.result (rows_reported c.args.tables.now file.Transfers refl _ _) (rw c.repeated_transfer-key.ensures.column at c.judge_rows.ensures)
