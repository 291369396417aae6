use Rattle.std.proofs.Common.{codes, refl}
use Rattle.std.proofs.lemmas.Result.{on_ok_weaker}
use Rattle.gtfs_table.specs.declared.file.File.TheVariants as file
use Rattle.gtfs_schema.proofs.ReferenceFacts.{unknown_in}
use Rattle.gtfs_row_rules.proofs.SingleKeyFacts.{single_reported}
use Rattle.gtfs_row_rules.proofs.RowSites.{rows_reported}
use Rattle.gtfs_row_rules.proofs.rows.report_trips.Goals as goal

pub repeated-id-requires : goal.repeated-id-requires
repeated-id-requires c = single_reported c.args.tables.now file.Trips (codes "trip_id") c.args.ids.now.network.trips c.requires.network.trips

pub unknown-route-requires : goal.unknown-route-requires
unknown-route-requires c = λ n. unknown_in c.args.tables.now file.Trips n (codes "route_id") file.Routes (codes "route_id") _ c.requires.network.routes

pub judge_rows-requires : goal.judge_rows-requires
judge_rows-requires c = (
  c.in_ok-header.ensures,
  (
    c.repeated-id.ensures,
    (
      c.unknown-route.ensures,
      (
        c.unknown_service-service.ensures,
        tt,
      ),
    ),
  ),
)

pub returns : goal.returns
returns c = on_ok_weaker c.judge_rows.result (rows_reported c.args.tables.now file.Trips refl _ _) c.judge_rows.ensures
