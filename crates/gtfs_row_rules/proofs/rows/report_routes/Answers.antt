use Rattle.std.proofs.Common.{codes, refl}
use Rattle.std.proofs.lemmas.Result.{on_ok_weaker}
use Rattle.gtfs_table.specs.declared.file.File.TheVariants as file
use Rattle.gtfs_schema.proofs.ReferenceFacts.{unknown_in}
use Rattle.gtfs_schema.proofs.StepFacts.{reported_as}
use Rattle.gtfs_row_rules.proofs.SingleKeyFacts.{single_reported}
use Rattle.gtfs_row_rules.proofs.RowSites.{rows_reported}
use Rattle.gtfs_row_rules.proofs.rows.report_routes.Goals as goal

pub repeated-id-requires : goal.repeated-id-requires
repeated-id-requires c = single_reported c.args.tables.now file.Routes (codes "route_id") c.args.ids.now.routes c.requires.ids.routes

pub unknown-agency-requires : goal.unknown-agency-requires
unknown-agency-requires c = λ n. unknown_in c.args.tables.now file.Routes n (codes "agency_id") file.Agency (codes "agency_id") _ c.requires.ids.agencies

pub judge_rows-requires : goal.judge_rows-requires
judge_rows-requires c = (
  c.in_ok-header.ensures,
  (
    c.repeated-id.ensures,
    (
      c.unknown-agency.ensures,
      (
        (λ n. reported_as _ _ _ (c.lacks_name-lacks_name.ensures n)),
        (
          (λ n. reported_as _ _ _ (c.lacks_agency-lacks_agency.ensures n)),
          tt,
        ),
      ),
    ),
  ),
)

pub returns : goal.returns
returns c = on_ok_weaker c.judge_rows.result (rows_reported c.args.tables.now file.Routes refl _ _) c.judge_rows.ensures
