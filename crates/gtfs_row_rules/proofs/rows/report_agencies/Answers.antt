use Rattle.std.proofs.Common.{codes, refl, sym}
use Rattle.std.proofs.lemmas.Result.{on_ok_weaker}
use Rattle.std.specs.Prelude.{◌&&◌}
use Rattle.gtfs_table.specs.Rows.{is_row, records_in}
use Rattle.gtfs_table.specs.declared.file.File.TheVariants as file
use Rattle.gtfs_schema.proofs.StepFacts.{reported_as}
use Rattle.gtfs_row_rules.proofs.SingleKeyFacts.{single_reported}
use Rattle.gtfs_row_rules.proofs.RowSites.{rows_reported}
use Rattle.gtfs_row_rules.proofs.rows.report_agencies.Goals as goal

pub repeated-id-requires : goal.repeated-id-requires
repeated-id-requires c = single_reported c.args.tables.now file.Agency (codes "agency_id") c.args.ids.now c.requires.ids

pub judge_rows-requires : goal.judge_rows-requires
judge_rows-requires c = (
  c.in_ok-header.ensures,
  (
    c.repeated-id.ensures,
    (
      (λ n. reported_as _ _ _ (c.lacks_agency-lacks_id.ensures n)),
      (
        (λ n i. is_row (records_in c.args.tables.now file.Agency) n && sym (c.has_other_zone-zone.ensures n) i),
        tt,
      ),
    ),
  ),
)

pub returns : goal.returns
returns c = on_ok_weaker c.judge_rows.result (rows_reported c.args.tables.now file.Agency refl _ _) c.judge_rows.ensures
