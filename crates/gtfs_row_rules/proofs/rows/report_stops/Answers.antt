use Rattle.std.proofs.Common.{codes, refl}
use Rattle.std.proofs.lemmas.Result.{on_ok_weaker}
use Rattle.gtfs_table.specs.declared.file.File.TheVariants as file
use Rattle.gtfs_schema.proofs.ReferenceFacts.{unknown_in}
use Rattle.gtfs_schema.proofs.StepFacts.{reported_as}
use Rattle.gtfs_row_rules.proofs.SingleKeyFacts.{single_reported}
use Rattle.gtfs_row_rules.proofs.RowSites.{rows_reported}
use Rattle.gtfs_row_rules.proofs.rows.report_stops.Goals as goal

pub repeated-id-requires : goal.repeated-id-requires
repeated-id-requires c = single_reported c.args.tables.now file.Stops (codes "stop_id") c.args.ids.now c.requires.ids

pub unknown-parent-requires : goal.unknown-parent-requires
unknown-parent-requires c = λ n. unknown_in c.args.tables.now file.Stops n (codes "parent_station") file.Stops (codes "stop_id") _ c.requires.ids

pub judge_rows-requires : goal.judge_rows-requires
judge_rows-requires c = (
  c.in_ok-header.ensures,
  (
    c.repeated-id.ensures,
    (
      c.unknown-parent.ensures,
      (
        c.has_other_parent-kind.ensures,
        (
          (λ n. reported_as _ _ _ (c.lacks_name_or_position-lacks_name.ensures n)),
          (
            (λ n. reported_as _ _ _ (c.lacks_name_or_position-lacks_latitude.ensures n)),
            (
              (λ n. reported_as _ _ _ (c.lacks_name_or_position-lacks_longitude.ensures n)),
              (
                (λ n. reported_as _ _ _ (c.has_wrong_parent-wrong_parent.ensures n)),
                tt,
              ),
            ),
          ),
        ),
      ),
    ),
  ),
)

pub returns : goal.returns
returns c = on_ok_weaker c.judge_rows.result (rows_reported c.args.tables.now file.Stops refl _ _) c.judge_rows.ensures
