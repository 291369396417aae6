use Rattle.std.proofs.Common.{codes, refl, sym}
use Rattle.std.proofs.lemmas.Result.{on_ok_weaker}
use Rattle.std.specs.Prelude.{◌&&◌}
use Rattle.gtfs_table.specs.Rows.{is_row, records_in}
use Rattle.gtfs_table.specs.declared.file.File.TheVariants as file
use Rattle.gtfs_schema.proofs.ReferenceFacts.{unknown_in}
use Rattle.gtfs_row_rules.proofs.RowSites.{rows_reported}
use Rattle.gtfs_row_rules.proofs.rows.report_frequencies.Goals as goal

pub unknown-trip-requires : goal.unknown-trip-requires
unknown-trip-requires c = λ n. unknown_in c.args.tables.now file.Frequencies n (codes "trip_id") file.Trips (codes "trip_id") _ c.requires

pub judge_rows-requires : goal.judge_rows-requires
judge_rows-requires c = (
  c.in_ok-header.ensures,
  (
    c.repeated_numbered-key.ensures.rule,
    (
      c.unknown-trip.ensures,
      (
        (λ n i. is_row (records_in c.args.tables.now file.Frequencies) n && sym (c.ends_at_start-period.ensures n) i),
        tt,
      ),
    ),
  ),
)

pub returns : goal.returns
returns c = on_ok_weaker c.judge_rows.result (rows_reported c.args.tables.now file.Frequencies refl _ _) (rw c.repeated_numbered-key.ensures.column at c.judge_rows.ensures)
