use Rattle.std.proofs.Common.{◌≡◌, ◌∙◌, ap, map}
use Rattle.std.specs.Prelude.{codes}
use Rattle.gtfs_table.specs.Rows.{numbered, records_in, rows}
use Rattle.gtfs_table.specs.declared.file.File.{File}
use Rattle.gtfs_table.proofs.RowFacts.{all_taken, turn}
use Rattle.gtfs_schema.specs.declared.code.Code.TheVariants as code
use Rattle.gtfs_schema.specs.steps.KeptColumns.{at_column}
use Rattle.gtfs_trip_rules.specs.ServiceFields.{calendars_of}
use Rattle.gtfs_trip_rules.specs.ServiceCalendars.{file_of, is_reported}
use Rattle.gtfs_schema.proofs.RowFacts.{reported_all, reported_more, reported_none}
use Rattle.gtfs_schema.proofs.RuleFacts.{row_reported, silent_column}
use Rattle.gtfs_trip_rules.proofs.services.report_source.Goals as goal

pub loop-row-init : goal.loop-row-init
loop-row-init c = reported_none c.args.tables.now (at_column code.W07 (file_of c.args.source) (codes "service_id")) c.args.found.now

pub loop-row-preserved : goal.loop-row-preserved
loop-row-preserved c =
    let d = c.args.tables.now in
    let x = file_of c.args.source in
    let name = codes "service_id" in
    let reported = is_reported (calendars_of c.args.services.now) c.args.source in
    let of_file : c.rows-row-items.result ≡ map (numbered (records_in d x)) (rows d x) =
    c.rows-row-items.ensures ∙ ap (λ (y : File). map (numbered (records_in d y)) (rows d y)) c.file-file.ensures in
    let t = turn d x _ c.loop-row.yielded _ (c.into_iter-row-iterator.ensures.into_iter_gives ∙ of_file) c.loop-row.yielded_by c.in-Some.row c.in-Some.field-0-1 _ c.in-Some.ensures.steps in
    reported_more d (at_column code.W07 x name) c.loop-row.yielded c.in-Some.row _ _ _ _ c.loop-row.invariant
    (row_reported d code.W07 x name reported c.requires c.in-Some.row _ _ t.is_row (rw (c.file-file.ensures, c.in_ok-reported.ensures) at c.in_ok-report_if.ensures))

pub returns : goal.returns
returns c =
    let d = c.args.tables.now in
    let x = file_of c.args.source in
    let of_file : c.rows-row-items.result ≡ map (numbered (records_in d x)) (rows d x) =
    c.rows-row-items.ensures ∙ ap (λ (y : File). map (numbered (records_in d y)) (rows d y)) c.file-file.ensures in
    let all = all_taken d x _ c.loop-row.yielded _ (c.into_iter-row-iterator.ensures.into_iter_gives ∙ of_file) c.loop-row.yielded_by c.in-None.ensures.steps.0 in
    reported_all d x (at_column code.W07 x (codes "service_id")) _ _
    (silent_column d code.W07 x (codes "service_id") (is_reported (calendars_of c.args.services.now) c.args.source) c.requires) (rw all at c.loop-row.invariant)
