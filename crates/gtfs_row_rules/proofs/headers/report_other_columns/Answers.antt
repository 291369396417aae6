use Rattle.std.proofs.Common.{◌≡◌, ◌<◌, [], get_or, length, sym, ap, ◌∙◌, arith}
use Rattle.std.specs.Prelude.{◌&&◌, bytes_eq, not}
use Rattle.std.proofs.lemmas.List.Folds.{list_any_at}
use Rattle.gtfs_schema.specs.declared.code.Code.TheVariants as code
use Rattle.gtfs_schema.specs.steps.KeptColumns.{at_column}
use Rattle.gtfs_schema.specs.RowConditions.{header, is_kept_column}
use Rattle.gtfs_table.specs.Rows.{records_in, is_empty}
use Rattle.gtfs_schema.proofs.EachFacts.{each_done, each_more}
use Rattle.gtfs_row_rules.proofs.FileFacts.{asked}
use Rattle.gtfs_row_rules.proofs.HeaderFacts.{header_at, header_length, kept_name, names_reported, other_column_reported, other_holds}
use Rattle.gtfs_schema.proofs.SiteFacts.{problem_at, text_itself}
use Rattle.gtfs_row_rules.proofs.headers.report_other_columns.Goals as goal

pub loop-n-preserved : goal.loop-n-preserved
loop-n-preserved c =
    let d = c.args.tables.now in
    let x = c.args.file in
    let records = records_in d x in
    let names = header records in
    let i = c.loop-n.n in
    let name = get_or names i [] in
    let within : i < length names = rw (header_length records) (omega arith) in
    let text : c.field-name.result.now ≡ name = c.field-name.ensures ∙ sym (header_at records i (omega arith)) in
    let index = c.in_header.ensures ∙ ap (λ t. problem_at code.W04 x t 1) text in
    let other : c.is_other.result ≡ (not (is_empty name) && not (is_kept_column x name)) =
    c.is_other.ensures ∙ ap (λ b. not (is_empty c.field-name.result.now) && not b) (kept_name x c.args.columns.now c.field-name.result.now c.requires)
    ∙ ap (λ t. not (is_empty t) && not (is_kept_column x t)) text in
    let holds = other ∙ other_holds d x name (list_any_at (bytes_eq name) names i [] within (text_itself name)) in
    each_more d (at_column code.W04 x) names i [] c.args.found.now c.loop-n.found c.report_if.new.self within c.loop-n.invariant
    (other_column_reported d x name c.loop-n.found c.report_if.new.self (asked d _ (problem_at code.W04 x name 1) _ _ _ index holds c.in_ok-report_if.ensures))

pub returns : goal.returns
returns c =
    let d = c.args.tables.now in
    let x = c.args.file in
    let records = records_in d x in
    names_reported d x c.args.found.now c.loop-n.found
    (each_done d (at_column code.W04 x) (header records) c.loop-n.n c.args.found.now c.loop-n.found (rw (header_length records) (omega arith)) c.loop-n.invariant)
