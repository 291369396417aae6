use Rattle.std.proofs.Common.{◌≡◌, ◌∙◌, ◌&&◌, ◌||◌, ℕ, List, Bool, true, false, not, codes, refl, sym, ap}
use Rattle.std.specs.Prelude.{is_some}
use Rattle.gtfs_table.specs.Rows.{is_row, records_in}
use Rattle.gtfs_table.specs.Tables.{field_under, record_at}
use Rattle.gtfs_table.specs.declared.file.File.TheVariants as file
use Rattle.gtfs_schema.specs.ReadFields.{is_id}
use Rattle.gtfs_schema.specs.RowConditions.{row_with, text_in}
use Rattle.gtfs_schema.specs.steps.Ids.{first_rows, FirstRows}
use Rattle.gtfs_schema.specs.steps.UnknownIds.{is_unknown_in_both}
use Rattle.gtfs_schema.proofs.IdFacts.{first_row_is}
use Rattle.gtfs_row_rules.proofs.references.unknown_service.Goals as goal

-- of two files, as the list of both and one by one
two_files : (row there a b : Bool) → ((row && there) && (not (a || (b || false)) || false)) ≡ (row && (there && not (a || b)))
two_files false there a b = refl
two_files true there true b = refl
two_files true there false true = refl
two_files true there false false = refl

-- the rule reads the ids and the text that are asked for
both_alike : (reported row : Bool) (i j k l : FirstRows) (t u : List ℕ) → reported ≡ (row && is_unknown_in_both i j t) → k ≡ i → l ≡ j → u ≡ t
    → reported ≡ (row && is_unknown_in_both k l u)
both_alike reported row i j k l t u rule first second text = rule ∙ (λ m. row && is_unknown_in_both (sym first m) (sym second m) (sym text m))

pub returns : goal.returns
returns c = λ n.
    let d = c.args.tables.now in
    let weeks = first_rows d file.Calendar (codes "service_id") in
    let dates = first_rows d file.CalendarDates (codes "service_id") in
    let id : List ℕ = text_in d file.Trips n (codes "service_id") in
    let row : Bool = is_row (records_in d file.Trips) n in
    let of_weeks : Bool = is_some (row_with d file.Calendar (codes "service_id") id) in
    let of_dates : Bool = is_some (row_with d file.CalendarDates (codes "service_id") id) in
    both_alike _ row weeks dates _ _ id _
    (two_files row (is_id id) of_weeks of_dates
    ∙ (λ k. row && (is_id id && not (is_some (sym (first_row_is d file.Calendar (codes "service_id") id) k) || is_some (sym (first_row_is d file.CalendarDates (codes "service_id") id) k)))))
    (c.new.ensures ∙ c.requires.calendar) (c.new-2.ensures ∙ c.requires.calendar_dates)
    (ap (field_under (record_at (records_in d file.Trips) n)) c.column.ensures)
