use Rattle.std.proofs.Common.{◌≡◌, ◌∙◌, [], Some, ap, codes, get_or, map, option_map, subst, sym, true}
use Rattle.std.specs.Prelude.{◌≤ℤ◌}
use Rattle.gtfs_table.specs.Rows.{is_row, records_in}
use Rattle.gtfs_table.specs.declared.file.File.TheVariants as file
use Rattle.gtfs_schema.specs.Calendars.{week_in}
use Rattle.gtfs_reading.specs.CalendarRows.{rows_with}
use Rattle.gtfs_reading.proofs.CalendarFacts.{first_week, week_ordered, week_rows}
use Rattle.gtfs_reading.proofs.Fields.{all_beside, first_beside, none_beside}
use Rattle.gtfs_reading.proofs.services.Calendars.week.Goals as goal

pub returns-in-empty-clause-value : goal.returns-in-empty-clause-value
returns-in-empty-clause-value c =
    let d = c.args.self.now in
    let id = c.args.id.now in
    let are : map (λ r. r.1) c.of.result.now ≡ rows_with d file.Calendar (codes "service_id") id =
    c.of.ensures ∙ c.self.invariant.week_rows id ∙ ap (λ e. rows_with e file.Calendar (codes "service_id") id) c.self.view_is in
    sym (ap (option_map (week_in d)) (first_week d c.requires id _ are ∙ none_beside c.of.result.now c.in-empty.len_below))

pub returns-in-len1-up-clause-value : goal.returns-in-len1-up-clause-value
returns-in-len1-up-clause-value c =
    let d = c.args.self.now in
    let id = c.args.id.now in
    let are : map (λ r. r.1) c.of.result.now ≡ rows_with d file.Calendar (codes "service_id") id =
    c.of.ensures ∙ c.self.invariant.week_rows id ∙ ap (λ e. rows_with e file.Calendar (codes "service_id") id) c.self.view_is in
    let first = (get_or c.of.result.now 0 (record { ref_ptr = (0, 0); now = [] }, 0)).1 in
    ap Some (c.week.ensures ∙ ap (λ e. week_in e first) c.self.view_is)
    ∙ sym (ap (option_map (week_in d)) (first_week d c.requires id _ are ∙ first_beside c.of.result.now (record { ref_ptr = (0, 0); now = [] }, 0) c.in-len1-up.len_at_least))

pub returns-in-len1-up-clause-ordered : goal.returns-in-len1-up-clause-ordered
returns-in-len1-up-clause-ordered c =
    let d = c.args.self.now in
    let id = c.args.id.now in
    let are : map (λ r. r.1) c.of.result.now ≡ rows_with d file.Calendar (codes "service_id") id =
    c.of.ensures ∙ c.self.invariant.week_rows id ∙ ap (λ e. rows_with e file.Calendar (codes "service_id") id) c.self.view_is in
    let first = (get_or c.of.result.now 0 (record { ref_ptr = (0, 0); now = [] }, 0)).1 in
    subst (λ w. w.start ≤ℤ w.end) (sym (c.week.ensures ∙ ap (λ e. week_in e first) c.self.view_is))
    (week_ordered d c.requires first (all_beside (λ n. is_row (records_in d file.Calendar) n ≡ true) c.of.result.now (record { ref_ptr = (0, 0); now = [] }, 0) (week_rows d c.requires id _ are) c.in-len1-up.len_at_least))
