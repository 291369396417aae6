use Rattle.std.proofs.Common.{◌≡◌, ◌∙◌, ap, codes, map, subst, sym}
use Rattle.std.specs.Ordering.{int_cmp}
use Rattle.gtfs_days.specs.Service.{NamesEachDayOnce}
use Rattle.gtfs_table.specs.declared.file.File.TheVariants as file
use Rattle.gtfs_schema.specs.Calendars.{exception_in, service_rows}
use Rattle.gtfs_rows.specs.TransferOrder.{by_key}
use Rattle.gtfs_reading.specs.CalendarRows.{rows_with}
use Rattle.gtfs_reading.proofs.CalendarFacts.{dates_named, days_once}
use Rattle.gtfs_rows.proofs.Exceptions.{by_day}
use Rattle.gtfs_reading.proofs.services.Calendars.service.Goals as goal

pub new-requires-clause-once : goal.new-requires-clause-once
new-requires-clause-once c =
    let d = c.args.self.now in
    let id = c.args.id.now in
    let rows_are : map (λ r. r.1) c.of-rows.result.now ≡ service_rows d file.CalendarDates id =
    c.of-rows.ensures ∙ c.self.invariant.date_rows id ∙ ap (λ e. rows_with e file.CalendarDates (codes "service_id") id) c.self.view_is
    ∙ dates_named d c.requires id in
    let are : c.deref.result.now ≡ map (exception_in d) (service_rows d file.CalendarDates id) =
    c.deref.ensures.value ∙ c.in_ok-exceptions.ensures ∙ ap (λ e. map (exception_in e) (map (λ r. r.1) c.of-rows.result.now)) c.self.view_is
    ∙ ap (map (exception_in d)) rows_are in
    subst NamesEachDayOnce (sym are) (days_once d c.requires id)

pub returns : goal.returns
returns c =
    let d = c.args.self.now in
    let id = c.args.id.now in
    let rows_are : map (λ r. r.1) c.of-rows.result.now ≡ service_rows d file.CalendarDates id =
    c.of-rows.ensures ∙ c.self.invariant.date_rows id ∙ ap (λ e. rows_with e file.CalendarDates (codes "service_id") id) c.self.view_is
    ∙ dates_named d c.requires id in
    let are : c.deref.result.now ≡ map (exception_in d) (service_rows d file.CalendarDates id) =
    c.deref.ensures.value ∙ c.in_ok-exceptions.ensures ∙ ap (λ e. map (exception_in e) (map (λ r. r.1) c.of-rows.result.now)) c.self.view_is
    ∙ ap (map (exception_in d)) rows_are in
    λ i. record {
      service_id = c.in_ok-copy_of.ensures i;
      service = record {
        week = (c.in_ok-new.ensures.week ∙ c.week-week.ensures.value) i;
        exceptions = (sym (by_day _ _ c.in_ok-new.ensures.exceptions c.in_ok-new.ensures.by_day) ∙ ap (by_key int_cmp (λ e. e.0)) are) i;
      };
    }
