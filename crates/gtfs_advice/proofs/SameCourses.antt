-- The order of trips by what makes two of them the same.
use Rattle.std.proofs.Common.{List, ℕ, option_map}
use Rattle.std.specs.Cmp.{IsTotalOrder}
use Rattle.std.specs.Cmp.Lexicographic.{options_total}
use Rattle.std.proofs.lemmas.Cmp.{lists_total, nat_cmp_total, on_total, then_total}
use Rattle.gtfs_field.proofs.TextOrderFacts.{texts_total}
use Rattle.gtfs_rows.specs.RowChoices.{drop_off_code, exact_code, pickup_code, timepoint_code}
use Rattle.gtfs_rows.specs.NamedRows.{text_of_number}
use Rattle.gtfs_rows.specs.declared.frequency.Frequency.{Frequency}
use Rattle.gtfs_stop_times.specs.declared.stop_row.StopRow.{StopRow}
use Rattle.gtfs_advice.specs.declared.trip_courses.Course.{Course}
use Rattle.gtfs_advice.specs.TripCourses.{call_cmp, course_cmp, listed_cmp, period_cmp}

module _ (headsigns : List (List ℕ)) where
  calls_total : IsTotalOrder (call_cmp headsigns)
  calls_total =
      then_total
      (then_total (then_total (on_total (λ (r : StopRow). r.stop_id.0) nat_cmp_total) (on_total (λ (r : StopRow). r.arrival_time) (options_total nat_cmp_total)))
      (on_total (λ (r : StopRow). r.departure_time) (options_total nat_cmp_total)))
      (then_total (then_total (then_total
      (on_total (λ (r : StopRow). option_map (text_of_number headsigns) r.stop_headsign) (options_total texts_total))
      (on_total (λ (r : StopRow). pickup_code r.pickup_type) nat_cmp_total))
      (on_total (λ (r : StopRow). drop_off_code r.drop_off_type) nat_cmp_total))
      (on_total (λ (r : StopRow). option_map timepoint_code r.timepoint) (options_total nat_cmp_total)))

  periods_total : IsTotalOrder period_cmp
  periods_total =
      then_total (then_total (then_total (on_total (λ (f : Frequency). f.start_time) nat_cmp_total) (on_total (λ (f : Frequency). f.end_time) nat_cmp_total))
      (on_total (λ (f : Frequency). f.headway_secs) nat_cmp_total)) (on_total (λ (f : Frequency). exact_code f.exact_times) nat_cmp_total)

  pub courses_total : IsTotalOrder (course_cmp headsigns)
  courses_total =
      then_total (then_total (on_total (λ (x : Course). x.route.0) nat_cmp_total) (on_total (λ (x : Course). x.service.0) nat_cmp_total))
      (then_total (on_total (λ (x : Course). x.rows.now) (lists_total calls_total)) (on_total (λ (x : Course). x.periods.now) (lists_total periods_total)))

  pub listed_total : IsTotalOrder (listed_cmp headsigns)
  listed_total = then_total courses_total (on_total (λ (x : Course). x.trip.0) nat_cmp_total)
