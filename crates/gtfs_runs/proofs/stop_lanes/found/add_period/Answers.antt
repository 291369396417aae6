use Rattle.std.proofs.Common.{◌≡◌, ◌<◌, ◌++◌, ◌∙◌, cond, [], ◌∷◌, length, map, refl, sym, ap, subst}
use Rattle.std.specs.List.{All}
use Rattle.std.proofs.lemmas.List.{length-append, map-append}
use Rattle.std.proofs.lemmas.List.Elements.{All-push}
use Rattle.gtfs_rows.specs.RowsInMemory.{frequency_of}
use Rattle.gtfs_runs.specs.LaneKinds.{IsPeriodLane}
use Rattle.gtfs_runs.specs.PeriodRuns.{is_of_period}
use Rattle.gtfs_runs.specs.StopLanes.{period_value}
use Rattle.gtfs_runs.specs.declared.event.Event.{Event}
use Rattle.gtfs_runs.specs.steps.FoundEvents.{times_told}
use Rattle.gtfs_runs.specs.steps.Passings.{passing_event}
use Rattle.gtfs_runs.proofs.LaneTallies.{period_more}
use Rattle.gtfs_runs.proofs.Pushes.{none-done}
use Rattle.gtfs_runs.proofs.stop_lanes.found.add_period.Goals as goal

pub returns : goal.returns
returns c =
    let x = c.args.passing.now in
    let f = c.args.frequency.now in
    let lane = c.of_period.result in
    let old = c.args.periods.now.items in
    let first : c.event-first.result ≡ passing_event c.args.trip.0 f.start_time x =
    c.event-first.ensures ∙ ap (λ r. passing_event c.args.trip.0 r x) c.seconds.ensures.value in
    let runs = λ (e : Event). c.of_period.ensures.events e ∙ ap (λ z. cond (is_of_period z (frequency_of f) e) 1 0) first in
    let pushed : map period_value c.push.new.self.items ≡ map period_value old ++ period_value lane ∷ [] =
    ap (map period_value) c.in_ok-push.ensures.items ∙ map-append period_value old (lane ∷ []) in
    record {
      told = λ k e. ap (times_told k e) pushed ∙ period_more k e c.args.service.0 c.args.trip.0 f x (map period_value old) (period_value lane) (ap (λ v. v.0) c.of_period.ensures.serves) (runs e);
      counted = ap length c.in_ok-push.ensures.items ∙ length-append old (lane ∷ []);
      within = λ m serves known.
          subst (λ l. All (λ z. z.service < m) l) (sym pushed)
          (All-push (λ z. z.service < m) (map period_value old) (period_value lane) known (subst (λ v. v.0 < m) (sym c.of_period.ensures.serves) serves));
      kind = λ k t index at row were.
          let own : IsPeriodLane k (period_value lane) = record {
            first = passing_event c.args.trip.0 f.start_time x;
            trip = t;
            period = frequency_of f;
            index = index;
            of_trip = at;
            of_period = row;
            begins = refl;
            runs = runs;
          } in
          subst (λ l. All (IsPeriodLane k) l) (sym pushed) (All-push (IsPeriodLane k) (map period_value old) (period_value lane) were own);
    }

pub returns-in_err-push : goal.returns-in_err-push
returns-in_err-push c =
    let r = c.from_residual.result in
    let refused = c.from_residual.ensures.1 in
    record { told = none-done r _ _ refused; counted = none-done r _ _ refused; within = none-done r _ _ refused; kind = none-done r _ _ refused }
