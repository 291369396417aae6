use Rattle.std.proofs.Common.{◌≡◌, ◌+◌, ◌==◌, ◌∙◌, [], ◌∷◌, Some, cond, map, get_or, sym, ap, arith}
use Rattle.std.specs.Prelude.{option_map}
use Rattle.std.specs.List.{slice_get}
use Rattle.std.proofs.lemmas.List.{get_or_default}
use Rattle.std.proofs.lemmas.Option.{slice_get-get_or, slice_get-map}
use Rattle.gtfs_field.proofs.ListFacts.{some_of}
use Rattle.gtfs_rows.specs.RowsInMemory.{frequency_of}
use Rattle.gtfs_rows.specs.declared.frequency.Frequency.{Frequency}
use Rattle.gtfs_runs.specs.StopLanes.{period_value}
use Rattle.gtfs_runs.specs.steps.FoundEvents.{times_passed, times_told}
use Rattle.gtfs_runs.proofs.LaneTallies.{periods_more}
use Rattle.gtfs_runs.proofs.Pushes.{none-done}
use Rattle.gtfs_runs.proofs.stop_lanes.found.add_periods.Goals as goal

pub loop-frequency-preserved : goal.loop-frequency-preserved
loop-frequency-preserved c =
    let fs = c.args.frequencies.now in
    let n = c.loop-frequency.frequency-index in
    let within = c.loop-frequency-test.true in
    let d : Frequency = some_of fs n within in
    let same : c.frequency-item.result ≡ get_or fs n d = c.frequency-item.is ∙ get_or_default fs n c.frequency-item.result d within in
    let mid = map period_value c.loop-frequency.periods.items in
    record {
      told = λ k e.
          periods_more k e c.args.service.0 c.args.trip.0 fs (c.args.passing.now ∷ []) n d (map period_value c.args.periods.now.items) mid (map period_value c.add_period.new.periods.items) within (c.loop-frequency.invariant.told k e)
          (c.in_ok-add_period.ensures.told k e ∙ ap (λ f. times_told k e mid + cond (c.args.service.0 == k) (times_passed c.args.trip.0 e (c.args.passing.now ∷ []) f) 0) same);
      counted = omega (arith, c.loop-frequency.invariant.counted, c.in_ok-add_period.ensures.counted);
      within = λ m serves known. c.in_ok-add_period.ensures.within m serves (c.loop-frequency.invariant.within m serves known);
      kind = λ k t at rows were.
          let f = c.frequency-item.result in
          let item : slice_get (map frequency_of fs) n ≡ Some (frequency_of f) =
          slice_get-map frequency_of fs n ∙ ap (option_map frequency_of) (slice_get-get_or fs n f within ∙ ap Some (sym c.frequency-item.is)) in
          c.in_ok-add_period.ensures.kind k t n at (ap (λ l. slice_get l n) rows ∙ item) (c.loop-frequency.invariant.kind k t at rows were);
    }

pub returns-in_err-add_period : goal.returns-in_err-add_period
returns-in_err-add_period c =
    let r = c.from_residual.result in
    let refused = c.from_residual.ensures.1 in
    record { told = none-done r _ _ refused; counted = none-done r _ _ refused; within = none-done r _ _ refused; kind = none-done r _ _ refused }
