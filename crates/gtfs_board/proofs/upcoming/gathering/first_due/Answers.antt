use Rattle.std.proofs.Common.{rules, ◌≡◌, [], pos, arith, w32, w64, SFits, to_z, of_z, ◌∙◌}
use Rattle.std.specs.Prelude.{◌+ℤ◌, ◌≤ℤ◌}
use Rattle.std.specs.Int.{int_max, int_min}
use Rattle.std.proofs.lemmas.Int.{to_z-of_z, ints}
use Rattle.gtfs_days.specs.Service.{first_service_day, last_service_day}
use Rattle.gtfs_board.specs.Board.{low_mark}
use Rattle.gtfs_board.specs.upcoming.Candidates.{candidate_lt}
use Rattle.gtfs_board.proofs.Candidates.{candidates_strict}
use Rattle.gtfs_board.proofs.Ints.{le_chain}
use Rattle.gtfs_board.proofs.KnownDays.{known}
use Rattle.gtfs_board.proofs.Opening.{heads_skipped}
use Rattle.gtfs_board.proofs.Starts.{day_within, start_day}
use Rattle.gtfs_board.proofs.Waiting.{heads_start, still_from}
use Rattle.gtfs_board.proofs.upcoming.gathering.first_due.Goals as goal

pub returns : goal.returns
returns c =
    let s = c.args.days.now in
    let floor = c.args.floor.now in
    let low = low_mark s.lanes.greatest floor.instant in
    let begun = c.first_begun-begun.result in
    let clamped = c.clamp.result in
    let next = c.next_day.result in
    let instant_fits : SFits w64 floor.instant = search rules in
    let mark_fits : SFits w64 c.low_mark.result = search rules in
    let begun_fits : SFits w64 begun = search rules in
    let clamped_fits : SFits w64 clamped = search rules in
    let next_fits : SFits w32 next = search rules in
    let is : clamped ≡ int_max first_service_day (int_min begun (last_service_day +ℤ pos 1)) = rw (c.from-first.ensures, c.from-past.ensures, to_z-of_z w64 begun begun_fits) at c.clamp.ensures.value in
    let within = day_within begun clamped is in
    let narrow : SFits w32 clamped = omega (arith, ints, within.0, within.1) in
    let low_is : to_z w64 (of_z w64 c.low_mark.result) ≡ low = to_z-of_z w64 c.low_mark.result mark_fits ∙ c.low_mark.ensures
    ∙ (let latest_is = c.greatest.ensures in let instant_is = to_z-of_z w64 floor.instant instant_fits in λ i. low_mark (latest_is i) (instant_is i)) in
    let start = start_day low begun clamped (rw low_is at c.first_begun-begun.ensures.from) (rw low_is at c.first_begun-begun.ensures.least) is in
    let up : clamped ≤ℤ next = rw (to_z-of_z w64 clamped clamped_fits, to_z-of_z w32 clamped narrow) at c.next_day.ensures.up in
    let skips = rw (to_z-of_z w64 clamped clamped_fits, to_z-of_z w32 clamped narrow) at c.next_day.ensures.skips in
    rw (to_z-of_z w32 next next_fits) (record {
      heads = heads_skipped candidates_strict ((known s).lanes) (candidate_lt floor) clamped next [] up skips (heads_start (known s) floor clamped start);
      low = still_from low last_service_day clamped next start.unopened up;
      from = le_chain first_service_day clamped next within.0 up;
      to = c.next_day.ensures.within;
    })
