use Rattle.std.proofs.Common.{rules, arith, ◌≡◌, ◌++◌, ◌∙◌, w32, w64, SFits, sym, ap, append-nil}
use Rattle.std.proofs.lemmas.Int.{to_z-of_z}
use Rattle.gtfs_days.specs.Zone.{zone_origin}
use Rattle.gtfs_runs.proofs.Pushes.{none-done, none-made}
use Rattle.gtfs_board.specs.upcoming.Candidates.{least_from}
use Rattle.gtfs_board.proofs.Days.{least_from-none}
use Rattle.gtfs_board.proofs.KnownDays.{heads_on-idle, known}
use Rattle.gtfs_board.proofs.upcoming.gathering.open_day.Goals as goal

pub returns-then-is_idle : goal.returns-then-is_idle
returns-then-is_idle c =
    let s = c.args.days.now in
    let floor = c.args.floor.now in
    let o = c.in_ok-origin.origin in
    let o_fits : SFits w64 o = search rules in
    let end_fits : SFits w64 s.end = search rules in
    let instant_fits : SFits w64 floor.instant = search rules in
    let origin : o ≡ zone_origin s.zone.now c.args.day = rw (to_z-of_z w32 c.args.day c.ranges.day) at c.in_ok-origin.ensures in
    let test = rw (to_z-of_z w64 s.end end_fits, to_z-of_z w64 o o_fits, to_z-of_z w64 floor.instant instant_fits, c.greatest.ensures) at c.is_idle.ensures in
    let none = heads_on-idle (known s) floor c.args.day o origin (sym test ∙ c.if-is_idle.true) in
    record {
      heads = sym (ap (λ heads. c.args.fresh.now.items ++ heads) none ∙ append-nil _);
      least = to_z-of_z w64 c.args.least c.ranges.least ∙ sym (ap (least_from c.args.least) none ∙ least_from-none c.args.least);
      steps = omega arith;
    }

pub returns-in_err-origin : goal.returns-in_err-origin
returns-in_err-origin c =
    let r = c.from_residual.result in
    let refused = c.from_residual.ensures.1 in
    record { heads = none-done r _ _ refused; least = none-made r _ _ refused; steps = none-done r _ _ refused }

pub returns-clause-least : goal.returns-clause-least
returns-clause-least c = rw (to_z-of_z w64 c.args.least c.ranges.least, to_z-of_z w32 c.args.day c.ranges.day) at c.ask_lanes.ensures.least
