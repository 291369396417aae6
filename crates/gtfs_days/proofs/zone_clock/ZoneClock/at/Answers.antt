use Rattle.std.proofs.Common.{◌≡◌, ◌∙◌, ◌≤ℤ◌, ◌<ℤ◌, arith, to_z-of_z}
use Rattle.std.proofs.lemmas.Int.{ints}
use Rattle.gtfs_days.specs.ZoneClock.{IsKnown}
use Rattle.gtfs_days.proofs.KnownClocks.{known_shows}
use Rattle.gtfs_days.proofs.zone_clock.ZoneClock.at.Goals as goal

pub shown-requires-clause-from : goal.shown-requires-clause-from
shown-requires-clause-from c =
    let known : IsKnown c.self.inside.zone.now c.in-Some.known = rw c.in-Some.is at c.self.invariant in
    let inside = c.tells.ensures c.if-tells.true in
    omega (arith, ints, c.ranges.instant, known.low, inside)

pub shown-requires-clause-day : goal.shown-requires-clause-day
shown-requires-clause-day c =
    let known : IsKnown c.self.inside.zone.now c.in-Some.known = rw c.in-Some.is at c.self.invariant in
    let inside = c.tells.ensures c.if-tells.true in
    omega (arith, ints, c.ranges.instant, known.high, inside)

pub returns-then-tells-clause-value : goal.returns-then-tells-clause-value
returns-then-tells-clause-value c =
    let known : IsKnown c.self.inside.zone.now c.in-Some.known = rw c.in-Some.is at c.self.invariant in
    let inside = rw (to_z-of_z c.ranges.instant) at (c.tells.ensures c.if-tells.true) in
    let shows = known_shows c.self.inside.zone.now c.in-Some.known c.args.instant c.requires known inside.0 inside.1 in
    rw (← c.self.view_is, c.shown.ensures, to_z-of_z c.ranges.instant) shows
