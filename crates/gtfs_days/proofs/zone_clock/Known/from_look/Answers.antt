use Rattle.std.proofs.Common.{◌≡◌, ◌∙◌, arith, to_z-of_z}
use Rattle.std.proofs.lemmas.Int.{ints}
use Rattle.gtfs_days.proofs.KnownClocks.{look_tells}
use Rattle.gtfs_days.proofs.zone_clock.Known.from_look.Goals as goal

pub returns : goal.returns
returns c = look_tells c.args.zone.now _ c.args.instant c.offset_end.result (to_z-of_z c.ranges.instant)
    (omega (arith, ints, c.min.ensures.self_bound))
    (omega (arith, ints, c.min.ensures.other_bound))
    (omega (arith, ints, c.second_of_day.ensures))
    c.requires.instant c.requires.shown (rw (to_z-of_z c.ranges.instant) at c.offset_end.ensures)
