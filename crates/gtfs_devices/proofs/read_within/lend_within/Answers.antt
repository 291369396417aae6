use Rattle.std.proofs.Common.{◌≤◌, ◌<◌, ◌+◌, ◌-◌, length, take, arith}
use Rattle.std.proofs.lemmas.List.{length-take}
use Rattle.gtfs_devices.proofs.LendLemmas.{lends-over, lends-part}
use Rattle.gtfs_devices.proofs.read_within.lend_within.Goals as goal

pub returns-then-count-limit-clause-large : goal.returns-then-count-limit-clause-large
returns-then-count-limit-clause-large g c = λ _.
    let over : c.args.limit - c.loop.taken < length (take c.in-Ok.count c.read.new.buf) = omega (
      arith,
      c.in-Ok.ensures.bound.1,
      c.if-count-limit.true,
    ) in
    lends-over _ _ _ _ _ _ _ c.loop.invariant c.in-Ok.ensures.bytes.0 over

pub returns-then-count-limit-clause-takes : goal.returns-then-count-limit-clause-takes
returns-then-count-limit-clause-takes g c =
    let few : length (take c.in-Ok.count c.read.new.buf) ≤ c.args.limit - c.loop.taken + 1 = omega (
      arith,
      c.in-Ok.ensures.bound,
      c.read.auto.buf,
      length-take c.min-room.result c.loop.chunk,
      c.min-room.ensures,
      c.saturating_add.ensures,
    ) in
    lends-part _ _ _ _ _ _ _ c.loop.invariant c.in-Ok.ensures.bytes.0 few

pub returns-in_err-take-in-Ok-clause-takes : goal.returns-in_err-take-in-Ok-clause-takes
returns-in_err-take-in-Ok-clause-takes g c =
    let few : length (take c.in-Ok.count c.read.new.buf) ≤ c.args.limit - c.loop.taken + 1 = omega (
      arith,
      c.in-Ok.ensures.bound,
      c.if-count-limit.false,
    ) in
    lends-part _ _ _ _ _ _ _ c.loop.invariant c.in-Ok.ensures.bytes.0 few
