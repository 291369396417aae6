use Rattle.std.proofs.Common.{arith, sym, subst}
use Rattle.gtfs_advice.proofs.NamedRoutes.{AreNamedSoFar, all-named, none-named, one-named}
use Rattle.gtfs_advice.proofs.named_routes.by_number.Goals as goal

pub loop-number-init : goal.loop-number-init
loop-number-init c = subst (AreNamedSoFar c.args.routes.now 0) (sym c.in_ok-listed.ensures.items) (none-named c.args.routes.now)

pub loop-number-preserved : goal.loop-number-preserved
loop-number-preserved c =
    let n = c.loop-number.number in
    one-named c.args.routes.now n c.index-routes-number.result c.named.result c.loop-number.listed.items c.push.new.self.items c.loop-number-test.true c.index-routes-number.is c.named.ensures c.in_ok-push.ensures.items
    c.loop-number.invariant

pub returns : goal.returns
returns c = all-named c.args.routes.now c.loop-number.number c.loop-number.listed.items (omega arith) c.loop-number.invariant
