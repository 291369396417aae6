use Rattle.std.proofs.Common.{◌-◌, arith}
use Rattle.gtfs_nearby.proofs.Searches.{after-all, after-none, after-open, after-told, first-within}
use Rattle.gtfs_nearby.proofs.search.least_of_run.Goals as goal

pub loop-left-init : goal.loop-left-init
loop-left-init c = record { within = omega arith; least = after-none c.args.area.now c.args.listed.now c.args.tree.now c.requires.tree c.args.run c.args.below c.requires.within }

pub loop-left-preserved : goal.loop-left-preserved
loop-left-preserved c = record {
  within = omega arith;
  least = after-open c.args.area.now c.args.listed.now c.args.tree.now c.requires.tree c.args.run c.args.below (c.loop-left.left - 1) c.loop-left.left c.loop-left.least _ (omega arith) (omega arith)
      c.in_default.ensures.parts c.loop-left.invariant.least;
}

pub loop-left-preserved-in-Some : goal.loop-left-preserved-in-Some
loop-left-preserved-in-Some c =
    record {
      within = first-within c.args.area.now c.args.listed.now c.args.tree.now c.requires.tree c.args.run c.args.below (c.loop-left.left - 1) _ (omega arith);
      least = after-told c.args.area.now c.args.listed.now c.args.tree.now c.requires.tree c.args.run c.args.below (c.loop-left.left - 1) c.loop-left.left c.loop-left.least c.in-Some.told _ (omega arith) (omega arith)
          c.loop-left.invariant.least c.in-Some.ensures.told;
    }

pub returns : goal.returns
returns c = after-all c.args.area.now c.args.listed.now c.args.tree.now c.requires.tree c.args.run c.args.below c.loop-left.left c.loop-left.least c.loop-left-test.false c.loop-left.invariant.least
