use Rattle.std.proofs.Common.{Some, arith, subst}
use Rattle.gtfs_nearby.specs.AreaTree.{IsJoinedIfAny}
use Rattle.gtfs_nearby.proofs.Trees.{joined-earlier, tree-joined, tree-leaf}
use Rattle.gtfs_nearby.proofs.tree.grow.Goals as goal

pub loop-node-init : goal.loop-node-init
loop-node-init c =
    tree-leaf c.args.listed.now c.args.tree.now.items c.push.new.self.items c.args.stops c.of.result c.len.result (omega arith) c.in_ok-push.ensures.items c.requires.few c.requires.within c.of.ensures c.requires.tree

pub loop-node-smaller : goal.loop-node-smaller
loop-node-smaller c =
    let joined = subst (λ l. IsJoinedIfAny l (Some c.in-Some.node)) c.deref.ensures.value c.in-Some.ensures in
    joined-earlier c.args.listed.now c.args.stops.until c.loop-node.tree.items c.push-in-Some.new.self.items c.in-Some.node c.in_ok-push-2.ensures.items joined.0 joined.1 c.loop-node.invariant

pub loop-node-preserved : goal.loop-node-preserved
loop-node-preserved c =
    let joined = subst (λ l. IsJoinedIfAny l (Some c.in-Some.node)) c.deref.ensures.value c.in-Some.ensures in
    tree-joined c.args.listed.now c.args.stops.until c.loop-node.tree.items c.push-in-Some.new.self.items c.in-Some.node c.in_ok-push-2.ensures.items joined.0 joined.1 c.loop-node.invariant
