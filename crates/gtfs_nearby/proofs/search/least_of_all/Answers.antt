use Rattle.std.proofs.Common.{◌+◌, ◌∙◌, arith, min, refl, sym, subst, true≢false}
use Rattle.gtfs_nearby.specs.TreeSearch.{IsLeastOfRun}
use Rattle.gtfs_nearby.proofs.Blocks.{stops}
use Rattle.gtfs_nearby.proofs.Searches.{one-kept, one-lower, run-more, run-none}
use Rattle.gtfs_nearby.proofs.search.least_of_all.Goals.{then-one-least+then-has, else-one-least, else-one-least-via-then-one-least+else-has, else-one-least-via-else-one-least}
use Rattle.gtfs_nearby.proofs.search.least_of_all.Goals as goal

pub loop-number-init : goal.loop-number-init
loop-number-init c = run-none c.args.area.now c.args.listed.now (stops c.args.run.from (min c.args.run.until c.args.run.from)) c.args.below (omega arith)

pub loop-number-preserved : goal.loop-number-preserved
loop-number-preserved c =
    let area = c.args.area.now in
    let xs = c.args.listed.now in
    let run = c.args.run in
    let n = c.loop-number.number in
    let old = c.loop-number.least in
    let new = c.if-one-least.least in
    run-more area xs run.from (min run.until n) n (min run.until (n + 1)) (n + 1) c.args.below old new (omega arith) refl (omega arith) (omega arith) c.loop-number.invariant
    (elim c.if-one-least.branch [
      | then-one-least+then-has w ↦ one-lower area xs n (n + 1) old _ (omega arith) refl new w.if-one-least.true (sym w.has.ensures ∙ w.if-has.true) w.least-is
      | else-one-least w ↦ elim w.else-one-least.branch [
        | else-one-least-via-then-one-least+else-has v ↦ one-kept area xs n (n + 1) old _ (omega arith) refl new w.least-is (λ inside. absurd (true≢false (sym inside ∙ sym v.has.ensures ∙ v.if-has.false)))
        | else-one-least-via-else-one-least v ↦ one-kept area xs n (n + 1) old _ (omega arith) refl new w.least-is (λ inside. v.if-one-least.false)
      ]
    ])

pub returns : goal.returns
returns c = subst (λ u. IsLeastOfRun c.args.area.now c.args.listed.now (stops c.args.run.from u) c.args.below c.loop-number.least) (omega arith) c.loop-number.invariant
