use Rattle.std.proofs.Common.{◌∙◌, None, Some, ap, get_or, length, sym}
use Rattle.std.specs.Prelude.{if◌then◌else◌}
use Rattle.std.specs.Ordering.{is_eq}
use Rattle.gtfs_advice.specs.NamedRoutes.{repeated}
use Rattle.gtfs_advice.proofs.NamedRoutes.{nothing}
use Rattle.gtfs_advice.proofs.Repeats.{second-kept, second-marked, seconds-marked}
use Rattle.gtfs_advice.proofs.named_routes.repeats.Goals.{then-is_eq, else-is_eq}
use Rattle.gtfs_advice.proofs.named_routes.repeats.Goals as goal

pub loop-place-preserved : goal.loop-place-preserved
loop-place-preserved c =
    let xs = c.args.listed.now in
    let n = c.loop-place.place in
    let y = get_or xs n nothing in
    let same = sym (c.is_eq.ensures ∙ ap is_eq c.name_order.ensures) in
    elim c.if-is_eq.branch [
      | then-is_eq w ↦
          second-marked repeated (length xs) xs n c.loop-place.auto.place c.loop-place-test.true nothing y.number c.loop-place.marks.items c.if-is_eq.marks.items (ap (λ b. if b then Some y.number else None) (same ∙ w.if-is_eq.true))
          (ap (λ v. v.items) w.marks-is)
          c.loop-place.invariant
      | else-is_eq w ↦
          second-kept repeated (length xs) xs n c.loop-place.auto.place c.loop-place-test.true nothing c.loop-place.marks.items c.if-is_eq.marks.items (ap (λ b. if b then Some y.number else None) (same ∙ w.if-is_eq.false))
          (ap (λ v. v.items) w.marks-is) c.loop-place.invariant
    ]

pub returns : goal.returns
returns c = seconds-marked repeated (length c.args.listed.now) c.args.listed.now c.loop-place.place c.loop-place.marks.items c.loop-place-test.false c.loop-place.invariant
