use Rattle.std.proofs.Common.{◌∙◌, bytes_eq, true, false, ap, refl, sym}
use Rattle.std.specs.Prelude.{◌&&◌, position}
use Rattle.gtfs_rows.specs.RowsInMemory.{stop_ids}
use Rattle.gtfs_merge.specs.SameByNumber.{same_parent_in}
use Rattle.gtfs_merge.proofs.JoinedStops.{stop-joined}
use Rattle.gtfs_merge.proofs.joining.stops.joined_stop.Goals as goal
use Rattle.gtfs_merge.proofs.joining.stops.joined_stop.Goals.{else-is_alike_stop-via-then-is_alike_stop+else-is_same_parent, else-is_alike_stop-via-else-is_alike_stop}

pub returns-then-is_same_parent : goal.returns-then-is_same_parent
returns-then-is_same_parent c rename row at rel =
    let sides = c.args.sides.now in
    let y = c.stop_by_number-row.result.now in
    let x = c.stop_by_number-same.result.now in
    sym (stop-joined sides c.soundness.ensures.a c.soundness.ensures.b rename c.args.stop.0 c.in_ok-other.other.0 y row x _ true true
    c.stop_by_number-row.ensures at rel (ap (λ t. position (bytes_eq t) (stop_ids sides.a.now)) (sym c.as_str.ensures) ∙ sym c.in_ok-other.ensures) c.stop_by_number-same.ensures
    (c.is_alike_stop.ensures sides.a.now sides.b.now rename ∙ ap (λ b. b && same_parent_in sides.a.now sides.b.now rename x y) c.if-is_alike_stop.true) (sym c.is_same_parent.ensures ∙ c.if-is_same_parent.true))

pub returns-else-is_alike_stop : goal.returns-else-is_alike_stop
returns-else-is_alike_stop c rename row at rel =
    let sides = c.args.sides.now in
    let y = c.stop_by_number-row.result.now in
    let x = c.stop_by_number-same.result.now in
    let numbered = ap (λ t. position (bytes_eq t) (stop_ids sides.a.now)) (sym c.as_str.ensures) ∙ sym c.in_ok-other.ensures in
    elim c.else-is_alike_stop.branch [
      | else-is_alike_stop-via-then-is_alike_stop+else-is_same_parent w ↦
          sym (stop-joined sides c.soundness.ensures.a c.soundness.ensures.b rename c.args.stop.0 c.in_ok-other.other.0 y row x _ true false
          c.stop_by_number-row.ensures at rel numbered c.stop_by_number-same.ensures
          (c.is_alike_stop.ensures sides.a.now sides.b.now rename ∙ ap (λ b. b && same_parent_in sides.a.now sides.b.now rename x y) w.if-is_alike_stop.true) (sym w.is_same_parent.ensures ∙ w.if-is_same_parent.false))
      | else-is_alike_stop-via-else-is_alike_stop w ↦
          sym (stop-joined sides c.soundness.ensures.a c.soundness.ensures.b rename c.args.stop.0 c.in_ok-other.other.0 y row x _ false _
          c.stop_by_number-row.ensures at rel numbered c.stop_by_number-same.ensures
          (c.is_alike_stop.ensures sides.a.now sides.b.now rename ∙ ap (λ b. b && same_parent_in sides.a.now sides.b.now rename x y) w.if-is_alike_stop.false) refl)
    ]
