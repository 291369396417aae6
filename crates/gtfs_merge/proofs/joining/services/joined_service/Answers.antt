use Rattle.std.proofs.Common.{◌∙◌, Some, None, ap, sym}
use Rattle.std.specs.Prelude.{if◌then◌else◌}
use Rattle.gtfs_merge.proofs.JoinedKinds.{service-joined}
use Rattle.gtfs_merge.proofs.joining.services.joined_service.Goals as goal

pub returns-then-is_same_service : goal.returns-then-is_same_service
returns-then-is_same_service c =
    sym (service-joined c.args.sides.now c.soundness.ensures.a c.soundness.ensures.b c.args.service.0 c.in_ok-other.other.0 _ _ _ _
    c.service_by_number-2.ensures c.service_id.ensures c.in_ok-other.ensures c.service_by_number.ensures c.is_same_service.ensures
    ∙ ap (λ b. if b then Some c.in_ok-other.other.0 else None) c.if-is_same_service.true)

pub returns-else-is_same_service : goal.returns-else-is_same_service
returns-else-is_same_service c =
    sym (service-joined c.args.sides.now c.soundness.ensures.a c.soundness.ensures.b c.args.service.0 c.in_ok-other.other.0 _ _ _ _
    c.service_by_number-2.ensures c.service_id.ensures c.in_ok-other.ensures c.service_by_number.ensures c.is_same_service.ensures
    ∙ ap (λ b. if b then Some c.in_ok-other.other.0 else None) c.if-is_same_service.false)
