use Rattle.std.proofs.Common.{◌∙◌, bytes_eq, Some, None, ap, sym}
use Rattle.std.specs.Prelude.{if◌then◌else◌, position}
use Rattle.gtfs_rows.specs.RowsInMemory.{agency_ids}
use Rattle.gtfs_merge.proofs.JoinedKinds.{agency-joined}
use Rattle.gtfs_merge.proofs.joining.agencies.joined_agency.Goals as goal

pub returns-then-is_same_agency : goal.returns-then-is_same_agency
returns-then-is_same_agency c =
    sym (agency-joined c.args.sides.now c.soundness.ensures.a c.soundness.ensures.b c.args.agency.0 c.in_ok-other.other.0 _ _ _
    c.agency_by_number-row.ensures (c.in_ok-other.ensures ∙ ap (λ t. position (bytes_eq t) (agency_ids c.args.sides.now.a.now)) c.as_str.ensures) c.agency_by_number.ensures c.is_same_agency.ensures
    ∙ ap (λ b. if b then Some c.in_ok-other.other.0 else None) c.if-is_same_agency.true)

pub returns-else-is_same_agency : goal.returns-else-is_same_agency
returns-else-is_same_agency c =
    sym (agency-joined c.args.sides.now c.soundness.ensures.a c.soundness.ensures.b c.args.agency.0 c.in_ok-other.other.0 _ _ _
    c.agency_by_number-row.ensures (c.in_ok-other.ensures ∙ ap (λ t. position (bytes_eq t) (agency_ids c.args.sides.now.a.now)) c.as_str.ensures) c.agency_by_number.ensures c.is_same_agency.ensures
    ∙ ap (λ b. if b then Some c.in_ok-other.other.0 else None) c.if-is_same_agency.false)
