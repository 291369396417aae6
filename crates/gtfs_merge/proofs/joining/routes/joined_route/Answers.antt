use Rattle.std.proofs.Common.{◌∙◌, bytes_eq, Some, None, ap, sym, arith}
use Rattle.std.proofs.lemmas.List.{length-map}
use Rattle.std.specs.Prelude.{if◌then◌else◌, position}
use Rattle.gtfs_rows.specs.RowsInMemory.{route_ids}
use Rattle.gtfs_rows.proofs.NumberFacts.{route_agency}
use Rattle.gtfs_merge.specs.declared.kind.Kind.TheVariants as kind
use Rattle.gtfs_merge.proofs.JoinedNames.{route-joined, joined-length}
use Rattle.gtfs_merge.proofs.joining.routes.joined_route.Goals as goal

pub is_joined_with-agency-requires : goal.is_joined_with-agency-requires
is_joined_with-agency-requires c =
    omega (
      arith,
      route_agency c.args.sides.now.b.now c.soundness.ensures.b c.args.route.0 c.route_by_number-row.result.now c.route_by_number-row.ensures,
      joined-length (λ n. n.0) kind.Agency c.args.sides.now c.args.agencies.now c.requires.agencies,
      length-map c.args.sides.now.b.now.agencies (λ r. r.agency_id),
    )

pub returns-then-is_same_route : goal.returns-then-is_same_route
returns-then-is_same_route c =
    sym (route-joined c.args.sides.now c.soundness.ensures.a c.soundness.ensures.b (c.soundness.ensures.few kind.Agency) (λ n. n.0) c.args.agencies.now c.requires.agencies
    c.args.route.0 c.in_ok-other.other.0 _ _ _ _ c.route_by_number-row.ensures
    (ap (λ t. position (bytes_eq t) (route_ids c.args.sides.now.a.now)) (sym c.as_str.ensures) ∙ sym c.in_ok-other.ensures) c.route_by_number-same.ensures
    c.is_joined_with-agency.ensures (λ ra rb e. c.is_same_route.ensures c.args.sides.now.a.now c.args.sides.now.b.now ra rb e)
    ∙ ap (λ b. if b then Some c.in_ok-other.other.0 else None) c.if-is_same_route.true)

pub returns-else-is_same_route : goal.returns-else-is_same_route
returns-else-is_same_route c =
    sym (route-joined c.args.sides.now c.soundness.ensures.a c.soundness.ensures.b (c.soundness.ensures.few kind.Agency) (λ n. n.0) c.args.agencies.now c.requires.agencies
    c.args.route.0 c.in_ok-other.other.0 _ _ _ _ c.route_by_number-row.ensures
    (ap (λ t. position (bytes_eq t) (route_ids c.args.sides.now.a.now)) (sym c.as_str.ensures) ∙ sym c.in_ok-other.ensures) c.route_by_number-same.ensures
    c.is_joined_with-agency.ensures (λ ra rb e. c.is_same_route.ensures c.args.sides.now.a.now c.args.sides.now.b.now ra rb e)
    ∙ ap (λ b. if b then Some c.in_ok-other.other.0 else None) c.if-is_same_route.false)
