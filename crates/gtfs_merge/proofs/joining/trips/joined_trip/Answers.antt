use Rattle.std.proofs.Common.{◌∙◌, bytes_eq, Some, None, ap, refl, sym}
use Rattle.std.specs.Prelude.{if◌then◌else◌, position}
use Rattle.gtfs_rows.specs.RowsInMemory.{trip_ids}
use Rattle.gtfs_merge.proofs.JoinedKinds.{id-at}
use Rattle.gtfs_merge.proofs.JoinedTrips.{content-at, number-below, trip-joined}
use Rattle.gtfs_merge.proofs.joining.trips.joined_trip.Goals as goal

pub returns-then-is_joined_trip : goal.returns-then-is_joined_trip
returns-then-is_joined_trip c =
    let sides = c.args.sides.now in
    let n = c.in_ok-other.other.0 in
    let k = c.args.trip.0 in
    let numbered = ap (λ t. position (bytes_eq t) (trip_ids sides.a.now)) (sym c.as_str.ensures) ∙ sym c.in_ok-other.ensures in
    let s = content-at sides.a.now c.soundness.ensures.a n (number-below (trip_ids sides.a.now) _ n numbered sides.a.now.trips (λ t. t.trip_id) refl) in
    let t = content-at sides.b.now c.soundness.ensures.b k c.requires.trip in
    sym (trip-joined sides c.soundness.ensures.a c.soundness.ensures.b n k c.trip_by_number-row.result.now.trip_id s.0 t.0 _ s.1 t.1
    (id-at (λ t. t.trip_id) sides.b.now.trips k c.trip_by_number-row.result.now c.trip_by_number-row.ensures) numbered (c.is_joined_trip.ensures s.0 t.0 s.1 t.1)
    ∙ ap (λ b. if b then Some n else None) c.if-is_joined_trip.true)

pub returns-else-is_joined_trip : goal.returns-else-is_joined_trip
returns-else-is_joined_trip c =
    let sides = c.args.sides.now in
    let n = c.in_ok-other.other.0 in
    let k = c.args.trip.0 in
    let numbered = ap (λ t. position (bytes_eq t) (trip_ids sides.a.now)) (sym c.as_str.ensures) ∙ sym c.in_ok-other.ensures in
    let s = content-at sides.a.now c.soundness.ensures.a n (number-below (trip_ids sides.a.now) _ n numbered sides.a.now.trips (λ t. t.trip_id) refl) in
    let t = content-at sides.b.now c.soundness.ensures.b k c.requires.trip in
    sym (trip-joined sides c.soundness.ensures.a c.soundness.ensures.b n k c.trip_by_number-row.result.now.trip_id s.0 t.0 _ s.1 t.1
    (id-at (λ t. t.trip_id) sides.b.now.trips k c.trip_by_number-row.result.now c.trip_by_number-row.ensures) numbered (c.is_joined_trip.ensures s.0 t.0 s.1 t.1)
    ∙ ap (λ b. if b then Some n else None) c.if-is_joined_trip.false)
