use Rattle.std.proofs.Common.{◌≡◌, ◌∙◌, ◌∷◌, ◌+◌, ◌<◌, ℕ, Bool, List, ap, arith, drop, false, length, sym, true}
use Rattle.std.specs.Prelude.{◌==◌, if◌then◌else◌, not, slice_get, Some}
use Rattle.std.proofs.lemmas.List.{drop_more}
use Rattle.std.proofs.lemmas.Option.{get_or_from_slice_get}
use Rattle.gtfs_trip_rules.specs.JudgedTrips.{ends_trip, is_twin}
use Rattle.gtfs_stop_times.specs.declared.stop_time.StopTime.{StopTime}
use Rattle.gtfs_trip_rules.proofs.trips.order.ends.Goals as goal

-- by the next row
by_next : (row other : StopTime) (rows : List StopTime) (next : ℕ) → next < length rows → slice_get rows next ≡ Some other → (b : Bool) → is_twin row other ≡ b
    → ends_trip row (drop next rows) ≡ (if b then ends_trip row (drop (next + 1) rows) else not (row.trip == other.trip))
by_next row other rows next below here b twin =
    ap (ends_trip row) (drop_more rows next other below ∙ ap (λ r. r ∷ drop (next + 1) rows) (get_or_from_slice_get rows next other other here))
    ∙ ap (λ t. if t then ends_trip row (drop (next + 1) rows) else not (row.trip == other.trip)) twin

pub returns-then-not-is_twin : goal.returns-then-not-is_twin
returns-then-not-is_twin c =
    sym (c.loop-next.invariant ∙ by_next c.args.row.now c.get-other.result c.args.rows.now c.loop-next.next (omega (arith, c.loop-next-test.true, c.len-len.ensures)) c.get-other.ensures false
    (sym c.is_twin.ensures ∙ c.if-not-is_twin.true))

pub loop-next-preserved : goal.loop-next-preserved
loop-next-preserved c =
    c.loop-next.invariant ∙ by_next c.args.row.now c.get-other.result c.args.rows.now c.loop-next.next (omega (arith, c.loop-next-test.true, c.len-len.ensures)) c.get-other.ensures true
    (sym c.is_twin.ensures ∙ c.if-not-is_twin.false)
