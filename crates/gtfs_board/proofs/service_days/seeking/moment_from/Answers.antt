use Rattle.std.proofs.Common.{rules, ◌≡◌, w32, w64, SFits, to_z, of_z, ◌∙◌, refl, inl, inr}
use Rattle.std.specs.Prelude.{◌-ℤ◌}
use Rattle.std.specs.Int.{saturate_signed}
use Rattle.std.proofs.lemmas.Int.{to_z-of_z}
use Rattle.gtfs_field.proofs.NumberFacts.{cases_int}
use Rattle.gtfs_board.specs.LaneDays.{departing}
use Rattle.gtfs_board.specs.upcoming.Candidates.{lane_cmp}
use Rattle.gtfs_board.proofs.Moments.{apart_days, later_day, same_day, stands_for}
use Rattle.gtfs_board.proofs.service_days.seeking.moment_from.Goals as goal

pub returns : goal.returns
returns c lane e small aside =
    let floor = c.args.floor.now in
    let origin = c.args.origin in
    let day = c.args.day in
    let cut_fits : SFits w64 c.saturating_sub.result = search rules in
    let sequence_fits : SFits w64 c.sequence_before.result = search rules in
    let instant_fits : SFits w64 floor.instant = search rules in
    let origin_is = to_z-of_z w64 origin c.ranges.origin in
    let instant_is = to_z-of_z w64 floor.instant instant_fits in
    let day_is = to_z-of_z w32 day c.ranges.day in
    let at : to_z w64 (of_z w64 c.saturating_sub.result) ≡ saturate_signed w64 (floor.instant -ℤ origin) =
    to_z-of_z w64 c.saturating_sub.result cut_fits ∙ c.saturating_sub.ensures ∙ (λ i. saturate_signed w64 (instant_is i -ℤ origin_is i)) in
    let sequence = to_z-of_z w64 c.sequence_before.result sequence_fits in
    let before = rw day_is at c.sequence_before.ensures in
    stands_for floor _ origin day lane e small at refl refl (elim (cases_int floor.day day) [
      | inl later ↦ later_day floor.sequence e.seq floor.day day _ (lane_cmp floor (departing origin day lane e)) later (sequence ∙ before.later later)
      | inr since ↦ elim aside [
        | inl earlier ↦ absurd (apart_days floor.day day earlier since)
        | inr inside ↦ same_day floor.sequence e.seq floor.lane lane floor.day day _ _ since inside (sequence ∙ before.since since)
      ]
    ])
