use Rattle.std.proofs.Common.{◌≡◌, ◌<ℤ◌, ◌∙◌, Some, None, pos, ◌+ℤ◌, ◌*ℤ◌, sym, ap, subst, arith, refl, to_z-of_z, ℤ}
use Rattle.std.specs.Int.{int_div_euclid}
use Rattle.std.specs.Option.{option_map}
use Rattle.std.proofs.lemmas.Int.{ints}
use Rattle.jiff.specs.Words.{transition_view}
use Rattle.jiff_core.proofs.SignedLemmas.{int_div_euclid-parts}
use Rattle.jiff_core.specs.Timestamp.{nanos_of_seconds}
use Rattle.jiff_tz.specs.Tzif as Table
use Rattle.gtfs_days.proofs.Offsets.{before_change, seconds_hold, IsBefore}
use Rattle.gtfs_days.proofs.zone.Zone.offset_end.Goals as goal

abbrev day_end : ℤ → ℤ
day_end instant = (int_div_euclid instant (pos 86_400) +ℤ pos 1) *ℤ pos 86_400

pub returns-in-Some : goal.returns-in-Some
returns-in-Some c = λ x is from below.
    let table = c.args.self.now.table in
    let second = rw c.unwrap-timestamp.ensures at c.from_second.ensures.value in
    let nanos : c.to_plain.result.nanosecond ≡ nanos_of_seconds c.args.instant = ap (λ t. t.nanosecond) c.to_plain.ensures ∙ second ∙ ap nanos_of_seconds (to_z-of_z c.ranges.instant) in
    let next : Some (transition_view c.in-Some.change) ≡ Table.next_at table (nanos_of_seconds c.args.instant) = sym (ap (option_map transition_view) c.in-Some.is) ∙ c.next_transition.ensures ∙ ap (Table.next_at table) nanos in
    let days : c.div_euclid.result ≡ int_div_euclid c.args.instant (pos 86_400) = c.div_euclid.ensures ∙ ap (λ i. int_div_euclid i (pos 86_400)) (to_z-of_z c.ranges.instant) in
    let parts = int_div_euclid-parts c.args.instant 86_400 (omega arith) in
    let early : x <ℤ int_div_euclid c.in-Some.change.timestamp.nanosecond (pos 1_000_000_000) = omega (arith, ints, below, c.min.ensures, c.floor_second.ensures) in
    let day : x <ℤ day_end c.args.instant = omega (arith, ints, below, c.min.ensures, days, parts, c.requires) in
    seconds_hold table c.args.instant x (day_end c.args.instant) c.requires is refl from day (subst (IsBefore (nanos_of_seconds x)) next (before_change x c.in-Some.change.timestamp.nanosecond early))

pub returns-in-None : goal.returns-in-None
returns-in-None c = λ x is from below.
    let table = c.args.self.now.table in
    let second = rw c.unwrap-timestamp.ensures at c.from_second.ensures.value in
    let nanos : c.to_plain.result.nanosecond ≡ nanos_of_seconds c.args.instant = ap (λ t. t.nanosecond) c.to_plain.ensures ∙ second ∙ ap nanos_of_seconds (to_z-of_z c.ranges.instant) in
    let next : None ≡ Table.next_at table (nanos_of_seconds c.args.instant) = sym (ap (option_map transition_view) c.in-None.is) ∙ c.next_transition.ensures ∙ ap (Table.next_at table) nanos in
    let days : c.div_euclid.result ≡ int_div_euclid c.args.instant (pos 86_400) = c.div_euclid.ensures ∙ ap (λ i. int_div_euclid i (pos 86_400)) (to_z-of_z c.ranges.instant) in
    let parts = int_div_euclid-parts c.args.instant 86_400 (omega arith) in
    let day : x <ℤ day_end c.args.instant = omega (arith, ints, below, days, parts, c.requires) in
    seconds_hold table c.args.instant x (day_end c.args.instant) c.requires is refl from day (subst (IsBefore (nanos_of_seconds x)) next tt)
