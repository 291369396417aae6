use Rattle.std.proofs.Common.{◌<◌, ◌∙◌, ap, length, subst, sym}
use Rattle.std.specs.Prelude.{All}
use Rattle.std.specs.List.Sorted.{IsSorted}
use Rattle.std.proofs.lemmas.Result.{IfOk-weaker}
use Rattle.gtfs_advice.specs.TripCourses.{AreRepeats, listed_cmp, repeats_one}
use Rattle.gtfs_advice.specs.NumberMarks.{AreMarks}
use Rattle.gtfs_advice.proofs.RepeatedTrips.{all_repeats, courses_within}
use Rattle.gtfs_advice.proofs.repeated_trips.repeated_trips.Goals as goal

pub repeats-requires : goal.repeats-requires
repeats-requires c =
    let p = c.args.feed.now in
    let sorted = c.in_ok-courses-2.courses.items in
    let headsigns = c.as_slice-headsigns.ensures ∙ ap (λ v. v.headsigns) c.parts.ensures.value in
    let up = subst (λ hs. IsSorted (listed_cmp hs) sorted) headsigns c.in_ok-courses-2.ensures.in_order in
    subst (λ ys. All (λ x. x.trip.0 < length ys) ys) (sym c.deref.ensures.value)
    (courses_within p c.soundness.ensures c.in_ok-courses.field-0.items sorted c.in_ok-courses.ensures c.in_ok-courses-2.ensures.same up)

pub returns : goal.returns
returns c =
    let p = c.args.feed.now in
    let sorted = c.in_ok-courses-2.courses.items in
    let headsigns = c.as_slice-headsigns.ensures ∙ ap (λ v. v.headsigns) c.parts.ensures.value in
    let up = subst (λ hs. IsSorted (listed_cmp hs) sorted) headsigns c.in_ok-courses-2.ensures.in_order in
    let hs = c.as_slice-headsigns.result.now in
    let ys = c.deref.result.now in
    IfOk-weaker c.repeats.result (λ marks. AreMarks (length ys) (repeats_one hs ys) marks.items) (λ marks. AreRepeats p marks.items)
    (λ marks marked.
    let there = subst (λ xs. AreMarks (length xs) (repeats_one hs xs) marks.items) c.deref.ensures.value marked in
    all_repeats p c.soundness.ensures c.in_ok-courses.field-0.items sorted c.in_ok-courses.ensures c.in_ok-courses-2.ensures.same up marks.items
    (subst (λ texts. AreMarks (length sorted) (repeats_one texts sorted) marks.items) headsigns there))
    c.repeats.ensures
