use Rattle.std.proofs.Common.{◌≡◌, ◌-◌, ◌∙◌, Bool, None, Some, ap, get_or, length, sym}
use Rattle.std.specs.Prelude.{if◌then◌else◌}
use Rattle.std.proofs.lemmas.List.{get_or_default}
use Rattle.gtfs_advice.specs.TripCourses.{repeated}
use Rattle.gtfs_advice.proofs.Repeats.{second-kept, second-marked, seconds-marked}
use Rattle.gtfs_advice.proofs.repeated_trips.repeats.Goals.{then-is_repeat, else-is_repeat}
use Rattle.gtfs_advice.proofs.repeated_trips.repeats.Goals as goal

pub loop-place-preserved : goal.loop-place-preserved
loop-place-preserved c =
    let hs = c.args.headsigns.now in
    let xs = c.args.courses.now in
    let n = c.loop-place.place in
    let x = c.index-courses-place-in-loop-place.result in
    let y = c.index-courses-place.result in
    let first : get_or xs (n - 1) x ≡ x = sym c.index-courses-place-in-loop-place.is in
    let second : get_or xs n x ≡ y = get_or_default xs n x y c.loop-place-test.true ∙ sym c.index-courses-place.is in
    let number : repeated hs (get_or xs (n - 1) x, get_or xs n x) ≡ (if c.is_repeat.result then Some y.trip.0 else None) =
    (λ i. repeated hs (first i, second i)) ∙ ap (λ b. if b then Some y.trip.0 else None) (sym c.is_repeat.ensures) in
    let chosen = λ (b : Bool). if b then Some y.trip.0 else None in
    elim c.if-is_repeat.branch [
      | then-is_repeat w ↦
          second-marked (repeated hs) (length xs) xs n c.loop-place.auto.place c.loop-place-test.true x y.trip.0 c.loop-place.marks.items c.if-is_repeat.marks.items
          (number ∙ ap chosen w.if-is_repeat.true) (ap (λ v. v.items) w.marks-is) c.loop-place.invariant
      | else-is_repeat w ↦
          second-kept (repeated hs) (length xs) xs n c.loop-place.auto.place c.loop-place-test.true x c.loop-place.marks.items c.if-is_repeat.marks.items
          (number ∙ ap chosen w.if-is_repeat.false) (ap (λ v. v.items) w.marks-is) c.loop-place.invariant
    ]

pub returns : goal.returns
returns c =
    let xs = c.args.courses.now in
    seconds-marked (repeated c.args.headsigns.now) (length xs) xs c.loop-place.place c.loop-place.marks.items c.loop-place-test.false c.loop-place.invariant
