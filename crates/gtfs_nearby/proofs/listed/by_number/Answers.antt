use Rattle.std.proofs.Common.{◌∙◌, ap, refl, sym, subst, option_map}
use Rattle.gtfs_nearby.specs.PlacedStops.{IsPlacedStopIfAny}
use Rattle.gtfs_nearby.proofs.Listing.{AreListedSoFar, all-listed, none-listed, none-more, one-listed}
use Rattle.gtfs_nearby.proofs.listed.by_number.Goals.{in-Some+in_ok-push, in_default}
use Rattle.gtfs_nearby.proofs.listed.by_number.Goals as goal

pub loop-number-init : goal.loop-number-init
loop-number-init c = subst (AreListedSoFar c.args.stops.now 0) (sym c.in_ok-listed.ensures.items) (none-listed c.args.stops.now)

pub loop-number-preserved : goal.loop-number-preserved
loop-number-preserved c =
    let stops = c.args.stops.now in
    let n = c.loop-number.number in
    let s = c.index-stops-number.result in
    let old = c.loop-number.listed.items in
    let new = c.match-of.listed.items in
    let place = IsPlacedStopIfAny s (option_map (λ m. m.0) s.parent_station) in
    elim c.match-of.branch [
      | in-Some+in_ok-push w ↦
          one-listed stops n old new s _ c.loop-number-test.true c.index-stops-number.is refl (subst place w.in-Some.is c.of.ensures) (ap (λ v. v.items) w.listed-is ∙ w.in_ok-push.ensures.items) c.loop-number.invariant
      | in_default w ↦ none-more stops n old new s c.loop-number-test.true c.index-stops-number.is (subst place w.in_default.is c.of.ensures) (ap (λ v. v.items) w.listed-is) c.loop-number.invariant
    ]

pub returns : goal.returns
returns c = all-listed c.args.stops.now c.loop-number.number c.loop-number.listed.items c.loop-number-test.false c.loop-number.invariant
