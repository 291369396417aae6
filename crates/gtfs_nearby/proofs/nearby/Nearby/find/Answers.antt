use Rattle.std.proofs.Common.{◌≡◌, ◌*◌, ◌∙◌, None, ap, length, refl, rules, sym, subst}
use Rattle.std.specs.Prelude.{is_some, option_map, position}
use Rattle.gtfs_nearby.specs.MapAreas.{area_around}
use Rattle.gtfs_nearby.specs.AreaTree.{IsRun}
use Rattle.gtfs_nearby.specs.NearRows.{is_near_row}
use Rattle.gtfs_nearby.specs.PlacedStops.{IsPlacedStopIfAny}
use Rattle.gtfs_nearby.specs.TreeSearch.{IsLeastOfRun}
use Rattle.gtfs_nearby.proofs.Finding.{childless, nowhere, searched}
use Rattle.gtfs_nearby.proofs.Places.{IsParent, parent-none, parent-there}
use Rattle.gtfs_nearby.proofs.nearby.Nearby.find.Goals.{in-Some+in_ok-parent-in-Some, in-None}
use Rattle.gtfs_nearby.proofs.nearby.Nearby.find.Goals as goal

pub returns-in_err-parent-in-Some : goal.returns-in_err-parent-in-Some
returns-in_err-parent-in-Some c =
    let none : c.from_residual.result ≡ None = search rules in
    let self = c.args.self.now in
    let row = c.args.row.now in
    ap (option_map (λ n. n.0)) none
    ∙ sym (ap (λ o. position (is_near_row self.near row (option_map (λ n. n.0) o)) self.stops) c.in_err-parent-in-Some.was
    ∙ childless self.near self.stops row (ap (λ o. is_some (option_map (λ n. n.0) o)) c.in-Some.is))

pub returns-in_err-place : goal.returns-in_err-place
returns-in_err-place c =
    let none : c.from_residual-in_err-place.result ≡ None = search rules in
    let self = c.args.self.now in
    let row = c.args.row.now in
    ap (option_map (λ n. n.0)) none
    ∙ sym (nowhere self.near self.stops row (option_map (λ n. n.0) c.args.parent) (subst (IsPlacedStopIfAny row (option_map (λ n. n.0) c.match-row.parent)) c.in_err-place.was c.of.ensures))

pub returns : goal.returns
returns c =
    let row = c.args.row.now in
    let inside = c.self.inside in
    let p = c.in_ok-place.place in
    let run = c.of-run.result in
    let least = c.least_of_run-least.result in
    let became = option_map (λ n. n.0) c.args.parent in
    let parent = option_map (λ n. n.0) c.match-row.parent in
    let parents : IsParent row became parent = elim c.match-row.branch as (λ w. IsParent row became parent) [
      | in-Some+in_ok-parent-in-Some w ↦ parent-there row _ _ c.args.parent c.match-row.parent w.in-Some.is w.in_ok-parent-in-Some.was w.parent-is
      | in-None w ↦ parent-none row c.args.parent c.match-row.parent w.in-None.is w.parent-is
    ] in
    let place = subst (IsPlacedStopIfAny row parent) c.in_ok-place.was c.of.ensures in
    let is_run = subst (λ l. IsRun l p run) c.deref.ensures.value c.of-run.ensures in
    let area = c.around-area.ensures ∙ ap (λ n. area_around p (n * 1000)) c.from.ensures in
    let within = subst (λ l. IsLeastOfRun c.around-area.result l run (length inside.stops.now) least) c.deref-2.ensures.value c.least_of_run-least.ensures in
    let is_least = subst (λ a. IsLeastOfRun a inside.listed.items run (length inside.stops.now) least) area within in
    ap (option_map (λ n. n.0)) c.then_some.ensures
    ∙ searched inside.near inside.stops.now inside.listed.items _ c.self.invariant row became parent parents p place run is_run least is_least _ refl
    ∙ ap (λ v. position (is_near_row v.near row became) v.stops) c.self.view_is
