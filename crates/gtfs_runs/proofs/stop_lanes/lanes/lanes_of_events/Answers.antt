use Rattle.std.proofs.Common.{◌≡◌, ◌<◌, ◌∙◌, length, map, get_or, sym, ap, subst}
use Rattle.std.specs.List.{All}
use Rattle.std.specs.List.Sorted.{IsPermutation}
use Rattle.std.proofs.lemmas.List.{length-map}
use Rattle.std.proofs.lemmas.List.Elements.{All-map}
use Rattle.std.proofs.lemmas.List.Sorted.{All-permutation, IsPermutation-map}
use Rattle.gtfs_rows.specs.TransferOrder.{Ascends}
use Rattle.gtfs_times.specs.TimedRows.{timed_parts}
use Rattle.gtfs_runs.specs.EventOrder.{event_cmp}
use Rattle.gtfs_runs.specs.StopLanes.{list_value, period_value}
use Rattle.gtfs_runs.specs.steps.Courses.{AreServed, IsCourse, IsListed, how_many, is_same_course, stopping_events, stopping_of}
use Rattle.gtfs_runs.specs.steps.TripGroups.{trip_group}
use Rattle.gtfs_runs.specs.steps.CourseNumbers.{AreNumbered, IsNumbered, listed_cmp}
use Rattle.gtfs_runs.proofs.Chunks.{all_mapped}
use Rattle.gtfs_runs.proofs.Numbers.{events_ascend, pairs_permuted}
use Rattle.gtfs_runs.proofs.WholeLanes.{are_whole, strictly}
use Rattle.gtfs_runs.proofs.stop_lanes.lanes.lanes_of_events.Goals as goal

pub lists-requires : goal.lists-requires
lists-requires c =
    let p = c.args.feed.now in
    let listed = c.args.listed.items in
    let xs = c.in_ok-listed.listed.items in
    let same = c.in_ok-listed.ensures.same in
    let up =
    strictly (timed_parts c.args.times p) c.args.stop.0 (map (stopping_of p) listed) (map period_value c.args.periods.items) c.requires.found (map (stopping_of p) xs)
    (IsPermutation-map (stopping_of p) listed xs same) (c.in_ok-listed.ensures.in_order p c.requires.numbers) in
    subst (Ascends listed_cmp) (sym c.deref.ensures.value) (events_ascend p xs (pairs_permuted (IsNumbered p) listed xs same c.requires.numbers) up)

pub returns : goal.returns
returns c =
    let p = c.args.feed.now in
    let q = timed_parts c.args.times p in
    let listed = map (stopping_of p) c.args.listed.items in
    let periods = map period_value c.args.periods.items in
    let xs = c.in_ok-listed.listed.items in
    let sorted = map (stopping_of p) xs in
    let lists = c.in_ok-lists.lists.items in
    let found = c.requires.found in
    let lent = c.deref.ensures.value in
    let numbers = subst (AreNumbered p) (sym lent) (pairs_permuted (IsNumbered p) c.args.listed.items xs c.in_ok-listed.ensures.same c.requires.numbers) in
    let served : AreServed p xs = All-permutation (λ x. (trip_group p x.trip).0 ≡ x.service) c.args.listed.items xs c.in_ok-listed.ensures.same c.requires.services in
    let same : IsPermutation listed sorted = IsPermutation-map (stopping_of p) _ _ c.in_ok-listed.ensures.same in
    let known : All (λ x. IsCourse q x.course) sorted = All-permutation (λ x. IsCourse q x.course) listed sorted same found.told.known in
    let own : All (λ x. IsListed q (stopping_of p x)) xs = all_mapped (IsListed q) (stopping_of p) xs (All-permutation (IsListed q) listed sorted same found.told.own) in
    let services : All (λ x. x.service < length p.services) xs = λ k d h. subst (λ n. n < length p.services) (served k d h) (all_mapped (λ x. IsCourse q x.course) (stopping_of p) xs known k d h).service in
    are_whole c.args.times p c.soundness.ensures c.args.stop.0 listed periods found sorted same (map list_value lists)
    (λ k. c.in_ok-lists.ensures.told p k numbers (subst (AreServed p) (sym lent) served) ∙ ap (λ l. stopping_events k (map (stopping_of p) l)) lent)
    (length-map lists list_value ∙ c.in_ok-lists.ensures.counted p numbers ∙ ap (λ l. how_many is_same_course (map (λ x. x.course) (map (stopping_of p) l))) lent)
    (c.in_ok-lists.ensures.within (length p.services) (subst (All (λ x. x.service < length p.services)) (sym lent) services))
    (All-map (λ lane. Ascends event_cmp lane.events) list_value lists (λ k d h. (get_or lists k d).ascending))
    (All-map (λ lane. Ascends event_cmp lane.events) period_value c.args.periods.items (λ k d h. (get_or c.args.periods.items k d).ascending))
    (c.in_ok-lists.ensures.alike p q numbers (subst (All (λ x. IsListed q (stopping_of p x))) (sym lent) own))
