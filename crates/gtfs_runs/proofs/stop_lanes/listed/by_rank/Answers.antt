use Rattle.std.proofs.Common.{◌≡◌, ◌∙◌, List, get_or, map, sym, subst}
use Rattle.std.specs.List.Sorted.{IsPermutation}
use Rattle.std.proofs.lemmas.Result.{IfOk-weaker}
use Rattle.gtfs_runs.specs.declared.stop_lanes.listed.ListedEvent.{ListedEvent}
use Rattle.gtfs_runs.specs.declared.stop_lanes.listed.Ranked.{Ranked}
use Rattle.gtfs_runs.proofs.Chunks.{no_event}
use Rattle.gtfs_runs.proofs.stop_lanes.listed.by_rank.Goals as goal

pub returns : goal.returns
returns c =
    let xs = c.args.listed.items in
    let lent = c.deref-2.ensures.value in
    let again = c.deref-3.ensures.value in
    let at : List ListedEvent → Ranked → ListedEvent = λ l y. get_or l y.at no_event in
    let moved : IsPermutation xs (map (at xs) c.in_ok-places.places.items) = subst (λ l. IsPermutation l (map (at l) c.in_ok-places.places.items)) lent (c.in_ok-places.ensures.same no_event) in
    IfOk-weaker c.at_places.result (λ found. (d : ListedEvent) → found.items ≡ map (λ x. get_or c.deref-3.result.now x.at d) c.deref-4.result.now) (λ found. IsPermutation xs found.items)
    (λ found is. subst (IsPermutation xs) (sym (is no_event ∙ (λ i. map (at (again i)) (c.deref-4.ensures.value i)))) moved)
    c.at_places.ensures
