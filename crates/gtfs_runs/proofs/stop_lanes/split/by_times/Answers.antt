use Rattle.std.proofs.Common.{◌≡◌, ◌∷◌, [], false, map, sym, subst}
use Rattle.std.proofs.lemmas.List.{map-append}
use Rattle.std.proofs.lemmas.List.Elements.{All-nil}
use Rattle.gtfs_rows.specs.RowsInMemory.{content_of_parts}
use Rattle.gtfs_runs.specs.LaneKinds.{has_untimed}
use Rattle.gtfs_runs.specs.StopLanes.{filled_value, list_value}
use Rattle.gtfs_runs.specs.steps.FilledApart.{AreApart}
use Rattle.gtfs_runs.proofs.LanesMoved.{all_given}
use Rattle.gtfs_runs.proofs.stop_lanes.split.by_times.Goals as goal

pub loop-list-init : goal.loop-list-init
loop-list-init c =
    let content = content_of_parts c.args.feed.now in
    subst (λ ys. AreApart content [] (map list_value c.new-given.result.items) (map filled_value ys)) (sym c.new-filled.ensures.items)
    (subst (λ xs. AreApart content [] (map list_value xs) []) (sym c.new-given.ensures.items) (all_given content [] (All-nil (λ lane. has_untimed content lane ≡ false))))

pub loop-list-preserved : goal.loop-list-preserved
loop-list-preserved c =
    let content = content_of_parts c.args.feed.now in
    subst (λ l. AreApart content l (map list_value c.push_list.new.given.items) (map filled_value c.push_list.new.filled.items))
    (sym (map-append list_value c.loop-list.yielded (c.in-Some.list ∷ []))) (c.in_ok-push_list.ensures (map list_value c.loop-list.yielded) c.loop-list.invariant)
