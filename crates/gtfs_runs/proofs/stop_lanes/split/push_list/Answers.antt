use Rattle.std.proofs.Common.{◌≡◌, ◌∙◌, ◌++◌, ◌∷◌, [], List, true, false, map, sym, ap, subst}
use Rattle.std.specs.List.{list_any}
use Rattle.std.proofs.lemmas.List.{map-append}
use Rattle.gtfs_rows.specs.RowsInMemory.{content_of_parts}
use Rattle.gtfs_runs.specs.LaneKinds.{has_untimed, is_untimed_at}
use Rattle.gtfs_runs.specs.StopLanes.{LaneValue, filled_value, list_value}
use Rattle.gtfs_runs.specs.steps.FilledApart.{AreApart}
use Rattle.gtfs_runs.proofs.LanesMoved.{filled_more, given_more}
use Rattle.gtfs_runs.proofs.stop_lanes.split.push_list.Goals as goal

pub returns-in_ok-push : goal.returns-in_ok-push
returns-in_ok-push c = λ lists apart.
    let content = content_of_parts c.args.feed.now in
    let given : List LaneValue = map list_value c.args.given.now.items in
    let filled = c.args.filled.now.items in
    let list = list_value c.args.list in
    let has : has_untimed content list ≡ true = ap (list_any (is_untimed_at content)) (sym c.as_slice.ensures) ∙ sym c.has_untimed.ensures ∙ c.if-has_untimed.true in
    let pushed = ap (map filled_value) c.in_ok-push.ensures.items ∙ map-append filled_value filled (c.new.result ∷ []) ∙ ap (λ l. map filled_value filled ++ list_value l ∷ []) c.new.ensures in
    subst (AreApart content (lists ++ list ∷ []) given) (sym pushed) (filled_more content lists given (map filled_value filled) list apart has)

pub returns-in_ok-push-2 : goal.returns-in_ok-push-2
returns-in_ok-push-2 c = λ lists apart.
    let content = content_of_parts c.args.feed.now in
    let given = c.args.given.now.items in
    let filled : List LaneValue = map filled_value c.args.filled.now.items in
    let list = list_value c.args.list in
    let has : has_untimed content list ≡ false = ap (list_any (is_untimed_at content)) (sym c.as_slice.ensures) ∙ sym c.has_untimed.ensures ∙ c.if-has_untimed.false in
    let pushed = ap (map list_value) c.in_ok-push-2.ensures.items ∙ map-append list_value given (c.args.list ∷ []) in
    subst (λ l. AreApart content (lists ++ list ∷ []) l filled) (sym pushed) (given_more content lists (map list_value given) filled list apart has)
