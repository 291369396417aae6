use Rattle.std.proofs.Common.{◌≡◌, ◌<◌, ◌+◌, ◌++◌, ◌∙◌, length, map, drop, sym, ap, subst}
use Rattle.std.specs.List.{All}
use Rattle.std.specs.declared.cmp.Ordering.TheVariants.{Less}
use Rattle.std.proofs.lemmas.List.{drop-map, take_rest}
use Rattle.std.proofs.lemmas.List.Elements.{All-drop}
use Rattle.gtfs_rows.specs.TransferOrder.{Ascends}
use Rattle.gtfs_runs.specs.StopLanes.{events_of_service, list_value}
use Rattle.gtfs_runs.specs.steps.Courses.{AreServed, IsListed, event_of, how_many, is_same_course, stopping_events, stopping_of}
use Rattle.gtfs_runs.specs.steps.CourseNumbers.{AreNumbered, listed_cmp}
use Rattle.gtfs_runs.proofs.Chunks.{left_more, pairs-drop, upto_more}
use Rattle.gtfs_runs.proofs.Numbers.{numbers_left, served_left}
use Rattle.gtfs_runs.proofs.Pushes.{none-made}
use Rattle.gtfs_runs.proofs.stop_lanes.lists.lists.Goals as goal

pub add_list-requires-clause-sorted : goal.add_list-requires-clause-sorted
add_list-requires-clause-sorted c =
    let xs = c.args.listed.now in
    subst (Ascends listed_cmp) (sym (take_rest xs c.loop-at.at)) (pairs-drop (λ a b. listed_cmp a b ≡ Less) c.loop-at.at xs c.requires)

pub add_list-requires-clause-events : goal.add_list-requires-clause-events
add_list-requires-clause-events c =
    let xs = c.args.listed.now in
    let at = c.loop-at.at in
    ap (drop at) (c.in_ok-all.ensures ∙ c.in_ok-events.ensures) ∙ drop-map event_of at xs ∙ ap (map event_of) (sym (take_rest xs at))

pub loop-at-preserved : goal.loop-at-preserved
loop-at-preserved c =
    let xs = c.args.listed.now in
    let at = c.loop-at.at in
    let n = c.in_ok-at.field-0 in
    let told = c.in_ok-at.ensures in
    let so_far = c.loop-at.invariant in
    let old = c.loop-at.lists.items in
    let new = c.add_list.new.lists.items in
    let here = take_rest xs at in
    let left = left_more xs at n in
    record {
      upto = upto_more xs at n so_far.upto told.upto;
      told = λ p k numbers served.
          ap (λ l. events_of_service k (map list_value new) ++ stopping_events k (map (stopping_of p) l)) (sym left)
          ∙ told.told p k (subst (AreNumbered p) (sym here) (numbers_left p at xs numbers)) (subst (AreServed p) (sym here) (served_left p at xs served))
          ∙ ap (λ l. events_of_service k (map list_value old) ++ stopping_events k (map (stopping_of p) l)) here ∙ so_far.told p k numbers served;
      counted = λ p numbers.
          ap (λ l. length new + how_many is_same_course (map (λ x. x.course) (map (stopping_of p) l))) (sym left)
          ∙ told.counted p (subst (AreNumbered p) (sym here) (numbers_left p at xs numbers))
          ∙ ap (λ l. length old + how_many is_same_course (map (λ x. x.course) (map (stopping_of p) l))) here ∙ so_far.counted p numbers;
      within = λ m serve. told.within m (subst (All (λ x. x.service < m)) (sym here) (All-drop (λ x. x.service < m) at xs serve)) (so_far.within m serve);
      alike = λ p q numbers own.
          told.alike p q (subst (AreNumbered p) (sym here) (numbers_left p at xs numbers))
          (subst (All (λ x. IsListed q (stopping_of p x))) (sym here) (All-drop (λ x. IsListed q (stopping_of p x)) at xs own)) (so_far.alike p q numbers own);
    }

pub returns-in_err-at : goal.returns-in_err-at
returns-in_err-at c =
    let r = c.from_residual-in_err-at.result in
    let refused = c.from_residual-in_err-at.ensures.1 in
    record { told = none-made r _ _ refused; counted = none-made r _ _ refused; within = none-made r _ _ refused; alike = none-made r _ _ refused }
