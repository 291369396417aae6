use Rattle.std.proofs.Common.{◌≡◌, ◌<◌, ◌∙◌, ℕ, List, [], ◌∷◌, length, map, take, drop, get_or, sym, ap, subst, arith}
use Rattle.std.specs.List.{All}
use Rattle.std.proofs.lemmas.List.{get_or_default, length-append, length-drop, length-map, map-append, take-map}
use Rattle.std.proofs.lemmas.List.Elements.{All-push}
use Rattle.gtfs_rows.specs.RowsInMemory.{content_of_parts}
use Rattle.gtfs_runs.specs.LaneKinds.{IsListLane}
use Rattle.gtfs_rows.specs.TransferOrder.{Ascends}
use Rattle.gtfs_runs.specs.EventOrder.{event_cmp}
use Rattle.gtfs_runs.specs.StopLanes.{list_value}
use Rattle.gtfs_runs.specs.declared.event.Event.{Event}
use Rattle.gtfs_runs.specs.declared.stop_lanes.listed.ListedEvent.{ListedEvent}
use Rattle.gtfs_runs.specs.steps.Courses.{event_of, how_many, is_same_course, stopping_of}
use Rattle.gtfs_runs.proofs.Chunks.{fewer, lane_of_course, no_event, told_list}
use Rattle.gtfs_runs.proofs.CourseOrder.{count_more}
use Rattle.gtfs_runs.proofs.Numbers.{alike_ascend, courses_ascend}
use Rattle.gtfs_runs.proofs.Pushes.{none-made}
use Rattle.gtfs_runs.proofs.stop_lanes.lists.add_list.Goals as goal

-- the lane's part of all events
own_events : (all : List Event) (at n : ℕ) (xs : List ListedEvent) (part : List Event) → drop at all ≡ map event_of xs → part ≡ take n (drop at all) → part ≡ map event_of (take n xs)
own_events all at n xs part here is = is ∙ ap (take n) here ∙ take-map event_of n xs

pub part-requires : goal.part-requires
part-requires c =
    let len = c.course_len-len in
    let here = ap length c.requires.events ∙ length-map c.args.listed.now event_of in
    omega (arith, len.ensures.within, len.ensures.some, here, length-drop c.args.at c.args.all.now)

pub new-requires : goal.new-requires
new-requires c =
    let len = c.course_len-len in
    let xs = c.args.listed.now in
    subst (Ascends event_cmp) (sym (own_events c.args.all.now c.args.at len.result xs c.in_ok-events.events c.requires.events c.in_ok-events.ensures))
    (alike_ascend xs len.result len.ensures.within len.ensures.alike c.requires.sorted)

pub returns-clause-told : goal.returns-clause-told
returns-clause-told c = λ p k numbers served.
    let len = c.course_len-len in
    let xs = c.args.listed.now in
    let first = get_or xs 0 no_event in
    let lane = c.new.result in
    let old = c.args.lists.now.items in
    let events = c.new.ensures.events ∙ own_events c.args.all.now c.args.at len.result xs c.in_ok-events.events c.requires.events c.in_ok-events.ensures in
    told_list p xs len.result first len.ensures.some len.ensures.within (courses_ascend p xs numbers c.requires.sorted) (λ k d. len.ensures.same p k d numbers)
    (get_or_default xs 0 no_event first c.requires.some) k (map list_value old) (map list_value c.push.new.self.items) (list_value lane)
    (ap (map list_value) c.in_ok-push.ensures.items ∙ map-append list_value old (lane ∷ [])) events
    (ap (λ x. x.0) c.new.ensures.service ∙ c.service.ensures ∙ sym (served 0 no_event c.requires.some))

pub returns-clause-alike : goal.returns-clause-alike
returns-clause-alike c = λ p q numbers own was.
    let len = c.course_len-len in
    let xs = c.args.listed.now in
    let first = get_or xs 0 no_event in
    let lane = c.new.result in
    let old = c.args.lists.now.items in
    let events = c.new.ensures.events ∙ own_events c.args.all.now c.args.at len.result xs c.in_ok-events.events c.requires.events c.in_ok-events.ensures in
    let pushed = ap (map list_value) c.in_ok-push.ensures.items ∙ map-append list_value old (lane ∷ []) in
    subst (All (IsListLane (content_of_parts q))) (sym pushed)
    (All-push (IsListLane (content_of_parts q)) (map list_value old) (list_value lane) was
    (lane_of_course p xs len.result first len.ensures.some len.ensures.within (courses_ascend p xs numbers c.requires.sorted) (λ k d. len.ensures.same p k d numbers)
    (get_or_default xs 0 no_event first c.requires.some) q (list_value lane) events own))

pub returns-clause-within : goal.returns-clause-within
returns-clause-within c = λ m serve were.
    let lane = c.new.result in
    let old = c.args.lists.now.items in
    let pushed = ap (map list_value) c.in_ok-push.ensures.items ∙ map-append list_value old (lane ∷ []) in
    subst (All (λ x. x.service < m)) (sym pushed)
    (All-push (λ x. x.service < m) (map list_value old) (list_value lane) were
    (subst (λ n. n < m) (sym (ap (λ x. x.0) c.new.ensures.service ∙ c.service.ensures)) (serve 0 no_event c.requires.some)))

pub returns-clause-counted : goal.returns-clause-counted
returns-clause-counted c = λ p numbers.
    let len = c.course_len-len in
    let xs = c.args.listed.now in
    let first = get_or xs 0 no_event in
    let old = c.args.lists.now.items in
    let more = ap length c.in_ok-push.ensures.items ∙ length-append old (c.new.result ∷ []) in
    count_more (length old) (length c.push.new.self.items) (how_many is_same_course (map (λ x. x.course) (map (stopping_of p) (drop len.result xs))))
    (how_many is_same_course (map (λ x. x.course) (map (stopping_of p) xs))) more
    (fewer p xs len.result first len.ensures.some len.ensures.within (courses_ascend p xs numbers c.requires.sorted) (λ k d. len.ensures.same p k d numbers)
    (get_or_default xs 0 no_event first c.requires.some) (λ d. len.ensures.ends p d numbers))

pub returns-in_err-events : goal.returns-in_err-events
returns-in_err-events c =
    let r = c.from_residual.result in
    let refused = c.from_residual.ensures.1 in
    record { some = none-made r _ _ refused; upto = none-made r _ _ refused; told = none-made r _ _ refused; counted = none-made r _ _ refused; within = none-made r _ _ refused; alike = none-made r _ _ refused }

pub returns-in_err-push : goal.returns-in_err-push
returns-in_err-push c =
    let r = c.from_residual-in_err-push.result in
    let refused = c.from_residual-in_err-push.ensures.1 in
    record { some = none-made r _ _ refused; upto = none-made r _ _ refused; told = none-made r _ _ refused; counted = none-made r _ _ refused; within = none-made r _ _ refused; alike = none-made r _ _ refused }
