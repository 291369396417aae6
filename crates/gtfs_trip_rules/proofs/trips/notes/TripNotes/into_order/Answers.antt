use Rattle.std.proofs.Common.{◌≡◌, sym}
use Rattle.std.specs.List.Sorted.{IsSorted}
use Rattle.std.proofs.lemmas.Result.{IfOk-weaker}
use Rattle.gtfs_schema.specs.steps.Ids.{ids_of}
use Rattle.gtfs_stop_times.specs.KeptStretches.{AreRising}
use Rattle.gtfs_stop_times.specs.KeptTimes.{is_placed}
use Rattle.gtfs_stop_times.specs.StopTimeOrder.{kept_cmp}
use Rattle.gtfs_trip_rules.proofs.TogetherRows.{rising}
use Rattle.gtfs_trip_rules.proofs.TripCountFacts.{all_pass}
use Rattle.gtfs_trip_rules.proofs.TripPlaced.{kept_in_order, placed_of}
use Rattle.gtfs_trip_rules.proofs.trips.notes.TripNotes.into_order.Goals as goal

pub returns-then-not-are_sequenced : goal.returns-then-not-are_sequenced
returns-then-not-are_sequenced c =
    let n = c.self.inside in
    kept_in_order n.rows c.in_ok-placed.field-0 c.in_ok-placed.ensures (ids_of n.trips.now) n.numbers n.names.items c.self.invariant.numbered c.args.self c.self.view_is c.sorted.result c.sorted.ensures.sorted c.sorted.ensures.moved

pub returns-then-judge : goal.returns-then-judge
returns-then-judge c =
    let n = c.self.inside in
    let are : n.rows ≡ placed_of n.rows = sym (all_pass (λ r. is_placed r.times) n.rows (c.self.invariant.located c.if-not-are_sequenced.false)) in
    let up = rising n.rows (c.self.invariant.judged.together c.if-judge.true) in
    kept_in_order n.rows n.rows are (ids_of n.trips.now) n.numbers n.names.items c.self.invariant.numbered c.args.self c.self.view_is c.by_trips.result
    (IfOk-weaker c.by_trips.result (λ kept. AreRising n.rows → IsSorted kept_cmp kept) (IsSorted kept_cmp) (λ kept sorted. sorted up) c.by_trips.ensures.sorted) c.by_trips.ensures.moved

pub returns : goal.returns
returns c =
    let n = c.self.inside in
    let are : n.rows ≡ placed_of n.rows = sym (all_pass (λ r. is_placed r.times) n.rows (c.self.invariant.located c.if-not-are_sequenced.false)) in
    kept_in_order n.rows n.rows are (ids_of n.trips.now) n.numbers n.names.items c.self.invariant.numbered c.args.self c.self.view_is c.sorted-2.result c.sorted-2.ensures.sorted c.sorted-2.ensures.moved
