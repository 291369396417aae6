use Rattle.std.proofs.Common.{◌≡◌, ◌<◌, ◌∙◌, length, get_or, refl, sym, ap, subst, arith}
use Rattle.std.specs.List.{All}
use Rattle.std.proofs.lemmas.List.{length-map}
use Rattle.std.proofs.lemmas.List.Elements.{All-map}
use Rattle.gtfs_runs.specs.declared.stop_lanes.listed.ListedEvent.{ListedEvent}
use Rattle.gtfs_runs.specs.steps.Courses.{stopping_of}
use Rattle.gtfs_runs.specs.steps.TripGroups.{below, trip_group}
use Rattle.gtfs_runs.proofs.Chunks.{all_mapped}
use Rattle.gtfs_runs.proofs.Numbers.{kept_by, number_more, served_kept}
use Rattle.gtfs_runs.proofs.stop_lanes.numbered.with_groups.Goals as goal

pub loop-n-preserved : goal.loop-n-preserved
loop-n-preserved c =
    let xs = c.loop-n.listed.items in
    let n = c.loop-n.n in
    let x = c.index_mut.result.now in
    let y : ListedEvent = record { group = c.in_ok-group.group; row = x.row; at = x.at; trip = x.trip; run = x.run; seq = x.seq; service = x.service; rank = x.rank } in
    let all = c.args.listed.items in
    let size : length xs ≡ length all = sym (length-map xs (λ z. z.trip)) ∙ ap length c.loop-n.invariant.trips ∙ length-map all (λ z. z.trip) in
    let within : n < length xs = omega (arith, size, c.loop-n-test.true, c.len-n-end.ensures) in
    let is : x ≡ get_or xs n x = c.index_mut.ensures.value in
    let number : y.group ≡ below c.args.trips.now (trip_group c.args.feed.now x.trip) =
    c.in_ok-group.ensures x ∙ ap (λ l. below c.args.trips.now (trip_group c.args.feed.now (get_or l n x).trip)) c.deref.ensures.value
    ∙ ap (λ z. below c.args.trips.now (trip_group c.args.feed.now z.trip)) (sym is) in
    record {
      same = λ p. kept_by (stopping_of p) xs n x y is refl ∙ c.loop-n.invariant.same p;
      trips = kept_by (λ z. z.trip) xs n x y is refl ∙ c.loop-n.invariant.trips;
      numbers = number_more c.args.feed.now c.args.trips.now xs n y within number c.loop-n.invariant.numbers;
      services = λ p were. served_kept p xs n x y within is refl refl (c.loop-n.invariant.services p were);
    }

pub group_at-requires-clause-known : goal.group_at-requires-clause-known
group_at-requires-clause-known c =
    let m = length c.args.feed.now.trips in
    subst (All (λ x. x.trip < m)) (sym c.deref.ensures.value)
    (all_mapped (λ t. t < m) (λ x. x.trip) c.loop-n.listed.items (subst (All (λ t. t < m)) (sym c.loop-n.invariant.trips) (All-map (λ t. t < m) (λ x. x.trip) c.args.listed.items c.requires.known)))
