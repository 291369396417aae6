use Rattle.std.proofs.Common.{◌≡◌, ◌∙◌, ◌-◌, ◌++◌, ap, arith, length, subst, sym, take}
use Rattle.std.specs.Prelude.{replicate}
use Rattle.gtfs_reading.specs.GatheredStopTimes.{starts_of_all, IsEmptyFor}
use Rattle.gtfs_reading.specs.StopTimeDraft.{lists_with, AreCut}
use Rattle.gtfs_reading.specs.StopTimeLists.{AreStopTimesOf}
use Rattle.gtfs_reading.proofs.ContentIds.{trips_counted}
use Rattle.gtfs_rules.specs.StopTimes.{AreStopTimes}
use Rattle.gtfs_reading.proofs.Gathers.{gathered-all}
use Rattle.gtfs_reading.proofs.draft.StopTimesDraft.of.Goals as goal

pub push_all-requires-clause-empty : goal.push_all-requires-clause-empty
push_all-requires-clause-empty c =
    subst (λ n. IsEmptyFor n c.in_ok-gathered.gathered) (c.len.ensures.value ∙ trips_counted c.args.tables.now c.requires.passes c.args.ids.now c.requires.ids) c.in_ok-gathered.ensures.empty

-- the stop times themselves
pub invariant_of-result : goal.invariant_of-result
invariant_of-result c = c.stop_times.invariant

pub invariant_of-result-2 : goal.invariant_of-result-2
invariant_of-result-2 c =
    let d = c.args.tables.now in
    let g = c.push_all.new.self in
    let are = subst (AreStopTimes d) (sym c.in_ok-gathered.ensures.left) c.requires.stop_times in
    let len : c.len-2.result ≡ length g.stop_times.rows = omega (arith, c.len-2.ensures, ap length c.in_ok-push_all.ensures.all_given) in
    let starts : c.new-2.result ≡ starts_of_all g =
    c.new-2.ensures ∙ c.in_ok-begin.ensures ∙ ap (λ n. take g.trips g.starts.items ++ replicate (g.trips - length g.starts.items) n) len in
    let made = gathered-all d c.requires.passes c.in_ok-gathered.gathered.stop_times.left are g c.in_ok-push_all.ensures.gathered c.in_ok-into_list.ensures.distinct in
    let lists : AreStopTimesOf d (lists_with g.stop_times.rows c.new-2.result c.in_ok-into_list.field-0) =
    subst (AreStopTimesOf d) (λ i. lists_with g.stop_times.rows (sym starts i) (sym c.in_ok-into_list.ensures.texts i)) made in
    let cut : AreCut g.stop_times c.new-2.result = record { all_given = c.in_ok-push_all.ensures.all_given; rising = lists.rising; from_first = lists.from_first } in
    subst (λ s. AreCut s c.new-2.result) (sym c.stop_times.view_is) cut

pub returns : goal.returns
returns c =
    let d = c.args.tables.now in
    let g = c.push_all.new.self in
    let are = subst (AreStopTimes d) (sym c.in_ok-gathered.ensures.left) c.requires.stop_times in
    let len : c.len-2.result ≡ length g.stop_times.rows = omega (arith, c.len-2.ensures, ap length c.in_ok-push_all.ensures.all_given) in
    let starts : c.new-2.result ≡ starts_of_all g =
    c.new-2.ensures ∙ c.in_ok-begin.ensures ∙ ap (λ n. take g.trips g.starts.items ++ replicate (g.trips - length g.starts.items) n) len in
    let made = gathered-all d c.requires.passes c.in_ok-gathered.gathered.stop_times.left are g c.in_ok-push_all.ensures.gathered c.in_ok-into_list.ensures.distinct in
    let lists : AreStopTimesOf d (lists_with g.stop_times.rows c.new-2.result c.in_ok-into_list.field-0) =
    subst (AreStopTimesOf d) (λ i. lists_with g.stop_times.rows (sym starts i) (sym c.in_ok-into_list.ensures.texts i)) made in
    subst (AreStopTimesOf d) (λ i. lists_with (sym c.stop_times.view_is i).rows c.new-2.result c.in_ok-into_list.field-0) lists
