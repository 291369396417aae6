use Rattle.std.proofs.Common.{refl, subst, sym}
use Rattle.gtfs_schema.specs.Problems.{Passes}
use Rattle.gtfs_schema.specs.steps.FeedIds.{AreIdsOf}
use Rattle.gtfs_rules.specs.StopTimes.{AreStopTimes}
use Rattle.gtfs_reading.specs.FeedRows.{AreRowsOf}
use Rattle.gtfs_reading.specs.StopTimeLists.{AreStopTimesOf}
use Rattle.gtfs_feed.specs.FeedDrafts.{parts_with}
use Rattle.gtfs_feed.proofs.ReadRows.{content_is, make_a_feed}
use Rattle.gtfs_reading.proofs.StopTimesAdded.{content_is as content_with}
use Rattle.gtfs_feed.proofs.draft.FeedDraft.new.Goals as goal

pub new-requires-clause-stop_times : goal.new-requires-clause-stop_times
new-requires-clause-stop_times c = subst (λ d. AreStopTimes d c.into_parts-ids.result.1) (sym c.tables-tables.ensures.value) c.into_parts-ids.ensures.stop_times

pub new-requires-clause-ids : goal.new-requires-clause-ids
new-requires-clause-ids c = (subst (λ d. AreIdsOf d c.into_parts-ids.result.0) (sym c.tables-tables.ensures.value) c.into_parts-ids.ensures.ids).network

pub invariant_of-result : goal.invariant_of-result
invariant_of-result c =
    let d = c.tables-tables.result.now in
    let are = c.in_ok-rows.ensures in
    let p = parts_with c.in_ok-rows.rows c.in_ok-stop_times.stop_times in
    make_a_feed d c.tables-tables.ensures.passes p are c.in_ok-stop_times.stop_times c.in_ok-stop_times.ensures refl refl (content_with p d are)

pub returns-clause-content : goal.returns-clause-content
returns-clause-content c =
    let d = c.args.passed in
    let passes = subst Passes c.tables-tables.ensures.value c.tables-tables.ensures.passes in
    let are = subst (λ e. AreRowsOf e c.in_ok-rows.rows) c.tables-tables.ensures.value c.in_ok-rows.ensures in
    let lists = subst (λ e. AreStopTimesOf e c.in_ok-stop_times.stop_times) c.tables-tables.ensures.value c.in_ok-stop_times.ensures in
    let p = parts_with c.in_ok-rows.rows c.in_ok-stop_times.stop_times in
    content_is d passes p are c.in_ok-stop_times.stop_times lists refl refl (content_with p d are)

pub returns-clause-headsigns : goal.returns-clause-headsigns
returns-clause-headsigns c = (subst (λ e. AreStopTimesOf e c.in_ok-stop_times.stop_times) c.tables-tables.ensures.value c.in_ok-stop_times.ensures).first_named
