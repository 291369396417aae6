use Rattle.std.proofs.Common.{◌≡◌, ◌∙◌, ap, sym, subst, map}
use Rattle.std.proofs.lemmas.Result.{IfOk-weaker}
use Rattle.gtfs_table.specs.FieldOffsets.{parts}
use Rattle.gtfs_schema.specs.Problems.{Passes}
use Rattle.gtfs_schema.specs.steps.FeedIds.{AreIdsOf}
use Rattle.gtfs_rows.specs.ContentRead.{content_of as content_of_dataset}
use Rattle.gtfs_rows.specs.RowsInMemory.{content_of_parts, stop_row_of}
use Rattle.gtfs_reading.specs.FeedRows.{AreRowsOf}
use Rattle.gtfs_reading.specs.FirstNamed.{headsigns_in}
use Rattle.gtfs_feed.proofs.ReadRows.{content_is, make_a_feed}
use Rattle.gtfs_feed.proofs.feed.Feed.new.Goals as goal

pub new-requires-clause-ids : goal.new-requires-clause-ids
new-requires-clause-ids c = (subst (λ d. AreIdsOf d c.ids.result.now) (sym c.tables.ensures.value) c.ids.ensures).network

pub assemble-requires : goal.assemble-requires
assemble-requires c =
    let d = c.args.passed.now in
    let passes = subst Passes c.tables.ensures.value c.tables.ensures.passes in
    let rows = subst (λ e. AreRowsOf e c.in_ok-rows.rows) c.tables.ensures.value c.in_ok-rows.ensures in
    let w = c.joined-parts.ensures in
    let p = c.joined-parts.result in
    make_a_feed d passes p (subst (AreRowsOf d) (sym w.rows) rows) c.in_ok-stop_times.stop_times c.in_ok-stop_times.ensures
    w.stop_times w.headsigns
    (λ h. w.content d rows (ap (λ t. map (map (stop_row_of p)) (parts t.starts t.rows)) (sym w.stop_times) ∙ h))

pub returns-clause-content : goal.returns-clause-content
returns-clause-content c =
    let d = c.args.passed.now in
    let passes = subst Passes c.tables.ensures.value c.tables.ensures.passes in
    let rows = subst (λ e. AreRowsOf e c.in_ok-rows.rows) c.tables.ensures.value c.in_ok-rows.ensures in
    let w = c.joined-parts.ensures in
    let p = c.joined-parts.result in
    let is : content_of_parts p ≡ content_of_dataset d =
    content_is d passes p (subst (AreRowsOf d) (sym w.rows) rows) c.in_ok-stop_times.stop_times c.in_ok-stop_times.ensures
    w.stop_times w.headsigns
    (λ h. w.content d rows (ap (λ t. map (map (stop_row_of p)) (parts t.starts t.rows)) (sym w.stop_times) ∙ h)) in
    IfOk-weaker c.assemble.result (λ feed. feed ≡ p) (λ feed. content_of_parts feed ≡ content_of_dataset d) (λ feed same. ap content_of_parts same ∙ is) c.assemble.ensures.value

pub returns-clause-headsigns : goal.returns-clause-headsigns
returns-clause-headsigns c =
    let p = c.joined-parts.result in
    let is : p.headsigns ≡ headsigns_in (content_of_dataset c.args.passed.now) = c.joined-parts.ensures.headsigns ∙ c.in_ok-stop_times.ensures.first_named in
    IfOk-weaker c.assemble.result (λ feed. feed ≡ p) (λ feed. feed.headsigns ≡ headsigns_in (content_of_dataset c.args.passed.now)) (λ feed same. ap (λ q. q.headsigns) same ∙ is) c.assemble.ensures.value
