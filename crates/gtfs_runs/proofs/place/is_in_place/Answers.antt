use Rattle.std.proofs.Common.{◌∙◌}
use Rattle.gtfs_runs.proofs.PlaceFacts.{place_at, itself, by_parent, neither}
use Rattle.gtfs_rows.specs.RowChoices.{location_code}
use Rattle.gtfs_runs.proofs.place.is_in_place.Goals as goal

pub returns-then-stop-place : goal.returns-then-stop-place
returns-then-stop-place c =
    let row = c.stop_by_number-row.result.now in
    itself c.args.stop.0 c.args.place.0 _ _ (place_at c.args.feed.now c.soundness.ensures row c.args.place.0 c.args.stop.0 row c.requires.place c.stop_by_number-row.ensures) c.if-stop-place.true

pub returns-then-number-eq0 : goal.returns-then-number-eq0
returns-then-number-eq0 c =
    let row = c.stop_by_number-row.result.now in
    c.has_parent.ensures ∙ by_parent c.args.stop.0 c.args.place.0 c.number.result (location_code row.location_type) _ _
    (place_at c.args.feed.now c.soundness.ensures row c.args.place.0 c.args.stop.0 row c.requires.place c.stop_by_number-row.ensures)
    c.if-stop-place.false c.number.ensures.value c.if-number-eq0.true

pub returns-else-number-eq0 : goal.returns-else-number-eq0
returns-else-number-eq0 c =
    let row = c.stop_by_number-row.result.now in
    neither c.args.stop.0 c.args.place.0 c.number.result (location_code row.location_type) _ _
    (place_at c.args.feed.now c.soundness.ensures row c.args.place.0 c.args.stop.0 row c.requires.place c.stop_by_number-row.ensures)
    c.if-stop-place.false c.number.ensures.value c.if-number-eq0.false
