use Rattle.std.proofs.Common.{get_or}
use Rattle.std.proofs.lemmas.List.{get_or_default}
use Rattle.gtfs_runs.specs.declared.stop_lanes.listed.Ranked.{Ranked}
use Rattle.gtfs_runs.proofs.Chunks.{no_event}
use Rattle.gtfs_runs.proofs.Pushes.{mapped-all, pushed-more}
use Rattle.gtfs_runs.proofs.stop_lanes.listed.at_places.Goals as goal

abbrev no_place : Ranked
no_place = record { rank = 0; at = 0 }

pub loop-place-preserved : goal.loop-place-preserved
loop-place-preserved c = λ d.
    let xs = c.args.listed.now in
    let places = c.args.places.now in
    let n = c.loop-place.place-index in
    let x = get_or places n no_place in
    pushed-more (λ y. get_or xs y.at d) places n x _ _ _ c.loop-place-test.true (get_or_default places n no_place x c.loop-place-test.true) (c.loop-place.invariant d) c.in_ok-push.ensures.items
    (get_or_default xs x.at no_event d (c.requires n no_place c.loop-place-test.true))

pub returns : goal.returns
returns c = λ d. mapped-all (λ y. get_or c.args.listed.now y.at d) c.args.places.now c.loop-place.place-index _ c.loop-place-test.false (c.loop-place.invariant d)
