use Rattle.std.proofs.Common.{◌∙◌, ◌<◌, ap, length, subst, sym}
use Rattle.std.proofs.lemmas.Bool.{ltb-true}
use Rattle.gtfs_rows.specs.RowsInMemory.{names_stop, stop_ids}
use Rattle.gtfs_advice.proofs.StopFacts.{far}
use Rattle.gtfs_advice.proofs.Telling.{item_at}
use Rattle.gtfs_advice.proofs.stops.is_far_from_parent.Goals as goal

pub returns-in-Some : goal.returns-in-Some
returns-in-Some c =
    let p = c.args.parts.now in
    let n = c.in-Some.parent in
    let parent = c.index-as_slice-parent.result in
    let within = ltb-true n.0 (length p.stops) (sym (ap (names_stop p) c.in-Some.is) ∙ c.requires.parent) in
    let there = item_at p.stops c.as_slice.result.now n.0 parent c.as_slice.ensures (subst (λ stops. n.0 < length stops) (sym c.as_slice.ensures) within) c.index-as_slice-parent.is in
    c.is_far.ensures (stop_ids p) ∙ far p c.requires.sound c.args.stop.now n parent c.in-Some.is there
