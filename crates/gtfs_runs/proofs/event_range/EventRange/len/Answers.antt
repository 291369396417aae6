use Rattle.std.proofs.Common.{◌∙◌, List, drop, length, sym, ap, arith}
use Rattle.std.proofs.lemmas.List.{length-drop, length-take-le}
use Rattle.gtfs_runs.specs.declared.event.Event.{Event}
use Rattle.gtfs_runs.proofs.event_range.EventRange.len.Goals as goal

pub returns : goal.returns
returns c =
    let own = c.self.inside in
    let all : List Event = own.all.value.items in
    let left = length-drop own.start all in
    sym (ap length (sym c.self.view_is) ∙ length-take-le own.len (drop own.start all) (omega (arith, left, c.self.invariant)))
