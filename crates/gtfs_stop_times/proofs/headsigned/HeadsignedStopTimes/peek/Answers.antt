use Rattle.std.proofs.Common.{◌<◌, ◌∙◌, Some, ap, length, subst, sym}
use Rattle.std.specs.Prelude.{slice_get}
use Rattle.std.proofs.lemmas.Option.{get_or_from_slice_get}
use Rattle.gtfs_stop_times.specs.HeadsignedRows.{Headsigned}
use Rattle.gtfs_stop_times.proofs.HeadsignedFacts.{peeked}
use Rattle.gtfs_stop_times.proofs.headsigned.HeadsignedStopTimes.peek.Goals as goal

pub returns : goal.returns
returns c =
    let k = c.self.inside in
    let more = subst (λ (h : Headsigned). 0 < length h.left) (sym c.self.view_is) c.requires in
    let here = get_or_from_slice_get k.order k.given c.get-row.result 0 c.get-row.ensures in
    sym (ap (λ (h : Headsigned). slice_get h.left 0) c.self.view_is)
    ∙ peeked k.rows.items k.notes.items k.order k.len k.given c.self.invariant more c.get-row.result here c.index.result.now c.index-note.result.now c.index.ensures c.index-note.ensures
    ∙ (λ i. Some (record {
      trip = sym c.trip.ensures i;
      row = c.get-row.result;
      has_headsign = sym c.has_headsign.ensures i;
      times = sym c.times.ensures i;
      stop_row = c.index.result.now;
    }))
