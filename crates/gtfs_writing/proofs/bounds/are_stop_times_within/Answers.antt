use Rattle.std.proofs.Common.{◌≡◌, ◌∙◌, ◌+◌, ap, arith}
use Rattle.gtfs_writing.specs.LongestTexts.{longest}
use Rattle.gtfs_writing.proofs.StopTimeBounds.{most, not-longer}
use Rattle.gtfs_writing.proofs.bounds.are_stop_times_within.Goals as goal

pub returns : goal.returns
returns c =
    let p = c.args.parts.now in
    let ids = c.longest_trip_id.ensures ∙ ap (longest (λ t. t.trip_id)) c.as_slice.ensures in
    let stops = c.longest_stop_id.ensures ∙ ap (longest (λ s. s.stop_id)) c.as_slice-2.ensures in
    let headsigns = c.longest_headsign.ensures ∙ ap (longest (λ t. t)) c.as_slice-3.ensures in
    let texts : c.longest_trip_id.result + c.longest_stop_id.result + c.longest_headsign.result ≡ most p = omega (arith, ids, stops, headsigns) in
    not-longer p c.args.limit c.in-Some.room c.len.result _ c.requires (omega (arith, c.in-Some.ensures)) c.len.ensures texts
