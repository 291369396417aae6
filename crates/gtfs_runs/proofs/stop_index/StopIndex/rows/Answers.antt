use Rattle.std.proofs.Common.{◌≡◌, ◌∙◌, length, sym, ap, arith}
use Rattle.std.specs.List.{slice_get}
use Rattle.gtfs_runs.specs.StopIndex.{StopIndexValue}
use Rattle.gtfs_runs.proofs.stop_index.StopIndex.rows.Goals as goal

pub at-requires : goal.at-requires
at-requires c =
    let size : length c.self.inside.rows ≡ length c.args.self.now.feed.stops = c.self.invariant.rows.counted ∙ ap (λ (v : StopIndexValue). length v.feed.stops) c.self.view_is in
    omega (arith, size, c.requires)

pub returns : goal.returns
returns c = ap (λ (v : StopIndexValue). slice_get v.rows c.args.stop.0) (sym c.self.view_is) ∙ c.at.ensures
