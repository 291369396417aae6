use Rattle.std.proofs.Common.{ap, arith, refl}
use Rattle.gtfs_nearby.proofs.Listing.{still_listed-moved, still_listed-ordered}
use Rattle.gtfs_nearby.proofs.listed.ranked_by_lon.Goals as goal

pub loop-rank-preserved : goal.loop-rank-preserved
loop-rank-preserved c = record {
  count = c.loop-rank.invariant.count;
  still = still_listed-ordered c.sort_unstable_by.new.self.items c.loop-rank.listed.items _ c.loop-rank.rank c.index_mut.result.now _ (omega (arith, c.loop-rank.listed.ok.0)) (ap (λ x. x.number) c.index_mut.ensures.value)
      (ap (λ x. x.place) c.index_mut.ensures.value) refl c.loop-rank.invariant.still;
}

pub returns : goal.returns
returns c stops are = c.loop-rank.invariant.still stops (still_listed-moved c.args.listed.items c.sort_unstable_by.new.self.items c.sort_unstable_by.ensures.permutation stops are)
