-- Feeds in memory have few enough ids for new names.
use Rattle.std.proofs.Common.{◌<◌, ◌+◌, ◌^◌, length, arith}
use Rattle.gtfs_rows.specs.Content.{Content}
use Rattle.gtfs_merge.specs.MergedDepartures.{AreFew}
use Rattle.gtfs_merge.specs.Renaming.{ids}
use Rattle.gtfs_merge.specs.declared.kind.Kind.{Kind}

pub few-enough : (k : Kind) (a b : Content) → length (ids k a) + length (ids k b) < 2 ^ 65 → AreFew k a b
few-enough k a b few = omega arith
