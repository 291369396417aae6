use Rattle.std.proofs.lemmas.List.Filters.{dedup_is}
use Rattle.gtfs_schema.proofs.FoundFacts.{same_once, sorted_once}
use Rattle.gtfs_schema.proofs.found.Found.into_sorted.Goals as goal

pub returns-clause-ascending : goal.returns-clause-ascending
returns-clause-ascending c = rw (dedup_is _ _ _ c.dedup.ensures.filtered) (sorted_once _ c.sort_unstable.ensures.sorted)

pub returns-clause-members : goal.returns-clause-members
returns-clause-members c = rw (dedup_is _ _ _ c.dedup.ensures.filtered, ← c.self.view_is) (same_once _ _ c.sort_unstable.ensures.permutation)
