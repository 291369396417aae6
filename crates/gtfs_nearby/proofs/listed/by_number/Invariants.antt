use Rattle.gtfs_nearby.proofs.Listing.{AreListedSoFar}
use Rattle.gtfs_nearby.proofs.listed.by_number.Given as goal

-- the stops so far
abbrev pub invariant-loop-number : goal.invariant-loop-number
invariant-loop-number l = AreListedSoFar l.stops l.number l.listed.items
