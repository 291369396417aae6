use Rattle.std.proofs.Common.{◌≡◌, ◌++◌, map, string_bytes}
use Rattle.gtfs_merge.proofs.rows.headsigns.FoundHeadsigns.into_list.Given as goal

-- the texts so far, and those that are left
abbrev pub invariant-loop-text : goal.invariant-loop-text
invariant-loop-text l = l.list.items ++ map string_bytes l.text-iterator ≡ l.fn.self
