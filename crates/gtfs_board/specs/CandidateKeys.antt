-- The keys of candidates, whose trips go by number.
use Rattle.std.specs.Prelude.{◌≡◌, ◌<◌, ℕ, List, length}
use Rattle.std.specs.declared.cmp.Ordering.{Ordering}
use Rattle.gtfs_rows.specs.TransferOrder.{Ascends}
use Rattle.gtfs_rows.specs.RowsInMemory.{text_of_number}
use Rattle.gtfs_field.specs.TextOrder.{text_cmp}
use Rattle.gtfs_rows.specs.Key.{Key, key_cmp}
use Rattle.gtfs_board.specs.declared.upcoming.candidate.Candidate.{Candidate}

-- the key of a candidate among trips with these ids
abbrev pub key_among : List (List ℕ) → Candidate → Key
key_among ids c = record { instant = c.instant; trip = text_of_number ids c.trip; run = c.run; sequence = c.sequence; day = c.day }

-- two candidates compare as their keys do, among any trips that are numbered in the order of their ids
abbrev pub ComparesAsKeys : Candidate → Candidate → Ordering → Type 0
ComparesAsKeys a b r = (ids : List (List ℕ)) → Ascends text_cmp ids → a.trip < length ids → b.trip < length ids
    → r ≡ key_cmp (key_among ids a) (key_among ids b)
