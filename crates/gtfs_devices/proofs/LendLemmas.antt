-- What a reader took of a file, chunk by chunk.
use Rattle.std.proofs.Common.{◌≡◌, ◌≤◌, ◌<◌, ◌+◌, ◌-◌, ◌++◌, ℕ, List, length, Option, length-append, arith}
use Rattle.std.specs.Io.KnownBytes.{Consumes}
use Rattle.std.proofs.KnownBytes.{Consumes-trans}
use Rattle.gtfs_devices.specs.Disk.{GivesAtMost, GivesMoreThan}

-- a file gave so many bytes, no more than the limit, and a reader has taken them
pub record LendsSome (limit : ℕ) (old new : Option (List ℕ)) (has_taken : List ℕ → Type 0) (count : ℕ) : Type 0 where
  pub bytes : List ℕ
  pub given : Consumes old new bytes
  pub taken : has_taken bytes
  pub counts : count ≡ length bytes
  pub within : count ≤ limit

-- a further chunk passes the limit
pub lends-over : (limit count : ℕ) (a b c : Option (List ℕ)) (has_taken : List ℕ → Type 0) (chunk : List ℕ) → LendsSome limit a b has_taken count → Consumes b c chunk → limit - count < length chunk → GivesMoreThan limit a c
lends-over limit count a b c has_taken chunk some next over = record {
  bytes = some.bytes ++ chunk;
  given = Consumes-trans a b c some.bytes chunk some.given next;
  over = omega (arith, some.counts, some.within, over, length-append some.bytes chunk);
}

-- a further chunk passes it by one byte at most
pub lends-part : (limit count : ℕ) (a b c : Option (List ℕ)) (has_taken : List ℕ → Type 0) (chunk : List ℕ) → LendsSome limit a b has_taken count → Consumes b c chunk → length chunk ≤ limit - count + 1 → GivesAtMost (limit + 1) a c
lends-part limit count a b c has_taken chunk some next few = record {
  bytes = some.bytes ++ chunk;
  given = Consumes-trans a b c some.bytes chunk some.given next;
  few = omega (arith, some.counts, some.within, few, length-append some.bytes chunk);
}
