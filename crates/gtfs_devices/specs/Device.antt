-- What devices tell of themselves: how often they were called and how often they failed, and what went out to an output.
use Rattle.std.specs.Prelude.{ℕ, zero, suc, List, Option, Some, None, ◌≡◌, ◌+◌, ◌-◌, ◌^◌, ◌≤◌, min, ⊤}

-- a count after one more; it stays at its greatest value
abbrev pub next_count : ℕ → ℕ
next_count count = min (count + 1) (2 ^ 64 - 1)

-- a count of failures has risen; one that stands at its greatest value counts as risen
abbrev pub Rises : ℕ → ℕ → Type 0
Rises before after = next_count before ≤ after

-- the last thing that happened to an output was a write that failed; fails holds from the state before such a write to the one after it
pub record FailsLast {O : Type 0} (fails : O → O → Type 0) (now : O) : Type 0 where
  pub before : O
  pub failed : fails before now

-- the calls of a device that counts them: how many there were, at most 2 ^ 64 - 1, and the number of the one that fails, from 1
pub record Calls : Type 0 where
  pub made : ℕ
  pub failing : Option ℕ

-- a count after so many more
abbrev pub counted_times : ℕ → ℕ → ℕ
counted_times zero count = count
counted_times (suc more) count = next_count (counted_times more count)

-- the calls after so many more
abbrev pub calls_after : ℕ → Calls → Calls
calls_after more calls = record calls { made = counted_times more calls.made }

-- so many more calls were made; this says nothing of a device that counts none
abbrev pub MakesCalls : ℕ → Option Calls → Option Calls → Type 0
MakesCalls more None new = ⊤
MakesCalls more (Some old) new = new ≡ Some (calls_after more old)

-- the call that fails was the last; this says nothing of a device that counts none
abbrev pub FailsAtLast : Option Calls → Type 0
FailsAtLast None = ⊤
FailsAtLast (Some calls) = calls.failing ≡ Some calls.made

-- at least one more call was made, and at most so many
pub record MakesSomeCalls (most : ℕ) (old new : Option Calls) : Type 0 where
  pub count : ℕ
  pub some : 1 ≤ count
  pub few : count ≤ most
  pub made : MakesCalls count old new

-- an output in memory: what went out, how many bytes still fit, and how often it failed
pub record Sent : Type 0 where
  pub text : List ℕ
  pub left : ℕ
  pub failures : ℕ
