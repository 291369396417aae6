-- What waits: of each opened day of each lane the first event above a floor.
use Rattle.std.specs.Prelude.{◌≡◌, ◌⊎◌, ℕ, ◌+◌, ◌*◌, ◌≤◌, Bool, true, cond, ◌&&◌, List, [], ℤ, pos, ◌+ℤ◌, ◌*ℤ◌, ◌≤ℤ◌, ◌<ℤ◌, int_lt}
use Rattle.std.specs.List.{find, filter}
use Rattle.gtfs_board.specs.Board.{may_be_opened, origin_distance}
use Rattle.gtfs_runs.specs.Tallies.{tally}
use Rattle.gtfs_board.specs.upcoming.QueueOrder.{In, AscendsBy, same, holds, ascending_by}

-- the events of each lane on each day
abbrev pub Events : Type 0 → Type 0
Events C = ℕ → ℤ → List C

-- events of `count` lanes: each list ascends, an event tells its lane and its day, its instant is near its day, and follows the order
pub record AreLanes {C : Type 0} (lt : C → C → Bool) (instant day : C → ℤ) (lane : C → ℕ) (count latest : ℕ) (events : Events C) : Type 0 where
  pub ascend : (i : ℕ) (d : ℤ) → AscendsBy lt (events i d)
  pub of_lane : (i : ℕ) (d : ℤ) (x : C) → In x (events i d) → lane x ≡ i
  pub of_day : (i : ℕ) (d : ℤ) (x : C) → In x (events i d) → day x ≡ d
  pub few : (i : ℕ) (d : ℤ) → count ≤ i → events i d ≡ []
  pub early : (i : ℕ) (d : ℤ) (x : C) → In x (events i d) → (d *ℤ pos 86_400) ≤ℤ (instant x +ℤ pos origin_distance)
  pub late : (i : ℕ) (d : ℤ) (x : C) → In x (events i d) → instant x ≤ℤ (d *ℤ pos 86_400 +ℤ pos (latest + origin_distance))
  pub follow : (x y : C) → lt x y ≡ true → instant x ≤ℤ instant y

-- the event is the first above the floor of its lane, on a day before the first unopened one
abbrev pub is_head : {C : Type 0} → (C → C → Bool) → (C → ℤ) → (C → ℕ) → Events C → ℤ → (C → Bool) → C → Bool
is_head lt day lane events opened floor x = int_lt (day x) opened && holds lt x (find floor (events (lane x) (day x)))

-- the queue holds each head once, and nothing else
abbrev pub AreHeads : {C : Type 0} → (C → C → Bool) → (C → ℤ) → (C → ℕ) → Events C → ℤ → (C → Bool) → List C → Type 0
AreHeads {C} lt day lane events opened floor queue = (x : C) → tally (same lt x) queue ≡ cond (is_head lt day lane events opened floor x) 1 0

-- what is left above a floor, of all events
abbrev pub rest_of : {C : Type 0} → (C → C → Bool) → List C → (C → Bool) → List C
rest_of lt all floor = ascending_by lt (filter floor all)

-- a list of all events
pub record AreAll {C : Type 0} (day : C → ℤ) (lane : C → ℕ) (events : Events C) (all : List C) : Type 0 where
  pub sound : (x : C) → In x all → In x (events (lane x) (day x))
  pub whole : (x : C) → In x (events (lane x) (day x)) → In x all

-- a day that may have been opened and lies before the first unopened one
abbrev pub is_opened : ℤ → ℤ → ℤ → ℤ → Bool
is_opened low opened x d = int_lt d opened && may_be_opened low x d

-- every unopened day lies above x
abbrev pub IsStopped : ℤ → ℤ → ℤ → Type 0
IsStopped last opened x = (last <ℤ opened) ⊎ ((x +ℤ pos origin_distance) <ℤ (opened *ℤ pos 86_400))

-- every unopened day begins at or after a low mark, as far as its date tells
abbrev pub IsFrom : ℤ → ℤ → ℤ → Type 0
IsFrom low last opened = (last <ℤ opened) ⊎ (low ≤ℤ (opened *ℤ pos 86_400))

-- each day that was opened took a step a lane at most: from one count of steps to another the first unopened day and the
-- mark changed, and this holds for every low mark
abbrev pub AreStepsFew : ℕ → ℤ → List ℤ → ℕ → ℤ → ℤ → ℕ → ℤ → ℤ → Type 0
AreStepsFew count last days before day mark after next falls = (low : ℤ) → IsFrom low last day
    → after + count * tally (is_opened low day mark) days ≤ before + count * tally (is_opened low next falls) days
