-- Candidates: their order, what those of the lanes of a stop keep, and what waits of them while a board is read.
use Rattle.std.specs.Option.{option_to_list}
use Rattle.std.specs.BinaryHeap.{IsHeap}
use Rattle.std.specs.List.Sorted.{IsSorted}
use Rattle.std.specs.Prelude.{◌≡◌, ◌≤◌, ◌*◌, ◌∷◌, length, Bool, false, ℕ, ℤ, List, [], Option, Some, None, MatchOption, map, ◌++◌, pos, ◌+ℤ◌, ◌*ℤ◌, ◌≤ℤ◌, ◌<ℤ◌, ◌⊎◌}
use Rattle.gtfs_board.specs.Board.{StepCount, origin_distance, reach, width}
use Rattle.std.specs.List.{find, filter_map, range_with_len, fold}
use Rattle.std.specs.Int.{int_min}
use Rattle.gtfs_runs.specs.Tallies.{tally}
use Rattle.gtfs_board.specs.upcoming.QueueOrder.{In, Each, same}
use Rattle.gtfs_board.specs.upcoming.OpenedLanes.{Events, AreAll, AreHeads, AreLanes, IsStopped, rest_of}
use Rattle.std.specs.declared.cmp.Ordering.{Ordering}
use Rattle.std.specs.Ordering.{nat_cmp, int_cmp, is_lt, on, then_cmp, flip_args}
use Rattle.gtfs_board.specs.declared.upcoming.candidate.Candidate.{Candidate}

-- by instant, trip, run, sequence and day, as keys are
abbrev pub departure_cmp : Candidate → Candidate → Ordering
departure_cmp = then_cmp (on (λ c. c.instant) int_cmp)
    (then_cmp (on (λ c. c.trip) nat_cmp)
    (then_cmp (on (λ c. c.run) nat_cmp)
    (then_cmp (on (λ c. c.sequence) nat_cmp)
    (on (λ c. c.day) int_cmp))))

-- by lane, row and time
abbrev pub lane_cmp : Candidate → Candidate → Ordering
lane_cmp = then_cmp (on (λ c. c.lane) nat_cmp) (then_cmp (on (λ c. c.row) nat_cmp) (on (λ c. c.at) nat_cmp))

-- by all eight, so that two that tie are one
abbrev pub candidate_cmp : Candidate → Candidate → Ordering
candidate_cmp = then_cmp departure_cmp lane_cmp

abbrev pub candidate_lt : Candidate → Candidate → Bool
candidate_lt a b = is_lt (candidate_cmp a b)

-- the first of a list above a floor
abbrev pub first_above : Candidate → List Candidate → Option Candidate
first_above floor cs = find (candidate_lt floor) cs

-- what is left above a floor, of all events
abbrev pub rest_above : List Candidate → Candidate → List Candidate
rest_above all floor = rest_of candidate_lt all (candidate_lt floor)

-- the events of the candidate's lane on its day
abbrev pub slot_of : Events Candidate → Candidate → List Candidate
slot_of events c = events c.lane c.day

-- each candidate stands in both lists equally often
abbrev pub HaveSameMembers : List Candidate → List Candidate → Type 0
HaveSameMembers xs ys = (x : Candidate) → tally (same candidate_lt x) xs ≡ tally (same candidate_lt x) ys

-- none of them lies beyond the end
abbrev pub EndsBy : ℤ → List Candidate → Type 0
EndsBy end cs = (c : Candidate) → In c cs → c.instant ≤ℤ end

-- the first event of each of n lanes on a day above a floor
unfoldable pub heads_on : Events Candidate → Candidate → ℤ → ℕ → List Candidate
heads_on events floor day n = filter_map (λ i. find (candidate_lt floor) (events i day)) (range_with_len 0 n)

-- the least of the instants and a mark
unfoldable pub least_from : ℤ → List Candidate → ℤ
least_from mark cs = fold int_min mark (map (λ c. c.instant) cs)

-- none of them comes before the origin of its day, nor later than the latest after it
abbrev pub AreFromOrigin : ℤ → ℕ → List Candidate → Type 0
AreFromOrigin origin latest cs = (c : Candidate) → In c cs → (origin ≤ℤ c.instant) × (c.instant ≤ℤ (origin +ℤ pos latest))

-- the order of the days, the lanes and the instants of candidates
abbrev pub day_of : Candidate → ℤ
day_of c = c.day

abbrev pub lane_of : Candidate → ℕ
lane_of c = c.lane

abbrev pub instant_of : Candidate → ℤ
instant_of c = c.instant

abbrev pub IsWithin : ℤ → Candidate → Type 0
IsWithin mark c = (c.day *ℤ pos 86_400) ≤ℤ (mark +ℤ pos origin_distance)

-- lanes of candidates, in their order
abbrev pub AreCandidateLanes : ℕ → ℕ → Events Candidate → Type 0
AreCandidateLanes count latest events = AreLanes candidate_lt instant_of day_of lane_of count latest events

-- what the events of `count` lanes keep on the days from the first to the last
pub record AreDepartures (count latest : ℕ) (end first last : ℤ) (days : List ℤ) (origins : ℤ → ℤ) (events : Events Candidate) (all : List Candidate) : Type 0 where
  -- no event lies beyond the end
  pub ends : (i : ℕ) (d : ℤ) → EndsBy end (events i d)
  -- each lies close after the origin of its day
  pub timely : (i : ℕ) (d : ℤ) → AreFromOrigin (origins d) latest (events i d)
  -- the days from the first to the last are the service days, and no other day has events
  pub listed : (d : ℤ) → first ≤ℤ d → d ≤ℤ last → In d days
  pub within : (d : ℤ) → In d days → d ≤ℤ last
  pub before : (i : ℕ) (d : ℤ) → d <ℤ first → events i d ≡ []
  pub beyond : (i : ℕ) (d : ℤ) → last <ℤ d → events i d ≡ []
  pub lanes : AreCandidateLanes count latest events
  pub whole : AreAll day_of lane_of events all

-- the first events above a floor wait, of each lane on each day before `day`
abbrev pub AreHeadsAbove : Events Candidate → Candidate → ℤ → List Candidate → Type 0
AreHeadsAbove events floor day queue = AreHeads candidate_lt day_of lane_of events day (candidate_lt floor) queue

-- the day of each may hold an event at or below the least of them
abbrev pub AreWithinLeast : ℤ → List Candidate → Type 0
AreWithinLeast end queue = Each (IsWithin (least_from end queue)) queue

abbrev pub with_head : List Candidate → Option Candidate → List Candidate
with_head queue head = queue ++ option_to_list head

-- what waits beside the least while days are opened: the heads of the days before `day`, and the least instant
pub record AreGathered (events : Events Candidate) (floor : Candidate) (end : ℤ) (others fresh : List Candidate) (day mark : ℤ) : Type 0 where
  pub heads : AreHeads candidate_lt day_of lane_of events day (candidate_lt floor) (others ++ fresh)
  pub least : mark ≡ least_from end (others ++ fresh)
  pub within : Each (IsWithin mark) (others ++ fresh)

-- where a board stands: at the first that waits, or at the end
abbrev pub instant_or_end : ℤ → Option Candidate → ℤ
instant_or_end end None = end
instant_or_end end (Some c) = c.instant

-- no other comes before the first, and there is no other without a first
abbrev pub IsFirst : Option Candidate → List Candidate → Type 0
IsFirst None others = others ≡ []
IsFirst (Some c) others = Each (λ y. candidate_lt y c ≡ false) others

-- what is at the head of candidates: one of them before which no other comes, and none where there is none
abbrev pub AreHeadedBy : Option Candidate → List Candidate → Type 0
AreHeadedBy o cs = MatchOption o (cs ≡ []) (λ c. In c cs × Each (λ y. candidate_lt y c ≡ false) cs)

-- what waits in two parts: candidates one after another, of which the last comes first, and a heap
pub record AreInOrder (list heap : List Candidate) : Type 0 where
  pub sorted : IsSorted (flip_args candidate_cmp) list
  pub ordered : IsHeap (flip_args candidate_cmp) heap

-- the floor lies on an earlier day, or belongs to none of the lanes
abbrev pub IsAside : Candidate → ℤ → ℕ → Type 0
IsAside floor day count = (floor.day <ℤ day) ⊎ (count ≤ floor.lane)

-- what a board keeps: the heads of the days before `day` wait, the least of them first, and every later day lies above it
pub record IsWaiting (events : Events Candidate) (end last : ℤ) (floor : Candidate) (first : Option Candidate) (others : List Candidate) (day : ℤ) : Type 0 where
  pub heads : AreHeads candidate_lt day_of lane_of events day (candidate_lt floor) (option_to_list first ++ others)
  pub least : IsFirst first others
  pub within : Each (IsWithin (instant_or_end end first)) (option_to_list first ++ others)
  pub stopped : IsStopped last day (instant_or_end end first)

abbrev pub head_of : {X : Type 0} → List X → Option X
head_of [] = None
head_of (x ∷ xs) = Some x

-- what contracts see of the departures that are still to come
pub record UpcomingValue : Type 0 where
  pub rest : List Candidate
  pub queue : List Candidate
  pub lanes : ℕ
  pub latest : ℕ
  pub start : ℤ
  pub end : ℤ
  pub steps : ℕ

-- what waits is left, the first of the rest is the first of the queue, and none waits only where nothing is left; the queue is within its bound
pub record AreQueued (v : UpcomingValue) : Type 0 where
  pub within : Each (λ c. In c v.rest) v.queue
  pub same_first : head_of v.queue ≡ head_of v.rest
  pub bounded : length v.queue ≤ v.lanes * width v.latest

-- how many steps were made, and how many of them for days: a lane for each day that may have been opened
abbrev pub steps_so_far : UpcomingValue → StepCount
steps_so_far v = record { made = v.steps; for_days = v.lanes * reach v.latest v.start (instant_or_end v.end (head_of v.rest)) }

-- with what they were opened
pub record HasSettings (count most : ℕ) (from to : ℤ) (v : UpcomingValue) : Type 0 where
  pub lanes : v.lanes ≡ count
  pub latest : v.latest ≡ most
  pub start : v.start ≡ from
  pub end : v.end ≡ to

abbrev pub KeepsSettings : UpcomingValue → UpcomingValue → Type 0
KeepsSettings v w = HasSettings v.lanes v.latest v.start v.end w

-- the first of the rest is taken away; there is none exactly where nothing is left
abbrev pub TakesFirst : UpcomingValue → UpcomingValue → Option Candidate → Type 0
TakesFirst v w o = MatchOption o ((v.rest ≡ []) × (w.rest ≡ [])) (λ c. v.rest ≡ c ∷ w.rest)

abbrev pub KeepsLists : UpcomingValue → UpcomingValue → Type 0
KeepsLists v w = (w.rest ≡ v.rest) × (w.queue ≡ v.queue)

-- how many departures an answer tells
abbrev pub taken : {C : Type 0} → Option C → ℕ
taken None = 0
taken (Some c) = 1
