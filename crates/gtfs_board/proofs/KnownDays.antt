-- What the departures of the lanes of a stop keep, and that a day has no head where all of them lie past the end or below the floor.
use Rattle.std.proofs.Common.{◌≡◌, ◌+◌, ℕ, zero, suc, ℤ, true, false, List, [], ◌++◌, inl, inr, ap, ◌∙◌, arith}
use Rattle.std.specs.Prelude.{◌||◌, pos, ◌+ℤ◌, ◌<ℤ◌, int_lt}
use Rattle.std.specs.Option.{option_to_list}
use Rattle.std.proofs.lemmas.Bool.{cases_Bool}
use Rattle.std.proofs.lemmas.Int.{ints}
use Rattle.gtfs_field.proofs.NumberFacts.{int_lt-true}
use Rattle.gtfs_days.specs.Service.{first_service_day, last_service_day, service_days}
use Rattle.gtfs_days.specs.Zone.{zone_origin}
use Rattle.gtfs_board.specs.UpcomingDays.{all_of, count_of, events_of}
use Rattle.gtfs_board.specs.declared.service_days.Days.{Days}
use Rattle.gtfs_board.specs.declared.upcoming.candidate.Candidate.{Candidate}
use Rattle.gtfs_board.specs.upcoming.Candidates.{AreDepartures, candidate_lt, heads_on}
use Rattle.gtfs_board.specs.upcoming.OpenedLanes.{Events}
use Rattle.gtfs_board.specs.upcoming.QueueOrder.{In}
use Rattle.gtfs_board.proofs.Days.{heads_on-more, heads_on-none}
use Rattle.gtfs_board.proofs.LaneDays.{all_there, events_end, events_timely, lanes_ascend, none_before, none_beyond}
use Rattle.gtfs_board.proofs.Orders.{find-none}
use Rattle.gtfs_board.proofs.ServiceDays.{day_listed, day_within}

pub known : (s : Days) → AreDepartures (count_of s) s.lanes.greatest s.end first_service_day last_service_day service_days (zone_origin s.zone.now) (events_of s) (all_of s)
known s =
    let p = s.feed.now in
    let origin = zone_origin s.zone.now in
    record {
      ends = events_end p origin s.lanes s.end;
      timely = events_timely p origin s.lanes s.end s.timely;
      listed = day_listed;
      within = day_within;
      before = none_before p origin s.lanes s.end;
      beyond = none_beyond p origin s.lanes s.end;
      lanes = lanes_ascend p s.zone.now s.lanes s.end s.ascending s.timely;
      whole = all_there p origin s.lanes s.end;
    }

no_heads : (events : Events Candidate) (floor : Candidate) (day : ℤ) (n : ℕ) → ((i : ℕ) (c : Candidate) → In c (events i day) → candidate_lt floor c ≡ false)
    → heads_on events floor day n ≡ []
no_heads events floor day zero below = heads_on-none events floor day
no_heads events floor day (suc n) below =
    let next : suc n ≡ n + 1 = omega arith in
    ap (heads_on events floor day) next ∙ heads_on-more events floor day n
    ∙ (let before = no_heads events floor day n below in let none = find-none (candidate_lt floor) (events n day) (below n) in λ i. before i ++ option_to_list (none i))

module _ {count latest : ℕ} {end first last : ℤ} {days : List ℤ} {origins : ℤ → ℤ} {events : Events Candidate} {all : List Candidate}
    (departures : AreDepartures count latest end first last days origins events all) where
  past_end : (floor : Candidate) (day : ℤ) → end <ℤ origins day → (i : ℕ) (c : Candidate) → In c (events i day) → candidate_lt floor c ≡ false
  past_end floor day late i c there =
      let ends = departures.ends i day c there in
      let from = (departures.timely i day c there).0 in
      absurd (omega (arith, ints, late, ends, from))

  below_floor : (floor : Candidate) (day : ℤ) → (origins day +ℤ pos latest) <ℤ floor.instant → (i : ℕ) (c : Candidate) → In c (events i day) → candidate_lt floor c ≡ false
  below_floor floor day early i c there = elim (cases_Bool (candidate_lt floor c)) [
    | inl above ↦
        let follows = departures.lanes.follow floor c above in
        let upto = (departures.timely i day c there).1 in
        absurd (omega (arith, ints, early, follows, upto))
    | inr is ↦ is
  ]

  pub heads_on-idle : (floor : Candidate) (day o : ℤ) → o ≡ origins day → (int_lt end o || int_lt (o +ℤ pos latest) floor.instant) ≡ true → heads_on events floor day count ≡ []
  heads_on-idle floor day o is idle = elim (cases_Bool (int_lt end o)) [
    | inl late ↦ no_heads events floor day count (past_end floor day (let less = int_lt-true end o late in omega (arith, ints, less, is)))
    | inr isnt ↦ no_heads events floor day count (below_floor floor day (let less = int_lt-true (o +ℤ pos latest) floor.instant (rw isnt at idle) in omega (arith, ints, less, is)))
  ]
