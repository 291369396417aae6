-- A board that was opened: what is left of it, what is shown, and its bounds.
use Rattle.std.proofs.Common.{◌≡◌, ◌+◌, ◌*◌, ◌≤◌, ◌<◌, ℕ, zero, suc, ℤ, ◌&&◌, Bool, true, false, List, [], ◌∷◌, map, length, Option, Some, None, refl, sym, ap, subst, ◌∙◌, inl, inr, arith, find, unwrap_or, w64, SFits}
use Rattle.std.specs.Prelude.{◌==◌, ◌^◌, negsuc, pos, ◌+ℤ◌, ◌-ℤ◌, ◌<ℤ◌, ◌≤ℤ◌, bytes_eq, int_le, int_lt, slice_get}
use Rattle.std.specs.Ordering.{is_lt, nat_cmp, on, ordering_then}
use Rattle.std.specs.declared.cmp.Ordering.{Ordering}
use Rattle.std.specs.declared.cmp.Ordering.TheVariants.{Less, Equal, Greater}
use Rattle.std.proofs.lemmas.Bool.{cases_Bool, true≢false, eq-eqb, eqb-true, and_parts, ltb-true, or_left, or_right}
use Rattle.std.proofs.lemmas.Cmp.{nat_cmp_total}
use Rattle.std.proofs.lemmas.Int.{ints, clamps}
use Rattle.std.proofs.lemmas.List.{length-map}
use Rattle.std.proofs.lemmas.List.Elements.{All-from_recursion}
use Rattle.std.proofs.lemmas.Option.{get_or_from_slice_get, same_Some as some_is, slice_get_within}
use Rattle.std.specs.Cmp.{tied_itself}
use Rattle.std.specs.List.{AllByRecursion, list_any, position}
use Rattle.gtfs_field.proofs.NumberFacts.{int_lt-false, int_lt-true, le-int_le}
use Rattle.gtfs_rows.specs.declared.stop.Stop.{Stop as StopRowOf}
use Rattle.gtfs_runs.proofs.TripIds.{position_at, position_none, text_at, turned}
use Rattle.gtfs_board.specs.LaneDays.{serves_on}
use Rattle.gtfs_schema.proofs.SiteFacts.{text_is, text_itself}
use Rattle.gtfs_days.specs.Service.{is_service_day}
use Rattle.gtfs_days.specs.Zone.{zone_origin}
use Rattle.gtfs_days.specs.declared.zone.Zone.{Zone}
use Rattle.gtfs_rows.specs.Trips.{frequencies_by_trip, stop_rows_by_trip}
use Rattle.gtfs_rows.proofs.Held.{apart}
use Rattle.gtfs_rows.proofs.SameElements.{pairs-head, pairs-tail}
use Rattle.gtfs_rows.specs.Content.{Content}
use Rattle.gtfs_rows.specs.TransferOrder.{Ascends}
use Rattle.gtfs_rows.specs.Rows.{Stop, StopRow, Trip}
use Rattle.gtfs_rows.specs.RowsInMemory.{IsSoundParts, content_of_parts, service_ids, stop_ids, stop_of, stop_row_of, text_of_number, trip_ids}
use Rattle.gtfs_rows.specs.declared.parts.Parts.{Parts}
use Rattle.gtfs_runs.specs.StopLanes.{AreLanesOf, StopLanesValue, lanes_of}
use Rattle.gtfs_field.specs.TextOrder.{text_cmp}
use Rattle.gtfs_board.specs.Board as board
use Rattle.gtfs_board.specs.Board.{AreStepsWithin, FirstIsLeast, StepCount, first_instant, keys_of, reach, start_of, step_count}
use Rattle.gtfs_board.specs.CandidateKeys.{key_among}
use Rattle.gtfs_rows.specs.Departures.{IsBoard, departs_at, is_above, is_member}
use Rattle.gtfs_board.specs.Floors.{IsNumbered, is_from}
use Rattle.gtfs_rows.specs.Key.{Key, key_cmp}
use Rattle.gtfs_board.specs.LaneDays.{all_departures, lane_at}
use Rattle.gtfs_board.specs.OpenedBoard.{IsOpen, board_value}
use Rattle.gtfs_board.specs.BoardSpan.{is_span, is_writable}
use Rattle.gtfs_board.specs.declared.span.Span.{Span}
use Rattle.gtfs_board.specs.ShownCandidates.{IsOfFeed, candidate_key, listed_in, candidate_times, candidate_trip}
use Rattle.gtfs_board.specs.ShownTrips.{IsShown, row_numbered, shown, shown_at, trip_with_id}
use Rattle.gtfs_board.specs.declared.upcoming.candidate.Candidate.{Candidate}
use Rattle.gtfs_board.specs.upcoming.Candidates as waiting
use Rattle.gtfs_board.specs.upcoming.Candidates.{TakesFirst, UpcomingValue, candidate_lt, departure_cmp, head_of, lane_cmp, rest_above, steps_so_far}
use Rattle.gtfs_board.specs.upcoming.QueueOrder.{Each, In, AscendsBy}
use Rattle.gtfs_board.proofs.BoardKeys.{board-of, in-member}
use Rattle.gtfs_board.proofs.CandidateKeys.{compares}
use Rattle.gtfs_board.proofs.EventFacts.{any_at, lane_there, map_at, trip_back}
use Rattle.gtfs_board.proofs.KeyOrder.{key_cmp_total}
use Rattle.gtfs_board.proofs.LaneDays.{day_there, serves_within}
use Rattle.gtfs_board.proofs.Orders.{Each-in}
use Rattle.gtfs_board.proofs.StopBoards.{ids_ascend, numbered, stand_for, traced}
use Rattle.gtfs_board.proofs.Timely.{event_small, instant_there}

-- ---- what is shown

pub found_id : {X : Type 0} (f : X → List ℕ) (ts : List X) (n : ℕ) (t : X) → Ascends (on f text_cmp) ts → slice_get ts n ≡ Some t → find (λ x. bytes_eq (f x) (f t)) ts ≡ Some t
found_id f [] n t up at = cc
found_id f (u ∷ ts) zero t up at = let same = some_is u t at in rw (ap (λ x. bytes_eq (f x) (f t)) same ∙ text_itself (f t)) at
found_id f (u ∷ ts) (suc n) t up at =
    let less = pairs-head (λ a b. text_cmp (f a) (f b) ≡ Less) u ts up n t (slice_get_within ts n t at) in
    let later : text_cmp (f u) (f t) ≡ Less = ap (λ x. text_cmp (f u) (f x)) (sym (get_or_from_slice_get ts n t t at)) ∙ less in
    rw (apart (f u) (f t) later) (found_id f ts n t (pairs-tail (λ a b. text_cmp (f a) (f b) ≡ Less) u ts up) at)

unequal : (a b : ℕ) → nat_cmp a b ≡ Less → (a == b) ≡ false
unequal a b less = elim (cases_Bool (a == b)) [
  | inl same ↦ absurd (unlike (nat_cmp a b) less (ap (λ n. nat_cmp n b) (eqb-true a b same) ∙ tied_itself nat_cmp_total b))
  | inr is ↦ is
]
  where
    unlike : (r : Ordering) → r ≡ Less → r ≡ Equal → ⊥
    unlike r less equal = cc

found_row : (rs : List StopRow) (n : ℕ) (r : StopRow) → Ascends (on (λ x. x.stop_sequence) nat_cmp) rs → slice_get rs n ≡ Some r → find (λ x. x.stop_sequence == r.stop_sequence) rs ≡ Some r
found_row [] n r up at = cc
found_row (u ∷ rs) zero r up at = let same = some_is u r at in rw (eq-eqb u.stop_sequence r.stop_sequence (ap (λ (x : StopRow). x.stop_sequence) same)) at
found_row (u ∷ rs) (suc n) r up at =
    let less = pairs-head (λ a b. nat_cmp a.stop_sequence b.stop_sequence ≡ Less) u rs up n r (slice_get_within rs n r at) in
    let later : nat_cmp u.stop_sequence r.stop_sequence ≡ Less = ap (λ (x : StopRow). nat_cmp u.stop_sequence x.stop_sequence) (sym (get_or_from_slice_get rs n r r at)) ∙ less in
    rw (unequal u.stop_sequence r.stop_sequence later) (found_row rs n r (pairs-tail (λ a b. nat_cmp a.stop_sequence b.stop_sequence ≡ Less) u rs up) at)

-- what is shown of a trip and a row that are there
shown_of : (f : Content) (k : Key) (t : Trip) (r : StopRow) → trip_with_id f k.trip ≡ Some t → row_numbered t k.sequence ≡ Some r → shown f k ≡ Some (shown_at f k t r)
shown_of f k t r trip row = rw (trip, row) refl

pub listed_at : (p : Parts) (c : Candidate) (t : Trip) (r : StopRow) → candidate_trip p c ≡ Some t → slice_get t.stop_rows c.row ≡ Some r → listed_in p c ≡ shown_at (content_of_parts p) (candidate_key p c) t r
listed_at p c t r trip row = rw (trip, row) refl

-- what is shown of a candidate whose numbers name a trip and a row of it
pub shown-at : (p : Parts) → IsSoundParts p → (c : Candidate) (t : Trip) (r : StopRow) → candidate_trip p c ≡ Some t → slice_get t.stop_rows c.row ≡ Some r → c.sequence ≡ r.stop_sequence
    → IsShown (content_of_parts p) (listed_in p c)
shown-at p sound c t r trip row sequence =
    let f = content_of_parts p in
    let b = trip_back p p.trips (stop_rows_by_trip p) (frequencies_by_trip p) c.trip t trip in
    let id : (candidate_key p c).trip ≡ t.trip_id = text_at (λ x. x.trip_id) p.trips c.trip b.0 b.3.0 ∙ ap (λ (x : Trip). x.trip_id) b.3.1.1.1 in
    let named : trip_with_id f (candidate_key p c).trip ≡ Some t = ap (trip_with_id f) id ∙ found_id (λ x. x.trip_id) f.trips c.trip t sound.content.in_order.trips trip in
    let up : Ascends (on (λ x. x.stop_sequence) nat_cmp) t.stop_rows =
    subst (λ (x : Trip). Ascends (on (λ y. y.stop_sequence) nat_cmp) x.stop_rows) (get_or_from_slice_get f.trips c.trip t t trip)
    (sound.content.in_order.stop_rows c.trip t (slice_get_within f.trips c.trip t trip)) in
    let found : row_numbered t (candidate_key p c).sequence ≡ Some r = ap (row_numbered t) sequence ∙ found_row t.stop_rows c.row r up row in
    shown_of f (candidate_key p c) t r named found ∙ ap Some (sym (listed_at p c t r trip row))

module _ (p : Parts) (sound : IsSoundParts p) (s : List ℕ) (lanes : StopLanesValue) (are : AreLanesOf (content_of_parts p) s (service_ids p) (lanes_of lanes)) (zone : Zone) (end : ℤ) where
  pub of_feed : (c : Candidate) → In c (all_departures p (zone_origin zone) lanes end) → IsOfFeed p c
  of_feed c there =
      let t = traced p sound s lanes are (zone_origin zone) end c there in
      let e = t.event in
      let number : c.trip ≡ e.trip.0 = ap (λ (x : Candidate). x.trip) t.is in
      let row_is : c.row ≡ e.row = ap (λ (x : Candidate). x.row) t.is in
      let r = trip_back p p.trips (stop_rows_by_trip p) (frequencies_by_trip p) e.trip.0 t.passes.trip t.passes.trip_at in
      let rows : candidate_times p c.trip ≡ r.1 = ap (candidate_times p) number ∙ ap (λ o. unwrap_or o []) r.3.1.0 in
      let at : slice_get (map (stop_row_of p) r.1) e.row ≡ Some t.passes.row = subst (λ (x : Trip). slice_get x.stop_rows e.row ≡ Some t.passes.row) (sym r.3.1.1.1) t.passes.row_at in
      let m = map_at (stop_row_of p) r.1 e.row t.passes.row at in
      let service : is_service_day c.day ≡ true = serving (lane_at lanes c.lane).service c.day t.busy in
      let days = day_there c.day service in
      record {
        trip = omega (arith, numbered p sound s lanes are (zone_origin zone) end c there, length-map p.trips (λ x. x.trip_id));
        row = subst (λ n. n < length (candidate_times p c.trip)) (sym row_is) (subst (λ xs. e.row < length xs) (sym rows) (slice_get_within r.1 e.row m.0 m.1.0));
        day_from = days.0;
        day_to = days.1;
        instant = instant_there zone c.day e.at c.instant service (event_small p sound s _ e t.passes) (ap (λ (x : Candidate). x.instant) t.is);
      }
    where
      serving : (k : ℕ) (d : ℤ) → serves_on p k d ≡ true → is_service_day d ≡ true
      serving k d busy = elim (cases_Bool (is_service_day d)) [
        | inl is ↦ is
        | inr isnt ↦ absurd (true≢false (sym busy ∙ serves_within p k d isnt))
      ]

  pub numbered_in : (c : Candidate) → In c (all_departures p (zone_origin zone) lanes end) → IsNumbered p (length (lanes_of lanes)) c
  numbered_in c there =
      let t = traced p sound s lanes are (zone_origin zone) end c there in
      let known = of_feed c there in
      record { trip = known.trip; lane = lane_there (content_of_parts p) s (service_ids p) lanes are c.lane t.event t.there; day = known.day_from }

  regroup : (d a b x : Bool) → ((d && (a && b)) && x) ≡ ((d && b) && (a && x))
  regroup true true true x = refl
  regroup true true false x = refl
  regroup true false true x = refl
  regroup true false false x = refl
  regroup false a b x = refl

  until_end : (until x : ℤ) → end ≡ until -ℤ pos 1 → int_lt x until ≡ int_le x end
  until_end until x is = elim (cases_Bool (int_lt x until)) [
    | inl before ↦ let h = int_lt-true x until before in before ∙ sym (le-int_le x end (omega (arith, ints, h, is)))
    | inr from ↦ let h = int_lt-false x until from in from ∙ sym (not_le x end (omega (arith, ints, h, is)))
  ]
    where
      not_le : (x e : ℤ) → e <ℤ x → int_le x e ≡ false
      not_le x e h = grind (arith, ints)

  -- what is left above the floor is the board
  pub board_left : (from until : ℤ) (after : Option Key) (floor : Candidate) → end ≡ until -ℤ pos 1
      → ((c : Candidate) → IsNumbered p (length (lanes_of lanes)) c → candidate_lt floor c ≡ is_from p from after c)
      → IsBoard (content_of_parts p) (zone_origin zone) s from until after (map (key_among (trip_ids p)) (rest_above (all_departures p (zone_origin zone) lanes end) floor))
  board_left from until after floor is above =
      let f = content_of_parts p in
      board-of f (zone_origin zone) s from until after (trip_ids p) (λ k. departs_at f (zone_origin zone) s k && int_le k.instant end) (λ k. int_le from k.instant && is_above after k)
      (all_departures p (zone_origin zone) lanes end) (candidate_lt floor)
      (λ k. ap (λ b. (departs_at f (zone_origin zone) s k && (int_le from k.instant && b)) && is_above after k) (until_end until k.instant is)
      ∙ regroup (departs_at f (zone_origin zone) s k) (int_le from k.instant) (int_le k.instant end) (is_above after k))
      (ids_ascend p sound s lanes are (zone_origin zone) end) (stand_for p sound s lanes are (zone_origin zone) end)
      (λ c there. above c (numbered_in c there))

pub keys_listed : (p : Parts) (cs : List Candidate) → keys_of (map (listed_in p) cs) ≡ map (candidate_key p) cs
keys_listed p [] = refl
keys_listed p (c ∷ cs) = ap (λ ks. candidate_key p c ∷ ks) (keys_listed p cs)

-- ---- the bounds

position_is : (p : Parts) (end : ℤ) (cs : List Candidate) → first_instant (end +ℤ pos 1) (map (listed_in p) cs) ≡ waiting.instant_or_end end (head_of cs)
position_is p end [] = omega (arith, ints)
position_is p end (c ∷ cs) = refl

pub steps_are : (p : Parts) (z : Zone) (v : UpcomingValue) → steps_so_far v ≡ step_count (board_value p z v)
steps_are p z v = ap (λ x. record { made = v.steps; for_days = v.lanes * reach v.latest v.start x }) (sym (position_is p v.end v.rest))

not_less : (r l : Ordering) → is_lt (ordering_then r l) ≡ true → r ≡ Greater → ⊥
not_less r l less greater = cc

key_follows : (p : Parts) → Ascends text_cmp (trip_ids p) → (a b : Candidate) → IsOfFeed p a → IsOfFeed p b → candidate_lt a b ≡ true → is_lt (key_cmp (candidate_key p b) (candidate_key p a)) ≡ false
key_follows p up a b in_a in_b less =
    let in_ids : (n : ℕ) → n < length p.trips → n < length (trip_ids p) = λ n h. omega (arith, h, length-map p.trips (λ x. x.trip_id)) in
    let same = compares (trip_ids p) a b up (in_ids a.trip in_a.trip) (in_ids b.trip in_b.trip) in
    elim (cases_Bool (is_lt (key_cmp (candidate_key p b) (candidate_key p a)))) [
      | inl back ↦ absurd (not_less (departure_cmp a b) (lane_cmp a b) less (same ∙ turned (key_cmp (candidate_key p a) (candidate_key p b)) (key_cmp (candidate_key p b) (candidate_key p a)) (key_cmp_total.antisymm (candidate_key p a) (candidate_key p b)) back))
      | inr is ↦ is
    ]

itself_not : (k : Key) → is_lt (key_cmp k k) ≡ false
itself_not k = ap is_lt (tied_itself key_cmp_total k)

each_member : (p : Parts) (rest queue : List Candidate) → Each (λ c. In c rest) queue → AllByRecursion (λ k. is_member k (keys_of (map (listed_in p) rest)) ≡ true) (map (candidate_key p) queue)
each_member p rest [] within = tt
each_member p rest (c ∷ queue) within = (
  ap (is_member (candidate_key p c)) (keys_listed p rest) ∙ in-member (trip_ids p) (candidate_key p c) rest c within.0 refl,
  each_member p rest queue within.1,
)

head_in : (c : Candidate) (queue : List Candidate) → head_of queue ≡ Some c → In c queue
head_in c [] h = cc
head_in c (x ∷ queue) h = inl (sym (some_is x c h))

none_waits : (p : Parts) (queue : List Candidate) → head_of queue ≡ None → map (candidate_key p) queue ≡ []
none_waits p [] h = refl
none_waits p (x ∷ queue) h = cc

each_from : (p : Parts) → Ascends text_cmp (trip_ids p) → (c : Candidate) (cs queue : List Candidate) → Each (IsOfFeed p) (c ∷ cs) → AscendsBy candidate_lt (c ∷ cs) → Each (λ x. In x (c ∷ cs)) queue
    → AllByRecursion (λ k. is_lt (key_cmp k (candidate_key p c)) ≡ false) (map (candidate_key p) queue)
each_from p up c cs [] known a within = tt
each_from p up c cs (x ∷ queue) known a within = (
  elim within.0 [
    | inl e ↦ ap (λ (y : Candidate). is_lt (key_cmp (candidate_key p y) (candidate_key p c))) e ∙ itself_not (candidate_key p c)
    | inr later ↦ key_follows p up c x known.0 (Each-in (IsOfFeed p) cs x known.1 later) (Each-in (λ y. candidate_lt c y ≡ true) cs x a.0 later)
  ],
  each_from p up c cs queue known a within.1,
)

least_first : (p : Parts) → Ascends text_cmp (trip_ids p) → (rest queue : List Candidate) → Each (IsOfFeed p) rest → AscendsBy candidate_lt rest → Each (λ x. In x rest) queue → head_of queue ≡ head_of rest
    → FirstIsLeast (map (listed_in p) rest) (map (candidate_key p) queue)
least_first p up [] queue known a within same = none_waits p queue same
least_first p up (c ∷ cs) queue known a within same = (
  in-member (trip_ids p) (candidate_key p c) queue c (head_in c queue same) refl,
  All-from_recursion (λ k. is_lt (key_cmp k (candidate_key p c)) ≡ false) (map (candidate_key p) queue) (each_from p up c cs queue known a within),
)

pub queued_is : (p : Parts) (z : Zone) (v : UpcomingValue) → Ascends text_cmp (trip_ids p) → IsOpen p v → waiting.AreQueued v → board.IsQueued (board_value p z v)
queued_is p z v up opened q = record {
  within = All-from_recursion (λ k. is_member k (keys_of (map (listed_in p) v.rest)) ≡ true) (map (candidate_key p) v.queue) (each_member p v.rest v.queue q.within);
  first = least_first p up v.rest v.queue opened.of_feed opened.ascending q.within q.same_first;
  bounded = omega (arith, q.bounded, length-map v.queue (candidate_key p));
}

-- ---- what is kept

pub open_kept : (p : Parts) (v w : UpcomingValue) → IsOpen p v → w.rest ≡ v.rest → IsOpen p w
open_kept p v w opened rest = record {
  of_feed = subst (Each (IsOfFeed p)) (sym rest) opened.of_feed;
  ascending = subst (AscendsBy candidate_lt) (sym rest) opened.ascending;
}

pub open_taken : (p : Parts) (v w : UpcomingValue) (o : Option Candidate) → IsOpen p v → TakesFirst v w o → IsOpen p w
open_taken p v w None opened taken = open_kept p v w opened (taken.1 ∙ sym taken.0)
open_taken p v w (Some c) opened taken = record {
  of_feed = (subst (Each (IsOfFeed p)) taken opened.of_feed).1;
  ascending = (subst (AscendsBy candidate_lt) taken opened.ascending).1;
}

pub steps_kept : (p : Parts) (z : Zone) (v w : UpcomingValue) (n : ℕ) → AreStepsWithin n (steps_so_far v) (steps_so_far w)
    → AreStepsWithin n (step_count (board_value p z v)) (step_count (board_value p z w))
steps_kept p z v w n h = subst (λ (t : StepCount). AreStepsWithin n t (step_count (board_value p z w))) (steps_are p z v) (subst (AreStepsWithin n (steps_so_far v)) (steps_are p z w) h)

start_at : (from x : ℤ) (after : Option Key) → negsuc 999_999_999_999 ≤ℤ from → x ≡ start_of from after → negsuc 999_999_999_999 ≤ℤ x
start_at from x None low is = omega (arith, ints, low, is)
start_at from x (Some k) low is = omega (arith, ints, clamps, low, is)

writable_low : (x : ℤ) → is_writable x ≡ true → negsuc 999_999_999_999 ≤ℤ x
writable_low (pos n) h = omega (arith, ints)
writable_low (negsuc n) h = let less = ltb-true (suc n) (10 ^ 12) h in omega (arith, ints, less)

pub start_low : (span : Span) (x : ℤ) (after : Option Key) → is_span span ≡ true → x ≡ start_of span.from after → negsuc 999_999_999_999 ≤ℤ x
start_low span x after valid is =
    let both = and_parts (int_le span.from span.until && is_writable span.from) (is_writable span.until) valid in
    start_at span.from x after (writable_low span.from (and_parts (int_le span.from span.until) (is_writable span.from) both.0).1) is

pub from_none : (n a b : ℕ) → n ≡ 0 → a ≤ n + b → a ≤ b
from_none n a b none h = omega (arith, none, h)

fits_less : (x : ℤ) → negsuc 999_999_999_999 ≤ℤ x → SFits w64 x → SFits w64 (x -ℤ pos 1)
fits_less x low fits = omega (arith, ints, low, fits)

pub until_less : (span : Span) → is_span span ≡ true → SFits w64 span.until → SFits w64 (span.until -ℤ pos 1)
until_less span valid fits =
    fits_less span.until (writable_low span.until (and_parts (int_le span.from span.until && is_writable span.from) (is_writable span.until) valid).1) fits

-- ---- the stop of an id

pub stop_none : (p : Parts) (s : List ℕ) → position (bytes_eq s) (stop_ids p) ≡ None → board.is_stop (content_of_parts p) s ≡ false
stop_none p s none = elim (cases_Bool (board.is_stop (content_of_parts p) s)) [
  | inl is ↦
      let a = any_at (λ (x : Stop). bytes_eq x.stop_id s) (map (stop_of p) p.stops) is in
      let m = map_at (stop_of p) p.stops a.0 a.1 a.2.0 in
      let own : text_of_number (stop_ids p) a.0 ≡ a.1.stop_id = text_at (λ x. x.stop_id) p.stops a.0 m.0 m.1.0 ∙ ap (λ (x : Stop). x.stop_id) m.1.1 in
      let id : text_of_number (stop_ids p) a.0 ≡ s = own ∙ text_is a.1.stop_id s a.2.1 in
      let within : a.0 < length (stop_ids p) = omega (arith, slice_get_within p.stops a.0 m.0 m.1.0, length-map p.stops (λ x. x.stop_id)) in
      absurd (true≢false (sym (text_itself s) ∙ ap (bytes_eq s) (sym id) ∙ position_none (bytes_eq s) (stop_ids p) none a.0 within))
  | inr isnt ↦ isnt
]

pub stop_some : (p : Parts) (s : List ℕ) (n : ℕ) → position (bytes_eq s) (stop_ids p) ≡ Some n → (n < length p.stops) × ((text_of_number (stop_ids p) n ≡ s) × (board.is_stop (content_of_parts p) s ≡ true))
stop_some p s n some =
    let there = position_at (bytes_eq s) (stop_ids p) n some in
    let within : n < length p.stops = omega (arith, there.0, length-map p.stops (λ x. x.stop_id)) in
    let id : text_of_number (stop_ids p) n ≡ s = sym (text_is s (text_of_number (stop_ids p) n) there.1) in
    (within, (id, known p.stops n within id))
  where
    known : (xs : List StopRowOf) (n : ℕ) → n < length xs → text_of_number (map (λ x. x.stop_id) xs) n ≡ s → list_any (λ (x : Stop). bytes_eq x.stop_id s) (map (stop_of p) xs) ≡ true
    known [] n within id = absurd (omega (arith, within))
    known (x ∷ xs) zero within id = or_left (bytes_eq x.stop_id s) _ (ap (bytes_eq x.stop_id) (sym id) ∙ text_itself x.stop_id)
    known (x ∷ xs) (suc n) within id = or_right (bytes_eq x.stop_id s) _ (known xs n (omega (arith, within)) id)
