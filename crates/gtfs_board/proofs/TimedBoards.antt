-- A board of a feed under a choice of times, by the lemmas of any feed. What it shows is that of the rows as they are given.
use Rattle.std.proofs.Common.{◌≡◌, ◌∙◌, ◌+◌, ◌≤◌, ◌<◌, ℕ, zero, suc, ℤ, Bool, true, false, List, [], ◌∷◌, inl, inr, map, length, Option, Some, refl, sym, ap, subst, arith}
use Rattle.std.specs.Prelude.{pos, ◌+ℤ◌, ◌-ℤ◌, All, if◌then◌else◌, slice_get}
use Rattle.std.specs.List.{AllByRecursion, enumerate_from, filter}
use Rattle.std.proofs.lemmas.Int.{ints}
use Rattle.std.proofs.lemmas.List.Elements.{All-from_recursion}
use Rattle.std.proofs.lemmas.Option.{same_Some as some_is}
use Rattle.gtfs_days.specs.Zone.{zone_origin}
use Rattle.gtfs_days.specs.declared.zone.Zone.{Zone}
use Rattle.gtfs_rows.specs.Content.{Content}
use Rattle.gtfs_rows.specs.Departures.{IsBoard}
use Rattle.gtfs_rows.specs.Key.{Key}
use Rattle.gtfs_rows.specs.Rows.{StopRow, Trip}
use Rattle.gtfs_rows.specs.Runs.{is_timed}
use Rattle.gtfs_rows.specs.RowsInMemory.{IsSoundParts, content_of_parts, service_ids, trip_ids}
use Rattle.gtfs_rows.specs.declared.parts.Parts.{Parts}
use Rattle.gtfs_runs.specs.Lanes.{latest}
use Rattle.gtfs_runs.specs.StopLanes.{AreLanesOf, StopLanesValue, lanes_of}
use Rattle.gtfs_times.specs.Filling.{filled_row, time_at, timed, timed_stop_rows, timed_trip}
use Rattle.gtfs_times.specs.TimedRows.{timed_parts}
use Rattle.gtfs_times.specs.declared.times.Times.{Times}
use Rattle.gtfs_times.specs.declared.times.Times.TheVariants as times
use Rattle.gtfs_times.proofs.FilledContent.{sound-timed}
use Rattle.gtfs_times.proofs.TimedContent.{content-timed}
use Rattle.gtfs_board.specs.Board.{StepCount, keys_of, start_of}
use Rattle.gtfs_board.specs.CandidateKeys.{key_among}
use Rattle.gtfs_board.specs.Floors.{IsNumbered, is_from}
use Rattle.gtfs_board.specs.LaneDays.{AreTimely, all_departures, departures_on}
use Rattle.gtfs_board.specs.OpenedBoard.{IsOpen, IsOpened, board_value}
use Rattle.gtfs_board.specs.ShownCandidates.{IsOfFeed, candidate_key, listed_in, candidate_times}
use Rattle.gtfs_board.specs.ShownTrips.{IsShown}
use Rattle.gtfs_board.specs.declared.upcoming.candidate.Candidate.{Candidate}
use Rattle.gtfs_board.specs.declared.span.Span.{Span}
use Rattle.gtfs_board.specs.upcoming.Candidates as waiting
use Rattle.gtfs_board.specs.upcoming.Candidates.{UpcomingValue, candidate_lt, rest_above, steps_so_far}
use Rattle.gtfs_board.specs.upcoming.QueueOrder.{Each, In, AscendsBy}
use Rattle.gtfs_board.proofs.Candidates.{candidates_strict}
use Rattle.gtfs_board.proofs.EventFacts.{map_at}
use Rattle.gtfs_board.proofs.Opened.{board_left, keys_listed, of_feed, queued_is, shown-at, steps_are}
use Rattle.gtfs_board.proofs.Rests.{ascending-in_order, filter-in, in_order-in}
use Rattle.gtfs_board.proofs.StopBoards.{ids_ascend, traced}
use Rattle.gtfs_board.proofs.TimedRows.{as-many}
use Rattle.gtfs_board.proofs.Timely.{timely}
use Rattle.gtfs_board.proofs.Window.{each_in}

-- ---- the row as it is given

sequence-kept : (b : Bool) (r : StopRow) (t : Option ℕ) → r.stop_sequence ≡ (if b then r else record r { arrival_time = t; departure_time = t }).stop_sequence
sequence-kept true r t = refl
sequence-kept false r t = refl

placed-back : (a : ℕ) (rows : List StopRow) (k : ℕ) (x : ℕ × StopRow) → slice_get (enumerate_from a rows) k ≡ Some x → slice_get rows k ≡ Some x.1
placed-back a [] k x at = cc
placed-back a (r ∷ rs) zero x at = ap (λ (y : ℕ × StopRow). Some y.1) (some_is (a, r) x at)
placed-back a (r ∷ rs) (suc k) x at = placed-back (a + 1) rs k x at

row-back : (choice : Times) (rows : List StopRow) (k : ℕ) (y : StopRow) → slice_get (timed_stop_rows choice rows) k ≡ Some y → (r : StopRow) × ((slice_get rows k ≡ Some r) × (r.stop_sequence ≡ y.stop_sequence))
row-back times.Given rows k y at = (y, (at, refl))
row-back times.Interpolated rows k y at =
    let m = map_at (filled_row rows) (enumerate_from 0 rows) k y at in
    let x = m.0 in
    (x.1, (placed-back 0 rows k x m.1.0, sequence-kept (is_timed x.1) x.1 (time_at rows x.0) ∙ ap (λ (r : StopRow). r.stop_sequence) m.1.1))

-- ---- what is left above a floor

in-rest : (all : List Candidate) (floor c : Candidate) → In c (rest_above all floor) → In c all
in-rest all floor c there = (filter-in (candidate_lt floor) all c (in_order-in candidates_strict (filter (candidate_lt floor) all) c there)).0

each-shown : (f : Content) (p : Parts) (cs : List Candidate) → ((c : Candidate) → In c cs → IsShown f (listed_in p c)) → AllByRecursion (IsShown f) (map (listed_in p) cs)
each-shown f p [] h = tt
each-shown f p (c ∷ cs) h = (h c (inl refl), each-shown f p cs (λ d there. h d (inr there)))

module _ (choice : Times) (p : Parts) (sound : IsSoundParts p) (s : List ℕ) (lanes : StopLanesValue) (are : AreLanesOf (timed choice (content_of_parts p)) s (service_ids p) (lanes_of lanes)) where
  abbrev q : Parts
  q = timed_parts choice p

  abbrev f : Content
  f = timed choice (content_of_parts p)

  is : content_of_parts q ≡ f
  is = content-timed choice p sound

  sound-q : IsSoundParts q
  sound-q = sound-timed p sound choice

  are-q : AreLanesOf (content_of_parts q) s (service_ids q) (lanes_of lanes)
  are-q = subst (λ g. AreLanesOf g s (service_ids p) (lanes_of lanes)) (sym is) are

  pub timely-timed : lanes.greatest ≡ latest f s → AreTimely lanes
  timely-timed greatest = timely q sound-q s lanes are-q (subst (λ g. lanes.greatest ≡ latest g s) (sym is) greatest)

  module _ (zone : Zone) (end : ℤ) where
    abbrev all : List Candidate
    all = all_departures p (zone_origin zone) lanes end

    -- no time stands in what the departures of lanes are
    same-departures : all_departures q (zone_origin zone) lanes end ≡ all
    unfolding all_departures departures_on
    same-departures = refl

    there-q : (c : Candidate) → In c all → In c (all_departures q (zone_origin zone) lanes end)
    there-q c there = subst (In c) (sym same-departures) there

    of-feed : (c : Candidate) → In c all → IsOfFeed p c
    of-feed c there =
        let known = of_feed q sound-q s lanes are-q zone end c (there-q c there) in
        let many : length (candidate_times q c.trip) ≡ length (candidate_times p c.trip) = as-many choice p sound c.trip in
        record { trip = known.trip; row = subst (λ n. c.row < n) many known.row; day_from = known.day_from; day_to = known.day_to; instant = known.instant }

    shown : (c : Candidate) → In c all → IsShown (content_of_parts p) (listed_in p c)
    shown c there =
        let t = traced q sound-q s lanes are-q (zone_origin zone) end c (there-q c there) in
        let e = t.event in
        let number : c.trip ≡ e.trip.0 = ap (λ (x : Candidate). x.trip) t.is in
        let row_is : c.row ≡ e.row = ap (λ (x : Candidate). x.row) t.is in
        let trip_at : slice_get f.trips e.trip.0 ≡ Some t.passes.trip = subst (λ (g : Content). slice_get g.trips e.trip.0 ≡ Some t.passes.trip) is t.passes.trip_at in
        let m = map_at (timed_trip choice) (content_of_parts p).trips e.trip.0 t.passes.trip trip_at in
        let r = row-back choice m.0.stop_rows e.row t.passes.row (subst (λ (x : Trip). slice_get x.stop_rows e.row ≡ Some t.passes.row) (sym m.1.1) t.passes.row_at) in
        let sequence : c.sequence ≡ r.0.stop_sequence = ap (λ (x : Candidate). x.sequence) t.is ∙ sym t.passes.sequence ∙ sym r.1.1 in
        shown-at p sound c m.0 r.0 (ap (slice_get (content_of_parts p).trips) number ∙ m.1.0) (ap (slice_get m.0.stop_rows) row_is ∙ r.1.0) sequence

    -- ---- the board as it was opened

    pub opened_board : (span : Span) (after : Option Key) (floor : Candidate) (v : UpcomingValue) → end ≡ span.until -ℤ pos 1
        → v.rest ≡ rest_above all floor
        → ((c : Candidate) → IsNumbered p (length (lanes_of lanes)) c → candidate_lt floor c ≡ is_from p span.from after c)
        → lanes.greatest ≡ latest f s → floor.instant ≡ start_of span.from after
        → waiting.HasSettings (length (lanes_of lanes)) lanes.greatest floor.instant end v → waiting.AreQueued v → v.steps ≤ (steps_so_far v).for_days
        → IsOpen p v × IsOpened choice (content_of_parts p) zone s span after (board_value p zone v)
    opened_board span after floor v ends rest above greatest start settings queued steps =
        let kept : IsOpen p v = record {
          of_feed = subst (Each (IsOfFeed p)) (sym rest) (each_in (IsOfFeed p) (rest_above all floor) (λ c there. of-feed c (in-rest all floor c there)));
          ascending = subst (AscendsBy candidate_lt) (sym rest) (ascending-in_order candidates_strict (filter (candidate_lt floor) all));
        } in
        let left = board_left q sound-q s lanes are-q zone end span.from span.until after floor ends
        (λ c known. above c (record { trip = known.trip; lane = known.lane; day = known.day })) in
        let rest-q : map (key_among (trip_ids p)) (rest_above (all_departures q (zone_origin zone) lanes end) floor) ≡ keys_of (map (listed_in p) v.rest) =
        ap (λ cs. map (key_among (trip_ids p)) (rest_above cs floor)) same-departures ∙ sym (ap (map (candidate_key p)) rest) ∙ sym (keys_listed p v.rest) in (
          kept,
          record {
            board = subst (λ ks. IsBoard f (zone_origin zone) s span.from span.until after ks) rest-q
                (subst (λ g. IsBoard g (zone_origin zone) s span.from span.until after (map (key_among (trip_ids p)) (rest_above (all_departures q (zone_origin zone) lanes end) floor))) is left);
            shown = subst (λ cs. All (IsShown (content_of_parts p)) (map (listed_in p) cs)) (sym rest)
                (All-from_recursion (IsShown (content_of_parts p)) (map (listed_in p) (rest_above all floor))
                (each-shown (content_of_parts p) p (rest_above all floor) (λ c there. shown c (in-rest all floor c there))));
            queued = queued_is p zone v (ids_ascend q sound-q s lanes are-q (zone_origin zone) end) kept queued;
            settings = record {
              lanes = settings.lanes ∙ are.counted;
              latest = settings.latest ∙ greatest;
              start = settings.start ∙ start;
              until = last_of v.end end span.until settings.end ends;
              zone = refl;
            };
            steps = subst (λ (t : StepCount). v.steps ≤ t.for_days) (steps_are p zone v) steps;
          },
        )
      where
        last_of : (x end until : ℤ) → x ≡ end → end ≡ until -ℤ pos 1 → (x +ℤ pos 1) ≡ until
        last_of x end until is ends = omega (arith, ints, is, ends)
