-- The sheets of the patterns of a route are its timetable.
use Rattle.std.proofs.Common.{rules, ◌≡◌, ◌<◌, ◌+◌, ◌-◌, ◌∙◌, ◌&&◌, ◌==◌, ℕ, zero, suc, Bool, true, false, cond, not, List, [], ◌∷◌, length, map, Option, Some, None, find, refl, sym, ap, subst, arith, inl, inr}
use Rattle.std.specs.Prelude.{ℤ, ◌≢◌, IfErr, IsErrOf, Result, Ok, Err, bytes_eq, option_and_then, unwrap_or}
use Rattle.std.specs.List.{filter, flat_map, list_any, position, range_with_len, slice_get}
use Rattle.std.specs.Cmp.{IsTotalOrder, tied_itself}
use Rattle.std.specs.Cmp.Lexicographic.{nat_list_cmp_total}
use Rattle.std.specs.Cmp.Rules.{comparing}
use Rattle.std.specs.FinMap.{nat_cmp-IsAntisymmetric, slice_cmp-IsAntisymmetric}
use Rattle.std.specs.declared.cmp.Ordering.TheVariants.{Less, Equal}
use Rattle.std.specs.Ordering.{is_eq, is_lt}
use Rattle.std.proofs.lemmas.Bool.{and_from, and_parts, cases_Bool, eq-eqb, eqb-true, not-true, or_left, or_right, true≢false}
use Rattle.std.proofs.lemmas.Bool.Decides.{nat_tests}
use Rattle.std.proofs.lemmas.List.{length-map}
use Rattle.std.proofs.lemmas.Option.{slice_get_within}
use Rattle.std.proofs.lemmas.Simd.{map-map}
use Rattle.gtfs_field.proofs.OrderingFacts.{equal, tied}
use Rattle.gtfs_schema.proofs.SiteFacts.{text_is, text_itself}
use Rattle.gtfs_schema.specs.FieldValues.{if_there}
use Rattle.gtfs_rows.proofs.NumberFacts.{trip_route}
use Rattle.gtfs_rows.proofs.SoundOrder.{in_order}
use Rattle.gtfs_rows.proofs.Held.{text_antisymmetric}
use Rattle.gtfs_rows.proofs.SameElements.{pairs-map}
use Rattle.gtfs_rows.specs.TransferOrder.{Ascends}
use Rattle.gtfs_rows.specs.Rows.{Route, Trip}
use Rattle.gtfs_rows.specs.RowsInMemory.{IsSoundParts, content_of_parts, route_ids, route_of, stop_ids, text_of_number}
use Rattle.gtfs_rows.specs.declared.parts.Parts.{Parts}
use Rattle.gtfs_rows.specs.declared.route.Route.{Route as RouteRow}
use Rattle.gtfs_runs.specs.Patterns.{ArePatterns, is_of_route, rows_of_number}
use Rattle.gtfs_rows.specs.Runs.{is_run, runs}
use Rattle.gtfs_runs.specs.declared.pattern.Pattern.{Pattern}
use Rattle.gtfs_field.specs.TextOrder.{text_cmp}
use Rattle.gtfs_rows.specs.Departures.{runs_on}
use Rattle.gtfs_board.specs.TimetableColumns.{goes, is_idle, running_at, sheet_along, sheets_along}
use Rattle.gtfs_board.specs.Timetable.{SheetHeading, Run, Sheet, direction_at, direction_rank, has_heading, has_run_on, heading_cmp, sheet_heading, headings, is_heading_before, is_route, named_runs, row_at, running, runs_of, runs_under, sheet_under, sheets, time_passed, time_of_run, wants}
use Rattle.gtfs_board.specs.declared.sheet.TableFault.{TableFault}
use Rattle.gtfs_board.specs.declared.sheet.TableFault.TheVariants.{UnknownRoute}
use Rattle.gtfs_board.specs.upcoming.QueueOrder.{In, IsStrict}
use Rattle.gtfs_board.proofs.Candidates.{strict_from_total}
use Rattle.gtfs_runs.proofs.TripIds.{position_at, position_none, text_at}
use Rattle.gtfs_board.proofs.EventFacts.{any_at, at_in, in_at, map_at, same_number}
use Rattle.gtfs_board.proofs.LaneDays.{flat_map-in, in-flat_map, in-map, map-in}
use Rattle.gtfs_board.proofs.Rests.{ascending-in_order, ascending-unique, filter-in, in-filter, in-in_order, in_order-in}
use Rattle.gtfs_board.proofs.SheetColumns.{found-trip, in-running, running-in, runs_strict, trip-of, trip-within}
use Rattle.gtfs_board.proofs.SheetLists.{ascending-kept, ascending-one, map-agree, some-mapped}
use Rattle.gtfs_board.proofs.SheetPatterns.{heading-is, heading_along, headings-ascend, headings-compare, is_pattern_before, pattern-is, pattern-of-trip, patterns-ascend, trip-of-pattern}
use Rattle.gtfs_board.proofs.SheetRuns.{in-some, run-rows, runs-in, some-in}

-- ---- headings

headings_total : IsTotalOrder heading_cmp
headings_total = search (comparing, rules, nat_list_cmp_total) depth 20

heading_exact : (g h : SheetHeading) → heading_cmp g h ≡ Equal → g ≡ h
heading_exact g h e =
    let both = tied _ _ e in
    let directions = nat_cmp-IsAntisymmetric g.0 h.0 both.0 in
    let stops = slice_cmp-IsAntisymmetric text_antisymmetric g.1 h.1 both.1 in
    λ i. (directions i, stops i)

headings_strict : IsStrict is_heading_before
headings_strict = strict_from_total heading_cmp headings_total heading_exact

has_own : (h : SheetHeading) (t : Trip) → h ≡ sheet_heading t → has_heading h t ≡ true
has_own h t is = ap (λ g. is_eq (heading_cmp g (sheet_heading t))) is ∙ ap is_eq (tied_itself headings_total (sheet_heading t))

goes-wants : (o : Option ℕ) (x : Pattern) (t : Trip) → direction_rank x.direction ≡ direction_rank t.direction_id → goes o x ≡ wants o t
goes-wants None x t same = refl
goes-wants (Some d) x t same = ap (λ n. n == d + 1) same

rank_back : (o : Option ℕ) → direction_at (direction_rank o) ≡ o
rank_back None = refl
rank_back (Some d) =
    let some : (d + 1 == 0) ≡ false = grind (arith, nat_tests) in
    let less : d + 1 - 1 ≡ d = omega arith in
    ap (λ b. cond b None (Some (d + 1 - 1))) some ∙ ap Some less

not_both : (b : Bool) → b ≡ true → b ≡ false → ⊥
not_both b holds fails = true≢false (sym holds ∙ fails)

module _ (p : Parts) (sound : IsSoundParts p) (n : ℕ) (within : n < length p.routes) (xs : List Pattern) (are : ArePatterns p n xs) (direction : Option ℕ) (d : ℤ) where
  abbrev id : List ℕ
  id = text_of_number (route_ids p) n

  abbrev trips : List Trip
  trips = running (content_of_parts p) id direction d

  abbrev trips_along : Pattern → List Trip
  trips_along x = running_at (content_of_parts p) d x.trips

  abbrev is_kept : Pattern → Bool
  is_kept x = goes direction x && not (is_idle p d x)

  routes_ascend : Ascends text_cmp (route_ids p)
  routes_ascend = pairs-map (λ r. r.route_id) (λ a b. text_cmp a b ≡ Less) p.routes (in_order p sound).routes

  routes-within : (m : ℕ) → m < length p.routes → m < length (route_ids p)
  routes-within m inside = omega (arith, inside, length-map p.routes (λ r. r.route_id))

  -- a trip of the timetable, by the tests that it passes
  record IsTimed (t : Trip) : Type 0 where
    pub number : ℕ
    pub at : slice_get (content_of_parts p).trips number ≡ Some t
    pub route : t.route_id ≡ id
    pub wanted : wants direction t ≡ true
    pub runs : has_run_on (content_of_parts p) d t ≡ true

  timed-in : (t : Trip) → In t trips → IsTimed t
  timed-in t there =
      let f = content_of_parts p in
      let kept = filter-in (λ u. bytes_eq u.route_id id && wants direction u && has_run_on f d u) f.trips t there in
      let at = in_at f.trips t kept.0 in
      let outer = and_parts (bytes_eq t.route_id id && wants direction t) (has_run_on f d t) kept.1 in
      let inner = and_parts (bytes_eq t.route_id id) (wants direction t) outer.0 in
      record { number = at.0; at = at.1; route = text_is t.route_id id inner.0; wanted = inner.1; runs = outer.1 }

  in-timed : (t : Trip) → IsTimed t → In t trips
  in-timed t is =
      let f = content_of_parts p in
      in-filter (λ u. bytes_eq u.route_id id && wants direction u && has_run_on f d u) f.trips t (at_in f.trips is.number t is.at)
      (and_from (bytes_eq t.route_id id && wants direction t) (has_run_on f d t)
      (and_from (bytes_eq t.route_id id) (wants direction t) (ap (bytes_eq t.route_id) (sym is.route) ∙ text_itself t.route_id) is.wanted) is.runs)

  -- a trip of the timetable is one of the route that has a stop row
  route-of : (t : Trip) → (is : IsTimed t) → is_of_route p n is.number ≡ true
  route-of t is =
      let r = trip-of p is.number t is.at in
      let inside = trip_route p sound is.number r.row r.at_trip in
      let route : text_of_number (route_ids p) r.row.route_id.0 ≡ text_of_number (route_ids p) n = ap (λ (u : Trip). u.route_id) r.is ∙ is.route in
      let same = same_number (route_ids p) r.row.route_id.0 n routes_ascend (routes-within r.row.route_id.0 inside) (routes-within n within) route in
      let both = and_parts (runs_on (content_of_parts p) t d) (not (length (runs t) == 0)) is.runs in
      let start = some-in (runs t) (not-true (length (runs t) == 0) both.1) in
      let some : 0 < length r.rows = run-rows p r.row r.rows r.periods start.0 (ap (λ u. is_run u start.0) r.is ∙ runs-in t start.0 start.1) in
      let rows : not (length (rows_of_number p is.number) == 0) ≡ true = ap (λ o. not (length (unwrap_or o []) == 0)) r.at_rows ∙ ap not (filled (length r.rows) some) in
      and_from (if_there (slice_get p.trips is.number) (λ u. u.route_id.0 == n)) (not (length (rows_of_number p is.number) == 0))
      (ap (λ o. if_there o (λ u. u.route_id.0 == n)) r.at_trip ∙ eq-eqb r.row.route_id.0 n same) rows
    where
      filled : (m : ℕ) → 0 < m → (m == 0) ≡ false
      filled m some = grind (arith, nat_tests)

  -- the pattern of a trip of the timetable
  record IsAlong (t : Trip) : Type 0 where
    pub pattern : Pattern
    pub there : In pattern xs
    pub member : In t (trips_along pattern)
    pub heading : heading_along p pattern ≡ sheet_heading t
    pub goes_so : goes direction pattern ≡ true

  along : (t : Trip) → In t trips → IsAlong t
  along t there =
      let is = timed-in t there in
      let x = pattern-of-trip p sound n xs are is.number (trip-within p sound is.number t is.at) (route-of t is) in
      let heading = heading-is p sound x.0 is.number t is.at x.1.1.1 in
      record {
        pattern = x.0;
        there = x.1.0;
        member = in-running p sound d x.0.trips (record { 0 = is.number }) t x.1.1.0 is.at is.runs;
        heading = heading;
        goes_so = goes-wants direction x.0 t (ap (λ h. h.0) heading) ∙ is.wanted;
      }

  -- a trip of a pattern that goes in the direction, if it runs on the day
  record IsRunning (x : Pattern) (t : Trip) : Type 0 where
    pub heading : heading_along p x ≡ sheet_heading t
    pub timed : (goes direction x ≡ true) → In t trips

  running-along : (x : Pattern) → In x xs → (t : Trip) → In t (trips_along x) → IsRunning x t
  running-along x in_x t there =
      let k = running-in p sound d x.trips t there in
      let of = trip-of-pattern p sound n xs are x k.0 in_x k.1.0 in
      let heading = heading-is p sound x k.0.0 t k.1.1.0 of.1.1 in
      let r = trip-of p k.0.0 t k.1.1.0 in
      let both = and_parts (if_there (slice_get p.trips k.0.0) (λ u. u.route_id.0 == n)) (not (length (rows_of_number p k.0.0) == 0)) of.1.0 in
      let number : r.row.route_id.0 ≡ n = eqb-true r.row.route_id.0 n (sym (ap (λ o. if_there o (λ u. u.route_id.0 == n)) r.at_trip) ∙ both.0) in
      let route : t.route_id ≡ id = sym (ap (λ (u : Trip). u.route_id) r.is) ∙ ap (text_of_number (route_ids p)) number in
      record {
        heading = heading;
        timed = λ way. in-timed t (record {
          number = k.0.0;
          at = k.1.1.0;
          route = route;
          wanted = sym (goes-wants direction x t (ap (λ h. h.0) heading)) ∙ way;
          runs = k.1.1.1;
        });
      }

  abbrev kept : List Pattern
  kept = filter is_kept xs

  kept-in : (x : Pattern) → In x kept → In x xs × ((goes direction x ≡ true) × (is_idle p d x ≡ false))
  kept-in x there =
      let k = filter-in is_kept xs x there in
      let both = and_parts (goes direction x) (not (is_idle p d x)) k.1 in
      (k.0, (both.0, not-true (is_idle p d x) both.1))

  headings-are : headings trips ≡ map (heading_along p) kept
  headings-are =
      sym (ascending-unique headings_strict (map (heading_along p) kept) (headings trips)
      (headings-ascend p sound n xs are kept (λ y there. (kept-in y there).0) (ascending-kept is_pattern_before is_kept xs (patterns-ascend p sound n xs are)))
      (ascending-in_order headings_strict (map sheet_heading trips))
      (λ h there.
      let m = map-in (heading_along p) kept h there in
      let k = kept-in m.0 m.1.0 in
      let t = some-in (trips_along m.0) k.1.1 in
      let r = running-along m.0 k.0 t.0 t.1 in
      in-in_order headings_strict (map sheet_heading trips) h
      (subst (λ g. In g (map sheet_heading trips)) (sym r.heading ∙ sym m.1.1) (in-map sheet_heading trips t.0 (r.timed k.1.0))))
      (λ h there.
      let m = map-in sheet_heading trips h (in_order-in headings_strict (map sheet_heading trips) h there) in
      let a = along m.0 m.1.0 in
      let busy : not (is_idle p d a.pattern) ≡ true = ap not (in-some (trips_along a.pattern) m.0 a.member) in
      subst (λ g. In g (map (heading_along p) kept)) (a.heading ∙ sym m.1.1)
      (in-map (heading_along p) kept a.pattern (in-filter is_kept xs a.pattern a.there (and_from (goes direction a.pattern) (not (is_idle p d a.pattern)) a.goes_so busy)))))

  -- ---- a sheet

  -- patterns with one heading are one
  one-pattern : (x y : Pattern) → In x xs → In y xs → heading_along p x ≡ heading_along p y → x ≡ y
  one-pattern x y in_x in_y same =
      ascending-one is_pattern_before xs x y (patterns-ascend p sound n xs are) in_x in_y
      (λ before. never (heading_along p x) (heading_along p y) same (ap is_lt (headings-compare p sound x y (pattern-is p sound n xs are x in_x) (pattern-is p sound n xs are y in_y)) ∙ before))
      (λ before. never (heading_along p y) (heading_along p x) (sym same) (ap is_lt (headings-compare p sound y x (pattern-is p sound n xs are y in_y) (pattern-is p sound n xs are x in_x)) ∙ before))
    where
      never : (g h : SheetHeading) → g ≡ h → is_heading_before g h ≡ true → ⊥
      never g h e before = not_both (is_heading_before g h) before (ap (λ k. is_heading_before k h) e ∙ ap is_lt (tied_itself headings_total h))

  to-along : (x : Pattern) → In x xs → (t : Trip) → In t (filter (has_heading (heading_along p x)) trips) → In t (trips_along x)
  to-along x in_x t there =
      let k = filter-in (has_heading (heading_along p x)) trips t there in
      let a = along t k.0 in
      let same : a.pattern ≡ x = one-pattern a.pattern x a.there in_x (a.heading ∙ sym (heading_exact (heading_along p x) (sheet_heading t) (equal _ k.1))) in
      subst (λ y. In t (trips_along y)) same a.member

  from-along : (x : Pattern) → In x xs → goes direction x ≡ true → (t : Trip) → In t (trips_along x) → In t (filter (has_heading (heading_along p x)) trips)
  from-along x in_x way t there =
      let r = running-along x in_x t there in
      in-filter (has_heading (heading_along p x)) trips t (r.timed way) (has_own (heading_along p x) t r.heading)

  moved : (ts us : List Trip) → ((t : Trip) → In t ts → In t us) → (q : Run) → In q (flat_map named_runs ts) → In q (flat_map named_runs us)
  moved ts us to q there = let r = flat_map-in named_runs ts q there in in-flat_map named_runs us r.0 q (to r.0 r.1.0) r.1.1

  same-runs : (ts us : List Trip) → ((t : Trip) → In t ts → In t us) → ((t : Trip) → In t us → In t ts) → runs_of ts ≡ runs_of us
  same-runs ts us to from =
      ascending-unique runs_strict (runs_of ts) (runs_of us) (ascending-in_order runs_strict (flat_map named_runs ts)) (ascending-in_order runs_strict (flat_map named_runs us))
      (λ q there. in-in_order runs_strict (flat_map named_runs us) q (moved ts us to q (in_order-in runs_strict (flat_map named_runs ts) q there)))
      (λ q there. in-in_order runs_strict (flat_map named_runs ts) q (moved us ts from q (in_order-in runs_strict (flat_map named_runs us) q there)))

  runs-same : (x : Pattern) → In x xs → goes direction x ≡ true → runs_under (heading_along p x) trips ≡ runs_of (trips_along x)
  runs-same x in_x way = same-runs (filter (has_heading (heading_along p x)) trips) (trips_along x) (to-along x in_x) (from-along x in_x way)

  timed-known : (t : Trip) → In t trips → (m : ℕ) × (slice_get (content_of_parts p).trips m ≡ Some t)
  timed-known t there = let is = timed-in t there in (is.number, is.at)

  along-known : (x : Pattern) (t : Trip) → In t (trips_along x) → (m : ℕ) × (slice_get (content_of_parts p).trips m ≡ Some t)
  along-known x t there = let k = running-in p sound d x.trips t there in (k.0.0, k.1.1.0)

  time-same : (x : Pattern) → In x xs → goes direction x ≡ true → (i : ℕ) (q : Run) → In q (runs_of (trips_along x)) → time_of_run trips i q ≡ time_of_run (trips_along x) i q
  time-same x in_x way i q there =
      let r = flat_map-in named_runs (trips_along x) q (in_order-in runs_strict (flat_map named_runs (trips_along x)) q there) in
      let t = r.0 in
      let named = map-in (λ s. (s, t.trip_id)) (runs t) q r.1.1 in
      let k = along-known x t r.1.0 in
      let all = found-trip p sound d x.trips trips k.0 t timed-known k.1 ((running-along x in_x t r.1.0).timed way) in
      let own = found-trip p sound d x.trips (trips_along x) k.0 t (along-known x) k.1 r.1.0 in
      let time = λ (u : Trip). option_and_then (time_passed u q.0) (row_at u i) in
      let by_id = λ (ts : List Trip). ap (λ name. option_and_then time (find (λ u. bytes_eq u.trip_id name) ts)) (ap (λ z. z.1) named.1.1) in
      by_id trips ∙ ap (option_and_then time) (all ∙ sym own) ∙ sym (by_id (trips_along x))

  sheet-is : (x : Pattern) → In x kept → sheet_under id d trips (heading_along p x) ≡ sheet_along p id d x
  sheet-is x there =
      let k = kept-in x there in
      let direction_is = rank_back x.direction in
      let runs_are = runs-same x k.0 k.1.0 in
      let stop_count : length (heading_along p x).1 ≡ length x.stops = length-map x.stops (λ s. text_of_number (stop_ids p) s.0) in
      let rows : (i : ℕ) → map (time_of_run trips i) (runs_under (heading_along p x) trips) ≡ map (time_of_run (trips_along x) i) (runs_of (trips_along x)) =
      λ i. ap (map (time_of_run trips i)) runs_are ∙ map-agree (time_of_run trips i) (time_of_run (trips_along x) i) (runs_of (trips_along x)) (time-same x k.0 k.1.0 i) in
      let times : (sheet_under id d trips (heading_along p x)).times ≡ (sheet_along p id d x).times =
      map-agree (λ i. map (time_of_run trips i) (runs_under (heading_along p x) trips)) (λ i. map (time_of_run (trips_along x) i) (runs_of (trips_along x))) (range_with_len 0 (length (heading_along p x).1)) (λ i _. rows i)
      ∙ ap (λ m. map (λ i. map (time_of_run (trips_along x) i) (runs_of (trips_along x))) (range_with_len 0 m)) stop_count in
      λ i. record {
        route = id;
        direction = direction_is i;
        day = d;
        stops = (heading_along p x).1;
        runs = runs_are i;
        times = times i;
      }

  -- ---- all together

  pub sheets-are : (found : List Sheet) → found ≡ flat_map (sheets_along p id d) (filter (goes direction) xs) → found ≡ sheets (content_of_parts p) id direction d
  sheets-are found is =
      is ∙ some-mapped (goes direction) (is_idle p d) (sheet_along p id d) xs
      ∙ sym (ap (map (sheet_under id d trips)) headings-are ∙ map-map (sheet_under id d trips) (heading_along p) kept
      ∙ map-agree (λ x. sheet_under id d trips (heading_along p x)) (sheet_along p id d) kept sheet-is)

-- ---- the route of an id

pub route-none : (p : Parts) (s : List ℕ) → position (bytes_eq s) (route_ids p) ≡ None → is_route (content_of_parts p) s ≡ false
route-none p s none = elim (cases_Bool (is_route (content_of_parts p) s)) [
  | inl is ↦
      let a = any_at (λ (x : Route). bytes_eq x.route_id s) (map (route_of p) p.routes) is in
      let m = map_at (route_of p) p.routes a.0 a.1 a.2.0 in
      let own : text_of_number (route_ids p) a.0 ≡ a.1.route_id = text_at (λ x. x.route_id) p.routes a.0 m.0 m.1.0 ∙ ap (λ (x : Route). x.route_id) m.1.1 in
      let same : text_of_number (route_ids p) a.0 ≡ s = own ∙ text_is a.1.route_id s a.2.1 in
      let inside : a.0 < length (route_ids p) = omega (arith, slice_get_within p.routes a.0 m.0 m.1.0, length-map p.routes (λ x. x.route_id)) in
      absurd (true≢false (sym (text_itself s) ∙ ap (bytes_eq s) (sym same) ∙ position_none (bytes_eq s) (route_ids p) none a.0 inside))
  | inr isnt ↦ isnt
]

pub route-some : (p : Parts) (s : List ℕ) (n : ℕ) → position (bytes_eq s) (route_ids p) ≡ Some n
    → (n < length p.routes) × ((text_of_number (route_ids p) n ≡ s) × (is_route (content_of_parts p) s ≡ true))
route-some p s n some =
    let there = position_at (bytes_eq s) (route_ids p) n some in
    let inside : n < length p.routes = omega (arith, there.0, length-map p.routes (λ x. x.route_id)) in
    let same : text_of_number (route_ids p) n ≡ s = sym (text_is s (text_of_number (route_ids p) n) there.1) in
    (inside, (same, known p.routes n inside same))
  where
    known : (xs : List RouteRow) (m : ℕ) → m < length xs → text_of_number (map (λ x. x.route_id) xs) m ≡ s → list_any (λ (x : Route). bytes_eq x.route_id s) (map (route_of p) xs) ≡ true
    known [] m inside same = absurd (omega (arith, inside))
    known (x ∷ xs) zero inside same = or_left (bytes_eq x.route_id s) _ (ap (bytes_eq x.route_id) (sym same) ∙ text_itself x.route_id)
    known (x ∷ xs) (suc m) inside same = or_right (bytes_eq x.route_id s) _ (known xs m (omega (arith, inside)) same)

-- ---- answers of the timetable

pub never_unknown : {A : Type 0} (r : Result A TableFault) → IfErr r (λ e. e ≢ UnknownRoute) → IsErrOf r UnknownRoute → ⊥
never_unknown (Ok x) h is = cc
never_unknown {A} (Err e) h is = h (ap fault_of is)
  where
    fault_of : Result A TableFault → TableFault
    fault_of (Ok x) = e
    fault_of (Err d) = d
