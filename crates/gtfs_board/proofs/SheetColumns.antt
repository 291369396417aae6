-- The columns of a pattern are the runs of its trips on the day.
use Rattle.std.proofs.Common.{rules, ◌≡◌, ◌≤◌, ◌<◌, ◌+◌, ◌++◌, ◌∙◌, ◌&&◌, ◌==◌, ℕ, Bool, true, false, cond, not, List, [], ◌∷◌, length, map, get_or, Option, Some, None, find, refl, sym, ap, subst, arith, inl, inr}
use Rattle.std.specs.Prelude.{ℤ, bytes_eq, option_and_then, option_map, unwrap_or}
use Rattle.std.specs.List.{All, filter_map, flat_map, range_with_len, slice_get}
use Rattle.std.specs.List.Sorted.{IsSorted}
use Rattle.std.specs.Cmp.{IsTotalOrder, ranked}
use Rattle.std.specs.Cmp.Rules.{comparing}
use Rattle.std.specs.FinMap.{nat_cmp-IsAntisymmetric}
use Rattle.std.specs.declared.cmp.Ordering.TheVariants.{Less, Equal}
use Rattle.std.specs.Ordering.{is_lt, nat_cmp, ordering_then}
use Rattle.std.proofs.lemmas.Bool.{and_from, and_parts, cases_Bool, eq-eqb, eqb-true, not-true, true≢false}
use Rattle.std.proofs.lemmas.List.{length-map}
use Rattle.std.proofs.lemmas.List.Elements.{All-cons, All-head, All-nil, All-tail}
use Rattle.std.proofs.lemmas.Simd.{map-map}
use Rattle.std.proofs.lemmas.Option.{same_Some as some_is, slice_get-get_or, slice_get_within}
use Rattle.gtfs_field.proofs.OrderingFacts.{tied}
use Rattle.gtfs_field.proofs.ListFacts.{some_of}
use Rattle.gtfs_field.specs.TextOrder.{text_cmp}
use Rattle.gtfs_table.proofs.PartFacts.{length-parts}
use Rattle.gtfs_schema.proofs.SiteFacts.{text_is, text_itself}
use Rattle.gtfs_schema.specs.FieldValues.{if_there}
use Rattle.gtfs_days.specs.Service.{ServiceDates, is_active}
use Rattle.gtfs_schema.proofs.BoolFacts.{same_test as same_tests}
use Rattle.gtfs_rows.proofs.Held.{text_antisymmetric}
use Rattle.gtfs_rows.proofs.SameElements.{pairs-map}
use Rattle.gtfs_rows.specs.TransferOrder.{Ascends}
use Rattle.gtfs_rows.specs.Rows.{Trip}
use Rattle.gtfs_rows.specs.RowsInMemory.{IsSoundParts, content_of_parts, service_ids, text_of_number, trip_ids, trip_of}
use Rattle.gtfs_rows.specs.declared.frequency.Frequency.{Frequency}
use Rattle.gtfs_rows.specs.declared.numbers.TripNo.{TripNo}
use Rattle.gtfs_rows.specs.declared.parts.Parts.{Parts}
use Rattle.gtfs_rows.specs.declared.service.ServiceRow.{ServiceRow}
use Rattle.gtfs_stop_times.specs.declared.stop_row.StopRow.{StopRow}
use Rattle.gtfs_rows.specs.declared.trip.Trip.{Trip as TripRow}
use Rattle.gtfs_rows.proofs.NumberFacts.{trip_service}
use Rattle.gtfs_rows.proofs.SoundOrder.{in_order}
use Rattle.gtfs_rows.proofs.TripsAt.{content_trip}
use Rattle.gtfs_rows.specs.Trips.{frequencies_by_trip, stop_rows_by_trip}
use Rattle.gtfs_stop_times.specs.RowTimes.{left_at}
use Rattle.gtfs_runs.specs.Tallies.{tally}
use Rattle.gtfs_runs.specs.Patterns.{rows_of_number}
use Rattle.gtfs_rows.specs.Runs.{is_run, runs}
use Rattle.gtfs_runs.specs.declared.pattern.Pattern.{Pattern}
use Rattle.gtfs_rows.specs.Departures.{runs_on}
use Rattle.gtfs_board.specs.LaneDays.{serves_on}
use Rattle.gtfs_board.specs.TimetableColumns.{IsPattern, IsShownAlong, column_cmp, column_times, is_column_before, is_column_of, is_run_on, is_same_column, named_column, running_at, sheet_along, sheet_of_columns, sheet_with, sheets_along, time_of_column}
use Rattle.gtfs_board.specs.Timetable.{Run, Sheet, has_run_on, is_run_before, named_runs, row_at, run_cmp, runs_of, time_passed, time_of_run}
use Rattle.gtfs_board.specs.declared.sheet.columns.RunColumn.{RunColumn}
use Rattle.gtfs_board.specs.upcoming.QueueOrder.{In, AscendsBy, IsStrict}
use Rattle.gtfs_board.proofs.Candidates.{strict_from_total}
use Rattle.gtfs_runs.proofs.TripIds.{numbers, text_at}
use Rattle.gtfs_board.proofs.EventFacts.{same_number, there_some, trip_back}
use Rattle.gtfs_board.proofs.LaneDays.{flat_map-in, in-flat_map, in-map, map-in}
use Rattle.gtfs_board.proofs.Rests.{ascending-in_order, ascending-unique, filter-in, in-filter, in-in_order, in_order-in}
use Rattle.gtfs_board.proofs.SheetLists.{ascending-mapped, counted-in, find-one, in-counted, map-agree, sorted-ascends}
use Rattle.gtfs_board.proofs.SheetRuns.{in-runs, in-some, left-within, run-early, runs-in, some-in, time-in-content}
use Rattle.gtfs_board.proofs.StopBoards.{runs_serves, serves_runs}

-- ---- orders

columns_total : IsTotalOrder column_cmp
columns_total = search (comparing, rules) depth 20

runs_total : IsTotalOrder run_cmp
runs_total = search (comparing, rules) depth 20

column_ties : (x y : RunColumn) → column_cmp x y ≡ Equal → is_same_column x y ≡ true
column_ties x y h =
    let both = tied _ _ h in
    and_from (x.start == y.start) (x.trip.0 == y.trip.0) (eq-eqb x.start y.start (ranked x.start y.start Equal (sym both.0))) (eq-eqb x.trip.0 y.trip.0 (ranked x.trip.0 y.trip.0 Equal (sym both.1)))

same_itself : (x : RunColumn) → is_same_column x x ≡ true
same_itself x = and_from (x.start == x.start) (x.trip.0 == x.trip.0) (eq-eqb x.start x.start refl) (eq-eqb x.trip.0 x.trip.0 refl)

same_is : (x y : RunColumn) → is_same_column x y ≡ true → x ≡ y
same_is x y h =
    let both = and_parts (x.start == y.start) (x.trip.0 == y.trip.0) h in
    let starts = eqb-true x.start y.start both.0 in
    let trips = eqb-true x.trip.0 y.trip.0 both.1 in
    λ i. record { start = starts i; trip = record { 0 = trips i } }

run_exact : (x y : Run) → run_cmp x y ≡ Equal → x ≡ y
run_exact x y h =
    let both = tied _ _ h in
    let starts = nat_cmp-IsAntisymmetric x.0 y.0 both.0 in
    let ids = text_antisymmetric x.1 y.1 both.1 in
    λ i. (starts i, ids i)

pub runs_strict : IsStrict is_run_before
runs_strict = strict_from_total run_cmp runs_total run_exact

-- ---- trips by number

mapped-step : {X Y : Type 0} (h : X → Option Y) (x : X) (xs : List X) (y : Y) (o : Option Y) → h x ≡ o
    → (In y (filter_map h xs) → (z : X) × (In z xs × (h z ≡ Some y))) → In y (filter_map h (x ∷ xs)) → (z : X) × (In z (x ∷ xs) × (h z ≡ Some y))
mapped-step h x xs y None is rest here = let r = rest (rw is at here) in (r.0, (inr r.1.0, r.1.1))
mapped-step h x xs y (Some z) is rest here = elim (rw is at here) [
  | inl e ↦ (x, (inl refl, is ∙ ap Some (sym e)))
  | inr later ↦ let r = rest later in (r.0, (inr r.1.0, r.1.1))
]

filter_map-in : {X Y : Type 0} (h : X → Option Y) (xs : List X) (y : Y) → In y (filter_map h xs) → (x : X) × (In x xs × (h x ≡ Some y))
filter_map-in h [] y there = absurd there
filter_map-in h (x ∷ xs) y there = mapped-step h x xs y (h x) refl (filter_map-in h xs y) there

in-step : {X Y : Type 0} (h : X → Option Y) (z : X) (xs : List X) (y : Y) (o : Option Y) → h z ≡ o → In y (filter_map h xs) → In y (filter_map h (z ∷ xs))
in-step h z xs y None none rest = rw none rest
in-step h z xs y (Some w) some rest = rw some (inr rest)

in-filter_map : {X Y : Type 0} (h : X → Option Y) (xs : List X) (x : X) (y : Y) → In x xs → h x ≡ Some y → In y (filter_map h xs)
in-filter_map h [] x y there is = absurd there
in-filter_map {X} {Y} h (z ∷ xs) x y there is = elim there [
  | inl e ↦ let here : h z ≡ Some y = ap h (sym e) ∙ is in rw here (inl refl)
  | inr later ↦ in-step h z xs y (h z) refl (in-filter_map h xs x y later is)
]

-- a trip of the content with the rows that make it
pub record IsTrip (p : Parts) (n : ℕ) (t : Trip) : Type 0 where
  pub row : TripRow
  pub rows : List StopRow
  pub periods : List Frequency
  pub at_trip : slice_get p.trips n ≡ Some row
  pub at_rows : slice_get (stop_rows_by_trip p) n ≡ Some rows
  pub at_periods : slice_get (frequencies_by_trip p) n ≡ Some periods
  pub is : trip_of p row rows periods ≡ t

pub trip-of : (p : Parts) (n : ℕ) (t : Trip) → slice_get (content_of_parts p).trips n ≡ Some t → IsTrip p n t
trip-of p n t at =
    let r = trip_back p p.trips (stop_rows_by_trip p) (frequencies_by_trip p) n t at in
    record { row = r.0; rows = r.1; periods = r.2; at_trip = r.3.0; at_rows = r.3.1.0; at_periods = r.3.1.1.0; is = r.3.1.1.1 }

pub all-in : {X : Type 0} (P : X → Type 0) (xs : List X) → All P xs → (x : X) → In x xs → P x
all-in P [] all x there = absurd there
all-in P (y ∷ ys) all x there = elim there [ inl e ↦ subst P (sym e) (All-head P y ys all) | inr later ↦ all-in P ys (All-tail P y ys all) x later ]

module _ (p : Parts) (sound : IsSoundParts p) where
  pub trip-id : (n : ℕ) (t : Trip) → slice_get (content_of_parts p).trips n ≡ Some t → text_of_number (trip_ids p) n ≡ t.trip_id
  trip-id n t at = let r = trip-of p n t at in text_at (λ x. x.trip_id) p.trips n r.row r.at_trip ∙ ap (λ (x : Trip). x.trip_id) r.is

  pub trip-within : (n : ℕ) (t : Trip) → slice_get (content_of_parts p).trips n ≡ Some t → n < length p.trips
  trip-within n t at = let r = trip-of p n t at in slice_get_within p.trips n r.row r.at_trip

  pub ids_ascend : Ascends text_cmp (trip_ids p)
  ids_ascend = pairs-map (λ t. t.trip_id) (λ a b. text_cmp a b ≡ Less) p.trips (in_order p sound).trips

  pub ids-within : (n : ℕ) → n < length p.trips → n < length (trip_ids p)
  ids-within n within = omega (arith, within, length-map p.trips (λ x. x.trip_id))

  -- trips with one id are one
  pub one-trip : (m n : ℕ) (t u : Trip) → slice_get (content_of_parts p).trips m ≡ Some t → slice_get (content_of_parts p).trips n ≡ Some u → u.trip_id ≡ t.trip_id → u ≡ t
  one-trip m n t u at_t at_u same =
      let number : m ≡ n = same_number (trip_ids p) m n ids_ascend (ids-within m (trip-within m t at_t)) (ids-within n (trip-within n u at_u)) (trip-id m t at_t ∙ sym same ∙ sym (trip-id n u at_u)) in
      some_is u t (sym at_u ∙ ap (slice_get (content_of_parts p).trips) (sym number) ∙ at_t)

  pub early-run : (n : ℕ) (t : Trip) (r : ℕ) → slice_get (content_of_parts p).trips n ≡ Some t → is_run t r ≡ true → r < 3_600_000
  early-run n t r at is =
      let x = trip-of p n t at in
      run-early p sound n x.row x.rows x.periods x.at_trip x.at_rows x.at_periods r (ap (λ u. is_run u r) x.is ∙ is)

  -- a service by its number
  services_ascend : Ascends text_cmp (service_ids p)
  services_ascend = pairs-map (λ s. s.service_id) (λ a b. text_cmp a b ≡ Less) p.services (in_order p sound).services

  pub service-runs : (n : ℕ) (row : TripRow) (rs : List StopRow) (fs : List Frequency) (s : ServiceDates) (d : ℤ) → slice_get p.trips n ≡ Some row
      → option_map (λ x. x.service) (slice_get p.services row.service_id.0) ≡ Some s → is_active s d ≡ runs_on (content_of_parts p) (trip_of p row rs fs) d
  service-runs n row rs fs s d at there =
      let t = trip_of p row rs fs in
      let k = row.service_id.0 in
      let within : k < length (service_ids p) = omega (arith, trip_service p sound n row at, length-map p.services (λ x. x.service_id)) in
      let serves : serves_on p k d ≡ is_active s d = active_is d (slice_get p.services k) s there in
      same_tests (is_active s d) (runs_on (content_of_parts p) t d)
      (λ holds. serves_runs p k d t refl (serves ∙ holds))
      (λ holds.
      let r = runs_serves p t d holds in
      let number : k ≡ r.number = same_number (service_ids p) k r.number services_ascend within r.within r.id in
      sym serves ∙ ap (λ m. serves_on p m d) number ∙ r.busy)
    where
      active_is : (d : ℤ) (o : Option ServiceRow) (s : ServiceDates) → option_map (λ x. x.service) o ≡ Some s → if_there o (λ x. is_active x.service d) ≡ is_active s d
      active_is d None s is = absurd (cc)
      active_is d (Some x) s is = ap (λ y. is_active y d) (some_is x.service s is)

  -- ---- the steps of the code

  step-same : (n : ℕ) (row : TripRow) (rs : List StopRow) (fs : List Frequency) (s : ServiceDates) (d : ℤ) (c : RunColumn)
      → slice_get p.trips n ≡ Some row → slice_get (stop_rows_by_trip p) n ≡ Some rs → slice_get (frequencies_by_trip p) n ≡ Some fs
      → option_map (λ x. x.service) (slice_get p.services row.service_id.0) ≡ Some s
      → ((c.trip.0 == n) && is_run_on p d c) ≡ ((c.trip.0 == n) && (is_active s d && is_run (trip_of p row rs fs) c.start))
  step-same n row rs fs s d c at_trip at_rows at_periods there = elim (cases_Bool (c.trip.0 == n)) [
    | inl same ↦
        let f = content_of_parts p in
        let number : c.trip.0 ≡ n = eqb-true c.trip.0 n same in
        let at : slice_get f.trips c.trip.0 ≡ Some (trip_of p row rs fs) = ap (slice_get f.trips) number ∙ content_trip p n row rs fs at_trip at_rows at_periods in
        rw same (ap (λ o. if_there o (λ t. runs_on f t d && is_run t c.start)) at
        ∙ ap (λ b. b && is_run (trip_of p row rs fs) c.start) (sym (service-runs n row rs fs s d at_trip there)))
    | inr other ↦ rw other refl
  ]

  pub trip-pushed : (n : ℕ) (row : TripRow) (rs : List StopRow) (fs : List Frequency) (s : ServiceDates) (d : ℤ) (c : RunColumn) (active : Bool) (old new : ℕ)
      → slice_get p.trips n ≡ Some row → slice_get (stop_rows_by_trip p) n ≡ Some rs → slice_get (frequencies_by_trip p) n ≡ Some fs
      → option_map (λ x. x.service) (slice_get p.services row.service_id.0) ≡ Some s → active ≡ is_active s d → active ≡ true
      → new ≡ old + cond ((c.trip.0 == n) && is_run (trip_of p row rs fs) c.start) 1 0 → new ≡ old + cond ((c.trip.0 == n) && is_run_on p d c) 1 0
  trip-pushed n row rs fs s d c active old new at_trip at_rows at_periods there judged busy more =
      more ∙ ap (λ b. old + cond b 1 0) (sym (step-same n row rs fs s d c at_trip at_rows at_periods there
      ∙ ap (λ b. (c.trip.0 == n) && (b && is_run (trip_of p row rs fs) c.start)) (sym judged ∙ busy)))

  pub trip-idle : (n : ℕ) (row : TripRow) (rs : List StopRow) (fs : List Frequency) (s : ServiceDates) (d : ℤ) (c : RunColumn) (active : Bool) (old : ℕ)
      → slice_get p.trips n ≡ Some row → slice_get (stop_rows_by_trip p) n ≡ Some rs → slice_get (frequencies_by_trip p) n ≡ Some fs
      → option_map (λ x. x.service) (slice_get p.services row.service_id.0) ≡ Some s → active ≡ is_active s d → active ≡ false
      → old ≡ old + cond ((c.trip.0 == n) && is_run_on p d c) 1 0
  trip-idle n row rs fs s d c active old at_trip at_rows at_periods there judged idle =
      sym (ap (λ b. old + cond b 1 0) (step-same n row rs fs s d c at_trip at_rows at_periods there
      ∙ ap (λ b. (c.trip.0 == n) && (b && is_run (trip_of p row rs fs) c.start)) (sym judged ∙ idle)) ∙ nothing (c.trip.0 == n))
    where
      nothing : (b : Bool) → old + cond (b && false) 1 0 ≡ old
      nothing true = omega arith
      nothing false = omega arith

  -- no stop time is left after 999:59:59
  pub late-rows : (n : ℕ) (rs : List StopRow) → slice_get (stop_rows_by_trip p) n ≡ Some rs → (k : ℕ) (d : StopRow) → k < length rs → unwrap_or (left_at (get_or rs k d)) 0 ≤ 3_599_999
  late-rows n rs at_rows k d inside =
      let within : n < length p.trips = omega (arith, slice_get_within (stop_rows_by_trip p) n rs at_rows, length-parts p.stop_times.starts p.stop_times.rows, sound.stop_rows.0) in
      let periods : n < length (frequencies_by_trip p) = omega (arith, within, length-parts p.frequency_starts p.frequencies, sound.frequencies.0) in
      let e = some_of p.trips n within in
      left-within p sound n (get_or p.trips n e) rs (get_or (frequencies_by_trip p) n []) (slice_get-get_or p.trips n e within) at_rows (slice_get-get_or (frequencies_by_trip p) n [] periods) k d inside

  -- what the stop times of a trip say is what the content says
  pub column-time : (c : RunColumn) (position : ℕ) (rs : List StopRow) (o : Option ℕ) → slice_get (stop_rows_by_trip p) c.trip.0 ≡ Some rs
      → ((row : TripRow) (fs : List Frequency) → o ≡ option_and_then (time_passed (trip_of p row rs fs) c.start) (row_at (trip_of p row rs fs) position)) → o ≡ time_of_column (content_of_parts p) position c
  column-time c position rs o at_rows is =
      let n = c.trip.0 in
      let within : n < length p.trips = omega (arith, slice_get_within (stop_rows_by_trip p) n rs at_rows, length-parts p.stop_times.starts p.stop_times.rows, sound.stop_rows.0) in
      let periods : n < length (frequencies_by_trip p) = omega (arith, within, length-parts p.frequency_starts p.frequencies, sound.frequencies.0) in
      let e = some_of p.trips n within in
      let row = get_or p.trips n e in
      let fs = get_or (frequencies_by_trip p) n [] in
      time-in-content (content_of_parts p).trips n c.start position (trip_of p row rs fs) o
      (content_trip p n row rs fs (slice_get-get_or p.trips n e within) at_rows (slice_get-get_or (frequencies_by_trip p) n [] periods)) (is row fs)

pub rows-are : (p : Parts) (n : ℕ) (rs : List StopRow) → slice_get (stop_rows_by_trip p) n ≡ Some rs → rows_of_number p n ≡ rs
rows-are p n rs at = ap (λ o. unwrap_or o []) at

-- ---- the columns of a pattern

tally-less : {X : Type 0} (q : X → Bool) (b : Bool) (xs : List X) → tally (λ x. q x && b) xs ≤ tally q xs
tally-less q b [] = omega arith
tally-less q b (x ∷ xs) = let here = less (q x) b in omega (arith, here, tally-less q b xs)
  where
    less : (a c : Bool) → cond (a && c) 1 0 ≤ cond a 1 0
    less true true = omega arith
    less true false = omega arith
    less false c = omega arith

-- what a column is
record IsColumn (p : Parts) (d : ℤ) (ns : List TripNo) (c : RunColumn) : Type 0 where
  pub number : TripNo
  pub member : In number ns
  pub same : c.trip.0 ≡ number.0
  pub trip : Trip
  pub at : slice_get (content_of_parts p).trips c.trip.0 ≡ Some trip
  pub runs : runs_on (content_of_parts p) trip d ≡ true
  pub run : is_run trip c.start ≡ true

pub shown-upto : (p : Parts) (m n : ℕ) (c : RunColumn) → IsShownAlong p m c → n < m → IsShownAlong p (n + 1) c
shown-upto p m n c is before = record { trip = is.trip; reaches = omega (arith, is.reaches, before); early = is.early }

pub some-run : (t : Trip) (r : ℕ) → In r (runs t) → not (length (runs t) == 0) ≡ true
some-run t r there = ap not (in-some (runs t) r there)

module _ (p : Parts) (sound : IsSoundParts p) (d : ℤ) (ns : List TripNo) where
  -- the trips that run on the day
  pub running-in : (t : Trip) → In t (running_at (content_of_parts p) d ns)
      → (n : TripNo) × (In n ns × ((slice_get (content_of_parts p).trips n.0 ≡ Some t) × (has_run_on (content_of_parts p) d t ≡ true)))
  running-in t there =
      let f = content_of_parts p in
      let kept = filter-in (has_run_on f d) (filter_map (λ n. slice_get f.trips n.0) ns) t there in
      let r = filter_map-in (λ (n : TripNo). slice_get f.trips n.0) ns t kept.0 in
      (r.0, (r.1.0, (r.1.1, kept.1)))

  pub in-running : (n : TripNo) (t : Trip) → In n ns → slice_get (content_of_parts p).trips n.0 ≡ Some t → has_run_on (content_of_parts p) d t ≡ true
      → In t (running_at (content_of_parts p) d ns)
  in-running n t member at has =
      let f = content_of_parts p in
      in-filter (has_run_on f d) (filter_map (λ m. slice_get f.trips m.0) ns) t (in-filter_map (λ (m : TripNo). slice_get f.trips m.0) ns n t member at) has

  -- the one trip of an id is found
  pub found-trip : (ts : List Trip) (n : ℕ) (t : Trip) → ((u : Trip) → In u ts → (m : ℕ) × (slice_get (content_of_parts p).trips m ≡ Some u)) → slice_get (content_of_parts p).trips n ≡ Some t → In t ts
      → find (λ u. bytes_eq u.trip_id t.trip_id) ts ≡ Some t
  found-trip ts n t known at there =
      find-one (λ u. bytes_eq u.trip_id t.trip_id) ts t there (text_itself t.trip_id)
      (λ u member same. let k = known u member in one-trip p sound n k.0 t u at k.1 (text_is u.trip_id t.trip_id same))

module _ (p : Parts) (sound : IsSoundParts p) (d : ℤ) (x : Pattern) (pattern : IsPattern p x) (cs : List RunColumn)
    (told : (c : RunColumn) → tally (is_same_column c) cs ≡ tally (is_column_of p d c) x.trips) (sorted : IsSorted column_cmp cs) where
  abbrev ts : List Trip
  ts = running_at (content_of_parts p) d x.trips

  once : (c : RunColumn) → tally (is_same_column c) cs ≤ 1
  once c = omega (arith, told c, tally-less (λ (n : TripNo). c.trip.0 == n.0) (is_run_on p d c) x.trips, pattern.once c.trip.0)

  ascends : AscendsBy is_column_before cs
  ascends = sorted-ascends columns_total is_same_column column_ties cs sorted once

  column-is : (c : RunColumn) → In c cs → IsColumn p d x.trips c
  column-is c there =
      let f = content_of_parts p in
      let here = in-counted (is_same_column c) cs c there (same_itself c) in
      let n = counted-in (is_column_of p d c) x.trips (omega (arith, here, told c)) in
      let both = and_parts (c.trip.0 == n.0.0) (is_run_on p d c) n.1.1 in
      let t = there_some (slice_get f.trips c.trip.0) (λ u. runs_on f u d && is_run u c.start) both.1 in
      let parts = and_parts (runs_on f t.0 d) (is_run t.0 c.start) t.1.1 in
      record { number = n.0; member = n.1.0; same = eqb-true c.trip.0 n.0.0 both.0; trip = t.0; at = t.1.0; runs = parts.0; run = parts.1 }

  is-column : (n : TripNo) (t : Trip) (r : ℕ) → In n x.trips → slice_get (content_of_parts p).trips n.0 ≡ Some t → runs_on (content_of_parts p) t d ≡ true → is_run t r ≡ true
      → In (record { start = r; trip = n }) cs
  is-column n t r member at busy run =
      let f = content_of_parts p in
      let c : RunColumn = record { start = r; trip = n } in
      let runs : is_run_on p d c ≡ true = ap (λ o. if_there o (λ u. runs_on f u d && is_run u r)) at ∙ and_from (runs_on f t d) (is_run t r) busy run in
      let passes : is_column_of p d c n ≡ true = and_from (n.0 == n.0) (is_run_on p d c) (eq-eqb n.0 n.0 refl) runs in
      let some = in-counted (is_column_of p d c) x.trips n member passes in
      let y = counted-in (is_same_column c) cs (omega (arith, some, told c)) in
      subst (λ z. In z cs) (sym (same_is c y.0 y.1.1)) y.1.0

  -- ---- runs

  to-columns : (q : Run) → In q (flat_map named_runs ts) → In q (map (named_column p) cs)
  to-columns q there =
      let by_trip = flat_map-in named_runs ts q there in
      let t = by_trip.0 in
      let n = running-in p sound d x.trips t by_trip.1.0 in
      let r = map-in (λ r. (r, t.trip_id)) (runs t) q by_trip.1.1 in
      let both = and_parts (runs_on (content_of_parts p) t d) (not (length (runs t) == 0)) n.1.1.1 in
      let column = is-column n.0 t r.0 n.1.0 n.1.1.0 both.0 (runs-in t r.0 r.1.0) in
      let named : named_column p (record { start = r.0; trip = n.0 }) ≡ q = ap (λ id. (r.0, id)) (trip-id p sound n.0.0 t n.1.1.0) ∙ sym r.1.1 in
      subst (λ z. In z (map (named_column p) cs)) named (in-map (named_column p) cs (record { start = r.0; trip = n.0 }) column)

  -- the trip of a column runs on the day
  column-runs : (c : RunColumn) → (k : IsColumn p d x.trips c) → In c.start (runs k.trip)
  column-runs c k = in-runs k.trip c.start k.run (early-run p sound c.trip.0 k.trip c.start k.at k.run)

  column-trip : (c : RunColumn) → (k : IsColumn p d x.trips c) → In k.trip ts
  column-trip c k =
      in-running p sound d x.trips k.number k.trip k.member (ap (slice_get (content_of_parts p).trips) (sym k.same) ∙ k.at)
      (and_from (runs_on (content_of_parts p) k.trip d) (not (length (runs k.trip) == 0)) k.runs (some-run k.trip c.start (column-runs c k)))

  from-columns : (q : Run) → In q (map (named_column p) cs) → In q (flat_map named_runs ts)
  from-columns q there =
      let m = map-in (named_column p) cs q there in
      let c = m.0 in
      let k = column-is c m.1.0 in
      let named : (c.start, k.trip.trip_id) ≡ q = ap (λ id. (c.start, id)) (sym (trip-id p sound c.trip.0 k.trip k.at)) ∙ sym m.1.1 in
      in-flat_map named_runs ts k.trip q (column-trip c k)
      (subst (λ z. In z (named_runs k.trip)) named (in-map (λ r. (r, k.trip.trip_id)) (runs k.trip) c.start (column-runs c k)))

  rises : (y z : RunColumn) → In y cs → In z cs → is_column_before y z ≡ true → is_run_before (named_column p y) (named_column p z) ≡ true
  rises y z in_y in_z before =
      let a = column-is y in_y in
      let b = column-is z in_z in
      let same = numbers (trip_ids p) y.trip.0 z.trip.0 (ids_ascend p sound) (ids-within p sound y.trip.0 (trip-within p sound y.trip.0 a.trip a.at)) (ids-within p sound z.trip.0 (trip-within p sound z.trip.0 b.trip b.at)) in
      ap (λ r. is_lt (ordering_then (nat_cmp y.start z.start) r)) (sym same) ∙ before

  pub runs-are : map (named_column p) cs ≡ runs_of ts
  runs-are =
      ascending-unique runs_strict (map (named_column p) cs) (runs_of ts)
      (ascending-mapped is_column_before is_run_before (named_column p) cs rises ascends) (ascending-in_order runs_strict (flat_map named_runs ts))
      (λ q there. in-in_order runs_strict (flat_map named_runs ts) q (from-columns q there))
      (λ q there. to-columns q (in_order-in runs_strict (flat_map named_runs ts) q there))

  -- ---- times

  known : (u : Trip) → In u ts → (m : ℕ) × (slice_get (content_of_parts p).trips m ≡ Some u)
  known u there = let r = running-in p sound d x.trips u there in (r.0.0, r.1.1.0)

  time-is : (i : ℕ) (c : RunColumn) → In c cs → time_of_column (content_of_parts p) i c ≡ time_of_run ts i (named_column p c)
  time-is i c there =
      let k = column-is c there in
      let at_time = λ (t : Trip). option_and_then (time_passed t c.start) (row_at t i) in
      let found : find (λ u. bytes_eq u.trip_id (text_of_number (trip_ids p) c.trip.0)) ts ≡ Some k.trip =
      ap (λ id. find (λ u. bytes_eq u.trip_id id) ts) (trip-id p sound c.trip.0 k.trip k.at) ∙ found-trip p sound d x.trips ts c.trip.0 k.trip known k.at (column-trip c k) in
      ap (option_and_then at_time) k.at ∙ sym (ap (option_and_then at_time) found)

  row-of-times : (i : ℕ) → map (time_of_column (content_of_parts p) i) cs ≡ map (time_of_run ts i) (runs_of ts)
  row-of-times i =
      map-agree (time_of_column (content_of_parts p) i) (λ c. time_of_run ts i (named_column p c)) cs (time-is i)
      ∙ sym (map-map (time_of_run ts i) (named_column p) cs) ∙ ap (map (time_of_run ts i)) runs-are

  pub times-are : (stop_count : ℕ) → column_times (content_of_parts p) stop_count cs ≡ map (λ i. map (time_of_run ts i) (runs_of ts)) (range_with_len 0 stop_count)
  times-are stop_count = map-agree (λ i. map (time_of_column (content_of_parts p) i) cs) (λ i. map (time_of_run ts i) (runs_of ts)) (range_with_len 0 stop_count) (λ i there. row-of-times i)

  -- ---- the sheet

  sheet-same : (route : List ℕ) → sheet_of_columns p route d x cs ≡ sheet_along p route d x
  sheet-same route = λ i. sheet_with p route d x (runs-are i) (times-are (length x.stops) i)

  pub nothing-shown : (length cs == 0) ≡ true → (length ts == 0) ≡ true
  nothing-shown none = elim (cases_Bool (length ts == 0)) [
    | inl is ↦ is
    | inr some ↦
        let t = some-in ts some in
        let n = running-in p sound d x.trips t.0 t.1 in
        let both = and_parts (runs_on (content_of_parts p) t.0 d) (not (length (runs t.0) == 0)) n.1.1.1 in
        let r = some-in (runs t.0) (not-true (length (runs t.0) == 0) both.1) in
        absurd (true≢false (sym none ∙ in-some cs _ (is-column n.0 t.0 r.0 n.1.0 n.1.1.0 both.0 (runs-in t.0 r.0 r.1))))
  ]

  pub something-shown : (length cs == 0) ≡ false → (length ts == 0) ≡ false
  something-shown some =
      let c = some-in cs some in
      in-some ts _ (column-trip c.0 (column-is c.0 c.1))

  -- nothing is added for an idle pattern, and else its sheet
  pub none-added : {S : Type 0} (y : S) (old : List S) → (length cs == 0) ≡ true → old ≡ old ++ cond (length ts == 0) [] (y ∷ [])
  none-added {S} y old none = sym (ap (λ b. old ++ cond b [] (y ∷ [])) (nothing-shown none) ∙ append-none old)
    where
      append-none : (xs : List S) → xs ++ [] ≡ xs
      append-none [] = refl
      append-none (z ∷ xs) = ap (λ l. z ∷ l) (append-none xs)

  pub one-added : (route : List ℕ) (y : Sheet) (old : List Sheet) → (length cs == 0) ≡ false → y ≡ sheet_of_columns p route d x cs
      → old ++ y ∷ [] ≡ old ++ sheets_along p route d x
  one-added route y old some is =
      ap (λ s. old ++ s ∷ []) (is ∙ sheet-same route) ∙ sym (ap (λ b. old ++ cond b [] (sheet_along p route d x ∷ [])) (something-shown some))

  pub all-shown : All (IsShownAlong p (length x.stops)) cs
  all-shown = each cs (λ c there. there)
    where
      fits : (c : RunColumn) → In c cs → IsShownAlong p (length x.stops) c
      fits c there =
          let k = column-is c there in
          let rows = all-in (λ n. map (λ row. row.stop_id) (rows_of_number p n.0) ≡ x.stops) x.trips pattern.along k.number k.member in
          let long : length (rows_of_number p k.number.0) ≡ length x.stops = sym (length-map (rows_of_number p k.number.0) (λ row. row.stop_id)) ∙ ap length rows in
          record {
            trip = trip-within p sound c.trip.0 k.trip k.at;
            reaches = subst (λ m. length x.stops ≤ length (rows_of_number p m)) (sym k.same) (omega (arith, long));
            early = early-run p sound c.trip.0 k.trip c.start k.at k.run;
          }

      each : (ys : List RunColumn) → ((c : RunColumn) → In c ys → In c cs) → All (IsShownAlong p (length x.stops)) ys
      each [] inside = All-nil (IsShownAlong p (length x.stops))
      each (y ∷ ys) inside = All-cons (IsShownAlong p (length x.stops)) y ys (fits y (inside y (inl refl))) (each ys (λ c there. inside c (inr there)))
