-- The runs of a trip of sound parts, by its stop times and its frequencies.
use Rattle.std.proofs.Common.{◌≡◌, ◌≤◌, ◌<◌, ◌+◌, ◌∙◌, ◌++◌, ◌&&◌, ◌==◌, ◌||◌, ℕ, suc, Bool, true, false, cond, List, [], ◌∷◌, length, take, add-one, get_or, Option, Some, None, refl, sym, ap, subst, arith, inl, inr}
use Rattle.std.specs.Prelude.{IfSome, is_some, unwrap_or, option_and_then}
use Rattle.std.specs.List.{All, filter, list_any, range_with_len, slice_get}
use Rattle.std.specs.List.Sorted.{IsPermutation}
use Rattle.std.proofs.Math.Seq.{take-suc}
use Rattle.std.proofs.lemmas.Bool.{cases_Bool, eqb-true, false≢true, true≢false}
use Rattle.std.proofs.lemmas.Bool.Decides.{nat_tests}
use Rattle.std.proofs.lemmas.List.{take_all}
use Rattle.std.proofs.lemmas.List.Elements.{All-head, All-tail}
use Rattle.std.proofs.lemmas.Option.{get_or_from_slice_get, slice_get-get_or}
use Rattle.std.proofs.Math.Bool.{and_comm as and_swap}
use Rattle.gtfs_field.proofs.ListFacts.{mapped_at as at_map}
use Rattle.gtfs_rows.specs.Rows.{Trip}
use Rattle.gtfs_rows.specs.RowsInMemory.{IsSoundParts, stop_row_of, trip_of}
use Rattle.gtfs_rows.specs.declared.frequency.Frequency.{Frequency}
use Rattle.gtfs_rows.specs.declared.parts.Parts.{Parts}
use Rattle.gtfs_stop_times.specs.declared.stop_row.StopRow.{StopRow}
use Rattle.gtfs_rows.specs.declared.trip.Trip.{Trip as TripRow}
use Rattle.gtfs_rows.specs.Trips.{ArePeriods, frequencies_by_trip, stop_rows_by_trip}
use Rattle.gtfs_stop_times.specs.RowTimes.{left_at}
use Rattle.gtfs_runs.specs.Tallies.{tally}
use Rattle.gtfs_rows.specs.Runs.{is_run, passes_at, runs}
use Rattle.gtfs_runs.proofs.Bounds.{IsPeriod, periods_within, rows_within}
use Rattle.gtfs_runs.proofs.ContentRows.{no_run, own_run, period_run}
use Rattle.gtfs_runs.proofs.RunStarts.{one_period, starts, within}
use Rattle.gtfs_runs.proofs.Tallies.{tally-permutation as tally-permuted, tally-push}
use Rattle.gtfs_runs.proofs.TripTimes.{at_most}
use Rattle.gtfs_board.specs.TimetableColumns.{is_same_column}
use Rattle.gtfs_board.specs.Timetable.{row_at, time_passed}
use Rattle.gtfs_board.specs.declared.sheet.columns.RunColumn.{RunColumn}
use Rattle.gtfs_board.specs.upcoming.QueueOrder.{In}
use Rattle.gtfs_board.proofs.LaneDays.{in-range}
use Rattle.gtfs_board.proofs.Rests.{filter-in, in-filter}

-- ---- at most one period starts a run at a second

-- ---- the steps of the code

guard : (b s : Bool) → ◌≡◌ {A = ℕ} (cond b (cond s 1 0) 0) (cond (b && s) 1 0)
guard true s = refl
guard false s = refl

pub none-started : (b : Bool) (n : ℕ) (q : Frequency → Bool) (fs : List Frequency) → n ≡ n + cond b (tally q (take 0 fs)) 0
none-started true n q fs = omega arith
none-started false n q fs = omega arith

pub period-more : (b : Bool) (fs : List Frequency) (n : ℕ) (f : Frequency) (r total old new : ℕ) → n < length fs → f ≡ get_or fs n f
    → old ≡ total + cond b (tally (starts r) (take n fs)) 0 → new ≡ old + cond (b && starts r f) 1 0 → new ≡ total + cond b (tally (starts r) (take (n + 1) fs)) 0
period-more b fs n f r total old new within item so_far more =
    let taken : tally (starts r) (take (n + 1) fs) ≡ tally (starts r) (take n fs) + cond (starts r f) 1 0 =
    rw (add-one, take-suc fs n f within) (tally-push (starts r) (take n fs) (get_or fs n f) ∙ ap (λ g. tally (starts r) (take n fs) + cond (starts r g) 1 0) (sym item)) in
    step b (starts r f) (tally (starts r) (take n fs)) (tally (starts r) (take (n + 1) fs)) taken so_far more
  where
    step : (b s : Bool) (m k : ℕ) → k ≡ m + cond s 1 0 → old ≡ total + cond b m 0 → new ≡ old + cond (b && s) 1 0 → new ≡ total + cond b k 0
    step true s m k is so_far more = omega (arith, is, so_far, more)
    step false s m k is so_far more = omega (arith, so_far, more)

pub periods-all : (p : Parts) (t : TripRow) (rs : List StopRow) (fs : List Frequency) (b : Bool) (r n total new : ℕ) → 0 < length rs → 0 < length fs → ArePeriods fs → length fs ≤ n
    → new ≡ total + cond b (tally (starts r) (take n fs)) 0 → new ≡ total + cond (b && is_run (trip_of p t rs fs) r) 1 0
periods-all p t rs fs b r n total new filled some are past so_far =
    so_far ∙ ap (λ gs. total + cond b (tally (starts r) gs) 0) (take_all n fs past)
    ∙ ap (λ m. total + cond b m 0) (one_period fs r are ∙ ap (λ s. cond s 1 0) (sym (period_run p t rs fs r filled some)))
    ∙ ap (λ m. total + m) (guard b (is_run (trip_of p t rs fs) r))

-- what is counted of one element more, and of all once they are sorted
pub counted-more : {X : Type 0} (q : X → Bool) (xs : List X) (n : ℕ) (x : X) (old new : ℕ) → n < length xs → x ≡ get_or xs n x
    → old ≡ tally q (take n xs) → new ≡ old + cond (q x) 1 0 → new ≡ tally q (take (n + 1) xs)
counted-more q xs n x old new within item so_far more =
    rw (add-one, take-suc xs n x within) (more ∙ (λ i. so_far i + cond (q (item i)) 1 0) ∙ sym (tally-push q (take n xs) (get_or xs n x)))

pub counted-sorted : {X Y : Type 0} (q : Y → Bool) (r : X → Bool) (xs : List X) (n : ℕ) (found sorted : List Y) → length xs ≤ n → tally q found ≡ tally r (take n xs)
    → IsPermutation found sorted → tally q sorted ≡ tally r xs
counted-sorted q r xs n found sorted past all same = tally-permuted q found sorted same ∙ all ∙ ap (tally r) (take_all n xs past)

pub own-pushed : (p : Parts) (t : TripRow) (rs : List StopRow) (fs : List Frequency) (c x : RunColumn) (first : StopRow) (old new : List RunColumn) → 0 < length rs → (length fs == 0) ≡ true
    → first ≡ get_or rs 0 first → x.start ≡ unwrap_or (left_at first) 0 → new ≡ old ++ x ∷ []
    → tally (is_same_column c) new ≡ tally (is_same_column c) old + cond ((c.trip.0 == x.trip.0) && is_run (trip_of p t rs fs) c.start) 1 0
own-pushed p t [] fs c x first old new filled none item start pushed = absurd (omega arith)
own-pushed p t (y ∷ rs) (f ∷ fs) c x first old new filled none item start pushed = absurd (omega (arith, eqb-true (length (f ∷ fs)) 0 none))
own-pushed p t (y ∷ rs) [] c x first old new filled none item start pushed =
    let run : is_run (trip_of p t (y ∷ rs) []) c.start ≡ (c.start == x.start) =
    own_run p t (y ∷ rs) y c.start filled ∙ ap (λ n. c.start == n) (sym (start ∙ ap (λ r. unwrap_or (left_at r) 0) item)) in
    ap (tally (is_same_column c)) pushed ∙ tally-push (is_same_column c) old x
    ∙ ap (λ b. tally (is_same_column c) old + cond b 1 0) (and_swap (c.start == x.start) (c.trip.0 == x.trip.0) ∙ ap (λ b. (c.trip.0 == x.trip.0) && b) (sym run))

-- ---- runs start before the thousandth hour

any_ended : (fs : List Frequency) (r : ℕ) → All IsPeriod fs → list_any (starts r) fs ≡ true → r < 3_600_000
any_ended [] r all is = absurd (false≢true is)
any_ended (f ∷ fs) r all is = elim (cases_Bool (starts r f)) [
  | inl here ↦ let ends = (All-head IsPeriod f fs all).end in let before = (within f r here).1 in omega (arith, ends, before)
  | inr other ↦ any_ended fs r (All-tail IsPeriod f fs all) (sym (ap (λ b. b || list_any (starts r) fs) other) ∙ is)
]

early : (p : Parts) (row : TripRow) (rs : List StopRow) (fs : List Frequency) (r : ℕ) → All (λ x. IfSome (left_at x) (λ a. a ≤ 3_599_999)) rs → All IsPeriod fs
    → is_run (trip_of p row rs fs) r ≡ true → r < 3_600_000
early p row [] fs r late ends is = absurd (false≢true (sym (no_run p row fs r) ∙ is))
early p row (x ∷ rs) [] r late ends is =
    let some : 0 < length (x ∷ rs) = omega arith in
    let start : r ≡ unwrap_or (left_at x) 0 = eqb-true r (unwrap_or (left_at x) 0) (sym (own_run p row (x ∷ rs) x r some) ∙ is) in
    let most = at_most (left_at x) (All-head (λ y. IfSome (left_at y) (λ a. a ≤ 3_599_999)) x rs late) in
    omega (arith, start, most)
early p row (x ∷ rs) (f ∷ fs) r late ends is =
    let some : 0 < length (x ∷ rs) = omega arith in
    let more : 0 < length (f ∷ fs) = omega arith in
    any_ended (f ∷ fs) r ends (sym (period_run p row (x ∷ rs) (f ∷ fs) r some more) ∙ is)

module _ (p : Parts) (sound : IsSoundParts p) (t : ℕ) (row : TripRow) (rs : List StopRow) (fs : List Frequency)
    (at_trip : slice_get p.trips t ≡ Some row) (at_rows : slice_get (stop_rows_by_trip p) t ≡ Some rs) (at_periods : slice_get (frequencies_by_trip p) t ≡ Some fs) where
  pub run-early : (r : ℕ) → is_run (trip_of p row rs fs) r ≡ true → r < 3_600_000
  run-early r is = early p row rs fs r (rows_within p sound t row rs fs at_trip at_rows at_periods) (periods_within p sound t row rs fs at_trip at_rows at_periods) is

  pub left-within : (k : ℕ) (d : StopRow) → k < length rs → unwrap_or (left_at (get_or rs k d)) 0 ≤ 3_599_999
  left-within k d inside = at_most (left_at (get_or rs k d)) (rows_within p sound t row rs fs at_trip at_rows at_periods k d inside)

-- ---- runs as a list

pub in-runs : (t : Trip) (r : ℕ) → is_run t r ≡ true → r < 3_600_000 → In r (runs t)
unfolding runs
in-runs t r is before = in-filter (is_run t) (range_with_len 0 3_600_000) r (in-range 0 3_600_000 r (omega arith) (omega (arith, before))) is

runs-are : (t : Trip) → runs t ≡ filter (is_run t) (range_with_len 0 3_600_000)
unfolding runs
runs-are t = refl

passes-of : (q : ℕ → Bool) (xs ys : List ℕ) (r : ℕ) → ys ≡ filter q xs → In r ys → q r ≡ true
passes-of q xs ys r is there = (filter-in q xs r (subst (In r) is there)).1

pub runs-in : (t : Trip) (r : ℕ) → In r (runs t) → is_run t r ≡ true
runs-in t r there = passes-of (is_run t) (range_with_len 0 3_600_000) (runs t) r (runs-are t) there

pub in-some : {X : Type 0} (xs : List X) (x : X) → In x xs → (length xs == 0) ≡ false
in-some [] x there = absurd there
in-some (y ∷ xs) x there = none (length xs)
  where
    none : (n : ℕ) → (suc n == 0) ≡ false
    none n = grind (arith, nat_tests)

pub some-in : {X : Type 0} (xs : List X) → (length xs == 0) ≡ false → (x : X) × In x xs
some-in [] some = absurd (true≢false some)
some-in (x ∷ xs) some = (x, inl refl)

-- a trip that has a run has a stop row
pub run-rows : (p : Parts) (row : TripRow) (rs : List StopRow) (fs : List Frequency) (r : ℕ) → is_run (trip_of p row rs fs) r ≡ true → 0 < length rs
run-rows p row [] fs r is = absurd (false≢true (sym (no_run p row fs r) ∙ is))
run-rows p row (x ∷ rs) fs r is = omega arith

-- ---- when a run passes a stop time

-- a stop time that has a time has it whatever the default
pub timed-there : (rs : List StopRow) (k : ℕ) (d x : StopRow) (time : ℕ) → k < length rs → x ≡ get_or rs k x → left_at x ≡ Some time → is_some (left_at (get_or rs k d)) ≡ true
timed-there rs k d x time within item timed =
    let same : get_or rs k x ≡ get_or rs k d = get_or_from_slice_get rs k (get_or rs k d) x (slice_get-get_or rs k d within) in
    ap (λ y. is_some (left_at y)) (sym same ∙ sym item) ∙ ap is_some timed

-- the row at a position of the content, and the time there
module _ (p : Parts) (t : TripRow) (rs : List StopRow) (fs : List Frequency) where
  row-is : (position : ℕ) (d : StopRow) → position < length rs → row_at (trip_of p t rs fs) position ≡ Some (stop_row_of p (get_or rs position d))
  row-is position d within = at_map (stop_row_of p) rs position (get_or rs position d) (slice_get-get_or rs position d within)

  -- the time there, where the row is timed by the option
  shown : (start position : ℕ) (d : StopRow) (o : Option ℕ) → position < length rs → left_at (get_or rs position d) ≡ o
      → option_and_then (time_passed (trip_of p t rs fs) start) (row_at (trip_of p t rs fs) position) ≡ cond (is_some o) (Some (passes_at (trip_of p t rs fs) start (stop_row_of p (get_or rs position d)))) None
  shown start position d o within is =
      ap (option_and_then (time_passed (trip_of p t rs fs) start)) (row-is position d within)
      ∙ ap (λ x. cond (is_some x) (Some (passes_at (trip_of p t rs fs) start (stop_row_of p (get_or rs position d)))) None) is

  pub untimed-is : (start position : ℕ) (d : StopRow) → position < length rs → d ≡ get_or rs position d → left_at d ≡ None
      → None ≡ option_and_then (time_passed (trip_of p t rs fs) start) (row_at (trip_of p t rs fs) position)
  untimed-is start position d within item none = sym (shown start position d None within (ap left_at (sym item) ∙ none))

  pub timed-is : (start position clock time : ℕ) (d : StopRow) → position < length rs → d ≡ get_or rs position d → left_at d ≡ Some time
      → clock ≡ passes_at (trip_of p t rs fs) start (stop_row_of p (get_or rs position d))
      → Some clock ≡ option_and_then (time_passed (trip_of p t rs fs) start) (row_at (trip_of p t rs fs) position)
  timed-is start position clock time d within item timed is = ap Some is ∙ sym (shown start position d (Some time) within (ap left_at (sym item) ∙ timed))

-- the same of a trip of the feed
pub time-in-content : (f : List Trip) (n start position : ℕ) (t : Trip) (o : Option ℕ) → slice_get f n ≡ Some t → o ≡ option_and_then (time_passed t start) (row_at t position)
    → o ≡ option_and_then (λ u. option_and_then (time_passed u start) (row_at u position)) (slice_get f n)
time-in-content f n start position t o at is = is ∙ sym (ap (option_and_then (λ u. option_and_then (time_passed u start) (row_at u position))) at)
