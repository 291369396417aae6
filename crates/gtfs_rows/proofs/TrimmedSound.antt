-- A sound feed, trimmed, is sound.
use Rattle.std.proofs.Common.{◌≡◌, ◌∙◌, ◌+◌, ℕ, suc, Bool, true, false, not, List, [], ◌∷◌, ◌++◌, Some, None, Option, refl, sym, ap, subst, inl, inr, map, length, bytes_eq, ℤ, pos, negsuc, ◌-ℤ◌, int_lt, int_le, true≢false, ne_eqb, arith}
use Rattle.std.specs.Prelude.{◌&&◌, ◌||◌, ◌==◌, if◌then◌else◌, is_some, option_and_then}
use Rattle.std.specs.Int.{int_max, int_min}
use Rattle.std.specs.List.{list_all}
use Rattle.std.specs.Ordering.{int_cmp, on}
use Rattle.std.specs.declared.cmp.Ordering.TheVariants.{Less}
use Rattle.std.proofs.lemmas.Bool.{and_parts, and_from}
use Rattle.std.proofs.lemmas.Int.{ints}
use Rattle.std.proofs.lemmas.List.{length-append, length-map}
use Rattle.std.proofs.lemmas.List.Kept.{AllPairs-filter}
use Rattle.gtfs_field.proofs.ListFacts.{any_mapped}
use Rattle.gtfs_field.specs.TextOrder.{text_cmp}
use Rattle.gtfs_days.specs.Cut.{cut_day, cut_week, exceptions_in, is_in, no_days, trimmed_service, week_or}
use Rattle.gtfs_days.specs.Service.{is_service_day}
use Rattle.gtfs_days.specs.declared.cut.Cut.{Cut}
use Rattle.gtfs_days.specs.declared.cut.Cut.TheVariants.{Before, From}
use Rattle.gtfs_days.specs.declared.exception.Exception.{Exception}
use Rattle.gtfs_days.specs.declared.week.Week.{Week}
use Rattle.gtfs_table.specs.declared.file.File.{File}
use Rattle.gtfs_table.specs.declared.file.File.TheVariants as file
use Rattle.gtfs_schema.specs.Columns.{Column, columns_of}
use Rattle.gtfs_schema.specs.FieldValues.{amount}
use Rattle.gtfs_rows.specs.Cells.{Cell, are_cells, is_between, is_cell, is_filled}
use Rattle.gtfs_rows.specs.Content.{Content}
use Rattle.gtfs_rows.specs.TransferOrder.{Ascends}
use Rattle.gtfs_rows.specs.RowCells.{cells_in, exception_cells, exceptions_of, flag, week_cells, week_list, weeks_of}
use Rattle.gtfs_rows.specs.Rows.{ServiceRow}
use Rattle.gtfs_rows.specs.SoundContent.{IsInOrder, IsSound, has_id, if_given, is_sound_in, is_sound_period, is_sound_service, is_sound_trip, is_sound_week}
use Rattle.gtfs_rows.specs.TrimmedContent.{trimmed, trimmed_row}
use Rattle.gtfs_rows.proofs.Members.{In, In-filter, In-held, In-map, all-In, all-cells, all-from, cells-at, held-In, list_all-In, list_all-from}
use Rattle.gtfs_rows.proofs.SameElements.{pairs-map}

-- ---- dates

abbrev is_date : ℤ → Bool
is_date x = is_between (negsuc 25_566) (pos 2_932_896) x

last-day : (s e x : ℤ) → is_date s ≡ true → is_date e ≡ true → int_lt s x ≡ true → is_date (int_min e (x -ℤ pos 1)) ≡ true
last-day s e x h k l = grind (arith, ints)

first-day : (s x : ℤ) → is_date s ≡ true → is_service_day x ≡ true → is_date (int_max s x) ≡ true
first-day s x h l = grind (arith, ints)

service-date : (x : ℤ) → is_service_day x ≡ true → is_date x ≡ true
service-date x h = grind (arith, ints)

ends-after : (s e x : ℤ) → int_le s e ≡ true → int_lt s x ≡ true → int_le s (int_min e (x -ℤ pos 1)) ≡ true
ends-after s e x h l = grind (arith, ints)

starts-before : (s e x : ℤ) → int_le s e ≡ true → int_le x e ≡ true → int_le (int_max s x) e ≡ true
starts-before s e x h l = grind (arith, ints)

same-day : (x : ℤ) → int_le x x ≡ true
same-day x = grind (arith, ints)

-- ---- cells

-- each cell lies in its column
abbrev AllHold : List Column → List Cell → Type 0
AllHold [] [] = Unit {0}
AllHold [] (v ∷ vs) = ⊥
AllHold (c ∷ cs) [] = ⊥
AllHold (c ∷ cs) (v ∷ vs) = (is_cell c v ≡ true) × AllHold cs vs

hold-cells : (cs : List Column) (vs : List Cell) → are_cells cs vs ≡ true → AllHold cs vs
hold-cells [] [] e = tt
hold-cells [] (v ∷ vs) e = true≢false (sym e)
hold-cells (c ∷ cs) [] e = true≢false (sym e)
hold-cells (c ∷ cs) (v ∷ vs) e = let p = and_parts (is_cell c v) (are_cells cs vs) e in (p.0, hold-cells cs vs p.1)

from-cells : (cs : List Column) (vs : List Cell) → AllHold cs vs → are_cells cs vs ≡ true
from-cells [] [] h = refl
from-cells [] (v ∷ vs) h = absurd h
from-cells (c ∷ cs) [] h = absurd h
from-cells (c ∷ cs) (v ∷ vs) h = and_from (is_cell c v) (are_cells cs vs) h.0 (from-cells cs vs h.1)

count-cells : (cs : List Column) (vs : List Cell) → are_cells cs vs ≡ true → length vs ≡ length cs
count-cells [] [] e = refl
count-cells [] (v ∷ vs) e = absurd (true≢false (sym e))
count-cells (c ∷ cs) [] e = absurd (true≢false (sym e))
count-cells (c ∷ cs) (v ∷ vs) e = ap suc (count-cells cs vs (and_parts (is_cell c v) (are_cells cs vs) e).1)

-- ---- a calendar row

abbrev fits_calendar : List ℕ → Week → Bool
fits_calendar id w = are_cells (columns_of file.Calendar) (week_cells (id, w))

seven-days : (id : List ℕ) (w : Week) → fits_calendar id w ≡ true → length w.days ≡ 7
seven-days id w h =
    let count : length (week_cells (id, w)) ≡ 10 = count-cells (columns_of file.Calendar) (week_cells (id, w)) h in
    let size : length (map flag w.days ++ Some (amount w.start) ∷ Some (amount w.end) ∷ []) ≡ length w.days + 2 = length-append (map flag w.days) (Some (amount w.start) ∷ Some (amount w.end) ∷ []) ∙ ap (λ n. n + 2) (length-map w.days flag) in
    omega (arith, count, size)

-- a row keeps its place with other dates
record HasDates (id : List ℕ) (w : Week) : Type 0 where
  pub start : is_date w.start ≡ true
  pub end : is_date w.end ≡ true
  pub others : (s e : ℤ) → is_date s ≡ true → is_date e ≡ true → fits_calendar id (record w { start = s; end = e }) ≡ true

abbrev week_of : List Bool → ℤ → ℤ → Week
week_of days start end = record { days = days; start = start; end = end }

dated : (id : List ℕ) (days : List Bool) (start end : ℤ) → length days ≡ 7 → fits_calendar id (week_of days start end) ≡ true → HasDates id (week_of days start end)
dated id [] start end seven h = absurd (omega (arith, seven))
dated id (b0 ∷ []) start end seven h = absurd (omega (arith, seven))
dated id (b0 ∷ b1 ∷ []) start end seven h = absurd (omega (arith, seven))
dated id (b0 ∷ b1 ∷ b2 ∷ []) start end seven h = absurd (omega (arith, seven))
dated id (b0 ∷ b1 ∷ b2 ∷ b3 ∷ []) start end seven h = absurd (omega (arith, seven))
dated id (b0 ∷ b1 ∷ b2 ∷ b3 ∷ b4 ∷ []) start end seven h = absurd (omega (arith, seven))
dated id (b0 ∷ b1 ∷ b2 ∷ b3 ∷ b4 ∷ b5 ∷ []) start end seven h = absurd (omega (arith, seven))
dated id (b0 ∷ b1 ∷ b2 ∷ b3 ∷ b4 ∷ b5 ∷ b6 ∷ []) start end seven h =
    let p = hold-cells (columns_of file.Calendar) (week_cells (id, week_of (b0 ∷ b1 ∷ b2 ∷ b3 ∷ b4 ∷ b5 ∷ b6 ∷ []) start end)) h in
    record {
      start = p.1.1.1.1.1.1.1.1.0;
      end = p.1.1.1.1.1.1.1.1.1.0;
      others = λ s e hs he. from-cells (columns_of file.Calendar) (week_cells (id, week_of (b0 ∷ b1 ∷ b2 ∷ b3 ∷ b4 ∷ b5 ∷ b6 ∷ []) s e))
          (p.0, (p.1.0, (p.1.1.0, (p.1.1.1.0, (p.1.1.1.1.0, (p.1.1.1.1.1.0, (p.1.1.1.1.1.1.0, (p.1.1.1.1.1.1.1.0, (hs, (he, tt))))))))));
    }
dated id (b0 ∷ b1 ∷ b2 ∷ b3 ∷ b4 ∷ b5 ∷ b6 ∷ b7 ∷ bs) start end seven h = absurd (omega (arith, seven))

has-dates : (id : List ℕ) (w : Week) → fits_calendar id w ≡ true → HasDates id w
has-dates id w h = dated id w.days w.start w.end (seven-days id w h) h

no-days-fits : (id : List ℕ) (d : ℤ) → is_filled id ≡ true → is_date d ≡ true → fits_calendar id (no_days d) ≡ true
no-days-fits id d h k = from-cells (columns_of file.Calendar) (week_cells (id, no_days d)) (h, (refl, (refl, (refl, (refl, (refl, (refl, (refl, (k, (k, tt))))))))))

-- ---- what stays of one calendar row

module _ (c : Cut) (day : is_service_day (cut_day c) ≡ true) where
  -- what stays lies in the kinds, and does not end before it starts
  record IsKept (id : List ℕ) (u : Week) : Type 0 where
    pub fits : fits_calendar id u ≡ true
    pub ordered : is_sound_week u ≡ true

  cut-fits : (id : List ℕ) (w u : Week) → cut_week c w ≡ Some u → HasDates id w → is_sound_week w ≡ true → IsKept id u
  cut-fits id w u = by c day
    where
      is : {x y : Week} → Some x ≡ Some y → x ≡ y
      is e = cc

      by : (c : Cut) → is_service_day (cut_day c) ≡ true → cut_week c w ≡ Some u → HasDates id w → is_sound_week w ≡ true → IsKept id u
      by (Before x) day e has ordered = at (int_lt w.start x) refl e
        where
          at : (t : Bool) → int_lt w.start x ≡ t → (if t then Some (record w { end = int_min w.end (x -ℤ pos 1) }) else None) ≡ Some u → IsKept id u
          at true h e = subst (IsKept id) (is e) (record {
            fits = has.others w.start (int_min w.end (x -ℤ pos 1)) has.start (last-day w.start w.end x has.start has.end h);
            ordered = ends-after w.start w.end x ordered h;
          })
          at false h e = absurd (true≢false (sym (ap is_some e)))
      by (From x) day e has ordered = at (int_le x w.end) refl e
        where
          at : (t : Bool) → int_le x w.end ≡ t → (if t then Some (record w { start = int_max w.start x }) else None) ≡ Some u → IsKept id u
          at true h e = subst (IsKept id) (is e) (record {
            fits = has.others (int_max w.start x) w.end (first-day w.start x has.start day) has.end;
            ordered = starts-before w.start w.end x ordered h;
          })
          at false h e = absurd (true≢false (sym (ap is_some e)))

  module _ (f : Content) (sound : IsSound f) where
    -- ---- one service

    module _ (s : ServiceRow) (i : In s f.services) where
      abbrev left : List (ℤ × Exception)
      left = exceptions_in c s.service.exceptions

      sound-service : is_sound_service s ≡ true
      sound-service = list_all-In is_sound_service f.services sound.services s i

      week-at : (w : Week) → s.service.week ≡ Some w → fits_calendar s.service_id w ≡ true
      week-at w e = cells-at (columns_of file.Calendar) week_cells (weeks_of f) (sound.cells file.Calendar) (s.service_id, w)
          (held-In (λ s. s.service_id) (λ s. week_list s.service.week) f.services s w i (subst (λ o. In w (week_list o)) (sym e) (inl refl)))

      exception-at : (x : ℤ × Exception) → In x s.service.exceptions → are_cells (columns_of file.CalendarDates) (exception_cells (s.service_id, x)) ≡ true
      exception-at x j = cells-at (columns_of file.CalendarDates) exception_cells (exceptions_of f) (sound.cells file.CalendarDates) (s.service_id, x)
          (held-In (λ s. s.service_id) (λ s. s.service.exceptions) f.services s x i j)

      filled-id : is_filled s.service_id ≡ true
      filled-id = by s.service.week refl s.service.exceptions refl
        where
          by : (o : Option Week) → s.service.week ≡ o → (es : List (ℤ × Exception)) → s.service.exceptions ≡ es → is_filled s.service_id ≡ true
          by (Some w) e es d = (and_parts (is_filled s.service_id) _ (week-at w e)).0
          by None e (x ∷ es) d = (and_parts (is_filled s.service_id) _ (exception-at x (subst (λ l. In x l) (sym d) (inl refl)))).0
          by None e [] d = absurd (true≢false (sym ((and_parts _ _ sound-service).0) ∙ (λ i. is_some (e i) || not (length (d i) == 0))))

      -- a test of the calendar row, true of what stays and of a row that names no weekday
      stays : (T : Week → Bool) → ((u : Week) → IsKept s.service_id u → T u ≡ true) → T (no_days (cut_day c)) ≡ true → (w : Week) → In w (week_list (trimmed_service c s.service).week) → T w ≡ true
      stays T kept zeros w = by s.service.week refl
        where
          named : (es : List (ℤ × Exception)) → In w (week_list (week_or (cut_day c) None es)) → T w ≡ true
          named [] (inl e) = ap T (sym e) ∙ zeros
          named [] (inr j) = elim j [ ]
          named (x ∷ es) j = elim j [ ]

          own : (v : Week) → s.service.week ≡ Some v → (o : Option Week) → cut_week c v ≡ o → In w (week_list (week_or (cut_day c) o left)) → T w ≡ true
          own v e None d j = named left j
          own v e (Some u) d (inl h) = ap T (sym h) ∙ kept u (cut-fits s.service_id v u d (has-dates s.service_id v (week-at v e)) (ap (λ o. if_given o is_sound_week) (sym e) ∙ (and_parts (is_some s.service.week || not (length s.service.exceptions == 0)) _ sound-service).1))
          own v e (Some u) d (inr j) = elim j [ ]

          by : (o : Option Week) → s.service.week ≡ o → In w (week_list (week_or (cut_day c) (option_and_then (cut_week c) o) left)) → T w ≡ true
          by None e j = named left j
          by (Some v) e j = own v e (cut_week c v) refl j

      week-fits : (w : Week) → In w (week_list (trimmed_service c s.service).week) → fits_calendar s.service_id w ≡ true
      week-fits = stays (fits_calendar s.service_id) (λ u k. k.fits) (no-days-fits s.service_id (cut_day c) filled-id (service-date (cut_day c) day))

      week-ordered : (w : Week) → In w (week_list (trimmed_service c s.service).week) → is_sound_week w ≡ true
      week-ordered = stays is_sound_week (λ u k. k.ordered) (same-day (cut_day c))

      service-stays : is_sound_service (trimmed_row c s) ≡ true
      service-stays = by (option_and_then (cut_week c) s.service.week) left refl week-ordered
        where
          by : (o : Option Week) (es : List (ℤ × Exception)) → week_or (cut_day c) o es ≡ week_or (cut_day c) o es → ((w : Week) → In w (week_list (week_or (cut_day c) o es)) → is_sound_week w ≡ true)
              → ((is_some (week_or (cut_day c) o es) || not (length es == 0)) && if_given (week_or (cut_day c) o es) is_sound_week) ≡ true
          by None [] e h = h (no_days (cut_day c)) (inl refl)
          by None (x ∷ es) e h = ap (λ b. not b && true) (ne_eqb (suc (length es)) 0 (λ e. absurd (omega arith)))
          by (Some u) es e h = h u (inl refl)

    -- ---- all of them

    abbrev m : Content
    m = trimmed c f

    each : (P : ServiceRow → Type 0) → ((s : ServiceRow) → In s f.services → P (trimmed_row c s)) → (r : ServiceRow) → In r m.services → P r
    each P h r i = let s = In-map (trimmed_row c) f.services r i in subst P s.2 (h s.0 s.1)

    cells : (x : File) → list_all (are_cells (columns_of x)) (cells_in m x) ≡ true
    cells file.Agency = sound.cells file.Agency
    cells file.Stops = sound.cells file.Stops
    cells file.Routes = sound.cells file.Routes
    cells file.Trips = sound.cells file.Trips
    cells file.StopTimes = sound.cells file.StopTimes
    cells file.Calendar = all-cells (columns_of file.Calendar) week_cells (weeks_of m) (λ p i.
        let h = In-held (λ s. s.service_id) (λ s. week_list s.service.week) m.services p i in
        ap (λ v. are_cells (columns_of file.Calendar) (week_cells v)) (sym h.4)
        ∙ each (λ r. (w : Week) → In w (week_list r.service.week) → fits_calendar r.service_id w ≡ true) week-fits h.0 h.1 h.2 h.3)
    cells file.CalendarDates = all-cells (columns_of file.CalendarDates) exception_cells (exceptions_of m) (λ p i.
        let h = In-held (λ s. s.service_id) (λ s. s.service.exceptions) m.services p i in
        ap (λ v. are_cells (columns_of file.CalendarDates) (exception_cells v)) (sym h.4)
        ∙ each (λ r. (x : ℤ × Exception) → In x r.service.exceptions → are_cells (columns_of file.CalendarDates) (exception_cells (r.service_id, x)) ≡ true)
        (λ s i x j. exception-at s i x (In-filter (λ e. is_in c e.0) s.service.exceptions x j)) h.0 h.1 h.2 h.3)
    cells file.Frequencies = sound.cells file.Frequencies
    cells file.Transfers = sound.cells file.Transfers

    abbrev ExceptionsAscend : ServiceRow → Type 0
    ExceptionsAscend s = Ascends (on (λ e. e.0) int_cmp) s.service.exceptions

    in-order : IsInOrder m
    in-order = record {
      agencies = sound.in_order.agencies;
      stops = sound.in_order.stops;
      routes = sound.in_order.routes;
      services = pairs-map (trimmed_row c) (λ r s. text_cmp r.service_id s.service_id ≡ Less) f.services sound.in_order.services;
      trips = sound.in_order.trips;
      transfers = sound.in_order.transfers;
      stop_rows = sound.in_order.stop_rows;
      frequencies = sound.in_order.frequencies;
      exceptions = all-from ExceptionsAscend m.services (each ExceptionsAscend (λ s i.
          AllPairs-filter (λ x y. int_cmp x.0 y.0 ≡ Less) (λ e. is_in c e.0) s.service.exceptions (all-In ExceptionsAscend f.services sound.in_order.exceptions s i)));
    }

    service-named : (x : List ℕ) → has_id (λ s. s.service_id) m.services x ≡ has_id (λ s. s.service_id) f.services x
    service-named x = any_mapped (λ (s : ServiceRow). bytes_eq s.service_id x) (trimmed_row c) f.services

    pub trimmed-sound : IsSound (trimmed c f)
    trimmed-sound = record {
      cells = cells;
      in_order = in-order;
      has_agency = sound.has_agency;
      agencies = sound.agencies;
      stops = sound.stops;
      routes = sound.routes;
      services = list_all-from is_sound_service m.services (each (λ r. is_sound_service r ≡ true) service-stays);
      trips = list_all-from (is_sound_trip m) f.trips (λ t i.
          ap (λ b. has_id (λ r. r.route_id) f.routes t.route_id && b && list_all (is_sound_in f t.stop_rows) t.stop_rows && list_all (is_sound_period t.frequencies) t.frequencies) (service-named t.service_id)
          ∙ list_all-In (is_sound_trip f) f.trips sound.trips t i);
      transfers = sound.transfers;
    }
