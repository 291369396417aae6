-- The content of a dataset: its rows stand in order, and each is the row of a record.
use Rattle.std.proofs.Common.{◌≡◌, ◌∙◌, ℕ, List, [], get_or, length, map, true, Bool, Option, Some, None, refl, sym, ap, subst, inl, inr}
use Rattle.std.specs.Prelude.{◌-◌, option_map, ℤ}
use Rattle.std.specs.Cmp.{IsTotalOrder, nat_cmp_total, int_cmp_total}
use Rattle.std.specs.Cmp.Lexicographic.{nat_list_cmp_total}
use Rattle.std.specs.List.{Contains, list_all, range_with_len}
use Rattle.std.specs.Ordering.{nat_cmp, int_cmp, on}
use Rattle.std.specs.declared.cmp.Ordering.{Ordering}
use Rattle.std.proofs.lemmas.List.Elements.{Contains-get_or}
use Rattle.gtfs_days.specs.declared.exception.Exception.{Exception}
use Rattle.gtfs_days.specs.declared.week.Week.{Week}
use Rattle.gtfs_field.specs.TextOrder.{text_cmp}
use Rattle.gtfs_table.specs.Rows.{is_row, records_in, rows}
use Rattle.gtfs_table.specs.Tables.{Dataset}
use Rattle.gtfs_table.specs.declared.file.File.{File}
use Rattle.gtfs_table.specs.declared.file.File.TheVariants as file
use Rattle.gtfs_schema.specs.Calendars.{service_rows, first_service_row, week_in, exception_in}
use Rattle.gtfs_schema.specs.RowConditions.{word_in}
use Rattle.gtfs_schema.specs.FieldValues.{is_word}
use Rattle.gtfs_schema.proofs.ValueFacts.{is_word_some}
use Rattle.gtfs_rows.specs.TransferOrder.{Ascends, by_key, transfer_key, transfer_key_cmp}
use Rattle.gtfs_rows.specs.ContentRead.{text_at, agency_in, stop_in, route_in, stop_row_in, frequency_in, rows_of, trip_in, transfer_in, services_named, service_row_in, content_of}
use Rattle.gtfs_rows.specs.RowCells.{week_list, stop_times_of, frequencies_of, weeks_of, exceptions_of}
use Rattle.gtfs_rows.specs.Rows.{ServiceRow, StopRow, Frequency, Trip}
use Rattle.gtfs_rows.specs.SoundContent.{IsInOrder}
use Rattle.gtfs_rows.proofs.ContentAgain.{transfer_total}
use Rattle.gtfs_rows.proofs.Held.{held_member}
use Rattle.gtfs_rows.proofs.KeyedRows.{all_from, by_key_ascends, by_key_member, found_is}
use Rattle.gtfs_rows.proofs.SameElements.{contains-none, contains-cases, contains-from_map, contains-from_filter}

-- ---- rows

-- a number among a file's rows is that of a row
pub row_of : (d : Dataset) (x : File) (n : ℕ) → Contains (rows d x) n → is_row (records_in d x) n ≡ true
row_of d x n at = (contains-from_filter (is_row (records_in d x)) (range_with_len 2 (length (records_in d x) - 1)) n at).1

-- the row that an element of a list of rows by key is made of
pub record IsMade {X : Type 0} (f : ℕ → X) (ns : List ℕ) (x : X) : Type 0 where
  pub row : ℕ
  pub among : Contains ns row
  pub same : f row ≡ x

pub made : {K X : Type 0} (R : K → K → Ordering) → IsTotalOrder R → (key : X → K) (f : ℕ → X) (ns : List ℕ) (x : X) → Contains (by_key R key (map f ns)) x → IsMade f ns x
made R o key f ns x at =
    let from = contains-from_map f ns x (by_key_member R o key (map f ns) x at) in
    record { row = from.0; among = from.1.0; same = from.1.1 }

-- what holds of the row of each record holds of each row by key
pub all_made : {K X : Type 0} (R : K → K → Ordering) → IsTotalOrder R → (key : X → K) (f : ℕ → X) (ns : List ℕ) (p : X → Bool) → ((n : ℕ) → Contains ns n → p (f n) ≡ true) → list_all p (by_key R key (map f ns)) ≡ true
all_made R o key f ns p each = all_from p (by_key R key (map f ns)) (λ x at.
    let m = made R o key f ns x at in
    subst (λ y. p y ≡ true) m.same (each m.row m.among))

-- ---- the rows that name a trip

-- a row of the file with this word in the column `trip_id`
pub record NamesTrip (d : Dataset) (x : File) (trip : List ℕ) (m : ℕ) : Type 0 where
  pub row : is_row (records_in d x) m ≡ true
  pub among : Contains (rows d x) m
  pub named : word_in d x m "trip_id" ≡ Some trip

pub names_word : (d : Dataset) (x : File) (trip : List ℕ) (m : ℕ) → Contains (rows d x) m → is_word (word_in d x m "trip_id") trip ≡ true → NamesTrip d x trip m
names_word d x trip m at named = record { row = row_of d x m at; among = at; named = is_word_some (word_in d x m "trip_id") trip named }

pub names_trip : (d : Dataset) (x : File) (trip : List ℕ) (m : ℕ) → Contains (rows_of d x trip) m → NamesTrip d x trip m
names_trip d x trip m at =
    let from = contains-from_filter (λ k. is_word (word_in d x k "trip_id") trip) (rows d x) m at in
    names_word d x trip m from.0 from.1

pub record NamesService (d : Dataset) (x : File) (service : List ℕ) (m : ℕ) : Type 0 where
  pub row : is_row (records_in d x) m ≡ true
  pub among : Contains (rows d x) m
  pub named : word_in d x m "service_id" ≡ Some service

-- ---- a row of a dataset's content

module _ (d : Dataset) where
  pub trip_made : (t : Trip) → Contains (content_of d).trips t → IsMade (trip_in d) (rows d file.Trips) t
  trip_made t at = made text_cmp nat_list_cmp_total (λ u. u.trip_id) (trip_in d) (rows d file.Trips) t at

  -- a stop row of a trip
  pub record IsStopTime (q : List ℕ) (r : StopRow) : Type 0 where
    pub row : ℕ
    pub names : NamesTrip d file.StopTimes q row
    pub same : stop_row_in d row ≡ r

  pub stop_row_made : (trip : List ℕ) (r : StopRow) → Contains (by_key nat_cmp (λ s. s.stop_sequence) (map (stop_row_in d) (rows_of d file.StopTimes trip))) r → IsStopTime trip r
  stop_row_made trip r at =
      let m = made nat_cmp nat_cmp_total (λ s. s.stop_sequence) (stop_row_in d) (rows_of d file.StopTimes trip) r at in
      record { row = m.row; names = names_trip d file.StopTimes trip m.row m.among; same = m.same }

  pub record IsPeriod (q : List ℕ) (p : Frequency) : Type 0 where
    pub row : ℕ
    pub names : NamesTrip d file.Frequencies q row
    pub same : frequency_in d row ≡ p

  pub period_made : (trip : List ℕ) (p : Frequency) → Contains (by_key nat_cmp (λ s. s.start_time) (map (frequency_in d) (rows_of d file.Frequencies trip))) p → IsPeriod trip p
  period_made trip p at =
      let m = made nat_cmp nat_cmp_total (λ s. s.start_time) (frequency_in d) (rows_of d file.Frequencies trip) p at in
      record { row = m.row; names = names_trip d file.Frequencies trip m.row m.among; same = m.same }

  pub stop_time_made : (p : List ℕ × StopRow) → Contains (stop_times_of (content_of d)) p → IsStopTime p.0 p.1
  stop_time_made p at =
      let held = held_member (λ t. t.trip_id) (λ t. t.stop_rows) (content_of d).trips p at in
      let m = trip_made held.row held.there in
      let own : Contains (trip_in d m.row).stop_rows p.1 = subst (λ (t : Trip). Contains t.stop_rows p.1) (sym m.same) held.has_it in
      let named : (trip_in d m.row).trip_id ≡ p.0 = ap (λ t. t.trip_id) m.same ∙ sym held.named in
      subst (λ q. IsStopTime q p.1) named (stop_row_made (text_at d file.Trips m.row "trip_id") p.1 own)

  pub frequency_made : (p : List ℕ × Frequency) → Contains (frequencies_of (content_of d)) p → IsPeriod p.0 p.1
  frequency_made p at =
      let held = held_member (λ t. t.trip_id) (λ t. t.frequencies) (content_of d).trips p at in
      let m = trip_made held.row held.there in
      let own : Contains (trip_in d m.row).frequencies p.1 = subst (λ (t : Trip). Contains t.frequencies p.1) (sym m.same) held.has_it in
      let named : (trip_in d m.row).trip_id ≡ p.0 = ap (λ t. t.trip_id) m.same ∙ sym held.named in
      subst (λ q. IsPeriod q p.1) named (period_made (text_at d file.Trips m.row "trip_id") p.1 own)

  -- ---- services

  pub record IsService (s : ServiceRow) : Type 0 where
    pub id : List ℕ
    pub among : Contains (services_named d) id
    pub same : service_row_in d id ≡ s

  pub service_made : (s : ServiceRow) → Contains (content_of d).services s → IsService s
  service_made s at =
      let from = contains-from_map (service_row_in d) (services_named d) s (by_key_member text_cmp nat_list_cmp_total (λ r. r.service_id) (map (service_row_in d) (services_named d)) s at) in
      record { id = from.0; among = from.1.0; same = from.1.1 }

  pub record IsWeekRow (q : List ℕ) (w : Week) : Type 0 where
    pub row : ℕ
    pub names : NamesService d file.Calendar q row
    pub same : week_in d row ≡ w

  week_from : (q : List ℕ) (o : Option ℕ) (w : Week) → first_service_row d file.Calendar q ≡ o → Contains (week_list (option_map (week_in d) o)) w → IsWeekRow q w
  week_from q None w e at = absurd (contains-none w at)
  week_from q (Some m) w e at =
      let found = found_is (λ n. is_word (word_in d file.Calendar n "service_id") q) (rows d file.Calendar) m e in
      record {
        row = m;
        names = record { row = row_of d file.Calendar m found.among; among = found.among; named = is_word_some (word_in d file.Calendar m "service_id") q found.passes };
        same = elim (contains-cases w (week_in d m) [] at) [ inl here ↦ here | inr later ↦ absurd (contains-none w later) ];
      }

  pub week_made : (p : List ℕ × Week) → Contains (weeks_of (content_of d)) p → IsWeekRow p.0 p.1
  week_made p at =
      let held = held_member (λ s. s.service_id) (λ s. week_list s.service.week) (content_of d).services p at in
      let m = service_made held.row held.there in
      let own : Contains (week_list (option_map (week_in d) (first_service_row d file.Calendar m.id))) p.1 = subst (λ (s : ServiceRow). Contains (week_list s.service.week) p.1) (sym m.same) held.has_it in
      let named : m.id ≡ p.0 = ap (λ s. s.service_id) m.same ∙ sym held.named in
      subst (λ q. IsWeekRow q p.1) named (week_from m.id (first_service_row d file.Calendar m.id) p.1 refl own)

  pub record IsExceptionRow (q : List ℕ) (e : ℤ × Exception) : Type 0 where
    pub row : ℕ
    pub names : NamesService d file.CalendarDates q row
    pub same : exception_in d row ≡ e

  exception_from : (q : List ℕ) (e : ℤ × Exception) → Contains (by_key int_cmp (λ x. x.0) (map (exception_in d) (service_rows d file.CalendarDates q))) e → IsExceptionRow q e
  exception_from q e at =
      let m = made int_cmp int_cmp_total (λ x. x.0) (exception_in d) (service_rows d file.CalendarDates q) e at in
      let from = contains-from_filter (λ k. is_word (word_in d file.CalendarDates k "service_id") q) (rows d file.CalendarDates) m.row m.among in
      record {
        row = m.row;
        names = record { row = row_of d file.CalendarDates m.row from.0; among = from.0; named = is_word_some (word_in d file.CalendarDates m.row "service_id") q from.1 };
        same = m.same;
      }

  pub exception_made : (p : List ℕ × (ℤ × Exception)) → Contains (exceptions_of (content_of d)) p → IsExceptionRow p.0 p.1
  exception_made p at =
      let held = held_member (λ s. s.service_id) (λ s. s.service.exceptions) (content_of d).services p at in
      let m = service_made held.row held.there in
      let own : Contains (by_key int_cmp (λ x. x.0) (map (exception_in d) (service_rows d file.CalendarDates m.id))) p.1 = subst (λ (s : ServiceRow). Contains s.service.exceptions p.1) (sym m.same) held.has_it in
      let named : m.id ≡ p.0 = ap (λ s. s.service_id) m.same ∙ sym held.named in
      subst (λ q. IsExceptionRow q p.1) named (exception_from m.id p.1 own)

-- ---- their order

-- the content of any dataset stands in order
pub content_in_order : (d : Dataset) → IsInOrder (content_of d)
content_in_order d = record {
  agencies = by_key_ascends text_cmp nat_list_cmp_total (λ a. a.agency_id) (map (agency_in d) (rows d file.Agency));
  stops = by_key_ascends text_cmp nat_list_cmp_total (λ s. s.stop_id) (map (stop_in d) (rows d file.Stops));
  routes = by_key_ascends text_cmp nat_list_cmp_total (λ r. r.route_id) (map (route_in d) (rows d file.Routes));
  services = by_key_ascends text_cmp nat_list_cmp_total (λ s. s.service_id) (map (service_row_in d) (services_named d));
  trips = by_key_ascends text_cmp nat_list_cmp_total (λ t. t.trip_id) (map (trip_in d) (rows d file.Trips));
  transfers = by_key_ascends transfer_key_cmp transfer_total transfer_key (map (transfer_in d) (rows d file.Transfers));
  stop_rows = λ k t within.
      let m = trip_made d (get_or (content_of d).trips k t) (Contains-get_or (content_of d).trips k t within) in
      subst (λ (u : Trip). Ascends (on (λ r. r.stop_sequence) nat_cmp) u.stop_rows) m.same
      (by_key_ascends nat_cmp nat_cmp_total (λ r. r.stop_sequence) (map (stop_row_in d) (rows_of d file.StopTimes (text_at d file.Trips m.row "trip_id"))));
  frequencies = λ k t within.
      let m = trip_made d (get_or (content_of d).trips k t) (Contains-get_or (content_of d).trips k t within) in
      subst (λ (u : Trip). Ascends (on (λ p. p.start_time) nat_cmp) u.frequencies) m.same
      (by_key_ascends nat_cmp nat_cmp_total (λ p. p.start_time) (map (frequency_in d) (rows_of d file.Frequencies (text_at d file.Trips m.row "trip_id"))));
  exceptions = λ k s within.
      let m = service_made d (get_or (content_of d).services k s) (Contains-get_or (content_of d).services k s within) in
      subst (λ (u : ServiceRow). Ascends (on (λ e. e.0) int_cmp) u.service.exceptions) m.same
      (by_key_ascends int_cmp int_cmp_total (λ e. e.0) (map (exception_in d) (service_rows d file.CalendarDates m.id)));
}
