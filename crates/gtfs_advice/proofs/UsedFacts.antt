-- Which services have trips, by their numbers, and what is told of those without.
use Rattle.std.proofs.Common.{◌≡◌, ◌∙◌, ◌+◌, ◌<◌, ◌≤◌, ◌++◌, ℕ, zero, suc, Bool, true, false, not, cond, List, [], ◌∷◌, Option, Some, None, length, get_or, map, take, refl, sym, ap, subst, arith}
use Rattle.std.specs.Prelude.{◌==◌, ◌&&◌, ◌||◌, bytes_eq, filter, if◌then◌else◌, nat_eq, nat_lt, option_map}
use Rattle.std.specs.Option.{option_eq}
use Rattle.std.specs.List.{list_all, list_any, slice_get, slice_set, zip}
use Rattle.std.specs.declared.cmp.Ordering.TheVariants.{Less}
use Rattle.std.proofs.lemmas.Bool.{and_parts, and_right}
use Rattle.std.proofs.lemmas.List.{length-map}
use Rattle.std.proofs.lemmas.Option.{get_or_from_slice_get, same_Some, slice_get_within}
use Rattle.std.proofs.Math.Bool.{and-true}
use Rattle.gtfs_field.specs.TextOrder.{text_cmp}
use Rattle.gtfs_field.proofs.ListFacts.{any_alike, mapped_at}
use Rattle.gtfs_table.proofs.PartFacts.{length-parts}
use Rattle.gtfs_rows.specs.declared.frequency.Frequency.{Frequency}
use Rattle.gtfs_rows.specs.declared.parts.Parts.{Parts}
use Rattle.gtfs_rows.specs.declared.service.ServiceRow.{ServiceRow as ServiceByNumber}
use Rattle.gtfs_rows.specs.declared.trip.Trip.{Trip as TripRow}
use Rattle.gtfs_stop_times.specs.declared.stop_row.StopRow.{StopRow}
use Rattle.gtfs_rows.specs.NamedRows.{is_number_within, text_of_number}
use Rattle.gtfs_rows.specs.TransferOrder.{Ascends}
use Rattle.gtfs_rows.specs.Rows.{ServiceRow, Trip}
use Rattle.gtfs_rows.specs.Trips.{frequencies_by_trip, stop_rows_by_trip}
use Rattle.gtfs_rows.specs.RowsInMemory.{IsSoundParts, content_of_parts, service_ids, service_of, stop_row_of, trip_names_rows, trip_of, trips_of}
use Rattle.gtfs_rows.proofs.SameElements.{pairs-map}
use Rattle.gtfs_rows.proofs.SoundOrder.{in_order}
use Rattle.gtfs_advice.specs.declared.advice.Advice.{Advice}
use Rattle.gtfs_advice.specs.declared.advice.Subject.TheVariants as subject
use Rattle.gtfs_advice.specs.declared.code.Code.{Code}
use Rattle.gtfs_advice.specs.Advice.{AdviceRule, Tells, advice_on, row, said, told_about}
use Rattle.gtfs_advice.specs.Services.{has_no_trip}
use Rattle.gtfs_advice.specs.UsedServices.{AreServiceMarks, is_trip_of, stands_under}
use Rattle.gtfs_advice.proofs.Marking.{AreMarksSoFar, all-marked, named, none-more, one-marked}
use Rattle.gtfs_advice.proofs.Telling.{told-more}

-- a row of trips.txt with its stop times
abbrev pub Called : Type 0
Called = TripRow × List StopRow

-- the number of its service, if it counts
abbrev pub service_number : Bool → Called → Option ℕ
service_number with_calls t = if not (with_calls && (length t.1 == 0)) then Some t.0.service_id.0 else None

abbrev pub called_trips : Parts → List Called
called_trips p = zip p.trips (stop_rows_by_trip p)

pub called_at : (ts : List TripRow) (rs : List (List StopRow)) (n : ℕ) (t : TripRow) (r : List StopRow) → slice_get ts n ≡ Some t → slice_get rs n ≡ Some r → slice_get (zip ts rs) n ≡ Some (t, r)
called_at [] rs n t r a b = cc
called_at (u ∷ ts) [] n t r a b = cc
called_at (u ∷ ts) (v ∷ rs) zero t r a b = λ i. Some (same_Some u t a i, same_Some v r b i)
called_at (u ∷ ts) (v ∷ rs) (suc n) t r a b = called_at ts rs n t r a b

-- ---- a service has a trip by its number where it has one by its id

-- a test of trips is one of their rows
any_called : (p : Parts) (test : Trip → Bool) (of_called : Called → Bool) → ((t : TripRow) (r : List StopRow) (f : List Frequency) → of_called (t, r) ≡ test (trip_of p t r f))
    → (ts : List TripRow) (rs : List (List StopRow)) (fs : List (List Frequency)) → length rs ≡ length ts → length fs ≡ length ts → list_any of_called (zip ts rs) ≡ list_any test (trips_of p ts rs fs)
any_called p test of_called same [] rs fs e g = refl
any_called p test of_called same (t ∷ ts) [] fs e g = absurd (omega arith)
any_called p test of_called same (t ∷ ts) (r ∷ rs) [] e g = absurd (omega arith)
any_called p test of_called same (t ∷ ts) (r ∷ rs) (f ∷ fs) e g =
    let later = any_called p test of_called same ts rs fs (omega arith) (omega arith) in
    λ i. same t r f i || later i

counted : (counts : Bool) (t s : List ℕ) (f : ℕ → List ℕ) (n : ℕ) → f n ≡ t → option_eq bytes_eq (option_map f (cond counts (Some n) None)) (Some s) ≡ (bytes_eq t s && counts)
counted true t s f n is = ap (λ u. bytes_eq u s) is ∙ sym (and-true (bytes_eq t s))
counted false t s f n is = sym (and_right (bytes_eq t s) false refl)

within_if : (m : ℕ) (counts : Bool) (n : ℕ) → nat_lt n m ≡ true → is_number_within m (cond counts (Some n) None) ≡ true
within_if m true n h = h
within_if m false n h = refl

called_within : (p : Parts) (with_calls : Bool) (m : ℕ) → length p.services ≡ m → (ts : List TripRow) (rs : List (List StopRow)) → list_all (trip_names_rows p) ts ≡ true
    → list_all (λ t. is_number_within m (service_number with_calls t)) (zip ts rs) ≡ true
called_within p with_calls m same [] rs all = refl
called_within p with_calls m same (t ∷ ts) [] all = refl
called_within p with_calls m same (t ∷ ts) (r ∷ rs) all =
    let parts = and_parts (trip_names_rows p t) (list_all (trip_names_rows p) ts) all in
    let number = (and_parts (nat_lt t.route_id.0 (length p.routes)) (nat_lt t.service_id.0 (length p.services)) parts.0).1 in
    let here = within_if m (not (with_calls && (length r == 0))) t.service_id.0 (subst (λ k. nat_lt t.service_id.0 k ≡ true) same number) in
    let later = called_within p with_calls m same ts rs parts.1 in
    λ i. here i && later i

module _ (p : Parts) (sound : IsSoundParts p) where
  ascend : Ascends text_cmp (service_ids p)
  ascend = pairs-map (λ s. s.service_id) (λ a b. text_cmp a b ≡ Less) p.services (in_order p sound).services

  count : length (service_ids p) ≡ length p.services
  count = length-map p.services (λ s. s.service_id)

  rows_count : length (stop_rows_by_trip p) ≡ length p.trips
  rows_count = length-parts p.stop_times.starts p.stop_times.rows ∙ sound.stop_rows.0

  by_number : (with_calls : Bool) (k : ℕ) → k < length p.services
      → list_any (λ t. option_eq nat_eq (service_number with_calls t) (Some k)) (called_trips p) ≡ list_any (is_trip_of with_calls (text_of_number (service_ids p) k)) (content_of_parts p).trips
  by_number with_calls k within =
      let id = text_of_number (service_ids p) k in
      named (service_number with_calls) (service_ids p) ascend (called_trips p)
      (called_within p with_calls (length (service_ids p)) (sym count) p.trips (stop_rows_by_trip p) sound.names_rows.trips) k (omega (arith, count, within))
      ∙ any_called p (is_trip_of with_calls id) (λ t. option_eq bytes_eq (option_map (text_of_number (service_ids p)) (service_number with_calls t)) (Some id))
      (λ t r f. counted (not (with_calls && (length r == 0))) (text_of_number (service_ids p) t.service_id.0) id (text_of_number (service_ids p)) t.service_id.0 refl
      ∙ ap (λ n. bytes_eq (text_of_number (service_ids p) t.service_id.0) id && not (with_calls && (n == 0))) (sym (length-map r (stop_row_of p))))
      p.trips (stop_rows_by_trip p) (frequencies_by_trip p) rows_count (length-parts p.frequency_starts p.frequencies ∙ sound.frequencies.0)

  pub all_marked : (with_calls : Bool) (n : ℕ) (marks : List Bool) → length p.trips ≤ n → AreMarksSoFar (service_number with_calls) (λ k. false) (length p.services) (called_trips p) n marks → AreServiceMarks p with_calls marks
  all_marked with_calls n marks all so_far =
      let are = all-marked (service_number with_calls) (λ k. false) (length p.services) (called_trips p) n marks (omega (arith, all, zip_short p.trips (stop_rows_by_trip p))) so_far in
      record { count = are.count; at = λ k within. are.at k within ∙ by_number with_calls k within }
    where
      zip_short : {A B : Type 0} (xs : List A) (ys : List B) → length (zip xs ys) ≤ length xs
      zip_short [] ys = omega arith
      zip_short (x ∷ xs) [] = omega arith
      zip_short (x ∷ xs) (y ∷ ys) = let rest = zip_short xs ys in omega (arith, rest)

  -- ---- from one trip to the next

  module _ (with_calls : Bool) (n : ℕ) (t : TripRow) (r : List StopRow) (at : slice_get p.trips n ≡ Some t) (at_rows : slice_get (stop_rows_by_trip p) n ≡ Some r) (before after : List Bool)
      (so_far : AreMarksSoFar (service_number with_calls) (λ k. false) (length p.services) (called_trips p) n before) where
    there_called : slice_get (called_trips p) n ≡ Some (t, r)
    there_called = called_at p.trips (stop_rows_by_trip p) n t r at at_rows

    pub marked_more : not (with_calls && (length r == 0)) ≡ true → after ≡ slice_set before t.service_id.0 true
        → AreMarksSoFar (service_number with_calls) (λ k. false) (length p.services) (called_trips p) (n + 1) after
    marked_more counts set =
        one-marked (service_number with_calls) (λ k. false) (length p.services) (called_trips p) n (t, r) t.service_id.0 before after there_called
        (ap (λ (b : Bool). let o : Option ℕ = if b then Some t.service_id.0 else None in o) counts) set so_far

    pub unmarked_more : not (with_calls && (length r == 0)) ≡ false → after ≡ before
        → AreMarksSoFar (service_number with_calls) (λ k. false) (length p.services) (called_trips p) (n + 1) after
    unmarked_more skips same =
        none-more (service_number with_calls) (λ k. false) (length p.services) (called_trips p) n (t, r) before after there_called
        (ap (λ (b : Bool). let o : Option ℕ = if b then Some t.service_id.0 else None in o) skips) same so_far

  -- ---- what is told of a service

  module _ (n : ℕ) (s : ServiceByNumber) (there : slice_get p.services n ≡ Some s) where
    within : n < length p.services
    within = slice_get_within p.services n s there

    id : text_of_number (service_ids p) n ≡ s.service_id
    id = get_or_from_slice_get (service_ids p) n s.service_id _ (mapped_at (λ x. x.service_id) p.services n s there)

    -- its mark says whether it has a trip
    pub marked : (with_calls : Bool) (marks : List Bool) → AreServiceMarks p with_calls marks → get_or marks n false ≡ list_any (is_trip_of with_calls s.service_id) (content_of_parts p).trips
    marked with_calls marks are = are.at n within ∙ ap (λ t. list_any (is_trip_of with_calls t) (content_of_parts p).trips) id

    no_trip : (marks : List Bool) → AreServiceMarks p false marks → has_no_trip (content_of_parts p) (service_of s) ≡ not (get_or marks n false)
    no_trip marks are =
        ap not (any_alike (λ t. bytes_eq t.service_id s.service_id) (is_trip_of false s.service_id) (content_of_parts p).trips (λ t. sym (and-true (bytes_eq t.service_id s.service_id)))
        ∙ sym (marked false marks are))

    pub told : (marks : List Bool) → AreServiceMarks p false marks → (code : Code) (in_calendar holds : Bool) → holds ≡ (stands_under in_calendar (service_of s) && not (get_or marks n false))
        → (old before after : List Advice) → after ≡ before ++ said (subject.Service (record { 0 = n })) ((code, holds) ∷ [])
        → let c = content_of_parts p in Tells p (advice_on (λ x. x.service_id) ((code, λ x. stands_under in_calendar x && has_no_trip c x) ∷ []) (take n c.services)) old before
        → Tells p (advice_on (λ x. x.service_id) ((code, λ x. stands_under in_calendar x && has_no_trip c x) ∷ []) (take (n + 1) c.services)) old after
    told marks are code in_calendar holds is old before after behind so_far =
        let c = content_of_parts p in
        let answer : holds ≡ (stands_under in_calendar (service_of s) && has_no_trip c (service_of s)) = is ∙ ap (λ b. stands_under in_calendar (service_of s) && b) (sym (no_trip marks are)) in
        told-more p (λ x. x.service_id) ((code, λ x. stands_under in_calendar x && has_no_trip c x) ∷ []) c.services n (service_of s) (subject.Service (record { 0 = n })) ((code, holds) ∷ [])
        old before after (mapped_at service_of p.services n s there) (ap row id) within (ap (λ b. (code, b) ∷ []) answer) behind so_far

-- a rule of rows that pass a test is a rule of these rows alone
pub of_those : (code : Code) (stands holds : ServiceRow → Bool) (xs : List ServiceRow)
    → advice_on (λ s. s.service_id) ((code, λ s. stands s && holds s) ∷ []) xs ≡ advice_on (λ s. s.service_id) ((code, holds) ∷ []) (filter stands xs)
of_those code stands holds [] = refl
of_those code stands holds (x ∷ xs) = by (stands x) (of_those code stands holds xs)
  where
    by_holds : (b : Bool) → advice_on (λ s. s.service_id) ((code, λ s. stands s && holds s) ∷ []) xs ≡ advice_on (λ s. s.service_id) ((code, holds) ∷ []) (filter stands xs)
        → told_about (row x.service_id) (map (λ (r : AdviceRule ServiceRow). r.0) (cond b ((code, λ s. stands s && holds s) ∷ []) [])) ++ advice_on (λ s. s.service_id) ((code, λ s. stands s && holds s) ∷ []) xs
        ≡ told_about (row x.service_id) (map (λ (r : AdviceRule ServiceRow). r.0) (cond b ((code, holds) ∷ []) [])) ++ advice_on (λ s. s.service_id) ((code, holds) ∷ []) (filter stands xs)
    by_holds true rest = ap (λ l. (code, row x.service_id) ∷ l) rest
    by_holds false rest = rest

    by : (b : Bool) → advice_on (λ s. s.service_id) ((code, λ s. stands s && holds s) ∷ []) xs ≡ advice_on (λ s. s.service_id) ((code, holds) ∷ []) (filter stands xs)
        → told_about (row x.service_id) (map (λ (r : AdviceRule ServiceRow). r.0) (cond (b && holds x) ((code, λ s. stands s && holds s) ∷ []) [])) ++ advice_on (λ s. s.service_id) ((code, λ s. stands s && holds s) ∷ []) xs
        ≡ advice_on (λ s. s.service_id) ((code, holds) ∷ []) (cond b (x ∷ filter stands xs) (filter stands xs))
    by true rest = by_holds (holds x) rest
    by false rest = rest
