-- What the content of sound parts says of a trip, by the rows and the numbers that the code reads.
use Rattle.std.proofs.Common.{◌≡◌, ◌+◌, ◌<◌, ◌∙◌, ℕ, suc, Bool, true, false, cond, List, [], ◌∷◌, length, map, filter, get_or, refl, sym, ap, arith, ◌&&◌}
use Rattle.std.specs.Prelude.{◌==◌, bytes_eq, unwrap_or}
use Rattle.std.specs.List.{All, enumerate_from, list_any}
use Rattle.std.proofs.lemmas.Bool.Decides.{nat_tests}
use Rattle.std.proofs.lemmas.List.{get_or-map, length-map}
use Rattle.std.proofs.lemmas.List.Elements.{All-head, All-tail}
use Rattle.std.proofs.lemmas.Simd.{map-map}
use Rattle.gtfs_field.proofs.ListFacts.{any_mapped, some_of}
use Rattle.gtfs_rows.specs.Rows as content
use Rattle.gtfs_rows.specs.declared.frequency.Frequency.{Frequency}
use Rattle.gtfs_rows.specs.declared.parts.Parts.{Parts}
use Rattle.gtfs_rows.specs.declared.service.ServiceRow.{ServiceRow}
use Rattle.gtfs_rows.specs.declared.stop.Stop.{Stop}
use Rattle.gtfs_stop_times.specs.declared.stop_row.StopRow.{StopRow}
use Rattle.gtfs_rows.specs.declared.trip.Trip.{Trip}
use Rattle.gtfs_rows.specs.RowsInMemory.{IsSoundParts, content_of_parts, frequency_of, service_ids, stop_ids, stop_of, stop_row_of, text_of_number, trip_of}
use Rattle.gtfs_stop_times.specs.RowTimes.{left_at}
use Rattle.gtfs_rows.proofs.SoundOrder.{in_order}
use Rattle.gtfs_runs.specs.Lanes.{departure_rows}
use Rattle.gtfs_rows.specs.Places.{is_in_place, members}
use Rattle.gtfs_rows.specs.Runs.{is_departure_row, is_run, starts_run, trip_start}
use Rattle.gtfs_runs.proofs.PlaceFacts.{id_at, same_number}

-- ---- lists

enumerate-map : {X Y : Type 0} (f : X → Y) (a : ℕ) (xs : List X) → enumerate_from a (map f xs) ≡ map (λ x. (x.0, f x.1)) (enumerate_from a xs)
enumerate-map f a [] = refl
enumerate-map f a (x ∷ xs) = ap (λ ys. (a, f x) ∷ ys) (enumerate-map f (a + 1) xs)

filter-map : {X Y : Type 0} (q : Y → Bool) (f : X → Y) (xs : List X) → filter q (map f xs) ≡ map f (filter (λ x. q (f x)) xs)
filter-map q f [] = refl
filter-map q f (x ∷ xs) = elim (q (f x)) as (λ b. cond b (f x ∷ filter q (map f xs)) (filter q (map f xs)) ≡ map f (cond b (x ∷ filter (λ y. q (f y)) xs) (filter (λ y. q (f y)) xs))) [
  | true ↦ ap (λ ys. f x ∷ ys) (filter-map q f xs)
  | false ↦ filter-map q f xs
]

-- two tests that say the same of each row that passes a third
same_filter : {X : Type 0} (P : X → Type 0) (q r : ℕ × X → Bool) (a : ℕ) (xs : List X) → All P xs → ((n : ℕ) (x : X) → P x → q (n, x) ≡ r (n, x))
    → filter q (enumerate_from a xs) ≡ filter r (enumerate_from a xs)
same_filter P q r a [] all same = refl
same_filter P q r a (x ∷ xs) all same =
    λ i. cond (same a x (All-head P x xs all) i) ((a, x) ∷ same_filter P q r (a + 1) xs (All-tail P x xs all) same i) (same_filter P q r (a + 1) xs (All-tail P x xs all) same i)

module _ (p : Parts) where
  -- ---- the place of a stop

  pub members_length : (id : List ℕ) → length (members (content_of_parts p) id) ≡ length p.stops
  members_length id = length-map (map (stop_of p) p.stops) (λ stop. is_in_place (content_of_parts p) id stop.stop_id) ∙ length-map p.stops (stop_of p)

  -- the flag of a number
  pub flag_at : (s n : ℕ) → n < length p.stops
      → get_or (members (content_of_parts p) (text_of_number (stop_ids p) s)) n false ≡ is_in_place (content_of_parts p) (text_of_number (stop_ids p) s) (text_of_number (stop_ids p) n)
  flag_at s n within =
      let c = content_of_parts p in
      let id = text_of_number (stop_ids p) s in
      let d : Stop = some_of p.stops n within in
      ap (λ l. get_or l n false) (map-map (λ stop. is_in_place c id stop.stop_id) (stop_of p) p.stops)
      ∙ get_or-map (λ stop. is_in_place c id stop.stop_id) p.stops n d false within
      ∙ ap (is_in_place c id) (sym (id_at p d n within))

  -- ---- departure rows

  -- a stop time is one of riders who leave the place, by the flags of the place
  abbrev pub leaves_place : ℕ → Trip → List StopRow → List Frequency → ℕ × StopRow → Bool
  leaves_place s row rs fs x =
      is_departure_row (trip_of p row rs fs) (stop_row_of p x.1) && get_or (members (content_of_parts p) (text_of_number (stop_ids p) s)) x.1.stop_id.0 false

  -- the departure rows of the content are those of the stop times
  pub departure_rows_are : (s : ℕ) (row : Trip) (rs : List StopRow) (fs : List Frequency) → All (λ r. r.stop_id.0 < length p.stops) rs
      → departure_rows (content_of_parts p) (text_of_number (stop_ids p) s) (trip_of p row rs fs)
      ≡ map (λ x. (x.0, stop_row_of p x.1)) (filter (leaves_place s row rs fs) (enumerate_from 0 rs))
  departure_rows_are s row rs fs known =
      let c = content_of_parts p in
      let id = text_of_number (stop_ids p) s in
      let t = trip_of p row rs fs in
      let f : ℕ × StopRow → ℕ × content.StopRow = λ x. (x.0, stop_row_of p x.1) in
      let test : ℕ × content.StopRow → Bool = λ x. is_departure_row t x.1 && is_in_place c id x.1.stop_id in
      ap (filter test) (enumerate-map (stop_row_of p) 0 rs)
      ∙ filter-map test f (enumerate_from 0 rs)
      ∙ ap (map f) (same_filter (λ r. r.stop_id.0 < length p.stops) (λ x. test (f x)) (leaves_place s row rs fs) 0 rs known
      (λ n x h. ap (λ b. is_departure_row t (stop_row_of p x) && b) (sym (flag_at s x.stop_id.0 h))))

  -- ---- runs

  -- when the vehicle of a stop time leaves, 0 where there is no time
  abbrev pub left : StopRow → ℕ
  left r = unwrap_or (left_at r) 0

  pub start_is : (row : Trip) (rs : List StopRow) (fs : List Frequency) (d : StopRow) → 0 < length rs → trip_start (trip_of p row rs fs) ≡ left (get_or rs 0 d)
  start_is row [] fs d filled = absurd (omega arith)
  start_is row (r ∷ rs) fs d filled = refl

  -- a trip without stop times has no run
  pub no_run : (row : Trip) (fs : List Frequency) (run : ℕ) → is_run (trip_of p row [] fs) run ≡ false
  no_run row fs run = refl

  -- a trip without frequencies has one, at its first departure
  pub own_run : (row : Trip) (rs : List StopRow) (d : StopRow) (run : ℕ) → 0 < length rs → is_run (trip_of p row rs []) run ≡ (run == left (get_or rs 0 d))
  own_run row [] d run filled = absurd (omega arith)
  own_run row (r ∷ rs) d run filled = let some : (suc (length (map (stop_row_of p) rs)) == 0) ≡ false = grind (arith, nat_tests) in rw some refl

  -- a trip with frequencies has those that they start
  pub period_run : (row : Trip) (rs : List StopRow) (fs : List Frequency) (run : ℕ) → 0 < length rs → 0 < length fs
      → is_run (trip_of p row rs fs) run ≡ list_any (λ f. starts_run (frequency_of f) run) fs
  period_run row [] fs run filled periodic = absurd (omega arith)
  period_run row (r ∷ rs) [] run filled periodic = absurd (omega arith)
  period_run row (r ∷ rs) (f ∷ fs) run filled periodic =
      let some : (suc (length (map (stop_row_of p) rs)) == 0) ≡ false = grind (arith, nat_tests) in
      let more : (suc (length (map frequency_of fs)) == 0) ≡ false = grind (arith, nat_tests) in
      rw (some, more) (any_mapped (λ g. starts_run g run) frequency_of (f ∷ fs))

module _ (p : Parts) (sound : IsSoundParts p) where
  -- the ids of services are the same where their numbers are
  pub same_service : (m n : ℕ) → m < length p.services → n < length p.services → bytes_eq (text_of_number (service_ids p) m) (text_of_number (service_ids p) n) ≡ (m == n)
  same_service m n a b =
      let d : ServiceRow = some_of p.services m a in
      (λ i. bytes_eq (get_or-map (λ s. s.service_id) p.services m d [] a i) (get_or-map (λ s. s.service_id) p.services n d [] b i))
      ∙ same_number (λ s. s.service_id) p.services m n d (in_order p sound).services a b
