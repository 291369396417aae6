-- Departures of a feed in a content that holds its rows under new names.
use Rattle.std.proofs.Common.{◌≡◌, ℕ, suc, ℤ, pos, ◌+ℤ◌, ◌-◌, ◌+◌, Bool, true, false, not, List, [], ◌∷◌, Some, refl, sym, ap, ◌∙◌, map, bytes_eq, option_map, length, int_eq, unwrap_or}
use Rattle.std.specs.Prelude.{◌&&◌, ◌==◌, nat_lt, if◌then◌else◌}
use Rattle.std.specs.List.{list_any}
use Rattle.std.proofs.lemmas.Bool.{and_parts, and_from}
use Rattle.gtfs_field.proofs.ListFacts.{any_mapped as list_any-map}
use Rattle.gtfs_rows.specs.Rows.{ServiceRow, StopRow, Trip}
use Rattle.gtfs_rows.specs.Content.{Content}
use Rattle.gtfs_rows.specs.Key.{Key}
use Rattle.gtfs_days.specs.Service.{is_active}
use Rattle.gtfs_rows.specs.Runs.{is_run, is_departure_row, passes_at, first_leaves, trip_start, starts_run, is_timed, allows_boarding}
use Rattle.gtfs_rows.specs.SoundContent.{leaves}
use Rattle.gtfs_rows.specs.Departures.{Origins, departs_from, runs_on}
use Rattle.gtfs_rows.proofs.Members.{In}
use Rattle.gtfs_merge.specs.Renaming.{Names, Renaming, lists_id, ids, trip_with, stop_row_with}
use Rattle.gtfs_merge.specs.Merged.{service_with}
use Rattle.gtfs_merge.specs.DeparturesOfBoth.{key_with}
use Rattle.gtfs_merge.specs.declared.kind.Kind.TheVariants as kind
use Rattle.gtfs_merge.proofs.Lookups.{list_any-In, In-list_any, list_any-alike, holds_at, holds_at-map, holds_at-Some, look, IsKeyed}
use Rattle.gtfs_merge.proofs.MergedRows.{found, found_id, has_found}

abbrev pub trip_id_of : Trip → List ℕ
trip_id_of t = t.trip_id

abbrev pub service_id_of : ServiceRow → List ℕ
service_id_of s = s.service_id

-- each id of a trip or a service names one row
pub record HasKeys (f : Content) : Type 0 where
  pub trips : IsKeyed trip_id_of f.trips
  pub services : IsKeyed service_id_of f.services

-- each trip's service is there
abbrev pub NamesServices : Content → Type 0
NamesServices f = (t : Trip) → In t f.trips → lists_id (ids kind.Service f) t.service_id ≡ true

abbrev pub trip_by : Names → Trip → Trip
trip_by n t = trip_with n.trip n.route n.service n.stop t

-- m has each trip and each service of f under its new name
pub record IsCarried (m f : Content) (n : Names) : Type 0 where
  pub trips : (x : List ℕ) → lists_id (ids kind.Trip f) x ≡ true → look trip_id_of m.trips (n.trip x) ≡ option_map (trip_by n) (look trip_id_of f.trips x)
  pub services : (x : List ℕ) → lists_id (ids kind.Service f) x ≡ true → look service_id_of m.services (n.service x) ≡ option_map (service_with n.service) (look service_id_of f.services x)

-- ---- a trip whose ids are renamed

and_four : (a b c d : Bool) → (a && b && c && d) ≡ (a && (b && c && d))
and_four true b c d = refl
and_four false b c d = refl

length-map_rows : {X Y : Type 0} (h : X → Y) (xs : List X) → length (map h xs) ≡ length xs
length-map_rows h [] = refl
length-map_rows h (x ∷ xs) = ap suc (length-map_rows h xs)

first_leaves-map : (stop : Renaming) (rows : List StopRow) → first_leaves (map (stop_row_with stop) rows) ≡ first_leaves rows
first_leaves-map stop [] = refl
first_leaves-map stop (r ∷ rs) = refl

-- the row's part of the test of a key
abbrev row_test : Origins → (StopRow → Bool) → Key → Trip → StopRow → Bool
row_test origin test k t row = (row.stop_sequence == k.sequence) && is_departure_row t row && test row && int_eq k.instant (origin k.day +ℤ pos (passes_at t k.run row))

abbrev trip_test : Content → Origins → (StopRow → Bool) → Key → Trip → Bool
trip_test f origin test k t = runs_on f t k.day && is_run t k.run && list_any (row_test origin test k t) t.stop_rows

pub departs-look : (f : Content) → IsKeyed trip_id_of f.trips → (origin : Origins) (test : StopRow → Bool) (k : Key) → departs_from f origin test k ≡ holds_at (look trip_id_of f.trips k.trip) (trip_test f origin test k)
departs-look f keyed origin test k =
    list_any-alike _ (λ t. bytes_eq t.trip_id k.trip && trip_test f origin test k t) f.trips (λ t i. and_four (bytes_eq t.trip_id k.trip) (runs_on f t k.day) (is_run t k.run) (list_any (row_test origin test k t) t.stop_rows))
    ∙ keyed k.trip (trip_test f origin test k)

module _ (n : Names) (t : Trip) where
  start-same : trip_start (trip_by n t) ≡ trip_start t
  start-same = ap (λ o. unwrap_or o 0) (first_leaves-map n.stop t.stop_rows)

  run-same : (r : ℕ) → is_run (trip_by n t) r ≡ is_run t r
  run-same r = λ i. not (length-map_rows (stop_row_with n.stop) t.stop_rows i == 0)
      && (if length t.frequencies == 0 then r == start-same i else list_any (λ f. starts_run f r) t.frequencies)

  row-same : (origin : Origins) (test : StopRow → Bool) (k : Key) (row : StopRow) → row_test origin test (key_with n.trip k) (trip_by n t) (stop_row_with n.stop row) ≡ row_test origin (λ r. test (stop_row_with n.stop r)) k t row
  row-same origin test k row = λ i. (row.stop_sequence == k.sequence)
      && (is_timed row && list_any-map (λ other. nat_lt row.stop_sequence other.stop_sequence) (stop_row_with n.stop) t.stop_rows i && allows_boarding row)
      && test (stop_row_with n.stop row) && int_eq k.instant (origin k.day +ℤ pos (k.run + unwrap_or (leaves row) 0 - start-same i))

  rows-same : (origin : Origins) (test : StopRow → Bool) (k : Key) → list_any (row_test origin test (key_with n.trip k) (trip_by n t)) (map (stop_row_with n.stop) t.stop_rows) ≡ list_any (row_test origin (λ r. test (stop_row_with n.stop r)) k t) t.stop_rows
  rows-same origin test k = list_any-map (row_test origin test (key_with n.trip k) (trip_by n t)) (stop_row_with n.stop) t.stop_rows
      ∙ list_any-alike _ _ t.stop_rows (λ row i. row-same origin test k row)

module _ (m f : Content) (n : Names) (keys_m : HasKeys m) (keys_f : HasKeys f) (named : NamesServices f) (carried : IsCarried m f n) where
  runs-same : (t : Trip) → In t f.trips → (d : ℤ) → runs_on m (trip_by n t) d ≡ runs_on f t d
  runs-same t i d = keys_m.services (n.service t.service_id) (λ s. is_active s.service d)
      ∙ ap (λ o. holds_at o (λ s. is_active s.service d)) (carried.services t.service_id (named t i))
      ∙ holds_at-map (service_with n.service) (look service_id_of f.services t.service_id) (λ s. is_active s.service d)
      ∙ sym (keys_f.services t.service_id (λ s. is_active s.service d))

  test-same : (t : Trip) → In t f.trips → (origin : Origins) (test : StopRow → Bool) (k : Key) → trip_test m origin test (key_with n.trip k) (trip_by n t) ≡ trip_test f origin (λ r. test (stop_row_with n.stop r)) k t
  test-same t i origin test k = λ j. runs-same t i k.day j && run-same n t k.run j && rows-same n t origin test k j

  -- a renamed key is a departure there exactly if the key is one of the feed
  pub departs-carried : (origin : Origins) (test : StopRow → Bool) (k : Key) → lists_id (ids kind.Trip f) k.trip ≡ true
      → departs_from m origin test (key_with n.trip k) ≡ departs_from f origin (λ r. test (stop_row_with n.stop r)) k
  departs-carried origin test k h =
      let r = found trip_id_of f.trips k.trip h in
      let i = found_id trip_id_of f.trips k.trip r.0 r.1 in
      departs-look m keys_m.trips origin test (key_with n.trip k)
      ∙ ap (λ o. holds_at o (trip_test m origin test (key_with n.trip k))) (carried.trips k.trip h)
      ∙ ap (λ o. holds_at (option_map (trip_by n) o) (trip_test m origin test (key_with n.trip k))) r.1
      ∙ test-same r.0 i.0 origin test k
      ∙ ap (λ o. holds_at o (trip_test f origin (λ s. test (stop_row_with n.stop s)) k)) (sym r.1)
      ∙ sym (departs-look f keys_f.trips origin (λ s. test (stop_row_with n.stop s)) k)

-- the trip of a departure is there
pub departs-has : (f : Content) → IsKeyed trip_id_of f.trips → (origin : Origins) (test : StopRow → Bool) (k : Key) → departs_from f origin test k ≡ true
    → (t : Trip) × (look trip_id_of f.trips k.trip ≡ Some t) × (lists_id (ids kind.Trip f) k.trip ≡ true)
departs-has f keyed origin test k e =
    let r = holds_at-Some _ _ (sym (departs-look f keyed origin test k) ∙ e) in
    (r.0, r.1, has_found trip_id_of f.trips k.trip r.0 r.1)

-- a departure passes the test at a row of its trip, and with any test that this row passes it stays one
pub departs-row : (f : Content) → IsKeyed trip_id_of f.trips → (origin : Origins) (test : StopRow → Bool) (k : Key) → departs_from f origin test k ≡ true
    → (t : Trip) × (row : StopRow) × In t f.trips × In row t.stop_rows × (test row ≡ true)
    × ((other : StopRow → Bool) → other row ≡ true → departs_from f origin other k ≡ true)
departs-row f keyed origin test k e =
    let r = holds_at-Some _ _ (sym (departs-look f keyed origin test k) ∙ e) in
    let t = r.0 in
    let p = and_parts (runs_on f t k.day && is_run t k.run) _ r.2 in
    let s = list_any-In (row_test origin test k t) t.stop_rows p.1 in
    let q = and_parts ((s.0.stop_sequence == k.sequence) && is_departure_row t s.0 && test s.0) _ s.2 in
    let u = and_parts ((s.0.stop_sequence == k.sequence) && is_departure_row t s.0) _ q.0 in (
      t,
      s.0,
      (found_id trip_id_of f.trips k.trip t r.1).0,
      s.1,
      u.1,
      λ other o. departs-look f keyed origin other k ∙ ap (λ w. holds_at w (trip_test f origin other k)) r.1
          ∙ and_from (runs_on f t k.day && is_run t k.run) _ p.0 (In-list_any (row_test origin other k t) t.stop_rows s.0 s.1 (and_from _ _ (and_from _ _ u.0 o) q.1)),
    )
