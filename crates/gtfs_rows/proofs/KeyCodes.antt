-- A written content has no key twice: E09.
use Rattle.std.proofs.Common.{◌≡◌, ◌+◌, ◌<◌, ℕ, List, [], ◌∷◌, length, get_or, map, true, false, Bool, Option, Some, None, refl, sym, ap, subst, ◌∙◌, arith, inl, inr}
use Rattle.std.specs.Prelude.{◌&&◌, bytes_eq, codes, nat_lt, ℤ, pos, unsigned_abs}
use Rattle.std.specs.List.{AllPairs, list_all, list_any}
use Rattle.std.specs.Cmp.{int_cmp_total, nat_cmp_total, tied_itself}
use Rattle.std.specs.Cmp.Lexicographic.{pointwise}
use Rattle.std.specs.Ordering.{nat_cmp, int_cmp, int_eq}
use Rattle.std.specs.declared.cmp.Ordering.TheVariants.{Less, Equal}
use Rattle.std.proofs.lemmas.Bool.{and_left, and_right, cases_Bool, false_from_ne_true, ltb-true}
use Rattle.std.proofs.lemmas.Bool.Decides.{Decides-int_eq}
use Rattle.gtfs_days.specs.declared.week.Week.{Week}
use Rattle.gtfs_table.specs.declared.file.File.{File}
use Rattle.gtfs_table.specs.declared.file.File.TheVariants as file
use Rattle.gtfs_table.specs.Rows.{is_row, records_in, rows, is_empty}
use Rattle.gtfs_schema.specs.Columns.{columns_of}
use Rattle.gtfs_schema.specs.KeyRules.{all_there, key_in, same_key, key_twice}
use Rattle.gtfs_schema.specs.References.{reported_column}
use Rattle.gtfs_schema.specs.FieldValues.{Value, word, amount, value_eq, if_both}
use Rattle.gtfs_schema.proofs.EachFacts.{none_in_range}
use Rattle.gtfs_schema.proofs.SiteFacts.{text_is, text_itself}
use Rattle.gtfs_rows.specs.Cells.{Cell, are_cells}
use Rattle.gtfs_rows.specs.Content.{Content}
use Rattle.gtfs_rows.specs.RowCells.{cells_in, value_of_number, id_cell, week_list, agency_cells, stop_cells, route_cells, trip_cells, stop_time_cells, week_cells, exception_cells, frequency_cells, stop_times_of, weeks_of, exceptions_of, frequencies_of}
use Rattle.gtfs_rows.specs.SoundContent.{IsSound}
use Rattle.gtfs_rows.specs.WrittenContent.{written_beside}
use Rattle.gtfs_rows.proofs.FileRows.{row_index}
use Rattle.gtfs_rows.proofs.Held.{apart_turned, held_pairs}
use Rattle.gtfs_rows.proofs.Views.{rows_are, value_at, count_is}

-- two keys are not one
abbrev Differ : {X : Type 0} → (X → Option (List Value)) → X → X → Type 0
Differ key a b = if_both (key b) (key a) (pointwise value_eq) ≡ false

-- no row has the key of an earlier one, where the key of a row is a function of it and earlier and later rows differ in it
pub no_repeat : {X : Type 0} (others : List (List ℕ)) (c : Content) (x : File) (xs : List X) (cells : X → List Cell) (are : cells_in c x ≡ map cells xs) (sound : list_all (are_cells (columns_of x)) (cells_in c x) ≡ true)
    (key : X → Option (List Value)) → ((k : ℕ) (e : X) → k < length xs → key_in (written_beside others c) x (k + 2) ≡ key (get_or xs k e)) → AllPairs (Differ key) xs
    → (n : ℕ) (name : List ℕ) → key_twice (written_beside others c) x n name ≡ false
no_repeat {X} others c x xs cells are sound key is differ n name =
    let at = bytes_eq name (reported_column x) in
    let row = is_row (records_in (written_beside others c) x) n in
    let twice = list_any (λ m. nat_lt m n && same_key (written_beside others c) x n m) (rows (written_beside others c) x) in
    elim (cases_Bool row) [
      | inr outside ↦ and_left (at && row) twice (and_right at row outside)
      | inl here ↦
          let element = row_index others (cells_in c) x sound n here in
          let within : element.index < length xs = subst (λ m. element.index < m) (count_is others c x xs cells are sound) element.within in
          and_right (at && row) twice (ap (λ m. list_any (λ j. nat_lt j m && same_key (written_beside others c) x m j) (rows (written_beside others c) x)) element.is
          ∙ ap (list_any (λ j. nat_lt j (element.index + 2) && same_key (written_beside others c) x (element.index + 2) j)) (rows_are others c x xs cells are sound)
          ∙ none_in_range (λ j. nat_lt j (element.index + 2) && same_key (written_beside others c) x (element.index + 2) j) 2 (length xs) (never xs refl element.index within))
    ]
  where
    never : (ys : List X) → xs ≡ ys → (k : ℕ) → k < length xs → (j : ℕ) → j < length xs → (nat_lt (j + 2) (k + 2) && same_key (written_beside others c) x (k + 2) (j + 2)) ≡ false
    never [] same k within j inside = absurd (let e = ap length same in omega (arith, e))
    never (d ∷ ys) same k within j inside = elim (cases_Bool (nat_lt (j + 2) (k + 2))) [
      | inr later ↦ and_left (nat_lt (j + 2) (k + 2)) (same_key (written_beside others c) x (k + 2) (j + 2)) later
      | inl earlier ↦
          let order = ltb-true (j + 2) (k + 2) earlier in
          and_right (nat_lt (j + 2) (k + 2)) (same_key (written_beside others c) x (k + 2) (j + 2)) ((λ i. if_both (is k d within i) (is j d inside i) (pointwise value_eq)) ∙ differ j k d (omega (arith, order)) within)
    ]

and_yes : (a : Bool) → a ≡ false → (a && true) ≡ false
and_yes a h = rw h refl

two_parts : (q t : List ℕ) (b : Bool) → (bytes_eq q t ≡ true → b ≡ false) → (bytes_eq t q && (b && true)) ≡ false
two_parts q t b differ = elim (cases_Bool (bytes_eq t q)) [
  | inr other ↦ and_left (bytes_eq t q) (b && true) other
  | inl same ↦ and_right (bytes_eq t q) (b && true) (and_yes b (differ (ap (bytes_eq q) (text_is t q same) ∙ text_itself q)))
]

day_apart : (m n : ℤ) → int_cmp m n ≡ Less → int_eq n m ≡ false
day_apart m n less = false_from_ne_true (int_eq n m) (λ e.
    let same : n ≡ m = (Decides-int_eq n m).0 e in
    let tie : int_cmp m n ≡ Equal = ap (int_cmp m) same ∙ tied_itself int_cmp_total m in
    let clash : Less ≡ Equal = sym less ∙ tie in
    cc)

number_apart : (m n : ℕ) → nat_cmp m n ≡ Less → int_eq (pos n) (pos m) ≡ false
number_apart m n less = false_from_ne_true (int_eq (pos n) (pos m)) (λ e.
    let same : n ≡ m = ap unsigned_abs ((Decides-int_eq (pos n) (pos m)).0 e) in
    let tie : nat_cmp m n ≡ Equal = ap (nat_cmp m) same ∙ tied_itself nat_cmp_total m in
    let clash : Less ≡ Equal = sym less ∙ tie in
    cc)

other_id : (q t : List ℕ) → (bytes_eq q t ≡ true → ⊥) → (bytes_eq t q && true) ≡ false
other_id q t never = and_yes (bytes_eq t q) (false_from_ne_true (bytes_eq t q) (λ same. never (ap (bytes_eq q) (text_is t q same) ∙ text_itself q)))

one_week : (o : Option Week) → AllPairs (λ x y. ⊥) (week_list o)
one_week None = λ i j d h l. omega arith
one_week (Some w) = λ i j d h l. omega arith

-- ids of agencies, of which one may be empty
ids_differ : (q t : List ℕ) → bytes_eq t q ≡ false → if_both (all_there (id_cell t ∷ [])) (all_there (id_cell q ∷ [])) (pointwise value_eq) ≡ false
ids_differ q t other = elim (cases_Bool (is_empty t)) [
  | inl none ↦ rw none refl
  | inr there ↦ elim (cases_Bool (is_empty q)) [
    | inl none ↦ rw (there, none) refl
    | inr here ↦ rw (there, here) (and_yes (bytes_eq t q) other)
  ]
]

-- ---- keys of one id

module _ (others : List (List ℕ)) (c : Content) (sound : IsSound c) where
  pub no_stop_twice : (n : ℕ) (name : List ℕ) → key_twice (written_beside others c) file.Stops n name ≡ false
  no_stop_twice = no_repeat others c file.Stops c.stops stop_cells refl (sound.cells file.Stops) (λ s. Some (word s.stop_id ∷ []))
      (λ k e h. ap (λ o. all_there (o ∷ [])) (value_at others c file.Stops c.stops stop_cells refl (sound.cells file.Stops) k e h (codes "stop_id") refl))
      (λ i j d h l. let a = (get_or c.stops i d).stop_id in let b = (get_or c.stops j d).stop_id in and_yes (bytes_eq b a) (apart_turned a b (sound.in_order.stops i j d h l)))

  pub no_route_twice : (n : ℕ) (name : List ℕ) → key_twice (written_beside others c) file.Routes n name ≡ false
  no_route_twice = no_repeat others c file.Routes c.routes route_cells refl (sound.cells file.Routes) (λ s. Some (word s.route_id ∷ []))
      (λ k e h. ap (λ o. all_there (o ∷ [])) (value_at others c file.Routes c.routes route_cells refl (sound.cells file.Routes) k e h (codes "route_id") refl))
      (λ i j d h l. let a = (get_or c.routes i d).route_id in let b = (get_or c.routes j d).route_id in and_yes (bytes_eq b a) (apart_turned a b (sound.in_order.routes i j d h l)))

  pub no_trip_twice : (n : ℕ) (name : List ℕ) → key_twice (written_beside others c) file.Trips n name ≡ false
  no_trip_twice = no_repeat others c file.Trips c.trips trip_cells refl (sound.cells file.Trips) (λ s. Some (word s.trip_id ∷ []))
      (λ k e h. ap (λ o. all_there (o ∷ [])) (value_at others c file.Trips c.trips trip_cells refl (sound.cells file.Trips) k e h (codes "trip_id") refl))
      (λ i j d h l. let a = (get_or c.trips i d).trip_id in let b = (get_or c.trips j d).trip_id in and_yes (bytes_eq b a) (apart_turned a b (sound.in_order.trips i j d h l)))

  -- ---- keys of held rows

  pub no_stop_time_twice : (n : ℕ) (name : List ℕ) → key_twice (written_beside others c) file.StopTimes n name ≡ false
  no_stop_time_twice = no_repeat others c file.StopTimes (stop_times_of c) stop_time_cells refl (sound.cells file.StopTimes) (λ p. Some (word p.0 ∷ value_of_number p.1.stop_sequence ∷ []))
      (λ k e h i. all_there (value_at others c file.StopTimes (stop_times_of c) stop_time_cells refl (sound.cells file.StopTimes) k e h (codes "trip_id") refl i
      ∷ value_at others c file.StopTimes (stop_times_of c) stop_time_cells refl (sound.cells file.StopTimes) k e h (codes "stop_sequence") refl i ∷ []))
      (λ i j d h l. let a = get_or (stop_times_of c) i d in let b = get_or (stop_times_of c) j d in two_parts a.0 b.0 (int_eq (pos b.1.stop_sequence) (pos a.1.stop_sequence)) (λ e. number_apart a.1.stop_sequence b.1.stop_sequence (held_pairs (λ t. t.trip_id) (λ t. t.stop_rows) (λ r s. nat_cmp r.stop_sequence s.stop_sequence ≡ Less) c.trips sound.in_order.trips sound.in_order.stop_rows i j d h l e)))

  pub no_frequency_twice : (n : ℕ) (name : List ℕ) → key_twice (written_beside others c) file.Frequencies n name ≡ false
  no_frequency_twice = no_repeat others c file.Frequencies (frequencies_of c) frequency_cells refl (sound.cells file.Frequencies) (λ p. Some (word p.0 ∷ value_of_number p.1.start_time ∷ []))
      (λ k e h i. all_there (value_at others c file.Frequencies (frequencies_of c) frequency_cells refl (sound.cells file.Frequencies) k e h (codes "trip_id") refl i
      ∷ value_at others c file.Frequencies (frequencies_of c) frequency_cells refl (sound.cells file.Frequencies) k e h (codes "start_time") refl i ∷ []))
      (λ i j d h l. let a = get_or (frequencies_of c) i d in let b = get_or (frequencies_of c) j d in two_parts a.0 b.0 (int_eq (pos b.1.start_time) (pos a.1.start_time)) (λ e. number_apart a.1.start_time b.1.start_time (held_pairs (λ t. t.trip_id) (λ t. t.frequencies) (λ r s. nat_cmp r.start_time s.start_time ≡ Less) c.trips sound.in_order.trips sound.in_order.frequencies i j d h l e)))

  pub no_exception_twice : (n : ℕ) (name : List ℕ) → key_twice (written_beside others c) file.CalendarDates n name ≡ false
  no_exception_twice = no_repeat others c file.CalendarDates (exceptions_of c) exception_cells refl (sound.cells file.CalendarDates) (λ p. Some (word p.0 ∷ amount p.1.0 ∷ []))
      (λ k e h i. all_there (value_at others c file.CalendarDates (exceptions_of c) exception_cells refl (sound.cells file.CalendarDates) k e h (codes "service_id") refl i
      ∷ value_at others c file.CalendarDates (exceptions_of c) exception_cells refl (sound.cells file.CalendarDates) k e h (codes "date") refl i ∷ []))
      (λ i j d h l. let a = get_or (exceptions_of c) i d in let b = get_or (exceptions_of c) j d in two_parts a.0 b.0 (int_eq b.1.0 a.1.0) (λ e. day_apart a.1.0 b.1.0 (held_pairs (λ r. r.service_id) (λ r. r.service.exceptions) (λ x y. int_cmp x.0 y.0 ≡ Less) c.services sound.in_order.services sound.in_order.exceptions i j d h l e)))

  pub no_week_twice : (n : ℕ) (name : List ℕ) → key_twice (written_beside others c) file.Calendar n name ≡ false
  no_week_twice = no_repeat others c file.Calendar (weeks_of c) week_cells refl (sound.cells file.Calendar) (λ p. Some (word p.0 ∷ []))
      (λ k e h. ap (λ o. all_there (o ∷ [])) (value_at others c file.Calendar (weeks_of c) week_cells refl (sound.cells file.Calendar) k e h (codes "service_id") refl))
      (λ i j d h l. let a = get_or (weeks_of c) i d in let b = get_or (weeks_of c) j d in other_id a.0 b.0 (held_pairs (λ r. r.service_id) (λ r. week_list r.service.week) (λ x y. ⊥) c.services sound.in_order.services (λ k e h. one_week (get_or c.services k e).service.week) i j d h l))

  -- an id that is there
  pub no_agency_twice : (n : ℕ) (name : List ℕ) → key_twice (written_beside others c) file.Agency n name ≡ false
  no_agency_twice = no_repeat others c file.Agency c.agencies agency_cells refl (sound.cells file.Agency) (λ a. all_there (id_cell a.agency_id ∷ []))
      (λ k e h. ap (λ o. all_there (o ∷ [])) (value_at others c file.Agency c.agencies agency_cells refl (sound.cells file.Agency) k e h (codes "agency_id") refl))
      (λ i j d h l. let a = (get_or c.agencies i d).agency_id in let b = (get_or c.agencies j d).agency_id in ids_differ a b (apart_turned a b (sound.in_order.agencies i j d h l)))
