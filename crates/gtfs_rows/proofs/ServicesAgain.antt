-- The services of a written content, read again, are its services.
use Rattle.std.proofs.Common.{◌≡◌, ◌+◌, ◌<◌, ◌++◌, ℕ, suc, List, [], ◌∷◌, length, get_or, map, true, false, Bool, Option, Some, None, refl, sym, ap, subst, ◌∙◌, arith, inl, inr}
use Rattle.std.specs.Prelude.{◌==◌, ◌||◌, not, bytes_eq, codes, filter, find, if◌then◌else◌, option_and_then, option_map, unwrap_or, is_some, ℤ, pos}
use Prim.Native.String.{String as Literal}
use Rattle.std.specs.FinMap as table
use Rattle.std.specs.Cmp.{int_cmp_total}
use Rattle.std.specs.Cmp.Lexicographic.{nat_list_cmp_total}
use Rattle.std.specs.List.{Contains}
use Rattle.std.specs.Ordering.{int_cmp, int_eq}
use Rattle.std.specs.declared.cmp.Ordering.TheVariants.{Less}
use Rattle.std.proofs.lemmas.Bool.{and_parts, or_cases, cases_Bool}
use Rattle.std.proofs.lemmas.List.{length-append, length-map, get_or-map}
use Rattle.std.proofs.lemmas.List.Elements.{Contains-append_cases, Contains-append_left, Contains-append_right}
use Rattle.gtfs_days.specs.declared.week.Week.{Week}
use Rattle.gtfs_days.specs.declared.exception.Exception.{Exception}
use Rattle.gtfs_days.specs.declared.exception.Exception.TheVariants.{Added, Removed}
use Rattle.gtfs_field.specs.TextOrder.{text_cmp}
use Rattle.gtfs_table.specs.declared.file.File.TheVariants as file
use Rattle.gtfs_table.specs.Rows.{rows, is_empty}
use Rattle.gtfs_schema.specs.Calendars.{service_rows, first_service_row, field_number, serves_weekday, week_in, exception_in}
use Rattle.gtfs_schema.specs.Columns.{Column, columns_of}
use Rattle.gtfs_schema.specs.RowConditions.{word_in}
use Rattle.gtfs_schema.specs.FieldValues.{is_word, amount, word}
use Rattle.gtfs_rows.specs.NamedCells.{cell_named}
use Rattle.gtfs_rows.specs.Cells.{Cell, are_cells, is_cell}
use Rattle.gtfs_rows.specs.Content.{Content}
use Rattle.gtfs_rows.specs.TransferOrder.{by_key}
use Rattle.gtfs_rows.specs.ContentRead.{text_at, services_named, service_row_in}
use Rattle.gtfs_rows.specs.RowCells.{cells_in, flag, week_cells, exception_cells, exception_number, week_list, weeks_of, exceptions_of, held_by}
use Rattle.gtfs_rows.specs.Rows.{ServiceRow}
use Rattle.gtfs_rows.specs.SoundContent.{IsSound, is_sound_service, is_sound_week, if_given}
use Rattle.gtfs_rows.specs.WrittenContent.{written_beside}
use Rattle.gtfs_rows.proofs.ByKey.{by_key_map}
use Rattle.gtfs_rows.proofs.Held.{text_antisymmetric, held_at, held_member, held_has}
use Rattle.gtfs_rows.proofs.RangeLists.{map_range, map_filter_range, find_range}
use Rattle.gtfs_rows.proofs.RowTexts.{all_at}
use Rattle.gtfs_rows.proofs.SameElements.{SameElements, contains-map, contains-from_map, contains-first, pairs-map}
use Rattle.gtfs_rows.proofs.TripsAgain.{by_key_again}
use Rattle.gtfs_rows.proofs.Views.{rows_are, word_at, amount_at, given_at}

-- ---- lists

count_cells : (cs : List Column) (vs : List Cell) → are_cells cs vs ≡ true → length cs ≡ length vs
count_cells [] [] h = refl
count_cells [] (v ∷ vs) h = cc
count_cells (c ∷ cs) [] h = cc
count_cells (c ∷ cs) (v ∷ vs) h = let e = count_cells cs vs (and_parts (is_cell c v) (are_cells cs vs) h).1 in omega (arith, e)

pub map_back : {A X : Type 0} (f : A → X) (g : X → A) (xs : List X) → ((k : ℕ) (d : X) → k < length xs → f (g (get_or xs k d)) ≡ get_or xs k d) → map f (map g xs) ≡ xs
map_back f g [] same = refl
map_back f g (x ∷ xs) same = λ i. same 0 x (omega arith) i ∷ map_back f g xs (λ k d h. same (suc k) d (omega arith)) i

first_of : {X : Type 0} → List X → Option X
first_of [] = None
first_of (x ∷ xs) = Some x

found_first : {X Y : Type 0} (p : X → Bool) (f : X → Y) (xs : List X) → option_and_then (λ x. Some (f x)) (find p xs) ≡ first_of (map f (filter p xs))
unfolding first_of
found_first p f [] = refl
found_first p f (x ∷ xs) = elim (cases_Bool (p x)) [
  | inl here ↦ rw here refl
  | inr other ↦ rw other (found_first p f xs)
]

as_then : {X Y : Type 0} (f : X → Y) (o : Option X) → option_map f o ≡ option_and_then (λ x. Some (f x)) o
as_then f None = refl
as_then f (Some x) = refl

first_week : (o : Option Week) → first_of (week_list o) ≡ o
unfolding first_of
first_week None = refl
first_week (Some w) = refl

flag_back : (b : Bool) → int_eq (unwrap_or (Some (pos (if b then 1 else 0))) (pos 0)) (pos 1) ≡ b
flag_back true = refl
flag_back false = refl

type_back : (t : Exception) → (if int_eq (unwrap_or (Some (pos (exception_number t))) (pos 0)) (pos 1) then Added else Removed) ≡ t
type_back Added = refl
type_back Removed = refl

-- a list of seven
pub record IsSeven (days : List Bool) : Type 0 where
  pub a : Bool
  pub b : Bool
  pub c : Bool
  pub d : Bool
  pub e : Bool
  pub f : Bool
  pub g : Bool
  pub is : days ≡ a ∷ b ∷ c ∷ d ∷ e ∷ f ∷ g ∷ []

seven : (days : List Bool) → length days ≡ 7 → IsSeven days
seven [] h = absurd (omega arith)
seven (a ∷ []) h = absurd (omega arith)
seven (a ∷ b ∷ []) h = absurd (omega arith)
seven (a ∷ b ∷ c ∷ []) h = absurd (omega arith)
seven (a ∷ b ∷ c ∷ d ∷ []) h = absurd (omega arith)
seven (a ∷ b ∷ c ∷ d ∷ e ∷ []) h = absurd (omega arith)
seven (a ∷ b ∷ c ∷ d ∷ e ∷ f ∷ []) h = absurd (omega arith)
seven (a ∷ b ∷ c ∷ d ∷ e ∷ f ∷ g ∷ []) h = record { a = a; b = b; c = c; d = d; e = e; f = f; g = g; is = refl }
seven (a ∷ b ∷ c ∷ d ∷ e ∷ f ∷ g ∷ h' ∷ rest) h = absurd (omega arith)

days_are : (q : List ℕ) (w : Week) → are_cells (columns_of file.Calendar) (week_cells (q, w)) ≡ true → length w.days ≡ 7
days_are q w h =
    let count = count_cells (columns_of file.Calendar) (week_cells (q, w)) h in
    let size : length (map flag w.days ++ Some (amount w.start) ∷ Some (amount w.end) ∷ []) ≡ length w.days + 2 = length-append (map flag w.days) (Some (amount w.start) ∷ Some (amount w.end) ∷ []) ∙ ap (λ n. n + 2) (length-map w.days flag) in
    omega (arith, count, size)

module _ (others : List (List ℕ)) (c : Content) (sound : IsSound c) where
  module _ (k : ℕ) (e : List ℕ × Week) (within : k < length (weeks_of c)) where
    cells_ok : are_cells (columns_of file.Calendar) (week_cells (get_or (weeks_of c) k e)) ≡ true
    cells_ok =
        let inside : k < length (cells_in c file.Calendar) = let n = length-map (weeks_of c) week_cells in omega (arith, n) in
        ap (are_cells (columns_of file.Calendar)) (sym (get_or-map week_cells (weeks_of c) k e [] within))
        ∙ all_at (are_cells (columns_of file.Calendar)) (cells_in c file.Calendar) k [] (sound.cells file.Calendar) inside

    weekday : (column : Literal) → is_empty (codes column) ≡ false → (b : Bool) → cell_named (columns_of file.Calendar) (week_cells (get_or (weeks_of c) k e)) (codes column) ≡ flag b
        → serves_weekday (written_beside others c) (k + 2) column ≡ b
    weekday column filled b is =
        ap (λ o. int_eq (unwrap_or o (pos 0)) (pos 1)) (amount_at others c file.Calendar (weeks_of c) week_cells refl (sound.cells file.Calendar) k e within column filled (Some (pos (if b then 1 else 0))) is)
        ∙ flag_back b

    week_day : (column : Literal) → is_empty (codes column) ≡ false → (x : ℤ) → cell_named (columns_of file.Calendar) (week_cells (get_or (weeks_of c) k e)) (codes column) ≡ Some (amount x)
        → field_number (written_beside others c) file.Calendar (k + 2) column ≡ x
    week_day column filled x is = ap (λ o. unwrap_or o (pos 0)) (amount_at others c file.Calendar (weeks_of c) week_cells refl (sound.cells file.Calendar) k e within column filled (Some x) is)

    pub week_again : week_in (written_beside others c) (k + 2) ≡ (get_or (weeks_of c) k e).1
    week_again =
        let q = (get_or (weeks_of c) k e).0 in
        let w = (get_or (weeks_of c) k e).1 in
        let s = seven w.days (days_are q w cells_ok) in
        let cells : week_cells (get_or (weeks_of c) k e) ≡ Some (word q) ∷ flag s.a ∷ flag s.b ∷ flag s.c ∷ flag s.d ∷ flag s.e ∷ flag s.f ∷ flag s.g ∷ Some (amount w.start) ∷ Some (amount w.end) ∷ [] =
        ap (λ ds. Some (word q) ∷ (map flag ds ++ Some (amount w.start) ∷ Some (amount w.end) ∷ [])) s.is in
        let named : (name : List ℕ) → cell_named (columns_of file.Calendar) (week_cells (get_or (weeks_of c) k e)) name
        ≡ cell_named (columns_of file.Calendar) (Some (word q) ∷ flag s.a ∷ flag s.b ∷ flag s.c ∷ flag s.d ∷ flag s.e ∷ flag s.f ∷ flag s.g ∷ Some (amount w.start) ∷ Some (amount w.end) ∷ []) name
        = λ name. ap (λ vs. cell_named (columns_of file.Calendar) vs name) cells in
        let read : week_in (written_beside others c) (k + 2) ≡ record { days = s.a ∷ s.b ∷ s.c ∷ s.d ∷ s.e ∷ s.f ∷ s.g ∷ []; start = w.start; end = w.end } =
        λ i. record {
          days = weekday "monday" refl s.a (named (codes "monday")) i ∷ weekday "tuesday" refl s.b (named (codes "tuesday")) i ∷ weekday "wednesday" refl s.c (named (codes "wednesday")) i
              ∷ weekday "thursday" refl s.d (named (codes "thursday")) i ∷ weekday "friday" refl s.e (named (codes "friday")) i ∷ weekday "saturday" refl s.f (named (codes "saturday")) i
              ∷ weekday "sunday" refl s.g (named (codes "sunday")) i ∷ [];
          start = week_day "start_date" refl w.start (named (codes "start_date")) i;
          end = week_day "end_date" refl w.end (named (codes "end_date")) i;
        } in
        let back : record { days = s.a ∷ s.b ∷ s.c ∷ s.d ∷ s.e ∷ s.f ∷ s.g ∷ []; start = w.start; end = w.end } ≡ w = λ i. record { days = sym s.is i; start = w.start; end = w.end } in
        read ∙ back

  week_named : (q : List ℕ) (k : ℕ) (e : List ℕ × Week) → k < length (weeks_of c)
      → is_word (word_in (written_beside others c) file.Calendar (k + 2) "service_id") q ≡ bytes_eq q (get_or (weeks_of c) k e).0
  week_named q k e within =
      ap (λ o. is_word o q) (word_at others c file.Calendar (weeks_of c) week_cells refl (sound.cells file.Calendar) k e within "service_id" refl (Some (get_or (weeks_of c) k e).0) refl)

  exception_again : (k : ℕ) (e : List ℕ × (ℤ × Exception)) → k < length (exceptions_of c) → exception_in (written_beside others c) (k + 2) ≡ (get_or (exceptions_of c) k e).1
  exception_again k e within =
      let x = (get_or (exceptions_of c) k e).1 in
      let day : field_number (written_beside others c) file.CalendarDates (k + 2) "date" ≡ x.0 =
      ap (λ o. unwrap_or o (pos 0)) (amount_at others c file.CalendarDates (exceptions_of c) exception_cells refl (sound.cells file.CalendarDates) k e within "date" refl (Some x.0) refl) in
      let type : (if int_eq (field_number (written_beside others c) file.CalendarDates (k + 2) "exception_type") (pos 1) then Added else Removed) ≡ x.1 =
      ap (λ o. if int_eq (unwrap_or o (pos 0)) (pos 1) then Added else Removed)
      (amount_at others c file.CalendarDates (exceptions_of c) exception_cells refl (sound.cells file.CalendarDates) k e within "exception_type" refl (Some (pos (exception_number x.1))) refl)
      ∙ type_back x.1 in
      λ i. (day i, type i)

  exception_named : (q : List ℕ) (k : ℕ) (e : List ℕ × (ℤ × Exception)) → k < length (exceptions_of c)
      → is_word (word_in (written_beside others c) file.CalendarDates (k + 2) "service_id") q ≡ bytes_eq q (get_or (exceptions_of c) k e).0
  exception_named q k e within =
      ap (λ o. is_word o q) (word_at others c file.CalendarDates (exceptions_of c) exception_cells refl (sound.cells file.CalendarDates) k e within "service_id" refl (Some (get_or (exceptions_of c) k e).0) refl)

  -- ---- the service of an id

  service_again : (k : ℕ) (e : ServiceRow) → k < length c.services → service_row_in (written_beside others c) (get_or c.services k e).service_id ≡ get_or c.services k e
  service_again k e within =
      let s = get_or c.services k e in
      let q = s.service_id in
      let week : option_map (week_in (written_beside others c)) (first_service_row (written_beside others c) file.Calendar q) ≡ s.service.week =
      as_then (week_in (written_beside others c)) (first_service_row (written_beside others c) file.Calendar q)
      ∙ ap (λ ns. option_and_then (λ n. Some (week_in (written_beside others c) n)) (find (λ n. is_word (word_in (written_beside others c) file.Calendar n "service_id") q) ns)) (rows_are others c file.Calendar (weeks_of c) week_cells refl (sound.cells file.Calendar))
      ∙ find_range (λ n. is_word (word_in (written_beside others c) file.Calendar n "service_id") q) (λ p. bytes_eq q p.0) (λ n. Some (week_in (written_beside others c) n)) (λ p. Some p.1) 2 (weeks_of c)
      (record { at = week_named q }) (record { at = λ j d h. ap Some (week_again j d h) })
      ∙ found_first (λ p. bytes_eq q p.0) (λ p. p.1) (weeks_of c)
      ∙ ap first_of (held_at (λ r. r.service_id) (λ r. week_list r.service.week) c.services k e within sound.in_order.services)
      ∙ first_week s.service.week in
      let exceptions : by_key int_cmp (λ x. x.0) (map (exception_in (written_beside others c)) (service_rows (written_beside others c) file.CalendarDates q)) ≡ s.service.exceptions =
      ap (λ ns. by_key int_cmp (λ x. x.0) (map (exception_in (written_beside others c)) (filter (λ n. is_word (word_in (written_beside others c) file.CalendarDates n "service_id") q) ns))) (rows_are others c file.CalendarDates (exceptions_of c) exception_cells refl (sound.cells file.CalendarDates))
      ∙ ap (by_key int_cmp (λ x. x.0)) (map_filter_range (λ n. is_word (word_in (written_beside others c) file.CalendarDates n "service_id") q) (λ p. bytes_eq q p.0) (exception_in (written_beside others c)) (λ p. p.1) 2 (exceptions_of c)
      (record { at = exception_named q }) (record { at = exception_again })
      ∙ held_at (λ r. r.service_id) (λ r. r.service.exceptions) c.services k e within sound.in_order.services)
      ∙ by_key_again int_cmp int_cmp_total table.int_cmp-IsAntisymmetric (λ x. x.0) s.service.exceptions (sound.in_order.exceptions k e within) in
      λ i. record { service_id = q; service = record { week = week i; exceptions = exceptions i } }

  -- ---- the ids of services

  abbrev pub ids : List (List ℕ)
  ids = map (λ s. s.service_id) c.services

  week_ids : map (λ n. text_at (written_beside others c) file.Calendar n "service_id") (rows (written_beside others c) file.Calendar) ≡ map (λ p. p.0) (weeks_of c)
  week_ids =
      ap (map (λ n. text_at (written_beside others c) file.Calendar n "service_id")) (rows_are others c file.Calendar (weeks_of c) week_cells refl (sound.cells file.Calendar))
      ∙ map_range (λ n. text_at (written_beside others c) file.Calendar n "service_id") (λ p. p.0) 2 (weeks_of c)
      (record { at = λ j d h. given_at others c file.Calendar (weeks_of c) week_cells refl (sound.cells file.Calendar) j d h "service_id" refl (get_or (weeks_of c) j d).0 refl })

  exception_ids : map (λ n. text_at (written_beside others c) file.CalendarDates n "service_id") (rows (written_beside others c) file.CalendarDates) ≡ map (λ p. p.0) (exceptions_of c)
  exception_ids =
      ap (map (λ n. text_at (written_beside others c) file.CalendarDates n "service_id")) (rows_are others c file.CalendarDates (exceptions_of c) exception_cells refl (sound.cells file.CalendarDates))
      ∙ map_range (λ n. text_at (written_beside others c) file.CalendarDates n "service_id") (λ p. p.0) 2 (exceptions_of c)
      (record { at = λ j d h. given_at others c file.CalendarDates (exceptions_of c) exception_cells refl (sound.cells file.CalendarDates) j d h "service_id" refl (get_or (exceptions_of c) j d).0 refl })

  named_again : services_named (written_beside others c) ≡ map (λ p. p.0) (weeks_of c) ++ map (λ p. p.0) (exceptions_of c)
  named_again = λ i. week_ids i ++ exception_ids i

  -- an id that a held element names is that of a row
  id_held : {Y : Type 0} (of : ServiceRow → List Y) (q : List ℕ) → Contains (map (λ p. p.0) (held_by (λ s. s.service_id) of c.services)) q → Contains ids q
  id_held of q at =
      let from = contains-from_map (λ p. p.0) (held_by (λ s. s.service_id) of c.services) q at in
      let held = held_member (λ s. s.service_id) of c.services from.0 from.1.0 in
      subst (Contains ids) (sym held.named ∙ from.1.1) (contains-map (λ s. s.service_id) c.services held.row held.there)

  -- a sound service has an element in one of the files
  pub in_file : (s : ServiceRow) → Contains c.services s → is_sound_service s ≡ true → Contains (map (λ p. p.0) (weeks_of c) ++ map (λ p. p.0) (exceptions_of c)) s.service_id
  in_file s at fine =
      let parts = and_parts (is_some s.service.week || not (length s.service.exceptions == 0)) (if_given s.service.week is_sound_week) fine in
      elim (or_cases (is_some s.service.week) (not (length s.service.exceptions == 0)) parts.0) [
        | inl has_week ↦ Contains-append_left (map (λ p. p.0) (weeks_of c)) (map (λ p. p.0) (exceptions_of c)) s.service_id (with_week s.service.week refl has_week)
        | inr has_days ↦ Contains-append_right (map (λ p. p.0) (weeks_of c)) (map (λ p. p.0) (exceptions_of c)) s.service_id (with_days s.service.exceptions refl has_days)
      ]
    where
      with_week : (o : Option Week) → s.service.week ≡ o → is_some o ≡ true → Contains (map (λ p. p.0) (weeks_of c)) s.service_id
      with_week None same has = cc
      with_week (Some w) same has =
          contains-map (λ p. p.0) (weeks_of c) (s.service_id, w)
          (held_has (λ r. r.service_id) (λ r. week_list r.service.week) c.services s w at (subst (λ o. Contains (week_list o) w) (sym same) (contains-first w w [] refl)))

      with_days : (es : List (ℤ × Exception)) → s.service.exceptions ≡ es → not (length es == 0) ≡ true → Contains (map (λ p. p.0) (exceptions_of c)) s.service_id
      with_days [] same has = cc
      with_days (x ∷ es) same has =
          contains-map (λ p. p.0) (exceptions_of c) (s.service_id, x)
          (held_has (λ r. r.service_id) (λ r. r.service.exceptions) c.services s x at (subst (λ ys. Contains ys x) (sym same) (contains-first x x es refl)))

  same_ids : SameElements (services_named (written_beside others c)) ids
  same_ids = record {
    there = λ q at. elim (Contains-append_cases (map (λ p. p.0) (weeks_of c)) (map (λ p. p.0) (exceptions_of c)) q (subst (λ qs. Contains qs q) named_again at)) [
      | inl week ↦ id_held (λ s. week_list s.service.week) q week
      | inr day ↦ id_held (λ s. s.service.exceptions) q day
    ];
    back = λ q at.
        let from = contains-from_map (λ s. s.service_id) c.services q at in
        let k = from.1.0.0 in
        let fine : is_sound_service from.0 ≡ true = subst (λ s. is_sound_service s ≡ true) from.1.0.2 (all_at is_sound_service c.services k from.0 sound.services from.1.0.1) in
        subst (λ qs. Contains qs q) (sym named_again) (subst (Contains (map (λ p. p.0) (weeks_of c) ++ map (λ p. p.0) (exceptions_of c))) from.1.1 (in_file from.0 from.1.0 fine));
  }

  pub services_again : by_key text_cmp (λ s. s.service_id) (map (service_row_in (written_beside others c)) (services_named (written_beside others c))) ≡ c.services
  services_again =
      by_key_map text_cmp nat_list_cmp_total text_antisymmetric (λ s. s.service_id) (service_row_in (written_beside others c)) (services_named (written_beside others c)) ids same_ids
      (pairs-map (λ s. s.service_id) (λ x y. text_cmp x y ≡ Less) c.services sound.in_order.services)
      ∙ map_back (service_row_in (written_beside others c)) (λ s. s.service_id) c.services service_again
