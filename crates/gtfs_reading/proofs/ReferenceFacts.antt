-- A column that names rows of another file names them by their numbers.
use Rattle.std.proofs.Common.{◌≡◌, ◌-◌, ◌∷◌, [], ℕ, List, length, map, true, false, zero, suc, Bool, codes, Option, Some, None, option_map, is_some, refl, sym, ap, subst, ◌∙◌, ◌⊎◌, bytes_eq, arith, inl, inr}
use Rattle.std.specs.Prelude.{◌==◌, ◌&&◌, ◌||◌, find, not, nat_lt, unwrap_or}
use Prim.Native.String.{String as Literal}
use Rattle.std.proofs.lemmas.Bool.{cases_Bool, or_parts}
use Rattle.std.proofs.lemmas.Bool.Decides.{nat_tests}
use Rattle.std.proofs.lemmas.List.Elements.{Contains-append_left, Contains-append_right, filter_passes}
use Rattle.std.proofs.lemmas.Slice.Eq.{bytes_eq-Decides}
use Rattle.std.specs.List.{Contains, range_with_len}
use Rattle.std.specs.Cmp.Lexicographic.{nat_list_cmp_total}
use Rattle.std.specs.FinMap as table
use Rattle.std.specs.FinMap.Entries.{put}
use Rattle.gtfs_field.specs.TextOrder.{text_cmp}
use Rattle.gtfs_table.specs.Rows.{has_no_record, is_empty, is_row, records_in, rows}
use Rattle.gtfs_table.specs.Tables.{Dataset, table_of, table_state}
use Rattle.gtfs_table.specs.declared.file.File.{File}
use Rattle.gtfs_table.specs.declared.file.File.TheVariants as file
use Rattle.gtfs_schema.specs.declared.code.Code.TheVariants as code
use Rattle.gtfs_schema.specs.Columns.{Column, id, optional, required, column_named}
use Rattle.gtfs_schema.specs.KeyRules.{is_known}
use Rattle.gtfs_schema.specs.PresenceRules.{has_many_agencies}
use Rattle.gtfs_schema.specs.Problems.{Passes, kept}
use Rattle.gtfs_schema.proofs.IdFacts.{first_row_is}
use Rattle.gtfs_schema.proofs.IdNumberFacts.{number_there}
use Rattle.gtfs_schema.proofs.SiteFacts.{text_itself}
use Rattle.gtfs_schema.specs.FileRules.{is_absent_state, is_not_utf8_state, is_read, is_read_state}
use Rattle.gtfs_table.specs.declared.state.State.{State}
use Rattle.gtfs_table.specs.declared.state.State.TheVariants as state
use Rattle.gtfs_table.proofs.BlankFacts.{no_text}
use Rattle.gtfs_schema.specs.RowConditions.{row_with, text_in, word_in}
use Rattle.gtfs_schema.specs.steps.Ids.{FirstRows, first_row_with, first_rows, ids_of as ids_of_column, number_with, rows_by_number}
use Rattle.gtfs_rows.specs.ContentRead.{first_agency, text_at}
use Rattle.gtfs_rows.specs.RowsInMemory.{is_number_within, text_of_number}
use Rattle.gtfs_rows.proofs.SameElements.{contains-first, contains-later}
use Rattle.gtfs_rows.proofs.KeyedRows.{no_entries}
use Rattle.gtfs_reading.specs.ServiceIds.{HasAll, NumbersText, service_ids, service_texts}
use Rattle.gtfs_reading.specs.NamedTexts.{ids_of}
use Rattle.gtfs_reading.proofs.ByIds.{ids_read}
use Rattle.gtfs_reading.proofs.IdTexts.{filled_required, known_one, no_empty_id, number_within, numbered, unnumbered, none_unknown, text_at_is, word_none, word_there}

-- the number of an id of a column, by what these are
same_number : {X : Type 0} (f : Option ℕ → X) (i j : FirstRows) (s t : List ℕ) (x : X) → i ≡ j → s ≡ t → x ≡ f (number_with i s) → x ≡ f (number_with j t)
same_number f i j s t x same is number = number ∙ ap f (λ k. number_with (same k) (is k))

module _ (d : Dataset) (passes : Passes d) (x : File) (n : ℕ) (row : is_row (records_in d x) n ≡ true) (column : Literal) (c : Column)
    (there : column_named x (codes column) ≡ Some c) (is_id : c.kind ≡ id) (y : File) (target : Literal)
    (known : is_empty (text_in d x n (codes column)) ≡ false → is_some (first_row_with (first_rows d y (codes target)) (text_in d x n (codes column))) ≡ true) where
  abbrev named : List ℕ
  named = text_in d x n (codes column)

  abbrev ids_there : FirstRows
  ids_there = first_rows d y (codes target)

  -- the id that is there
  pub filled_named : is_empty named ≡ false → option_map (text_of_number (ids_of d y target)) (number_with ids_there named) ≡ word_in d x n column
  filled_named filled = numbered ids_there named (known filled) ∙ sym (word_there d passes x n row column c there is_id filled)

  -- or none, where no row has the empty id
  pub reference_named : first_row_with ids_there [] ≡ None → option_map (text_of_number (ids_of d y target)) (number_with ids_there named) ≡ word_in d x n column
  reference_named none = elim (cases_Bool (is_empty named)) [
    | inl empty ↦
        ap (λ t. option_map (text_of_number (ids_of d y target)) (number_with ids_there t)) (no_text named empty)
        ∙ ap (option_map (text_of_number (ids_of d y target))) (unnumbered ids_there [] none)
        ∙ sym (word_none d passes x n row column c there is_id empty)
    | inr filled ↦ filled_named filled
  ]

-- ---- parents of stops

module _ (d : Dataset) (passes : Passes d) (n : ℕ) (row : is_row (records_in d file.Stops) n ≡ true) where
  parent_known : is_empty (text_in d file.Stops n (codes "parent_station")) ≡ false
      → is_some (first_row_with (first_rows d file.Stops (codes "stop_id")) (text_in d file.Stops n (codes "parent_station"))) ≡ true
  parent_known filled =
      known_one d file.Stops (codes "stop_id") (text_in d file.Stops n (codes "parent_station"))
      (or_parts (not (is_known d ((file.Stops, codes "stop_id") ∷ []) (text_in d file.Stops n (codes "parent_station")))) false
      (none_unknown d passes file.Stops n row "parent_station" (optional "parent_station" id) refl refl filled)).0

  pub parent_named : (i : FirstRows) (t : List ℕ) (o : Option ℕ) → i ≡ first_rows d file.Stops (codes "stop_id") → t ≡ text_in d file.Stops n (codes "parent_station")
      → o ≡ number_with i t → option_map (text_of_number (ids_of d file.Stops "stop_id")) o ≡ word_in d file.Stops n "parent_station"
  parent_named i t o same is number =
      ap (option_map (text_of_number (ids_of d file.Stops "stop_id"))) (same_number (λ o. o) i _ t _ o same is number)
      ∙ reference_named d passes file.Stops n row "parent_station" (optional "parent_station" id) refl refl file.Stops "stop_id" parent_known
      (no_empty_id d passes file.Stops "stop_id" (required "stop_id" id) refl refl refl)

-- ---- ends of transfers

module _ (d : Dataset) (passes : Passes d) (n : ℕ) (row : is_row (records_in d file.Transfers) n ≡ true) (y : File) (target : Literal)
    (is_there : column_named y (codes target) ≡ Some (required target id)) where
  pub end_named : (column : Literal) → column_named file.Transfers (codes column) ≡ Some (optional column id)
      → (is_empty (text_in d file.Transfers n (codes column)) ≡ false → (not (is_known d ((y, codes target) ∷ []) (text_in d file.Transfers n (codes column))) || false) ≡ false)
      → (i : FirstRows) (t : List ℕ) (o : Option ℕ) → i ≡ first_rows d y (codes target) → t ≡ text_in d file.Transfers n (codes column) → o ≡ number_with i t
      → option_map (text_of_number (ids_of d y target)) o ≡ word_in d file.Transfers n column
  end_named column there told i t o same is number =
      ap (option_map (text_of_number (ids_of d y target))) (same_number (λ o. o) i _ t _ o same is number)
      ∙ reference_named d passes file.Transfers n row column (optional column id) there refl y target
      (λ filled. known_one d y (codes target) (text_in d file.Transfers n (codes column))
      (or_parts (not (is_known d ((y, codes target) ∷ []) (text_in d file.Transfers n (codes column)))) false (told filled)).0)
      (no_empty_id d passes y target (required target id) is_there refl refl)

-- ---- agencies of routes

abbrev put_in : List (List ℕ × ℕ) → List ℕ × ℕ → List (List ℕ × ℕ)
put_in es e = put text_cmp e.0 e.1 es

-- of one row alone, and of none
only_row : (d : Dataset) (x : File) (column : List ℕ) (m : ℕ) → rows d x ≡ m ∷ [] → rows_by_number (first_rows d x column) ≡ m ∷ []
only_row d x column m one =
    let named : ℕ → List ℕ × ℕ = λ n. (text_in d x n column, n) in
    let e = named m in
    let start = table.empty {X = ℕ} {R = text_cmp} in
    ap (λ ns. table.values (table.from_entries {R = text_cmp} (map named ns))) one
    ∙ ap (map (λ e. e.1)) (table.entries-insert nat_list_cmp_total start e.0 e.1 ∙ ap (put text_cmp e.0 e.1) (no_entries text_cmp))

only_id : (d : Dataset) (x : File) (column : List ℕ) (m : ℕ) → rows d x ≡ m ∷ [] → ids_of_column (first_rows d x column) ≡ text_in d x m column ∷ []
only_id d x column m one = ids_read d x column ∙ ap (map (λ n. text_in d x n column)) (only_row d x column m one)

-- a dataset that passes has an agency
module _ (d : Dataset) (passes : Passes d) where
  none_holds : (b f : Bool) → (b || f) ≡ false → b ≡ false
  none_holds true f e = e
  none_holds false f e = refl

  read_state : (s : State) → is_absent_state s ≡ false → is_not_utf8_state s ≡ false → is_read_state s ≡ true
  read_state state.Absent absent other = sym absent
  read_state state.NotUtf8 absent other = sym other
  read_state state.Read absent other = refl

  agencies_there : is_read d file.Agency ≡ true
  agencies_there =
      let absent = passes (record { file = kept file.Agency; row = 0; code = code.E01; column = [] }) refl in
      let other = passes (record { file = kept file.Agency; row = 0; code = code.E02; column = [] }) refl in
      read_state (table_state (table_of d file.Agency)) (none_holds _ _ (none_holds _ _ absent)) other

  not_zero : (read none : Bool) (k : ℕ) → read ≡ true → (read && (none || false)) ≡ false → (read && (false || (not none && (k == 0)))) ≡ false → nat_lt 0 k ≡ true
  not_zero true true k r some rows = cc
  not_zero true false zero r some rows = cc
  not_zero true false (suc k) r some rows = grind (arith, nat_tests)
  not_zero false none k r some rows = cc

  pub has_agency : nat_lt 0 (length (rows d file.Agency)) ≡ true
  has_agency = not_zero (is_read d file.Agency) (has_no_record d file.Agency) (length (rows d file.Agency)) agencies_there
      (passes (record { file = kept file.Agency; row = 0; code = code.E05; column = [] }) refl)
      (passes (record { file = kept file.Agency; row = 1; code = code.E05; column = [] }) refl)

module _ (d : Dataset) (passes : Passes d) (n : ℕ) (row : is_row (records_in d file.Routes) n ≡ true) where
  abbrev agency_there : List ℕ
  agency_there = text_in d file.Routes n (codes "agency_id")

  abbrev agency_ids : FirstRows
  agency_ids = first_rows d file.Agency (codes "agency_id")

  agency_known : is_empty agency_there ≡ false → is_some (first_row_with agency_ids agency_there) ≡ true
  agency_known filled =
      known_one d file.Agency (codes "agency_id") agency_there
      (or_parts (not (is_known d ((file.Agency, codes "agency_id") ∷ []) agency_there)) false
      (none_unknown d passes file.Routes n row "agency_id" (optional "agency_id" id) refl refl filled)).0

  not_many : is_empty agency_there ≡ true → has_many_agencies d ≡ false
  not_many empty =
      let told : ((is_row (records_in d file.Routes) n && (has_many_agencies d && is_empty agency_there)) || false) ≡ false =
      passes (record { file = kept file.Routes; row = n; code = code.E12; column = codes "agency_id" }) refl in
      and_first (has_many_agencies d) (rw (row, empty) at told)
    where
      and_first : (b : Bool) → ((b && true) || false) ≡ false → b ≡ false
      and_first true e = e
      and_first false e = refl

  first_of_one : (o : Option ℕ) → is_number_within 1 o ≡ true → unwrap_or o 0 ≡ 0
  first_of_one None within = refl
  first_of_one (Some k) within = let below : k ≡ 0 = grind (arith, nat_tests, within) in below

  -- the number is that of the only agency
  one_number : (m : ℕ) → rows d file.Agency ≡ m ∷ [] → (t : List ℕ) → unwrap_or (number_with agency_ids t) 0 ≡ 0
  one_number m one t = first_of_one (number_with agency_ids t) (subst (λ ids. is_number_within (length ids) (number_with agency_ids t) ≡ true) (only_id d file.Agency (codes "agency_id") m one) (number_within agency_ids t))

  only_agency : (ns : List ℕ) → rows d file.Agency ≡ ns → nat_lt 1 (length ns) ≡ false → (t : List ℕ)
      → text_of_number (ids_of d file.Agency "agency_id") (unwrap_or (number_with agency_ids t) 0) ≡ first_agency d ns
  only_agency [] none few t = let some : nat_lt 0 0 ≡ true = rw none at (has_agency d passes) in cc some
  only_agency (m ∷ []) one few t =
      ap (text_of_number (ids_of d file.Agency "agency_id")) (one_number m one t)
      ∙ ap (λ ids. text_of_number ids 0) (only_id d file.Agency (codes "agency_id") m one)
      ∙ sym (text_at_is d passes file.Agency m (agency_row m one) "agency_id" (optional "agency_id" id) refl refl)
    where
      agency_row : (m : ℕ) → rows d file.Agency ≡ m ∷ [] → is_row (records_in d file.Agency) m ≡ true
      agency_row m one = let passed = filter_passes (is_row (records_in d file.Agency)) (range_with_len 2 (length (records_in d file.Agency) - 1)) in
          (rw one at passed) 0 0 (omega arith)
  only_agency (m ∷ k ∷ ns) many few t = let below : nat_lt 1 (length (m ∷ k ∷ ns)) ≡ true = grind (arith, nat_tests) in cc (few, below)

  from_number : {w : Option (List ℕ)} {t : List ℕ} (e : List ℕ) (o : Option ℕ) → option_map (text_of_number (ids_of d file.Agency "agency_id")) o ≡ w → w ≡ Some t
      → text_of_number (ids_of d file.Agency "agency_id") (unwrap_or o 0) ≡ unwrap_or w e
  from_number e None is there = cc (is, there)
  from_number e (Some k) is there = ap (λ w. unwrap_or w e) is

  agency_is : text_of_number (ids_of d file.Agency "agency_id") (unwrap_or (number_with agency_ids agency_there) 0)
      ≡ unwrap_or (word_in d file.Routes n "agency_id") (first_agency d (rows d file.Agency))
  agency_is = elim (cases_Bool (is_empty agency_there)) [
    | inl empty ↦
        only_agency (rows d file.Agency) refl (not_many empty) agency_there
        ∙ ap (λ w. unwrap_or w (first_agency d (rows d file.Agency))) (sym (word_none d passes file.Routes n row "agency_id" (optional "agency_id" id) refl refl empty))
    | inr filled ↦
        from_number (first_agency d (rows d file.Agency)) (number_with agency_ids agency_there)
        (filled_named d passes file.Routes n row "agency_id" (optional "agency_id" id) refl refl file.Agency "agency_id" agency_known filled)
        (word_there d passes file.Routes n row "agency_id" (optional "agency_id" id) refl refl filled)
  ]

  -- the agency of a route, or the only one
  pub agency_named : (i : FirstRows) (t : List ℕ) (k : ℕ) → i ≡ agency_ids → t ≡ agency_there → k ≡ unwrap_or (number_with i t) 0
      → text_of_number (ids_of d file.Agency "agency_id") k ≡ unwrap_or (word_in d file.Routes n "agency_id") (first_agency d (rows d file.Agency))
  agency_named i t k same is number =
      ap (text_of_number (ids_of d file.Agency "agency_id")) (same_number (λ o. unwrap_or o 0) i agency_ids t agency_there k same is number) ∙ agency_is

-- a number that is that of a row, or the first one where there is a row
pub first_within : (i : FirstRows) (t : List ℕ) (k : ℕ) → k ≡ unwrap_or (number_with i t) 0 → nat_lt 0 (length (ids_of_column i)) ≡ true → nat_lt k (length (ids_of_column i)) ≡ true
first_within i t k number some = within (number_with i t) number (number_within i t)
  where
    within : (o : Option ℕ) → k ≡ unwrap_or o 0 → is_number_within (length (ids_of_column i)) o ≡ true → nat_lt k (length (ids_of_column i)) ≡ true
    within None number h = ap (λ k. nat_lt k (length (ids_of_column i))) number ∙ some
    within (Some m) number h = ap (λ k. nat_lt k (length (ids_of_column i))) number ∙ h

-- a column of a file that has a row has an id
rows_ids : (d : Dataset) (x : File) (column : List ℕ) → nat_lt 0 (length (rows d x)) ≡ true → nat_lt 0 (length (ids_of_column (first_rows d x column))) ≡ true
rows_ids d x column some = from (rows d x) refl some
  where
    some_within : (k : ℕ) (o : Option ℕ) → is_some o ≡ true → is_number_within k o ≡ true → nat_lt 0 k ≡ true
    some_within k None has within = cc has
    some_within k (Some m) has within = grind (arith, nat_tests, within)

    from : (ns : List ℕ) → rows d x ≡ ns → nat_lt 0 (length ns) ≡ true → nat_lt 0 (length (ids_of_column (first_rows d x column))) ≡ true
    from [] is some = cc some
    from (n ∷ ns) is some =
        let ids = first_rows d x column in
        let t = text_in d x n column in
        let here : find (λ m. bytes_eq (text_in d x m column) t) (n ∷ ns) ≡ Some n = rw (text_itself t) refl in
        let known : is_some (first_row_with ids t) ≡ true = ap is_some (first_row_is d x column t ∙ ap (find (λ m. bytes_eq (text_in d x m column) t)) is ∙ here) in
        some_within (length (ids_of_column ids)) (number_with ids t) (number_there ids t known) (number_within ids t)

-- the number of an agency, or of the only one, is that of an agency
pub agency_within : (d : Dataset) → Passes d → (i : FirstRows) (t : List ℕ) (k : ℕ) → i ≡ first_rows d file.Agency (codes "agency_id") → k ≡ unwrap_or (number_with i t) 0
    → nat_lt k (length (ids_of d file.Agency "agency_id")) ≡ true
agency_within d passes i t k same number =
    let j = first_rows d file.Agency (codes "agency_id") in
    first_within j t k (same_number (λ o. unwrap_or o 0) i j t t k same refl number) (rows_ids d file.Agency (codes "agency_id") (has_agency d passes))

pub end_within : (d : Dataset) (y : File) (target : Literal) (i : FirstRows) (t : List ℕ) (o : Option ℕ) → i ≡ first_rows d y (codes target) → o ≡ number_with i t
    → is_number_within (length (ids_of d y target)) o ≡ true
end_within d y target i t o same number =
    let j = first_rows d y (codes target) in
    ap (is_number_within (length (ids_of_column j))) (same_number (λ o. o) i j t t o same refl number) ∙ number_within j t

-- ---- references that are always there

some_number : (f : ℕ → List ℕ) (o : Option ℕ) (t : List ℕ) → option_map f o ≡ Some t → f (unwrap_or o 0) ≡ t
some_number f None t e = cc
some_number f (Some k) t e = cc

module _ (d : Dataset) (passes : Passes d) (n : ℕ) (row : is_row (records_in d file.Trips) n ≡ true) where
  abbrev route_there : List ℕ
  route_there = text_in d file.Trips n (codes "route_id")

  abbrev service_there : List ℕ
  service_there = text_in d file.Trips n (codes "service_id")

  abbrev route_ids : FirstRows
  route_ids = first_rows d file.Routes (codes "route_id")

  route_known : is_empty route_there ≡ false → is_some (first_row_with route_ids route_there) ≡ true
  route_known filled =
      known_one d file.Routes (codes "route_id") route_there
      (or_parts (not (is_known d ((file.Routes, codes "route_id") ∷ []) route_there)) false
      (none_unknown d passes file.Trips n row "route_id" (required "route_id" id) refl refl filled)).0

  route_filled : is_empty route_there ≡ false
  route_filled = filled_required d passes file.Trips n row "route_id" (required "route_id" id) refl refl refl

  pub route_named_by : (i : FirstRows) (t : List ℕ) (k : ℕ) → i ≡ route_ids → t ≡ route_there → k ≡ unwrap_or (number_with i t) 0
      → text_of_number (ids_of d file.Routes "route_id") k ≡ text_at d file.Trips n "route_id"
  route_named_by i t k same is number =
      ap (text_of_number (ids_of d file.Routes "route_id")) (same_number (λ o. unwrap_or o 0) i route_ids t route_there k same is number)
      ∙ some_number (text_of_number (ids_of d file.Routes "route_id")) (number_with route_ids route_there) route_there (numbered route_ids route_there (route_known route_filled))
      ∙ sym (text_at_is d passes file.Trips n row "route_id" (required "route_id" id) refl refl)

  pub route_within : (i : FirstRows) (t : List ℕ) (k : ℕ) → i ≡ route_ids → t ≡ route_there → k ≡ unwrap_or (number_with i t) 0
      → nat_lt k (length (ids_of d file.Routes "route_id")) ≡ true
  route_within i t k same is number =
      known_within (number_with route_ids route_there) (same_number (λ o. unwrap_or o 0) i route_ids t route_there k same is number)
      (number_there route_ids route_there (route_known route_filled)) (number_within route_ids route_there)
    where
      known_within : {k : ℕ} (o : Option ℕ) → k ≡ unwrap_or o 0 → is_some o ≡ true → is_number_within (length (ids_of_column route_ids)) o ≡ true
          → nat_lt k (length (ids_of_column route_ids)) ≡ true
      known_within None number has within = cc has
      known_within (Some m) number has within = ap (λ k. nat_lt k (length (ids_of_column route_ids))) number ∙ within

  found_contains : (f : ℕ → List ℕ) (ns : List ℕ) (t : List ℕ) → is_some (find (λ m. bytes_eq (f m) t) ns) ≡ true → Contains (map f ns) t
  found_contains f [] t e = cc
  found_contains f (m ∷ ns) t e = elim (cases_Bool (bytes_eq (f m) t)) [
    | inl here ↦ contains-first t (f m) (map f ns) ((bytes_eq-Decides (f m) t).0 here)
    | inr later ↦ contains-later t (f m) (map f ns) (found_contains f ns t (rw later at e))
  ]

  known_either : (a b : Bool) → not (a || (b || false)) ≡ false → (a ≡ true) ⊎ (b ≡ true)
  known_either true b e = inl refl
  known_either false true e = inr refl
  known_either false false e = cc

  service_known : Contains (service_texts d) service_there
  service_known =
      let filled = filled_required d passes file.Trips n row "service_id" (required "service_id" id) refl refl refl in
      let weeks = map (λ m. text_in d file.Calendar m (codes "service_id")) (rows d file.Calendar) in
      let dates = map (λ m. text_in d file.CalendarDates m (codes "service_id")) (rows d file.CalendarDates) in
      let known = (or_parts (not (is_known d ((file.Calendar, codes "service_id") ∷ (file.CalendarDates, codes "service_id") ∷ []) service_there)) false
      (none_unknown d passes file.Trips n row "service_id" (required "service_id" id) refl refl filled)).0 in
      elim (known_either (is_some (row_with d file.Calendar (codes "service_id") service_there)) (is_some (row_with d file.CalendarDates (codes "service_id") service_there)) known) [
        | inl week ↦ Contains-append_left weeks dates service_there (found_contains (λ m. text_in d file.Calendar m (codes "service_id")) (rows d file.Calendar) service_there week)
        | inr date ↦ Contains-append_right weeks dates service_there (found_contains (λ m. text_in d file.CalendarDates m (codes "service_id")) (rows d file.CalendarDates) service_there date)
      ]

  number_of_text : (ids : List (List ℕ)) (t : List ℕ) (o : Option ℕ) → NumbersText ids t o → Contains ids t → text_of_number ids (unwrap_or o 0) ≡ t
  number_of_text ids t None missing at = absurd (missing at.0 t at.1 at.2)
  number_of_text ids t (Some k) found at = found.1

  text_within : (ids : List (List ℕ)) (t : List ℕ) (o : Option ℕ) → NumbersText ids t o → Contains ids t → nat_lt (unwrap_or o 0) (length ids) ≡ true
  text_within ids t None missing at = absurd (missing at.0 t at.1 at.2)
  text_within ids t (Some k) found at = let below = found.0 in grind (arith, nat_tests, below)

  pub service_named_by : (ids : List (List ℕ)) (t : List ℕ) (o : Option ℕ) → ids ≡ service_ids d → HasAll (service_texts d) ids → t ≡ service_there → NumbersText ids t o
      → text_of_number (service_ids d) (unwrap_or o 0) ≡ text_at d file.Trips n "service_id"
  service_named_by ids t o same all is answer =
      ap (λ ids. text_of_number ids (unwrap_or o 0)) (sym same)
      ∙ number_of_text ids t o answer (subst (Contains ids) (sym is) (all service_there service_known)) ∙ is
      ∙ sym (text_at_is d passes file.Trips n row "service_id" (required "service_id" id) refl refl)

  pub service_within : (ids : List (List ℕ)) (t : List ℕ) (o : Option ℕ) → ids ≡ service_ids d → HasAll (service_texts d) ids → t ≡ service_there → NumbersText ids t o
      → nat_lt (unwrap_or o 0) (length (service_ids d)) ≡ true
  service_within ids t o same all is answer =
      ap (λ ids. nat_lt (unwrap_or o 0) (length ids)) (sym same) ∙ text_within ids t o answer (subst (Contains ids) (sym is) (all service_there service_known))
