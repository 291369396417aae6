-- What the rows of a dataset that passes name is in its content: E10 and E11.
use Rattle.std.proofs.Common.{◌≡◌, ◌∙◌, ℕ, List, map, true, false, Bool, Option, Some, None, refl, sym, ap, subst, inl, inr}
use Rattle.std.specs.Prelude.{◌==◌, ◌&&◌, ◌||◌, not, bytes_eq, codes, find, is_some, option_and_then, option_map, pos}
use Prim.Native.String.{String as Literal}
use Rattle.std.specs.Cmp.Lexicographic.{nat_list_cmp_total}
use Rattle.std.specs.List.{Contains, list_any}
use Rattle.std.specs.Ordering.{is_eq, eq_by_cmp, int_eq}
use Rattle.std.specs.Cmp.{tied_itself}
use Rattle.std.proofs.lemmas.Bool.{not-false as not_false, or_cases}
use Rattle.std.proofs.lemmas.List.Elements.{Contains-append_left, Contains-append_right}
use Rattle.gtfs_field.proofs.OrderingFacts.{equal as tie_from}
use Rattle.gtfs_field.proofs.ListFacts.{any_alike}
use Rattle.gtfs_field.specs.TextOrder.{text_cmp}
use Rattle.gtfs_table.specs.Rows.{is_row, records_in, rows}
use Rattle.gtfs_table.specs.Tables.{Dataset}
use Rattle.gtfs_table.specs.declared.file.File.{File}
use Rattle.gtfs_table.specs.declared.file.File.TheVariants as file
use Rattle.gtfs_schema.specs.declared.code.Code.{Code}
use Rattle.gtfs_schema.specs.declared.code.Code.TheVariants as code
use Rattle.gtfs_schema.specs.Codes.{is_error}
use Rattle.gtfs_schema.specs.Columns.{id, column_named, required, up_to}
use Rattle.gtfs_schema.specs.KeyRules.{is_known}
use Rattle.gtfs_schema.specs.Problems.{Passes, holds_in, kept}
use Rattle.gtfs_schema.specs.References.{references}
use Rattle.gtfs_schema.specs.RowConditions.{is_file, text_in, value_in, word_in, choice_in, row_with}
use Rattle.gtfs_schema.specs.StopRules.{names_none_of}
use Rattle.gtfs_schema.specs.FieldValues.{if_there, is_one_of}
use Rattle.gtfs_schema.proofs.BoolFacts.{same_test}
use Rattle.gtfs_schema.proofs.SiteFacts.{text_is, text_itself}
use Rattle.gtfs_rows.specs.TransferOrder.{by_key}
use Rattle.gtfs_rows.specs.ContentRead.{text_at, number_at, stop_in, agency_in, route_in, trip_in, services_named, service_row_in, content_of}
use Rattle.gtfs_rows.specs.Rows.{Stop}
use Rattle.gtfs_rows.specs.SoundContent.{has_id, is_stop_of}
use Rattle.gtfs_rows.proofs.ContentRows.{row_of}
use Rattle.gtfs_rows.proofs.PassedCells.{digit_cut}
use Rattle.gtfs_rows.proofs.Held.{text_antisymmetric}
use Rattle.gtfs_rows.proofs.KeyedRows.{any_from, find_agree, find_map, found_is, find_by_key, stays, ties}
use Rattle.gtfs_rows.proofs.PassedValues.{required_id, given_id, choice_is}
use Rattle.gtfs_rows.proofs.ReferenceCodes.{same_code}
use Rattle.gtfs_rows.proofs.SameElements.{contains-map}

-- ---- tests

-- what follows a test that holds
pub after : (a b : Bool) → a ≡ true → (a && b) ≡ false → b ≡ false
after true b h e = e
after false b h e = cc

pub after_one : (a b : Bool) → a ≡ true → ((a && b) || false) ≡ false → b ≡ false
after_one true true h e = cc
after_one true false h e = refl
after_one false b h e = cc

pub one_known : (a : Bool) → (not (a || false) || false) ≡ false → a ≡ true
one_known true e = refl
one_known false e = cc

equal_texts : (t u : List ℕ) → eq_by_cmp text_cmp t u ≡ bytes_eq u t
equal_texts t u = same_test (eq_by_cmp text_cmp t u) (bytes_eq u t)
    (λ e. ap (bytes_eq u) (text_antisymmetric t u (tie_from (text_cmp t u) e)) ∙ text_itself u)
    (λ e. ap (λ v. is_eq (text_cmp t v)) (text_is u t e) ∙ ap is_eq (tied_itself nat_list_cmp_total t))

-- ---- ids

module _ {A X : Type 0} (id' : X → List ℕ) (f : A → X) where
  -- the id of each row that a list is made of is in the content
  pub has_made : (ns : List A) (m : A) → Contains ns m → has_id id' (by_key text_cmp id' (map f ns)) (id' (f m)) ≡ true
  has_made ns m at =
      let s = stays text_cmp nat_list_cmp_total id' (map f ns) (f m) (contains-map f ns m at) in
      any_from (λ x. bytes_eq (id' x) (id' (f m))) (by_key text_cmp id' (map f ns)) s.row s.among
      (ap (λ t. bytes_eq t (id' (f m))) (sym (text_antisymmetric (id' (f m)) (id' s.row) s.tied)) ∙ text_itself (id' (f m)))

-- the row that a look-up finds
pub record HasRow (d : Dataset) (x : File) (column : List ℕ) (t : List ℕ) : Type 0 where
  pub row : ℕ
  pub found : row_with d x column t ≡ Some row
  pub among : Contains (rows d x) row
  pub named : text_in d x row column ≡ t

some_is : {X : Type 0} (o : Option X) → is_some o ≡ true → (x : X) × (o ≡ Some x)
some_is None e = cc
some_is (Some x) e = (x, refl)

pub has_row : (d : Dataset) (x : File) (column : List ℕ) (t : List ℕ) → is_some (row_with d x column t) ≡ true → HasRow d x column t
has_row d x column t there =
    let m = some_is (row_with d x column t) there in
    let is = found_is (λ n. bytes_eq (text_in d x n column) t) (rows d x) m.0 m.1 in
    record { row = m.0; found = m.1; among = is.among; named = text_is (text_in d x m.0 column) t is.passes }

module _ (d : Dataset) (passes : Passes d) where
  pub no_error : (e : Code) (x : File) (n : ℕ) (name : List ℕ) → is_error e ≡ true → holds_in e d x n name ≡ false
  no_error e x n name error = passes (record { file = kept x; row = n; code = e; column = name }) error

  -- E10: no reference of the row is unknown
  pub none_unknown : (x : File) (n : ℕ) (name : List ℕ) → is_row (records_in d x) n ≡ true → is_some (value_in d x n name) ≡ true
      → list_any (λ r. is_file r.file x && bytes_eq r.column name && not (is_known d r.targets (text_in d x n name))) references ≡ false
  none_unknown x n name row there =
      let some = is_some (value_in d x n name) in
      after some _ there (after_two (is_row (records_in d x) n) some _ row (no_error code.E10 x n name refl))
    where
      after_two : (a b c : Bool) → a ≡ true → (a && b && c) ≡ false → (b && c) ≡ false
      after_two true b c h e = e
      after_two false b c h e = cc

  -- an id that a file has is that of a row made of it
  pub known_id : {X : Type 0} (x : File) (column : Literal) (id' : X → List ℕ) (f : ℕ → X) → ((n : ℕ) → Contains (rows d x) n → text_in d x n (codes column) ≡ id' (f n))
      → (t : List ℕ) → is_some (row_with d x (codes column) t) ≡ true → has_id id' (by_key text_cmp id' (map f (rows d x))) t ≡ true
  known_id x column id' f same t there =
      let r = has_row d x (codes column) t there in
      subst (λ u. has_id id' (by_key text_cmp id' (map f (rows d x))) u ≡ true) (sym (same r.row r.among) ∙ r.named) (has_made id' f (rows d x) r.row r.among)

  pub route_known : (t : List ℕ) → is_some (row_with d file.Routes (codes "route_id") t) ≡ true → has_id (λ r. r.route_id) (content_of d).routes t ≡ true
  route_known = known_id file.Routes "route_id" (λ r. r.route_id) (route_in d) (λ n at. required_id d passes file.Routes n (row_of d file.Routes n at) "route_id" refl)

  pub trip_known : (t : List ℕ) → is_some (row_with d file.Trips (codes "trip_id") t) ≡ true → has_id (λ r. r.trip_id) (content_of d).trips t ≡ true
  trip_known = known_id file.Trips "trip_id" (λ t. t.trip_id) (trip_in d) (λ n at. required_id d passes file.Trips n (row_of d file.Trips n at) "trip_id" refl)

  pub agency_known : (t : List ℕ) → is_some (row_with d file.Agency (codes "agency_id") t) ≡ true → has_id (λ a. a.agency_id) (content_of d).agencies t ≡ true
  agency_known = known_id file.Agency "agency_id" (λ a. a.agency_id) (agency_in d) (λ n at. given_id d passes file.Agency n (row_of d file.Agency n at) "agency_id" refl)

  pub service_known : (t : List ℕ) → (is_some (row_with d file.Calendar (codes "service_id") t) || is_some (row_with d file.CalendarDates (codes "service_id") t)) ≡ true
      → has_id (λ s. s.service_id) (content_of d).services t ≡ true
  service_known t there = elim (or_cases (is_some (row_with d file.Calendar (codes "service_id") t)) (is_some (row_with d file.CalendarDates (codes "service_id") t)) there) [
    | inl week ↦
        let r = has_row d file.Calendar (codes "service_id") t week in
        named t (Contains-append_left weeks days t (in_file file.Calendar refl t r))
    | inr day ↦
        let r = has_row d file.CalendarDates (codes "service_id") t day in
        named t (Contains-append_right weeks days t (in_file file.CalendarDates refl t r))
  ]
    where
      weeks : List (List ℕ)
      weeks = map (λ n. text_at d file.Calendar n "service_id") (rows d file.Calendar)

      days : List (List ℕ)
      days = map (λ n. text_at d file.CalendarDates n "service_id") (rows d file.CalendarDates)

      in_file : (x : File) → column_named x (codes "service_id") ≡ Some (required "service_id" id) → (t : List ℕ) → HasRow d x (codes "service_id") t → Contains (map (λ n. text_at d x n "service_id") (rows d x)) t
      in_file x there t r =
          subst (Contains (map (λ n. text_at d x n "service_id") (rows d x))) (sym (required_id d passes x r.row (row_of d x r.row r.among) "service_id" there) ∙ r.named)
          (contains-map (λ n. text_at d x n "service_id") (rows d x) r.row r.among)

      named : (t : List ℕ) → Contains (services_named d) t → has_id (λ s. s.service_id) (content_of d).services t ≡ true
      named t at = has_made (λ s. s.service_id) (service_row_in d) (services_named d) t at

  -- ---- stops

  -- the stop of an id in the content is that of the first row with it
  pub stop_found : (t : List ℕ) → find (λ s. bytes_eq s.stop_id t) (content_of d).stops ≡ option_map (stop_in d) (row_with d file.Stops (codes "stop_id") t)
  stop_found t =
      sym (λ i. find (λ (s : Stop). equal_texts t s.stop_id i) (content_of d).stops)
      ∙ find_by_key text_cmp nat_list_cmp_total (λ s. s.stop_id) t (map (stop_in d) (rows d file.Stops))
      ∙ find_map (stop_in d) (ties text_cmp nat_list_cmp_total (λ (s : Stop). s.stop_id) t) (rows d file.Stops)
      ∙ ap (option_map (stop_in d)) (find_agree (λ m. eq_by_cmp text_cmp t (text_at d file.Stops m "stop_id")) (λ m. bytes_eq (text_in d file.Stops m (codes "stop_id")) t) (rows d file.Stops)
      (λ m at. equal_texts t (text_at d file.Stops m "stop_id") ∙ ap (λ u. bytes_eq u t) (sym (required_id d passes file.Stops m (row_of d file.Stops m at) "stop_id" refl))))

  -- a reference to a stop of a wanted type
  pub stop_of_type : (types : List ℕ) (x : File) (n : ℕ) (name : Literal) (t : List ℕ) → word_in d x n name ≡ Some t → is_some (row_with d file.Stops (codes "stop_id") t) ≡ true
      → names_none_of types x name d n ≡ false → is_stop_of (content_of d) types t ≡ true
  stop_of_type types x n name t there known wanted =
      let r = has_row d file.Stops (codes "stop_id") t known in
      let type = number_at d file.Stops r.row "location_type" in
      let kind = choice_is d passes file.Stops r.row (row_of d file.Stops r.row r.among) "location_type" (up_to 4) "0" refl digit_cut refl in
      let wanted_is : not (is_one_of types (pos type)) ≡ false =
      sym (ap (λ o. if_there (option_and_then (λ m. choice_in d file.Stops m "location_type") (option_and_then (row_with d file.Stops (codes "stop_id")) o)) (λ u. not (is_one_of types u))) there
      ∙ ap (λ o. if_there (option_and_then (λ m. choice_in d file.Stops m "location_type") o) (λ u. not (is_one_of types u))) r.found
      ∙ ap (λ o. if_there o (λ u. not (is_one_of types u))) kind) ∙ wanted in
      ap (λ o. if_there o (λ (s : Stop). list_any (λ w. w == s.location_type) types)) (stop_found t ∙ ap (option_map (stop_in d)) r.found)
      ∙ any_alike (λ w. w == type) (λ w. int_eq (pos type) (pos w)) types (λ w. same_code w type)
      ∙ not_false (is_one_of types (pos type)) wanted_is
