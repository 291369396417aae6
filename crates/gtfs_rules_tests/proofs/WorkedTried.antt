-- Every problem of a dataset is among those that the worked reports try: at its row, of its code, and at no column, at a
-- kept column or at another name of the header.
use Rattle.std.proofs.Common.{arith, ◌≡◌, ◌+◌, ◌<◌, ◌∷◌, [], ℕ, List, length, map, true, false, Bool, refl, sym, ap, ◌∙◌, Option, Some, None, is_some, codes, inl, inr}
use Rattle.std.specs.Prelude.{◌==◌, ◌&&◌, ◌||◌, not, nat_lt, nat_le, bytes_eq, count_by, filter, flat_map, option_and_then}
use Rattle.std.specs.List.{list_any, list_all}
use Rattle.std.specs.Ordering.{is_eq}
use Rattle.std.proofs.lemmas.Bool.{and_from, eqb-true, not-true, or_cases}
use Rattle.std.proofs.lemmas.Bool.Decides.{nat_tests}
use Rattle.std.proofs.lemmas.List.Concat.{flat_map-cons}
use Rattle.std.proofs.lemmas.List.Folds.{list_any-append}
use Rattle.std.proofs.lemmas.Map.Views.{any-filter_same}
use Rattle.gtfs_field.proofs.ListFacts.{any_mapped, count_any}
use Rattle.gtfs_table.specs.TablesRead.{kept_files}
use Rattle.gtfs_table.specs.Rows.{has_no_record, is_empty, is_row, records_in}
use Rattle.gtfs_table.specs.Tables.{Dataset, Records}
use Rattle.gtfs_table.specs.declared.file.File.{File}
use Rattle.gtfs_table.specs.declared.file.File.TheVariants as file
use Rattle.gtfs_schema.specs.Codes.{all_codes}
use Rattle.gtfs_schema.specs.Columns.{Column, column_named, columns_of}
use Rattle.gtfs_schema.specs.ColumnRules.{is_required}
use Rattle.gtfs_schema.specs.FieldRules.{in_row, is_form_fault, is_id, is_range_fault, is_text}
use Rattle.gtfs_schema.specs.FileRules.{file_not_kept, is_at, is_needed, is_read}
use Rattle.gtfs_schema.specs.PeriodRules.{ends_at_start, overlaps_earlier}
use Rattle.gtfs_schema.specs.PresenceRules.{has_other_zone}
use Rattle.gtfs_schema.specs.Problems.{FileName, kept, other, Problem, holds, holds_in, is_code, lists_problem, is_problem, problem_cmp}
use Rattle.gtfs_schema.specs.References.{reported_column}
use Rattle.gtfs_schema.specs.RowConditions.{file_rank, header, is_file, is_kept_column, is_named, text_in, times_named, value_in}
use Rattle.gtfs_schema.specs.ServiceRules.{ends_before_start, is_never_active}
use Rattle.gtfs_schema.specs.TripRules.{goes_back, has_few_rows, is_end_untimed, lacks_time, leaves_early}
use Rattle.gtfs_schema.specs.FieldValues.{Value, has_control, if_there, read_as, readable}
use Rattle.gtfs_schema.specs.declared.code.Code.{Code}
use Rattle.gtfs_schema.specs.declared.code.Code.TheVariants as code
use Rattle.gtfs_schema.proofs.BoolFacts.{and_parts, or_left, or_right}
use Rattle.gtfs_schema.proofs.EachFacts.{any_follows, any_in_range}
use Rattle.gtfs_schema.proofs.FieldRowFacts.{empty_is}
use Rattle.gtfs_schema.proofs.NamedFacts.{has_name, kept_any}
use Rattle.gtfs_schema.proofs.SiteFacts.{code_is, same_itself, text_is}
use Rattle.gtfs_schema.proofs.StepFacts.{Reported, condition_of}
use Rattle.gtfs_schema.proofs.StopTypeFacts.{kind_rules}
use Rattle.gtfs_row_rules.proofs.PresenceFacts.{presence_rules}
use Rattle.gtfs_schema.specs.steps.ProblemOrder.{same_file}
use Rattle.gtfs_rules_tests.proofs.WorkedFeeds.{names_tried, problems_of_others, problems_tried, rows_tried, tried}

-- ---- members of lists of lists

any_flat : {X Y : Type 0} (t : Y → Bool) (f : X → List Y) (xs : List X) → list_any t (flat_map f xs) ≡ list_any (λ x. list_any t (f x)) xs
any_flat t f [] = refl
any_flat t f (x ∷ xs) =
    ap (list_any t) (flat_map-cons f x xs)
    ∙ list_any-append t (f x) (flat_map f xs)
    ∙ ap (λ b. list_any t (f x) || b) (any_flat t f xs)

file_of : (x y : File) → is_file x y ≡ true → y ≡ x
file_of x y same = sym (same_file x y (eqb-true (file_rank x) (file_rank y) same))

any_file : (g : File → Bool) (x : File) → g x ≡ true → list_any g kept_files ≡ true
any_file g x here = any_follows (λ y. is_file x y) g kept_files
    (λ y same. ap g (file_of x y same) ∙ here) (listed_file x)
  where
    listed_file : (x : File) → list_any (λ y. is_file x y) kept_files ≡ true
    listed_file file.Agency = refl
    listed_file file.Stops = refl
    listed_file file.Routes = refl
    listed_file file.Trips = refl
    listed_file file.StopTimes = refl
    listed_file file.Calendar = refl
    listed_file file.CalendarDates = refl
    listed_file file.Frequencies = refl
    listed_file file.Transfers = refl

any_code : (g : Code → Bool) (c : Code) → g c ≡ true → list_any g all_codes ≡ true
any_code g c here = any_follows (λ k. is_code c k) g all_codes
    (λ k same. ap g (sym (code_is c k same)) ∙ here) (listed_code c)
  where
    listed_code : (c : Code) → list_any (λ k. is_code c k) all_codes ≡ true
    listed_code code.E01 = refl
    listed_code code.E02 = refl
    listed_code code.E03 = refl
    listed_code code.E04 = refl
    listed_code code.E05 = refl
    listed_code code.E06 = refl
    listed_code code.E07 = refl
    listed_code code.E08 = refl
    listed_code code.E09 = refl
    listed_code code.E10 = refl
    listed_code code.E11 = refl
    listed_code code.E12 = refl
    listed_code code.E13 = refl
    listed_code code.E14 = refl
    listed_code code.E15 = refl
    listed_code code.E16 = refl
    listed_code code.E17 = refl
    listed_code code.E18 = refl
    listed_code code.E19 = refl
    listed_code code.E20 = refl
    listed_code code.W01 = refl
    listed_code code.W02 = refl
    listed_code code.W03 = refl
    listed_code code.W04 = refl
    listed_code code.W05 = refl
    listed_code code.W06 = refl
    listed_code code.W07 = refl
    listed_code code.W08 = refl

-- ---- the sites that are tried

-- the row is the file as a whole or one of its records, and the name one of those tried
record IsTried (d : Dataset) (x : File) (n : ℕ) (name : List ℕ) : Type 0 where
  pub row : n < length (records_in d x) + 1
  pub named : list_any (bytes_eq name) (names_tried d x) ≡ true

abbrev problem_in : FileName → ℕ → Code → List ℕ → Problem
problem_in f n c name = record { file = f; row = n; code = c; column = name }

the_named : (f : FileName) (n : ℕ) (c : Code) (name other_name : List ℕ) → bytes_eq name other_name ≡ true
    → is_eq (problem_cmp (problem_in f n c name) (problem_in f n c other_name)) ≡ true
the_named f n c name other_name same =
    ap (λ t. is_eq (problem_cmp (problem_in f n c name) (problem_in f n c t))) (sym (text_is name other_name same))
    ∙ same_itself (problem_in f n c name)

kept_listed : (d : Dataset) (c : Code) (x : File) (n : ℕ) (name : List ℕ) → IsTried d x n name
    → lists_problem (tried d) (problem_in (kept x) n c name) ≡ true
kept_listed d c x n name site =
    let p = problem_in (kept x) n c name in
    let t : Problem → Bool = λ q. is_eq (problem_cmp p q) in
    let here : list_any t (problems_tried d x n) ≡ true =
    any_flat t (λ k. map (λ tried_name. problem_in (kept x) n k tried_name) (names_tried d x)) all_codes
    ∙ any_code (λ k. list_any t (map (λ tried_name. problem_in (kept x) n k tried_name) (names_tried d x))) c
    (any_mapped t (λ tried_name. problem_in (kept x) n c tried_name) (names_tried d x)
    ∙ any_follows (bytes_eq name) (λ tried_name. t (problem_in (kept x) n c tried_name)) (names_tried d x)
    (λ tried_name same. the_named (kept x) n c name tried_name same) site.named) in
    let same_row : n + 0 ≡ n = omega arith in
    let in_file : list_any t (flat_map (problems_tried d x) (rows_tried d x)) ≡ true =
    any_flat t (problems_tried d x) (rows_tried d x)
    ∙ any_in_range (λ m. list_any t (problems_tried d x m)) 0 (length (records_in d x) + 1) n site.row
    (ap (λ m. list_any t (problems_tried d x m)) same_row ∙ here) in
    list_any-append t (flat_map (λ y. flat_map (problems_tried d y) (rows_tried d y)) kept_files) (problems_of_others d)
    ∙ or_left _ (list_any t (problems_of_others d))
    (any_flat t (λ y. flat_map (problems_tried d y) (rows_tried d y)) kept_files
    ∙ any_file (λ y. list_any t (flat_map (problems_tried d y) (rows_tried d y))) x in_file)

other_listed : (d : Dataset) (c : Code) (file_named : List ℕ) (n : ℕ) (name : List ℕ) → file_not_kept d file_named n name ≡ true
    → lists_problem (tried d) (problem_in (other file_named) n c name) ≡ true
other_listed d c file_named n name h =
    let parts = and_parts (is_at 0 n name) (list_any (bytes_eq file_named) d.others) h in
    let at = and_parts (n == 0) (is_empty name) parts.0 in
    let p = problem_in (other file_named) n c name in
    let t : Problem → Bool = λ q. is_eq (problem_cmp p q) in
    list_any-append t (flat_map (λ y. flat_map (problems_tried d y) (rows_tried d y)) kept_files) (problems_of_others d)
    ∙ or_right (list_any t (flat_map (λ y. flat_map (problems_tried d y) (rows_tried d y)) kept_files)) _
    (any_flat t (λ other_name. map (λ k. problem_in (other other_name) 0 k []) all_codes) d.others
    ∙ any_follows (bytes_eq file_named) (λ other_name. list_any t (map (λ k. problem_in (other other_name) 0 k []) all_codes)) d.others
    (λ other_name same. any_mapped t (λ k. problem_in (other other_name) 0 k []) all_codes
    ∙ any_code (λ k. t (problem_in (other other_name) 0 k [])) c
    (the_other c file_named other_name n name same at.0 (empty_is name ∙ at.1))) parts.1)
  where
    the_other : (c : Code) (file_named other_name : List ℕ) (n : ℕ) (name : List ℕ) → bytes_eq file_named other_name ≡ true → (n == 0) ≡ true → bytes_eq name [] ≡ true
        → is_eq (problem_cmp (problem_in (other file_named) n c name) (problem_in (other other_name) 0 c [])) ≡ true
    the_other c file_named other_name n name same first none =
        (λ i. is_eq (problem_cmp (problem_in (other file_named) n c name)
        (problem_in (other (sym (text_is file_named other_name same) i)) (sym (eqb-true n 0 first) i) c (sym (text_is name [] none) i))))
        ∙ same_itself (problem_in (other file_named) n c name)

-- ---- names that are tried

module _ (d : Dataset) (x : File) (name : List ℕ) where
  no_name : is_empty name ≡ true → list_any (bytes_eq name) (names_tried d x) ≡ true
  no_name none = or_left (bytes_eq name []) _ (empty_is name ∙ none)

  abbrev kept_names : List (List ℕ)
  kept_names = map (λ c. c.name) (columns_of x)

  abbrev is_other_name : List ℕ → Bool
  is_other_name t = not (is_empty t) && not (is_kept_column x t)

  abbrev other_names : List (List ℕ)
  other_names = filter is_other_name (header (records_in d x))

  kept_name : (test : Column → Bool) → if_there (column_named x name) test ≡ true → list_any (bytes_eq name) (names_tried d x) ≡ true
  kept_name test there = or_right (bytes_eq name []) _
      (list_any-append (bytes_eq name) kept_names other_names
      ∙ or_left (list_any (bytes_eq name) kept_names) _
      (any_mapped (bytes_eq name) (λ c. c.name) (columns_of x)
      ∙ any_follows (λ c. has_name name c && test c) (λ c. bytes_eq name c.name) (columns_of x)
      (λ c here. (and_parts (has_name name c) (test c) here).0) (kept_any x name test ∙ there)))

  kept_column : is_kept_column x name ≡ true → list_any (bytes_eq name) (names_tried d x) ≡ true
  kept_column there = kept_name (λ c. true) (sym (some_there (column_named x name)) ∙ there)
    where
      some_there : {X : Type 0} (o : Option X) → is_some o ≡ if_there o (λ c. true)
      some_there None = refl
      some_there (Some c) = refl

  value_column : (n : ℕ) → is_some (value_in d x n name) ≡ true → list_any (bytes_eq name) (names_tried d x) ≡ true
  value_column n there =
      let value_of : Column → Option Value = λ c. readable c.kind (text_in d x n name) in
      kept_name (λ c. is_some (value_of c)) (sym (then_there (column_named x name) value_of) ∙ there)
    where
      then_there : {X Y : Type 0} (o : Option X) (f : X → Option Y) → is_some (option_and_then f o) ≡ if_there o (λ c. is_some (f c))
      then_there None f = refl
      then_there (Some c) f = refl

  other_column : is_named d x name ≡ true → is_empty name ≡ false → is_kept_column x name ≡ false → list_any (bytes_eq name) (names_tried d x) ≡ true
  other_column named filled unkept = or_right (bytes_eq name []) _
      (list_any-append (bytes_eq name) kept_names other_names
      ∙ or_right (list_any (bytes_eq name) kept_names) _
      (any-filter_same (bytes_eq name) is_other_name true
      (λ t same. ap is_other_name (sym (text_is name t same)) ∙ rw (filled, unkept) refl) (header (records_in d x))
      ∙ sym (count_any (bytes_eq name) (header (records_in d x))) ∙ named))

-- ---- rows that are tried

record_row : (rs : Records) (n : ℕ) → is_row rs n ≡ true → n < length rs + 1
record_row rs n row =
    let first = and_parts (nat_lt 1 n && nat_le n (length rs)) _ row in
    let inside : nat_le n (length rs) ≡ true = (and_parts (nat_lt 1 n) (nat_le n (length rs)) first.0).1 in
    grind (arith, nat_tests, inside)

-- a header that has a name is there
header_row : (rs : Records) (name : List ℕ) (k : ℕ) → nat_lt k (count_by (bytes_eq name) (header rs)) ≡ true → 1 < length rs + 1
header_row [] name k h = let none : nat_lt k 0 ≡ true = h in grind (arith, nat_tests, none)
header_row (r ∷ rs) name k h = omega arith

filled_row : (d : Dataset) (x : File) → not (has_no_record d x) ≡ true → 1 < length (records_in d x) + 1
filled_row d x h = let none : (length (records_in d x) == 0) ≡ false = not-true _ h in grind (arith, nat_tests, none)

module _ (d : Dataset) (x : File) (n : ℕ) (name : List ℕ) where
  -- at the file as a whole, or at its header
  at_file : is_at 0 n name ≡ true → IsTried d x n name
  at_file h =
      let parts = and_parts (n == 0) (is_empty name) h in
      let same : n ≡ 0 = eqb-true n 0 parts.0 in
      record { row = rw same (omega arith); named = no_name d x name parts.1 }

  at_header : 1 < length (records_in d x) + 1 → (n == 1) ≡ true → list_any (bytes_eq name) (names_tried d x) ≡ true → IsTried d x n name
  at_header there first named = let same : n ≡ 1 = eqb-true n 1 first in record { row = rw same there; named = named }

  at_kept_row : (test : Column → List ℕ → Bool) → in_row test d x n name ≡ true → IsTried d x n name
  at_kept_row test h =
      let parts = and_parts (is_row (records_in d x) n) (if_there (column_named x name) (λ c. test c _)) h in
      record { row = record_row (records_in d x) n parts.0; named = kept_name d x name (λ c. test c _) parts.1 }

  at_no_name : (longer : Bool) → (is_empty name && is_row (records_in d x) n && longer) ≡ true → IsTried d x n name
  at_no_name longer h =
      let parts = and_parts (is_empty name && is_row (records_in d x) n) longer h in
      let first = and_parts (is_empty name) (is_row (records_in d x) n) parts.0 in
      record { row = record_row (records_in d x) n first.1; named = no_name d x name first.0 }

  -- where a rule is reported at a kept column of its file
  abbrev are_kept : List Reported → Bool
  are_kept rules = list_all (λ t. is_kept_column t.0 (codes t.1)) rules

  by_rules : (rules : List Reported) → are_kept rules ≡ true → condition_of rules d x n name ≡ true → IsTried d x n name
  by_rules [] all h = cc h
  by_rules (t ∷ rules) all h =
      let kept_all = and_parts (is_kept_column t.0 (codes t.1)) (are_kept rules) all in
      elim (or_cases _ (condition_of rules d x n name) h) [
        | inl here ↦
            let reported = and_parts (is_file x t.0 && bytes_eq name (codes t.1) && is_row (records_in d t.0) n) (t.2 d n) here in
            let sited = and_parts (is_file x t.0 && bytes_eq name (codes t.1)) (is_row (records_in d t.0) n) reported.0 in
            let site = and_parts (is_file x t.0) (bytes_eq name (codes t.1)) sited.0 in
            let same : t.0 ≡ x = file_of x t.0 site.0 in
            record {
              row = record_row (records_in d x) n (ap (λ y. is_row (records_in d y) n) (sym same) ∙ sited.1);
              named = kept_column d x name ((λ i. is_kept_column (sym same i) (text_is name (codes t.1) site.1 i)) ∙ kept_all.0);
            }
        | inr later ↦ by_rules rules kept_all.1 later
      ]

  by_rule : (t : Reported) → is_kept_column t.0 (codes t.1) ≡ true → condition_of (t ∷ []) d x n name ≡ true → IsTried d x n name
  by_rule t all h = by_rules (t ∷ []) (and_from (is_kept_column t.0 (codes t.1)) true all refl) h

  at_key : is_kept_column x (reported_column x) ≡ true → (repeats : Bool) → (bytes_eq name (reported_column x) && is_row (records_in d x) n && repeats) ≡ true → IsTried d x n name
  at_key kept_key repeats h =
      let parts = and_parts (bytes_eq name (reported_column x) && is_row (records_in d x) n) repeats h in
      let first = and_parts (bytes_eq name (reported_column x)) (is_row (records_in d x) n) parts.0 in
      record {
        row = record_row (records_in d x) n first.1;
        named = kept_column d x name (ap (is_kept_column x) (text_is name (reported_column x) first.0) ∙ kept_key);
      }

key_kept : (x : File) → is_kept_column x (reported_column x) ≡ true
key_kept file.Agency = refl
key_kept file.Stops = refl
key_kept file.Routes = refl
key_kept file.Trips = refl
key_kept file.StopTimes = refl
key_kept file.Calendar = refl
key_kept file.CalendarDates = refl
key_kept file.Frequencies = refl
key_kept file.Transfers = refl

-- ---- the codes, one by one

abbrev service_rules : List Reported
service_rules =
    (file.Calendar, "service_id", is_never_active file.Calendar)
    ∷ (file.CalendarDates, "service_id", is_never_active file.CalendarDates)
    ∷ []

abbrev time_rules : List Reported
time_rules =
    (file.StopTimes, "arrival_time", lacks_time "arrival_time" "departure_time")
    ∷ (file.StopTimes, "departure_time", lacks_time "departure_time" "arrival_time")
    ∷ []

module _ (d : Dataset) (x : File) (n : ℕ) (name : List ℕ) where
  alone : (b : Bool) → b ≡ true → (b || false) ≡ true
  alone b h = or_left b false h

  file_empty_tried : holds_in code.E05 d x n name ≡ true → IsTried d x n name
  file_empty_tried h =
      let either = (and_parts (is_needed x && is_read d x) _ h).1 in
      elim (or_cases (is_at 0 n name && has_no_record d x) _ either) [
        | inl whole ↦ at_file d x n name (and_parts (is_at 0 n name) (has_no_record d x) whole).0
        | inr agencies ↦
            let third = and_parts (is_at 1 n name && is_file x file.Agency && not (has_no_record d x)) _ agencies in
            let second = and_parts (is_at 1 n name && is_file x file.Agency) (not (has_no_record d x)) third.0 in
            let first = and_parts (is_at 1 n name) (is_file x file.Agency) second.0 in
            let at = and_parts (n == 1) (is_empty name) first.0 in
            at_header d x n name (filled_row d x second.1) at.0 (no_name d x name at.1)
      ]

  column_missing_tried : holds_in code.E03 d x n name ≡ true → IsTried d x n name
  column_missing_tried h =
      let third = and_parts ((n == 1) && not (has_no_record d x) && if_there (column_named x name) is_required) _ h in
      let second = and_parts ((n == 1) && not (has_no_record d x)) (if_there (column_named x name) is_required) third.0 in
      let first = and_parts (n == 1) (not (has_no_record d x)) second.0 in
      at_header d x n name (filled_row d x first.1) first.0 (kept_name d x name is_required second.1)

  column_twice_tried : holds_in code.E04 d x n name ≡ true → IsTried d x n name
  column_twice_tried h =
      let second = and_parts ((n == 1) && is_kept_column x name) (nat_lt 1 (times_named d x name)) h in
      let first = and_parts (n == 1) (is_kept_column x name) second.0 in
      at_header d x n name (header_row (records_in d x) name 1 second.1) first.0 (kept_column d x name first.1)

  column_not_kept_tried : holds_in code.W04 d x n name ≡ true → IsTried d x n name
  column_not_kept_tried h =
      let third = and_parts ((n == 1) && not (is_empty name) && is_named d x name) (not (is_kept_column x name)) h in
      let second = and_parts ((n == 1) && not (is_empty name)) (is_named d x name) third.0 in
      let first = and_parts (n == 1) (not (is_empty name)) second.0 in
      at_header d x n name (header_row (records_in d x) name 0 second.1) first.0
      (other_column d x name second.1 (not-true (is_empty name) first.1) (not-true (is_kept_column x name) third.1))

  unknown_reference_tried : holds_in code.E10 d x n name ≡ true → IsTried d x n name
  unknown_reference_tried h =
      let second = and_parts (is_row (records_in d x) n && is_some (value_in d x n name)) _ h in
      let first = and_parts (is_row (records_in d x) n) (is_some (value_in d x n name)) second.0 in
      record { row = record_row (records_in d x) n first.0; named = value_column d x name n first.1 }

  holds_tried : (c : Code) → holds_in c d x n name ≡ true → IsTried d x n name
  holds_tried code.E01 h = at_file d x n name (and_parts (is_at 0 n name) _ h).0
  holds_tried code.E02 h = at_file d x n name (and_parts (is_at 0 n name) _ h).0
  holds_tried code.E03 h = column_missing_tried h
  holds_tried code.E04 h = column_twice_tried h
  holds_tried code.E05 h = file_empty_tried h
  holds_tried code.E06 h = at_kept_row d x n name (λ c t. is_required c && is_empty t) (and_parts (is_named d x name) _ h).1
  holds_tried code.E07 h = at_kept_row d x n name (λ c t. not (is_empty t) && not (is_id c.kind) && is_form_fault (read_as c.kind t)) h
  holds_tried code.E08 h = at_kept_row d x n name (λ c t. not (is_empty t) && is_range_fault (read_as c.kind t)) h
  holds_tried code.E09 h = at_key d x n name (key_kept x) _ h
  holds_tried code.E10 h = unknown_reference_tried h
  holds_tried code.E11 h = by_rules d x n name kind_rules refl h
  holds_tried code.E12 h = by_rules d x n name presence_rules refl h
  holds_tried code.E13 h = by_rule d x n name (file.Agency, "agency_timezone", has_other_zone) refl (alone _ h)
  holds_tried code.E14 h = by_rule d x n name (file.Calendar, "end_date", ends_before_start) refl (alone _ h)
  holds_tried code.E15 h = by_rule d x n name (file.StopTimes, "arrival_time", is_end_untimed) refl (alone _ h)
  holds_tried code.E16 h = by_rule d x n name (file.StopTimes, "departure_time", leaves_early) refl (alone _ h)
  holds_tried code.E17 h = by_rule d x n name (file.StopTimes, "arrival_time", goes_back) refl (alone _ h)
  holds_tried code.E18 h = by_rule d x n name (file.Frequencies, "end_time", ends_at_start) refl (alone _ h)
  holds_tried code.E19 h = by_rule d x n name (file.Frequencies, "start_time", overlaps_earlier) refl (alone _ h)
  holds_tried code.E20 h = at_kept_row d x n name (λ c t. is_id c.kind && has_control t) h
  holds_tried code.W01 h = at_no_name d x n name _ h
  holds_tried code.W02 h = at_no_name d x n name _ h
  holds_tried code.W03 h = cc h
  holds_tried code.W04 h = column_not_kept_tried h
  holds_tried code.W05 h = at_kept_row d x n name (λ c t. is_text c.kind && has_control t) h
  holds_tried code.W06 h = by_rule d x n name (file.Trips, "trip_id", has_few_rows) refl (alone _ h)
  holds_tried code.W07 h = by_rules d x n name service_rules refl h
  holds_tried code.W08 h = by_rules d x n name time_rules refl h

listed : (d : Dataset) (c : Code) (f : FileName) (n : ℕ) (name : List ℕ) → holds c d f n name ≡ true
    → lists_problem (tried d) (problem_in f n c name) ≡ true
listed d c (kept x) n name h = kept_listed d c x n name (holds_tried d x n name c h)
listed d c (other t) n name h = other_listed d c t n name (and_parts (is_code c code.W03) (file_not_kept d t n name) h).1

-- every problem is tried
pub all_tried : (d : Dataset) (p : Problem) → is_problem d p ≡ true → lists_problem (tried d) p ≡ true
all_tried d p h = listed d p.code p.file p.row p.column h
