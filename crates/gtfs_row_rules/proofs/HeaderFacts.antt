-- Where the problems of headers stand.
use Rattle.std.proofs.Common.{◌≡◌, ◌<◌, ℕ, zero, suc, [], ◌∷◌, List, length, get_or, map, Option, Some, None, true, false, Bool, cond, refl, sym, ap, subst, ◌∙◌, arith}
use Rattle.std.specs.Prelude.{◌&&◌, ◌||◌, ◌==◌, not, nat_lt, bytes_eq, find, is_some}
use Rattle.std.specs.List.{AllByRecursion, list_any}
use Rattle.std.proofs.lemmas.List.{get_or-map, length-map}
use Rattle.std.proofs.lemmas.Bool.{and_from}
use Rattle.gtfs_field.proofs.ListFacts.{any_mapped, count_any}
use Rattle.gtfs_table.specs.Blanks.{cut}
use Rattle.gtfs_table.specs.Tables.{Dataset, Records, field_cut, record_at}
use Rattle.gtfs_table.specs.declared.file.File.{File}
use Rattle.gtfs_table.specs.declared.file.File.TheVariants as file
use Rattle.gtfs_schema.specs.declared.code.Code.{Code}
use Rattle.gtfs_schema.specs.declared.code.Code.TheVariants as code
use Rattle.gtfs_schema.specs.declared.columns.Column.{Column as CodeColumn}
use Rattle.gtfs_schema.specs.Columns.{Column, column_named, columns_of}
use Rattle.gtfs_schema.specs.ColumnRules.{is_required}
use Rattle.gtfs_schema.specs.steps.ColumnView.{column_of}
use Rattle.gtfs_schema.specs.steps.FieldCodes.{in_file_of}
use Rattle.gtfs_schema.specs.steps.FoundProblems.{is_same, Reports}
use Rattle.gtfs_schema.specs.steps.KeptColumns.{at_column, in_file, is_kept, of_codes}
use Rattle.gtfs_schema.specs.Problems.{Problem, holds_in, is_code, is_problem}
use Rattle.gtfs_table.specs.Rows.{has_no_record, records_in, is_empty}
use Rattle.gtfs_schema.specs.RowConditions.{header, is_kept_column, is_named, times_named}
use Rattle.gtfs_schema.specs.FieldValues.{if_there}
use Rattle.gtfs_schema.proofs.BoolFacts.{and_parts}
use Rattle.gtfs_schema.proofs.EachFacts.{any_and, of_any}
use Rattle.gtfs_row_rules.proofs.FileFacts.{held}
use Rattle.gtfs_schema.proofs.SiteFacts.{at_column_is, problem_at, same_at_column}
use Rattle.gtfs_schema.proofs.ReportingFacts.{reports_alike, reports_then}
use Rattle.gtfs_schema.proofs.NamedFacts.{text_turned}

-- ---- the kept columns of a file have different names

kept_here : (x : File) → AllByRecursion (λ c. column_named x c.name ≡ Some c) (columns_of x)
kept_here file.Agency = (refl, (refl, (refl, (refl, (refl, (refl, (refl, (refl, tt))))))))
kept_here file.Stops = (refl, (refl, (refl, (refl, (refl, (refl, (refl, (refl, (refl, (refl, (refl, (refl, tt))))))))))))
kept_here file.Routes = (refl, (refl, (refl, (refl, (refl, (refl, (refl, (refl, (refl, (refl, tt))))))))))
kept_here file.Trips = (refl, (refl, (refl, (refl, (refl, (refl, (refl, (refl, tt))))))))
kept_here file.StopTimes = (refl, (refl, (refl, (refl, (refl, (refl, (refl, (refl, (refl, tt)))))))))
kept_here file.Calendar = (refl, (refl, (refl, (refl, (refl, (refl, (refl, (refl, (refl, (refl, tt))))))))))
kept_here file.CalendarDates = (refl, (refl, (refl, tt)))
kept_here file.Frequencies = (refl, (refl, (refl, (refl, (refl, tt)))))
kept_here file.Transfers = (refl, (refl, (refl, (refl, (refl, (refl, (refl, (refl, tt))))))))

one_of_all : {X : Type 0} (P : X → Type 0) (xs : List X) (i : ℕ) (x : X) → AllByRecursion P xs → i < length xs → P (get_or xs i x)
one_of_all P [] i x all within = absurd (omega arith)
one_of_all P (y ∷ ys) zero x all within = all.0
one_of_all P (y ∷ ys) (suc i) x all within = one_of_all P ys i x all.1 (omega arith)

pub column_at : (x : File) (i : ℕ) (c : Column) → i < length (columns_of x) → column_named x ((get_or (columns_of x) i c).name) ≡ Some (get_or (columns_of x) i c)
column_at x i c within = one_of_all (λ k. column_named x k.name ≡ Some k) (columns_of x) i c (kept_here x) within

-- the columns of the code, which are those of the file
module _ (x : File) (columns : List CodeColumn) (same : map column_of columns ≡ columns_of x) where
  pub kept_at : (i : ℕ) (c : CodeColumn) → i < length columns → column_named x ((get_or columns i c).name.now) ≡ Some (column_of (get_or columns i c))
  kept_at i c within =
      let index : get_or (columns_of x) i (column_of c) ≡ column_of (get_or columns i c) = ap (λ cs. get_or cs i (column_of c)) (sym same) ∙ get_or-map column_of columns i c (column_of c) within in
      let inside : i < length (columns_of x) = rw (← same, length-map) within in
      subst (λ k. column_named x k.name ≡ Some k) index (column_at x i (column_of c) inside)

-- ---- the names of a header

pub header_at : (rs : Records) (i : ℕ) → i < length (record_at rs 1) → get_or (header rs) i [] ≡ field_cut (record_at rs 1) i
header_at rs i within = get_or-map cut (record_at rs 1) i [] [] within

pub header_length : (rs : Records) → length (header rs) ≡ length (record_at rs 1)
header_length rs = length-map (record_at rs 1) cut

-- ---- tests on names

found_at : {X : Type 0} (t : X → Bool) (x : X) (xs : List X) (b : Bool) → is_some (find t xs) ≡ list_any t xs → is_some (cond b (Some x) (find t xs)) ≡ (b || list_any t xs)
found_at t x xs true later = refl
found_at t x xs false later = later

found_any : {X : Type 0} (t : X → Bool) (xs : List X) → is_some (find t xs) ≡ list_any t xs
found_any t [] = refl
found_any t (x ∷ xs) = found_at t x xs (t x) (found_any t xs)

-- whether a kept column of the file has the name
pub kept_name : (x : File) (columns : List CodeColumn) (name : List ℕ) → map column_of columns ≡ columns_of x
    → list_any (λ column. bytes_eq column.name.now name) columns ≡ is_kept_column x name
kept_name x columns name same =
    sym (any_mapped (λ c. bytes_eq c.name name) column_of columns) ∙ ap (list_any (λ c. bytes_eq c.name name)) same ∙ sym (found_any (λ c. bytes_eq c.name name) (columns_of x))

-- what a picked problem lies among
narrowed : (picked among h : Bool) → (picked ≡ true → h ≡ true → among ≡ true) → ((picked && among) && h) ≡ (picked && h)
narrowed true true h f = refl
narrowed true false true f = f refl refl
narrowed true false false f = refl
narrowed false among h f = refl

-- ---- problems of a column of the header

module _ (d : Dataset) (c : Code) (x : File) (name : List ℕ) (only : (n : ℕ) → holds_in c d x n name ≡ true → (n == 1) ≡ true) where
  header_holds : (p : Problem) → (is_same (problem_at c x name 1) p && is_problem d p) ≡ (at_column c x name p && is_problem d p)
  header_holds p =
      ap (λ b. b && is_problem d p) (same_at_column c x name 1 p)
      ∙ narrowed (at_column c x name p) (p.row == 1) (is_problem d p)
      (λ picked holds. only p.row (ap (is_problem d) (sym (at_column_is c x name p picked)) ∙ holds))

  in_header_reported : (old new : List Problem) → Reports d (is_same (problem_at c x name 1)) old new → Reports d (at_column c x name) old new
  in_header_reported old new reported = reports_alike d (is_same (problem_at c x name 1)) (at_column c x name) old new header_holds reported

first_of_three : (a b c : Bool) → (a && b && c) ≡ true → a ≡ true
first_of_three true b c h = refl
first_of_three false b c h = h

first_of_four : (a b c e : Bool) → (a && b && c && e) ≡ true → a ≡ true
first_of_four true b c e h = refl
first_of_four false b c e h = h

module _ (d : Dataset) (x : File) (name : List ℕ) where
  pub missing_column_reported : (old new : List Problem) → Reports d (is_same (problem_at code.E03 x name 1)) old new → Reports d (at_column code.E03 x name) old new
  missing_column_reported old new reported = in_header_reported d code.E03 x name (λ n e. first_of_four (n == 1) _ _ _ e) old new reported

  pub column_twice_reported : (old new : List Problem) → Reports d (is_same (problem_at code.E04 x name 1)) old new → Reports d (at_column code.E04 x name) old new
  column_twice_reported old new reported = in_header_reported d code.E04 x name (λ n e. first_of_three (n == 1) _ _ e) old new reported

  pub other_column_reported : (old new : List Problem) → Reports d (is_same (problem_at code.W04 x name 1)) old new → Reports d (at_column code.W04 x name) old new
  other_column_reported old new reported = in_header_reported d code.W04 x name (λ n e. first_of_four (n == 1) _ _ _ e) old new reported

-- ---- the kept columns

-- the problem is that of a kept column of the header
abbrev pub of_column : File → Column → Problem → Bool
of_column x c p = in_file_of (code.E03 ∷ code.E04 ∷ []) x p && bytes_eq c.name p.column

two_codes : (a b k t : Bool) → (((a && k) && t) || ((b && k) && t)) ≡ (((a || (b || false)) && k) && t)
two_codes true true true true = refl
two_codes true true true false = refl
two_codes true true false t = refl
two_codes true false true true = refl
two_codes true false true false = refl
two_codes true false false t = refl
two_codes false true k t = refl
two_codes false false k t = refl

there_is : (o : Option Column) (t : Column → Bool) → if_there o t ≡ true → is_some o ≡ true
there_is (Some c) t e = refl
there_is None t e = e

module _ (d : Dataset) (x : File) where
  pub column_reported : (c : Column) (old mid new : List Problem) → Reports d (at_column code.E03 x c.name) old mid → Reports d (at_column code.E04 x c.name) mid new → Reports d (of_column x c) old new
  column_reported c old mid new missing twice = reports_alike d (λ p. at_column code.E03 x c.name p || at_column code.E04 x c.name p) (of_column x c) old new
      (λ p. ap (λ b. b && is_problem d p) (two_codes (is_code p.code code.E03) (is_code p.code code.E04) (is_kept x p.file) (bytes_eq p.column c.name)
      ∙ ap (λ b. in_file_of (code.E03 ∷ code.E04 ∷ []) x p && b) (text_turned p.column c.name)))
      (reports_then d (at_column code.E03 x c.name) (at_column code.E04 x c.name) old mid new missing twice)

  pub twice_holds : (c : Column) (times : ℕ) → column_named x c.name ≡ Some c → times ≡ times_named d x c.name → nat_lt 1 times ≡ holds_in code.E04 d x 1 c.name
  twice_holds c times there counted = ap (nat_lt 1) counted ∙ ap (λ o. is_some o && nat_lt 1 (times_named d x c.name)) (sym there)

  missing_is_kept : (n : ℕ) (name : List ℕ) → holds_in code.E03 d x n name ≡ true → is_kept_column x name ≡ true
  missing_is_kept n name e =
      let required = (and_parts ((n == 1) && not (has_no_record d x) && if_there (column_named x name) is_required) (not (is_named d x name)) e).0 in
      there_is (column_named x name) is_required ((and_parts ((n == 1) && not (has_no_record d x)) (if_there (column_named x name) is_required) required).1)

  twice_is_kept : (n : ℕ) (name : List ℕ) → holds_in code.E04 d x n name ≡ true → is_kept_column x name ≡ true
  twice_is_kept n name e =
      (and_parts (n == 1) (is_kept_column x name) ((and_parts ((n == 1) && is_kept_column x name) (nat_lt 1 (times_named d x name)) e).0)).1

  kept_alone : (p : Problem) → in_file_of (code.E03 ∷ code.E04 ∷ []) x p ≡ true → is_problem d p ≡ true → is_kept_column x p.column ≡ true
  kept_alone p picked holds = by_code (is_code p.code code.E03) (is_code p.code code.E04) refl refl (and_parts (of_codes (code.E03 ∷ code.E04 ∷ []) p) (is_kept x p.file) picked)
    where
      by_code : (a b : Bool) → is_code p.code code.E03 ≡ a → is_code p.code code.E04 ≡ b → (((a || (b || false)) ≡ true) × (is_kept x p.file ≡ true)) → is_kept_column x p.column ≡ true
      by_code true b first second parts = missing_is_kept p.row p.column (held d code.E03 x p (and_from (is_code p.code code.E03) (is_kept x p.file) first parts.1) holds)
      by_code false true first second parts = twice_is_kept p.row p.column (held d code.E04 x p (and_from (is_code p.code code.E04) (is_kept x p.file) second parts.1) holds)
      by_code false false first second parts = cc (parts.0)

  columns_hold : (p : Problem) → (of_any (of_column x) (columns_of x) p && is_problem d p) ≡ (in_file_of (code.E03 ∷ code.E04 ∷ []) x p && is_problem d p)
  columns_hold p =
      ap (λ b. b && is_problem d p)
      (any_and (in_file_of (code.E03 ∷ code.E04 ∷ []) x p) (λ c. bytes_eq c.name p.column) (columns_of x)
      ∙ ap (λ b. in_file_of (code.E03 ∷ code.E04 ∷ []) x p && b) (sym (found_any (λ c. bytes_eq c.name p.column) (columns_of x))))
      ∙ narrowed (in_file_of (code.E03 ∷ code.E04 ∷ []) x p) (is_kept_column x p.column) (is_problem d p) (kept_alone p)

  columns_mapped : (columns : List CodeColumn) (p : Problem) → map column_of columns ≡ columns_of x → of_any (λ c. of_column x (column_of c)) columns p ≡ of_any (of_column x) (columns_of x) p
  columns_mapped columns p same = sym (any_mapped (λ c. of_column x c p) column_of columns) ∙ ap (list_any (λ c. of_column x c p)) same

  pub columns_reported : (columns : List CodeColumn) (old new : List Problem) → map column_of columns ≡ columns_of x
      → Reports d (of_any (λ c. of_column x (column_of c)) columns) old new → Reports d (in_file_of (code.E03 ∷ code.E04 ∷ []) x) old new
  columns_reported columns old new same reported = reports_alike d (of_any (λ c. of_column x (column_of c)) columns) (in_file_of (code.E03 ∷ code.E04 ∷ []) x) old new
      (λ p. ap (λ b. b && is_problem d p) (columns_mapped columns p same) ∙ columns_hold p) reported

-- ---- the other names

or_none : (a k : Bool) → (a && k) ≡ ((a || false) && k)
or_none true k = refl
or_none false k = refl

module _ (d : Dataset) (x : File) where
  other_is_named : (n : ℕ) (name : List ℕ) → holds_in code.W04 d x n name ≡ true → is_named d x name ≡ true
  other_is_named n name e =
      let named = (and_parts ((n == 1) && not (is_empty name) && is_named d x name) (not (is_kept_column x name)) e).0 in
      (and_parts ((n == 1) && not (is_empty name)) (is_named d x name) named).1

  names_hold : (p : Problem) → (of_any (at_column code.W04 x) (header (records_in d x)) p && is_problem d p) ≡ (in_file_of (code.W04 ∷ []) x p && is_problem d p)
  names_hold p =
      ap (λ b. b && is_problem d p)
      (any_and (in_file code.W04 x p) (bytes_eq p.column) (header (records_in d x))
      ∙ ap (λ b. in_file code.W04 x p && b) (sym (count_any (bytes_eq p.column) (header (records_in d x)))))
      ∙ narrowed (in_file code.W04 x p) (is_named d x p.column) (is_problem d p) (λ picked holds. other_is_named p.row p.column (held d code.W04 x p picked holds))
      ∙ ap (λ b. b && is_problem d p) (or_none (is_code p.code code.W04) (is_kept x p.file))

  pub names_reported : (old new : List Problem) → Reports d (of_any (at_column code.W04 x) (header (records_in d x))) old new → Reports d (in_file_of (code.W04 ∷ []) x) old new
  names_reported old new reported = reports_alike d (of_any (at_column code.W04 x) (header (records_in d x))) (in_file_of (code.W04 ∷ []) x) old new names_hold reported

  pub other_holds : (name : List ℕ) → list_any (bytes_eq name) (header (records_in d x)) ≡ true
      → (not (is_empty name) && not (is_kept_column x name)) ≡ holds_in code.W04 d x 1 name
  other_holds name e =
      let named : is_named d x name ≡ true = count_any (bytes_eq name) (header (records_in d x)) ∙ e in
      rw named (named_too (not (is_empty name)) (not (is_kept_column x name)))
    where
      named_too : (a b : Bool) → (a && b) ≡ ((a && true) && b)
      named_too true b = refl
      named_too false b = refl

-- ---- both

three_codes : (a b c k h : Bool) → ((((a || (b || false)) && k) || ((c || false) && k)) && h) ≡ (((a || (b || (c || false))) && k) && h)
three_codes true b true true h = refl
three_codes true b true false h = refl
three_codes true b false true h = refl
three_codes true b false false h = refl
three_codes false true true true h = refl
three_codes false true true false h = refl
three_codes false true false true h = refl
three_codes false true false false h = refl
three_codes false false c k h = refl

pub header_reported : (d : Dataset) (x : File) (old mid new : List Problem) → Reports d (in_file_of (code.E03 ∷ code.E04 ∷ []) x) old mid → Reports d (in_file_of (code.W04 ∷ []) x) mid new
    → Reports d (in_file_of (code.E03 ∷ code.E04 ∷ code.W04 ∷ []) x) old new
header_reported d x old mid new columns names = reports_alike d (λ p. in_file_of (code.E03 ∷ code.E04 ∷ []) x p || in_file_of (code.W04 ∷ []) x p)
    (in_file_of (code.E03 ∷ code.E04 ∷ code.W04 ∷ []) x) old new
    (λ p. three_codes (is_code p.code code.E03) (is_code p.code code.E04) (is_code p.code code.W04) (is_kept x p.file) (is_problem d p))
    (reports_then d (in_file_of (code.E03 ∷ code.E04 ∷ []) x) (in_file_of (code.W04 ∷ []) x) old mid new columns names)
