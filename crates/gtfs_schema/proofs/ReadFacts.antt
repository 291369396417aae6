-- Reading a value of a dataset that passes never fails.
use Rattle.std.proofs.Common.{◌≡◌, ℕ, List, [], ◌∷◌, true, false, Bool, Option, Some, None, refl, sym, ap, ◌∙◌, inl, inr, arith}
use Rattle.std.specs.Prelude.{◌&&◌, ◌||◌, bytes_eq, not, if◌then◌else◌, nat_lt, nat_le, length, find, is_some, option_and_then, option_map, ℤ, Result, Ok, Err}
use Rattle.std.specs.List.{list_all, list_any}
use Rattle.std.specs.Result.{result_ok}
use Rattle.std.proofs.lemmas.Bool.{and_parts, cases_Bool, not-false as not_not}
use Rattle.std.proofs.lemmas.Bool.Decides.{nat_tests}
use Rattle.gtfs_field.specs.declared.fault.FieldFault.{FieldFault}
use Rattle.gtfs_field.specs.declared.fault.FieldFault.TheVariants.{Form, Range}
use Rattle.gtfs_table.specs.Blanks.{cut}
use Rattle.gtfs_table.specs.Tables.{Dataset, record_at}
use Rattle.gtfs_table.specs.Rows.{has_no_record, is_empty, is_row, records_in}
use Rattle.gtfs_table.specs.declared.file.File.{File}
use Rattle.gtfs_table.specs.declared.file.File.TheVariants as file
use Rattle.gtfs_schema.specs.declared.code.Code.{Code}
use Rattle.gtfs_schema.specs.declared.code.Code.TheVariants as code
use Rattle.gtfs_schema.specs.Codes.{is_error}
use Rattle.gtfs_schema.specs.ColumnRules.{is_required}
use Rattle.gtfs_schema.specs.Columns.{Kind, id, text, count, choice, time, date, colour, coordinate, Empty, refused, nothing, means, Column, column_named, columns_of, required}
use Rattle.gtfs_schema.specs.FieldRules.{is_id, is_text, is_form_fault, is_range_fault}
use Rattle.gtfs_schema.specs.Problems.{Passes, holds_in, kept}
use Rattle.gtfs_schema.specs.ReadRules.{IsReadAs, IsReadUnder, StandsAs, StandsUnder, may_lack}
use Rattle.gtfs_schema.specs.RowConditions.{is_named, text_in}
use Rattle.gtfs_schema.specs.FieldValues.{Value, as_amount, value_of_count, has_control, meaning, measured, one_of, read_as, readable}
use Rattle.gtfs_schema.specs.ReadFields.{amount_of, word_of}
use Rattle.gtfs_field.specs.Kinds.{count_of, time_of, date_of, colour_of, coordinate_of}
use Rattle.gtfs_field.proofs.OptionFacts.{is_some-map as mapped_some}

-- ---- what a default means is readable

-- the meaning of an empty value is a value of the kind
abbrev means_value : Column → Bool
means_value c = may_lack c.empty || is_required c || (not (is_empty (meaning c.empty [])) && is_some (readable c.kind (meaning c.empty [])))

all_mean : (x : File) → list_all means_value (columns_of x) ≡ true
all_mean file.Agency = refl
all_mean file.Stops = refl
all_mean file.Routes = refl
all_mean file.Trips = refl
all_mean file.StopTimes = refl
all_mean file.Calendar = refl
all_mean file.CalendarDates = refl
all_mean file.Frequencies = refl
all_mean file.Transfers = refl

found_passes : {X : Type 0} (p good : X → Bool) (xs : List X) (x : X) → find p xs ≡ Some x → list_all good xs ≡ true → good x ≡ true
found_passes p good [] x found all = cc found
found_passes p good (y ∷ ys) x found all = elim (cases_Bool (p y)) [
  | inl here ↦ (let same : Some y ≡ Some x = rw here at found in
      let good_y : good y ≡ true = (and_parts (good y) (list_all good ys) all).0 in
      cc (same, good_y))
  | inr later ↦ found_passes p good ys x (rw later at found) ((and_parts (good y) (list_all good ys) all).1)
]

-- ---- a text with none of the errors of its kind is readable

sound : (r : Result Value FieldFault) → is_form_fault r ≡ false → is_range_fault r ≡ false → is_some (result_ok r) ≡ true
sound (Ok v) form range = refl
sound (Err Form) form range = sym form
sound (Err Range) form range = sym range

no_fault : (kind : Kind) (t : List ℕ) → (not (is_id kind) && is_form_fault (read_as kind t)) ≡ false → is_range_fault (read_as kind t) ≡ false
    → (is_id kind && has_control t) ≡ false → is_some (result_ok (read_as kind t)) ≡ true
no_fault id t form range control = rw control refl
no_fault text t form range control = refl
no_fault count t form range control = sound (read_as count t) form range
no_fault (choice ranges) t form range control = sound (read_as (choice ranges) t) form range
no_fault time t form range control = sound (read_as time t) form range
no_fault date t form range control = sound (read_as date t) form range
no_fault colour t form range control = sound (read_as colour t) form range
no_fault (coordinate axis) t form range control = sound (read_as (coordinate axis) t) form range

-- ---- a row of a dataset that passes

module _ (d : Dataset) (passes : Passes d) (x : File) (n : ℕ) (name : List ℕ) (c : Column)
    (row : is_row (records_in d x) n ≡ true) (there : column_named x name ≡ Some c) where
  abbrev text_there : List ℕ
  text_there = text_in d x n name

  no_error : (e : Code) (m : ℕ) → is_error e ≡ true → holds_in e d x m name ≡ false
  no_error e m error = passes (record { file = kept x; row = m; code = e; column = name }) error

  has_header : has_no_record d x ≡ false
  has_header =
      let rs = records_in d x in
      let within = and_parts (nat_lt 1 n) (nat_le n (length rs)) (and_parts (nat_lt 1 n && nat_le n (length rs)) (list_any (λ field. not (is_empty (cut field))) (record_at rs n)) row).0 in
      let low : nat_lt 1 n ≡ true = within.0 in
      let high : nat_le n (length rs) ≡ true = within.1 in
      grind (arith, nat_tests, low, high)

  -- a required column is named, and it is filled
  filled : is_required c ≡ true → is_empty text_there ≡ false
  filled required =
      let named : is_named d x name ≡ true = not_not (is_named d x name) (rw (has_header, there, required) at (no_error code.E03 1 refl)) in
      rw (named, row, there, required) at (no_error code.E06 n refl)

  read_filled : is_empty text_there ≡ false → is_some (readable c.kind text_there) ≡ true
  read_filled there_is =
      let form : (not (is_id c.kind) && is_form_fault (read_as c.kind text_there)) ≡ false = rw (row, there, there_is) at (no_error code.E07 n refl) in
      let range : is_range_fault (read_as c.kind text_there) ≡ false = rw (row, there, there_is) at (no_error code.E08 n refl) in
      let control : (is_id c.kind && has_control text_there) ≡ false = rw (row, there) at (no_error code.E20 n refl) in
      rw there_is (no_fault c.kind text_there form range control)

  read_there : IsReadAs c.kind text_there
  read_there = elim (cases_Bool (is_empty text_there)) [
    | inl empty ↦ rw empty refl
    | inr there_is ↦ read_filled there_is ∙ ap not (sym there_is)
  ]

-- ---- and so of every row

value_there : (name : List ℕ) (kind : Kind) (e : Empty) (t : List ℕ) → (is_required (record { name = name; kind = kind; empty = e }) ≡ true → is_empty t ≡ false)
    → IsReadAs kind t → means_value (record { name = name; kind = kind; empty = e }) ≡ true → (may_lack e || is_some (readable kind (meaning e t))) ≡ true
value_there name kind refused t fills read meant = read ∙ ap not (fills refl)
value_there name kind nothing t fills read meant = refl
value_there name kind (means m) t fills read meant = elim (cases_Bool (is_empty t)) [
  | inl empty ↦ rw empty ((and_parts (not (is_empty m)) (is_some (readable kind m)) meant).1)
  | inr there_is ↦ rw there_is (read ∙ ap not there_is)
]

-- every value of every kept column is read
pub passes_read : (d : Dataset) → Passes d → (x : File) (n : ℕ) (name : List ℕ) (c : Column)
    → is_row (records_in d x) n ≡ true → column_named x name ≡ Some c → IsReadUnder c (text_in d x n name)
passes_read d passes x n name c row there =
    let read = read_there d passes x n name c row there in
    let meant : means_value c ≡ true = found_passes (λ c. bytes_eq c.name name) means_value (columns_of x) c there (all_mean x) in
    record { read = read; there = value_there c.name c.kind c.empty (text_in d x n name) (filled d passes x n name c row there) read meant }

-- ---- texts that stand in a dataset that passes

-- a row's text stands under its column; for a named column `there` is refl
pub stands : (d : Dataset) → Passes d → (x : File) (n : ℕ) → is_row (records_in d x) n ≡ true → (name : List ℕ) (c : Column) → column_named x name ≡ Some c
    → (t : List ℕ) → t ≡ text_in d x n name → StandsAs c.kind c.empty t
stands d passes x n row name c there t is = record {
  column = c;
  stands = record { dataset = d; passes = passes; file = x; row = n; is_row = row; name = name; kept = there; text = is };
  kind_is = refl;
  empty_is = refl;
}

pub read_under : (c : Column) (t : List ℕ) → StandsUnder c t → IsReadUnder c t
read_under c t s = rw (← s.text) at (passes_read s.dataset s.passes s.file s.row s.name c s.is_row s.kept)

-- a value is there
pub read_as_there : (kind : Kind) (e : Empty) (t : List ℕ) → StandsAs kind e t → may_lack e ≡ false → is_some (readable kind (meaning e t)) ≡ true
read_as_there kind e t s always =
    let under = (read_under s.column t s.stands).there in
    rw (s.kind_is, s.empty_is, always) at under

pub read_stands : (kind : Kind) (e : Empty) (t : List ℕ) → StandsAs kind e t → IsReadAs kind t
read_stands kind e t s = rw s.kind_is at (read_under s.column t s.stands).read

-- ---- what readers find of them

-- the values of the kind are numbers
abbrev pub is_of_numbers : Kind → Bool
is_of_numbers kind = not (is_id kind) && not (is_text kind)

counted_some : (e : Bool) (r : Result ℕ FieldFault) → is_some (option_and_then as_amount (if e then None else result_ok (value_of_count r))) ≡ is_some (if e then None else result_ok (value_of_count r))
counted_some true r = refl
counted_some false (Ok n) = refl
counted_some false (Err f) = refl

measured_some : (e : Bool) (r : Result ℤ FieldFault) → is_some (option_and_then as_amount (if e then None else result_ok (measured r))) ≡ is_some (if e then None else result_ok (measured r))
measured_some true r = refl
measured_some false (Ok n) = refl
measured_some false (Err f) = refl

pub amount_some : (kind : Kind) → is_of_numbers kind ≡ true → (t : List ℕ) → is_some (amount_of kind t) ≡ is_some (readable kind t)
amount_some id none t = cc none
amount_some text none t = cc none
amount_some count numbers t = counted_some (is_empty t) (count_of t)
amount_some (choice ranges) numbers t = counted_some (is_empty t) (one_of ranges (count_of t))
amount_some time numbers t = counted_some (is_empty t) (time_of t)
amount_some date numbers t = measured_some (is_empty t) (date_of t)
amount_some colour numbers t = counted_some (is_empty t) (colour_of t)
amount_some (coordinate axis) numbers t = measured_some (is_empty t) (coordinate_of axis t)

module _ {X : Type 0} (kind : Kind) (numbers : is_of_numbers kind ≡ true) (e : Empty) (t : List ℕ) (f : X → ℤ) (o : Option X) where
  pub number_fails : option_map f o ≡ amount_of kind t → StandsAs kind e t → is_some o ≡ not (is_empty t)
  number_fails found s = sym (mapped_some f o) ∙ ap is_some found ∙ amount_some kind numbers t ∙ read_stands kind e t s

pub day_fails : (kind : Kind) → is_of_numbers kind ≡ true → (e : Empty) (t : List ℕ) (o : Option ℤ) → o ≡ amount_of kind t → StandsAs kind e t → is_some o ≡ not (is_empty t)
day_fails kind numbers e t o found s = ap is_some found ∙ amount_some kind numbers t ∙ read_stands kind e t s

measured_amount : (r : Result ℤ FieldFault) → result_ok r ≡ option_and_then as_amount (result_ok (measured r))
measured_amount (Ok n) = refl
measured_amount (Err f) = refl

-- a date is read as its kind is
pub date_read : (t : List ℕ) → result_ok (date_of t) ≡ amount_of date t
date_read [] = refl
date_read (b ∷ bs) = let filled : is_empty (b ∷ bs) ≡ false = grind (arith, nat_tests) in rw filled (measured_amount (date_of (b ∷ bs)))

id_is : (t : List ℕ) → is_some (readable id t) ≡ true → word_of id t ≡ Some t
id_is t there = elim (cases_Bool (is_empty t)) [
  | inl empty ↦ cc (rw empty at there)
  | inr filled ↦ elim (cases_Bool (has_control t)) [
    | inl control ↦ cc (rw (filled, control) at there)
    | inr sound ↦ rw (filled, sound) refl
  ]
]

pub id_there : (t : List ℕ) → StandsAs id refused t → word_of id t ≡ Some t
id_there t s = id_is t (read_as_there id refused t s refl)
