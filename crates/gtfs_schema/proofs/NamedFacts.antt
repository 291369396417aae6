-- A header names a column just where it has an index for it; the names of the kept columns of a file.
use Rattle.std.proofs.Common.{◌≡◌, ℕ, List, [], ◌∷◌, length, true, false, Bool, refl, sym, ap, ◌∙◌, map, Some, inl, inr}
use Rattle.std.specs.Prelude.{◌&&◌, not, nat_lt, bytes_eq, find}
use Rattle.std.specs.List.{list_any, list_all, position_or_len}
use Rattle.std.specs.Option.{is_some}
use Rattle.std.proofs.lemmas.Bool.{cases_Bool, and_left, not-true, or_from, or_parts}
use Rattle.gtfs_table.specs.Blanks.{cut}
use Rattle.gtfs_table.specs.Tables.{Dataset, column_of, record_at}
use Rattle.gtfs_table.specs.declared.file.File.{File}
use Rattle.gtfs_table.specs.declared.file.File.TheVariants as file
use Rattle.gtfs_schema.specs.Columns.{Column, columns_of, column_named}
use Rattle.gtfs_schema.specs.RowConditions.{is_named}
use Rattle.gtfs_table.specs.Rows.{records_in, is_empty}
use Rattle.gtfs_schema.specs.FieldValues.{if_there}
use Rattle.std.proofs.Math.Bool.{or-false}
use Rattle.gtfs_field.proofs.ListFacts.{any_alike, any_mapped, count_any, position_any}
use Rattle.gtfs_field.proofs.OptionFacts.{is_some-cond}
use Rattle.gtfs_schema.proofs.BoolFacts.{same_test, and_parts}
use Rattle.gtfs_schema.proofs.SiteFacts.{text_is, text_itself}

-- ---- names of headers

pub text_turned : (a b : List ℕ) → bytes_eq a b ≡ bytes_eq b a
text_turned a b = same_test (bytes_eq a b) (bytes_eq b a)
    (λ e. ap (bytes_eq b) (text_is a b e) ∙ text_itself b)
    (λ e. ap (bytes_eq a) (text_is b a e) ∙ text_itself a)

pub named_located : (d : Dataset) (x : File) (name : List ℕ) → is_empty name ≡ false → is_named d x name ≡ is_some (column_of (records_in d x) name)
named_located d x name filled =
    let fields = record_at (records_in d x) 1 in
    count_any (bytes_eq name) (map cut fields)
    ∙ any_mapped (bytes_eq name) cut fields
    ∙ any_alike (λ t. bytes_eq name (cut t)) (λ t. bytes_eq (cut t) name) fields (λ t. text_turned name (cut t))
    ∙ sym (rw filled (is_some-cond (nat_lt (position_or_len (λ t. bytes_eq (cut t) name) fields) (length fields)) (position_or_len (λ t. bytes_eq (cut t) name) fields)
    ∙ position_any (λ t. bytes_eq (cut t) name) fields))

-- ---- names of kept columns

abbrev pub has_name : List ℕ → Column → Bool
has_name name c = bytes_eq name c.name

abbrev pub are_filled : List Column → Bool
are_filled cs = list_all (λ c. not (is_empty c.name)) cs

abbrev pub are_apart : List Column → Bool
are_apart [] = true
are_apart (c ∷ cs) = not (list_any (has_name c.name) cs) && are_apart cs

pub kept_filled : (x : File) → are_filled (columns_of x) ≡ true
kept_filled file.Agency = refl
kept_filled file.Stops = refl
kept_filled file.Routes = refl
kept_filled file.Trips = refl
kept_filled file.StopTimes = refl
kept_filled file.Calendar = refl
kept_filled file.CalendarDates = refl
kept_filled file.Frequencies = refl
kept_filled file.Transfers = refl

pub kept_apart : (x : File) → are_apart (columns_of x) ≡ true
kept_apart file.Agency = refl
kept_apart file.Stops = refl
kept_apart file.Routes = refl
kept_apart file.Trips = refl
kept_apart file.StopTimes = refl
kept_apart file.Calendar = refl
kept_apart file.CalendarDates = refl
kept_apart file.Frequencies = refl
kept_apart file.Transfers = refl

-- of columns whose names differ at most one has a name
none_named : (name : List ℕ) (f : Column → Bool) (cs : List Column) → list_any (has_name name) cs ≡ false → list_any (λ c. has_name name c && f c) cs ≡ false
none_named name f [] none = refl
none_named name f (c ∷ cs) none =
    let parts = or_parts (has_name name c) (list_any (has_name name) cs) none in
    or_from (has_name name c && f c) (list_any (λ k. has_name name k && f k) cs) (and_left (has_name name c) (f c) parts.0) (none_named name f cs parts.1)

pub any_named : (name : List ℕ) (f : Column → Bool) (cs : List Column) → are_apart cs ≡ true
    → list_any (λ c. has_name name c && f c) cs ≡ if_there (find (λ c. bytes_eq c.name name) cs) f
any_named name f [] apart = refl
any_named name f (c ∷ cs) apart =
    let parts = and_parts (not (list_any (has_name c.name) cs)) (are_apart cs) apart in
    elim (cases_Bool (bytes_eq c.name name)) [
      | inl here ↦
          let same : c.name ≡ name = text_is c.name name here in
          let none : list_any (has_name name) cs ≡ false = ap (λ t. list_any (has_name t) cs) (sym same) ∙ not-true (list_any (has_name c.name) cs) parts.0 in
          rw (here, text_turned name c.name ∙ here, none_named name f cs none) (or-false (f c))
      | inr other ↦ rw (other, text_turned name c.name ∙ other) (any_named name f cs parts.1)
    ]

-- the name of a kept column is not empty
filled_at : (name : List ℕ) (cs : List Column) (k : Column) → are_filled cs ≡ true → find (λ c. bytes_eq c.name name) cs ≡ Some k → is_empty name ≡ false
filled_at name [] k filled found = cc found
filled_at name (c ∷ cs) k filled found =
    let parts = and_parts (not (is_empty c.name)) (are_filled cs) filled in
    elim (cases_Bool (bytes_eq c.name name)) [
      | inl here ↦ ap is_empty (sym (text_is c.name name here)) ∙ not-true (is_empty c.name) parts.0
      | inr other ↦ filled_at name cs k parts.1 (rw other at found)
    ]

name_at : (name : List ℕ) (cs : List Column) (k : Column) → find (λ c. bytes_eq c.name name) cs ≡ Some k → k.name ≡ name
name_at name [] k found = cc found
name_at name (c ∷ cs) k found = elim (cases_Bool (bytes_eq c.name name)) [
  | inl here ↦ let same : Some c ≡ Some k = rw here at found in let is : k ≡ c = cc same in ap (λ j. j.name) is ∙ text_is c.name name here
  | inr other ↦ name_at name cs k (rw other at found)
]

pub kept_name_is : (x : File) (name : List ℕ) (k : Column) → column_named x name ≡ Some k → k.name ≡ name
kept_name_is x name k there = name_at name (columns_of x) k there

pub kept_name_filled : (x : File) (name : List ℕ) (k : Column) → column_named x name ≡ Some k → is_empty name ≡ false
kept_name_filled x name k there = filled_at name (columns_of x) k (kept_filled x) there

pub kept_any : (x : File) (name : List ℕ) (f : Column → Bool) → list_any (λ c. has_name name c && f c) (columns_of x) ≡ if_there (column_named x name) f
kept_any x name f = any_named name f (columns_of x) (kept_apart x)
