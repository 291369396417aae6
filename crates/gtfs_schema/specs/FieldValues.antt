-- Values: what the text of a column means by the column's kind.
-- GTFS Schedule Reference, "Field Types". A text is the list of its bytes.
use Rattle.std.specs.Prelude.{ℕ, ◌&&◌, not, Bool, false, if◌then◌else◌, List, map, bytes_eq, Option, Some, None, ℤ, pos, int_le, Result, Ok, Err}
use Rattle.std.specs.List.{list_any}
use Rattle.std.specs.Result.{result_ok}
use Rattle.std.specs.Ordering.{int_eq}
use Rattle.gtfs_field.specs.declared.fault.FieldFault.{FieldFault}
use Rattle.gtfs_field.specs.Kinds.{shaped, within, is_in_ranges, count_of, time_of, date_of, colour_of, coordinate_of}
use Rattle.gtfs_table.specs.Blanks.{is_control}
use Rattle.gtfs_table.specs.Rows.{is_empty}
use Rattle.gtfs_schema.specs.Columns.{Kind, id, text, count, choice, time, date, colour, coordinate, Empty, refused, nothing, means}

-- a text, or a number: a count, a choice, seconds, a day's number, bits of a colour, units of a coordinate
pub data Value : Type 0 where
  word : List ℕ → Value
  amount : ℤ → Value

abbrev pub has_control : List ℕ → Bool
has_control t = list_any is_control t

-- a text's value: each control character is a space
abbrev pub plain : List ℕ → List ℕ
plain t = map (λ b. if is_control b then 32 else b) t

abbrev pub value_of_count : Result ℕ FieldFault → Result Value FieldFault
value_of_count (Ok n) = Ok (amount (pos n))
value_of_count (Err e) = Err e

abbrev pub measured : Result ℤ FieldFault → Result Value FieldFault
measured (Ok x) = Ok (amount x)
measured (Err e) = Err e

-- a choice is a count that is one of the listed numbers
abbrev pub one_of : List (ℕ × ℕ) → Result ℕ FieldFault → Result ℕ FieldFault
one_of ranges (Ok n) = within (is_in_ranges ranges n) n
one_of ranges (Err e) = Err e

-- the value of a text of a kind, or why it has none
abbrev pub read_as : Kind → List ℕ → Result Value FieldFault
read_as id t = shaped (not (has_control t)) (Ok (word t))
read_as text t = Ok (word (plain t))
read_as count t = value_of_count (count_of t)
read_as (choice ranges) t = value_of_count (one_of ranges (count_of t))
read_as time t = value_of_count (time_of t)
read_as date t = measured (date_of t)
read_as colour t = value_of_count (colour_of t)
read_as (coordinate axis) t = measured (coordinate_of axis t)

-- a text is readable as a kind where it is not empty and the kind accepts it
abbrev pub readable : Kind → List ℕ → Option Value
readable kind t = if is_empty t then None else result_ok (read_as kind t)

-- the text that an empty text of a column stands for
abbrev pub meaning : Empty → List ℕ → List ℕ
meaning refused t = t
meaning nothing t = t
meaning (means m) t = if is_empty t then m else t

abbrev pub value_eq : Value → Value → Bool
value_eq (word a) (word b) = bytes_eq a b
value_eq (word a) (amount y) = false
value_eq (amount x) (word b) = false
value_eq (amount x) (amount y) = int_eq x y

abbrev pub as_word : Value → Option (List ℕ)
as_word (word t) = Some t
as_word (amount x) = None

abbrev pub as_amount : Value → Option ℤ
as_amount (word t) = None
as_amount (amount x) = Some x

-- ---- tests on values that may be missing: where a value that a rule uses is missing the rule does not hold

abbrev pub if_there : {X : Type 0} → Option X → (X → Bool) → Bool
if_there None p = false
if_there (Some x) p = p x

abbrev pub if_both : {X Y : Type 0} → Option X → Option Y → (X → Y → Bool) → Bool
if_both a b p = if_there a (λ x. if_there b (p x))

abbrev pub is_word : Option (List ℕ) → List ℕ → Bool
is_word o t = if_there o (bytes_eq t)

-- a number lies between two, both included
abbrev pub is_count_between : ℕ → ℕ → ℤ → Bool
is_count_between low high x = int_le (pos low) x && int_le x (pos high)

-- a number is one of these
abbrev pub is_one_of : List ℕ → ℤ → Bool
is_one_of wanted x = list_any (λ w. int_eq x (pos w)) wanted
