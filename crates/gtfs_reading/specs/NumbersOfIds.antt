-- Numbers of a row: an unreadable one counts as 0, and no dataset that passes has one.
use Rattle.std.specs.Prelude.{ℕ, List, [], ◌∷◌, if◌then◌else◌, Option, option_map, pos, unsigned_abs, unwrap_or}
use Rattle.std.specs.Ordering.{int_eq}
use Rattle.gtfs_days.specs.declared.exception.Exception.{Exception}
use Rattle.gtfs_days.specs.declared.exception.Exception.TheVariants.{Added, Removed}
use Rattle.gtfs_schema.specs.Columns.{Kind, choice}
use Rattle.gtfs_schema.specs.ReadFields.{amount_of, choice_of}

-- the number of a text of this kind
abbrev pub number_of : Kind → List ℕ → ℕ
number_of kind t = unsigned_abs (unwrap_or (amount_of kind t) (pos 0))

-- the number of a choice whose empty value has a meaning
abbrev pub chosen : List (ℕ × ℕ) → List ℕ → List ℕ → ℕ
chosen ranges empty t = unsigned_abs (unwrap_or (choice_of ranges empty t) (pos 0))

-- the number that may be missing
abbrev pub number_if_there : Kind → List ℕ → Option ℕ
number_if_there kind t = option_map unsigned_abs (amount_of kind t)

-- what a text of `exception_type` says: 1 adds a day, and 2 removes it
abbrev pub exception_of : List ℕ → Exception
exception_of t = if int_eq (unwrap_or (amount_of (choice ((1, 2) ∷ [])) t) (pos 0)) (pos 1) then Added else Removed
