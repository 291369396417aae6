-- What rules read of a text by its kind, where it is readable: a number or a word.
use Rattle.std.specs.Prelude.{ℕ, Bool, List, Option, is_some, option_and_then, ℤ}
use Rattle.std.specs.Result.{result_ok}
use Rattle.gtfs_field.specs.Kinds.{time_of}
use Rattle.gtfs_schema.specs.Columns.{Kind, choice, colour, id, means}
use Rattle.gtfs_schema.specs.FieldValues.{readable, meaning, as_amount, as_word}

abbrev pub amount_of : Kind → List ℕ → Option ℤ
amount_of kind t = option_and_then as_amount (readable kind t)

abbrev pub word_of : Kind → List ℕ → Option (List ℕ)
word_of kind t = option_and_then as_word (readable kind t)

-- the text is readable as an id
abbrev pub is_id : List ℕ → Bool
is_id t = is_some (readable id t)

-- the seconds of a time
abbrev pub seconds_of : List ℕ → Option ℕ
seconds_of t = result_ok (time_of t)

-- the number of a choice whose empty value has a meaning
abbrev pub choice_of : List (ℕ × ℕ) → List ℕ → List ℕ → Option ℤ
choice_of ranges empty t = amount_of (choice ranges) (meaning (means empty) t)

-- the bits of a colour whose empty value has a meaning
abbrev pub colour_or : List ℕ → List ℕ → Option ℤ
colour_or empty t = amount_of colour (meaning (means empty) t)
