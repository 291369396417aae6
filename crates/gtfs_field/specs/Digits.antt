-- Digits in a text, and the numbers that they write. A text is the list of its bytes.
use Rattle.std.specs.Prelude.{ℕ, zero, suc, ◌+◌, ◌/◌, ◌%◌, ◌==◌, ◌&&◌, not, Bool, nat_lt, if◌then◌else◌, List, [], ◌∷◌, ◌++◌, length}
use Rattle.std.specs.Str.{all_ascii_digits}
use Rattle.std.specs.Str.Parse.{digits_value}

-- one decimal digit or more, and nothing else
abbrev pub is_number : List ℕ → Bool
is_number ds = not (length ds == 0) && all_ascii_digits ds

-- the number that decimal digits write, each by its position
abbrev pub number : List ℕ → ℕ
number ds = digits_value 10 ds

-- exactly k decimal digits
abbrev pub is_wide : ℕ → List ℕ → Bool
is_wide k ds = (length ds == k) && all_ascii_digits ds

-- the last k decimal digits of a number, with zeros in front where it has fewer
abbrev pub wide : ℕ → ℕ → List ℕ
wide zero n = []
wide (suc k) n = wide k (n / 10) ++ (48 + n % 10) ∷ []

-- the upper-case hexadecimal digit of a number below 16
abbrev pub hex_digit : ℕ → ℕ
hex_digit n = if nat_lt n 10 then 48 + n else 55 + n

-- the last k hexadecimal digits of a number, in upper case
abbrev pub wide_hex : ℕ → ℕ → List ℕ
wide_hex zero n = []
wide_hex (suc k) n = wide_hex k (n / 16) ++ hex_digit (n % 16) ∷ []

-- digits without the zeros at their end
abbrev pub without_last_zeros : List ℕ → List ℕ
without_last_zeros [] = []
without_last_zeros (d ∷ ds) =
    let rest = without_last_zeros ds in
    if (d == 48) && (length rest == 0) then [] else d ∷ rest
