-- What is odd about a text by itself. A text is its bytes, a character a Unicode scalar value.
use Rattle.std.specs.Prelude.{ℕ, ◌==◌, ◌&&◌, ◌||◌, not, Bool, true, false, nat_eq, nat_lt, nat_le, List, [], ◌∷◌, length, drop, codes, Option}
use Rattle.std.specs.Char.{is_ascii_alphanumeric}
use Rattle.std.specs.List.{starts_with}
use Rattle.std.specs.Str.{chars}
use Rattle.gtfs_schema.specs.FieldValues.{if_there}

-- ---- garbled letters

-- the two bytes of a letter in UTF-8, each read as a letter of its own: U+00C2 or U+00C3, and right behind it one of U+0080 to U+00BF
abbrev pub is_lead : ℕ → Bool
is_lead c = (c == 0xC2) || (c == 0xC3)

abbrev pub is_trail : ℕ → Bool
is_trail c = nat_le 0x80 c && nat_le c 0xBF

abbrev pub is_misread : ℕ → List ℕ → Bool
is_misread c [] = false
is_misread c (next ∷ rest) = is_lead c && is_trail next

-- some character is U+FFFD, which stands for what could not be read, or begins such a pair
abbrev pub has_garbled : List ℕ → Bool
has_garbled [] = false
has_garbled (c ∷ cs) = (c == 0xFFFD) || is_misread c cs || has_garbled cs

-- a character at which garbled letters are seen, behind one that may be the first of such a pair
abbrev pub is_odd : Bool → ℕ → Bool
is_odd is_behind_lead c = (c == 0xFFFD) || (is_behind_lead && is_trail c)

abbrev pub is_garbled : List ℕ → Bool
is_garbled text = has_garbled (chars text)

abbrev pub is_garbled_if_given : Option (List ℕ) → Bool
is_garbled_if_given text = if_there text is_garbled

-- ---- addresses

-- `agency_url` begins with neither scheme of the web, in small letters
abbrev pub lacks_scheme : List ℕ → Bool
lacks_scheme url = not (starts_with nat_eq url (codes "http://") || starts_with nat_eq url (codes "https://"))

-- ---- names

abbrev pub has_more_characters : ℕ → List ℕ → Bool
has_more_characters n text = nat_lt n (length (chars text))

-- nothing follows, or an ASCII character that is no letter and no digit
abbrev pub ends_a_word : List ℕ → Bool
ends_a_word [] = true
ends_a_word (b ∷ bs) = nat_lt b 128 && not (is_ascii_alphanumeric b)

-- a long name begins with the short one, and there a word ends
abbrev pub repeats : List ℕ → List ℕ → Bool
repeats short long = starts_with nat_eq long short && ends_a_word (drop (length short) long)
