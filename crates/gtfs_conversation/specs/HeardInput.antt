-- What is read of a line before it is heard.
use Rattle.std.specs.Prelude.{ℕ, ◌+◌, ◌==◌, ◌≡◌, Bool, true, false, List, [], ◌∷◌, ◌++◌, take, All, Option, Some, None, if◌then◌else◌}
use Rattle.std.specs.Str.Lines.{strip_carriage_return}

-- the first of these bytes was read, or none was left
abbrev pub GivesByte : List ℕ → Option ℕ → Option (List ℕ) → Type 0
GivesByte bytes None left = (bytes ≡ []) × (left ≡ Some [])
GivesByte bytes (Some byte) left = (rest : List ℕ) × (bytes ≡ byte ∷ rest) × (left ≡ Some rest)

-- how these bytes go on after the raw ones: with LF, or not at all
abbrev pub EndsRaw : Bool → List ℕ → List ℕ → Option (List ℕ) → Type 0
EndsRaw true bytes raw left = (rest : List ℕ) × (bytes ≡ raw ++ 10 ∷ rest) × (left ≡ Some rest)
EndsRaw false bytes raw left = (bytes ≡ raw) × (left ≡ Some [])

-- no byte is LF
abbrev pub HasNoFeed : List ℕ → Type 0
HasNoFeed raw = All (λ b. (b == 10) ≡ false) raw

-- all bytes up to LF were read, or up to the end where there is none, and of those before it the first are kept
pub record ReadsRaw (most : ℕ) (fed : Bool) (bytes kept : List ℕ) (left : Option (List ℕ)) : Type 0 where
  pub raw : List ℕ
  pub no_feed : HasNoFeed raw
  pub beginning : kept ≡ take most raw
  pub end : EndsRaw fed bytes raw left

-- what is heard of a line, of the bytes before its end: CR before LF is left out, and one byte more than this many is the most
abbrev pub heard_of : ℕ → Bool → List ℕ → List ℕ
heard_of most fed raw = take (most + 1) (if fed then strip_carriage_return raw else raw)
