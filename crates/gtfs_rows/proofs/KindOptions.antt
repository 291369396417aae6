-- Values that may be missing, each of which lies in a kind.
use Rattle.std.proofs.Common.{◌≡◌, ◌∙◌, ℕ, List, true, false, Bool, Option, Some, None, refl, sym, ap, subst}
use Rattle.std.specs.Prelude.{is_some, option_and_then, option_map, ℤ, pos, unsigned_abs}
use Prim.Native.String.{String as Literal}
use Rattle.std.proofs.lemmas.Bool.{and_parts}
use Rattle.gtfs_schema.specs.Columns.{Kind, id, text, count, choice, time, date, colour, coordinate, optional}
use Rattle.gtfs_schema.specs.FieldValues.{Value, word, amount, as_word, as_amount}
use Rattle.gtfs_rows.specs.Cells.{is_between, is_of_kind, is_cell}
use Rattle.gtfs_rows.specs.RowCells.{value_of_number}
use Rattle.gtfs_rows.proofs.CellTexts.{natural_between}

-- the values of the kind are texts
abbrev pub is_of_words : Kind → Bool
is_of_words id = true
is_of_words text = true
is_of_words count = false
is_of_words (choice ranges) = false
is_of_words time = false
is_of_words date = false
is_of_words colour = false
is_of_words (coordinate axis) = false

-- the values of the kind are numbers from 0 on
abbrev pub is_natural : Kind → Bool
is_natural id = false
is_natural text = false
is_natural count = true
is_natural (choice ranges) = true
is_natural time = true
is_natural date = false
is_natural colour = true
is_natural (coordinate axis) = false

-- a value that is there and lies in the kind
pub record Reads (k : Kind) (o : Option Value) (v : Value) : Type 0 where
  pub is : o ≡ Some v
  pub fits : is_of_kind k v ≡ true

pub record HasWord (k : Kind) (o : Option Value) : Type 0 where
  pub word_of : List ℕ
  pub reads : Reads k o (word word_of)

pub record HasNumber (k : Kind) (o : Option Value) : Type 0 where
  pub number_of : ℕ
  pub reads : Reads k o (value_of_number number_of)

pub record HasAmount (k : Kind) (o : Option Value) : Type 0 where
  pub amount_of : ℤ
  pub reads : Reads k o (amount amount_of)

-- each value that the option holds lies in the kind
abbrev pub Fits : Kind → Option Value → Type 0
Fits k o = (v : Value) → o ≡ Some v → is_of_kind k v ≡ true

no_amount : (k : Kind) (x : ℤ) → is_of_words k ≡ true → is_of_kind k (amount x) ≡ true → ⊥
no_amount id x words fits = cc
no_amount text x words fits = cc
no_amount count x words fits = cc
no_amount (choice ranges) x words fits = cc
no_amount time x words fits = cc
no_amount date x words fits = cc
no_amount colour x words fits = cc
no_amount (coordinate axis) x words fits = cc

no_word : (k : Kind) (t : List ℕ) → is_of_words k ≡ false → is_of_kind k (word t) ≡ true → ⊥
no_word id t numbers fits = cc
no_word text t numbers fits = cc
no_word count t numbers fits = cc
no_word (choice ranges) t numbers fits = cc
no_word time t numbers fits = cc
no_word date t numbers fits = cc
no_word colour t numbers fits = cc
no_word (coordinate axis) t numbers fits = cc

natural_of : (k : Kind) (x : ℤ) → is_natural k ≡ true → is_of_kind k (amount x) ≡ true → pos (unsigned_abs x) ≡ x
natural_of id x natural fits = cc
natural_of text x natural fits = cc
natural_of count x natural fits = (natural_between 2_147_483_647 x fits).same
natural_of (choice ranges) x natural fits = (natural_between 2_147_483_647 x (and_parts (is_between (pos 0) (pos 2_147_483_647) x) _ fits).0).same
natural_of time x natural fits = (natural_between 3_599_999 x fits).same
natural_of date x natural fits = cc
natural_of colour x natural fits = (natural_between 16_777_215 x fits).same
natural_of (coordinate axis) x natural fits = cc

natural_numbers : (k : Kind) → is_natural k ≡ true → is_of_words k ≡ false
natural_numbers id natural = cc
natural_numbers text natural = cc
natural_numbers count natural = refl
natural_numbers (choice ranges) natural = refl
natural_numbers time natural = refl
natural_numbers date natural = refl
natural_numbers colour natural = refl
natural_numbers (coordinate axis) natural = refl

module _ (k : Kind) where
  pub some_word : is_of_words k ≡ true → (o : Option Value) → Fits k o → is_some o ≡ true → HasWord k o
  some_word words None fits there = cc
  some_word words (Some (word t)) fits there = record { word_of = t; reads = record { is = refl; fits = fits (word t) refl } }
  some_word words (Some (amount x)) fits there = absurd (no_amount k x words (fits (amount x) refl))

  pub some_amount : is_of_words k ≡ false → (o : Option Value) → Fits k o → is_some o ≡ true → HasAmount k o
  some_amount numbers None fits there = cc
  some_amount numbers (Some (word t)) fits there = absurd (no_word k t numbers (fits (word t) refl))
  some_amount numbers (Some (amount x)) fits there = record { amount_of = x; reads = record { is = refl; fits = fits (amount x) refl } }

  pub some_number : is_natural k ≡ true → (o : Option Value) → Fits k o → is_some o ≡ true → HasNumber k o
  some_number natural o fits there =
      let a = some_amount (natural_numbers k natural) o fits there in
      let same = natural_of k a.amount_of natural a.reads.fits in
      record {
        number_of = unsigned_abs a.amount_of;
        reads = record { is = a.reads.is ∙ ap (λ x. Some (amount x)) (sym same); fits = subst (λ x. is_of_kind k (amount x) ≡ true) (sym same) a.reads.fits };
      }

  pub words_back : is_of_words k ≡ true → (o : Option Value) → Fits k o → option_map word (option_and_then as_word o) ≡ o
  words_back words None fits = refl
  words_back words (Some (word t)) fits = refl
  words_back words (Some (amount x)) fits = absurd (no_amount k x words (fits (amount x) refl))

  pub amounts_back : is_of_words k ≡ false → (o : Option Value) → Fits k o → option_map amount (option_and_then as_amount o) ≡ o
  amounts_back numbers None fits = refl
  amounts_back numbers (Some (word t)) fits = absurd (no_word k t numbers (fits (word t) refl))
  amounts_back numbers (Some (amount x)) fits = refl

  pub numbers_back : is_natural k ≡ true → (o : Option Value) → Fits k o → option_map value_of_number (option_map unsigned_abs (option_and_then as_amount o)) ≡ o
  numbers_back natural None fits = refl
  numbers_back natural (Some (word t)) fits = absurd (no_word k t (natural_numbers k natural) (fits (word t) refl))
  numbers_back natural (Some (amount x)) fits = ap (λ y. Some (amount y)) (natural_of k x natural (fits (amount x) refl))

-- where there is a word there is a value
pub value_of_word : (o : Option Value) (t : List ℕ) → option_and_then as_word o ≡ Some t → is_some o ≡ true
value_of_word None t e = cc
value_of_word (Some v) t e = refl

pub fits_optional : (name : Literal) (k : Kind) (o : Option Value) → Fits k o → is_cell (optional name k) o ≡ true
fits_optional name k None fits = refl
fits_optional name k (Some v) fits = fits v refl
