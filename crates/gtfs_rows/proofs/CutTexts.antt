-- Values stand cut of their blanks, and stay so where control characters become spaces.
use Rattle.std.proofs.Common.{◌≡◌, ◌∙◌, ◌++◌, ◌∷◌, [], ℕ, List, reverse, true, false, Bool, Option, Some, None, refl, sym, ap, inl, inr}
use Rattle.std.specs.Prelude.{◌==◌, not, bytes_eq, if◌then◌else◌, slice_index_or}
use Rattle.std.proofs.lemmas.Bool.{cases_Bool, not_from_false, and_from, or_from, or_right}
use Rattle.std.proofs.lemmas.List.{reverse-append, reverse-reverse, length-map, map-append}
use Rattle.gtfs_table.specs.Blanks.{is_blank, is_control, without_first_blanks, cut}
use Rattle.gtfs_table.specs.Rows.{is_empty}
use Rattle.gtfs_table.specs.Tables.{Dataset, column_of, field_under, record_at}
use Rattle.gtfs_table.specs.declared.file.File.{File}
use Rattle.gtfs_table.specs.Rows.{records_in}
use Rattle.gtfs_table.proofs.BlankFacts.{first-blank, first-other, first-none}
use Rattle.gtfs_schema.specs.RowConditions.{text_in}
use Rattle.gtfs_schema.specs.FieldValues.{has_control, plain}
use Rattle.gtfs_schema.proofs.SiteFacts.{text_itself}
use Rattle.gtfs_rows.specs.Cells.{is_filled}

-- no blank stands first
abbrev begins : List ℕ → Bool
begins [] = true
begins (b ∷ t) = not (is_blank b)

-- no blank stands first, and none last
pub record IsCut (t : List ℕ) : Type 0 where
  pub first : begins t ≡ true
  pub last : begins (reverse t) ≡ true

start-begins : (t : List ℕ) → begins (without_first_blanks t) ≡ true
start-begins [] = ap begins first-none
start-begins (b ∷ t) = elim (cases_Bool (is_blank b)) [
  | inl blank ↦ ap begins (first-blank b t blank) ∙ start-begins t
  | inr other ↦ ap begins (first-other b t other) ∙ not_from_false (is_blank b) other
]

begins-start : (t : List ℕ) → begins t ≡ true → without_first_blanks t ≡ t
begins-start [] h = first-none
begins-start (b ∷ t) h = elim (cases_Bool (is_blank b)) [
  | inl blank ↦ let never : false ≡ true = rw blank at h in cc
  | inr other ↦ first-other b t other
]

begins-left : (xs ys : List ℕ) → begins (xs ++ ys) ≡ true → begins xs ≡ true
begins-left [] ys h = refl
begins-left (x ∷ xs) ys h = h

-- the blanks that go, before the rest
passed : (t : List ℕ) → (front : List ℕ) × (t ≡ front ++ without_first_blanks t)
passed [] = ([], sym first-none)
passed (b ∷ t) = elim (cases_Bool (is_blank b)) [
  | inl blank ↦ let rest = passed t in (b ∷ rest.0, ap (λ u. b ∷ u) rest.1 ∙ ap (λ u. b ∷ rest.0 ++ u) (sym (first-blank b t blank)))
  | inr other ↦ ([], sym (first-other b t other))
]

pub cut-is_cut : (t : List ℕ) → IsCut (cut t)
cut-is_cut t =
    let u = without_first_blanks t in
    let v = without_first_blanks (reverse u) in
    let front = passed (reverse u) in
    let whole : u ≡ reverse v ++ reverse front.0 = sym (reverse-reverse u) ∙ ap (λ z. reverse z) front.1 ∙ reverse-append front.0 v in
    record {
      first = begins-left (reverse v) (reverse front.0) (ap begins (sym whole) ∙ start-begins t);
      last = ap begins (reverse-reverse v) ∙ start-begins (reverse u);
    }

pub is_cut-cut : (t : List ℕ) → IsCut t → cut t ≡ t
is_cut-cut t is =
    ap (λ u. reverse (without_first_blanks (reverse u))) (begins-start t is.first)
    ∙ ap (λ u. reverse u) (begins-start (reverse t) is.last)
    ∙ reverse-reverse t

-- ---- spaces for control characters

abbrev shown : ℕ → ℕ
shown b = if is_control b then 32 else b

shown-blank : (b : ℕ) → is_blank (shown b) ≡ is_blank b
shown-blank b = by_control (is_control b) refl
  where
    by_control : (c : Bool) → is_control b ≡ c → is_blank (if c then 32 else b) ≡ is_blank b
    by_control true control = sym (or_right (b == 32) (is_control b) control)
    by_control false other = refl

shown-control : (b : ℕ) → is_control (shown b) ≡ false
shown-control b = elim (cases_Bool (is_control b)) [
  | inl control ↦ rw control refl
  | inr other ↦ rw other other
]

begins-plain : (t : List ℕ) → begins (plain t) ≡ begins t
begins-plain [] = refl
begins-plain (b ∷ t) = ap not (shown-blank b)

plain-reverse : (t : List ℕ) → reverse (plain t) ≡ plain (reverse t)
plain-reverse [] = refl
plain-reverse (b ∷ t) =
    reverse-append (shown b ∷ []) (plain t)
    ∙ ap (λ u. u ++ shown b ∷ []) (plain-reverse t)
    ∙ sym (map-append shown (reverse t) (b ∷ []))
    ∙ ap (λ u. plain u) (sym (reverse-append (b ∷ []) t))

plain-is_cut : (t : List ℕ) → IsCut t → IsCut (plain t)
plain-is_cut t is = record {
  first = begins-plain t ∙ is.first;
  last = ap begins (plain-reverse t) ∙ begins-plain (reverse t) ∙ is.last;
}

plain-clean : (t : List ℕ) → has_control (plain t) ≡ false
plain-clean [] = refl
plain-clean (b ∷ t) = or_from (is_control (shown b)) (has_control (plain t)) (shown-control b) (plain-clean t)

plain-filled : (t : List ℕ) → is_empty (plain t) ≡ is_empty t
plain-filled t = ap (λ n. n == 0) (length-map t shown)

-- ---- filled texts

pub id_filled : (t : List ℕ) → IsCut t → has_control t ≡ false → is_empty t ≡ false → is_filled t ≡ true
id_filled t is clean there =
    and_from _ _ (and_from _ _ (ap (λ u. bytes_eq u t) (is_cut-cut t is) ∙ text_itself t) (not_from_false (has_control t) clean)) (not_from_false (is_empty t) there)

pub text_filled : (t : List ℕ) → IsCut t → is_empty t ≡ false → is_filled (plain t) ≡ true
text_filled t is there = id_filled (plain t) (plain-is_cut t is) (plain-clean t) (plain-filled t ∙ there)

-- ---- the texts of rows

field-is_cut : (fields : List (List ℕ)) (o : Option ℕ) → IsCut (field_under fields o)
field-is_cut fields None = record { first = refl; last = refl }
field-is_cut fields (Some n) = cut-is_cut (slice_index_or fields n [])

pub text-is_cut : (d : Dataset) (x : File) (n : ℕ) (name : List ℕ) → IsCut (text_in d x n name)
text-is_cut d x n name = field-is_cut (record_at (records_in d x) n) (column_of (records_in d x) name)
