-- The text of a value that lies in its kind is cut and not empty, and is read back to the value.
use Rattle.std.proofs.Common.{◌≡◌, ◌*◌, ◌^◌, ◌≤◌, ℕ, List, [], ◌∷◌, true, false, Some, Result, Ok, Err, refl, sym, ap, ◌∙◌, arith, inl, inr}
use Rattle.std.specs.Prelude.{not, bytes_eq, ℤ, pos, negsuc, int_le, unsigned_abs, ◌≤ℤ◌}
use Rattle.std.proofs.lemmas.Bool.{and_parts, cases_Bool, not-true, leb-true}
use Rattle.std.proofs.lemmas.Bool.Decides.{nat_tests}
use Rattle.gtfs_field.specs.declared.coord.Axis.{Axis}
use Rattle.gtfs_field.specs.declared.coord.Axis.TheVariants.{Latitude, Longitude}
use Rattle.gtfs_field.specs.declared.fault.FieldFault.{FieldFault}
use Rattle.gtfs_field.specs.declared.fault.FieldFault.TheVariants.{Form}
use Rattle.gtfs_field.specs.Kinds.{count_of, is_in_ranges, most_degrees}
use Rattle.gtfs_field.specs.Canonical.{count_text, time_text, date_text, colour_text, coordinate_text}
use Rattle.gtfs_field.proofs.Texts.{count_of-text, time_of-text}
use Rattle.gtfs_field.proofs.Dates.{date_of-text}
use Rattle.gtfs_field.proofs.Colours.{colour_of-text}
use Rattle.gtfs_field.proofs.CoordinateTexts.{coordinate_of-text}
use Rattle.gtfs_table.specs.Blanks.{cut}
use Rattle.gtfs_table.specs.Rows.{is_empty}
use Rattle.gtfs_table.proofs.BlankFacts.{no_text as empty-is}
use Rattle.gtfs_schema.specs.Columns.{Kind, id, text, count, choice, time, date, colour, coordinate}
use Rattle.gtfs_schema.specs.FieldValues.{Value, word, amount, read_as, readable, has_control, value_of_count, measured, one_of}
use Rattle.gtfs_schema.proofs.SiteFacts.{text_is}
use Rattle.gtfs_schema.proofs.PlainTexts.{plain-itself as plain-clean}
use Rattle.gtfs_rows.specs.Cells.{is_clean, is_filled, is_between, is_of_kind, text_of}
use Rattle.gtfs_rows.proofs.Visible.{are_visible, cut-visible, visible-count, visible-time, visible-date, visible-colour, visible-coordinate}

-- what a written field says of its value
pub record Writes (k : Kind) (t : List ℕ) (v : Value) : Type 0 where
  pub cut : cut t ≡ t
  pub filled : is_empty t ≡ false
  pub read : read_as k t ≡ Ok v

-- ---- bounds of numbers, as facts

-- a number from 0 to a bound is a natural number up to it
pub record IsNatural (high : ℕ) (x : ℤ) : Type 0 where
  pub below : unsigned_abs x ≤ high
  pub same : pos (unsigned_abs x) ≡ x

pub natural_between : (high : ℕ) (x : ℤ) → is_between (pos 0) (pos high) x ≡ true → IsNatural high x
natural_between high (pos n) h = let parts = and_parts (int_le (pos 0) (pos n)) (int_le (pos n) (pos high)) h in record { below = leb-true n high parts.1; same = refl }
natural_between high (negsuc n) h = let parts = and_parts (int_le (pos 0) (negsuc n)) (int_le (negsuc n) (pos high)) h in absurd (grind (arith, nat_tests))

err≢ok : {A : Type 0} (e : FieldFault) (v : A) → Err e ≡ Ok v → ⊥
err≢ok e v h = cc

-- no word is empty
no_word : (v : Value) → is_of_kind id v ≡ true → word [] ≡ v → ⊥
no_word (word []) h e = let no = (and_parts (is_clean []) false h).1 in cc
no_word (word (b ∷ t)) h e = cc
no_word (amount x) h e = cc

no_text : (v : Value) → is_of_kind text v ≡ true → word [] ≡ v → ⊥
no_text (word []) h e = let no = (and_parts (is_clean []) false h).1 in cc
no_text (word (b ∷ t)) h e = cc
no_text (amount x) h e = cc

ok-same : (v w : Value) → (let r : Result Value FieldFault = Ok v in r) ≡ Ok w → v ≡ w
ok-same v w e = cc

-- the empty text is of no kind but text
nothing_reads : (k : Kind) (v : Value) → is_of_kind k v ≡ true → read_as k [] ≡ Ok v → ⊥
nothing_reads id v h e = no_word v h (ok-same (word []) v e)
nothing_reads text v h e = no_text v h (ok-same (word []) v e)
nothing_reads count v h e = err≢ok Form v e
nothing_reads (choice ranges) v h e = err≢ok Form v e
nothing_reads time v h e = err≢ok Form v e
nothing_reads date v h e = err≢ok Form v e
nothing_reads colour v h e = err≢ok Form v e
nothing_reads (coordinate axis) v h e = err≢ok Form v e

filled_from : (k : Kind) (v : Value) (t : List ℕ) → is_of_kind k v ≡ true → read_as k t ≡ Ok v → is_empty t ≡ false
filled_from k v t h e = elim (cases_Bool (is_empty t)) [
  | inl none ↦ absurd (nothing_reads k v h (ap (read_as k) (sym (empty-is t none)) ∙ e))
  | inr some ↦ some
]

writes : (k : Kind) (v : Value) (t : List ℕ) → is_of_kind k v ≡ true → are_visible t ≡ true → read_as k t ≡ Ok v → Writes k t v
writes k v t h visible e = record { cut = cut-visible t visible; filled = filled_from k v t h e; read = e }

-- the parts of a filled text
pub record IsFilled (t : List ℕ) : Type 0 where
  pub cut : cut t ≡ t
  pub clean : has_control t ≡ false
  pub filled : is_empty t ≡ false

pub filled_parts : (t : List ℕ) → is_filled t ≡ true → IsFilled t
filled_parts t h =
    let parts = and_parts (is_clean t) (not (is_empty t)) h in
    let clean = and_parts (bytes_eq (cut t) t) (not (has_control t)) parts.0 in
    record { cut = text_is (cut t) t clean.0; clean = not-true (has_control t) clean.1; filled = not-true (is_empty t) parts.1 }

value_of_count-ok : {r : Result ℕ FieldFault} (x : ℤ) → r ≡ Ok (unsigned_abs x) → pos (unsigned_abs x) ≡ x → value_of_count r ≡ Ok (amount x)
value_of_count-ok x e same = ap value_of_count e ∙ ap (λ n. Ok (amount n)) same

most-degrees : (axis : Axis) → most_degrees axis * 10 ^ 9 ≤ 180_000_000_000
most-degrees Latitude = omega arith
most-degrees Longitude = omega arith

signed_bounds : (low high x : ℤ) → is_between low high x ≡ true → (low ≤ℤ x) × (x ≤ℤ high)
signed_bounds low high x h = let parts = and_parts (int_le low x) (int_le x high) h in (grind (arith, nat_tests), grind (arith, nat_tests))

-- the law of kinds: what is written of a value in its kind is read back
pub writes_value : (k : Kind) (v : Value) → is_of_kind k v ≡ true → Writes k (text_of k v) v
writes_value id (word t) h = let is = filled_parts t h in record { cut = is.cut; filled = is.filled; read = rw (is.clean) refl }
writes_value text (word t) h = let is = filled_parts t h in record { cut = is.cut; filled = is.filled; read = ap (λ u. Ok (word u)) (plain-clean t is.clean) }
writes_value count (word t) h = cc
writes_value (choice ranges) (word t) h = cc
writes_value time (word t) h = cc
writes_value date (word t) h = cc
writes_value colour (word t) h = cc
writes_value (coordinate axis) (word t) h = cc
writes_value id (amount x) h = cc
writes_value text (amount x) h = cc
writes_value count (amount x) h =
    let n = natural_between 2_147_483_647 x h in
    writes count (amount x) (count_text (unsigned_abs x)) h (visible-count (unsigned_abs x) (omega (arith, n.below))) (value_of_count-ok x (count_of-text (unsigned_abs x) n.below) n.same)
writes_value (choice ranges) (amount x) h =
    let parts = and_parts (is_between (pos 0) (pos 2_147_483_647) x) (is_in_ranges ranges (unsigned_abs x)) h in
    let n = natural_between 2_147_483_647 x parts.0 in
    let read : one_of ranges (count_of (count_text (unsigned_abs x))) ≡ Ok (unsigned_abs x) = ap (one_of ranges) (count_of-text (unsigned_abs x) n.below) ∙ (rw parts.1 refl) in
    writes (choice ranges) (amount x) (count_text (unsigned_abs x)) h (visible-count (unsigned_abs x) (omega (arith, n.below))) (value_of_count-ok x read n.same)
writes_value time (amount x) h =
    let n = natural_between 3_599_999 x h in
    writes time (amount x) (time_text (unsigned_abs x)) h (visible-time (unsigned_abs x) n.below) (value_of_count-ok x (time_of-text (unsigned_abs x) n.below) n.same)
writes_value date (amount x) h =
    let bounds = signed_bounds (negsuc 25_566) (pos 2_932_896) x h in
    writes date (amount x) (date_text x) h (visible-date x) (ap measured (date_of-text x bounds.0 bounds.1))
writes_value colour (amount x) h =
    let n = natural_between 16_777_215 x h in
    writes colour (amount x) (colour_text (unsigned_abs x)) h (visible-colour (unsigned_abs x)) (value_of_count-ok x (colour_of-text (unsigned_abs x) n.below) n.same)
writes_value (coordinate axis) (amount x) h =
    let inside = leb-true (unsigned_abs x) (most_degrees axis * 10 ^ 9) h in
    let most : unsigned_abs x ≤ 180_000_000_000 = omega (arith, inside, most-degrees axis) in
    writes (coordinate axis) (amount x) (coordinate_text x) h (visible-coordinate x (omega (arith, most))) (ap measured (coordinate_of-text axis x most inside))

pub readable_value : (k : Kind) (v : Value) → is_of_kind k v ≡ true → readable k (text_of k v) ≡ Some v
readable_value k v h = let w = writes_value k v h in rw (w.filled, w.read) refl
