-- Fields and columns of a table.
use Rattle.std.proofs.Common.{◌≡◌, ◌<◌, ◌+◌, ◌-◌, ◌==◌, ◌∷◌, ◌∙◌, ◌⊎◌, [], ℕ, zero, suc, List, Bool, Some, None, length, not, take, get_or, refl, sym, ap, arith, true, false, inl, inr}
use Rattle.std.specs.Prelude.{position, bytes_eq}
use Rattle.std.specs.List.{list_any, position_from}
use Rattle.std.proofs.lemmas.Bool.{cases_Bool, ne_eqb}
use Rattle.std.proofs.lemmas.Iterator.Adapters.{position_from-zero}
use Rattle.gtfs_table.specs.Blanks.{cut}
use Rattle.gtfs_table.proofs.BlankFacts.{none-cut}
use Rattle.gtfs_table.specs.Tables.{Records, record_at, field_cut, column_of}

-- a row that is there
pub record-there : (rs : Records) (row : ℕ) → 0 < row → record_at rs row ≡ get_or rs (row - 1) []
record-there rs row h = let some : (row == 0) ≡ false = ne_eqb row 0 (λ z. omega arith) in rw some refl

pub next-record : (rs : Records) (i : ℕ) → record_at rs (i + 1) ≡ get_or rs i []
next-record rs i =
    let number : i + 1 - 1 ≡ i = omega arith in
    record-there rs (i + 1) (omega arith) ∙ rw number refl

-- the index of the first that passes
from-at : {X : Type 0} (p : X → Bool) (k : ℕ) (xs : List X) (n : ℕ) (d : X) → position_from p k (take n xs) ≡ None → n < length xs → p (get_or xs n d) ≡ true
    → position_from p k xs ≡ Some (k + n)
from-at p k [] n d before h here = absurd (omega arith)
from-at p k (x ∷ xs) zero d before h here = let e : k + 0 ≡ k = omega arith in rw (here, e) refl
from-at p k (x ∷ xs) (suc n) d before h here = elim (cases_Bool (p x)) [
  | inl is ↦ let q = rw is at before in cc q
  | inr not ↦
      let q = rw not at before in
      let e : (k + 1) + n ≡ k + suc n = omega arith in
      rw not (from-at p (k + 1) xs n d q (omega arith) here ∙ ap (λ (z : ℕ). Some z) e)
]

pub position-at : {X : Type 0} (p : X → Bool) (xs : List X) (n : ℕ) (d : X) → position p (take n xs) ≡ None → n < length xs → p (get_or xs n d) ≡ true → position p xs ≡ Some n
position-at p xs n d before h here =
    let e : 0 + n ≡ n = omega arith in
    position_from-zero p xs ∙ from-at p 0 xs n d (sym (position_from-zero p (take n xs)) ∙ before) h here ∙ ap (λ (z : ℕ). Some z) e

pub column-at : (rs : Records) (name : List ℕ) (n : ℕ) → (length name == 0) ≡ false → position (λ column. bytes_eq (cut column) name) (take n (record_at rs 1)) ≡ None
    → n < length (record_at rs 1) → bytes_eq (field_cut (record_at rs 1) n) name ≡ true → Some n ≡ column_of rs name
column-at rs name n some before h here =
    let p : List ℕ → Bool = λ column. bytes_eq (cut column) name in
    rw some (sym (position-at p (record_at rs 1) n [] before h here))

-- a record whose first field has a value has one
pub first-value : (fields : List (List ℕ)) → (length (cut (get_or fields 0 [])) == 0) ≡ false → list_any (λ field. not (length (cut field) == 0)) fields ≡ true
first-value [] e = absurd (cc (e, none-cut [] (omega arith)))
first-value (x ∷ fields) e = rw e refl
