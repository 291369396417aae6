-- Rows that are joined, by their numbers.
use Rattle.std.proofs.Common.{◌≡◌, ◌<◌, ◌+◌, ℕ, suc, Bool, true, false, cond, not, List, [], ◌∷◌, ◌++◌, Some, None, Option, refl, sym, ap, ◌∙◌, subst, length, map, take, get_or, bytes_eq, option_map, add-one, arith}
use Rattle.std.specs.Prelude.{if◌then◌else◌}
use Rattle.std.specs.List.{slice_get, position, position_or_len}
use Rattle.std.specs.Ordering.{on}
use Rattle.std.proofs.Math.Seq.{take-suc}
use Rattle.std.proofs.lemmas.List.{map-append}
use Rattle.gtfs_field.specs.TextOrder.{text_cmp}
use Rattle.gtfs_schema.proofs.NamedFacts.{text_turned as bytes_flip}
use Rattle.gtfs_rows.specs.TransferOrder.{Ascends}
use Rattle.gtfs_rows.proofs.NumberFacts.{own_number}
use Rattle.gtfs_merge.specs.JoinedNumbers.{number_if}
use Rattle.gtfs_merge.specs.Renaming.{joined_by}
use Rattle.gtfs_merge.proofs.Lookups.{look, look_any, holds_at}
use Rattle.gtfs_merge.proofs.Premises.{keyed-ascending}

-- ---- a loop that asks for each row in turn

pub numbered_more : {T X : Type 0} (number : T → ℕ) (f : X → Option ℕ) (xs : List X) (d : X) (k : ℕ) (items new : List (Option T)) (x : Option T)
    → k < length xs → map (option_map number) items ≡ map f (take k xs) → new ≡ items ++ x ∷ [] → option_map number x ≡ f (get_or xs k d)
    → map (option_map number) new ≡ map f (take (k + 1) xs)
numbered_more number f xs d k items new x within so_far pushed here =
    ap (map (option_map number)) pushed ∙ map-append (option_map number) items (x ∷ [])
    ∙ (λ i. so_far i ++ here i ∷ [])
    ∙ sym (map-append f (take k xs) (get_or xs k d ∷ [])) ∙ ap (map f) (sym (take-suc xs k d within)) ∙ ap (λ n. map f (take n xs)) (sym (add-one k))

-- ---- a row of a mapped list

module _ {X : Type 0} (id : X → List ℕ) where
  look-or : (rows : List X) (q : List ℕ) (x : X) (n : ℕ) → position_or_len (bytes_eq q) (map id rows) ≡ n → slice_get rows n ≡ Some x → look id rows q ≡ Some x
  look-or [] q x n e at = cc
  look-or (r ∷ rs) q x n numbered found =
      let turned = bytes_flip (id r) q in
      let rest = position_or_len (bytes_eq q) (map id rs) in
      elim (bytes_eq q (id r)) as (λ b. bytes_eq q (id r) ≡ b → cond (not b) (1 + position_or_len (bytes_eq q) (map id rs)) 0 ≡ n → look id (r ∷ rs) q ≡ Some x) [
        | true ↦ λ t e. (λ i. cond ((turned ∙ t) i) (Some r) (look id rs q)) ∙ subst (λ m. slice_get (r ∷ rs) m ≡ Some x) (sym e) found
        | false ↦ λ t e.
            let one : 1 + rest ≡ suc rest = omega arith in
            let next : slice_get (r ∷ rs) (suc rest) ≡ Some x = subst (λ m. slice_get (r ∷ rs) m ≡ Some x) (sym e ∙ one) found in
            (λ i. cond ((turned ∙ t) i) (Some r) (look id rs q)) ∙ look-or rs q x rest refl next
      ] refl numbered

  same-number : (b : Bool) (m n : ℕ) → cond b (Some m) None ≡ Some n → m ≡ n
  same-number true m n e = cc
  same-number false m n e = cc

  -- the row at the index of an id is the one that is found under it
  pub look-index : (rows : List X) (q : List ℕ) (x : X) (n : ℕ) → position (bytes_eq q) (map id rows) ≡ Some n → slice_get rows n ≡ Some x → look id rows q ≡ Some x
  look-index rows q x n e at = look-or rows q x n (same-number _ _ n e) at

  -- a row is found under its own id
  pub look-own : (rows : List X) (k : ℕ) (y : X) → Ascends (on id text_cmp) rows → slice_get rows k ≡ Some y → look id rows (id y) ≡ Some y
  look-own rows k y up at = look-index rows (id y) y k (own_number id rows k y up at) at

  module _ (same : X → X → Bool) (rows_a rows_b : List X) (up_a : Ascends (on id text_cmp) rows_a) (up_b : Ascends (on id text_cmp) rows_b) (k : ℕ) (y : X) (at : slice_get rows_b k ≡ Some y) where
    -- a row of B is joined where A's row of its id is the same
    pub joined-at : joined_by id same rows_a rows_b (id y) ≡ holds_at (look id rows_a (id y)) (λ x. same x y)
    joined-at = keyed-ascending id rows_a up_a (id y) (λ row. look_any id rows_b (id y) (same row)) ∙ ap (holds_at (look id rows_a (id y))) own
      where
        own : ◌≡◌ {A = X → Bool} (λ row. look_any id rows_b (id y) (same row)) (λ row. same row y)
        own = λ i row. (keyed-ascending id rows_b up_b (id y) (same row) ∙ ap (λ o. holds_at o (same row)) (look-own rows_b k y up_b at)) i

    pub number-same : (ids : List (List ℕ)) → map id rows_a ≡ ids → (n : ℕ) (x : X) → position (bytes_eq (id y)) ids ≡ Some n → slice_get rows_a n ≡ Some x
        → number_if (joined_by id same rows_a rows_b (id y)) ids (id y) ≡ (if same x y then Some n else None)
    number-same ids named n x numbered found =
        let there : look id rows_a (id y) ≡ Some x = look-index rows_a (id y) x n (ap (position (bytes_eq (id y))) named ∙ numbered) found in
        let is : joined_by id same rows_a rows_b (id y) ≡ same x y = joined-at ∙ ap (λ o. holds_at o (λ x. same x y)) there in
        λ i. if is i then numbered i else None
