-- Tables of new numbers, set one by one.
use Rattle.std.proofs.Common.{◌≡◌, ◌<◌, ◌≤◌, ◌+◌, ℕ, List, None, Option, refl, sym, ap, ◌∙◌, subst, inl, inr, ◌⊎◌, length, get_or, set, arith}
use Rattle.std.proofs.lemmas.Bool.{cases_eq}
use Rattle.std.proofs.lemmas.List.{get_or-set_other, get_or-set_same, length-set}
use Rattle.gtfs_merge.specs.MergeEntries.{Entry}
use Rattle.gtfs_merge.specs.NewNumbers.{IsIndexOf, NewNumbers, number_or, numbers_of, with_number}
use Rattle.gtfs_merge.specs.declared.kind.Side.{Side}
use Rattle.gtfs_merge.specs.declared.kind.Side.TheVariants as side

-- the numbers of the first entries are set, and no list has become longer
pub record AreSet (es : List Entry) (old new : NewNumbers) (count : ℕ) : Type 0 where
  pub long : (s : Side) → length (numbers_of new s) ≡ length (numbers_of old s)
  pub numbers : (j : ℕ) (d : Entry) → j < count → j < length es → IsIndexOf es (get_or es j d) (get_or (numbers_of new (get_or es j d).side) (get_or es j d).number 0)

-- the numbers of the first rows of B are those of the rows of A that they are joined with
pub record AreJoined (joined : List (Option ℕ)) (old new : NewNumbers) (count end : ℕ) : Type 0 where
  pub kept : new.a ≡ old.a
  pub long : length new.b ≡ length old.b
  pub whole : end ≡ length old.b
  pub done : (n : ℕ) → n < count → n < length old.b → get_or new.b n 0 ≡ number_or old.a (get_or joined n None) (get_or old.b n 0)
  pub left : (n : ℕ) → count ≤ n → get_or new.b n 0 ≡ get_or old.b n 0

-- ---- one more entry

set-long : (n : NewNumbers) (s t : Side) (i x : ℕ) → length (numbers_of (with_number n s i x) t) ≡ length (numbers_of n t)
set-long n side.A side.A i x = length-set n.a i x
set-long n side.A side.B i x = refl
set-long n side.B side.A i x = refl
set-long n side.B side.B i x = length-set n.b i x

set-same : (n : NewNumbers) (s : Side) (i x : ℕ) → i < length (numbers_of n s) → get_or (numbers_of (with_number n s i x) s) i 0 ≡ x
set-same n side.A i x within = get_or-set_same n.a i x 0 within
set-same n side.B i x within = get_or-set_same n.b i x 0 within

-- a number of a table of which one was set: it is that one, or is as before
set-cases : (n : NewNumbers) (s t : Side) (i j x : ℕ) → ((s ≡ t) × (i ≡ j)) ⊎ (get_or (numbers_of (with_number n s i x) t) j 0 ≡ get_or (numbers_of n t) j 0)
set-cases n side.A side.A i j x = elim (cases_eq j i) as (λ w. ((side.A ≡ side.A) × (i ≡ j)) ⊎ (get_or (set n.a i x) j 0 ≡ get_or n.a j 0)) [
  | inl e ↦ inl (refl, sym e)
  | inr other ↦ inr (get_or-set_other n.a i j x 0 other)
]
set-cases n side.A side.B i j x = inr refl
set-cases n side.B side.A i j x = inr refl
set-cases n side.B side.B i j x = elim (cases_eq j i) as (λ w. ((side.B ≡ side.B) × (i ≡ j)) ⊎ (get_or (set n.b i x) j 0 ≡ get_or n.b j 0)) [
  | inl e ↦ inl (refl, sym e)
  | inr other ↦ inr (get_or-set_other n.b i j x 0 other)
]

pub none-set : (es : List Entry) (old : NewNumbers) → AreSet es old old 0
none-set es old = record { long = λ s. refl; numbers = λ j d before within. absurd (omega arith) }

module _ (es : List Entry) (old new after : NewNumbers) (s : Side) (number index : ℕ) (is : after ≡ with_number new s number index) (so_far : AreSet es old new index)
    (within : index < length es) (inside : number < length (numbers_of new s)) (of_side : (d : Entry) → (get_or es index d).side ≡ s) (of_number : (d : Entry) → (get_or es index d).number ≡ number) where
  same-index : (e : Entry) → s ≡ e.side → number ≡ e.number → IsIndexOf es e index
  same-index e first second = record { within = within; side = λ d. of_side d ∙ first; number = λ d. of_number d ∙ second }

  own-index : (e : Entry) → e.side ≡ s → e.number ≡ number → IsIndexOf es e (get_or (numbers_of after e.side) e.number 0)
  own-index e first second =
      subst (IsIndexOf es e) (sym ((λ i. get_or (numbers_of (is i) (first i)) (second i) 0) ∙ set-same new s number index inside)) (same-index e (sym first) (sym second))

  earlier : (j : ℕ) (d : Entry) → j < index → IsIndexOf es (get_or es j d) (get_or (numbers_of after (get_or es j d).side) (get_or es j d).number 0)
  earlier j d before =
      let e : Entry = get_or es j d in
      elim (set-cases new s e.side number e.number index) as (λ w. IsIndexOf es e (get_or (numbers_of after e.side) e.number 0)) [
        | inl same ↦ own-index e (sym same.0) (sym same.1)
        | inr other ↦ subst (IsIndexOf es e) (sym (ap (λ n. get_or (numbers_of n e.side) e.number 0) is ∙ other)) (so_far.numbers j d before (omega arith))
      ]

  pub set-more : AreSet es old after (index + 1)
  set-more = record {
    long = λ t. ap (λ n. length (numbers_of n t)) is ∙ set-long new s t number index ∙ so_far.long t;
    numbers = λ j d before below. elim (cases_eq j index) as (λ w. IsIndexOf es (get_or es j d) (get_or (numbers_of after (get_or es j d).side) (get_or es j d).number 0)) [
      | inl e ↦ own-index (get_or es j d) (ap (λ k. (get_or es k d).side) e ∙ of_side d) (ap (λ k. (get_or es k d).number) e ∙ of_number d)
      | inr other ↦ earlier j d (omega (arith, before, other))
    ];
  }

-- ---- one more row of B

pub none-joined : (joined : List (Option ℕ)) (old : NewNumbers) (end : ℕ) → end ≡ length old.b → AreJoined joined old old 0 end
none-joined joined old end whole = record { kept = refl; long = refl; whole = whole; done = λ n before within. absurd (omega arith); left = λ n past. refl }

pub joined-more : (joined : List (Option ℕ)) (old new after : NewNumbers) (n end x : ℕ) → AreJoined joined old new n end → n < end → after.a ≡ new.a → after.b ≡ set new.b n x → x ≡ number_or new.a (get_or joined n None) (get_or new.b n 0)
    → AreJoined joined old after (n + 1) end
joined-more joined old new after n end x so_far within same is named =
    let inside : n < length new.b = omega (arith, within, so_far.whole, so_far.long) in
    let own : get_or after.b n 0 ≡ number_or old.a (get_or joined n None) (get_or old.b n 0) =
    ap (λ xs. get_or xs n 0) is ∙ get_or-set_same new.b n x 0 inside ∙ named ∙ (λ i. number_or (so_far.kept i) (get_or joined n None) (so_far.left n (omega arith) i)) in
    let other : (m : ℕ) → (m ≡ n → ⊥) → get_or after.b m 0 ≡ get_or new.b m 0 = λ m apart. ap (λ xs. get_or xs m 0) is ∙ get_or-set_other new.b n m x 0 apart in
    record {
      kept = same ∙ so_far.kept;
      long = ap length is ∙ length-set new.b n x ∙ so_far.long;
      whole = so_far.whole;
      done = λ m before below. elim (cases_eq m n) as (λ w. get_or after.b m 0 ≡ number_or old.a (get_or joined m None) (get_or old.b m 0)) [
        | inl e ↦ subst (λ k. get_or after.b k 0 ≡ number_or old.a (get_or joined k None) (get_or old.b k 0)) (sym e) own
        | inr apart ↦ other m apart ∙ so_far.done m (omega (arith, before, apart)) below
      ];
      left = λ m past. other m (λ e. absurd (omega (arith, past, e))) ∙ so_far.left m (omega arith);
    }
