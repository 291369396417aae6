-- Lists that change places have the same elements when they are joined.
use Rattle.std.proofs.Common.{◌≡◌, ◌∷◌, ◌++◌, ◌<◌, ◌≤◌, ◌∙◌, ◌⊎◌, inl, inr, ℕ, List, [], suc, ap, sym, subst, length, take, drop, arith}
use Rattle.std.specs.List.{flat_map, swap}
use Rattle.std.specs.List.Sorted.{IsPermutation}
use Rattle.std.proofs.Math.ListN.{get_or, set}
use Rattle.std.proofs.Math.Seq.{lt-length-set, take-set-lt}
use Rattle.std.proofs.lemmas.List.{append_assoc, drop-set-lt, length-take-le, set-append_left, set-get_or, set_split}
use Rattle.std.proofs.lemmas.List.Edits.{swap_is}
use Rattle.std.proofs.lemmas.Bool.{cases_lt}
use Rattle.std.proofs.Math.Nat.{eq-or-lt_of_le}
use Rattle.std.proofs.lemmas.Grind.{flat_map-append}
use Rattle.std.proofs.lemmas.List.Sorted.{IsPermutation-append_comm, IsPermutation-append_left, IsPermutation-append_right, IsPermutation-keeps, IsPermutation-refl, IsPermutation-trans}

-- two lists at the ends of a third one
ends : {X : Type 0} (xs ms ys : List X) → IsPermutation ((xs ++ ms) ++ ys) ((ys ++ ms) ++ xs)
ends xs ms ys = IsPermutation-trans _ _ _ (IsPermutation-append_comm (xs ++ ms) ys)
    (subst (IsPermutation (ys ++ (xs ++ ms))) (sym (append_assoc ys ms xs)) (IsPermutation-append_right ys (xs ++ ms) (ms ++ xs) (IsPermutation-append_comm xs ms)))

-- a list with these two elements at two places, the lesser of which comes first
abbrev with_two : {P : Type 0} → List P → ℕ → ℕ → P → P → List P
with_two l a b u v = (take a (take b l) ++ u ∷ drop (suc a) (take b l)) ++ v ∷ drop (suc b) l

short : {P : Type 0} (l : List P) (a b : ℕ) → a < b → b < length l → a < length (take b l)
short l a b below within = subst (λ n. a < n) (sym (length-take-le b l (omega arith))) below

low_first : {P : Type 0} (l : List P) (a b : ℕ) (u v : P) → a < b → b < length l → set (set l a u) b v ≡ with_two l a b u v
low_first l a b u v below within =
    set_split (set l a u) b v (lt-length-set l a u within)
    ∙ ap (λ k. k ++ v ∷ drop (suc b) (set l a u)) (take-set-lt b l a u below ∙ set_split (take b l) a u (short l a b below within))
    ∙ ap (λ k. (take a (take b l) ++ u ∷ drop (suc a) (take b l)) ++ v ∷ k) (drop-set-lt (suc b) l a u (omega arith))

high_first : {P : Type 0} (l : List P) (a b : ℕ) (u v : P) → a < b → b < length l → set (set l b v) a u ≡ with_two l a b u v
high_first l a b u v below within =
    ap (λ k. set k a u) (set_split l b v within)
    ∙ set-append_left (take b l) (v ∷ drop (suc b) l) a u (short l a b below within)
    ∙ ap (λ k. k ++ v ∷ drop (suc b) l) (set_split (take b l) a u (short l a b below within))

own : {P : Type 0} (l : List P) (a b : ℕ) (d : P) → a < b → b < length l → with_two l a b (get_or l a d) (get_or l b d) ≡ l
own l a b d below within =
    sym (low_first l a b (get_or l a d) (get_or l b d) below within)
    ∙ ap (λ k. set k b (get_or l b d)) (set-get_or l a d)
    ∙ set-get_or l b d

module _ {P X : Type 0} (f : P → List X) where
  joined : (ls bs cs : List P) (u v : P) → flat_map f ((ls ++ u ∷ bs) ++ v ∷ cs) ≡ flat_map f ls ++ (((f u ++ flat_map f bs) ++ f v) ++ flat_map f cs)
  joined ls bs cs u v =
      flat_map-append f (ls ++ u ∷ bs) (v ∷ cs)
      ∙ ap (λ k. k ++ (f v ++ flat_map f cs)) (flat_map-append f ls (u ∷ bs))
      ∙ append_assoc (flat_map f ls) (f u ++ flat_map f bs) (f v ++ flat_map f cs)
      ∙ ap (λ k. flat_map f ls ++ k) (sym (append_assoc (f u ++ flat_map f bs) (f v) (flat_map f cs)))

  turned : (ls bs cs : List P) (u v : P) → IsPermutation (flat_map f ((ls ++ u ∷ bs) ++ v ∷ cs)) (flat_map f ((ls ++ v ∷ bs) ++ u ∷ cs))
  turned ls bs cs u v = subst (λ k. IsPermutation k (flat_map f ((ls ++ v ∷ bs) ++ u ∷ cs))) (sym (joined ls bs cs u v))
      (subst (IsPermutation (flat_map f ls ++ (((f u ++ flat_map f bs) ++ f v) ++ flat_map f cs))) (sym (joined ls bs cs v u))
      (IsPermutation-append_right (flat_map f ls) _ _ (IsPermutation-append_left (flat_map f cs) _ _ (ends (f u) (flat_map f bs) (f v)))))

  exchanged : (l : List P) (a b : ℕ) (d : P) → a < b → b < length l → IsPermutation (flat_map f l) (flat_map f (with_two l a b (get_or l b d) (get_or l a d)))
  exchanged l a b d below within = subst (λ k. IsPermutation (flat_map f k) (flat_map f (with_two l a b (get_or l b d) (get_or l a d)))) (own l a b d below within)
      (turned (take a (take b l)) (drop (suc a) (take b l)) (drop (suc b) l) (get_or l a d) (get_or l b d))

  module _ (x : P) (l : List P) (i j : ℕ) (p : i < length l) (q : j < length l) where
    same : j ≡ i → swap l i j ≡ l
    same e =
        sym (swap_is l i j x p q)
        ∙ ap (λ k. set (set l i (get_or l k x)) k (get_or l i x)) e
        ∙ ap (λ k. set k i (get_or l i x)) (set-get_or l i x)
        ∙ set-get_or l i x

    below_or_same : (j ≡ i) ⊎ (j < i) → IsPermutation (flat_map f l) (flat_map f (swap l i j))
    below_or_same (inl e) = subst (λ k. IsPermutation (flat_map f l) (flat_map f k)) (sym (same e)) (IsPermutation-refl (flat_map f l))
    below_or_same (inr below) = subst (λ k. IsPermutation (flat_map f l) (flat_map f k))
        (sym (high_first l j i (get_or l i x) (get_or l j x) below p) ∙ swap_is l i j x p q) (exchanged l j i x below p)

    swapped_with : (i < j) ⊎ (j ≤ i) → IsPermutation (flat_map f l) (flat_map f (swap l i j))
    swapped_with (inl below) = subst (λ k. IsPermutation (flat_map f l) (flat_map f k))
        (sym (low_first l i j (get_or l j x) (get_or l i x) below q) ∙ swap_is l i j x p q) (exchanged l i j x below q)
    swapped_with (inr upto) = below_or_same (eq-or-lt_of_le upto)

  swapped : (l : List P) (i j : ℕ) → i < length l → j < length l → IsPermutation (flat_map f l) (flat_map f (swap l i j))
  swapped [] i j p q = absurd (omega arith)
  swapped (x ∷ xs) i j p q = swapped_with x (x ∷ xs) i j p q (cases_lt i j)

  pub IsPermutation-flat_map : (ps qs : List P) → IsPermutation ps qs → IsPermutation (flat_map f ps) (flat_map f qs)
  IsPermutation-flat_map ps qs = IsPermutation-keeps ps (λ l. IsPermutation (flat_map f ps) (flat_map f l)) (IsPermutation-refl (flat_map f ps))
      (λ l i j p q are. IsPermutation-trans _ _ _ are (swapped l i j p q)) qs
