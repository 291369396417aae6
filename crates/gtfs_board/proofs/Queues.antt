-- Queues: candidates in order, of which the last comes first, and a heap.
use Rattle.std.proofs.Common.{◌≡◌, ℕ, zero, suc, ◌+◌, ◌-◌, ◌<◌, ◌≤◌, Bool, true, false, cond, List, [], ◌∷◌, ◌++◌, inl, inr, Option, Some, None, refl, sym, ◌∙◌, ap, subst, arith, length, get_or, length-append, IsPermutation}
use Rattle.std.specs.Prelude.{slice_get, IfSome, IfNone, IsSome, MatchOption, ◌↔◌}
use Rattle.std.specs.List.{sum_by, All}
use Rattle.std.specs.List.Sorted.{IsSorted}
use Rattle.std.specs.Cmp.{IsStrictWeakOrder}
use Rattle.std.specs.Ordering.{flip_args}
use Rattle.std.specs.Option.{option_to_list}
use Rattle.std.proofs.lemmas.List.MinMax.{ranks_by, IsStrictWeakOrder-flip}
use Rattle.std.proofs.lemmas.List.Sums.{sum_by-cons}
use Rattle.std.proofs.lemmas.List.Sorted.{sorted_far, sum_by-IsPermutation}
use Rattle.std.proofs.Math.Seq.{get_or-append_seam}
use Rattle.std.proofs.lemmas.List.{get_or_append_left}
use Rattle.std.proofs.lemmas.Option.{get_or_from_slice_get, slice_get_cases, slice_get_read}
use Rattle.gtfs_board.specs.declared.upcoming.candidate.Candidate.{Candidate}
use Rattle.gtfs_runs.specs.Tallies.{tally}
use Rattle.gtfs_runs.proofs.Tallies.{tally-append, tally-permutation}
use Rattle.gtfs_board.specs.upcoming.QueueOrder.{In, Each, same}
use Rattle.gtfs_board.specs.upcoming.Candidates.{AreHeadedBy, HaveSameMembers, IsFirst, candidate_cmp, candidate_lt}
use Rattle.gtfs_board.proofs.Orders.{Each-in, each-all, in-left, in-right}
use Rattle.gtfs_board.proofs.Heads.{in-from_tally}
use Rattle.gtfs_board.proofs.Window.{each_in, each_weaker, in_tally}
use Rattle.gtfs_board.proofs.Candidates.{candidates_strict, candidates_total}

pub tally_sum : {C : Type 0} (p : C → Bool) (xs : List C) → sum_by (λ x. cond (p x) 1 0) xs ≡ tally p xs
tally_sum p [] = refl
tally_sum p (x ∷ xs) = sum_by-cons (λ x. cond (p x) 1 0) x xs ∙ ap (λ n. cond (p x) 1 0 + n) (tally_sum p xs)

-- what is counted alike stands in both
pub in_alike : (xs ys : List Candidate) → ((x : Candidate) → tally (same candidate_lt x) ys ≡ tally (same candidate_lt x) xs) → (x : Candidate) → In x ys → In x xs
in_alike xs ys alike x there =
    let some = in_tally candidates_strict x ys there in
    let e = alike x in
    in-from_tally candidates_strict x xs (omega (arith, some, e))

pub each_alike : (P : Candidate → Type 0) (xs ys : List Candidate) → ((x : Candidate) → tally (same candidate_lt x) ys ≡ tally (same candidate_lt x) xs) → Each P xs → Each P ys
each_alike P xs ys alike all = each_in P ys (λ x there. Each-in P xs x all (in_alike xs ys alike x there))

pub uncounted : (xs : List Candidate) → ((x : Candidate) → tally (same candidate_lt x) xs ≡ 0) → xs ≡ []
uncounted [] h = refl
uncounted (x ∷ xs) h =
    let some = in_tally candidates_strict x (x ∷ xs) (inl refl) in
    let none = h x in
    absurd (omega (arith, some, none))

-- ---- the head of both parts

weak : IsStrictWeakOrder candidate_lt
weak = ranks_by candidates_total (λ c. c)

in-at : {C : Type 0} (xs : List C) (i : ℕ) (x : C) → slice_get xs i ≡ Some x → In x xs
in-at [] i x e = absurd (cc)
in-at (y ∷ ys) zero x e = inl (cc)
in-at (y ∷ ys) (suc i) x e = inr (in-at ys i x e)

pub first-got : {C : Type 0} (xs : List C) (x : C) → 0 < length xs → x ≡ get_or xs 0 x → slice_get xs 0 ≡ Some x
first-got [] x some e = absurd (omega arith)
first-got (y ∷ ys) x some e = ap Some (sym e)

nothing_got : {C : Type 0} (xs : List C) → length xs ≤ length xs - 1 → xs ≡ []
nothing_got [] h = refl
nothing_got (x ∷ xs) h = absurd (omega arith)

both : (P : Candidate → Type 0) (xs ys : List Candidate) → Each P xs → Each P ys → Each P (xs ++ ys)
both P [] ys first second = second
both P (x ∷ xs) ys first second = (first.0, both P xs ys first.1 second)

-- what comes before none of them stays so for what comes no later
pub no_later : (c d : Candidate) (xs : List Candidate) → candidate_lt d c ≡ false → Each (λ y. candidate_lt y d ≡ false) xs → Each (λ y. candidate_lt y c ≡ false) xs
no_later c d xs up least = each_weaker (λ y. candidate_lt y d ≡ false) (λ y. candidate_lt y c ≡ false) (λ y h. weak.chain y d c h up) xs least

-- the last in order comes first
last_heads : (list : List Candidate) (c : Candidate) → IsSorted (flip_args candidate_cmp) list → slice_get list (length list - 1) ≡ Some c
    → Each (λ y. candidate_lt y c ≡ false) list
last_heads list c up is =
    let far : All (λ y. candidate_lt y c ≡ false) list = λ k d inside.
    let e = get_or_from_slice_get list (length list - 1) c d is in
    let f = sorted_far (λ x y. candidate_lt y x) (IsStrictWeakOrder-flip candidate_lt weak) list up k (length list - 1) d (omega arith) (omega arith) in
    subst (λ z. candidate_lt (get_or list k d) z ≡ false) e f in
    each-all (λ y. candidate_lt y c ≡ false) list far

-- the last in order is at the head where it comes no later than the heap
pub list_headed : (list heap : List Candidate) → IsSorted (flip_args candidate_cmp) list
    → ((c : Candidate) → slice_get list (length list - 1) ≡ Some c → Each (λ y. candidate_lt y c ≡ false) heap) → (list ≡ [] → heap ≡ [])
    → AreHeadedBy (slice_get list (length list - 1)) (list ++ heap)
list_headed list heap up least none = elim (slice_get_cases list (length list - 1)).1 [
  | inl there ↦
      let c = there.0 in
      let got = there.2 in
      rw got (in-left list heap c (in-at list (length list - 1) c got), both (λ y. candidate_lt y c ≡ false) list heap (last_heads list c up got) (least c got))
  | inr past ↦ let nothing = nothing_got list past.0 in rw past.1 (rw (nothing, none nothing) refl)
]

-- the top of the heap is at the head where it comes before the last in order
pub heap_headed : (list heap : List Candidate) (c : Candidate) → IsSorted (flip_args candidate_cmp) list → slice_get heap 0 ≡ Some c
    → Each (λ y. candidate_lt y c ≡ false) heap
    → ((d : Candidate) → slice_get list (length list - 1) ≡ Some d → candidate_lt c d ≡ true)
    → AreHeadedBy (slice_get heap 0) (list ++ heap)
heap_headed list heap c up got least before =
    let others : Each (λ y. candidate_lt y c ≡ false) list = elim (slice_get_cases list (length list - 1)).1 [
      | inl there ↦
          let d = there.0 in
          no_later c d list (weak.one_way c d (before d there.2)) (last_heads list d up there.2)
      | inr past ↦ let nothing = nothing_got list past.0 in rw nothing tt
    ] in
    rw got (in-right list heap c (in-at heap 0 c got), both (λ y. candidate_lt y c ≡ false) list heap others least)

-- ---- what leaves and what comes

-- once the head has left, it comes before all others
pub first_left : (o : Option Candidate) (rest all : List Candidate) → HaveSameMembers (option_to_list o ++ rest) all → AreHeadedBy o all → IsFirst o rest
first_left None rest all alike none = uncounted rest (λ x. alike x ∙ ap (tally (same candidate_lt x)) none)
first_left (Some c) rest all alike head = (each_alike (λ y. candidate_lt y c ≡ false) all (c ∷ rest) alike head.1).1

-- the first leaves those that a head joined which comes no earlier
pub first_exchanged : (o : Option Candidate) (first head : Candidate) (rest all : List Candidate) → HaveSameMembers (option_to_list o ++ rest) (all ++ head ∷ []) → AreHeadedBy o all
    → In first all → candidate_lt head first ≡ false → IsFirst o rest
first_exchanged None first head rest all alike none there later = absurd (rw none at there)
first_exchanged (Some c) first head rest all alike least there later =
    let last = weak.chain head first c later (Each-in (λ y. candidate_lt y c ≡ false) all first least.1 there) in
    (each_alike (λ y. candidate_lt y c ≡ false) (all ++ head ∷ []) (c ∷ rest) alike (both (λ y. candidate_lt y c ≡ false) all (head ∷ []) least.1 (last, tt))).1

-- a head before the first is at the head itself
pub before_first : (c head : Candidate) (all : List Candidate) → AreHeadedBy (Some c) all → candidate_lt head c ≡ true → Each (λ y. candidate_lt y head ≡ false) all
before_first c head all first before = no_later head c all (weak.one_way head c before) first.1

pub one_more : (xs : List Candidate) (c : Candidate) → HaveSameMembers (c ∷ xs) (xs ++ c ∷ [])
one_more xs c x = let t = same candidate_lt x in let a = tally-append t xs (c ∷ []) in omega (arith, a)

-- the heap gave its top
pub top_left : (list heap rest : List Candidate) (n m : ℕ) (o : Option Candidate) → IfSome o (λ x. IsPermutation heap (x ∷ rest)) → IfNone o ((rest ≡ heap) × (m ≡ n))
    → HaveSameMembers (option_to_list o ++ (list ++ rest)) (list ++ heap)
top_left list heap rest n m None some kept x = ap (λ k. tally (same candidate_lt x) (list ++ k)) kept.0
top_left list heap rest n m (Some c) some kept x =
    let t = same candidate_lt x in
    let a = tally-permutation t heap (c ∷ rest) some in
    let b = tally-append t list heap in
    let d = tally-append t list rest in
    omega (arith, a, b, d)

pub top_got : (heap : List Candidate) (n : ℕ) (o : Option Candidate) → n ≡ length heap → IsSome o ↔ (0 < n) → IfSome o (λ x. x ≡ get_or heap 0 x) → slice_get heap 0 ≡ o
top_got [] n None len variant top = refl
top_got (c ∷ cs) n None len variant top = let some = variant.1 (omega (arith, len)) in absurd (cc)
top_got heap n (Some c) len variant top = first-got heap c (let some = variant.0 refl in omega (arith, len, some)) top

-- the list gave its last
pub last_left : (list heap rest : List Candidate) (o : Option Candidate) → list ≡ rest ++ option_to_list o → HaveSameMembers (option_to_list o ++ (rest ++ heap)) (list ++ heap)
last_left list heap rest o is x =
    let t = same candidate_lt x in
    let l : tally t list ≡ tally t rest + tally t (option_to_list o) = ap (tally t) is ∙ tally-append t rest (option_to_list o) in
    let a = tally-append t (option_to_list o) (rest ++ heap) in
    let b = tally-append t rest heap in
    let d = tally-append t list heap in
    omega (arith, l, a, b, d)

last_of : (rest : List Candidate) (c : Candidate) → slice_get (rest ++ c ∷ []) (length (rest ++ c ∷ []) - 1) ≡ Some c
last_of rest c =
    let all = rest ++ c ∷ [] in
    let len = length-append rest (c ∷ []) in
    let at : length all - 1 ≡ length rest = omega (arith, len) in
    slice_get_read all (length all) (length all - 1) c refl (omega (arith, len)) (sym (ap (λ i. get_or all i c) at ∙ get_or-append_seam rest c [] c))

pub last_got : (list rest : List Candidate) (n m : ℕ) (o : Option Candidate) → n ≡ length list → list ≡ rest ++ option_to_list o → MatchOption o ((n ≡ 0) × (m ≡ 0)) (λ _. m + 1 ≡ n)
    → slice_get list (length list - 1) ≡ o
last_got list rest n m None len is cases = let nothing = nothing_got list (omega (arith, len, cases.0)) in rw nothing refl
last_got list rest n m (Some c) len is cases = subst (λ l. slice_get l (length l - 1) ≡ Some c) (sym is) (last_of rest c)

-- what stays of candidates in order is in order
pub sorted_front : (xs ys list : List Candidate) → list ≡ xs ++ ys → IsSorted (flip_args candidate_cmp) list → IsSorted (flip_args candidate_cmp) xs
sorted_front xs ys list is up =
    let whole : IsSorted (flip_args candidate_cmp) (xs ++ ys) = subst (λ l. IsSorted (flip_args candidate_cmp) l) is up in
    λ k d low next.
    let len = length-append xs ys in
    let h = whole k d low (omega (arith, len, next)) in
    rw (get_or_append_left xs ys d (k + 1) next, get_or_append_left xs ys d k (omega (arith, next))) at h

-- a head takes the place of the top of a heap
pub top_replaced : (heap rest new : List Candidate) (c head : Candidate) → IsPermutation heap (c ∷ rest) → IsPermutation (head ∷ rest) new → HaveSameMembers (c ∷ new) (heap ++ head ∷ [])
top_replaced heap rest new c head from back x =
    let t = same candidate_lt x in
    let a = tally-permutation t heap (c ∷ rest) from in
    let b = tally-permutation t (head ∷ rest) new back in
    let d = tally-append t heap (head ∷ []) in
    omega (arith, a, b, d)

-- the same beside a list
pub replaced_beside : (list heap new : List Candidate) (c head : Candidate) → HaveSameMembers (c ∷ new) (heap ++ head ∷ []) → HaveSameMembers (c ∷ (list ++ new)) ((list ++ heap) ++ head ∷ [])
replaced_beside list heap new c head alike x =
    let t = same candidate_lt x in
    let a = alike x in
    let b = tally-append t heap (head ∷ []) in
    let d = tally-append t list new in
    let e = tally-append t (list ++ heap) (head ∷ []) in
    let f = tally-append t list heap in
    omega (arith, a, b, d, e, f)

-- the list gave its last once a head joined the heap
pub last_replaced : (list rest heap new : List Candidate) (o : Option Candidate) (head : Candidate) → list ≡ rest ++ option_to_list o → IsPermutation (head ∷ heap) new
    → HaveSameMembers (option_to_list o ++ (rest ++ new)) ((list ++ heap) ++ head ∷ [])
last_replaced list rest heap new o head is push x =
    let t = same candidate_lt x in
    let first = option_to_list o in
    let l : tally t list ≡ tally t rest + tally t first = ap (tally t) is ∙ tally-append t rest first in
    let a = tally-permutation t (head ∷ heap) new push in
    let b = tally-append t rest new in
    let d = tally-append t (list ++ heap) (head ∷ []) in
    let e = tally-append t list heap in
    let f = tally-append t first (rest ++ new) in
    omega (arith, l, a, b, d, e, f)

-- a list was sorted in
pub sorted_in : (list heap fresh joined new : List Candidate) → joined ≡ fresh ++ list → IsPermutation joined new → HaveSameMembers (new ++ heap) ((list ++ heap) ++ fresh)
sorted_in list heap fresh joined new is sort x =
    let t = same candidate_lt x in
    let a = tally-permutation t joined new sort in
    let b : tally t joined ≡ tally t fresh + tally t list = ap (tally t) is ∙ tally-append t fresh list in
    let d = tally-append t new heap in
    let e = tally-append t (list ++ heap) fresh in
    let f = tally-append t list heap in
    omega (arith, a, b, d, e, f)

-- a heap took in a list
pub heaped_in : (list heap fresh added new : List Candidate) → IsPermutation fresh added → IsPermutation (heap ++ added) new → HaveSameMembers (list ++ new) ((list ++ heap) ++ fresh)
heaped_in list heap fresh added new from join x =
    let t = same candidate_lt x in
    let a = tally-permutation t fresh added from in
    let b = tally-permutation t (heap ++ added) new join in
    let d = tally-append t heap added in
    let e = tally-append t list new in
    let f = tally-append t (list ++ heap) fresh in
    let h = tally-append t list heap in
    omega (arith, a, b, d, e, f, h)

-- the first leaves once a head, if any, and a list have joined
pub joined_left : (all fresh more joined new : List Candidate) (head o : Option Candidate) → more ≡ fresh ++ option_to_list head → HaveSameMembers joined (all ++ more)
    → HaveSameMembers (option_to_list o ++ new) joined → HaveSameMembers (option_to_list o ++ new) ((all ++ option_to_list head) ++ fresh)
joined_left all fresh more joined new head o is counts pops x =
    let t = same candidate_lt x in
    let h = option_to_list head in
    let a = tally-append t all more in
    let b : tally t more ≡ tally t fresh + tally t h = ap (tally t) is ∙ tally-append t fresh h in
    let d = tally-append t (all ++ h) fresh in
    let e = tally-append t all h in
    pops x ∙ counts x ∙ omega (arith, a, b, d, e)

pub same_got : {C : Type 0} (o : Option C) (x y : C) → Some x ≡ o → o ≡ Some y → y ≡ x
same_got o x y first second = let e = first ∙ second in cc
