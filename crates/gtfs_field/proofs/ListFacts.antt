-- Lists: the first that passes a test, tests of all and of any, and elements by their indices.
use Rattle.std.proofs.Common.{◌≡◌, ◌∙◌, ◌+◌, ◌++◌, ◌<◌, ◌≤◌, ℕ, zero, suc, Bool, true, false, cond, not, List, [], ◌∷◌, length, map, take, drop, get_or, max, nat_lt, count_by, Some, refl, ap, subst, arith}
use Rattle.std.specs.Prelude.{◌||◌, option_map, position}
use Rattle.std.specs.List.{AllPairs, fold, list_all, list_any, position_or_len, range_with_len, slice_get}
use Rattle.std.proofs.lemmas.Bool.{and_parts}
use Rattle.std.proofs.lemmas.Bool.Decides.{nat_tests}
use Rattle.std.proofs.lemmas.List.{get_or-map, length-map}
use Rattle.std.proofs.lemmas.List.Sums.{sum_by-cons}

-- ---- whether any passes

pub any_mapped : {A B : Type 0} (p : B → Bool) (f : A → B) (xs : List A) → list_any p (map f xs) ≡ list_any (λ x. p (f x)) xs
any_mapped p f [] = refl
any_mapped p f (x ∷ xs) = ap (λ b. p (f x) || b) (any_mapped p f xs)

pub any_alike : {X : Type 0} (p q : X → Bool) (xs : List X) → ((x : X) → p x ≡ q x) → list_any p xs ≡ list_any q xs
any_alike p q [] same = refl
any_alike p q (x ∷ xs) same = ap (λ b. b || list_any p xs) (same x) ∙ ap (λ b. q x || b) (any_alike p q xs same)

pub any_silent : {X : Type 0} (p : X → Bool) (xs : List X) → ((x : X) → p x ≡ false) → list_any p xs ≡ false
any_silent p [] none = refl
any_silent p (x ∷ xs) none = rw (none x) (any_silent p xs none)

one_more : (b : Bool) (n : ℕ) → nat_lt 0 (cond b 1 0 + n) ≡ (b || nat_lt 0 n)
one_more true n = grind (arith, nat_tests)
one_more false n = grind (arith, nat_tests)

pub count_any : {X : Type 0} (p : X → Bool) (xs : List X) → nat_lt 0 (count_by p xs) ≡ list_any p xs
count_any p [] = refl
count_any p (x ∷ xs) = ap (nat_lt 0) (sum_by-cons (λ y. cond (p y) 1 0) x xs) ∙ one_more (p x) (count_by p xs) ∙ ap (λ b. p x || b) (count_any p xs)

-- ---- where the first that passes stands

one_further : (b : Bool) (m n : ℕ) → nat_lt (cond (not b) (1 + m) 0) (suc n) ≡ (b || nat_lt m n)
one_further true m n = grind (arith, nat_tests)
one_further false m n = grind (arith, nat_tests)

pub position_any : {X : Type 0} (p : X → Bool) (xs : List X) → nat_lt (position_or_len p xs) (length xs) ≡ list_any p xs
position_any p [] = refl
position_any p (x ∷ xs) = one_further (p x) (position_or_len p xs) (length xs) ∙ ap (λ b. p x || b) (position_any p xs)

pub position_or_len-map : {A B : Type 0} (p : B → Bool) (f : A → B) (xs : List A) → position_or_len p (map f xs) ≡ position_or_len (λ x. p (f x)) xs
position_or_len-map p f [] = refl
position_or_len-map p f (x ∷ xs) = rw (position_or_len-map p f xs) refl

pub position-map : {A B : Type 0} (p : B → Bool) (f : A → B) (xs : List A) → position p (map f xs) ≡ position (λ x. p (f x)) xs
position-map p f xs = rw (position_or_len-map p f xs, length-map) refl

-- ---- whether all pass

pub all_taken : {X : Type 0} (q : X → Bool) (n : ℕ) (xs : List X) → list_all q xs ≡ true → list_all q (take n xs) ≡ true
all_taken q zero xs all = refl
all_taken q (suc n) [] all = refl
all_taken q (suc n) (x ∷ xs) all = let both = and_parts (q x) (list_all q xs) all in rw both.0 (all_taken q n xs both.1)

pub all_dropped : {X : Type 0} (q : X → Bool) (n : ℕ) (xs : List X) → list_all q xs ≡ true → list_all q (drop n xs) ≡ true
all_dropped q zero xs all = all
all_dropped q (suc n) [] all = refl
all_dropped q (suc n) (x ∷ xs) all = all_dropped q n xs (and_parts (q x) (list_all q xs) all).1

-- ---- elements

pub first_is : {X : Type 0} (x y : X) (xs ys : List X) → x ∷ xs ≡ y ∷ ys → x ≡ y
first_is x y xs ys e = ap (λ l. get_or l 0 x) e

abbrev rest_of : {X : Type 0} → List X → List X
rest_of [] = []
rest_of (x ∷ xs) = xs

pub rest_is : {X : Type 0} (x y : X) (xs ys : List X) → x ∷ xs ≡ y ∷ ys → xs ≡ ys
rest_is x y xs ys e = ap rest_of e

-- an element of a list that is not empty
pub some_of : {X : Type 0} (xs : List X) (k : ℕ) → k < length xs → X
some_of [] k within = absurd (omega arith)
some_of (x ∷ xs) k within = x

pub mapped_at : {A B : Type 0} (f : A → B) (xs : List A) (n : ℕ) (x : A) → slice_get xs n ≡ Some x → slice_get (map f xs) n ≡ Some (f x)
mapped_at f [] n x at = cc
mapped_at f (y ∷ ys) zero x at = ap (option_map f) at
mapped_at f (y ∷ ys) (suc n) x at = mapped_at f ys n x at

pub map_alike : {X Y Z : Type 0} (f : X → Y) (x : X → Z) (y : Y → Z) → ((r : X) → x r ≡ y (f r)) → (rs : List X) → map x rs ≡ map y (map f rs)
map_alike f x y same [] = refl
map_alike f x y same (r ∷ rs) = λ i. same r i ∷ map_alike f x y same rs i

pub pairs-from_map : {A X : Type 0} (f : A → X) (R : X → X → Type 0) (xs : List A) → AllPairs R (map f xs) → AllPairs (λ x y. R (f x) (f y)) xs
pairs-from_map f R xs up i j d before within =
    let first = get_or-map f xs i d (f d) (omega arith) in
    let second = get_or-map f xs j d (f d) within in
    subst (λ x. R x (f (get_or xs j d))) first (subst (λ y. R (get_or (map f xs) i (f d)) y) second (up i j (f d) before (omega (arith, length-map xs f))))

-- ---- numbers

pub range-push : (a n : ℕ) → range_with_len a (suc n) ≡ range_with_len a n ++ (a + n) ∷ []
range-push a zero = ap (λ k. k ∷ []) (omega arith)
range-push a (suc n) = ap (λ r. a ∷ r) (range-push (a + 1) n ∙ ap (λ k. range_with_len (a + 1) n ++ k ∷ []) (omega arith))

pub fold-rises : (a : ℕ) (xs : List ℕ) → a ≤ fold max a xs
fold-rises a [] = omega arith
fold-rises a (x ∷ xs) = let rest = fold-rises (max a x) xs in omega (arith, rest)
