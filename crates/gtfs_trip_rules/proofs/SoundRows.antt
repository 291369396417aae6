-- Rows of a list that are apart, and those that can be read.
use Rattle.std.proofs.Common.{◌≡◌, ℕ, zero, suc, ◌+◌, Bool, true, false, List, [], ◌∷◌, map, Option, Some, None, ℤ, pos, refl, sym, ap, ◌∙◌, inl, inr, arith}
use Rattle.std.specs.Prelude.{◌&&◌, ◌||◌, not, nat_lt, filter, find, if◌then◌else◌, is_some, option_map, option_and_then, unwrap_or, int_le}
use Rattle.std.specs.List.{list_all, list_any, range_with_len}
use Rattle.std.specs.Ordering.{int_eq}
use Rattle.std.proofs.lemmas.Bool.{and_from as and_both, cases_Bool}
use Rattle.std.proofs.lemmas.Bool.Decides.{nat_tests}
use Rattle.std.proofs.Math.Bool.{and-false as and_false, and-true as and_true}
use Rattle.gtfs_field.proofs.NumberFacts.{one_way as not_above}
use Rattle.gtfs_days.specs.declared.exception.Exception.{Exception}
use Rattle.gtfs_days.specs.declared.week.Week.{Week}
use Rattle.gtfs_schema.specs.KeyRules.{all_there}
use Rattle.gtfs_trip_rules.specs.ServiceCalendars.{each_day_once, first_of, if_ordered, week_of_rows}
use Rattle.gtfs_schema.specs.FieldValues.{if_both}
use Rattle.gtfs_schema.proofs.BoolFacts.{and_parts}

-- ---- tests

four : (a b x y : Bool) → ((a && b) && (x && y)) ≡ ((a && x) && (b && y))
four true true x y = refl
four true false true y = refl
four true false false y = refl
four false b x y = refl

-- tests that agree where p and q pass agree on a list without the others
pub all_alike : (p q a b : ℕ → Bool) → ((n : ℕ) → q n ≡ true → p n ≡ true → a n ≡ b n) → (ns : List ℕ)
    → list_all a (filter p (filter q ns)) ≡ list_all b (filter p (filter q ns))
all_alike p q a b same [] = refl
all_alike p q a b same (n ∷ ns) = elim (cases_Bool (q n)) [
  | inl is ↦ elim (cases_Bool (p n)) [
    | inl has ↦ rw (is, has) (λ i. same n is has i && all_alike p q a b same ns i)
    | inr hasnt ↦ rw (is, hasnt) (all_alike p q a b same ns)
  ]
  | inr isnt ↦ rw isnt (all_alike p q a b same ns)
]

pub any_kept : (a p : ℕ → Bool) (ns : List ℕ) → list_any (λ m. a m && p m) ns ≡ list_any a (filter p ns)
any_kept a p [] = refl
any_kept a p (n ∷ ns) = elim (cases_Bool (p n)) [
  | inl has ↦ rw has (λ i. and_true (a n) i || any_kept a p ns i)
  | inr hasnt ↦ rw hasnt (λ i. and_false (a n) i || any_kept a p ns i)
]

pub all_both : (a b : ℕ → Bool) (ns : List ℕ) → list_all (λ n. a n && b n) ns ≡ (list_all a ns && list_all b ns)
all_both a b [] = refl
all_both a b (n ∷ ns) = ap (λ r. (a n && b n) && r) (all_both a b ns) ∙ four (a n) (b n) (list_all a ns) (list_all b ns)

pub find_first : (p : ℕ → Bool) (ns : List ℕ) → find p ns ≡ first_of (filter p ns)
find_first p [] = refl
find_first p (n ∷ ns) = elim (cases_Bool (p n)) [
  | inl has ↦ rw has refl
  | inr hasnt ↦ rw hasnt (find_first p ns)
]

-- ---- rising numbers

abbrev pub Rising : List ℕ → Type 0
Rising [] = Unit {0}
Rising (n ∷ ns) = (list_all (nat_lt n) ns ≡ true) × Rising ns

all_filter : (t p : ℕ → Bool) (ns : List ℕ) → list_all t ns ≡ true → list_all t (filter p ns) ≡ true
all_filter t p [] h = refl
all_filter t p (n ∷ ns) h =
    let parts = and_parts (t n) (list_all t ns) h in
    elim (cases_Bool (p n)) [
      | inl has ↦ rw has (and_both (t n) _ parts.0 (all_filter t p ns parts.1))
      | inr hasnt ↦ rw hasnt (all_filter t p ns parts.1)
    ]

pub rising_filter : (p : ℕ → Bool) (ns : List ℕ) → Rising ns → Rising (filter p ns)
rising_filter p [] up = tt
rising_filter p (n ∷ ns) up = elim (cases_Bool (p n)) [
  | inl has ↦ rw has (all_filter (nat_lt n) p ns up.0, rising_filter p ns up.1)
  | inr hasnt ↦ rw hasnt (rising_filter p ns up.1)
]

all_above : (b a n : ℕ) → nat_lt b a ≡ true → list_all (nat_lt b) (range_with_len a n) ≡ true
all_above b a zero h = refl
all_above b a (suc n) h =
    let next : nat_lt b (a + 1) ≡ true = grind (arith, nat_tests, h) in
    and_both (nat_lt b a) _ h (all_above b (a + 1) n next)

pub rising_range : (a n : ℕ) → Rising (range_with_len a n)
rising_range a zero = tt
rising_range a (suc n) =
    let next : nat_lt a (a + 1) ≡ true = grind (arith, nat_tests) in
    (all_above a (a + 1) n next, rising_range (a + 1) n)

-- ---- rows apart

not_below_itself : (n : ℕ) → nat_lt n n ≡ false
not_below_itself n = grind (arith, nat_tests)

module _ (S : ℕ → ℕ → Bool) where
  -- no row is the same as one before it
  abbrev pub apart : List ℕ → Bool
  apart [] = true
  apart (m ∷ ns) = list_all (λ n. not (S n m)) ns && apart ns

  none_earlier : (k : ℕ) (ns : List ℕ) → list_all (nat_lt k) ns ≡ true → list_any (λ m. nat_lt m k && S k m) ns ≡ false
  none_earlier k [] h = refl
  none_earlier k (n ∷ ns) h =
      let parts = and_parts (nat_lt k n) (list_all (nat_lt k) ns) h in
      rw (not_above k n parts.0) (none_earlier k ns parts.1)

  split_not : (a r : Bool) → not ((true && a) || r) ≡ (not a && not r)
  split_not true r = refl
  split_not false r = refl

  first_apart : (k : ℕ) (R : ℕ → Bool) (ns : List ℕ) → list_all (nat_lt k) ns ≡ true
      → list_all (λ n. not ((nat_lt k n && S n k) || R n)) ns ≡ (list_all (λ n. not (S n k)) ns && list_all (λ n. not (R n)) ns)
  first_apart k R [] h = refl
  first_apart k R (n ∷ ns) h =
      let parts = and_parts (nat_lt k n) (list_all (nat_lt k) ns) h in
      (λ i. not ((parts.0 i && S n k) || R n) && first_apart k R ns parts.1 i)
      ∙ ap (λ b. b && (list_all (λ n. not (S n k)) ns && list_all (λ n. not (R n)) ns)) (split_not (S n k) (R n))
      ∙ four (not (S n k)) (not (R n)) (list_all (λ n. not (S n k)) ns) (list_all (λ n. not (R n)) ns)

  pub apart_is : (ns : List ℕ) → Rising ns → list_all (λ n. not (list_any (λ m. nat_lt m n && S n m) ns)) ns ≡ apart ns
  apart_is [] up = refl
  apart_is (k ∷ ns) up =
      let none : list_any (λ m. nat_lt m k && S k m) (k ∷ ns) ≡ false =
      (λ i. (not_below_itself k i && S k k) || none_earlier k ns up.0 i) in
      (λ i. not (none i) && list_all (λ n. not ((nat_lt k n && S n k) || list_any (λ m. nat_lt m n && S n m) ns)) ns)
      ∙ first_apart k (λ n. list_any (λ m. nat_lt m n && S n m) ns) ns up.0
      ∙ ap (λ b. list_all (λ n. not (S n k)) ns && b) (apart_is ns up.1)

-- ---- rows that can be read

if_both_there : {A : Type 0} (a b : Bool) (x : A) (xs : List A)
    → option_map (λ ys. x ∷ ys) (if b then Some xs else None) ≡ (if b then Some (x ∷ xs) else None)
if_both_there a true x xs = refl
if_both_there a false x xs = refl

module _ {A : Type 0} (read : ℕ → Option A) (t : ℕ → Bool) (f : ℕ → A) (is : (n : ℕ) → read n ≡ (if t n then Some (f n) else None)) where
  pub all_read : (ns : List ℕ) → all_there (map read ns) ≡ (if list_all t ns then Some (map f ns) else None)
  all_read [] = refl
  all_read (n ∷ ns) = elim (cases_Bool (t n)) [
    | inl has ↦
        let here : read n ≡ Some (f n) = is n ∙ ap (λ b. if b then Some (f n) else None) has in
        ap (λ o. all_there (o ∷ map read ns)) here ∙ ap (option_map (λ ys. f n ∷ ys)) (all_read ns)
        ∙ if_both_there true (list_all t ns) (f n) (map f ns) ∙ ap (λ b. if b && list_all t ns then Some (map f (n ∷ ns)) else None) (sym has)
    | inr hasnt ↦
        let here : read n ≡ None = is n ∙ ap (λ b. if b then Some (f n) else None) hasnt in
        ap (λ o. all_there (o ∷ map read ns)) here ∙ ap (λ b. if b && list_all t ns then Some (map f (n ∷ ns)) else None) (sym hasnt)
  ]

-- ---- exceptions on days apart

both_there : (a b : Option ℤ) → is_some a ≡ true → is_some b ≡ true → int_eq (unwrap_or a (pos 0)) (unwrap_or b (pos 0)) ≡ if_both a b int_eq
both_there None b h k = cc h
both_there (Some x) None h k = cc k
both_there (Some x) (Some y) h k = refl

module _ (day : ℕ → Option ℤ) (f : ℕ → ℤ × Exception) (is : (n : ℕ) → (f n).0 ≡ unwrap_or (day n) (pos 0)) where
  abbrev same_day : ℕ → ℕ → Bool
  same_day n m = if_both (day n) (day m) int_eq

  first_day_once : (m : ℕ) (ns : List ℕ) → is_some (day m) ≡ true → list_all (λ n. is_some (day n)) ns ≡ true
      → list_all (λ g. not (int_eq g.0 (f m).0)) (map f ns) ≡ list_all (λ n. not (same_day n m)) ns
  first_day_once m [] here h = refl
  first_day_once m (n ∷ ns) here h =
      let parts = and_parts (is_some (day n)) (list_all (λ n. is_some (day n)) ns) h in
      λ i. not (((λ j. int_eq (is n j) (is m j)) ∙ both_there (day n) (day m) parts.0 here) i) && first_day_once m ns here parts.1 i

  pub days_once : (ns : List ℕ) → list_all (λ n. is_some (day n)) ns ≡ true → each_day_once (map f ns) ≡ apart same_day ns
  days_once [] h = refl
  days_once (m ∷ ns) h =
      let parts = and_parts (is_some (day m)) (list_all (λ n. is_some (day n)) ns) h in
      λ i. first_day_once m ns parts.0 parts.1 i && days_once ns parts.1 i

-- ---- the calendar row of a service

module _ (read : ℕ → Option Week) (t late : ℕ → Bool) (f : ℕ → Week) (is : (n : ℕ) → read n ≡ (if t n then Some (f n) else None))
    (ordered : (n : ℕ) → t n ≡ true → not (late n) ≡ int_le (f n).start (f n).end) where
  abbrev sound_among : List ℕ → ℕ → Bool
  sound_among ns n = (t n && not (list_any (λ m. nat_lt m n) ns)) && not (late n)

  one_row : (n : ℕ) → option_and_then if_ordered (read n) ≡ (if t n && not (late n) then Some (Some (f n)) else None)
  one_row n = elim (cases_Bool (t n)) [
    | inl has ↦ ap (option_and_then if_ordered) (is n ∙ ap (λ b. if b then Some (f n) else None) has)
        ∙ ap (λ b. if b then Some (Some (f n)) else None) (sym (ordered n has)) ∙ ap (λ b. if b && not (late n) then Some (Some (f n)) else None) (sym has)
    | inr hasnt ↦ ap (option_and_then if_ordered) (is n ∙ ap (λ b. if b then Some (f n) else None) hasnt)
        ∙ ap (λ b. if b && not (late n) then Some (Some (f n)) else None) (sym hasnt)
  ]

  alone : (n : ℕ) → (sound_among (n ∷ []) n && true) ≡ (t n && not (late n))
  alone n = and_true (sound_among (n ∷ []) n) ∙ (λ i. (t n && not (not_below_itself n i || false)) && not (late n)) ∙ ap (λ b. b && not (late n)) (and_true (t n))

  pub week_sound : (ns : List ℕ) → Rising ns → week_of_rows read ns ≡ (if list_all (sound_among ns) ns then Some (option_map f (first_of ns)) else None)
  week_sound [] up = refl
  week_sound (n ∷ []) up = one_row n ∙ ap (λ b. if b then Some (Some (f n)) else None) (sym (alone n))
  week_sound (n ∷ m ∷ ns) up =
      let before : nat_lt n m ≡ true = (and_parts (nat_lt n m) (list_all (nat_lt n) ns) up.0).0 in
      let second : sound_among (n ∷ m ∷ ns) m ≡ false = (λ i. (t m && not (before i || list_any (λ k. nat_lt k m) (m ∷ ns))) && not (late m)) ∙ ap (λ b. b && not (late m)) (and_false (t m)) in
      let unsound : list_all (sound_among (n ∷ m ∷ ns)) (n ∷ m ∷ ns) ≡ false =
      ap (λ b. sound_among (n ∷ m ∷ ns) n && (b && list_all (sound_among (n ∷ m ∷ ns)) ns)) second ∙ and_false (sound_among (n ∷ m ∷ ns) n) in
      ap (λ b. if b then Some (option_map f (first_of (n ∷ m ∷ ns))) else None) (sym unsound)
