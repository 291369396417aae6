-- An ascending list, split at an element: what stands before it, the last first, and what stands after it.
use Rattle.std.proofs.Common.{◌≡◌, ℕ, ◌+◌, ◌<◌, true, false, Bool, List, [], ◌∷◌, ◌++◌, length, get_or, take, drop, reverse, refl, sym, ap, ◌∙◌, inl, inr, append_assoc}
use Rattle.std.specs.Prelude.{◌&&◌, ◌||◌, not}
use Rattle.std.specs.Cmp.{IsTotalOrder, tied_itself}
use Rattle.std.specs.List.{AllByRecursion, find, list_any}
use Rattle.std.specs.List.Sorted.{IsStrictlySortedBy}
use Rattle.std.specs.Ordering.{is_lt, ordering_reverse}
use Rattle.std.specs.declared.cmp.Ordering.{Ordering}
use Rattle.std.specs.declared.cmp.Ordering.TheVariants.{Less}
use Rattle.std.proofs.lemmas.Bool.{cases_Bool}
use Rattle.std.proofs.lemmas.List.{drop_more, reverse-append, reverse-reverse, take-append-drop, take_more}
use Rattle.std.proofs.Math.Bool.{and-false as and_none, and-true as and_so, or-false as or_none}
use Rattle.gtfs_schema.specs.FieldValues.{if_there}
use Rattle.gtfs_schema.proofs.BoolFacts.{no_test}

-- ---- a list by what stands before a position, the last first, and from there on

abbrev pub onto : {X : Type 0} → List X → List X → List X
onto [] after = after
onto (b ∷ before) after = onto before (b ∷ after)

onto_is : {X : Type 0} (before after : List X) → onto before after ≡ reverse before ++ after
onto_is [] after = refl
onto_is (b ∷ before) after = onto_is before (b ∷ after) ∙ sym (ap (λ xs. xs ++ after) (reverse-append (b ∷ []) before) ∙ append_assoc (reverse before) (b ∷ []) after)

pub onto_index : {X : Type 0} (xs : List X) (i : ℕ) (d : X) → i < length xs → onto (reverse (take i xs)) (get_or xs i d ∷ drop (i + 1) xs) ≡ xs
onto_index xs i d below =
    onto_is (reverse (take i xs)) (get_or xs i d ∷ drop (i + 1) xs)
    ∙ ap (λ ys. ys ++ get_or xs i d ∷ drop (i + 1) xs) (reverse-reverse (take i xs))
    ∙ ap (λ ys. take i xs ++ ys) (sym (drop_more xs i d below))
    ∙ take-append-drop i xs

pub before_more : {X : Type 0} (xs : List X) (i : ℕ) (d : X) → i < length xs → reverse (take (i + 1) xs) ≡ get_or xs i d ∷ reverse (take i xs)
before_more xs i d below = ap reverse (take_more xs i d below) ∙ reverse-append (take i xs) (get_or xs i d ∷ [])

-- ---- whether an element passes a test

all_weaker : {X : Type 0} (P Q : X → Type 0) (xs : List X) → ((x : X) → P x → Q x) → AllByRecursion P xs → AllByRecursion Q xs
all_weaker P Q [] f h = tt
all_weaker P Q (x ∷ xs) f h = (f x h.0, all_weaker P Q xs f h.1)

pub any_same : {X : Type 0} (P : X → Type 0) (p q : X → Bool) (xs : List X) → ((x : X) → P x → p x ≡ q x) → AllByRecursion P xs → list_any p xs ≡ list_any q xs
any_same P p q [] f h = refl
any_same P p q (x ∷ xs) f h = λ i. f x h.0 i || any_same P p q xs f h.1 i

pub any_none : {X : Type 0} (P : X → Type 0) (p : X → Bool) (xs : List X) → ((x : X) → P x → p x ≡ false) → AllByRecursion P xs → list_any p xs ≡ false
any_none P p [] f h = refl
any_none P p (x ∷ xs) f h = λ i. f x h.0 i || any_none P p xs f h.1 i

either : (a b c d : Bool) → ((a || b) || (c || d)) ≡ ((a || c) || (b || d))
either true b c d = refl
either false true true d = refl
either false true false d = refl
either false false c d = refl

pub any_or : {X : Type 0} (p q : X → Bool) (xs : List X) → list_any (λ x. p x || q x) xs ≡ (list_any p xs || list_any q xs)
any_or p q [] = refl
any_or p q (x ∷ xs) = ap (λ b. (p x || q x) || b) (any_or p q xs) ∙ either (p x) (q x) (list_any p xs) (list_any q xs)

moved : (a b c : Bool) → (a || (b || c)) ≡ ((b || a) || c)
moved true true c = refl
moved true false c = refl
moved false true c = refl
moved false false c = refl

any_onto : {X : Type 0} (p : X → Bool) (before after : List X) → list_any p (onto before after) ≡ (list_any p before || list_any p after)
any_onto p [] after = refl
any_onto p (b ∷ before) after = any_onto p before (b ∷ after) ∙ moved (list_any p before) (p b) (list_any p after)

-- ---- an ascending list

module _ {X : Type 0} (R : X → X → Ordering) where
  abbrev pub IsDescending : List X → Type 0
  IsDescending [] = Unit {0}
  IsDescending (x ∷ xs) = AllByRecursion (λ y. R y x ≡ Less) xs × IsDescending xs

  abbrev pub IsAscending : List X → Type 0
  IsAscending [] = Unit {0}
  IsAscending (x ∷ xs) = AllByRecursion (λ y. R x y ≡ Less) xs × IsAscending xs

  pub ascends_from_sorted : (xs : List X) → IsStrictlySortedBy R xs → IsAscending xs
  unfolding IsStrictlySortedBy
  ascends_from_sorted [] h = tt
  ascends_from_sorted (x ∷ xs) h = (h.0, ascends_from_sorted xs h.1)

  pub record IsSplit (before : List X) (e : X) (after : List X) : Type 0 where
    pub below : AllByRecursion (λ b. R b e ≡ Less) before
    pub descends : IsDescending before
    pub above : AllByRecursion (λ a. R e a ≡ Less) after
    pub ascends : IsAscending after

  record IsCut (before after : List X) : Type 0 where
    descends : IsDescending before
    ascends : IsAscending after
    apart : AllByRecursion (λ b. AllByRecursion (λ a. R b a ≡ Less) after) before

  cut_of : (before after : List X) → IsAscending (onto before after) → IsCut before after
  cut_of [] after h = record { descends = tt; ascends = h; apart = tt }
  cut_of (b ∷ before) after h =
      let cut = cut_of before (b ∷ after) h in
      record {
        descends = (all_weaker (λ c. AllByRecursion (λ a. R c a ≡ Less) (b ∷ after)) (λ c. R c b ≡ Less) before (λ c all. all.0) cut.apart, cut.descends);
        ascends = cut.ascends.1;
        apart = (cut.ascends.0, all_weaker (λ c. AllByRecursion (λ a. R c a ≡ Less) (b ∷ after)) (λ c. AllByRecursion (λ a. R c a ≡ Less) after) before (λ c all. all.1) cut.apart);
      }

  pub split_of : (before : List X) (e : X) (after : List X) → IsAscending (onto before (e ∷ after)) → IsSplit before e after
  split_of before e after h =
      let cut = cut_of before (e ∷ after) h in
      record {
        below = all_weaker (λ c. AllByRecursion (λ a. R c a ≡ Less) (e ∷ after)) (λ c. R c e ≡ Less) before (λ c all. all.0) cut.apart;
        descends = cut.descends;
        above = cut.ascends.0;
        ascends = cut.ascends.1;
      }

  -- a test that fails at an element and after it, and one that fails at it and before it
  pub only_before : (p : X → Bool) (before : List X) (e : X) (after : List X) → p e ≡ false → list_any p after ≡ false → list_any p (onto before (e ∷ after)) ≡ list_any p before
  only_before p before e after here later =
      any_onto p before (e ∷ after) ∙ ap (λ b. list_any p before || (b || list_any p after)) here ∙ ap (λ b. list_any p before || b) later ∙ or_none (list_any p before)

  pub only_after : (p : X → Bool) (before : List X) (e : X) (after : List X) → p e ≡ false → list_any p before ≡ false → list_any p (onto before (e ∷ after)) ≡ list_any p after
  only_after p before e after here earlier =
      any_onto p before (e ∷ after) ∙ ap (λ b. b || (p e || list_any p after)) earlier ∙ ap (λ b. b || list_any p after) here

  module _ (o : IsTotalOrder R) where
    pub not_itself : (x : X) → is_lt (R x x) ≡ false
    not_itself x = ap is_lt (tied_itself o x)

    pub not_back : (x y : X) → R x y ≡ Less → is_lt (R y x) ≡ false
    not_back x y less = ap is_lt (o.antisymm y x ∙ ap ordering_reverse less)

    -- ---- of elements that stand together the last before another one decides

    abbrev pub first_is : (X → Bool) → List X → Bool
    first_is near [] = false
    first_is near (b ∷ before) = near b

    module _ (e : X) (near : X → Bool) (convex : (a b : X) → R a b ≡ Less → R b e ≡ Less → near a ≡ true → near b ≡ true) where
      pub far_before : (b : X) (before : List X) → R b e ≡ Less → AllByRecursion (λ a. R a b ≡ Less) before → near b ≡ false → list_any near before ≡ false
      far_before b before less all far = any_none (λ a. R a b ≡ Less) near before (λ a below. no_test (near a) (λ passes. sym far ∙ convex a b below less passes)) all

      near_before : (before : List X) → AllByRecursion (λ b. R b e ≡ Less) before → IsDescending before → list_any near before ≡ first_is near before
      near_before [] below descends = refl
      near_before (b ∷ before) below descends = elim (cases_Bool (near b)) [
        | inl passes ↦ rw passes refl
        | inr fails ↦ rw fails (far_before b before below.0 descends.0 fails)
      ]

      pub near_split : (before after : List X) → IsSplit before e after → list_any (λ m. near m && is_lt (R m e)) (onto before (e ∷ after)) ≡ first_is near before
      near_split before after split =
          only_before (λ m. near m && is_lt (R m e)) before e after (ap (λ b. near e && b) (not_itself e) ∙ and_none (near e))
          (any_none (λ a. R e a ≡ Less) (λ m. near m && is_lt (R m e)) after (λ a above. ap (λ b. near a && b) (not_back e a above) ∙ and_none (near a)) split.above)
          ∙ any_same (λ b. R b e ≡ Less) (λ m. near m && is_lt (R m e)) near before (λ b below. ap (λ r. near b && is_lt r) below ∙ and_so (near b)) split.below
          ∙ near_before before split.below split.descends

    -- ---- the last element before another one that passes a test

    module _ (p q : X → Bool) where
      abbrev stands_later : List X → X → X → Bool
      stands_later xs m k = p k && is_lt (R m k)

      abbrev last_in : List X → X → Bool
      last_in xs m = p m && (not (list_any (λ k. p k && is_lt (R m k)) xs) && q m)

      under : (a b c d : Bool) → (a ≡ true → d ≡ false) → (a && (not (d || b) && c)) ≡ (a && (not b && c))
      under true b c d f = rw (f refl) refl
      under false b c d f = refl

      last_before : (before : List X) → IsDescending before → list_any (last_in before) before ≡ if_there (find p before) q
      last_before [] descends = refl
      last_before (b ∷ before) descends =
          let none : list_any (λ k. p k && is_lt (R b k)) before ≡ false = any_none (λ k. R k b ≡ Less) (λ k. p k && is_lt (R b k)) before (λ k below. ap (λ t. p k && t) (not_back k b below) ∙ and_none (p k)) descends.0 in
          elim (cases_Bool (p b)) [
            | inl passes ↦
                rw (passes, not_itself b, none)
                (ap (λ t. q b || t) (any_none (λ m. R m b ≡ Less) (λ m. p m && (not ((p b && is_lt (R m b)) || list_any (λ k. p k && is_lt (R m k)) before) && q m)) before
                (λ m below. rw (passes, below) (and_none (p m))) descends.0) ∙ or_none (q b))
            | inr fails ↦
                rw fails
                (any_same (λ m. R m b ≡ Less) (λ m. p m && (not ((p b && is_lt (R m b)) || list_any (λ k. p k && is_lt (R m k)) before) && q m)) (last_in before) before
                (λ m below. rw fails refl) descends.0 ∙ last_before before descends.1)
          ]

      shut : (a b c : Bool) → (a && ((false && b) && c)) ≡ false
      shut true b c = refl
      shut false b c = refl

      shut_later : (a b : Bool) → (a && (b && false)) ≡ false
      shut_later true true = refl
      shut_later true false = refl
      shut_later false b = refl

      pub last_split : (before : List X) (e : X) (after : List X) → IsSplit before e after
          → list_any (λ m. p m && ((is_lt (R m e) && not (list_any (λ k. p k && (is_lt (R m k) && is_lt (R k e))) (onto before (e ∷ after)))) && q m)) (onto before (e ∷ after))
          ≡ if_there (find p before) q
      last_split before e after split =
          only_before whole before e after (ap (λ t. p e && ((t && not (between e)) && q e)) (not_itself e) ∙ shut (p e) (not (between e)) (q e))
          (any_none (λ a. R e a ≡ Less) whole after (λ a above. ap (λ t. p a && ((t && not (between a)) && q a)) (not_back e a above) ∙ shut (p a) (not (between a)) (q a)) split.above)
          ∙ any_same (λ b. R b e ≡ Less) whole (last_in before) before (λ b below. ap (λ r. p b && ((is_lt r && not (between b)) && q b)) below ∙ ap (λ t. p b && (not t && q b)) (inner b)) split.below
          ∙ last_before before split.descends
        where
          between : X → Bool
          between m = list_any (λ k. p k && (is_lt (R m k) && is_lt (R k e))) (onto before (e ∷ after))

          whole : X → Bool
          whole m = p m && ((is_lt (R m e) && not (between m)) && q m)

          inner : (m : X) → between m ≡ list_any (λ k. p k && is_lt (R m k)) before
          inner m =
              only_before (λ k. p k && (is_lt (R m k) && is_lt (R k e))) before e after (ap (λ t. p e && (is_lt (R m e) && t)) (not_itself e) ∙ shut_later (p e) (is_lt (R m e)))
              (any_none (λ a. R e a ≡ Less) (λ k. p k && (is_lt (R m k) && is_lt (R k e))) after (λ a above. ap (λ t. p a && (is_lt (R m a) && t)) (not_back e a above) ∙ shut_later (p a) (is_lt (R m a))) split.above)
              ∙ any_same (λ b. R b e ≡ Less) (λ k. p k && (is_lt (R m k) && is_lt (R k e))) (λ k. p k && is_lt (R m k)) before (λ b below. ap (λ r. p b && (is_lt (R m b) && is_lt r)) below ∙ ap (λ t. p b && t) (and_so (is_lt (R m b)))) split.below
