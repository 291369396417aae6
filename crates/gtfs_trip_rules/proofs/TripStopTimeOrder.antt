-- The order of rows of trips, and the tests that the rules ask of two rows.
use Rattle.std.proofs.Common.{◌≡◌, ℕ, List, true, false, Bool, cond, refl, sym, ap, ◌∙◌, bytes_eq}
use Rattle.std.specs.Prelude.{◌&&◌, ◌||◌, ◌==◌, nat_lt, int_lt, ℤ}
use Rattle.std.specs.Cmp.{IsTotalOrder, nat_cmp_total, on_total, then_total, tied_itself}
use Rattle.std.specs.Cmp.Lexicographic.{nat_list_cmp_total}
use Rattle.std.specs.FinMap.{int_cmp-IsAntisymmetric, nat_cmp-IsAntisymmetric, slice_cmp-IsAntisymmetric}
use Rattle.std.specs.Ordering.{int_cmp, int_eq, is_eq, is_lt, nat_cmp, on, ordering_reverse, ordering_then, then_cmp}
use Rattle.std.specs.declared.cmp.Ordering.{Ordering}
use Rattle.std.specs.declared.cmp.Ordering.TheVariants.{Less, Equal, Greater}
use Rattle.std.proofs.lemmas.Cmp.{int_cmp_total, int_eq_equiv}
use Rattle.std.proofs.lemmas.Bool.{and_from as and_both}
use Rattle.std.proofs.Math.Bool.{and_comm as turned}
use Rattle.gtfs_field.proofs.NumberFacts.{eq-int_eq as same_numbers, int_eq-true as same_number}
use Rattle.gtfs_field.proofs.OrderingFacts.{tied_second as last_ties}
use Rattle.gtfs_field.proofs.TestFacts.{and_fails}
use Rattle.gtfs_field.specs.TextOrder.{text_cmp}
use Rattle.gtfs_trip_rules.specs.TripOrder.{row_cmp, same_sequence, same_trip, trip_cmp}
use Rattle.gtfs_trip_rules.specs.TripStopTimes.{TripStopTime}
use Rattle.gtfs_schema.proofs.BoolFacts.{and_parts, and_under}
use Rattle.gtfs_schema.proofs.SiteFacts.{text_is, text_itself}

abbrev sequence_cmp : TripStopTime → TripStopTime → Ordering
sequence_cmp = then_cmp (on (λ r. r.sequence) int_cmp) (on (λ r. r.row) nat_cmp)

-- the sequence of a is less than that of b
abbrev pub is_lower : TripStopTime → TripStopTime → Bool
is_lower a b = int_lt a.sequence b.sequence

abbrev pub is_earlier_twin : TripStopTime → TripStopTime → Bool
is_earlier_twin a b = nat_lt a.row b.row && int_eq a.sequence b.sequence

abbrev pub stands_first : TripStopTime → TripStopTime → Bool
stands_first a b = is_lower a b || is_earlier_twin a b

number_itself : (a : ℤ) → int_cmp a a ≡ Equal
number_itself a = tied_itself int_cmp_total a

pub trip_is : (a b : TripStopTime) → same_trip a b ≡ true → a.trip_id ≡ b.trip_id
trip_is a b e = text_is a.trip_id b.trip_id e

tests_order : (x y u v : Bool) → is_lt (ordering_then (cond x Less (cond y Greater Equal)) (cond u Less (cond v Equal Greater))) ≡ (x || (u && is_eq (cond x Less (cond y Greater Equal))))
tests_order true y u v = refl
tests_order false true true v = refl
tests_order false true false v = refl
tests_order false false true v = refl
tests_order false false false true = refl
tests_order false false false false = refl

first_in_trip : (a b : TripStopTime) → is_lt (sequence_cmp a b) ≡ stands_first a b
first_in_trip a b = tests_order (int_lt a.sequence b.sequence) (int_lt b.sequence a.sequence) (nat_lt a.row b.row) (a.row == b.row)

number_test : (u v : Bool) → is_lt (cond u Less (cond v Equal Greater)) ≡ u
number_test true v = refl
number_test false true = refl
number_test false false = refl

module _ {X K : Type 0} (f : X → K) (R : K → K → Ordering) (o : IsTotalOrder R) (tie : (a b : K) → R a b ≡ Equal → a ≡ b) (S : X → X → Ordering) where
  then_less : (r s : Ordering) → ordering_then r s ≡ Less → r ≡ Greater → Less ≡ Greater
  then_less Less s e g = g
  then_less Equal s e g = cc
  then_less Greater s e g = sym e

  -- a key that is the same on both sides
  between : (a b c : X) → then_cmp (on f R) S a b ≡ Less → then_cmp (on f R) S b c ≡ Less → f c ≡ f a → (r : Ordering) → R (f a) (f b) ≡ r → f c ≡ f b
  between a b c first second same Less is =
      let back : R (f b) (f c) ≡ Greater = ap (R (f b)) same ∙ o.antisymm (f b) (f a) ∙ ap ordering_reverse is in
      let clash : Less ≡ Greater = then_less (R (f b) (f c)) (S b c) second back in cc
  between a b c first second same Equal is = same ∙ tie (f a) (f b) is
  between a b c first second same Greater is = let clash : Less ≡ Greater = then_less (R (f a) (f b)) (S a b) first is in cc

  pub key_between : (a b c : X) → then_cmp (on f R) S a b ≡ Less → then_cmp (on f R) S b c ≡ Less → f c ≡ f a → f c ≡ f b
  key_between a b c first second same = between a b c first second same (R (f a) (f b)) refl

sequence_between : (a b c : TripStopTime) → sequence_cmp a b ≡ Less → sequence_cmp b c ≡ Less → c.sequence ≡ a.sequence → c.sequence ≡ b.sequence
sequence_between = key_between (λ (r : TripStopTime). r.sequence) int_cmp int_cmp_total int_cmp-IsAntisymmetric (on (λ r. r.row) nat_cmp)

same_texts : (a b : TripStopTime) → a.trip_id ≡ b.trip_id → same_trip a b ≡ true
same_texts a b e = ap (bytes_eq a.trip_id) (sym e) ∙ text_itself a.trip_id

pub trip_itself : (e : TripStopTime) → same_trip e e ≡ true
trip_itself e = text_itself e.trip_id

abbrev pub is_higher_in_trip : TripStopTime → TripStopTime → Bool
is_higher_in_trip e m = same_trip e m && is_lower e m

or_first : (a b : Bool) → (a || b) ≡ false → a ≡ false
or_first true b e = e
or_first false b e = refl

or_second : (a b c : Bool) → (a || (b && c)) ≡ true → c ≡ false → a ≡ true
or_second true b c e f = refl
or_second false true c e f = sym f ∙ e
or_second false false c e f = e

pub higher_alike : (e a : TripStopTime) → same_trip e a ≡ true → int_eq e.sequence a.sequence ≡ true → is_higher_in_trip e ≡ is_higher_in_trip a
higher_alike e a same tied = λ i m. bytes_eq (trip_is e a same i) m.trip_id && int_lt (same_number e.sequence a.sequence tied i) m.sequence

pub trips_alike : (e a : TripStopTime) → same_trip e a ≡ true → same_trip e ≡ same_trip a
trips_alike e a same = λ i m. bytes_eq (trip_is e a same i) m.trip_id

parted : (t l n i j : Bool) → i ≡ j → (t && (l || (n && i))) ≡ ((n && (t && j)) || (t && l))
parted true true true true j e = rw (← e) refl
parted true true true false j e = rw (← e) refl
parted true true false i j e = refl
parted true false true i j e = e ∙ sym (or_none j)
  where
    or_none : (b : Bool) → (b || false) ≡ b
    or_none true = refl
    or_none false = refl
parted true false false i j e = refl
parted false l true i j e = refl
parted false l false i j e = refl

-- ---- the order by some numbers of trips

module _ (number : List ℕ → ℕ) where
  abbrev key_cmp : List ℕ → List ℕ → Ordering
  key_cmp = trip_cmp number

  key_total : IsTotalOrder key_cmp
  key_total = then_total (on_total number nat_cmp_total) nat_list_cmp_total

  key_tie : (a b : List ℕ) → key_cmp a b ≡ Equal → a ≡ b
  key_tie a b e = slice_cmp-IsAntisymmetric nat_cmp-IsAntisymmetric a b (last_ties (nat_cmp (number a) (number b)) (text_cmp a b) e)

  pub row_total : IsTotalOrder (row_cmp number)
  row_total = then_total (on_total (λ (r : TripStopTime). r.trip_id) key_total)
      (then_total (on_total (λ (r : TripStopTime). r.sequence) int_cmp_total) (on_total (λ (r : TripStopTime). r.row) nat_cmp_total))

  pub in_trip : (a b : TripStopTime) → same_trip a b ≡ true → row_cmp number a b ≡ sequence_cmp a b
  in_trip a b e =
      ap (λ t. ordering_then (key_cmp a.trip_id t) (sequence_cmp a b)) (sym (trip_is a b e))
      ∙ ap (λ r. ordering_then r (sequence_cmp a b)) (tied_itself key_total a.trip_id)

  pub back_in_trip : (a b : TripStopTime) → same_trip a b ≡ true → row_cmp number b a ≡ sequence_cmp b a
  back_in_trip a b e =
      ap (λ t. ordering_then (key_cmp b.trip_id t) (sequence_cmp b a)) (trip_is a b e)
      ∙ ap (λ r. ordering_then r (sequence_cmp b a)) (tied_itself key_total b.trip_id)

  pub stands_as_order : (e m : TripStopTime) → (same_trip e m && stands_first m e) ≡ (same_trip e m && is_lt (row_cmp number m e))
  stands_as_order e m = and_under (same_trip e m) (stands_first m e) (is_lt (row_cmp number m e)) (λ same. sym (ap is_lt (back_in_trip e m same) ∙ first_in_trip m e))

  twin_order : (e m : TripStopTime) → same_sequence e m ≡ true → is_lt (row_cmp number m e) ≡ nat_lt m.row e.row
  twin_order e m same =
      let parts = and_parts (same_trip e m) (int_eq e.sequence m.sequence) same in
      ap is_lt (back_in_trip e m parts.0)
      ∙ ap (λ s. is_lt (ordering_then (int_cmp m.sequence s) (nat_cmp m.row e.row))) (same_number e.sequence m.sequence parts.1)
      ∙ ap (λ r. is_lt (ordering_then r (nat_cmp m.row e.row))) (number_itself m.sequence)
      ∙ number_test (nat_lt m.row e.row) (m.row == e.row)

  pub twins_as_order : (e m : TripStopTime) → (nat_lt m.row e.row && same_sequence e m) ≡ (same_sequence e m && is_lt (row_cmp number m e))
  twins_as_order e m = turned (nat_lt m.row e.row) (same_sequence e m) ∙ and_under (same_sequence e m) (nat_lt m.row e.row) (is_lt (row_cmp number m e)) (λ same. sym (twin_order e m same))

  trip_between : (a b c : TripStopTime) → row_cmp number a b ≡ Less → row_cmp number b c ≡ Less → c.trip_id ≡ a.trip_id → c.trip_id ≡ b.trip_id
  trip_between = key_between (λ (r : TripStopTime). r.trip_id) key_cmp key_total key_tie sequence_cmp

  pub trip_before : (e a b : TripStopTime) → row_cmp number a b ≡ Less → row_cmp number b e ≡ Less → same_trip e a ≡ true → same_trip e b ≡ true
  trip_before e a b first second same = same_texts e b (trip_between a b e first second (trip_is e a same))

  pub stands_in_trip : (e a b : TripStopTime) → same_trip e a ≡ true → same_trip e b ≡ true → stands_first a b ≡ is_lt (row_cmp number a b)
  stands_in_trip e a b first second = sym (ap is_lt (in_trip a b (same_texts a b (sym (trip_is e a first) ∙ trip_is e b second))) ∙ first_in_trip a b)

  -- and after
  pub trip_after : (e a m : TripStopTime) → row_cmp number e a ≡ Less → row_cmp number a m ≡ Less → same_trip e m ≡ true → same_trip e a ≡ true
  trip_after e a m first second same = same_texts e a (trip_is e m same ∙ trip_between e a m first second (sym (trip_is e m same)))

  pub sequence_before : (e a b : TripStopTime) → row_cmp number a b ≡ Less → row_cmp number b e ≡ Less → same_sequence e a ≡ true → same_sequence e b ≡ true
  sequence_before e a b first second same =
      let parts = and_parts (same_trip e a) (int_eq e.sequence a.sequence) same in
      let trip = trip_before e a b first second parts.0 in
      let with_a : same_trip a b ≡ true = same_texts a b (sym (trip_is e a parts.0) ∙ trip_is e b trip) in
      and_both (same_trip e b) (int_eq e.sequence b.sequence) trip
      (same_numbers e.sequence b.sequence (sequence_between a b e (sym (in_trip a b with_a) ∙ first) (sym (back_in_trip e b trip) ∙ second) (same_number e.sequence a.sequence parts.1)))

  pub not_higher : (e m : TripStopTime) → is_lt (row_cmp number e m) ≡ false → is_higher_in_trip e m ≡ false
  not_higher e m none = and_fails (same_trip e m) (is_lower e m) (λ same. or_first (is_lower e m) (is_earlier_twin e m) (sym (ap is_lt (in_trip e m same) ∙ first_in_trip e m) ∙ none))

  -- the next row of a trip has the same sequence or a greater one
  pub next_higher : (e a : TripStopTime) → row_cmp number e a ≡ Less → same_trip e a ≡ true → int_eq e.sequence a.sequence ≡ false → is_higher_in_trip e a ≡ true
  next_higher e a less same other =
      and_both (same_trip e a) (is_lower e a) same
      (or_second (is_lower e a) (nat_lt e.row a.row) (int_eq e.sequence a.sequence) (sym (ap is_lt (in_trip e a same) ∙ first_in_trip e a) ∙ ap is_lt less) other)

  pub later_or_twin : (e m : TripStopTime) → (same_trip e m && (is_lower e m || is_earlier_twin m e)) ≡ ((same_sequence e m && is_lt (row_cmp number m e)) || is_higher_in_trip e m)
  later_or_twin e m =
      parted (same_trip e m) (is_lower e m) (nat_lt m.row e.row) (int_eq m.sequence e.sequence) (int_eq e.sequence m.sequence) (int_eq_equiv.symm m.sequence e.sequence)
      ∙ ap (λ b. b || is_higher_in_trip e m) (twins_as_order e m)
