-- What the spans of a trip by its number say of the trip, where no two trips have one number.
use Rattle.std.proofs.Common.{arith, ◌≡◌, ◌+◌, ℕ, suc, length, cond, List, true, false, refl, sym, ap, ◌∙◌, Option, Some, None, inl, inr}
use Rattle.std.specs.Prelude.{◌&&◌, ◌||◌, if◌then◌else◌, bytes_eq, is_some, nat_eq, Result, Ok, Err, IfOk, OnOk, OnErr}
use Rattle.std.specs.BTreeMap.{btree_map_len, is_at, IsUnchanged, Updates}
use Rattle.std.specs.Cmp.Lexicographic.{slice_cmp}
use Rattle.std.specs.Map.{lookup, update}
use Rattle.std.specs.Ordering.{nat_cmp}
use Rattle.std.specs.Borrow.{Bor}
use Rattle.std.proofs.lemmas.Bool.{cases_Bool, eq-eqb, eqb-true}
use Rattle.std.proofs.lemmas.Map.Text.{btree_map_updates_str}
use Rattle.std.proofs.Math.Bool.{or-false}
use Rattle.gtfs_schema.specs.FieldValues.{if_there}
use Rattle.gtfs_schema.proofs.BoolFacts.{no_test}
use Rattle.gtfs_schema.proofs.NamedFacts.{text_turned}
use Rattle.gtfs_schema.proofs.SiteFacts.{text_is, text_itself}
use Rattle.gtfs_trip_rules.specs.CoveredTrips.{AreDistinct, AreOfTrips, IsNumbered, Numbers, covers_trip, number_of}
use Rattle.gtfs_trip_rules.specs.PeriodSpans.{Spans, covers, shares}

-- ---- numbers of trips

some_is : (a b : ℕ) → Some a ≡ Some b → a ≡ b
some_is a b e = cc e

pub unchanged : (old new : Numbers) → IsUnchanged old new → (id : List ℕ) → number_of new id ≡ number_of old id
unchanged old new same id = ap (lookup (is_at (λ (key : Bor (List ℕ)). slice_cmp nat_cmp id key.now))) same

pub still_distinct : (old new : Numbers) → IsUnchanged old new → AreDistinct old → AreDistinct new
still_distinct old new same distinct = record {
  below = λ t n e. let b = distinct.below t n (sym (unchanged old new same t) ∙ e) in let l = ap length same in omega (arith, b, l);
  one = λ a b n e f. distinct.one a b n (sym (unchanged old new same a) ∙ e) (sym (unchanged old new same b) ∙ f);
}

-- the next number for a trip that has none
module _ (old new : Numbers) (trip : List ℕ) (n : ℕ) (is_next : n ≡ btree_map_len old) (none : number_of old trip ≡ None)
    (wrote : (t : List ℕ) → number_of new t ≡ update bytes_eq (number_of old) trip (Some n) t) (longer : btree_map_len new ≡ suc (btree_map_len old)) where
  own : (t : List ℕ) → bytes_eq trip t ≡ true → number_of new t ≡ Some n
  own t same = wrote t ∙ ap (λ b. cond b (Some n) (number_of old t)) same

  other : (t : List ℕ) → bytes_eq trip t ≡ false → number_of new t ≡ number_of old t
  other t apart = wrote t ∙ ap (λ b. cond b (Some n) (number_of old t)) apart

  pub next_numbered : IsNumbered old new trip n
  next_numbered = record {
    here = own trip (text_itself trip);
    was = inr (none, omega (arith, is_next));
    others = other;
    grows = omega (arith, longer);
  }

  pub next_distinct : AreDistinct old → AreDistinct new
  next_distinct distinct = record {
    below = λ t m e. elim (cases_Bool (bytes_eq trip t)) [
      | inl same ↦ let is = some_is n m (sym (own t same) ∙ e) in omega (arith, is, is_next, longer)
      | inr apart ↦ let b = distinct.below t m (sym (other t apart) ∙ e) in omega (arith, b, longer)
    ];
    one = λ a b m e f. elim (cases_Bool (bytes_eq trip a)) [
      | inl same ↦ elim (cases_Bool (bytes_eq trip b)) [
        | inl same' ↦ sym (text_is trip a same) ∙ text_is trip b same'
        | inr apart' ↦
            let is = some_is n m (sym (own a same) ∙ e) in
            let low = distinct.below b m (sym (other b apart') ∙ f) in absurd (omega (arith, is, is_next, low))
      ]
      | inr apart ↦ elim (cases_Bool (bytes_eq trip b)) [
        | inl same' ↦
            let is = some_is n m (sym (own b same') ∙ f) in
            let low = distinct.below a m (sym (other a apart) ∙ e) in absurd (omega (arith, is, is_next, low))
        | inr apart' ↦ distinct.one a b m (sym (other a apart) ∙ e) (sym (other b apart') ∙ f)
      ]
    ];
  }

-- where memory was refused the numbers are as they were
module _ (old new : Numbers) (trip : Bor (List ℕ)) (n : ℕ) (is_next : n ≡ btree_map_len old) (none : number_of old trip.now ≡ None) where
  pub one_longer : (o : Option ℕ) → o ≡ number_of old trip.now → btree_map_len new ≡ btree_map_len old + (if is_some o then 0 else 1) → btree_map_len new ≡ suc (btree_map_len old)
  one_longer None is len = omega (arith, len)
  one_longer (Some m) is len = cc (is ∙ none)

  pub next_settled : {E : Type 0} (r : Result (Option ℕ) E) → AreDistinct old → IfOk r (λ o. o ≡ number_of old trip.now)
      → IfOk r (λ o. btree_map_len new ≡ btree_map_len old + (if is_some o then 0 else 1))
      → OnOk r (Updates (λ x y. slice_cmp nat_cmp x.now y.now) old new trip (Some n)) → OnErr r (IsUnchanged old new) → AreDistinct new
  next_settled (Ok o) distinct is len wrote same =
      next_distinct old new trip.now n is_next none (btree_map_updates_str trip.now old new (Some n) wrote) (one_longer o is len) distinct
  next_settled (Err x) distinct is len wrote same = still_distinct old new same distinct

-- ---- what is covered

module _ (old new : Numbers) (trip : List ℕ) (n : ℕ) (is : IsNumbered old new trip n) (distinct : AreDistinct new) (spans : Spans) (of_trips : AreOfTrips old spans) where
  pub asked : (s e : ℕ) → covers spans n s e ≡ covers_trip old spans trip s e
  asked s e = elim is.was [
    | inl has ↦ sym (ap (λ o. if_there o (λ k. covers spans k s e)) has)
    | inr new_one ↦ of_trips n s e new_one.1 ∙ sym (ap (λ o. if_there o (λ k. covers spans k s e)) new_one.0)
  ]

  module _ (grown : Spans) (start end : ℕ) (adds : (m s e : ℕ) → covers grown m s e ≡ (covers spans m s e || (nat_eq m n && shares start end s e))) where
    not_own : (m s e : ℕ) → nat_eq m n ≡ false → covers grown m s e ≡ covers spans m s e
    not_own m s e apart = adds m s e ∙ ap (λ b. covers spans m s e || (b && shares start end s e)) apart ∙ or-false (covers spans m s e)

    pub still_of_trips : AreOfTrips new grown
    still_of_trips m s e past =
        let low = distinct.below trip n is.here in
        let wide = is.grows in
        not_own m s e (no_test (nat_eq m n) (λ hit. let same = eqb-true m n hit in absurd (omega (arith, same, low, past))))
        ∙ of_trips m s e (omega (arith, wide, past))

    at_trip : (s e : ℕ) → covers_trip new grown trip s e ≡ (covers_trip old spans trip s e || shares start end s e)
    at_trip s e =
        ap (λ o. if_there o (λ k. covers grown k s e)) is.here
        ∙ adds n s e
        ∙ ap (λ b. covers spans n s e || (b && shares start end s e)) (eq-eqb n n refl)
        ∙ ap (λ b. b || shares start end s e) (asked s e)

    elsewhere : (t : List ℕ) (s e : ℕ) → bytes_eq trip t ≡ false → covers_trip new grown t s e ≡ covers_trip old spans t s e
    elsewhere t s e apart = by (number_of new t) refl ∙ ap (λ o. if_there o (λ k. covers spans k s e)) (is.others t apart)
      where
        by : (o : Option ℕ) → number_of new t ≡ o → if_there o (λ k. covers grown k s e) ≡ if_there o (λ k. covers spans k s e)
        by None here = refl
        by (Some m) here = not_own m s e (no_test (nat_eq m n) (λ hit.
            let same : trip ≡ t = distinct.one trip t n is.here (here ∙ ap Some (eqb-true m n hit)) in
            let wrong : bytes_eq trip t ≡ true = ap (bytes_eq trip) (sym same) ∙ text_itself trip in
            sym apart ∙ wrong))

    pub covered_more : (t : List ℕ) (s e : ℕ) → covers_trip new grown t s e ≡ (covers_trip old spans t s e || (bytes_eq t trip && shares start end s e))
    covered_more t s e = elim (cases_Bool (bytes_eq trip t)) [
      | inl same ↦
          let is_trip : trip ≡ t = text_is trip t same in
          ap (λ u. covers_trip new grown u s e) (sym is_trip) ∙ at_trip s e
          ∙ ap (λ b. covers_trip old spans trip s e || (b && shares start end s e)) (sym (text_itself trip))
          ∙ ap (λ u. covers_trip old spans u s e || (bytes_eq u trip && shares start end s e)) is_trip
      | inr apart ↦
          elsewhere t s e apart ∙ sym (or-false (covers_trip old spans t s e))
          ∙ ap (λ b. covers_trip old spans t s e || (b && shares start end s e)) (sym (text_turned t trip ∙ apart))
    ]
