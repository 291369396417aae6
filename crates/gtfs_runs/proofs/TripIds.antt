-- The ids of trips, and where one stands among them.
use Rattle.std.proofs.Common.{◌≡◌, ◌+◌, ◌<◌, ◌≤◌, ℕ, zero, suc, Bool, true, false, cond, List, [], ◌∷◌, map, length, get_or, Option, Some, None, refl, sym, ap, subst, ◌∙◌, inl, inr, arith, unwrap_or}
use Rattle.std.specs.Prelude.{bytes_eq, nat_lt}
use Rattle.std.specs.List.{position, position_or_len, slice_get}
use Rattle.std.specs.Cmp.{nat_cmp_is, tied_itself}
use Rattle.std.specs.Ordering.{is_eq, is_lt, nat_cmp, on, ordering_reverse, ordering_then}
use Rattle.std.specs.declared.cmp.Ordering.{Ordering}
use Rattle.std.specs.declared.cmp.Ordering.TheVariants.{Less, Equal, Greater}
use Rattle.std.proofs.lemmas.Bool.{cases_Bool, cases_lt, cases_order, lt-ltb, le-ltb, ltb-true, ltb-false, true≢false}
use Rattle.std.proofs.lemmas.Cmp.{nat_list_cmp_total}
use Rattle.std.proofs.lemmas.Map.Text.{is_eq-slice_cmp}
use Rattle.std.proofs.lemmas.Option.{same_Some as some_is, slice_get-get_or}
use Rattle.std.specs.List.Sorted.{IsPartitionedBy, IsPartitionPoint}
use Rattle.gtfs_rows.specs.declared.trip.Trip.{Trip}
use Rattle.gtfs_schema.proofs.SiteFacts.{text_is, text_itself}
use Rattle.gtfs_rows.specs.TransferOrder.{Ascends}
use Rattle.gtfs_rows.proofs.SoundOrder.{in_order}
use Rattle.gtfs_rows.proofs.SameElements.{pairs-map}
use Rattle.gtfs_rows.specs.RowsInMemory.{IsSoundParts, text_of_number, trip_ids}
use Rattle.gtfs_rows.specs.declared.parts.Parts.{Parts}
use Rattle.gtfs_field.specs.TextOrder.{text_cmp}

-- ---- comparisons

pub then_less : (n : ℕ) → ordering_then (nat_cmp 0 n) Less ≡ Less
then_less n = elim (cases_order 0 n) [
  | inl same ↦ rw (← nat_cmp_is 0 n Equal same) refl
  | inr (inl less) ↦ rw (← nat_cmp_is 0 n Less less) refl
  | inr (inr more) ↦ absurd (omega (arith, more))
]

pub same_firsts : (a t s r : Ordering) → is_lt t ≡ is_lt s → (s ≡ Equal → ⊥) → is_lt (ordering_then a t) ≡ is_lt (ordering_then a (ordering_then s r))
same_firsts Less t s r alike apart = refl
same_firsts Greater t s r alike apart = refl
same_firsts Equal t Less r alike apart = alike
same_firsts Equal t Equal r alike apart = absurd (apart refl)
same_firsts Equal t Greater r alike apart = alike

pub turned : (r s : Ordering) → r ≡ ordering_reverse s → is_lt s ≡ true → r ≡ Greater
turned r Less e h = e
turned r Equal e h = cc h
turned r Greater e h = cc h

turned_less : (r s : Ordering) → r ≡ ordering_reverse s → is_lt s ≡ false → (s ≡ Equal → ⊥) → r ≡ Less
turned_less r Less e h apart = cc h
turned_less r Equal e h apart = absurd (apart refl)
turned_less r Greater e h apart = e

text_cmp-same : (a b : List ℕ) → text_cmp a b ≡ Equal → a ≡ b
text_cmp-same a b tied = text_is a b (sym (is_eq-slice_cmp a b) ∙ ap is_eq tied)

ties : (a b : List ℕ) → text_cmp a b ≡ Equal → bytes_eq b a ≡ false → ⊥
ties a b tied other = true≢false (sym (text_itself b) ∙ ap (bytes_eq b) (sym (text_cmp-same a b tied)) ∙ other)

-- the trips below an id that no trip has
pub between : (id : List ℕ) (ids : List (List ℕ)) (t n : ℕ) → nat_lt n t ≡ is_lt (text_cmp (text_of_number ids n) id) → bytes_eq id (text_of_number ids n) ≡ false
    → (is_lt (ordering_then (nat_cmp t n) Less) ≡ is_lt (text_cmp id (text_of_number ids n))) × (text_cmp id (text_of_number ids n) ≡ Equal → ⊥)
between id ids t n below other =
    let x = text_of_number ids n in
    let back = nat_list_cmp_total.antisymm id x in (
      elim (cases_Bool (nat_lt n t)) [
        | inl less ↦
            let greater = turned (text_cmp id x) (text_cmp x id) back (sym below ∙ less) in
            rw (greater, ← nat_cmp_is t n Greater (ltb-true n t less)) refl
        | inr from ↦
            let less = turned_less (text_cmp id x) (text_cmp x id) back (sym below ∙ from) (λ tied. ties x id tied other) in
            rw (less, from_on t n (ltb-false n t from)) refl
      ],
      λ tied. ties id x tied (other_way id x other),
    )
  where
    from_on : (t n : ℕ) → t ≤ n → ordering_then (nat_cmp t n) Less ≡ Less
    from_on t n upto = elim (cases_order t n) [
      | inl same ↦ rw (← nat_cmp_is t n Equal same) refl
      | inr (inl less) ↦ rw (← nat_cmp_is t n Less less) refl
      | inr (inr more) ↦ absurd (omega (arith, upto, more))
    ]

    other_way : (a b : List ℕ) → bytes_eq a b ≡ false → bytes_eq b a ≡ false
    other_way a b other = elim (cases_Bool (bytes_eq b a)) [
      | inl same ↦ absurd (true≢false (sym (text_itself a) ∙ ap (bytes_eq a) (sym (text_is b a same)) ∙ other))
      | inr is ↦ is
    ]

-- the text of the number of a row
pub text_at : {X : Type 0} (g : X → List ℕ) (xs : List X) (n : ℕ) (x : X) → slice_get xs n ≡ Some x → text_of_number (map g xs) n ≡ g x
text_at g [] n x at = cc
text_at g (y ∷ ys) zero x at = ap g (some_is y x at)
text_at g (y ∷ ys) (suc n) x at = text_at g ys n x at

-- numbers compare as the texts for which they stand
pub numbers : (ids : List (List ℕ)) (i j : ℕ) → Ascends text_cmp ids → i < length ids → j < length ids → nat_cmp i j ≡ text_cmp (text_of_number ids i) (text_of_number ids j)
numbers ids i j up in_i in_j = elim (cases_order i j) [
  | inl same ↦
      sym (nat_cmp_is i j Equal same)
      ∙ sym (ap (λ n. text_cmp (text_of_number ids i) (text_of_number ids n)) (sym same) ∙ tied_itself nat_list_cmp_total (text_of_number ids i))
  | inr (inl less) ↦ sym (nat_cmp_is i j Less less) ∙ sym (up i j [] less in_j)
  | inr (inr more) ↦
      sym (nat_cmp_is i j Greater more)
      ∙ sym (nat_list_cmp_total.antisymm (text_of_number ids i) (text_of_number ids j) ∙ ap ordering_reverse (up j i [] more in_i))
]

-- ---- where an id stands

pub position_at : (q : List ℕ → Bool) (ids : List (List ℕ)) (n : ℕ) → position q ids ≡ Some n → (n < length ids) × (q (text_of_number ids n) ≡ true)
position_at q ids n is = found (nat_lt (position_or_len q ids) (length ids)) refl is
  where
    got : (ids : List (List ℕ)) → position_or_len q ids < length ids → q (text_of_number ids (position_or_len q ids)) ≡ true
    got [] inside = absurd (omega (arith, inside))
    got (x ∷ xs) inside = elim (cases_Bool (q x)) [
      | inl here ↦ rw here here
      | inr not ↦
          let later : position_or_len q xs < length xs = rest (rw not at inside) in
          rw not (step (position_or_len q xs) (got xs later))
    ]
      where
        rest : 1 + position_or_len q xs < suc (length xs) → position_or_len q xs < length xs
        rest h = omega (arith, h)

        step : (m : ℕ) → q (text_of_number xs m) ≡ true → q (text_of_number (x ∷ xs) (1 + m)) ≡ true
        step m h = let e : 1 + m ≡ suc m = omega arith in subst (λ k. q (text_of_number (x ∷ xs) k) ≡ true) (sym e) h

    found : (b : Bool) → nat_lt (position_or_len q ids) (length ids) ≡ b → cond b (Some (position_or_len q ids)) None ≡ Some n → (n < length ids) × (q (text_of_number ids n) ≡ true)
    found true inside is =
        let same : position_or_len q ids ≡ n = some n is in
        let within = ltb-true (position_or_len q ids) (length ids) inside in
        (subst (λ m. m < length ids) same within, subst (λ m. q (text_of_number ids m) ≡ true) same (got ids within))
      where
        some : (n : ℕ) → Some (position_or_len q ids) ≡ Some n → position_or_len q ids ≡ n
        some n e = ap (λ (o : Option ℕ). unwrap_or o 0) e
    found false outside is = cc

pub position_none : (q : List ℕ → Bool) (ids : List (List ℕ)) → position q ids ≡ None → (n : ℕ) → n < length ids → q (text_of_number ids n) ≡ false
position_none q ids is n within = elim (cases_Bool (q (text_of_number ids n))) [
  | inl here ↦ absurd (none (nat_lt (position_or_len q ids) (length ids)) (lt-ltb (position_or_len q ids) (length ids) (omega (arith, upto ids n within here, within))) is)
  | inr isnt ↦ isnt
]
  where
    none : (b : Bool) → b ≡ true → cond b (Some (position_or_len q ids)) None ≡ None → ⊥
    none true inside is = cc
    none false inside is = cc

    upto : (ids : List (List ℕ)) (n : ℕ) → n < length ids → q (text_of_number ids n) ≡ true → position_or_len q ids ≤ n
    upto [] n within here = absurd (omega (arith, within))
    upto (x ∷ xs) zero within here = rw here (omega arith)
    upto (x ∷ xs) (suc n) within here = elim (cases_Bool (q x)) [
      | inl now ↦ rw now (omega arith)
      | inr not ↦ let rest = upto xs n (omega (arith, within)) here in rw not (omega (arith, rest))
    ]

-- ---- trips below an id

pub trips_parted : (id : List ℕ) (ts : List Trip) → Ascends (on (λ t. t.trip_id) text_cmp) ts → IsPartitionedBy (λ t. is_lt (text_cmp t.trip_id id)) ts
trips_parted id ts up i j d upto within below = elim (cases_lt i j) [
  | inl before ↦ ap is_lt (nat_list_cmp_total.trans (get_or ts i d).trip_id (get_or ts j d).trip_id id (up i j d before within) (less (text_cmp (get_or ts j d).trip_id id) below))
  | inr past ↦ let same : i ≡ j = omega (arith, upto, past) in ap (λ n. is_lt (text_cmp (get_or ts n d).trip_id id)) same ∙ below
]
  where
    less : (r : Ordering) → is_lt r ≡ true → r ≡ Less
    less Less h = refl
    less Equal h = cc h
    less Greater h = cc h

pub count_below : (id : List ℕ) (ts : List Trip) (index : ℕ) → IsPartitionPoint (λ t. is_lt (text_cmp t.trip_id id) ≡ true) (λ t. is_lt (text_cmp t.trip_id id) ≡ false) ts index
    → (n : ℕ) → n < length ts → nat_lt n index ≡ is_lt (text_cmp (text_of_number (map (λ t. t.trip_id) ts) n) id)
count_below id [] index parted n within = absurd (omega (arith, within))
count_below id (t ∷ ts) index parted n within =
    let text : text_of_number (map (λ u. u.trip_id) (t ∷ ts)) n ≡ (get_or (t ∷ ts) n t).trip_id = text_at (λ u. u.trip_id) (t ∷ ts) n (get_or (t ∷ ts) n t) (slice_get-get_or (t ∷ ts) n t within) in
    elim (cases_lt n index) [
      | inl before ↦ lt-ltb n index before ∙ sym (ap (λ x. is_lt (text_cmp x id)) text ∙ parted.0 n t (omega arith) before)
      | inr past ↦ le-ltb n index past ∙ sym (ap (λ x. is_lt (text_cmp x id)) text ∙ parted.1 n t past within)
    ]

pub trip_ids_ascend : (p : Parts) → IsSoundParts p → Ascends text_cmp (trip_ids p)
trip_ids_ascend p sound = pairs-map (λ t. t.trip_id) (λ a b. text_cmp a b ≡ Less) p.trips (in_order p sound).trips

-- ---- positions by an id

-- whose trip has this number
pub there_same : (ids : List (List ℕ)) (id : List ℕ) (n m : ℕ) → Ascends text_cmp ids → position (bytes_eq id) ids ≡ Some n → m < length ids
    → nat_cmp n m ≡ text_cmp id (text_of_number ids m)
there_same ids id n m up found within =
    let there = position_at (bytes_eq id) ids n found in
    numbers ids n m up there.0 within ∙ ap (λ t. text_cmp t (text_of_number ids m)) (sym (text_is id (text_of_number ids n) there.1))
