-- The first active day, from the first exception and the first day that the calendar row covers.
use Rattle.std.proofs.Common.{◌≡◌, ◌≢◌, ℕ, zero, suc, ◌+◌, ◌<◌, ◌≤◌, ◌&&◌, Bool, true, false, List, [], ◌∷◌, length, get_or, drop, Option, Some, None, ℤ, pos, ◌+ℤ◌, ◌<ℤ◌, ◌≤ℤ◌, int_eq, int_lt, if◌then◌else◌, refl, sym, ◌∙◌, ap, subst, inl, inr, arith}
use Rattle.std.specs.List.{All, list_any}
use Rattle.std.specs.List.Sorted.{IsPartitionedBy, IsPartitionPoint}
use Rattle.std.specs.Option.{option_map_or}
use Rattle.std.proofs.lemmas.Bool.{and_left, and_right, cases_Bool, cases_lt, false≢true}
use Rattle.std.proofs.lemmas.Int.{ints}
use Rattle.std.proofs.lemmas.List.{drop_more, drop_all, get_or-drop, length-drop}
use Rattle.std.proofs.Math.Bool.{and-true, or-false, or-true}
use Rattle.jiff_core.proofs.SignedLemmas.{signed_arith}
use Rattle.gtfs_field.proofs.NumberFacts.{cases_int, eq-int_eq, int_lt-false, int_lt-true, lt-int_lt}
use Rattle.gtfs_days.specs.declared.exception.Exception.{Exception}
use Rattle.gtfs_days.specs.declared.exception.Exception.TheVariants.{Added, Removed}
use Rattle.gtfs_days.specs.declared.week.Week.{Week}
use Rattle.gtfs_days.specs.Service.{ServiceDates, is_service_day, is_regular, is_added, is_removed, is_active, first_service_day, IsByDay, IsFirstIfAny}
use Rattle.gtfs_days.proofs.Exceptions.{Row, ne-int_eq, no_exception, by_day_head, by_day_tail}

abbrev pub dates : Option Week → List Row → ServiceDates
dates week es = record { week = week; exceptions = es }

-- days before the first service day
pub before_service : (d : ℤ) → d <ℤ first_service_day → is_service_day d ≡ false
before_service d h = grind (arith, ints)

-- days after one that is past the last service day
past_service : (d e : ℤ) → first_service_day ≤ℤ d → is_service_day d ≡ false → d ≤ℤ e → is_service_day e ≡ false
past_service d e low isnt h = grind (arith, ints)

-- a day without exceptions is active if it is regular
regular_day : (week : Option Week) (es : List Row) (e : ℤ) → All (λ x. x.0 ≢ e) es → is_active (dates week es) e ≡ is_regular week e
regular_day week es e apart =
    rw (no_exception is_removed e es apart, no_exception is_added e es apart, or-false, and-true) refl

-- an exception for another day changes nothing
other_day : (week : Option Week) (x : Row) (es : List Row) (e : ℤ) → x.0 ≢ e → is_active (dates week (x ∷ es)) e ≡ is_active (dates week es) e
other_day week x es e apart = rw (ne-int_eq x.0 e apart) refl

-- the day of a removal, where no later exception names it
removed_day : (week : Option Week) (d : ℤ) (es : List Row) → All (λ x. x.0 ≢ d) es → is_active (dates week ((d, Removed) ∷ es)) d ≡ false
removed_day week d es apart =
    rw (eq-int_eq d d refl, no_exception is_added d es apart, or-false) (and_right _ _ (and_right _ _ refl))

-- the day of an addition
added_day : (week : Option Week) (d : ℤ) (es : List Row) → is_active (dates week ((d, Added) ∷ es)) d ≡ is_service_day d
added_day week d es = rw (eq-int_eq d d refl, or-true) (and-true (is_service_day d))

-- no exception stands for a day before the first of them
none_on : (x : Row) (es : List Row) → IsByDay (x ∷ es) → (e : ℤ) → e <ℤ x.0 → (k : ℕ) (z : Row) → k < length (x ∷ es) → (get_or (x ∷ es) k z).0 ≢ e
none_on x es up e h zero z l same = omega (arith, signed_arith)
none_on x es up e h (suc k) z l same = let after = by_day_head x es up k z (omega arith) in omega (arith, signed_arith)

-- nor for the first one's day again
none_again : (x : Row) (es : List Row) → IsByDay (x ∷ es) → All (λ y. y.0 ≢ x.0) es
none_again x es up k z l same = let after = by_day_head x es up k z l in omega (arith, signed_arith)

-- ---- the first day that passes a test

-- from a day on the tests agree
pub first_same : (p q : ℤ → Bool) (from : ℤ) (r : Option ℤ) → ((e : ℤ) → from ≤ℤ e → p e ≡ q e) → IsFirstIfAny p from r → IsFirstIfAny q from r
first_same p q from None same none = λ e h. sym (same e h) ∙ none e h
first_same p q from (Some d) same found = record {
  passes = sym (same d found.not_before) ∙ found.passes;
  not_before = found.not_before;
  least = λ e h l. sym (same e h) ∙ found.least e h l;
}

-- no day up to `mid` passes
earlier_start : (p : ℤ → Bool) (low mid : ℤ) (r : Option ℤ) → low ≤ℤ mid → ((e : ℤ) → low ≤ℤ e → e <ℤ mid → p e ≡ false) → IsFirstIfAny p mid r → IsFirstIfAny p low r
earlier_start p low mid None before quiet none = λ e h. elim (cases_int e mid) [
  | inl early ↦ quiet e h early
  | inr late ↦ none e late
]
earlier_start p low mid (Some d) before quiet found = record {
  passes = found.passes;
  not_before = omega (arith, signed_arith, found.not_before);
  least = λ e h l. elim (cases_int e mid) [
    | inl early ↦ quiet e h early
    | inr late ↦ found.least e late l
  ];
}

-- the first day is not before d, so none before d passes
none_until : (p : ℤ → Bool) (low d : ℤ) (r : Option ℤ) → IsFirstIfAny p low r → option_map_or (λ f. int_lt f d) r false ≡ false → (e : ℤ) → low ≤ℤ e → e <ℤ d → p e ≡ false
none_until p low d None none late e h l = none e h
none_until p low d (Some f) found late e h l = let after = int_lt-false f d late in found.least e h (omega (arith, signed_arith))

-- and it is the first from d on
pub later_start : (p : ℤ → Bool) (low d : ℤ) (r : Option ℤ) → low ≤ℤ d → IsFirstIfAny p low r → option_map_or (λ f. int_lt f d) r false ≡ false → IsFirstIfAny p d r
later_start p low d None before none late = λ e h. none e (omega (arith, signed_arith))
later_start p low d (Some f) before found late = record {
  passes = found.passes;
  not_before = int_lt-false f d late;
  least = λ e h l. found.least e (omega (arith, signed_arith)) l;
}

-- ---- the first active day from `low` on, by the first exception x

-- a regular day comes before x
pub before_step : (week : Option Week) (x : Row) (es : List Row) (low : ℤ) (r : Option ℤ) → IsByDay (x ∷ es) → IsFirstIfAny (is_regular week) low r → option_map_or (λ f. int_lt f x.0) r false ≡ true → IsFirstIfAny (is_active (dates week (x ∷ es))) low r
before_step week x es low None up none early = absurd (false≢true early)
before_step week x es low (Some d) up found early =
    let before = int_lt-true d x.0 early in
    record {
      passes = regular_day week (x ∷ es) d (none_on x es up d before) ∙ found.passes;
      not_before = found.not_before;
      least = λ e h l. regular_day week (x ∷ es) e (none_on x es up e (omega (arith, signed_arith))) ∙ found.least e h l;
    }

-- no active day stands before x where no regular one does
quiet_before : (week : Option Week) (x : Row) (es : List Row) (low : ℤ) (r : Option ℤ) → IsByDay (x ∷ es) → IsFirstIfAny (is_regular week) low r → option_map_or (λ f. int_lt f x.0) r false ≡ false → (e : ℤ) → low ≤ℤ e → e <ℤ x.0 → is_active (dates week (x ∷ es)) e ≡ false
quiet_before week x es low r up first late e h l =
    regular_day week (x ∷ es) e (none_on x es up e l) ∙ none_until (is_regular week) low x.0 r first late e h l

-- x adds its day
pub added_step : (week : Option Week) (d : ℤ) (es : List Row) (low : ℤ) (r : Option ℤ) → first_service_day ≤ℤ d → low ≤ℤ d → IsByDay ((d, Added) ∷ es) → IsFirstIfAny (is_regular week) low r → option_map_or (λ f. int_lt f d) r false ≡ false
    → IsFirstIfAny (is_active (dates week ((d, Added) ∷ es))) low (if is_service_day d then Some d else None)
added_step week d es low r service before up first late =
    let quiet = quiet_before week (d, Added) es low r up first late in
    elim (cases_Bool (is_service_day d)) [
      | inl is ↦ rw is (record {
        passes = added_day week d es ∙ is;
        not_before = before;
        least = quiet;
      })
      | inr isnt ↦ rw isnt (λ e h. elim (cases_int e d) [
        | inl early ↦ quiet e h early
        | inr on ↦ and_left (is_service_day e) _ (past_service d e service isnt on)
      ])
    ]

-- x removes its day
pub removed_step : (week : Option Week) (d : ℤ) (es : List Row) (low : ℤ) (r found : Option ℤ) → low ≤ℤ d → IsByDay ((d, Removed) ∷ es) → IsFirstIfAny (is_regular week) low r → option_map_or (λ f. int_lt f d) r false ≡ false
    → IsFirstIfAny (is_active (dates week es)) (d +ℤ pos 1) found → IsFirstIfAny (is_active (dates week ((d, Removed) ∷ es))) low found
removed_step week d es low r found before up first late rest =
    let p = is_active (dates week ((d, Removed) ∷ es)) in
    let quiet = quiet_before week (d, Removed) es low r up first late in
    let quiet_on : (e : ℤ) → low ≤ℤ e → e <ℤ (d +ℤ pos 1) → p e ≡ false = λ e h l. elim (cases_int e d) [
      | inl early ↦ quiet e h early
      | inr on ↦
          let same : d ≡ e = omega (arith, signed_arith) in
          let F : ℤ → Type 0 = λ x. p x ≡ false in
          subst F same (removed_day week d es (none_again (d, Removed) es up))
    ] in
    let after : (e : ℤ) → (d +ℤ pos 1) ≤ℤ e → is_active (dates week es) e ≡ p e = λ e h.
    sym (other_day week (d, Removed) es e (λ same. omega (arith, signed_arith))) in
    earlier_start p low (d +ℤ pos 1) found (omega (arith, signed_arith)) quiet_on (first_same _ p (d +ℤ pos 1) found after rest)

-- no exception is left
pub no_step : (week : Option Week) (low : ℤ) (r : Option ℤ) → IsFirstIfAny (is_regular week) low r → IsFirstIfAny (is_active (dates week [])) low r
no_step week low r first = first_same (is_regular week) _ low r (λ e h. sym (regular_day week [] e (λ k z l. absurd (omega arith)))) first

-- ---- exceptions before a day

-- the first n exceptions are for days before `from`, so from there on only the others count
pub skipped : (kind : Exception → Bool) (n : ℕ) (es : List Row) (e : ℤ) → ((k : ℕ) (z : Row) → k < n → k < length es → (get_or es k z).0 <ℤ e) → list_any (λ x. int_eq x.0 e && kind x.1) es ≡ list_any (λ x. int_eq x.0 e && kind x.1) (drop n es)
skipped kind zero es e before = refl
skipped kind (suc n) [] e before = refl
skipped kind (suc n) (x ∷ es) e before =
    let first = before 0 x (omega arith) (omega arith) in
    rw (ne-int_eq x.0 e (λ same. omega (arith, signed_arith))) (skipped kind n es e (λ k z h l. before (suc k) z (omega arith) (omega arith)))

-- what a search from `from` on has left to do: these exceptions from `low` on, where `regular` is the first regular day
pub record IsLeft (week : Option Week) (es : List Row) (from low : ℤ) (rest : List Row) (regular : Option ℤ) : Type 0 where
  pub service : first_service_day ≤ℤ low
  pub by_day : IsByDay rest
  pub from_on : All (λ e. low ≤ℤ e.0) rest
  pub first : IsFirstIfAny (is_regular week) low regular
  pub answers : (r : Option ℤ) → IsFirstIfAny (is_active (dates week rest)) low r → IsFirstIfAny (is_active (dates week es)) from r

-- it begins with the first exception that is left
next_left : (week : Option Week) (es : List Row) (from low : ℤ) (i : ℕ) (x : Row) (regular : Option ℤ) → i < length es → x ≡ get_or es i x → IsLeft week es from low (drop i es) regular → IsLeft week es from low (x ∷ drop (i + 1) es) regular
next_left week es from low i x regular h is left =
    let F : List Row → Type 0 = λ rest. IsLeft week es from low rest regular in
    subst F (drop_more es i x h ∙ ap (λ (y : Row). y ∷ drop (i + 1) es) (sym is)) left

-- a regular day before it is the answer
pub answer_before : (week : Option Week) (es : List Row) (from low : ℤ) (i : ℕ) (x : Row) (regular : Option ℤ) → i < length es → x ≡ get_or es i x → IsLeft week es from low (drop i es) regular → option_map_or (λ f. int_lt f x.0) regular false ≡ true → IsFirstIfAny (is_active (dates week es)) from regular
answer_before week es from low i x regular h is left early =
    let here = next_left week es from low i x regular h is left in
    here.answers regular (before_step week x (drop (i + 1) es) low regular here.by_day here.first early)

-- an added day is, if a service can run on it
pub answer_added : (week : Option Week) (es : List Row) (from low : ℤ) (i : ℕ) (x : Row) (regular : Option ℤ) → i < length es → x ≡ get_or es i x → IsLeft week es from low (drop i es) regular → option_map_or (λ f. int_lt f x.0) regular false ≡ false → x.1 ≡ Added → first_service_day ≤ℤ x.0 → IsFirstIfAny (is_active (dates week es)) from (if is_service_day x.0 then Some x.0 else None)
answer_added week es from low i x regular h is left late kind service =
    let here = next_left week es from low i x regular h is left in
    let same : x ≡ (x.0, Added) = ap (λ (t : Exception). let y : Row = (x.0, t) in y) kind in
    let F : Row → Type 0 = λ y. IsFirstIfAny (is_active (dates week (y ∷ drop (i + 1) es))) low (if is_service_day x.0 then Some x.0 else None) in
    let up : IsByDay ((x.0, Added) ∷ drop (i + 1) es) = subst (λ (y : Row). IsByDay (y ∷ drop (i + 1) es)) same here.by_day in
    here.answers _ (subst F (sym same) (added_step week x.0 (drop (i + 1) es) low regular service (here.from_on 0 x (omega arith)) up here.first late))

-- what is left after a removed day
pub left_after : (week : Option Week) (es : List Row) (from low : ℤ) (i : ℕ) (x : Row) (regular regular' : Option ℤ) → i < length es → x ≡ get_or es i x → IsLeft week es from low (drop i es) regular → option_map_or (λ f. int_lt f x.0) regular false ≡ false → x.1 ≡ Removed → IsFirstIfAny (is_regular week) (x.0 +ℤ pos 1) regular' → IsLeft week es from (x.0 +ℤ pos 1) (drop (i + 1) es) regular'
left_after week es from low i x regular regular' h is left late kind first =
    let here = next_left week es from low i x regular h is left in
    let same : x ≡ (x.0, Removed) = ap (λ (t : Exception). let y : Row = (x.0, t) in y) kind in
    let up : IsByDay ((x.0, Removed) ∷ drop (i + 1) es) = subst (λ (y : Row). IsByDay (y ∷ drop (i + 1) es)) same here.by_day in
    let before : low ≤ℤ x.0 = here.from_on 0 x (omega arith) in
    record {
      service = omega (arith, signed_arith, here.service);
      by_day = by_day_tail x (drop (i + 1) es) here.by_day;
      from_on = λ k z l. let later = by_day_head x (drop (i + 1) es) here.by_day k z l in omega (arith, signed_arith);
      first = first;
      answers = λ r rest. here.answers r (
          let F : Row → Type 0 = λ y. IsFirstIfAny (is_active (dates week (y ∷ drop (i + 1) es))) low r in
          subst F (sym same) (removed_step week x.0 (drop (i + 1) es) low regular r before up here.first late rest));
    }

-- the first regular day from the exception on
pub first_from : (week : Option Week) (es : List Row) (from low : ℤ) (i : ℕ) (x : Row) (regular : Option ℤ) → i < length es → x ≡ get_or es i x → IsLeft week es from low (drop i es) regular → option_map_or (λ f. int_lt f x.0) regular false ≡ false → IsFirstIfAny (is_regular week) x.0 regular
first_from week es from low i x regular h is left late =
    let here = next_left week es from low i x regular h is left in
    later_start (is_regular week) low x.0 regular (here.from_on 0 x (omega arith)) here.first late

-- without exceptions the first regular day is the answer
pub answer_last : (week : Option Week) (es : List Row) (from low : ℤ) (i : ℕ) (regular : Option ℤ) → length es ≤ i → IsLeft week es from low (drop i es) regular → IsFirstIfAny (is_active (dates week es)) from regular
answer_last week es from low i regular h left =
    let F : List Row → Type 0 = λ rest. IsLeft week es from low rest regular in
    let here = subst F (drop_all i es h) left in
    here.answers regular (no_step week low regular here.first)

-- at the start all is left
pub left_all : (week : Option Week) (es : List Row) (from : ℤ) (regular : Option ℤ) → first_service_day ≤ℤ from → IsByDay es → All (λ e. from ≤ℤ e.0) es → IsFirstIfAny (is_regular week) from regular → IsLeft week es from from es regular
left_all week es from regular service up on first = record { service = service; by_day = up; from_on = on; first = first; answers = λ r h. h }

-- the exceptions before i are for days before `from`, and those from i on for days from `from` on
record IsSplit (es : List Row) (from : ℤ) (i : ℕ) : Type 0 where
  before : (k : ℕ) (z : Row) → k < i → k < length es → (get_or es k z).0 <ℤ from
  after : All (λ e. from ≤ℤ e.0) (drop i es)

parted : (es : List Row) (from : ℤ) → IsByDay es → IsPartitionedBy (λ e. int_lt e.0 from) es
parted es from up i j z h l below = elim (cases_lt i j) [
  | inl before ↦
      let less = up i j z before l in
      let last = int_lt-true (get_or es j z).0 from below in
      lt-int_lt (get_or es i z).0 from (omega (arith, signed_arith))
  | inr on ↦
      let same : j ≡ i = omega arith in
      let F : ℕ → Type 0 = λ k. int_lt (get_or es k z).0 from ≡ true in
      subst F same below
]

split_at : (es : List Row) (from : ℤ) (i : ℕ) → IsByDay es → (IsPartitionedBy (λ e. int_lt e.0 from) es → IsPartitionPoint (λ e. int_lt e.0 from ≡ true) (λ e. int_lt e.0 from ≡ false) es i) → IsSplit es from i
split_at es from i up parted_at =
    let sides = parted_at (parted es from up) in
    record {
      before = λ k z h l. int_lt-true (get_or es k z).0 from (sides.0 k z (omega arith) h);
      after = λ k z l.
          let l' : i + k < length es = omega (arith, length-drop i es) in
          let later = int_lt-false (get_or es (i + k) z).0 from (sides.1 (i + k) z (omega arith) l') in
          rw (get_or-drop i es k z) later;
    }

by_day_drop : (es : List Row) (n : ℕ) → IsByDay es → IsByDay (drop n es)
by_day_drop es n up i j z h l =
    let l' : n + j < length es = omega (arith, length-drop n es) in
    rw (get_or-drop n es i z, get_or-drop n es j z) (up (n + i) (n + j) z (omega arith) l')

-- what there is to know of the exceptions from a day on
pub record IsRest (week : Option Week) (es : List Row) (from : ℤ) (rest : List Row) : Type 0 where
  pub by_day : IsByDay rest
  pub from_on : All (λ e. from ≤ℤ e.0) rest
  pub same : (e : ℤ) → from ≤ℤ e → is_active (dates week es) e ≡ is_active (dates week rest) e

pub rest_from : (week : Option Week) (es : List Row) (from : ℤ) (i : ℕ) → IsByDay es → (IsPartitionedBy (λ e. int_lt e.0 from) es → IsPartitionPoint (λ e. int_lt e.0 from ≡ true) (λ e. int_lt e.0 from ≡ false) es i) → IsRest week es from (drop i es)
rest_from week es from i up parted_at =
    let split = split_at es from i up parted_at in
    record {
      by_day = by_day_drop es i up;
      from_on = split.after;
      same = λ e h.
          let before : (k : ℕ) (z : Row) → k < i → k < length es → (get_or es k z).0 <ℤ e = λ k z l m. let less = split.before k z l m in omega (arith, signed_arith) in
          rw (skipped is_removed i es e before, skipped is_added i es e before) refl;
    }
