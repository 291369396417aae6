-- On which days two weeks or more without service begin.
use Rattle.std.proofs.Common.{◌≡◌, ◌∙◌, ◌+◌, ◌++◌, ◌<◌, ◌≤◌, ℕ, zero, suc, Bool, true, false, not, List, [], ◌∷◌, cond, length, filter, map, get_or, ℤ, pos, ◌+ℤ◌, ◌-ℤ◌, ◌<ℤ◌, ◌≤ℤ◌, int_lt, unsigned_abs, refl, sym, ap, inl, inr, arith}
use Rattle.std.specs.Prelude.{◌&&◌}
use Rattle.std.specs.List.{list_any, range_with_len}
use Rattle.std.proofs.lemmas.Bool.{and_left, and_right, and_from}
use Rattle.std.proofs.lemmas.List.{append-nil}
use Rattle.std.proofs.lemmas.List.Folds.{list_any_at, list_any_none}
use Rattle.std.proofs.lemmas.List.FromFn.{filter_of_map_range_with_len_more, get_or-map-range_with_len, get_or-range_with_len, length-map-range_with_len, length-range_with_len}
use Rattle.std.proofs.lemmas.Int.{ints}
use Rattle.jiff_core.proofs.SignedLemmas.{signed_arith}
use Rattle.gtfs_field.proofs.NumberFacts.{abs-above, cases_int, lt-int_lt}
use Rattle.gtfs_days.specs.Service.{first_service_day, last_service_day, service_day_count, service_days}
use Rattle.gtfs_advice.specs.Services.{begins_gap_of}
use Rattle.gtfs_advice.specs.ServedDays.{IsQuiet, days_before}

-- ---- the days before one, each in turn

abbrev day : ℕ → ℤ
day i = first_service_day +ℤ pos i

abbrev first_days : ℕ → List ℤ
first_days n = map day (range_with_len 0 n)

longer : (p : ℤ → Bool) (n : ℕ) → filter p (first_days (n + 1)) ≡ filter p (first_days n) ++ cond (p (day n)) (day n ∷ []) []
longer p n = filter_of_map_range_with_len_more p day 0 n n (omega arith)

none_longer : (p : ℤ → Bool) (n m : ℕ) → ((k : ℕ) → n ≤ k → k < n + m → p (day k) ≡ false) → filter p (first_days (n + m)) ≡ filter p (first_days n)
none_longer p n zero none = ap (λ k. filter p (first_days k)) (omega arith)
none_longer p n (suc m) none =
    let next : n + suc m ≡ (n + m) + 1 = omega arith in
    let here = none (n + m) (omega arith) (omega arith) in
    ap (λ k. filter p (first_days k)) next ∙ longer p (n + m)
    ∙ ap (λ b. filter p (first_days (n + m)) ++ cond b (day (n + m) ∷ []) []) here
    ∙ append-nil (filter p (first_days (n + m)))
    ∙ none_longer p n m (λ k from to. none k from (omega arith))

pub none_more : (p : ℤ → Bool) (from until : ℤ) → first_service_day ≤ℤ from → from ≤ℤ until → ((d : ℤ) → from ≤ℤ d → d <ℤ until → p d ≡ false)
    → filter p (days_before until) ≡ filter p (days_before from)
none_more p from until low up none =
    let n = unsigned_abs (from -ℤ first_service_day) in
    let m = unsigned_abs (until -ℤ from) in
    let far : pos n ≡ from -ℤ first_service_day = abs-above from first_service_day low in
    let further : pos m ≡ until -ℤ from = abs-above until from up in
    let whole = abs-above until first_service_day (omega (arith, signed_arith)) in
    let all : unsigned_abs (until -ℤ first_service_day) ≡ n + m = omega (arith, signed_arith, far, further, whole) in
    ap (λ k. filter p (first_days k)) all
    ∙ none_longer p n m (λ k after before. none (day k) (omega (arith, signed_arith, far)) (omega (arith, signed_arith, far, further)))

pub one_more : (p : ℤ → Bool) (d : ℤ) → first_service_day ≤ℤ d → p d ≡ true → filter p (days_before (d +ℤ pos 1)) ≡ filter p (days_before d) ++ d ∷ []
one_more p d low passes =
    let n = unsigned_abs (d -ℤ first_service_day) in
    let far : pos n ≡ d -ℤ first_service_day = abs-above d first_service_day low in
    let whole = abs-above (d +ℤ pos 1) first_service_day (omega (arith, signed_arith)) in
    let all : unsigned_abs ((d +ℤ pos 1) -ℤ first_service_day) ≡ n + 1 = omega (arith, signed_arith, far, whole) in
    let is : day n ≡ d = omega (arith, signed_arith, far) in
    ap (λ k. filter p (first_days k)) all ∙ longer p n
    ∙ ap (λ b. filter p (first_days n) ++ cond b (day n ∷ []) []) (ap p is ∙ passes)
    ∙ ap (λ e. filter p (first_days n) ++ e ∷ []) is

-- ---- all service days; their number stays a variable, so that none of them is computed

days_are : (n : ℕ) → n ≡ service_day_count → first_days n ≡ service_days
unfolding service_days
days_are n e = ap first_days e

all_are : (n : ℕ) → n ≡ service_day_count → (p : ℤ → Bool) (from : ℤ) → first_service_day ≤ℤ from → from ≤ℤ day n → ((d : ℤ) → from ≤ℤ d → p d ≡ false)
    → filter p service_days ≡ filter p (days_before from)
all_are n e p from low up none =
    let whole = abs-above (day n) first_service_day (omega (arith, signed_arith)) in
    let all : unsigned_abs (day n -ℤ first_service_day) ≡ n = omega (arith, signed_arith, whole) in
    ap (filter p) (sym (days_are n e)) ∙ ap (λ k. filter p (first_days k)) (sym all)
    ∙ none_more p from (day n) low up (λ d after before. none d after)

any_is : (n : ℕ) → n ≡ service_day_count → (p : ℤ → Bool) (d : ℤ) → first_service_day ≤ℤ d → d <ℤ day n → p d ≡ true → list_any p service_days ≡ true
any_is n e p d low up passes =
    let i = unsigned_abs (d -ℤ first_service_day) in
    let far : pos i ≡ d -ℤ first_service_day = abs-above d first_service_day low in
    let inside : i < n = omega (arith, signed_arith, far) in
    let is : day i ≡ d = omega (arith, signed_arith, far) in
    ap (list_any p) (sym (days_are n e))
    ∙ list_any_at p (first_days n) i d (omega (arith, length-map-range_with_len day 0 n))
    (ap p (get_or-map-range_with_len day 0 n i i d inside (omega arith) ∙ is) ∙ passes)

pub any_day : (p : ℤ → Bool) (d : ℤ) → first_service_day ≤ℤ d → d ≤ℤ last_service_day → p d ≡ true → list_any p service_days ≡ true
any_day p d low high passes = any_is service_day_count refl p d low (omega (arith, signed_arith, high)) passes

-- where nothing passes from a day on, the days before it are all that count
pub all_before : (p : ℤ → Bool) (from : ℤ) → first_service_day ≤ℤ from → from ≤ℤ (last_service_day +ℤ pos 1) → ((d : ℤ) → from ≤ℤ d → p d ≡ false)
    → filter p service_days ≡ filter p (days_before from)
all_before p from low up none = all_are service_day_count refl p from low (omega (arith, signed_arith, up)) none

not_later : (d e : ℤ) → e ≤ℤ d → int_lt d e ≡ false
not_later d e h = grind (arith, ints)

-- ---- days on which no gap begins, and days on which one does

module _ (served : ℤ → Bool) where
  pub served_soon : (d : ℤ) (k : ℕ) → k < 14 → served (d +ℤ pos k) ≡ true → begins_gap_of served d ≡ false
  served_soon d k within runs =
      let q : ℕ → Bool = λ i. served (d +ℤ pos i) in
      let at : k < length (range_with_len 0 14) = omega (arith, length-range_with_len 0 14) in
      let none : 0 + k ≡ k = omega arith in
      let same : get_or (range_with_len 0 14) k 0 ≡ k = get_or-range_with_len 0 14 k 0 within ∙ none in
      let any : list_any q (range_with_len 0 14) ≡ true = list_any_at q (range_with_len 0 14) k 0 at (ap q same ∙ runs) in
      and_left (served (d -ℤ pos 1) && not (list_any q (range_with_len 0 14))) (list_any (λ e. int_lt d e && served e) service_days)
      (and_right (served (d -ℤ pos 1)) (not (list_any q (range_with_len 0 14))) (ap not any))

  -- a day that follows on one without service
  pub rested_before : (d : ℤ) → served (d -ℤ pos 1) ≡ false → begins_gap_of served d ≡ false
  rested_before d rests =
      and_left (served (d -ℤ pos 1) && not (list_any (λ k. served (d +ℤ pos k)) (range_with_len 0 14))) (list_any (λ e. int_lt d e && served e) service_days)
      (and_left (served (d -ℤ pos 1)) (not (list_any (λ k. served (d +ℤ pos k)) (range_with_len 0 14))) rests)

  -- some later day has service, and none of two weeks after one with service
  pub gap_begins : (d next : ℤ) → first_service_day ≤ℤ next → next ≤ℤ last_service_day → served (d -ℤ pos 1) ≡ true → IsQuiet served d (d +ℤ pos 14) → d <ℤ next → served next ≡ true
      → begins_gap_of served d ≡ true
  gap_begins d next low high ran quiet later runs =
      let q : ℕ → Bool = λ i. served (d +ℤ pos i) in
      let none : list_any q (range_with_len 0 14) ≡ false = list_any_none q (range_with_len 0 14) (λ k e inside.
      let within : k < 14 = omega (arith, length-range_with_len 0 14) in
      let here : 0 + k ≡ k = omega arith in
      let same : get_or (range_with_len 0 14) k e ≡ k = get_or-range_with_len 0 14 k e within ∙ here in
      ap q same ∙ quiet (d +ℤ pos k) (omega (arith, signed_arith)) (omega (arith, signed_arith))) in
      let again : list_any (λ e. int_lt d e && served e) service_days ≡ true = any_day (λ e. int_lt d e && served e) next low high
      (and_from (int_lt d next) (served next) (lt-int_lt d next later) runs) in
      and_from (served (d -ℤ pos 1) && not (list_any q (range_with_len 0 14))) (list_any (λ e. int_lt d e && served e) service_days)
      (and_from (served (d -ℤ pos 1)) (not (list_any q (range_with_len 0 14))) ran (ap not none)) again

  -- no later day has service
  pub ended : (d : ℤ) → ((e : ℤ) → d <ℤ e → served e ≡ false) → begins_gap_of served d ≡ false
  ended d over =
      and_right (served (d -ℤ pos 1) && not (list_any (λ k. served (d +ℤ pos k)) (range_with_len 0 14))) (list_any (λ e. int_lt d e && served e) service_days)
      (list_any_none (λ e. int_lt d e && served e) service_days (λ k e inside. no_later (get_or service_days k e)))
    where
      no_later : (e : ℤ) → (int_lt d e && served e) ≡ false
      no_later e = elim (cases_int d e) [
        | inl later ↦ and_right (int_lt d e) (served e) (over e later)
        | inr earlier ↦ and_left (int_lt d e) (served e) (not_later d e earlier)
      ]
