-- A time's text read from its end: the first colon of a time is the sixth byte from the end.
use Rattle.std.proofs.Common.{◌≡◌, ◌≢◌, ℕ, ◌+◌, ◌-◌, ◌*◌, ◌≤◌, ◌<◌, false, Some, None, List, [], ◌∷◌, length, get_or, take, drop, arith, refl, sym, ap, ◌∙◌, inl, inr}
use Rattle.std.specs.Result.{result_ok}
use Rattle.std.specs.Char.{is_ascii_digit}
use Rattle.std.specs.List.{before_first, after_first, position_or_len}
use Rattle.std.proofs.lemmas.Bool.{and_left, and_right, cases_eq, cases_lt}
use Rattle.std.proofs.lemmas.Bool.Decides.{nat_tests}
use Rattle.std.proofs.lemmas.List.{get_or-take, get_or-drop, length-take, length-drop}
use Rattle.std.proofs.lemmas.List.Sums.{fails_before_first, passes_at_first}
use Rattle.gtfs_field.specs.Digits.{is_number}
use Rattle.gtfs_field.specs.Kinds.{time_of, time_from, is_colon}
use Rattle.gtfs_field.proofs.Numerals.{all_digits-not}
use Rattle.gtfs_field.proofs.Times.{time_from-not, time_from-length, time_from-hours, time_from-middle, time_from-minutes, time_from-seconds, time_from-ok, hours_at, sixtieth_at, sixtieth_of}

-- what stands before the sixth byte from the end, and after it
abbrev pub front : List ℕ → List ℕ
front t = take (length t - 6) t

abbrev pub back : List ℕ → List ℕ
back t = drop (length t - 5) t

-- two bytes, by how far from the end they stand
abbrev pub pair_before_end : List ℕ → ℕ → ℕ → List ℕ
pair_before_end t i j = get_or t (length t - i) 0 ∷ get_or t (length t - j) 0 ∷ []

-- a first colon elsewhere leaves no five bytes after it
time_of-elsewhere : (t : List ℕ) → position_or_len is_colon t + 6 ≢ length t → None ≡ result_ok (time_of t)
time_of-elsewhere t other =
    let long : length (after_first is_colon t) ≢ 5 = λ five. other (omega (arith, length-drop (position_or_len is_colon t + 1) t)) in
    time_from-length (before_first is_colon t) (after_first is_colon t) long

pub time_of-short : (t : List ℕ) → length t < 6 → None ≡ result_ok (time_of t)
time_of-short t short = time_of-elsewhere t (λ e. omega arith)

first-colon : (t : List ℕ) → position_or_len is_colon t < length t → get_or t (position_or_len is_colon t) 0 ≡ 58
first-colon t within = let passes = passes_at_first is_colon t 0 within in grind (arith, nat_tests, passes)

pub time_of-other : (t : List ℕ) → 6 ≤ length t → get_or t (length t - 6) 0 ≢ 58 → None ≡ result_ok (time_of t)
time_of-other t long other =
    time_of-elsewhere t (λ e. let index : position_or_len is_colon t ≡ length t - 6 = omega arith in
    other (rw index at (first-colon t (omega arith))))

-- a colon before that index is among the hours
colon-no-digit : (b : ℕ) → b ≡ 58 → is_ascii_digit b ≡ false
colon-no-digit b colon = grind (arith, nat_tests)

front-not : (t : List ℕ) → position_or_len is_colon t < length t - 6 → is_number (front t) ≡ false
front-not t early =
    let p = position_or_len is_colon t in
    let within : p < length (front t) = rw length-take (omega arith) in
    and_right _ _ (all_digits-not (front t) p within (colon-no-digit _ (get_or-take (length t - 6) t p 0 early ∙ first-colon t (omega arith))))

first-most : (t : List ℕ) (i : ℕ) → get_or t i 0 ≡ 58 → position_or_len is_colon t ≤ i
first-most t i colon = elim (cases_lt i (position_or_len is_colon t)) [
  | inl later ↦ let fails = fails_before_first is_colon t i 0 later in absurd (grind (arith, nat_tests, fails))
  | inr most ↦ most
]

-- so the parts round the sixth byte from the end decide
time_of-parts : (t : List ℕ) → 6 ≤ length t → get_or t (length t - 6) 0 ≡ 58 → result_ok (time_from (front t) (back t)) ≡ result_ok (time_of t)
time_of-parts t long colon = elim (cases_eq (position_or_len is_colon t + 6) (length t)) [
  | inl there ↦
      let before : position_or_len is_colon t ≡ length t - 6 = omega arith in
      let after : position_or_len is_colon t + 1 ≡ length t - 5 = omega arith in
      sym (rw (after, before) refl)
  | inr other ↦
      let most = first-most t (length t - 6) colon in
      let no-hours = front-not t (omega arith) in
      sym (time_from-not (front t) (back t) (and_left _ _ (and_left _ _ (and_left _ _ (and_left _ _ (and_left _ _ no-hours))))))
      ∙ time_of-elsewhere t other
]

module _ (t : List ℕ) (long : 6 ≤ length t) where
  back-length : length (back t) ≡ 5
  back-length = rw length-drop (omega arith)

  back-at : (i j : ℕ) → i + j ≡ 5 → get_or (back t) i 0 ≡ get_or t (length t - j) 0
  back-at i j five =
      let index : length t - 5 + i ≡ length t - j = omega arith in get_or-drop (length t - 5) t i 0 ∙ ap (λ k. get_or t k 0) index

  back-pair : (i j k : ℕ) → i + j ≡ 5 → i + 1 + k ≡ 5 → sixtieth_of (pair_before_end t j k) ≡ sixtieth_at (back t) i
  back-pair i j k first second = sym (rw (back-at i j first, back-at (i + 1) k second) refl)

-- no second colon
pub time_of-middle : (t : List ℕ) → 6 ≤ length t → get_or t (length t - 3) 0 ≢ 58 → None ≡ result_ok (time_of t)
time_of-middle t long other = elim (cases_eq (get_or t (length t - 6) 0) 58) [
  | inl colon ↦
      time_from-middle (front t) (back t) (λ e. other (sym (back-at t long 2 3 refl) ∙ e)) ∙ time_of-parts t long colon
  | inr none ↦ time_of-other t long none
]

module _ (t : List ℕ) (long : 6 ≤ length t) (colon : get_or t (length t - 6) 0 ≡ 58) where
  pub time_of-hours : None ≡ hours_at (front t) → None ≡ result_ok (time_of t)
  time_of-hours none = time_from-hours (front t) (back t) none ∙ time_of-parts t long colon

  pub time_of-minutes : None ≡ sixtieth_of (pair_before_end t 5 4) → None ≡ result_ok (time_of t)
  time_of-minutes none =
      time_from-minutes (front t) (back t) (back-length t long) (none ∙ back-pair t long 0 5 4 refl refl) ∙ time_of-parts t long colon

  pub time_of-seconds : None ≡ sixtieth_of (pair_before_end t 2 1) → None ≡ result_ok (time_of t)
  time_of-seconds none =
      time_from-seconds (front t) (back t) (back-length t long) (none ∙ back-pair t long 3 2 1 refl refl) ∙ time_of-parts t long colon

  pub time_of-ok : (h m s : ℕ) → get_or t (length t - 3) 0 ≡ 58 → Some h ≡ hours_at (front t) → Some m ≡ sixtieth_of (pair_before_end t 5 4) → Some s ≡ sixtieth_of (pair_before_end t 2 1) → Some (3600 * h + 60 * m + s) ≡ result_ok (time_of t)
  time_of-ok h m s middle there minutes seconds =
      time_from-ok (front t) (back t) h m s (back-length t long) (back-at t long 2 3 refl ∙ middle) there
      (minutes ∙ back-pair t long 0 5 4 refl refl) (seconds ∙ back-pair t long 3 2 1 refl refl)
      ∙ time_of-parts t long colon
