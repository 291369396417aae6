-- Texts that are cut at slashes.
use Rattle.std.proofs.Common.{◌≡◌, ◌≢◌, ℕ, zero, suc, ◌+◌, ◌-◌, ◌<◌, ◌≤◌, ◌==◌, not, cond, Bool, true, false, List, [], ◌∷◌, ◌++◌, length, get_or, take, drop, arith, refl, sym, ap, ◌∙◌, length-append, zero-add, take-append-drop, ap₂, subst, lit<, Option, Some, None, MatchOption}
use Rattle.std.specs.Prelude.{nat_le, slice_index, count_by}
use Rattle.std.specs.Borrow.{Bor}
use Rattle.std.specs.Char.{is_ascii_digit}
use Rattle.std.specs.List.{list_any, before_first, after_first, before_last, after_last, position_or_len, suffix_len}
use Rattle.std.specs.Str.{all_ascii_digits}
use Rattle.std.proofs.lemmas.Bool.{and_parts, and_right, and_from, or_parts, or_from}
use Rattle.std.proofs.lemmas.Bool.Decides.{nat_tests}
use Rattle.std.proofs.lemmas.List.{get_or-append_right}
use Rattle.std.specs.Str.Pattern.{RFindsChar, SplitsAroundMatch}
use Rattle.std.proofs.lemmas.Str.Pattern.{IsSplitOnceResult, split_parts, NoCharPasses-char, drop_at_char}
use Rattle.std.proofs.lemmas.List.Sums.{sum_by-append, sum_by-cons, suffix_len_is}
use Rattle.gtfs_board.specs.KeyTexts.{is_slash, has_key_shape, after_instant, before_day, before_sequence}
use Rattle.gtfs_board.specs.KeyParts.{LacksSlash, IsCutAtFirst, IsCutAtLast, AreTexts}

-- ---- texts without slashes

no_slash : (b : ℕ) → b ≢ 47 → is_slash b ≡ false
no_slash b other = grind (arith, nat_tests)

pub lacks-from_bytes : (t : List ℕ) → ((i : ℕ) → i < length t → get_or t i 0 ≢ 47) → LacksSlash t
lacks-from_bytes [] other = refl
lacks-from_bytes (b ∷ t) other =
    or_from (is_slash b) (list_any is_slash t) (no_slash b (other 0 (omega arith))) (lacks-from_bytes t (λ i l. other (suc i) (omega arith)))

lacks_at : (t : List ℕ) (k : ℕ) → LacksSlash t → k < length t → is_slash (get_or t k 0) ≡ false
lacks_at [] k lacks l = absurd (omega arith)
lacks_at (b ∷ t) zero lacks l = (or_parts (is_slash b) (list_any is_slash t) lacks).0
lacks_at (b ∷ t) (suc k) lacks l = lacks_at t k (or_parts (is_slash b) (list_any is_slash t) lacks).1 (omega arith)

digit-no_slash : (b : ℕ) → is_ascii_digit b ≡ true → is_slash b ≡ false
digit-no_slash b digit = grind (arith, nat_tests)

pub digits-lack_slash : (t : List ℕ) → all_ascii_digits t ≡ true → LacksSlash t
digits-lack_slash [] digits = refl
digits-lack_slash (b ∷ t) digits =
    let given = and_parts (is_ascii_digit b) (all_ascii_digits t) digits in
    or_from (is_slash b) (list_any is_slash t) (digit-no_slash b given.0) (digits-lack_slash t given.1)

-- ---- how many slashes there are

one_byte : (b : ℕ) (t : List ℕ) → count_by is_slash (b ∷ t) ≡ cond (is_slash b) 1 0 + count_by is_slash t
one_byte b t = sum_by-cons (λ x. cond (is_slash x) 1 0) b t

abbrev IsCounted : Bool → ℕ → Type 0
IsCounted b n = cond b 1 0 ≡ n

count-lacks : (t : List ℕ) → LacksSlash t → count_by is_slash t ≡ 0
count-lacks [] lacks = refl
count-lacks (b ∷ t) lacks =
    let given = or_parts (is_slash b) (list_any is_slash t) lacks in
    let here : IsCounted (is_slash b) 0 = rw given.0 refl in
    let rest = count-lacks t given.1 in
    let step = one_byte b t in
    omega (arith, here, rest, step)

count-around : (a b : List ℕ) → count_by is_slash (a ++ 47 ∷ b) ≡ count_by is_slash a + (1 + count_by is_slash b)
count-around a b = sum_by-append (λ x. cond (is_slash x) 1 0) a (47 ∷ b) ∙ ap (λ n. count_by is_slash a + n) (one_byte 47 b)

-- ---- round the first slash, and round the last

pub around_first : (a b : List ℕ) → LacksSlash a → (before_first is_slash (a ++ 47 ∷ b) ≡ a) × (after_first is_slash (a ++ 47 ∷ b) ≡ b)
around_first [] b lacks = (refl, refl)
around_first (x ∷ a) b lacks =
    let given = or_parts (is_slash x) (list_any is_slash a) lacks in
    let more = around_first a b given.1 in
    let n = position_or_len is_slash (a ++ 47 ∷ b) in
    let once : 1 + n ≡ suc n = omega arith in
    let twice : suc n + 1 ≡ suc (n + 1) = omega arith in
    (rw (given.0, once) (ap (λ t. x ∷ t) more.0), rw (given.0, once, twice) more.1)

passes : (a b : List ℕ) (k : ℕ) → LacksSlash b → length a + 1 ≤ k → k < length (a ++ 47 ∷ b) → not (is_slash (get_or (a ++ 47 ∷ b) k 0)) ≡ true
passes a b k lacks from l =
    let at = get_or-append_right a (47 ∷ b) (length a) k 0 refl (omega arith) in
    let next : k - length a ≡ suc (k - length a - 1) = omega arith in
    let inside : k - length a - 1 < length b = omega (arith, length-append a (47 ∷ b)) in
    let here = lacks_at b (k - length a - 1) lacks inside in
    rw (at, next, here) refl

at_slash : (a b : List ℕ) → get_or (a ++ 47 ∷ b) (length a + 1 - 1) 0 ≡ 47
at_slash a b =
    let same : length a + 1 - 1 ≡ length a = omega arith in
    let none : length a - length a ≡ 0 = omega arith in
    ap (λ n. get_or (a ++ 47 ∷ b) n 0) same ∙ get_or-append_right a (47 ∷ b) (length a) (length a) 0 refl (omega arith) ∙ ap (λ n. get_or (47 ∷ b) n 0) none

after-len : (a b : List ℕ) → LacksSlash b → suffix_len (λ x. not (is_slash x)) (a ++ 47 ∷ b) ≡ length b
after-len a b lacks =
    let size = length-append a (47 ∷ b) in
    let stops : not (is_slash (get_or (a ++ 47 ∷ b) (length a + 1 - 1) 0)) ≡ false = rw (at_slash a b) refl in
    suffix_len_is (λ x. not (is_slash x)) (a ++ 47 ∷ b) (length a + 1) 0 (omega (arith, size)) (λ k from l. passes a b k lacks from l) (λ some. stops)
    ∙ omega (arith, size)

pub around_last : (a b : List ℕ) → LacksSlash b → (before_last is_slash (a ++ 47 ∷ b) ≡ a) × (after_last is_slash (a ++ 47 ∷ b) ≡ b)
around_last a b lacks =
    let size = length-append a (47 ∷ b) in
    let len = after-len a b lacks in
    let cut : length (a ++ 47 ∷ b) - suffix_len (λ x. not (is_slash x)) (a ++ 47 ∷ b) - 1 ≡ length a = omega (arith, size, len) in
    let start : length (a ++ 47 ∷ b) - suffix_len (λ x. not (is_slash x)) (a ++ 47 ∷ b) ≡ length a + 1 = omega (arith, size, len) in
    (ap (λ n. take n (a ++ 47 ∷ b)) cut ∙ take-of a (47 ∷ b), ap (λ n. drop n (a ++ 47 ∷ b)) start ∙ drop-of a b)
  where
    take-of : (xs ys : List ℕ) → take (length xs) (xs ++ ys) ≡ xs
    take-of [] ys = refl
    take-of (x ∷ xs) ys = ap (λ t. x ∷ t) (take-of xs ys)

    drop-of : (xs ys : List ℕ) → drop (length xs + 1) (xs ++ 47 ∷ ys) ≡ ys
    drop-of [] ys = refl
    drop-of (x ∷ xs) ys = let next : suc (length xs) + 1 ≡ suc (length xs + 1) = omega arith in ap (λ n. drop n (x ∷ (xs ++ 47 ∷ ys))) next ∙ drop-of xs ys

-- ---- what `split_once` and `rsplit_once` give

pub cut_first : (t : List ℕ) (r : Option (Bor (List ℕ) × Bor (List ℕ))) → IsSplitOnceResult 47 t r
    → MatchOption r (LacksSlash t) (λ x. IsCutAtFirst t x.0.now x.1.now)
cut_first t None found = lacks-from_bytes t (split_parts 47 t None found (lit< tt))
cut_first t (Some x) found =
    let given = split_parts 47 t (Some x) found (lit< tt) in
    record { text = given.0; lacks = lacks-from_bytes x.0.now given.1 }

abbrev IsLastSplit : List ℕ → Option (Bor (List ℕ) × Bor (List ℕ)) → Type 0
IsLastSplit t r = MatchOption r (RFindsChar 47 t None) (λ x. SplitsAroundMatch (RFindsChar 47) t x.0.now x.1.now)

abbrev OtherBytes : List ℕ → Type 0
OtherBytes xs = (k : ℕ) → k < length xs → get_or xs k 0 ≢ 47

pub cut_last : (t : List ℕ) (r : Option (Bor (List ℕ) × Bor (List ℕ))) → IsLastSplit t r
    → MatchOption r (LacksSlash t) (λ x. IsCutAtLast t x.0.now x.1.now)
cut_last t None found = lacks-from_bytes t (λ i l. NoCharPasses-char 47 t i found (lit< tt) l)
cut_last t (Some x) found =
    let i = found.0 in
    let j = found.1 in
    record {
      text = sym (take-append-drop i t)
          ∙ ap₂ (λ (a b : List ℕ). a ++ b) (sym found.3) (drop_at_char 47 t i j found.2.1 (lit< tt) ∙ ap (λ (b : List ℕ). 47 ∷ b) (sym found.4));
      lacks = lacks-from_bytes x.1.now (subst OtherBytes (sym found.4) (λ k l. NoCharPasses-char 47 (drop j t) k found.2.0 (lit< tt) l));
    }

-- ---- the shape of a key's text

below_four : (n : ℕ) → n < 4 → nat_le 4 n ≡ false
below_four n few = grind (arith, nat_tests)

too_few : (t : List ℕ) → count_by is_slash t < 4 → has_key_shape t ≡ false
too_few t few = and_right (slice_index t 0 == 64) (nat_le 4 (count_by is_slash t)) (below_four (count_by is_slash t) few)

count-at : (t rest : List ℕ) → t ≡ 64 ∷ rest → count_by is_slash t ≡ count_by is_slash rest
count-at t rest at = ap (count_by is_slash) at ∙ (one_byte 64 rest ∙ zero-add (count_by is_slash rest))

count-cut : (t a b : List ℕ) → t ≡ a ++ 47 ∷ b → count_by is_slash t ≡ count_by is_slash a + (1 + count_by is_slash b)
count-cut t a b cut = ap (count_by is_slash) cut ∙ count-around a b

pub shape-none : (t rest : List ℕ) → t ≡ 64 ∷ rest → LacksSlash rest → has_key_shape t ≡ false
shape-none t rest at lacks = too_few t (omega (arith, count-at t rest at, count-lacks rest lacks))

pub shape-one : (t rest a b : List ℕ) → t ≡ 64 ∷ rest → IsCutAtFirst rest a b → LacksSlash b → has_key_shape t ≡ false
shape-one t rest a b at first lacks =
    too_few t (omega (arith, count-at t rest at, count-cut rest a b first.text, count-lacks a first.lacks, count-lacks b lacks))

pub shape-two : (t rest a b c d : List ℕ) → t ≡ 64 ∷ rest → IsCutAtFirst rest a b → IsCutAtLast b c d → LacksSlash c → has_key_shape t ≡ false
shape-two t rest a b c d at first last lacks =
    too_few t (omega (arith, count-at t rest at, count-cut rest a b first.text, count-lacks a first.lacks, count-cut b c d last.text, count-lacks d last.lacks, count-lacks c lacks))

pub shape-three : (t rest a b c d e f : List ℕ) → t ≡ 64 ∷ rest → IsCutAtFirst rest a b → IsCutAtLast b c d → IsCutAtLast c e f → LacksSlash e → has_key_shape t ≡ false
shape-three t rest a b c d e f at first last next lacks =
    too_few t (omega (arith, count-at t rest at, count-cut rest a b first.text, count-lacks a first.lacks, count-cut b c d last.text, count-lacks d last.lacks, count-cut c e f next.text, count-lacks f next.lacks, count-lacks e lacks))

-- ---- its parts

pub parts : (t rest instant more trip_to_sequence day trip_to_run sequence trip run : List ℕ) → t ≡ 64 ∷ rest → IsCutAtFirst rest instant more
    → IsCutAtLast more trip_to_sequence day → IsCutAtLast trip_to_sequence trip_to_run sequence → IsCutAtLast trip_to_run trip run
    → AreTexts t instant trip run sequence day
parts t rest instant more m day n sequence trip run at first last next before =
    let inside : drop 1 t ≡ instant ++ 47 ∷ more = ap (drop 1) at ∙ first.text in
    let round = around_first instant more first.lacks in
    let round_day = around_last m day last.lacks in
    let round_sequence = around_last n sequence next.lacks in
    let round_run = around_last trip run before.lacks in
    let to_more : after_instant t ≡ m ++ 47 ∷ day = ap (after_first is_slash) inside ∙ round.1 ∙ last.text in
    let to_m : before_day t ≡ n ++ 47 ∷ sequence = ap (before_last is_slash) to_more ∙ round_day.0 ∙ next.text in
    let to_n : before_sequence t ≡ trip ++ 47 ∷ run = ap (before_last is_slash) to_m ∙ round_sequence.0 ∙ before.text in
    let begins : (slice_index t 0 == 64) ≡ true = ap (λ u. slice_index u 0 == 64) at in
    let many : nat_le 4 (count_by is_slash t) ≡ true = enough t rest instant more m day n sequence trip run at first last next before in
    record {
      shape = and_from _ _ begins many;
      instant_is = ap (before_first is_slash) inside ∙ round.0;
      trip_is = ap (before_last is_slash) to_n ∙ round_run.0;
      run_is = ap (after_last is_slash) to_n ∙ round_run.1;
      sequence_is = ap (after_last is_slash) to_m ∙ round_sequence.1;
      day_is = ap (after_last is_slash) to_more ∙ round_day.1;
    }
  where
    four : (n : ℕ) → 4 ≤ n → nat_le 4 n ≡ true
    four n most = grind (arith, nat_tests)

    enough : (t rest instant more trip_to_sequence day trip_to_run sequence trip run : List ℕ) → t ≡ 64 ∷ rest → IsCutAtFirst rest instant more
        → IsCutAtLast more trip_to_sequence day → IsCutAtLast trip_to_sequence trip_to_run sequence → IsCutAtLast trip_to_run trip run
        → nat_le 4 (count_by is_slash t) ≡ true
    enough t rest instant more m day n sequence trip run at first last next before =
        four (count_by is_slash t) (omega (arith, count-at t rest at, count-cut rest instant more first.text, count-cut more m day last.text, count-cut m n sequence next.text, count-cut n trip run before.text))
