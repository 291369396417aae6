-- What is reported of each element of a list, one after the other.
use Rattle.std.proofs.Common.{◌≡◌, ◌+◌, ◌<◌, ◌≤◌, ℕ, zero, suc, [], ◌∷◌, List, length, get_or, take, true, false, Bool, refl, sym, ap, ◌∙◌, add_comm, zero-add, arith}
use Rattle.std.specs.Prelude.{◌&&◌, ◌||◌}
use Rattle.std.specs.List.{list_any, range_with_len}
use Rattle.std.proofs.lemmas.List.{take_all}
use Rattle.std.proofs.lemmas.List.Folds.{list_any_at, list_any_more}
use Rattle.std.proofs.lemmas.List.FromFn.{get_or-range_with_len, length-range_with_len}
use Rattle.std.proofs.Math.Bool.{and-false}
use Rattle.gtfs_table.specs.Tables.{Dataset}
use Rattle.gtfs_schema.specs.steps.FoundProblems.{Reports}
use Rattle.gtfs_schema.specs.Problems.{Problem, is_problem}
use Rattle.gtfs_schema.proofs.ReportingFacts.{reports_alike, reports_then}

-- ---- tests on the elements of a list

and_or : (a b c : Bool) → ((a && b) || (a && c)) ≡ (a && (b || c))
and_or true b c = refl
and_or false b c = refl

pub any_and : {X : Type 0} (a : Bool) (t : X → Bool) (xs : List X) → list_any (λ x. a && t x) xs ≡ (a && list_any t xs)
any_and a t [] = sym (and-false a)
any_and a t (x ∷ xs) = ap (λ b. (a && t x) || b) (any_and a t xs) ∙ and_or a (t x) (list_any t xs)

-- an element that passes one test passes the other
either : (a b : Bool) (s t : Bool) → (a ≡ true → s ≡ true) → (b ≡ true → t ≡ true) → (a || b) ≡ true → (s || t) ≡ true
either true b s t first later e = ap (λ c. c || t) (first refl)
either false b true t first later e = refl
either false b false t first later e = later e

pub any_follows : {X : Type 0} (s t : X → Bool) (xs : List X) → ((x : X) → s x ≡ true → t x ≡ true) → list_any s xs ≡ true → list_any t xs ≡ true
any_follows s t [] each e = e
any_follows s t (x ∷ xs) each e = either (s x) (list_any s xs) (t x) (list_any t xs) (each x) (any_follows s t xs each) e

-- what follows from each element that passes
one_of : (a b c : Bool) → (a ≡ true → c ≡ true) → (b ≡ true → c ≡ true) → (a || b) ≡ true → c ≡ true
one_of true b c first later e = first refl
one_of false b c first later e = later e

pub any_gives : {X : Type 0} (s : X → Bool) (c : Bool) (xs : List X) → ((x : X) → s x ≡ true → c ≡ true) → list_any s xs ≡ true → c ≡ true
any_gives s true xs each e = refl
any_gives s false [] each e = e
any_gives s false (x ∷ xs) each e = one_of (s x) (list_any s xs) false (each x) (any_gives s false xs each) e

-- ---- steps over a list

-- the problems that an element of the list picks
abbrev pub of_any : {X : Type 0} → (X → Problem → Bool) → List X → Problem → Bool
of_any picks xs p = list_any (λ x. picks x p) xs

module _ {X : Type 0} (d : Dataset) (picks : X → Problem → Bool) (xs : List X) where
  pub each_more : (i : ℕ) (x : X) (old mid new : List Problem) → i < length xs
      → Reports d (of_any picks (take i xs)) old mid → Reports d (picks (get_or xs i x)) mid new → Reports d (of_any picks (take (i + 1) xs)) old new
  each_more i x old mid new within before here =
      reports_alike d (λ p. of_any picks (take i xs) p || picks (get_or xs i x) p) (of_any picks (take (i + 1) xs)) old new
      (λ p. ap (λ b. b && is_problem d p) (sym (list_any_more (λ y. picks y p) xs i x within)))
      (reports_then d (of_any picks (take i xs)) (picks (get_or xs i x)) old mid new before here)

  pub each_done : (n : ℕ) (old new : List Problem) → length xs ≤ n → Reports d (of_any picks (take n xs)) old new → Reports d (of_any picks xs) old new
  each_done n old new past reported = rw (take_all n xs past) at reported

-- ---- elements that pass

pub any_in_range : (t : ℕ → Bool) (a n m : ℕ) → m < n → t (m + a) ≡ true → list_any t (range_with_len a n) ≡ true
any_in_range t a n m below here =
    let long : m < length (range_with_len a n) = rw (length-range_with_len a n) below in
    let site : get_or (range_with_len a n) m 0 ≡ m + a = get_or-range_with_len a n m 0 below ∙ add_comm a m in
    list_any_at t (range_with_len a n) m 0 long (ap t site ∙ here)

pub none_in_range : (t : ℕ → Bool) (a n : ℕ) → ((m : ℕ) → m < n → t (m + a) ≡ false) → list_any t (range_with_len a n) ≡ false
none_in_range t a zero none = refl
none_in_range t a (suc n) none =
    let first : t a ≡ false = ap t (sym (zero-add a)) ∙ none 0 (omega arith) in
    let later : (m : ℕ) → m < n → t (m + (a + 1)) ≡ false = λ m below. let same : m + (a + 1) ≡ (m + 1) + a = omega arith in ap t same ∙ none (m + 1) (omega arith) in
    rw first (none_in_range t (a + 1) n later)
