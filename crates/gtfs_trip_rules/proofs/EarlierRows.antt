-- Rows that come before a row in the file.
use Rattle.std.proofs.Common.{◌≡◌, ◌+◌, ◌<◌, ◌≤◌, ◌++◌, ◌∷◌, [], ℕ, zero, suc, List, Bool, true, false, cond, filter, length, ◌-◌, arith, subst}
use Rattle.std.specs.List.{All, range_with_len}
use Rattle.std.proofs.lemmas.List.Elements.{All-cons, All-head, All-nil, All-push, All-tail}
use Rattle.gtfs_field.proofs.ListFacts.{first_is, rest_is}
use Rattle.gtfs_table.specs.Rows.{is_row, numbers, records_in, Row}
use Rattle.gtfs_table.specs.Tables.{Dataset}
use Rattle.gtfs_table.specs.declared.file.File.{File}
use Rattle.gtfs_table.proofs.RowFacts.{numbers_more, IsTurn}
use Rattle.gtfs_stop_times.specs.StopTimeOrder.{AreEarlier}
use Rattle.gtfs_stop_times.specs.declared.stop_time.StopTime.{StopTime}

-- ---- rows that are kept

pub earlier_further : (n m : ℕ) (rs : List StopTime) → n ≤ m → AreEarlier n rs → AreEarlier m rs
earlier_further n m rs low each k z below = let first = each k z below in omega (arith, first, low)

pub earlier_pushed : (n : ℕ) (rs : List StopTime) (r : StopTime) → r.row ≡ n → AreEarlier n rs → AreEarlier (n + 1) (rs ++ r ∷ [])
earlier_pushed n rs r is each = All-push (λ s. s.row < n + 1) rs r (earlier_further n (n + 1) rs (omega arith) each) (omega (arith, is))

-- ---- the numbers of a file's rows

above_first : (a : ℕ) (ns : List ℕ) → All (λ n. a + 1 ≤ n) ns → All (λ n. a ≤ n) ns
above_first a ns each k z below = let above = each k z below in omega (arith, above)

-- each is at least the first of the range
from_first : (p : ℕ → Bool) (a len : ℕ) → All (λ n. a ≤ n) (filter p (range_with_len a len))
from_first p a zero = All-nil (λ n. a ≤ n)
from_first p a (suc len) =
    let rest = filter p (range_with_len (a + 1) len) in
    let later = above_first a rest (from_first p (a + 1) len) in
    elim (p a) as (λ b. All (λ n. a ≤ n) (cond b (a ∷ rest) rest)) [
      | true ↦ All-cons (λ n. a ≤ n) a rest (omega arith) later
      | false ↦ later
    ]

in_middle : (P : ℕ → Type 0) (xs : List ℕ) (n : ℕ) (ys : List ℕ) → All P (xs ++ n ∷ ys) → P n
in_middle P [] n ys all = All-head P n ys all
in_middle P (x ∷ xs) n ys all = in_middle P xs n ys (All-tail P x (xs ++ n ∷ ys) all)

-- those before one of them are below it
step : (a : ℕ) (rest : List ℕ) → All (λ m. a + 1 ≤ m) rest → (x : ℕ) (xs : List ℕ) (n : ℕ) (ys : List ℕ)
    → ((zs : List ℕ) → rest ≡ zs ++ n ∷ ys → All (λ m. m < n) zs) → (b : Bool) → cond b (a ∷ rest) rest ≡ x ∷ (xs ++ n ∷ ys) → All (λ m. m < n) (x ∷ xs)
step a rest above x xs n ys later false e = later (x ∷ xs) e
step a rest above x xs n ys later true e =
    let after : rest ≡ xs ++ n ∷ ys = rest_is a x rest (xs ++ n ∷ ys) e in
    let low : a + 1 ≤ n = in_middle (λ m. a + 1 ≤ m) xs n ys (subst (All (λ m. a + 1 ≤ m)) after above) in
    All-cons (λ m. m < n) x xs (omega (arith, low, first_is a x rest (xs ++ n ∷ ys) e)) (later xs after)

ascending : (p : ℕ → Bool) (a len : ℕ) (xs : List ℕ) (n : ℕ) (ys : List ℕ) → filter p (range_with_len a len) ≡ xs ++ n ∷ ys → All (λ m. m < n) xs
ascending p a len [] n ys e = All-nil (λ m. m < n)
ascending p a zero (x ∷ xs) n ys e = cc e
ascending p a (suc len) (x ∷ xs) n ys e =
    step a (filter p (range_with_len (a + 1) len)) (from_first p (a + 1) len) x xs n ys (λ zs. ascending p (a + 1) len zs n ys) (p a) e

-- the rows that a loop took come before the one that it is at
pub earlier_rows : (d : Dataset) (x : File) (taken left : List Row) (n : ℕ) (r : List (List ℕ)) → IsTurn d x taken n r left → All (λ m. m < n) (numbers taken)
earlier_rows d x taken left n r t = ascending (is_row (records_in d x)) 2 (length (records_in d x) - 1) (numbers taken) n (numbers left) t.split

-- the rows that are kept come before each row after those that a loop took
abbrev pub StandBefore : List Row → List StopTime → Type 0
StandBefore taken rs = (n : ℕ) → All (λ m. m < n) (numbers taken) → AreEarlier n rs

pub before_more : (taken : List Row) (n : ℕ) (r : List (List ℕ)) (rs : List StopTime) → AreEarlier (n + 1) rs → StandBefore (taken ++ (n, r) ∷ []) rs
before_more taken n r rs each m all =
    let last : n < m = in_middle (λ k. k < m) (numbers taken) n [] (subst (All (λ k. k < m)) (numbers_more taken n r) all) in
    earlier_further (n + 1) m rs (omega (arith, last)) each
