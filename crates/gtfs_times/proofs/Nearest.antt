-- Which rows are the nearest timed ones.
use Rattle.std.proofs.Common.{◌≡◌, ◌∙◌, ◌+◌, ◌-◌, ◌<◌, ◌≤◌, ℕ, zero, suc, Bool, true, false, List, [], ◌∷◌, find, reverse, take, drop, length, get_or, Some, None, refl, sym, ap, arith, inl, inr}
use Rattle.std.specs.List.{enumerate_from}
use Rattle.std.proofs.lemmas.Bool.{both_ways, cases_Bool, cases_lt}
use Rattle.std.proofs.lemmas.List.{take_more, reverse-append}
use Rattle.std.proofs.lemmas.List.FromFn.{get_or-enumerate_from, length-enumerate_from}
use Rattle.gtfs_rows.specs.Rows.{StopRow}
use Rattle.gtfs_rows.specs.Runs.{is_timed}
use Rattle.gtfs_times.specs.Filling.{Placed, timed_before, timed_after, time_between, time_at, passed_between}

module _ {X : Type 0} (q : X → Bool) where
  last-found : (xs : List X) (n : ℕ) (d : X) → n < length xs → find q (reverse (take (n + 1) xs)) ≡ find q (get_or xs n d ∷ reverse (take n xs))
  last-found xs n d within = ap (λ ys. find q (reverse ys)) (take_more xs n d within) ∙ ap (find q) (reverse-append (take n xs) (get_or xs n d ∷ []))

  -- the last one before an index, where none between the two passes
  pub found-back : (xs : List X) (i n : ℕ) (d : X) → i < n → n ≤ length xs → q (get_or xs i d) ≡ true → ((k : ℕ) → i < k → k < n → q (get_or xs k d) ≡ false)
      → find q (reverse (take n xs)) ≡ Some (get_or xs i d)
  found-back xs i zero d before within passes between = absurd (omega arith)
  found-back xs i (suc n) d before within passes between =
      let e : suc n ≡ n + 1 = omega arith in
      let last : find q (reverse (take (suc n) xs)) ≡ find q (get_or xs n d ∷ reverse (take n xs)) = ap (λ m. find q (reverse (take m xs))) e ∙ last-found xs n d (omega arith) in
      elim (cases_lt i n) [
        | inl earlier ↦
            let fails : q (get_or xs n d) ≡ false = between n earlier (omega arith) in
            last ∙ rw fails (found-back xs i n d earlier (omega arith) passes (λ k from to. between k from (omega arith)))
        | inr not_earlier ↦
            let same : i ≡ n = omega arith in
            let holds : q (get_or xs n d) ≡ true = ap (λ m. q (get_or xs m d)) (sym same) ∙ passes in
            last ∙ rw holds (ap (λ m. Some (get_or xs m d)) (sym same))
      ]

  -- the first one from an index on, where none between the two passes
  pub found-ahead : (xs : List X) (n j : ℕ) (d : X) → n ≤ j → j < length xs → q (get_or xs j d) ≡ true → ((k : ℕ) → n ≤ k → k < j → q (get_or xs k d) ≡ false)
      → find q (drop n xs) ≡ Some (get_or xs j d)
  found-ahead [] n j d from within passes between = absurd (omega arith)
  found-ahead (x ∷ xs) zero zero d from within passes between = rw passes refl
  found-ahead (x ∷ xs) zero (suc j) d from within passes between =
      rw (between 0 (omega arith) (omega arith)) (found-ahead xs zero j d (omega arith) (omega arith) passes (λ k low to. between (suc k) (omega arith) (omega arith)))
  found-ahead (x ∷ xs) (suc n) zero d from within passes between = absurd (omega arith)
  found-ahead (x ∷ xs) (suc n) (suc j) d from within passes between =
      found-ahead xs n j d (omega arith) (omega arith) passes (λ k low to. between (suc k) (omega arith) (omega arith))

  -- none before an index, where none there passes
  pub found-none-back : (xs : List X) (n : ℕ) (d : X) → n ≤ length xs → ((k : ℕ) → k < n → q (get_or xs k d) ≡ false) → find q (reverse (take n xs)) ≡ None
  found-none-back xs zero d within none = refl
  found-none-back xs (suc n) d within none =
      let e : suc n ≡ n + 1 = omega arith in
      ap (λ m. find q (reverse (take m xs))) e ∙ last-found xs n d (omega arith) ∙ rw (none n (omega arith)) (found-none-back xs n d (omega arith) (λ k to. none k (omega arith)))

  -- none from an index on, where none there passes
  pub found-none-ahead : (xs : List X) (n : ℕ) (d : X) → ((k : ℕ) → n ≤ k → k < length xs → q (get_or xs k d) ≡ false) → find q (drop n xs) ≡ None
  found-none-ahead [] zero d none = refl
  found-none-ahead [] (suc n) d none = refl
  found-none-ahead (x ∷ xs) zero d none = rw (none 0 (omega arith) (omega arith)) (found-none-ahead xs zero d (λ k low to. none (suc k) (omega arith) (omega arith)))
  found-none-ahead (x ∷ xs) (suc n) d none = found-none-ahead xs n d (λ k low to. none (suc k) (omega arith) (omega arith))

-- a position between two timed rows, and no timed row between them
pub record IsBetween (rows : List StopRow) (d : StopRow) (i m j : ℕ) : Type 0 where
  pub after : i < m
  pub before : m < j
  pub within : j < length rows
  pub first : is_timed (get_or rows i d) ≡ true
  pub last : is_timed (get_or rows j d) ≡ true
  pub none : (k : ℕ) → i < k → k < j → is_timed (get_or rows k d) ≡ false

module _ (rows : List StopRow) (d : StopRow) where
  abbrev placed : ℕ → Placed
  placed k = (k, get_or rows k d)

  at : (k : ℕ) → k < length rows → get_or (enumerate_from 0 rows) k (0, d) ≡ placed k
  at k within = let e : 0 + k ≡ k = omega arith in get_or-enumerate_from 0 rows k (0, d) within ∙ ap (λ n. (n, get_or rows k d)) e

  test-at : (k : ℕ) → k < length rows → (b : Bool) → is_timed (get_or rows k d) ≡ b → is_timed (get_or (enumerate_from 0 rows) k (0, d)).1 ≡ b
  test-at k within b is = ap (λ (x : Placed). is_timed x.1) (at k within) ∙ is

  module _ (i m j : ℕ) (is : IsBetween rows d i m j) where
    pub before-is : timed_before rows m ≡ Some (placed i)
    before-is =
        let far = is.within in
        let past = is.before in
        let low = is.after in
        let count = length-enumerate_from 0 rows in
        found-back (λ x. is_timed x.1) (enumerate_from 0 rows) i m (0, d) is.after (omega (arith, count)) (test-at i (omega arith) true is.first)
        (λ k from to. test-at k (omega arith) false (is.none k from (omega arith)))
        ∙ ap Some (at i (omega arith))

    pub after-is : timed_after rows m ≡ Some (placed j)
    after-is =
        let far = is.within in
        let past = is.before in
        let low = is.after in
        let count = length-enumerate_from 0 rows in
        found-ahead (λ x. is_timed x.1) (enumerate_from 0 rows) (m + 1) j (0, d) (omega arith) (omega (arith, count)) (test-at j far true is.last)
        (λ k from to. test-at k (omega arith) false (is.none k (omega arith) to))
        ∙ ap Some (at j far)

    -- its time
    pub time-is : time_at rows m ≡ Some (passed_between (placed i) (placed j) m)
    time-is = λ k. time_between (before-is k) (after-is k) m

-- ---- there are such rows around each untimed one of a trip whose first and last row are timed

module _ (rows : List StopRow) (d : StopRow) (m : ℕ) (within : m < length rows) (untimed : is_timed (get_or rows m d) ≡ false) where
  -- going back
  back : (n : ℕ) → n ≤ m → is_timed (get_or rows 0 d) ≡ true → ((k : ℕ) → n ≤ k → k < m + 1 → is_timed (get_or rows k d) ≡ false)
      → (i : ℕ) × (i < n) × (is_timed (get_or rows i d) ≡ true) × ((k : ℕ) → i < k → k < m + 1 → is_timed (get_or rows k d) ≡ false)
  back zero low first none = absurd (both_ways (is_timed (get_or rows 0 d)) (none 0 (omega arith) (omega arith)) first)
  back (suc n) low first none = elim (cases_Bool (is_timed (get_or rows n d))) as (λ w. (i : ℕ) × (i < suc n) × (is_timed (get_or rows i d) ≡ true) × ((k : ℕ) → i < k → k < m + 1 → is_timed (get_or rows k d) ≡ false)) [
    | inl is ↦ (n, omega arith, is, λ k from to. none k (omega arith) to)
    | inr isnt ↦
        let r = back n (omega arith) first (λ k from to. elim (cases_lt n k) [ inl above ↦ none k (omega arith) to | inr not_above ↦ let same : n ≡ k = omega arith in ap (λ x. is_timed (get_or rows x d)) (sym same) ∙ isnt ]) in
        let low_i : r.0 < n = r.1 in
        (r.0, omega arith, r.2, r.3)
  ]

  -- going ahead: so many rows are left
  ahead : (left n : ℕ) → n + left + 1 ≡ length rows → m ≤ n → is_timed (get_or rows (length rows - 1) d) ≡ true → ((k : ℕ) → m ≤ k → k < n + 1 → is_timed (get_or rows k d) ≡ false)
      → (j : ℕ) × (n < j) × (j < length rows) × (is_timed (get_or rows j d) ≡ true) × ((k : ℕ) → m ≤ k → k < j → is_timed (get_or rows k d) ≡ false)
  ahead zero n count low last none =
      let end : length rows - 1 ≡ n = omega arith in
      absurd (both_ways (is_timed (get_or rows n d)) (none n low (omega arith)) (ap (λ k. is_timed (get_or rows k d)) (sym end) ∙ last))
  ahead (suc left) n count low last none = elim (cases_Bool (is_timed (get_or rows (n + 1) d))) as (λ w. (j : ℕ) × (n < j) × (j < length rows) × (is_timed (get_or rows j d) ≡ true) × ((k : ℕ) → m ≤ k → k < j → is_timed (get_or rows k d) ≡ false)) [
    | inl is ↦ (n + 1, omega arith, omega arith, is, λ k from to. none k from to)
    | inr isnt ↦
        let r = ahead left (n + 1) (omega arith) (omega arith) last
        (λ k from to. elim (cases_lt k (n + 1)) [ inl earlier ↦ none k from earlier | inr not_earlier ↦ let same : n + 1 ≡ k = omega arith in ap (λ x. is_timed (get_or rows x d)) (sym same) ∙ isnt ]) in
        let high : n + 1 < r.0 = r.1 in
        (r.0, omega arith, r.2, r.3, r.4)
  ]

  pub between : is_timed (get_or rows 0 d) ≡ true → is_timed (get_or rows (length rows - 1) d) ≡ true → (i : ℕ) × (j : ℕ) × IsBetween rows d i m j
  between first last =
      let only : (k : ℕ) → m ≤ k → k < m + 1 → is_timed (get_or rows k d) ≡ false = λ k from to. let same : m ≡ k = omega arith in ap (λ x. is_timed (get_or rows x d)) (sym same) ∙ untimed in
      let b = back m (omega arith) first only in
      let a = ahead (length rows - m - 1) m (omega arith) (omega arith) last only in
      let after : b.0 < m = b.1 in (
        b.0,
        a.0,
        record {
          after = after;
          before = a.1;
          within = a.2;
          first = b.2;
          last = a.3;
          none = λ k from to. elim (cases_lt k m) [ inl earlier ↦ b.3 k from (omega arith) | inr later ↦ a.4 k (omega arith) to ];
        },
      )
