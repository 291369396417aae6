-- Filled rows keep time: no row is reached before an earlier one is left, and each filled one lies between its two timed rows.
use Rattle.std.proofs.Common.{◌≡◌, ◌∙◌, ◌+◌, ◌-◌, ◌<◌, ◌≤◌, ℕ, Bool, true, false, List, length, get_or, Some, refl, ap, subst, arith, inl, inr}
use Rattle.std.specs.List.{enumerate_from}
use Rattle.std.proofs.lemmas.Bool.{cases_lt, both_ways}
use Rattle.std.proofs.lemmas.List.{get_or-map}
use Rattle.std.proofs.lemmas.List.FromFn.{get_or-enumerate_from, length-enumerate_from}
use Rattle.gtfs_rows.specs.Rows.{StopRow}
use Rattle.gtfs_rows.specs.Runs.{is_timed}
use Rattle.gtfs_times.specs.Filling.{Placed, left, reached, passed_between, filled_row, filled_rows}
use Rattle.gtfs_times.proofs.Nearest.{IsBetween, between, time-is}
use Rattle.gtfs_times.proofs.EvenPace.{part-rises, part-within}

-- the filled row of an index
pub filled-at : (rows : List StopRow) (k : ℕ) (d : StopRow) → k < length rows → get_or (filled_rows rows) k d ≡ filled_row rows (k, get_or rows k d)
filled-at rows k d within =
    let e : 0 + k ≡ k = omega arith in
    let count = length-enumerate_from 0 rows in
    get_or-map (filled_row rows) (enumerate_from 0 rows) k (0, d) d (omega (arith, count))
    ∙ ap (filled_row rows) (get_or-enumerate_from 0 rows k (0, d) within ∙ ap (λ n. (n, get_or rows k d)) e)

-- what is asked of the timed rows of a trip
pub record KeepTime (rows : List StopRow) (d : StopRow) : Type 0 where
  pub first : 0 < length rows → is_timed (get_or rows 0 d) ≡ true
  pub last : 0 < length rows → is_timed (get_or rows (length rows - 1) d) ≡ true
  pub stay : (k : ℕ) → k < length rows → is_timed (get_or rows k d) ≡ true → reached (k, get_or rows k d) ≤ left (k, get_or rows k d)
  pub on : (i j : ℕ) → i < j → j < length rows → is_timed (get_or rows i d) ≡ true → is_timed (get_or rows j d) ≡ true → left (i, get_or rows i d) ≤ reached (j, get_or rows j d)

module _ (rows : List StopRow) (d : StopRow) (keep : KeepTime rows d) where
  abbrev pub placed : ℕ → Placed
  placed k = (k, get_or rows k d)

  abbrev pub fill : ℕ → StopRow
  fill k = filled_row rows (placed k)

  abbrev pub timed : ℕ → Bool
  timed k = is_timed (get_or rows k d)

  pub stays : (k : ℕ) → timed k ≡ true → fill k ≡ get_or rows k d
  stays k is = rw is refl

  pub fills : (i k j : ℕ) → timed k ≡ false → IsBetween rows d i k j
      → fill k ≡ record (get_or rows k d) { arrival_time = Some (passed_between (placed i) (placed j) k); departure_time = Some (passed_between (placed i) (placed j) k) }
  fills i k j isnt is = rw isnt (λ z. record (get_or rows k d) { arrival_time = time-is rows d i k j is z; departure_time = time-is rows d i k j is z })

  -- an untimed row and those around it
  record Around (k : ℕ) : Type 0 where
    pub i : ℕ
    pub j : ℕ
    pub is : IsBetween rows d i k j
    pub leaves : left (k, fill k) ≡ passed_between (placed i) (placed j) k
    pub comes : reached (k, fill k) ≡ passed_between (placed i) (placed j) k
    pub low : left (placed i) ≤ passed_between (placed i) (placed j) k
    pub high : passed_between (placed i) (placed j) k ≤ reached (placed j)

  around : (k : ℕ) → k < length rows → timed k ≡ false → Around k
  around k within isnt =
      let b = between rows d k within isnt (keep.first (omega arith)) (keep.last (omega arith)) in
      let is = b.2 in
      let after = is.after in
      let before = is.before in
      let e = fills b.0 k b.1 isnt is in
      let kept : left (placed b.0) ≤ reached (placed b.1) = keep.on b.0 b.1 (omega (arith, after, before)) is.within is.first is.last in
      let part = part-within (reached (placed b.1) - left (placed b.0)) (k - b.0) (b.1 - b.0) (omega (arith, after, before)) (omega (arith, after, before)) in
      record {
        i = b.0;
        j = b.1;
        is = is;
        leaves = ap (λ r. left (k, r)) e;
        comes = ap (λ r. reached (k, r)) e;
        low = omega arith;
        high = omega (arith, kept, part);
      }

  -- timed rows: the later is left no earlier
  later : (t s : ℕ) → t ≤ s → s < length rows → timed t ≡ true → timed s ≡ true → left (placed t) ≤ left (placed s)
  later t s low within first second = elim (cases_lt t s) [
    | inl before ↦ omega (arith, keep.on t s before within first second, keep.stay s within second)
    | inr not_before ↦ let same : t ≡ s = omega arith in subst (λ n. left (placed t) ≤ left (placed n)) same (omega arith)
  ]

  module _ (n : ℕ) (a : Around n) where
    -- a timed row before is no nearer
    no_nearer : (t : ℕ) → t < n → timed t ≡ true → t ≤ a.i
    no_nearer t before is = elim (cases_lt a.i t) [
      | inl above ↦ let past = a.is.before in absurd (both_ways (timed t) (a.is.none t above (omega arith)) is)
      | inr not_above ↦ not_above
    ]

    no_nearer-after : (t : ℕ) → n < t → timed t ≡ true → a.j ≤ t
    no_nearer-after t after is = elim (cases_lt t a.j) [
      | inl below ↦ let past = a.is.after in absurd (both_ways (timed t) (a.is.none t (omega arith) below) is)
      | inr not_below ↦ not_below
    ]

  both-filled : (k n : ℕ) → k < n → n < length rows → timed n ≡ false → (a : Around k) → (b : Around n) → left (k, fill k) ≤ reached (n, fill n)
  both-filled k n before within isnt a b = elim (cases_lt a.j n) [
    | inl past ↦
        let reach : a.j ≤ b.i = no_nearer n b a.j past a.is.last in
        let far = b.is.within in
        let near = b.is.before in
        let low_b = b.is.after in
        let stay = keep.stay a.j (omega arith) a.is.last in
        let on = later a.j b.i reach (omega arith) a.is.last b.is.first in
        omega (arith, a.leaves, a.high, stay, on, b.low, b.comes)
    | inr not_past ↦
        let ak = a.is.after in
        let kb = a.is.before in
        let bn = b.is.after in
        let nb = b.is.before in
        let other : n < a.j = elim (cases_lt n a.j) [
          | inl less ↦ less
          | inr not_less ↦ let same : n ≡ a.j = omega arith in absurd (both_ways (timed n) isnt (ap timed same ∙ a.is.last))
        ] in
        let up : a.i ≤ b.i = no_nearer n b a.i (omega arith) a.is.first in
        let i_same : b.i ≡ a.i = elim (cases_lt a.i b.i) [
          | inl above ↦ absurd (both_ways (timed b.i) (a.is.none b.i above (omega arith)) b.is.first)
          | inr not_above ↦ omega (arith, up)
        ] in
        let down : b.j ≤ a.j = no_nearer-after n b a.j other a.is.last in
        let j_same : b.j ≡ a.j = elim (cases_lt b.j a.j) [
          | inl below ↦ absurd (both_ways (timed b.j) (a.is.none b.j (omega arith) below) b.is.last)
          | inr not_below ↦ omega (arith, down)
        ] in
        let rise : passed_between (placed a.i) (placed a.j) k ≤ passed_between (placed a.i) (placed a.j) n =
        let part = part-rises (reached (placed a.j) - left (placed a.i)) (k - a.i) (n - a.i) (a.j - a.i) (omega arith) (omega arith) in omega (arith, part) in
        let same : reached (n, fill n) ≡ passed_between (placed a.i) (placed a.j) n = b.comes ∙ (λ z. passed_between (placed (i_same z)) (placed (j_same z)) n) in
        omega (arith, a.leaves, rise, same)
  ]

  -- a timed row, and one that is filled
  left-stays : (k : ℕ) → timed k ≡ true → left (k, fill k) ≡ left (placed k)
  left-stays k is = ap (λ r. left (k, r)) (stays k is)

  reached-stays : (k : ℕ) → timed k ≡ true → reached (k, fill k) ≡ reached (placed k)
  reached-stays k is = ap (λ r. reached (k, r)) (stays k is)

  pub time-kept : (k n : ℕ) → k < n → n < length rows → left (k, fill k) ≤ reached (n, fill n)
  time-kept k n before within = by (timed k) refl (timed n) refl
    where
      by : (a : Bool) → timed k ≡ a → (b : Bool) → timed n ≡ b → left (k, fill k) ≤ reached (n, fill n)
      by true is true also = omega (arith, left-stays k is, reached-stays n also, keep.on k n before within is also)
      by true is false not =
          let a = around n within not in
          let reach = no_nearer n a k before is in
          let far = a.is.within in
          let ahead = a.is.before in
          let low = a.is.after in
          omega (arith, left-stays k is, later k a.i reach (omega arith) is a.is.first, a.low, a.comes)
      by false not true is =
          let a = around k (omega arith) not in
          let reach = no_nearer-after k a n before is in
          omega (arith, reached-stays n is, a.leaves, a.high, last-step a.j reach a.is.last)
        where
          last-step : (j : ℕ) → j ≤ n → timed j ≡ true → reached (placed j) ≤ reached (placed n)
          last-step j low first = elim (cases_lt j n) [
            | inl earlier ↦ omega (arith, keep.stay j (omega arith) first, keep.on j n earlier within first is)
            | inr not_earlier ↦ let same : j ≡ n = omega arith in subst (λ m. reached (placed j) ≤ reached (placed m)) same (omega arith)
          ]
      by false not false also = both-filled k n before within also (around k (omega arith) not) (around n within also)

  -- a filled row is left at the second at which it is reached, and no later than a timed row is reached
  pub around-time : (k : ℕ) → k < length rows → timed k ≡ false → (m : ℕ) × (fill k ≡ record (get_or rows k d) { arrival_time = Some m; departure_time = Some m })
      × (j : ℕ) × (j < length rows) × (timed j ≡ true) × (m ≤ reached (placed j))
  around-time k within isnt =
      let a = around k within isnt in
      (passed_between (placed a.i) (placed a.j) k, fills a.i k a.j isnt a.is, a.j, a.is.within, a.is.last, a.high)
