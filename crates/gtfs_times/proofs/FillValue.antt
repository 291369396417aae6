-- What the filled stop time of a position is.
use Rattle.std.proofs.Common.{◌≡◌, ◌∙◌, ◌+◌, ◌-◌, ◌*◌, ◌/◌, ◌<◌, ℕ, false, List, [], ◌∷◌, ◌++◌, map, length, get_or, take, Option, Some, None, refl, sym, ap, arith, inl, inr}
use Rattle.std.specs.Prelude.{◌&&◌, ◌||◌, ◌⊎◌, is_some, unwrap_or}
use Rattle.std.specs.List.{enumerate_from, list_any}
use Rattle.std.specs.Option.{option_or}
use Rattle.std.proofs.lemmas.Bool.{both_ways, cases_Bool}
use Rattle.std.proofs.lemmas.List.{get_or-map, length-map, take_more}
use Rattle.std.proofs.lemmas.List.FromFn.{get_or-enumerate_from, length-enumerate_from}
use Rattle.gtfs_rows.specs.NamedRows.{stop_row_named}
use Rattle.gtfs_rows.specs.Rows as content
use Rattle.gtfs_rows.specs.Runs.{is_timed}
use Rattle.gtfs_stop_times.specs.RowTimes.{left_at, reached_at}
use Rattle.gtfs_stop_times.specs.declared.stop_row.StopRow.{StopRow}
use Rattle.gtfs_times.specs.Filling.{Placed, passed_between, time_between, timed_after, timed_before}
use Rattle.gtfs_times.specs.Spans.{AreNeighbours, HaveNone, IsSpanAt}
use Rattle.gtfs_times.specs.TimedRows.{filled_stop_time, filled_stop_times, is_interpolated, lacks_time, position_time, timed_stop_times}
use Rattle.gtfs_times.specs.declared.times.Times.{Times}
use Rattle.gtfs_times.specs.declared.times.Times.TheVariants as times
use Rattle.gtfs_times.proofs.FilledFeed.{blank}
use Rattle.gtfs_times.proofs.Nearest.{IsBetween, found-none-ahead, found-none-back, time-is}

abbrev plain : StopRow → content.StopRow
plain = stop_row_named [] []

-- ---- between two that have times

module _ (rs : List StopRow) (i k j : ℕ) (low : i < k) (high : k < j) (are : AreNeighbours rs i j) (d : StopRow) where
  at : (n : ℕ) → n < length rs → get_or (map plain rs) n blank ≡ plain (get_or rs n d)
  at n within = get_or-map plain rs n d blank within

  between : IsBetween (map plain rs) blank i k j
  between =
      let far = are.within in
      record {
        after = low;
        before = high;
        within = omega (arith, are.within, length-map rs plain);
        first = ap is_timed (at i (omega arith)) ∙ are.first d;
        last = ap is_timed (at j far) ∙ are.last d;
        none = λ n from to. ap is_timed (at n (omega arith)) ∙ are.none n d from to;
      }

  abbrev pub even : ℕ
  even =
      let l = unwrap_or (left_at (get_or rs i d)) 0 in
      l + ((unwrap_or (reached_at (get_or rs j d)) 0 - l) * (k - i)) / (j - i)

  time : position_time rs k ≡ Some even
  time =
      let far = are.within in
      time-is (map plain rs) blank i k j between ∙ (λ z. Some (passed_between (i, at i (omega arith) z) (j, at j far z) k))

  pub fill-value : filled_stop_time rs (k, get_or rs k d) ≡ record (get_or rs k d) { arrival_time = Some even; departure_time = Some even }
  fill-value = rw (are.none k d low high) (λ z. record (get_or rs k d) { arrival_time = time z; departure_time = time z })

-- ---- where a time is missing on one side

no-time : (arrival departure : Option ℕ) → is_some (option_or departure arrival) ≡ false → (None ≡ arrival) × (None ≡ departure)
no-time None None e = (refl, refl)
no-time (Some a) None e = cc
no-time None (Some b) e = cc
no-time (Some a) (Some b) e = cc

none-after : (o : Option Placed) (m : ℕ) → time_between o None m ≡ None
none-after None m = refl
none-after (Some x) m = refl

module _ (rs : List StopRow) (k : ℕ) (within : k < length rs) where
  placed : (n : ℕ) → n < length rs → (d : StopRow) → is_some (left_at (get_or rs n d)) ≡ false → is_timed (get_or (enumerate_from 0 (map plain rs)) n (0, blank)).1 ≡ false
  placed n inside d none =
      let far : n < length (map plain rs) = omega (arith, inside, length-map rs plain) in
      ap (λ (x : Placed). is_timed x.1) (get_or-enumerate_from 0 (map plain rs) n (0, blank) far) ∙ ap is_timed (get_or-map plain rs n d blank inside) ∙ none

  open-time : (HaveNone rs 0 (k + 1) ⊎ HaveNone rs (k + 1) (length rs)) → (d : StopRow) → position_time rs k ≡ None
  open-time (inl none) d =
      let long = length-enumerate_from 0 (map plain rs) in
      let count = length-map rs plain in
      let found : timed_before (map plain rs) k ≡ None =
      found-none-back (λ x. is_timed x.1) (enumerate_from 0 (map plain rs)) k (0, blank) (omega (arith, within, long, count))
      (λ n to. placed n (omega (arith, to, within)) d (none n d (omega arith) (omega (arith, to)))) in
      ap (λ o. time_between o (timed_after (map plain rs) k) k) found
  open-time (inr none) d =
      let long = length-enumerate_from 0 (map plain rs) in
      let count = length-map rs plain in
      let found : timed_after (map plain rs) k ≡ None =
      found-none-ahead (λ x. is_timed x.1) (enumerate_from 0 (map plain rs)) (k + 1) (0, blank)
      (λ n from to. let inside : n < length rs = omega (arith, to, long, count) in placed n inside d (none n d from inside)) in
      ap (λ o. time_between (timed_before (map plain rs) k) o k) found ∙ none-after (timed_before (map plain rs) k) k

  pub open-value : IsSpanAt rs None (k + 1) → (d : StopRow) → is_some (left_at (get_or rs k d)) ≡ false → get_or rs k d ≡ filled_stop_time rs (k, get_or rs k d)
  open-value none_there d untimed =
      let r = get_or rs k d in
      let time = open-time none_there d in
      let none = no-time r.arrival_time r.departure_time untimed in
      let stays : filled_stop_time rs (k, r) ≡ r = rw untimed (λ z. record r { arrival_time = (time ∙ none.0) z; departure_time = (time ∙ none.1) z }) in
      sym stays

-- ---- lists

pub filled-length : (rs : List StopRow) → length (filled_stop_times rs) ≡ length rs
filled-length rs = length-map (enumerate_from 0 rs) (filled_stop_time rs) ∙ length-enumerate_from 0 rs

pub filled-more : (rs : List StopRow) (k : ℕ) (row : StopRow) (old new : List StopRow) → k < length rs → old ≡ take k (filled_stop_times rs)
    → new ≡ old ++ row ∷ [] → ((d : StopRow) → row ≡ filled_stop_time rs (k, get_or rs k d)) → new ≡ take (k + 1) (filled_stop_times rs)
filled-more rs k row old new within so_far pushed is =
    let all = enumerate_from 0 rs in
    let long = length-enumerate_from 0 rs in
    let size = filled-length rs in
    let at : get_or (filled_stop_times rs) k row ≡ filled_stop_time rs (k, get_or rs k row) =
    get_or-map (filled_stop_time rs) all k (0, row) row (omega (arith, within, long))
    ∙ ap (filled_stop_time rs) (get_or-enumerate_from 0 rs k (0, row) within ∙ (let e : 0 + k ≡ k = omega arith in ap (λ n. (n, get_or rs k row)) e)) in
    let next : take (k + 1) (filled_stop_times rs) ≡ take k (filled_stop_times rs) ++ get_or (filled_stop_times rs) k row ∷ [] =
    take_more (filled_stop_times rs) k row (omega (arith, within, size)) in
    pushed ∙ (λ i. so_far i ++ (is row ∙ sym at) i ∷ []) ∙ sym next

-- where none lacks a time all stay
all-stay : (all : List StopRow) (a : ℕ) (xs : List StopRow) → list_any lacks_time xs ≡ false → map (filled_stop_time all) (enumerate_from a xs) ≡ xs
all-stay all a [] none = refl
all-stay all a (x ∷ xs) none = elim (cases_Bool (is_some (left_at x))) [
  | inl timed ↦ rw timed (ap (λ ys. x ∷ ys) (all-stay all (a + 1) xs (rw timed at none)))
  | inr untimed ↦ absurd (both_ways (lacks_time x || list_any lacks_time xs) none (rw untimed refl))
]

pub kept_by : (choice : Times) (rs : List StopRow) → (is_interpolated choice && list_any lacks_time rs) ≡ false → timed_stop_times choice rs ≡ rs
kept_by times.Given rs none = refl
kept_by times.Interpolated rs none = all-stay rs 0 rs none
