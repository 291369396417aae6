-- The rows of each trip that follow each other.
use Rattle.std.proofs.Common.{◌≡◌, ◌<◌, ◌≤◌, ◌+◌, ◌-◌, ◌++◌, ◌∷◌, ◌∙◌, [], ℕ, suc, List, length, map, take, drop, get_or, Some, refl, sym, ap, subst, arith}
use Rattle.std.specs.Prelude.{flat_map, slice_get}
use Rattle.std.specs.List.{All, range_with_len}
use Rattle.std.proofs.lemmas.List.Elements.{All-push}
use Rattle.std.proofs.lemmas.Option.{get_or_from_slice_get, slice_get_within}
use Rattle.std.proofs.lemmas.List.{ext_get_or, get_or-drop, get_or-map, take_more, get_or-take, length-drop, length-map, length-take-le, map_push}
use Rattle.std.proofs.lemmas.List.FromFn.{get_or-range_with_len, length-range_with_len}
use Rattle.csv.specs.Records.{Rising}
use Rattle.gtfs_stop_times.specs.StopTimesByTrip.{AreWithin, in_turn, rows_in}
use Rattle.gtfs_stop_times.specs.declared.by_trip.RowRange.{RowRange}
use Rattle.gtfs_stop_times.specs.declared.stop_row.StopRow.{StopRow}
use Rattle.gtfs_stop_times.proofs.Turns.{parts-joined, parts-map, starts-parts}
use Rattle.gtfs_field.proofs.ListFacts.{range-push}
use Rattle.gtfs_table.specs.FieldOffsets.{parts, starts_of}
use Rattle.gtfs_stop_times.specs.HeadsignedRows.{numbers_in, rows_at}
use Rattle.gtfs_stop_times.specs.KeptLists.{no_row}

-- ---- rows that follow each other

pub rows-in : (rows : List StopRow) (range : RowRange) → range.start ≤ range.end → range.end ≤ length rows → rows_in rows range ≡ rows_at rows (numbers_in range)
rows-in rows range up within =
    let count = range.end - range.start in
    let left : count ≤ length (drop range.start rows) = omega (arith, up, within, length-drop range.start rows) in
    let size : length (rows_in rows range) ≡ count = length-take-le count (drop range.start rows) left in
    let numbers : length (numbers_in range) ≡ count = length-range_with_len range.start count in
    let all : length (rows_at rows (numbers_in range)) ≡ count = length-map (numbers_in range) (λ n. get_or rows n no_row) ∙ numbers in
    ext_get_or no_row (rows_in rows range) (rows_at rows (numbers_in range)) (size ∙ sym all) (λ k h.
    let below : k < count = omega (arith, h, size) in
    get_or-take count (drop range.start rows) k no_row below
    ∙ get_or-drop range.start rows k no_row
    ∙ ap (λ n. get_or rows n no_row) (sym (get_or-range_with_len range.start count k 0 below))
    ∙ sym (get_or-map (λ n. get_or rows n no_row) (numbers_in range) k 0 no_row (omega (arith, below, numbers))))

-- ranges of which each is the numbers of a list
pub all-in : (rows : List StopRow) (ranges : List RowRange) → AreWithin (length rows) ranges → map (rows_in rows) ranges ≡ map (rows_at rows) (map numbers_in ranges)
all-in rows [] within = refl
all-in rows (r ∷ rs) within =
    let here = within 0 r (omega arith) in
    ap (λ x. x ∷ map (rows_in rows) rs) (rows-in rows r here.0 here.1)
    ∙ ap (λ xs. rows_at rows (numbers_in r) ∷ xs) (all-in rows rs (λ k d h. within (suc k) d (omega (arith, h))))

module _ (rows : List StopRow) (order starts : List ℕ) (ranges : List RowRange) (within : AreWithin (length rows) ranges)
    (are : map numbers_in ranges ≡ parts starts order) (up : Rising 0 starts (length order)) (first : get_or starts 0 (length order) ≡ 0) where
  abbrev seen : List StopRow
  seen = rows_at rows order

  size : length seen ≡ length order
  size = length-map order (λ n. get_or rows n no_row)

  parts-are : map (rows_in rows) ranges ≡ parts starts seen
  parts-are = all-in rows ranges within ∙ ap (map (rows_at rows)) are ∙ sym (parts-map (λ n. get_or rows n no_row) starts order)

  rising : Rising 0 starts (length seen)
  rising = subst (Rising 0 starts) (sym size) up

  begins : get_or starts 0 (length seen) ≡ 0
  begins = ap (get_or starts 0) size ∙ first

  pub ranges-rows : (in_turn (map (rows_in rows) ranges)).rows ≡ seen
  ranges-rows = ap (flat_map (λ rs. rs)) parts-are ∙ parts-joined 0 starts seen rising ∙ ap (λ n. drop n seen) begins

  pub ranges-starts : (in_turn (map (rows_in rows) ranges)).starts ≡ starts
  ranges-starts = ap (starts_of 0) parts-are ∙ starts-parts 0 0 starts seen rising begins

-- ---- one more range

pub part-more : (starts order : List ℕ) (ranges : List RowRange) (range : RowRange) (k : ℕ) (part : List ℕ) → map numbers_in ranges ≡ take k (parts starts order)
    → slice_get (parts starts order) k ≡ Some part → numbers_in range ≡ part → map numbers_in (ranges ++ range ∷ []) ≡ take (k + 1) (parts starts order)
part-more starts order ranges range k part so_far at is =
    map_push numbers_in ranges range ∙ ap (λ ps. ps ++ numbers_in range ∷ []) so_far
    ∙ ap (λ p. take k (parts starts order) ++ p ∷ []) (is ∙ sym (get_or_from_slice_get (parts starts order) k part part at))
    ∙ sym (take_more (parts starts order) k part (slice_get_within (parts starts order) k part at))

-- one more number that follows
pub follows : (first : ℕ) (numbers : List ℕ) (k n : ℕ) → k < length numbers → get_or numbers k 0 ≡ n → n ≡ first + k → range_with_len first k ≡ take k numbers
    → range_with_len first (k + 1) ≡ take (k + 1) numbers
follows first numbers k n within here is so_far =
    let one : k + 1 ≡ suc k = omega arith in
    ap (range_with_len first) one ∙ range-push first k
    ∙ ap (λ ns. ns ++ (first + k) ∷ []) so_far
    ∙ ap (λ m. take k numbers ++ m ∷ []) (sym is ∙ sym here)
    ∙ sym (take_more numbers k 0 within)

-- they end before the number above all of them
pub ends-within : (first : ℕ) (numbers : List ℕ) (rows : ℕ) → range_with_len first (length numbers) ≡ numbers → 0 < length numbers → All (λ n. n < rows) numbers
    → first + length numbers ≤ rows
ends-within first numbers rows are some below =
    let last = length numbers - 1 in
    let within : last < length numbers = omega (arith, some) in
    let is = ap (λ ns. get_or ns last 0) (sym are) ∙ get_or-range_with_len first (length numbers) last 0 within in
    let low = below last 0 within in
    omega (arith, is, low, some)

pub one-within : (size : ℕ) (ranges : List RowRange) (range : RowRange) → AreWithin size ranges → (range.start ≤ range.end) × (range.end ≤ size) → AreWithin size (ranges ++ range ∷ [])
one-within size ranges range all one = All-push (λ r. (r.start ≤ r.end) × (r.end ≤ size)) ranges range all one
