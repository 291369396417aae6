-- How long the text of stop_times.txt is at the most, from the number of its rows and the longest of their texts.
use Rattle.std.proofs.Common.{◌≡◌, ◌∙◌, ap, refl, ℕ, zero, suc, ◌+◌, ◌-◌, ◌*◌, ◌/◌, ◌≤◌, ◌∷◌, List, [], Bool, true, false, map, drop, take, get_or, length, nat_le, max, Option, Some, None, option_map, length-append, arith}
use Rattle.std.specs.Prelude.{◌&&◌}
use Rattle.std.specs.List.{fold, list_all}
use Rattle.std.proofs.Math.Nat.{div-mul-le_self, le-max_left, le-max_right, mul-le-mul_right}
use Rattle.std.proofs.lemmas.Bool.{and_from, and_parts, le-leb, le-ltb, leb-true}
use Rattle.std.proofs.lemmas.List.{length-take, map-id}
use Rattle.std.proofs.lemmas.List.Folds.{list_all-append}
use Rattle.csv.specs.Records.{Rising}
use Rattle.csv.specs.Writing.{default_writer, fields_text, is_blank, row_text}
use Rattle.csv.proofs.RecordFacts.{rising-first}
use Rattle.gtfs_table.specs.FieldOffsets.{parts}
use Rattle.gtfs_table.specs.TableTexts.{text_of_records}
use Rattle.gtfs_table.specs.declared.file.File.TheVariants as file
use Rattle.gtfs_schema.specs.Columns.{columns_of, text, time, up_to}
use Rattle.gtfs_schema.specs.FieldValues.{word}
use Rattle.gtfs_rows.specs.declared.frequency.Frequency.{Frequency}
use Rattle.gtfs_rows.specs.declared.parts.Parts.{Parts}
use Rattle.gtfs_stop_times.specs.declared.stop_row.StopRow.{StopRow as StopTime}
use Rattle.gtfs_rows.specs.declared.trip.Trip.{Trip}
use Rattle.gtfs_rows.specs.Cells.{are_cells, record_text}
use Rattle.gtfs_rows.specs.RowCells.{held_by, value_of_number, stop_time_cells, stop_times_of}
use Rattle.gtfs_rows.specs.Rows.{StopRow, Trip as TripWithRows}
use Rattle.gtfs_rows.specs.RowsInMemory.{IsSoundParts, content_of_parts, stop_ids, stop_row_of, text_of_number, trips_of}
use Rattle.gtfs_writing.specs.LongestTexts.{longest}
use Rattle.gtfs_rows.specs.FileTexts.{is_longer, written_text}
use Rattle.gtfs_writing.proofs.CellBounds.{cell_most, row-bound, rows-bound}
use Rattle.gtfs_rows.proofs.FileTexts.{text-of-cells}

-- ---- the longest text

abbrev longer_of : {X : Type 0} → (X → List ℕ) → ℕ → X → ℕ
longer_of of most x = max most (length (of x))

abbrev at_most : {X : Type 0} → (X → List ℕ) → ℕ → List X → Bool
at_most of k xs = list_all (λ x. nat_le (length (of x)) k) xs

fold-least : {X : Type 0} (of : X → List ℕ) (m : ℕ) (xs : List X) → m ≤ fold (longer_of of) m xs
fold-least of m [] = omega arith
fold-least of m (x ∷ xs) = omega (arith, fold-least of (longer_of of m x) xs, le-max_left m (length (of x)))

fold-within : {X : Type 0} (of : X → List ℕ) (m k : ℕ) (xs : List X) → fold (longer_of of) m xs ≤ k → at_most of k xs ≡ true
fold-within of m k [] within = refl
fold-within of m k (x ∷ xs) within =
    let own : length (of x) ≤ k = omega (arith, within, fold-least of (longer_of of m x) xs, le-max_right m (length (of x))) in
    and_from (nat_le (length (of x)) k) (at_most of k xs) (le-leb (length (of x)) k own) (fold-within of (longer_of of m x) k xs within)

no-longer : {X : Type 0} (of : X → List ℕ) (xs : List X) → at_most of (longest of xs) xs ≡ true
no-longer of xs = fold-within of 0 (longest of xs) xs (omega arith)

-- the text of a number in such a list
numbered : {X : Type 0} (of : X → List ℕ) (k : ℕ) (xs : List X) (n : ℕ) → at_most of k xs ≡ true → length (text_of_number (map of xs) n) ≤ k
numbered of k [] n all = omega arith
numbered of k (x ∷ xs) zero all = leb-true (length (of x)) k ((and_parts (nat_le (length (of x)) k) (at_most of k xs) all).0)
numbered of k (x ∷ xs) (suc n) all = numbered of k xs n ((and_parts (nat_le (length (of x)) k) (at_most of k xs) all).1)

stop-text : (p : Parts) (n : ℕ) → length (text_of_number (stop_ids p) n) ≤ longest (λ s. s.stop_id) p.stops
stop-text p n = numbered (λ s. s.stop_id) (longest (λ s. s.stop_id) p.stops) p.stops n (no-longer (λ s. s.stop_id) p.stops)

abbrev text_length : Option (List ℕ) → ℕ
text_length None = 0
text_length (Some t) = length t

headsign-text : (p : Parts) (o : Option ℕ) → text_length (option_map (text_of_number p.headsigns) o) ≤ longest (λ t. t) p.headsigns
headsign-text p None = omega arith
headsign-text p (Some n) =
    let within = numbered (λ t. t) (longest (λ t. t) p.headsigns) p.headsigns n (no-longer (λ t. t) p.headsigns) in
    omega (arith, within, ap (λ ts. length (text_of_number ts n)) (map-id p.headsigns))

-- ---- one row

-- how long the texts of a row are together
abbrev texts_length : List ℕ × StopRow → ℕ
texts_length y = length y.0 + length y.1.stop_id + text_length y.1.stop_headsign

abbrev have_texts : ℕ → List (List ℕ × StopRow) → Bool
have_texts n ys = list_all (λ y. nat_le (texts_length y) n) ys

time-most : (o : Option ℕ) → cell_most time (option_map value_of_number o) ≤ 9
time-most None = omega arith
time-most (Some v) = omega arith

choice-most : (o : Option ℕ) → cell_most (up_to 1) (option_map value_of_number o) ≤ 1
choice-most None = omega arith
choice-most (Some v) = omega arith

headsign-most : (o : Option (List ℕ)) → cell_most text (option_map word o) ≤ 2 * text_length o + 2
headsign-most None = omega arith
headsign-most (Some t) = omega arith

row-most : (n : ℕ) (y : List ℕ × StopRow) → are_cells (columns_of file.StopTimes) (stop_time_cells y) ≡ true → texts_length y ≤ n
    → length (row_text default_writer (record_text (columns_of file.StopTimes) (stop_time_cells y))) ≤ 2 * n + 46
row-most n y inside short =
    omega (arith, short, row-bound (columns_of file.StopTimes) (stop_time_cells y) (omega arith) refl inside, time-most y.1.arrival_time, time-most y.1.departure_time, headsign-most y.1.stop_headsign, choice-most y.1.timepoint)

-- ---- all rows

abbrev held_rows : List TripWithRows → List (List ℕ × StopRow)
held_rows ts = held_by (λ t. t.trip_id) (λ t. t.stop_rows) ts

-- where the next stretch begins
next-rises : (e : ℕ) (starts : List ℕ) (size : ℕ) → Rising e starts size → Rising (get_or starts 0 size) starts size × (e ≤ get_or starts 0 size)
unfolding Rising
next-rises e [] size up = (omega arith, up)
next-rises e (g ∷ starts) size up = ((omega arith, up.1), up.0)

module _ (p : Parts) where
  abbrev pub most : ℕ
  most = longest (λ t. t.trip_id) p.trips + longest (λ s. s.stop_id) p.stops + longest (λ t. t) p.headsigns

  rows-short : (id : List ℕ) (rs : List StopTime) → length id ≤ longest (λ t. t.trip_id) p.trips → have_texts most (map (λ y. (id, y)) (map (stop_row_of p) rs)) ≡ true
  rows-short id [] short = refl
  rows-short id (r ∷ rs) short =
      let y : List ℕ × StopRow = (id, stop_row_of p r) in
      let own : texts_length y ≤ most = omega (arith, short, stop-text p r.stop_id.0, headsign-text p r.stop_headsign) in
      and_from (nat_le (texts_length y) most) (have_texts most (map (λ y. (id, y)) (map (stop_row_of p) rs))) (le-leb (texts_length y) most own) (rows-short id rs short)

  trips-short : (ts : List Trip) (rs : List (List StopTime)) (fs : List (List Frequency)) → at_most (λ t. t.trip_id) (longest (λ t. t.trip_id) p.trips) ts ≡ true
      → have_texts most (held_rows (trips_of p ts rs fs)) ≡ true
  trips-short [] rs fs all = refl
  trips-short (t ∷ ts) [] fs all = refl
  trips-short (t ∷ ts) (r ∷ rs) [] all = refl
  trips-short (t ∷ ts) (r ∷ rs) (f ∷ fs) all =
      let longest_id = longest (λ t. t.trip_id) p.trips in
      let both = and_parts (nat_le (length t.trip_id) longest_id) (at_most (λ t. t.trip_id) longest_id ts) all in
      list_all-append (λ y. nat_le (texts_length y) most) (map (λ y. (t.trip_id, y)) (map (stop_row_of p) r)) (held_rows (trips_of p ts rs fs))
      ∙ and_from _ _ (rows-short t.trip_id r (leb-true (length t.trip_id) longest_id both.0)) (trips-short ts rs fs both.1)

  all-short : have_texts most (stop_times_of (content_of_parts p)) ≡ true
  all-short = trips-short p.trips (parts p.stop_times.starts p.stop_times.rows) (parts p.frequency_starts p.frequencies) (no-longer (λ t. t.trip_id) p.trips)

  held-length : (id : List ℕ) (rs : List StopTime) → length {A = List ℕ × StopRow} (map (λ y. (id, y)) (map (stop_row_of p) rs)) ≡ length rs
  held-length id [] = refl
  held-length id (r ∷ rs) = ap suc (held-length id rs)

  -- the stretches of trips are no longer than the list that is cut
  count-from : (ts : List Trip) (starts : List ℕ) (xs : List StopTime) (fs : List (List Frequency)) (s : ℕ) → Rising s starts (length xs)
      → length (held_rows (trips_of p ts (parts starts xs) fs)) + s ≤ length xs
  unfolding parts Rising
  count-from [] starts xs fs s up = omega (arith, rising-first s starts (length xs) up)
  count-from (t ∷ ts) [] xs fs s up = omega (arith, up)
  count-from (t ∷ ts) (e ∷ starts) xs [] s up = omega (arith, rising-first s (e ∷ starts) (length xs) up)
  count-from (t ∷ ts) (e ∷ starts) xs (f ∷ fs) s up =
      let next = get_or starts 0 (length xs) in
      let rises = next-rises e starts (length xs) up.1 in
      let rest = count-from ts starts xs fs next rises.0 in
      let own = take (next - e) (drop e xs) in
      omega (
        arith,
        up.0,
        rises.1,
        rest,
        length-append (map (λ y. (t.trip_id, y)) (map (stop_row_of p) own)) (held_rows (trips_of p ts (parts starts xs) fs)),
        held-length t.trip_id own,
        length-take (next - e) (drop e xs),
      )

-- ---- the file

both-pass : {X Y : Type 0} (f : X → Y) (p : Y → Bool) (q : X → Bool) (xs : List X) → list_all p (map f xs) ≡ true → list_all q xs ≡ true → list_all (λ x. p (f x) && q x) xs ≡ true
both-pass f p q [] first second = refl
both-pass f p q (x ∷ xs) first second =
    let a = and_parts (p (f x)) (list_all p (map f xs)) first in
    let b = and_parts (q x) (list_all q xs) second in
    and_from (p (f x) && q x) (list_all (λ x. p (f x) && q x) xs) (and_from (p (f x)) (q x) a.0 b.0) (both-pass f p q xs a.1 b.1)

header-length : length (row_text default_writer (map (λ c. c.name) (columns_of file.StopTimes))) ≡ 108
unfolding fields_text is_blank
header-length = refl

text-most : (p : Parts) → IsSoundParts p → length (written_text (content_of_parts p) file.StopTimes) ≤ 108 + length p.stop_times.rows * (2 * most p + 46)
unfolding text_of_records
text-most p sound =
    let columns = columns_of file.StopTimes in
    let ys = stop_times_of (content_of_parts p) in
    let passes : List ℕ × StopRow → Bool = λ y. are_cells columns (stop_time_cells y) && nat_le (texts_length y) (most p) in
    let all : list_all passes ys ≡ true = both-pass stop_time_cells (are_cells columns) (λ y. nat_le (texts_length y) (most p)) ys (sound.content.cells file.StopTimes) (all-short p) in
    let each : (y : List ℕ × StopRow) → passes y ≡ true → length (row_text default_writer (record_text columns (stop_time_cells y))) ≤ 2 * most p + 46 = λ y h.
    let both = and_parts (are_cells columns (stop_time_cells y)) (nat_le (texts_length y) (most p)) h in
    row-most (most p) y both.0 (leb-true (texts_length y) (most p) both.1) in
    let rows = rows-bound columns stop_time_cells passes (2 * most p + 46) each ys all in
    let count : length ys ≤ length p.stop_times.rows = omega (arith, count-from p p.trips p.stop_times.starts p.stop_times.rows (parts p.frequency_starts p.frequencies) 0 sound.stop_rows.1) in
    let total = mul-le-mul_right (2 * most p + 46) count in
    let header = row_text default_writer (map (λ c. c.name) columns) in
    let records = text_of_records (map (record_text columns) (map stop_time_cells ys)) in
    omega (arith, rows, total, header-length, length-append header records, ap length (text-of-cells (content_of_parts p) file.StopTimes))

-- where there is room for as many rows as there are, each as long as it can be, the file is not longer
pub not-longer : (p : Parts) (limit room rows texts : ℕ) → IsSoundParts p → limit ≡ 108 + room → rows ≡ length p.stop_times.rows → texts ≡ most p
    → nat_le rows (room / (2 * texts + 46)) ≡ true → is_longer (content_of_parts p) limit file.StopTimes ≡ false
not-longer p limit room rows texts sound split rows_is texts_is fits =
    let row = 2 * texts + 46 in
    let total = mul-le-mul_right row (leb-true rows (room / row) fits) in
    let same : rows * row ≡ length p.stop_times.rows * (2 * most p + 46) = rw (rows_is, texts_is) refl in
    le-ltb limit (length (written_text (content_of_parts p) file.StopTimes)) (omega (arith, split, total, same, text-most p sound, div-mul-le_self room row))
