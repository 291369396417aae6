-- The lists of stop times while they are made: none, one more, and all.
use Rattle.std.proofs.Common.{◌≡◌, ◌<◌, ◌≤◌, ◌+◌, ◌-◌, ◌++◌, ◌∷◌, ◌∙◌, [], ℕ, suc, List, length, map, take, get_or, true, false, Option, Some, refl, sym, ap, subst, arith, inl, inr}
use Rattle.std.specs.Prelude.{◌&&◌, ◌||◌, drop, filter_map, flat_map, nat_eq, replicate, slice_get}
use Rattle.std.specs.List.{All, IsDistinct, list_all, list_any}
use Rattle.std.proofs.lemmas.Bool.Decides.{nat_tests}
use Rattle.gtfs_table.specs.Rows.{rows as rows_of}
use Rattle.std.specs.Ordering.{nat_cmp}
use Rattle.std.proofs.lemmas.Bool.{and_from as and_both, cases_eq, cases_lt, or_left, or_right}
use Rattle.std.proofs.lemmas.Map.Keys.{IsDistinct-IsPermutation, IsDistinct-from_apart, Less-from_sorted}
use Rattle.std.proofs.lemmas.List.{get_or-drop, get_or-take, get_or_default, length-append, length-map, length-replicate, length-take-le, length_push, map_push, take_all, take_more}
use Rattle.std.proofs.lemmas.Option.{get_or_from_slice_get}
use Rattle.std.proofs.lemmas.List.Elements.{All-append, All-cons, All-head, All-nil}
use Rattle.std.proofs.lemmas.List.Folds.{list_all-append}
use Rattle.std.proofs.lemmas.List.Folds.{flat_map-map, list_any-append}
use Rattle.csv.specs.Records.{Rising}
use Rattle.csv.proofs.RecordFacts.{rising-more}
use Rattle.gtfs_field.proofs.NumberFacts.{number_itself}
use Rattle.gtfs_field.proofs.OrderingFacts.{first_at_most as lower-trip}
use Rattle.gtfs_table.specs.FieldOffsets.{parts}
use Rattle.gtfs_table.specs.Tables.{Dataset}
use Rattle.gtfs_table.specs.declared.file.File.TheVariants as file
use Rattle.gtfs_schema.specs.Problems.{Passes}
use Rattle.gtfs_schema.specs.RowConditions.{word_in}
use Rattle.gtfs_stop_times.specs.declared.stop_time.StopTime.{StopTime}
use Rattle.gtfs_rules.specs.StopTimes.{AreStopTimes, SaysStopTime, stop_time_cmp}
use Rattle.gtfs_rows.specs.ContentRead.{content_of, stop_row_in}
use Rattle.gtfs_rows.specs.Rows.{StopRow as StopRowOf}
use Rattle.gtfs_stop_times.specs.declared.stop_row.StopRow.{StopRow}
use Rattle.gtfs_reading.specs.FirstNamed.{each_once}
use Rattle.gtfs_reading.specs.GatheredStopTimes.{AreGathered, IsEmptyFor, by_trip, starts_of_all}
use Rattle.gtfs_reading.specs.StopTimeDraft.{lists_with}
use Rattle.gtfs_stop_times.specs.HeadsignedRows.{with_headsign_at}
use Rattle.gtfs_rows.specs.Headsigns.{AddsOnly, AreDistinct, KeepsHeadsigns, NamesHeadsign}
use Rattle.gtfs_reading.specs.HeadsignIndex.{with_headsign}
use Rattle.gtfs_reading.specs.StopTimeLists.{AreStopTimesOf, content_stop_ids, has_headsign, is_number}
use Rattle.gtfs_rows.specs.NamedRows.{has_numbers_below, stop_row_named}
use Rattle.gtfs_reading.specs.declared.gathered.Gathered.{Gathered}
use Rattle.gtfs_reading.specs.declared.stop_times.StopTimes.{StopTimes}
use Rattle.gtfs_stop_times.proofs.Turns.{parts-joined, parts-map}
use Rattle.gtfs_reading.proofs.EachOnce.{headsigns-more}
use Rattle.gtfs_reading.proofs.RowKeys.{rows_up}
use Rattle.gtfs_reading.proofs.RowSays.{numbers_kept, row_below, row_says, rows_kept}
use Rattle.gtfs_reading.proofs.Starts.{first-filled, rising-filled, stretches-filled, stretches-more}
use Rattle.gtfs_reading.proofs.TripRows.{rows_by_trip, trip_below}

-- ---- none

none-rise : (starts : List ℕ) (size : ℕ) → starts ≡ [] → Rising 0 starts size
unfolding Rising
none-rise starts size none = subst (λ ks. Rising 0 ks size) (sym none) (omega arith)

none-by_trip : (starts : List ℕ) (ss : List StopTime) → starts ≡ [] → parts starts ss ≡ by_trip (length starts) ss
unfolding parts by_trip
none-by_trip starts ss none = ap (λ ks. parts ks ss) none ∙ ap (λ ks. by_trip (length ks) ss) (sym none)

none-once : [] ≡ each_once []
unfolding each_once
none-once = refl

pub gathered-none : (d : Dataset) (g : Gathered) → IsEmptyFor (length (content_of d).trips) g → AreGathered d [] g
gathered-none d g empty = record {
  trips = empty.trips;
  below = All-nil (λ s. s.trip < length g.starts.items);
  least = λ n all. let many = ap length empty.starts in omega (arith, many);
  rising = none-rise g.starts.items 0 empty.starts;
  from_first = ap (λ ks. get_or ks 0 0) empty.starts;
  stretches = none-by_trip g.starts.items [] empty.starts;
  named = ap (map (stop_row_named (content_stop_ids d) g.headsigns.texts)) empty.rows;
  numbers = ap (list_all (has_numbers_below (length (content_of d).stops) (length g.headsigns.texts))) empty.rows;
  used = λ k h. let many = ap length empty.headsigns in absurd (omega (arith, h, many));
  first_named = empty.headsigns ∙ none-once;
}

-- ---- starts up to a number of trips

module _ (starts filled : List ℕ) (n size : ℕ) (low : length starts ≤ n) (are : filled ≡ take n starts ++ replicate (n - length starts) size) where
  pub filled-is : filled ≡ starts ++ replicate (n - length starts) size
  filled-is = are ∙ ap (λ ks. ks ++ replicate (n - length starts) size) (take_all n starts low)

  pub count-filled : length filled ≡ n
  count-filled =
      let more = ap length filled-is ∙ length-append starts (replicate (n - length starts) size) in
      omega (arith, more, length-replicate (n - length starts) size)

  pub filled-rising : Rising 0 starts size → Rising 0 filled size
  filled-rising up = subst (λ ks. Rising 0 ks size) (sym filled-is) (rising-filled (n - length starts) starts size up)

  pub filled-first : get_or starts 0 size ≡ 0 → get_or filled 0 size ≡ 0
  filled-first first = ap (λ ks. get_or ks 0 size) filled-is ∙ first-filled (n - length starts) starts size first

pub count-rows : (d : Dataset) (ss : List StopTime) (ts : List (List ℕ)) (rs : List StopRow)
    → map (stop_row_named (content_stop_ids d) ts) rs ≡ map (λ s. stop_row_in d s.row) ss → length rs ≡ length ss
count-rows d ss ts rs named = sym (length-map rs (stop_row_named (content_stop_ids d) ts)) ∙ ap length named ∙ length-map ss (λ s. stop_row_in d s.row)

-- ---- one more

-- what a turn of the loop does
pub record IsOneMore (d : Dataset) (s : StopTime) (g new : Gathered) : Type 0 where
  pub headsign : Option ℕ
  pub trips : new.trips ≡ g.trips
  pub kept : KeepsHeadsigns g.headsigns.texts new.headsigns.texts
  pub added : AddsOnly g.headsigns.texts new.headsigns.texts headsign
  pub texts : new.headsigns.texts ≡ with_headsign g.headsigns.texts (word_in d file.StopTimes s.row "stop_headsign")
  pub names : NamesHeadsign new.headsigns.texts headsign (word_in d file.StopTimes s.row "stop_headsign")
  pub starts : new.starts.items ≡ take (s.trip + 1) g.starts.items ++ replicate (s.trip + 1 - length g.starts.items) (length g.stop_times.rows)
  pub rows : new.stop_times.rows ≡ g.stop_times.rows ++ with_headsign_at s headsign ∷ []

module _ (d : Dataset) (passes : Passes d) (ss : List StopTime) (s : StopTime) (g new : Gathered)
    (so_far : AreGathered d ss g) (said : SaysStopTime d s) (after : All (λ r. r.trip ≤ s.trip) ss) (more : IsOneMore d s g new) where
  abbrev earlier : List StopRow
  earlier = g.stop_times.rows

  size : length earlier ≡ length ss
  size = count-rows d ss g.headsigns.texts earlier so_far.named

  starts : new.starts.items ≡ take (s.trip + 1) g.starts.items ++ replicate (s.trip + 1 - length g.starts.items) (length ss)
  starts = more.starts ∙ ap (λ n. take (s.trip + 1) g.starts.items ++ replicate (s.trip + 1 - length g.starts.items) n) size

  low : length g.starts.items ≤ s.trip + 1
  low = so_far.least (s.trip + 1) (λ k e h. let lower = after k e h in omega (arith, lower))

  count : length new.starts.items ≡ s.trip + 1
  count = count-filled g.starts.items new.starts.items (s.trip + 1) (length ss) low starts

  grown : length (ss ++ s ∷ []) ≡ length ss + 1
  grown = length_push ss s

  filled : new.starts.items ≡ g.starts.items ++ replicate (s.trip + 1 - length g.starts.items) (length ss)
  filled = filled-is g.starts.items new.starts.items (s.trip + 1) (length ss) low starts

  stretches : parts new.starts.items (ss ++ s ∷ []) ≡ by_trip (length new.starts.items) (ss ++ s ∷ [])
  stretches =
      let m = s.trip + 1 - length g.starts.items in
      let last : length g.starts.items + m ≡ s.trip + 1 = omega (arith, low) in
      ap (λ ks. parts ks (ss ++ s ∷ [])) filled
      ∙ stretches-more ss g.starts.items m so_far.rising so_far.below so_far.stretches s last
      ∙ ap (λ n. by_trip n (ss ++ s ∷ [])) (sym count)

  used-either : (k : ℕ) → k < length new.headsigns.texts → (list_any (has_headsign k) earlier || (has_headsign k (with_headsign_at s more.headsign) || false)) ≡ true
  used-either k h = elim (cases_lt k (length g.headsigns.texts)) [
    | inl known ↦ or_left (list_any (has_headsign k) earlier) (has_headsign k (with_headsign_at s more.headsign) || false) (so_far.used k known)
    | inr beyond ↦ or_right (list_any (has_headsign k) earlier) (has_headsign k (with_headsign_at s more.headsign) || false)
        (or_left (has_headsign k (with_headsign_at s more.headsign)) false (ap (is_number k) (more.added k beyond h) ∙ number_itself k))
  ]

  pub gathered-more : AreGathered d (ss ++ s ∷ []) new
  gathered-more = record {
    trips = more.trips ∙ so_far.trips;
    below = All-append (λ r. r.trip < length new.starts.items) ss (s ∷ [])
        (λ k e h. let lower = after k e h in omega (arith, lower, count))
        (All-cons (λ r. r.trip < length new.starts.items) s [] (omega (arith, count)) (All-nil (λ r. r.trip < length new.starts.items)));
    least = λ n all. let last : s.trip < n = at-end ss s n all in omega (arith, last, count);
    rising = rising-more 0 new.starts.items (length ss) (length (ss ++ s ∷ []))
        (filled-rising g.starts.items new.starts.items (s.trip + 1) (length ss) low starts so_far.rising) (omega (arith, grown));
    from_first = get_or_default new.starts.items 0 (length (ss ++ s ∷ [])) (length ss) (omega (arith, count))
        ∙ filled-first g.starts.items new.starts.items (s.trip + 1) (length ss) low starts so_far.from_first;
    stretches = stretches;
    named = ap (map (stop_row_named (content_stop_ids d) new.headsigns.texts)) more.rows
        ∙ map_push (stop_row_named (content_stop_ids d) new.headsigns.texts) earlier (with_headsign_at s more.headsign)
        ∙ ap (λ rs. rs ++ stop_row_named (content_stop_ids d) new.headsigns.texts (with_headsign_at s more.headsign) ∷ [])
        (sym (rows_kept (content_stop_ids d) (length (content_of d).stops) g.headsigns.texts new.headsigns.texts more.kept earlier so_far.numbers) ∙ so_far.named)
        ∙ ap (λ r. map (λ s. stop_row_in d s.row) ss ++ r ∷ []) (row_says d passes s said new.headsigns.texts more.headsign more.names)
        ∙ sym (map_push (λ s. stop_row_in d s.row) ss s);
    numbers = ap (list_all (has_numbers_below (length (content_of d).stops) (length new.headsigns.texts))) more.rows
        ∙ list_all-append (has_numbers_below (length (content_of d).stops) (length new.headsigns.texts)) earlier ((with_headsign_at s more.headsign) ∷ [])
        ∙ and_both (list_all (has_numbers_below (length (content_of d).stops) (length new.headsigns.texts)) earlier)
        (has_numbers_below (length (content_of d).stops) (length new.headsigns.texts) (with_headsign_at s more.headsign) && true)
        (numbers_kept (content_stop_ids d) (length (content_of d).stops) g.headsigns.texts new.headsigns.texts more.kept earlier so_far.numbers)
        (and_both (has_numbers_below (length (content_of d).stops) (length new.headsigns.texts) (with_headsign_at s more.headsign)) true
        (row_below d passes s said new.headsigns.texts more.headsign more.names) refl);
    used = λ k h. ap (list_any (has_headsign k)) more.rows ∙ list_any-append (has_headsign k) earlier ((with_headsign_at s more.headsign) ∷ []) ∙ used-either k h;
    first_named = more.texts ∙ ap (λ ts. with_headsign ts (word_in d file.StopTimes s.row "stop_headsign")) so_far.first_named
        ∙ sym (headsigns-more (λ r. r.stop_headsign) (map (λ s. stop_row_in d s.row) ss) (stop_row_in d s.row))
        ∙ ap (λ rs. each_once (filter_map (λ r. r.stop_headsign) rs)) (sym (map_push (λ s. stop_row_in d s.row) ss s));
  }
    where
      at-end : (ss : List StopTime) (s : StopTime) (n : ℕ) → All (λ r. r.trip < n) (ss ++ s ∷ []) → s.trip < n
      at-end [] s n all = All-head (λ r. r.trip < n) s [] all
      at-end (r ∷ ss) s n all = at-end ss s n (λ k e h. all (suc k) e (omega (arith, h)))

-- ---- the next one

-- the first one that is left
pub stop-time-left : (ss : List StopTime) (at : ℕ) (s : StopTime) → at < length ss → (left : List StopTime) → left ≡ drop at ss → slice_get left 0 ≡ Some s → get_or ss at s ≡ s
stop-time-left ss at s within left is here =
    sym (get_or-drop at ss 0 s ∙ ap (λ n. get_or ss n s) (omega arith)) ∙ ap (λ rs. get_or rs 0 s) (sym is) ∙ get_or_from_slice_get left 0 s s here

module _ (d : Dataset) (passes : Passes d) (all : List StopTime) (are : AreStopTimes d all) (i : ℕ) (e : StopTime) (within : i < length all) where
  before : All (λ r. r.trip ≤ (get_or all i e).trip) (take i all)
  before k f h =
      let low : k < i = omega (arith, h, length-take-le i all (omega arith)) in
      let less = Less-from_sorted stop_time_cmp all k i f are.ascending low within in
      let lower = lower-trip (get_or all k f).trip (get_or all i f).trip (nat_cmp (get_or all k f).stop_row.stop_sequence (get_or all i f).stop_row.stop_sequence) less in
      subst (λ r. r.trip ≤ (get_or all i e).trip) (sym (get_or-take i all k f low))
      (subst (λ s. (get_or all k f).trip ≤ s.trip) (get_or_default all i f e within) lower)

  pub gathered-next : (s : StopTime) → get_or all i e ≡ s → (g new : Gathered) → AreGathered d (take i all) g → IsOneMore d s g new → AreGathered d (take (i + 1) all) new
  gathered-next s here g new so_far more =
      subst (λ ss. AreGathered d ss new) (sym (take_more all i e within))
      (gathered-more d passes (take i all) (get_or all i e) g new so_far (are.say i e within) before (subst (λ r. IsOneMore d r g new) (sym here) more))

-- ---- all

module _ (d : Dataset) (passes : Passes d) (ss : List StopTime) (are : AreStopTimes d ss) (g : Gathered) (so_far : AreGathered d ss g) (distinct : AreDistinct g.headsigns.texts) where
  abbrev found : List StopRow
  found = g.stop_times.rows

  abbrev all-starts : List ℕ
  all-starts = starts_of_all g

  abbrev all-lists : StopTimes
  all-lists = lists_with found all-starts g.headsigns.texts

  all-size : length found ≡ length ss
  all-size = count-rows d ss g.headsigns.texts found so_far.named

  all-filled : all-starts ≡ take g.trips g.starts.items ++ replicate (g.trips - length g.starts.items) (length ss)
  all-filled = ap (λ n. take g.trips g.starts.items ++ replicate (g.trips - length g.starts.items) n) all-size

  within : length g.starts.items ≤ g.trips
  within = so_far.least g.trips (λ k e h. let below = trip_below d ss are passes (get_or ss k e) (are.say k e h) in omega (arith, below, so_far.trips))

  all-count : length all-starts ≡ g.trips
  all-count = count-filled g.starts.items all-starts g.trips (length ss) within all-filled

  all-stretches : parts all-starts ss ≡ by_trip (length (content_of d).trips) ss
  all-stretches =
      let m = g.trips - length g.starts.items in
      let last : length g.starts.items + m ≡ length (content_of d).trips = omega (arith, within, so_far.trips) in
      ap (λ ks. parts ks ss) (filled-is g.starts.items all-starts g.trips (length ss) within all-filled)
      ∙ stretches-filled ss g.starts.items m so_far.rising so_far.below so_far.stretches
      ∙ ap (λ n. by_trip n ss) last

  abbrev row : StopTime → StopRowOf
  row s = stop_row_in d s.row

  all-rising : Rising 0 all-starts (length ss)
  all-rising = filled-rising g.starts.items all-starts g.trips (length ss) within all-filled so_far.rising

  all-first : get_or all-starts 0 (length ss) ≡ 0
  all-first = filled-first g.starts.items all-starts g.trips (length ss) within all-filled so_far.from_first

  -- the rows of the content's trips, one trip after the other
  all-rows : flat_map (λ t. t.stop_rows) (content_of d).trips ≡ map row ss
  all-rows =
      let size : length ss ≡ length (map row ss) = sym (length-map ss row) in
      sym (flat_map-map (λ rs. rs) (λ t. t.stop_rows) (content_of d).trips)
      ∙ ap (flat_map (λ rs. rs)) (sym (rows_by_trip d ss are passes) ∙ ap (map (map row)) (sym all-stretches) ∙ sym (parts-map row all-starts ss))
      ∙ parts-joined 0 all-starts (map row ss) (subst (Rising 0 all-starts) size all-rising)
      ∙ ap (λ n. drop n (map row ss)) (ap (get_or all-starts 0) (sym size) ∙ all-first)

  pub gathered-all : AreStopTimesOf d all-lists
  gathered-all = record {
    trips = all-count ∙ so_far.trips;
    rising = subst (Rising 0 all-starts) (sym all-size) all-rising;
    from_first = ap (get_or all-starts 0) all-size ∙ all-first;
    by_trip = sym (parts-map (stop_row_named (content_stop_ids d) g.headsigns.texts) all-starts found)
        ∙ ap (parts all-starts) so_far.named
        ∙ parts-map row all-starts ss
        ∙ ap (map (map row)) all-stretches
        ∙ rows_by_trip d ss are passes;
    numbers = so_far.numbers;
    first_named = so_far.first_named ∙ ap (λ rs. each_once (filter_map (λ r. r.stop_headsign) rs)) (sym all-rows);
    distinct = distinct;
    used = so_far.used;
  }

-- each stop time is that of another row
pub each-row-once : (d : Dataset) (ss : List StopTime) → AreStopTimes d ss → IsDistinct nat_eq (map (λ s. s.row) ss)
each-row-once d ss are = IsDistinct-IsPermutation nat_eq nat_eq_flips (rows_of d file.StopTimes) (map (λ s. s.row) ss) are.each_row
    (IsDistinct-from_apart nat_eq (rows_of d file.StopTimes) (λ i j n low high. apart (get_or (rows_of d file.StopTimes) i n) _ (rows_up d file.StopTimes i j n low high)))
  where
    apart : (a b : ℕ) → a < b → nat_eq a b ≡ false
    apart a b low = grind (arith, nat_tests, low)

    nat_eq_flips : (a b : ℕ) → nat_eq a b ≡ nat_eq b a
    nat_eq_flips a b = elim (cases_eq a b) [
      | inl same ↦ (λ i. nat_eq (same i) (sym same i))
      | inr other ↦ grind (arith, nat_tests, other)
    ]
