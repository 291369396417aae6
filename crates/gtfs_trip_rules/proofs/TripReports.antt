-- What is reported of the rows of trips, one after the other.
use Rattle.std.proofs.Common.{◌≡◌, Option, Some, None, option_map, ℕ, zero, suc, ◌+◌, ◌-◌, ◌<◌, ◌≤◌, true, false, Bool, cond, List, [], ◌∷◌, length, map, filter, get_or, take, reverse, refl, sym, ap, ◌∙◌, subst, inl, inr, arith}
use Rattle.std.specs.Prelude.{◌&&◌, ◌||◌, ◌==◌, codes, not, nat_lt, nat_le, pos, int_lt, ℤ, IsPermutation}
use Rattle.std.specs.List.{All, AllByRecursion, list_any, range_with_len}
use Rattle.std.specs.Option.{option_or}
use Rattle.std.proofs.lemmas.Bool.{and_from as and_both, cases_Bool, eqb-true as same_number, or_cases}
use Rattle.std.proofs.lemmas.Bool.Decides.{nat_tests}
use Rattle.std.proofs.Math.Bool.{and-false as and_none}
use Rattle.std.proofs.lemmas.List.{drop-map, drop_more, get_or-map, length-map, map_more, reverse-append, take-map, take_all}
use Rattle.std.proofs.lemmas.List.Elements.{All-from_recursion, All-get_or}
use Rattle.std.proofs.lemmas.List.Sorted.{All-permutation, IsPermutation-reverse, IsPermutation-trans, list_any-IsPermutation}
use Rattle.gtfs_field.proofs.NumberFacts.{number_itself}
use Rattle.gtfs_field.proofs.ListFacts.{any_mapped as any_map}
use Rattle.gtfs_table.specs.Tables.{Dataset, Records, record_at}
use Rattle.gtfs_table.specs.Blanks.{cut}
use Rattle.gtfs_table.specs.declared.file.File.TheVariants as file
use Rattle.gtfs_schema.specs.declared.code.Code.{Code}
use Rattle.gtfs_schema.specs.declared.code.Code.TheVariants as code
use Rattle.gtfs_stop_times.specs.declared.stop_time.StopTime.{StopTime}
use Rattle.gtfs_schema.specs.steps.FoundProblems.{Adds, Reports, is_same}
use Rattle.gtfs_schema.specs.steps.KeptColumns.{at_column}
use Rattle.gtfs_schema.specs.Problems.{Problem, holds_in, lists_problem, is_problem}
use Rattle.gtfs_table.specs.Rows.{is_row, records_in, rows, is_empty}
use Rattle.gtfs_trip_rules.specs.StopTimePicks.{breaks_order}
use Rattle.gtfs_trip_rules.specs.JudgedTrips.{AddsOfRow}
use Rattle.gtfs_trip_rules.specs.TripOrder.{ends, is_left_later, is_untimed_end, left_before, repeats, row_cmp, rows_before, rows_from, same_sequence, same_trip, InOrder}
use Rattle.gtfs_trip_rules.specs.TripStopTimes.{TripStopTime, has_trip_stop_time, trip_stop_time, trip_stop_time_in, trip_stop_times_in}
use Rattle.gtfs_schema.specs.FieldValues.{if_there}
use Rattle.gtfs_schema.proofs.BoolFacts.{and_parts, or_left, or_right, same_test}
use Rattle.gtfs_schema.proofs.SiteFacts.{at_column_is, problem_at}
use Rattle.gtfs_schema.proofs.RowFacts.{at_row}
use Rattle.gtfs_schema.proofs.RuleFacts.{row_reported}
use Rattle.gtfs_trip_rules.proofs.SplitLists.{IsAscending, IsSplit, ascends_from_sorted, onto, onto_index, split_of}
use Rattle.gtfs_schema.proofs.ReportingFacts.{reports_alike, reports_none, reports_then}
use Rattle.gtfs_trip_rules.proofs.TripPicks.{at_back, at_ends, at_key, same_picks}
use Rattle.gtfs_trip_rules.proofs.TripPositions.{earlier_row, earlier_twin, is_left_late, is_timed_in, last_left_late, later_row}
use Rattle.gtfs_trip_rules.proofs.TripRestated.{any_filter, back_restated, end_restated, ends_untimed, goes_back_among, key_restated, repeats_among}
use Rattle.gtfs_trip_rules.proofs.TripStopTimeOrder.{is_earlier_twin, is_lower, stands_first}

-- ---- the rows of a dataset

-- a row with an id and a sequence
pub record IsRowOf (d : Dataset) (e : TripStopTime) : Type 0 where
  pub row : is_row (records_in d file.StopTimes) e.row ≡ true
  pub has : has_trip_stop_time d e.row ≡ true
  pub same : trip_stop_time_in d e.row ≡ e

kept_rows : (d : Dataset) (ms : List ℕ) → AllByRecursion (IsRowOf d) (map (trip_stop_time_in d) (filter (has_trip_stop_time d) (filter (is_row (records_in d file.StopTimes)) ms)))
kept_rows d [] = tt
kept_rows d (m ∷ ms) = first (kept_rows d ms) (is_row (records_in d file.StopTimes) m) refl
  where
    rest : List ℕ
    rest = filter (is_row (records_in d file.StopTimes)) ms

    Kept : List ℕ → Type 0
    Kept ns = AllByRecursion (IsRowOf d) (map (trip_stop_time_in d) (filter (has_trip_stop_time d) ns))

    second : Kept rest → is_row (records_in d file.StopTimes) m ≡ true → (b : Bool) → has_trip_stop_time d m ≡ b → AllByRecursion (IsRowOf d) (map (trip_stop_time_in d) (cond b (m ∷ filter (has_trip_stop_time d) rest) (filter (has_trip_stop_time d) rest)))
    second more row true has = (record { row = row; has = has; same = refl }, more)
    second more row false has = more

    first : Kept rest → (b : Bool) → is_row (records_in d file.StopTimes) m ≡ b → Kept (cond b (m ∷ rest) rest)
    first more true row = second more row (has_trip_stop_time d m) refl
    first more false row = more

pub each_row : (d : Dataset) (xs : List TripStopTime) → IsPermutation (trip_stop_times_in d) xs → All (IsRowOf d) xs
each_row d xs swapped =
    All-permutation (IsRowOf d) (trip_stop_times_in d) xs swapped
    (All-from_recursion (IsRowOf d) (trip_stop_times_in d) (kept_rows d (range_with_len 2 (length (records_in d file.StopTimes) - 1))))

abbrev pub is_among : ℕ → List TripStopTime → Bool
is_among n xs = list_any (λ r. n == r.row) xs

range_any : (t : ℕ → Bool) (n a len : ℕ) → a ≤ n → n < a + len → t n ≡ true → list_any t (range_with_len a len) ≡ true
range_any t n a zero above below holds = absurd (omega arith)
range_any t n a (suc len) above below holds = elim (cases_Bool (n == a)) [
  | inl here ↦ or_left (t a) (list_any t (range_with_len (a + 1) len)) (ap t (sym (same_number n a here)) ∙ holds)
  | inr other ↦
      let past : a + 1 ≤ n = grind (arith, nat_tests, above, other) in
      or_right (t a) (list_any t (range_with_len (a + 1) len)) (range_any t n (a + 1) len past (omega arith) holds)
]

row_among : (d : Dataset) (n : ℕ) → is_row (records_in d file.StopTimes) n ≡ true → has_trip_stop_time d n ≡ true → is_among n (trip_stop_times_in d) ≡ true
row_among d n row has =
    any_map (λ r. n == r.row) (trip_stop_time_in d) (filter (has_trip_stop_time d) (rows d file.StopTimes))
    ∙ any_filter (λ m. n == m) (has_trip_stop_time d) (rows d file.StopTimes)
    ∙ any_filter (λ m. has_trip_stop_time d m && (n == m)) (is_row rs) (range_with_len 2 (length rs - 1))
    ∙ range_any (λ m. is_row rs m && (has_trip_stop_time d m && (n == m))) n 2 (length rs - 1) low high
    (and_both (is_row rs n) (has_trip_stop_time d n && (n == n)) row (and_both (has_trip_stop_time d n) (n == n) has (number_itself n)))
  where
    rs : Records
    rs = records_in d file.StopTimes

    bounds : (nat_lt 1 n && nat_le n (length rs)) ≡ true
    bounds = (and_parts (nat_lt 1 n && nat_le n (length rs)) (list_any (λ field. not (is_empty (cut field))) (record_at rs n)) row).0

    low : 2 ≤ n
    low = let first = (and_parts (nat_lt 1 n) (nat_le n (length rs)) bounds).0 in grind (arith, nat_tests, first)

    high : n < 2 + (length rs - 1)
    high = let second = (and_parts (nat_lt 1 n) (nat_le n (length rs)) bounds).1 in grind (arith, nat_tests, second)

-- ---- reporting

-- the problems that the order of rows can have, and those of some rows
abbrev pub of_order : Problem → Bool
of_order p = (at_column code.E09 file.StopTimes (codes "stop_sequence") p || at_column code.E15 file.StopTimes (codes "arrival_time") p)
    || at_column code.E17 file.StopTimes (codes "arrival_time") p

abbrev pub seen : List TripStopTime → Problem → Bool
seen xs p = of_order p && is_among p.row xs

nothing_new : (a h : Bool) → ((a && false) && h) ≡ false
nothing_new true h = refl
nothing_new false h = refl

pub seen_none : (d : Dataset) (ps : List Problem) → Reports d (seen []) ps ps
seen_none d ps = reports_alike d (λ p. false) (seen []) ps ps (λ p. sym (nothing_new (of_order p) (is_problem d p))) (reports_none d ps)

one_more : (a m l : Bool) → ((a && l) || (a && m)) ≡ (a && (m || l))
one_more true true true = refl
one_more true true false = refl
one_more true false true = refl
one_more true false false = refl
one_more false m l = refl

spread : (a b c m : Bool) → (((a && m) || (b && m)) || (c && m)) ≡ (((a || b) || c) && m)
spread true b c true = refl
spread false true c true = refl
spread false false c true = refl
spread a b c false = rw (and_none a, and_none b, and_none c, and_none ((a || b) || c)) refl

-- the rule of a code, of all rows and one of them
record ReportsRule (d : Dataset) (c : Code) (name : List ℕ) (rule : List TripStopTime → TripStopTime → Bool) : Type 0 where
  is : (n : ℕ) → holds_in c d file.StopTimes n name ≡ (is_row (records_in d file.StopTimes) n && (has_trip_stop_time d n && rule (trip_stop_times_in d) (trip_stop_time_in d n)))

module _ (d : Dataset) (c : Code) (name : List ℕ) (rule : List TripStopTime → TripStopTime → Bool) (r : ReportsRule d c name rule) where
  abbrev breaks : ℕ → Bool
  breaks n = has_trip_stop_time d n && rule (trip_stop_times_in d) (trip_stop_time_in d n)

  reported_here : (e : TripStopTime) (test : Bool) (mid new : List Problem) → IsRowOf d e → test ≡ rule (trip_stop_times_in d) e
      → Adds (λ p. is_same (problem_at c file.StopTimes name e.row) p && test) mid new → Reports d (at_row (at_column c file.StopTimes name) e.row) mid new
  reported_here e test mid new of asked adds =
      row_reported d c file.StopTimes name breaks r.is e.row mid new of.row
      (λ p. adds p ∙ ap (λ b. lists_problem mid p || (is_same (problem_at c file.StopTimes name e.row) p && b)) found)
    where
      found : test ≡ breaks e.row
      found = asked ∙ ap (rule (trip_stop_times_in d)) (sym of.same) ∙ sym (ap (λ b. b && rule (trip_stop_times_in d) (trip_stop_time_in d e.row)) of.has)

  inside : (p : Problem) → at_column c file.StopTimes name p ≡ true → is_problem d p ≡ true → is_among p.row (trip_stop_times_in d) ≡ true
  inside p picked holds =
      let there = sym (r.is p.row) ∙ sym (ap (is_problem d) (at_column_is c file.StopTimes name p picked)) ∙ holds in
      let row = and_parts (is_row (records_in d file.StopTimes) p.row) (breaks p.row) there in
      let has = and_parts (has_trip_stop_time d p.row) (rule (trip_stop_times_in d) (trip_stop_time_in d p.row)) row.1 in
      row_among d p.row row.0 has.0

-- ---- the three rules

repeats_reported : (d : Dataset) → ReportsRule d code.E09 (codes "stop_sequence") repeats_among
repeats_reported d = record { is = λ n. ap (λ b. is_row (records_in d file.StopTimes) n && b) (key_restated d n) }

ends_reported : (d : Dataset) → ReportsRule d code.E15 (codes "arrival_time") ends_untimed
ends_reported d = record { is = λ n. ap (λ b. is_row (records_in d file.StopTimes) n && b) (end_restated d n) }

back_reported : (d : Dataset) → ReportsRule d code.E17 (codes "arrival_time") goes_back_among
back_reported d = record { is = λ n. ap (λ b. is_row (records_in d file.StopTimes) n && b) (back_restated d n) }

pub seen_all : (d : Dataset) (xs : List TripStopTime) (old new : List Problem) → IsPermutation (trip_stop_times_in d) xs → Reports d (seen xs) old new → Reports d breaks_order old new
seen_all d xs old new swapped = reports_alike d (seen xs) breaks_order old new (λ p. same_test (seen xs p && is_problem d p) (of_order p && is_problem d p)
    (λ e. let parts = and_parts (seen xs p) (is_problem d p) e in and_both (of_order p) (is_problem d p) (and_parts (of_order p) (is_among p.row xs) parts.0).0 parts.1)
    (λ e. let parts = and_parts (of_order p) (is_problem d p) e in
    and_both (seen xs p) (is_problem d p) (and_both (of_order p) (is_among p.row xs) parts.0 (sym (list_any-IsPermutation (λ e. p.row == e.row) (trip_stop_times_in d) xs swapped) ∙ there p parts.0 parts.1)) parts.1)
    ∙ same_picks d p)
  where
    there : (p : Problem) → of_order p ≡ true → is_problem d p ≡ true → is_among p.row (trip_stop_times_in d) ≡ true
    there p picked holds = elim (or_cases (at_key d p || at_ends d p) (at_back d p) picked) [
      | inl first ↦ elim (or_cases (at_key d p) (at_ends d p) first) [
        | inl key ↦ inside d code.E09 (codes "stop_sequence") repeats_among (repeats_reported d) p key holds
        | inr ends ↦ inside d code.E15 (codes "arrival_time") ends_untimed (ends_reported d) p ends holds
      ]
      | inr back ↦ inside d code.E17 (codes "arrival_time") goes_back_among (back_reported d) p back holds
    ]

-- ---- the rules at a site of the rows in order

pub map_or : (a b : Option ℕ) → option_map pos (option_or a b) ≡ option_or (option_map pos a) (option_map pos b)
map_or None b = refl
map_or (Some x) b = refl

module _ (name : ℕ → List ℕ) (lent : List StopTime) (i : ℕ) (z : StopTime) (below : i < length lent) where
  rows_before_more : rows_before name lent (i + 1) ≡ trip_stop_time name (get_or lent i z) ∷ rows_before name lent i
  rows_before_more = ap reverse (map_more (trip_stop_time name) lent i z below) ∙ reverse-append (map (trip_stop_time name) (take i lent)) (trip_stop_time name (get_or lent i z) ∷ [])

  pub rows_from_here : rows_from name lent i ≡ trip_stop_time name (get_or lent i z) ∷ rows_from name lent (i + 1)
  rows_from_here = ap (map (trip_stop_time name)) (drop_more lent i z below)

module _ (d : Dataset) (name : ℕ → List ℕ) (lent : List StopTime) (o : InOrder d (map (trip_stop_time name) lent)) where
  module _ (i : ℕ) (z : StopTime) (below : i < length lent) where
    abbrev e : TripStopTime
    e = trip_stop_time name (get_or lent i z)

    split_rows : onto (rows_before name lent i) (e ∷ rows_from name lent (i + 1)) ≡ map (trip_stop_time name) lent
    split_rows =
        sym (λ j. onto (reverse (take-map (trip_stop_time name) i lent j)) (get_or-map (trip_stop_time name) lent i z (trip_stop_time name z) below j ∷ drop-map (trip_stop_time name) (i + 1) lent j))
        ∙ onto_index (map (trip_stop_time name) lent) i (trip_stop_time name z) (omega (arith, length-map lent (trip_stop_time name)))

    split : IsSplit (row_cmp o.number) (rows_before name lent i) e (rows_from name lent (i + 1))
    split = split_of (row_cmp o.number) (rows_before name lent i) e (rows_from name lent (i + 1)) (subst (IsAscending (row_cmp o.number)) (sym split_rows) (ascends_from_sorted (row_cmp o.number) (map (trip_stop_time name) lent) o.ascending))

    is_row_here : IsRowOf d e
    is_row_here = subst (IsRowOf d) (get_or-map (trip_stop_time name) lent i z (trip_stop_time name z) below) (All-get_or (IsRowOf d) (map (trip_stop_time name) lent) i (trip_stop_time name z) (omega (arith, length-map lent (trip_stop_time name))) (each_row d (map (trip_stop_time name) lent) o.moved))

    in_file_order : (t : TripStopTime → Bool) → list_any t (onto (rows_before name lent i) (e ∷ rows_from name lent (i + 1))) ≡ list_any t (trip_stop_times_in d)
    in_file_order t = ap (list_any t) split_rows ∙ sym (list_any-IsPermutation t (trip_stop_times_in d) (map (trip_stop_time name) lent) o.moved)

    repeats_here : repeats (rows_before name lent i) e ≡ repeats_among (trip_stop_times_in d) e
    repeats_here = sym (earlier_twin o.number (rows_before name lent i) e (rows_from name lent (i + 1)) split) ∙ in_file_order (λ m. nat_lt m.row e.row && same_sequence e m)

    neither : (a b : Bool) → (not a && b) ≡ not (a || not b)
    neither true b = refl
    neither false true = refl
    neither false false = refl

    ends_here : is_untimed_end (rows_before name lent i) e (ends (rows_from name lent i)) ≡ ends_untimed (trip_stop_times_in d) e
    ends_here =
        let first = sym (earlier_row o.number (rows_before name lent i) e (rows_from name lent (i + 1)) split) ∙ in_file_order (λ m. same_trip e m && stands_first m e) in
        let last = sym (later_row o.number (rows_before name lent i) e (rows_from name lent (i + 1)) split) ∙ in_file_order (λ m. same_trip e m && (is_lower e m || is_earlier_twin m e)) in
        ap (λ xs. is_untimed_end (rows_before name lent i) e (ends xs)) (rows_from_here name lent i z below)
        ∙ (λ j. e.is_untimed && (not (first j) || (neither (repeats (rows_before name lent i) e) (ends (e ∷ rows_from name lent (i + 1))) ∙ ap not last) j))

    back_here : is_left_later (left_before (rows_before name lent i) e) e.arrival ≡ goes_back_among (trip_stop_times_in d) e
    back_here = λ j. if_there e.arrival (λ arrives. late_here (int_lt arrives) j)
      where
        here : List TripStopTime
        here = onto (rows_before name lent i) (e ∷ rows_from name lent (i + 1))

        late_here : (late : ℤ → Bool) → if_there (left_before (rows_before name lent i) e) late ≡ list_any (is_left_late late (trip_stop_times_in d) e) (trip_stop_times_in d)
        late_here late =
            sym (last_left_late late o.number (rows_before name lent i) e (rows_from name lent (i + 1)) split)
            ∙ (λ j. list_any (λ m. is_timed_in e m && ((stands_first m e && not (in_file_order (λ k. is_timed_in e k && (stands_first m k && stands_first k e)) j)) && if_there m.departure late)) here)
            ∙ in_file_order (is_left_late late (trip_stop_times_in d) e)

  pub before_end : (i : ℕ) → length lent ≤ i → IsPermutation (trip_stop_times_in d) (rows_before name lent i)
  before_end i past =
      subst (λ (ls : List StopTime). IsPermutation (trip_stop_times_in d) (reverse (map (trip_stop_time name) ls))) (sym (take_all i lent past))
      (IsPermutation-trans (trip_stop_times_in d) (map (trip_stop_time name) lent) (reverse (map (trip_stop_time name) lent)) o.moved (IsPermutation-reverse (map (trip_stop_time name) lent)))

  -- at the next row
  pub seen_more : (i : ℕ) (z : StopTime) → i < length lent → (repeated untimed late : Bool) → repeated ≡ repeats (rows_before name lent i) (trip_stop_time name (get_or lent i z))
      → untimed ≡ is_untimed_end (rows_before name lent i) (trip_stop_time name (get_or lent i z)) (ends (rows_from name lent i))
      → late ≡ is_left_later (left_before (rows_before name lent i) (trip_stop_time name (get_or lent i z))) (trip_stop_time name (get_or lent i z)).arrival
      → (old mid new : List Problem) → Reports d (seen (rows_before name lent i)) old mid → AddsOfRow (get_or lent i z) repeated untimed late mid new → Reports d (seen (rows_before name lent (i + 1))) old new
  seen_more i z below repeated untimed late one two three old mid new before adds =
      let row = get_or lent i z in
      let x = trip_stop_time name row in
      let xs = rows_before name lent i in
      let of = is_row_here i z below in
      let here : Reports d (at_row of_order x.row) mid new =
      reports_alike d (λ p. (at_row (at_key d) x.row p || at_row (at_ends d) x.row p) || at_row (at_back d) x.row p) (at_row of_order x.row) mid new
      (λ p. ap (λ b. b && is_problem d p) (spread (at_key d p) (at_ends d p) (at_back d p) (p.row == x.row)))
      (reports_then d (λ p. at_row (at_key d) x.row p || at_row (at_ends d) x.row p) (at_row (at_back d) x.row) mid adds.second new
      (reports_then d (at_row (at_key d) x.row) (at_row (at_ends d) x.row) mid adds.first adds.second
      (reported_here d code.E09 (codes "stop_sequence") repeats_among (repeats_reported d) x repeated mid adds.first of (one ∙ repeats_here i z below) adds.repeated)
      (reported_here d code.E15 (codes "arrival_time") ends_untimed (ends_reported d) x untimed adds.first adds.second of
      (two ∙ ends_here i z below) adds.untimed))
      (reported_here d code.E17 (codes "arrival_time") goes_back_among (back_reported d) x late adds.second new of (three ∙ back_here i z below) adds.late)) in
      subst (λ (ys : List TripStopTime). Reports d (seen ys) old new) (sym (rows_before_more name lent i z below))
      (reports_alike d (λ p. seen xs p || at_row of_order x.row p) (seen (x ∷ xs)) old new
      (λ p. ap (λ b. b && is_problem d p) (one_more (of_order p) (p.row == x.row) (is_among p.row xs)))
      (reports_then d (seen xs) (at_row of_order x.row) old mid new before here))
