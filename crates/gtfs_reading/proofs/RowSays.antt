-- The row that a stop time becomes stands for its row of stop_times.txt.
use Rattle.std.proofs.Common.{◌≡◌, ◌<◌, ◌∙◌, ◌∷◌, [], ℕ, List, length, map, get_or, true, codes, Option, Some, None, refl, sym, ap, arith}
use Rattle.std.specs.Prelude.{nat_lt, option_map, ℤ, pos, unsigned_abs, unwrap_or}
use Rattle.std.specs.List.{list_all, slice_get}
use Rattle.std.proofs.lemmas.Bool.{and_from as and_both, and_parts, lt-ltb as below-true, ltb-true}
use Rattle.std.proofs.lemmas.List.{length-map}
use Rattle.std.proofs.lemmas.Option.{get_or_from_slice_get, slice_get-get_or, slice_get_within, unwrap_or-slice_get}
use Rattle.gtfs_table.specs.Tables.{Dataset}
use Rattle.gtfs_table.specs.declared.file.File.TheVariants as file
use Rattle.gtfs_schema.specs.IdNumbers.{ids_by_bytes}
use Rattle.gtfs_schema.specs.Problems.{Passes}
use Rattle.gtfs_schema.specs.RowConditions.{amount_in, text_in, word_in}
use Rattle.gtfs_stop_times.specs.StopTimeChoices.{timepoint_code}
use Rattle.gtfs_stop_times.specs.declared.stop_time.StopTime.{StopTime}
use Rattle.gtfs_rules.specs.StopTimes.{SaysStopTime}
use Rattle.gtfs_rules.proofs.PassedRows.{stop_is}
use Rattle.gtfs_rows.specs.ContentRead.{content_of, stop_row_in}
use Rattle.gtfs_rows.specs.RowsInMemory.{is_number_within, text_of_number}
use Rattle.gtfs_stop_times.specs.declared.stop_row.StopRow.{StopRow}
use Rattle.gtfs_rows.specs.Headsigns.{KeepsHeadsigns, NamesHeadsign}
use Rattle.gtfs_reading.specs.StopTimeLists.{content_stop_ids}
use Rattle.gtfs_rows.specs.NamedRows.{has_numbers_below, stop_row_named}
use Rattle.gtfs_stop_times.specs.HeadsignedRows.{with_headsign_at}
use Rattle.gtfs_reading.proofs.ContentIds.{stop_ids_are}

number_back : (o : Option ℕ) (a : Option ℤ) → option_map pos o ≡ a → o ≡ option_map unsigned_abs a
number_back None a e = ap (option_map unsigned_abs) e
number_back (Some n) a e = ap (option_map unsigned_abs) e

-- ---- headsigns by number

headsign-is : (ts : List (List ℕ)) (h : Option ℕ) (w : Option (List ℕ)) → NamesHeadsign ts h w → option_map (text_of_number ts) h ≡ w
headsign-is ts None w names = sym names
headsign-is ts (Some k) None names = absurd names
headsign-is ts (Some k) (Some t) names = ap Some (get_or_from_slice_get ts k t [] names)

headsign-within : (ts : List (List ℕ)) (h : Option ℕ) (w : Option (List ℕ)) → NamesHeadsign ts h w → is_number_within (length ts) h ≡ true
headsign-within ts None w names = refl
headsign-within ts (Some k) None names = absurd names
headsign-within ts (Some k) (Some t) names = below-true k (length ts) (slice_get_within ts k t names)

-- ---- a row

module _ (d : Dataset) (passes : Passes d) (s : StopTime) (says : SaysStopTime d s) where
  abbrev ids : List (List ℕ)
  ids = ids_by_bytes d file.Stops (codes "stop_id")

  stop-below : s.stop_row.stop_id.0 < length (content_of d).stops
  stop-below =
      let t = text_in d file.StopTimes s.row (codes "stop_id") in
      let named : word_in d file.StopTimes s.row "stop_id" ≡ Some t = stop_is d passes s.row says.row in
      let within = slice_get_within ids s.stop_row.stop_id.0 t (says.stop ∙ named) in
      let many : length ids ≡ length (content_of d).stops = ap length (sym (stop_ids_are d passes)) ∙ length-map (content_of d).stops (λ r. r.stop_id) in
      omega (arith, within, many)

  module _ (ts : List (List ℕ)) (h : Option ℕ) (names : NamesHeadsign ts h (word_in d file.StopTimes s.row "stop_headsign")) where
    pub row_says : stop_row_named (content_stop_ids d) ts (with_headsign_at s h) ≡ stop_row_in d s.row
    row_says = λ i. record {
      arrival_time = number_back s.stop_row.arrival_time (amount_in d file.StopTimes s.row "arrival_time") says.arrival_time i;
      departure_time = number_back s.stop_row.departure_time (amount_in d file.StopTimes s.row "departure_time") says.departure_time i;
      stop_id = (ap (λ ns. text_of_number ns s.stop_row.stop_id.0) (stop_ids_are d passes)
          ∙ sym (unwrap_or-slice_get ids s.stop_row.stop_id.0 []) ∙ ap (λ o. unwrap_or o []) says.stop) i;
      stop_sequence = ap (λ o. unsigned_abs (unwrap_or o (pos 0))) says.stop_sequence i;
      stop_headsign = headsign-is ts h (word_in d file.StopTimes s.row "stop_headsign") names i;
      pickup_type = ap (λ o. unsigned_abs (unwrap_or o (pos 0))) says.pickup_type i;
      drop_off_type = ap (λ o. unsigned_abs (unwrap_or o (pos 0))) says.drop_off_type i;
      timepoint = number_back (option_map timepoint_code s.stop_row.timepoint) (amount_in d file.StopTimes s.row "timepoint") says.timepoint i;
    }

    pub row_below : has_numbers_below (length (content_of d).stops) (length ts) (with_headsign_at s h) ≡ true
    row_below = and_both (nat_lt s.stop_row.stop_id.0 (length (content_of d).stops)) (is_number_within (length ts) h)
        (below-true s.stop_row.stop_id.0 (length (content_of d).stops) stop-below)
        (headsign-within ts h (word_in d file.StopTimes s.row "stop_headsign") names)

-- ---- rows under more headsigns

module _ (stop_ids : List (List ℕ)) (stops : ℕ) (old new : List (List ℕ)) (kept : KeepsHeadsigns old new) where
  same-text : (k : ℕ) → nat_lt k (length old) ≡ true → slice_get new k ≡ Some (get_or old k [])
  same-text k within = kept k (get_or old k []) (slice_get-get_or old k [] (ltb-true k (length old) within))

  kept-headsign : (h : Option ℕ) → is_number_within (length old) h ≡ true → option_map (text_of_number old) h ≡ option_map (text_of_number new) h
  kept-headsign None within = refl
  kept-headsign (Some k) within = ap Some (sym (get_or_from_slice_get new k (get_or old k []) [] (same-text k within)))

  kept-within : (h : Option ℕ) → is_number_within (length old) h ≡ true → is_number_within (length new) h ≡ true
  kept-within None within = refl
  kept-within (Some k) within = below-true k (length new) (slice_get_within new k (get_or old k []) (same-text k within))

  row-parts : (r : StopRow) → has_numbers_below stops (length old) r ≡ true → (nat_lt r.stop_id.0 stops ≡ true) × (is_number_within (length old) r.stop_headsign ≡ true)
  row-parts r below = and_parts (nat_lt r.stop_id.0 stops) (is_number_within (length old) r.stop_headsign) below

  kept-row : (r : StopRow) → has_numbers_below stops (length old) r ≡ true → stop_row_named stop_ids old r ≡ stop_row_named stop_ids new r
  kept-row r below = λ i. record (stop_row_named stop_ids old r) { stop_headsign = kept-headsign r.stop_headsign (row-parts r below).1 i }

  pub rows_kept : (rs : List StopRow) → list_all (has_numbers_below stops (length old)) rs ≡ true → map (stop_row_named stop_ids old) rs ≡ map (stop_row_named stop_ids new) rs
  rows_kept [] below = refl
  rows_kept (r ∷ rs) below =
      let both = and_parts (has_numbers_below stops (length old) r) (list_all (has_numbers_below stops (length old)) rs) below in
      λ i. kept-row r both.0 i ∷ rows_kept rs both.1 i

  pub numbers_kept : (rs : List StopRow) → list_all (has_numbers_below stops (length old)) rs ≡ true → list_all (has_numbers_below stops (length new)) rs ≡ true
  numbers_kept [] below = refl
  numbers_kept (r ∷ rs) below =
      let both = and_parts (has_numbers_below stops (length old) r) (list_all (has_numbers_below stops (length old)) rs) below in
      let row = row-parts r both.0 in
      and_both (has_numbers_below stops (length new) r) (list_all (has_numbers_below stops (length new)) rs)
      (and_both (nat_lt r.stop_id.0 stops) (is_number_within (length new) r.stop_headsign) row.0 (kept-within r.stop_headsign row.1)) (numbers_kept rs both.1)
