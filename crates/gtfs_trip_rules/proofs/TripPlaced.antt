-- Of the rows that name a trip those that have a sequence.
use Rattle.std.proofs.Common.{◌≡◌, ◌∙◌, ℕ, List, Bor, Err, IfOk, Ok, Result, ap, filter, map, subst, sym, true}
use Rattle.std.specs.BTreeMap.{BTreeMap}
use Rattle.std.specs.List.{All}
use Rattle.std.specs.List.Sorted.{IsPermutation, IsSorted}
use Rattle.std.specs.Option.{unwrap_or}
use Rattle.std.proofs.lemmas.List.Elements.{All-filter, filter_passes}
use Rattle.std.proofs.lemmas.List.Sorted.{All-permutation}
use Rattle.gtfs_table.specs.Tables.{Dataset}
use Rattle.gtfs_trip_rules.specs.KeptRows.{AllKeep, Keeps}
use Rattle.gtfs_trip_rules.specs.KeptOrder.{AreKeptOf}
use Rattle.gtfs_stop_times.specs.KeptTimes.{is_placed}
use Rattle.gtfs_trip_rules.specs.TripNotes.{note_of, rows_of_notes, trip_notes_in, Noted}
use Rattle.gtfs_trip_rules.specs.TripNumbers.{AllNumbered, AreNumbered, AreRowsNumbered, name_at, number_of_trip}
use Rattle.gtfs_stop_times.specs.StopTimeOrder.{kept_cmp}
use Rattle.gtfs_trip_rules.specs.TripStopTimes.{trip_stop_time}
use Rattle.gtfs_stop_times.specs.declared.stop_time.StopTime.{StopTime}
use Rattle.gtfs_trip_rules.proofs.TripNumberFacts.{kept_numbers}
use Rattle.gtfs_trip_rules.proofs.TripSorted.{numbered_in_order}
use Rattle.gtfs_trip_rules.proofs.TripStopTimeFacts.{rows_kept, sequenced_rows}

abbrev pub placed_of : List StopTime → List StopTime
placed_of = filter (λ r. is_placed r.times)

module _ (all rows : List StopTime) (are : rows ≡ placed_of all) where
  pub placed_numbered : (trips : List (List ℕ)) (numbers : BTreeMap (Bor (List ℕ)) ℕ) (names : List (Bor (List ℕ))) → AreNumbered trips numbers names all
      → AreRowsNumbered (rows_of_notes (map (note_of (name_at trips names)) all)) rows
  placed_numbered trips numbers names numbered = record {
    number = λ id. unwrap_or (number_of_trip trips numbers id) 0;
    name = name_at trips names;
    numbered = subst (AllNumbered (λ id. unwrap_or (number_of_trip trips numbers id) 0) (name_at trips names)) (sym are) (kept_numbers trips numbers names all (λ r. is_placed r.times) numbered);
    same = ap (map (trip_stop_time (name_at trips names))) are ∙ rows_kept (name_at trips names) all;
  }

  pub placed_each : All (λ r. is_placed r.times ≡ true) rows
  placed_each = subst (All (λ r. is_placed r.times ≡ true)) (sym are) (filter_passes (λ r. is_placed r.times) all)

  pub placed_keep : (d : Dataset) → AllKeep d all → AllKeep d rows
  placed_keep d each = subst (AllKeep d) (sym are) (All-filter (λ r. is_placed r.times) (Keeps d) all each)

module _ (all rows : List StopTime) (are : rows ≡ placed_of all) (trips : List (List ℕ)) (numbers : BTreeMap (Bor (List ℕ)) ℕ) (names : List (Bor (List ℕ))) (numbered : AreNumbered trips numbers names all) where
  in_order : (d : Dataset) (new : List StopTime) → map (note_of (name_at trips names)) all ≡ trip_notes_in d → AllKeep d all → IsPermutation rows new → IsSorted kept_cmp new → AreKeptOf d new
  in_order d new notes keep moved sorted =
      let by = placed_numbered all rows are trips numbers names numbered in
      record {
        order = numbered_in_order by.number by.name d rows new (by.same ∙ ap rows_of_notes notes ∙ sequenced_rows d) by.numbered moved sorted;
        placed = All-permutation (λ r. is_placed r.times ≡ true) rows new moved (placed_each all rows are);
        kept = All-permutation (Keeps d) rows new moved (placed_keep all rows are d keep);
      }

  -- the rows in their order, where memory lasts
  pub kept_in_order : {E : Type 0} (noted : Noted) → record { trips = trips; notes = map (note_of (name_at trips names)) all; rows = all } ≡ noted → (r : Result (List StopTime) E) → IfOk r (IsSorted kept_cmp) → IfOk r (IsPermutation rows)
      → IfOk r (λ new. (d : Dataset) → noted.notes ≡ trip_notes_in d → AllKeep d noted.rows → AreKeptOf d new)
  kept_in_order noted view (Ok new) sorted moved = λ d notes keep. in_order d new (ap (λ v. v.notes) view ∙ notes) (subst (AllKeep d) (sym (ap (λ v. v.rows) view)) keep) moved sorted
  kept_in_order noted view (Err e) sorted moved = tt
