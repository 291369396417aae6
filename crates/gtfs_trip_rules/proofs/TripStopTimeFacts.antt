-- The rows of trips as they are read, row by row.
use Rattle.std.proofs.Common.{◌≡◌, ◌++◌, ◌∙◌, ℕ, suc, Bool, true, false, List, [], ◌∷◌, map, length, cond, refl, ap, inl, inr, Option, Some, None, option_map, ℤ}
use Rattle.std.specs.Prelude.{◌&&◌, bytes_eq, codes, filter, if◌then◌else◌, is_some, pos}
use Rattle.std.specs.List.{cons_option, filter_map}
use Rattle.std.specs.Option.{unwrap_or}
use Rattle.std.proofs.lemmas.Bool.{cases_Bool}
use Rattle.std.proofs.lemmas.List.Elements.{filter_map-append}
use Rattle.gtfs_table.specs.Tables.{Dataset}
use Rattle.gtfs_table.specs.declared.file.File.TheVariants as file
use Rattle.gtfs_stop_times.specs.declared.stop_time.StopTime.{StopTime}
use Rattle.gtfs_table.specs.Rows.{Row, numbers, rows}
use Rattle.gtfs_table.proofs.RowFacts.{numbers_more}
use Rattle.gtfs_schema.specs.RowConditions.{text_in, word_in}
use Rattle.gtfs_stop_times.specs.KeptTimes.{is_placed}
use Rattle.gtfs_trip_rules.specs.TripNotes.{TripNote, has_trip_id, note_of, rows_of_notes, timed_row, times_noted, trip_note_in, trip_notes_in}
use Rattle.gtfs_trip_rules.specs.TripStopTimes.{TripStopTime, has_trip_stop_time, trip_stop_time, trip_stop_time_in, trip_stop_times_in}
use Rattle.gtfs_schema.specs.TripRules.{is_row_of, sequence_in}
use Rattle.gtfs_trip_rules.specs.TripTexts.{note_of_values, note_read}
use Rattle.gtfs_schema.specs.FieldValues.{is_word}

kept : {B : Type 0} (read : ℕ → Option B) (has : ℕ → Bool) (value : ℕ → B) → ((n : ℕ) → read n ≡ (if has n then Some (value n) else None))
    → (ns : List ℕ) → filter_map read ns ≡ map value (filter has ns)
kept read has value same [] = refl
kept read has value same (n ∷ ns) = ap (λ o. cons_option o (filter_map read ns)) (same n) ∙ elim (cases_Bool (has n)) [
  | inl there ↦ rw (there, kept read has value same ns) refl
  | inr missing ↦ rw (missing, kept read has value same ns) refl
]

-- ---- what the rows say of their trips

of_values : (id : Option (List ℕ)) (sequence : Option ℤ) (a b : List ℕ) (n : ℕ)
    → note_of_values id sequence a b n ≡ (if is_some id then note_of_values (Some (unwrap_or id [])) sequence a b n else None)
of_values None sequence a b n = refl
of_values (Some id) sequence a b n = refl

note_is : (d : Dataset) (n : ℕ) → note_read d n ≡ (if has_trip_id d n then Some (trip_note_in d n) else None)
note_is d n = of_values (word_in d file.StopTimes n "trip_id") (sequence_in d n)
    (text_in d file.StopTimes n (codes "arrival_time")) (text_in d file.StopTimes n (codes "departure_time")) n

pub trip_notes_read : (d : Dataset) → filter_map (note_read d) (rows d file.StopTimes) ≡ trip_notes_in d
trip_notes_read d = kept (note_read d) (has_trip_id d) (trip_note_in d) (note_is d) (rows d file.StopTimes)

-- after one more row
pub notes_more : (d : Dataset) (taken : List Row) (n : ℕ) (r : List (List ℕ)) (notes : List TripNote) → notes ≡ filter_map (note_read d) (numbers taken)
    → notes ++ cons_option (note_read d n) [] ≡ filter_map (note_read d) (numbers (taken ++ (n, r) ∷ []))
notes_more d taken n r notes before = rw (numbers_more taken n r, filter_map-append (note_read d) (numbers taken) (n ∷ []), before) refl

-- ---- of these the rows that have a sequence

of_kept : {A B : Type 0} (f : ℕ → A) (has : ℕ → Bool) (read : A → Option B) (ns : List ℕ)
    → filter_map read (map f (filter has ns)) ≡ filter_map (λ n. if has n then read (f n) else None) ns
of_kept f has read [] = refl
of_kept f has read (n ∷ ns) = elim (cases_Bool (has n)) [
  | inl there ↦ rw (there, of_kept f has read ns) refl
  | inr missing ↦ rw (missing, of_kept f has read ns) refl
]

of_sequence : (b : Bool) (sequence : Option ℤ) (row : ℤ → TripStopTime)
    → (if b then option_map row sequence else None) ≡ (if b && is_some sequence then Some (row (unwrap_or sequence (pos 0))) else None)
of_sequence true None row = refl
of_sequence true (Some s) row = refl
of_sequence false sequence row = refl

pub sequenced_rows : (d : Dataset) → rows_of_notes (trip_notes_in d) ≡ trip_stop_times_in d
sequenced_rows d = of_kept (trip_note_in d) (has_trip_id d) (λ n. n.row) (rows d file.StopTimes)
    ∙ kept (λ n. if has_trip_id d n then (trip_note_in d n).row else None) (has_trip_stop_time d) (trip_stop_time_in d)
    (λ n. of_sequence (has_trip_id d n) (sequence_in d n) (timed_row d n (unwrap_or (word_in d file.StopTimes n "trip_id") []))) (rows d file.StopTimes)

-- the rows as they are kept
pub rows_kept : (name : ℕ → List ℕ) (rs : List StopTime) → map (trip_stop_time name) (filter (λ r. is_placed r.times) rs) ≡ rows_of_notes (map (note_of name) rs)
rows_kept name [] = refl
rows_kept name (r ∷ rs) = elim (cases_Bool (is_placed r.times)) [
  | inl has ↦ rw (has, rows_kept name rs) refl
  | inr none ↦ rw (none, rows_kept name rs) refl
]

-- ---- how often a trip is named

word_there : (w : Option (List ℕ)) (trip : List ℕ) → is_some w ≡ true → is_word w trip ≡ bytes_eq trip (unwrap_or w [])
word_there None trip e = cc e
word_there (Some id) trip e = refl

word_missing : (w : Option (List ℕ)) (trip : List ℕ) → is_some w ≡ false → is_word w trip ≡ false
word_missing None trip e = refl
word_missing (Some id) trip e = cc e

pub as_many : {X Y : Type 0} (b : Bool) (x : X) (xs : List X) (y : Y) (ys : List Y) → length xs ≡ length ys → length (cond b (x ∷ xs) xs) ≡ length (cond b (y ∷ ys) ys)
as_many true x xs y ys e = ap suc e
as_many false x xs y ys e = e

named : (d : Dataset) (trip : List ℕ) (ns : List ℕ) → times_noted (map (trip_note_in d) (filter (has_trip_id d) ns)) trip ≡ length (filter (is_row_of d trip) ns)
named d trip [] = refl
named d trip (n ∷ ns) = elim (cases_Bool (has_trip_id d n)) [
  | inl has ↦ rw (has, word_there (word_in d file.StopTimes n "trip_id") trip has) (as_many _ (trip_note_in d n) _ n _ (named d trip ns))
  | inr none ↦ rw (none, word_missing (word_in d file.StopTimes n "trip_id") trip none) (named d trip ns)
]

pub named_rows : (d : Dataset) (trip : List ℕ) → times_noted (trip_notes_in d) trip ≡ length (filter (is_row_of d trip) (rows d file.StopTimes))
named_rows d trip = named d trip (rows d file.StopTimes)
