-- The text of a key, and the key that a text reads as. The form is this toolkit's own.
use Rattle.std.specs.Prelude.{ℕ, ◌==◌, ◌&&◌, Bool, nat_le, List, ◌++◌, drop, count_by, slice_index, codes, decimal, Result, Ok, Err}
use Rattle.std.specs.List.{before_first, after_first, before_last, after_last}
use Rattle.std.specs.Fmt.{signed_decimal}
use Rattle.gtfs_field.specs.Canonical.{date_text}
use Rattle.gtfs_field.specs.Digits.{number}
use Rattle.gtfs_field.specs.Kinds.{shaped, within, is_plain_number, instant_of, date_of}
use Rattle.gtfs_field.specs.declared.fault.FieldFault.{FieldFault}
use Rattle.gtfs_rows.specs.Key.{Key, last_run, last_sequence}

-- @INSTANT/TRIP/RUN/SEQUENCE/YYYYMMDD, numbers with no zero in front
abbrev pub key_text : Key → List ℕ
key_text k = codes "@" ++ signed_decimal k.instant ++ codes "/" ++ k.trip ++ codes "/" ++ decimal k.run
    ++ codes "/" ++ decimal k.sequence ++ codes "/" ++ date_text k.day

abbrev pub is_slash : ℕ → Bool
is_slash b = b == 47

-- ---- the parts of a text: the instant up to the first slash, and the last three from the right

abbrev pub instant_part : List ℕ → List ℕ
instant_part t = before_first is_slash (drop 1 t)

abbrev pub after_instant : List ℕ → List ℕ
after_instant t = after_first is_slash (drop 1 t)

abbrev pub before_day : List ℕ → List ℕ
before_day t = before_last is_slash (after_instant t)

abbrev pub before_sequence : List ℕ → List ℕ
before_sequence t = before_last is_slash (before_day t)

-- what is left may hold slashes
abbrev pub trip_part : List ℕ → List ℕ
trip_part t = before_last is_slash (before_sequence t)

abbrev pub run_part : List ℕ → List ℕ
run_part t = after_last is_slash (before_sequence t)

abbrev pub sequence_part : List ℕ → List ℕ
sequence_part t = after_last is_slash (before_day t)

abbrev pub day_part : List ℕ → List ℕ
day_part t = after_last is_slash (after_instant t)

-- ---- the key of a text

-- an `@`, and a slash before each part but the first
abbrev pub has_key_shape : List ℕ → Bool
has_key_shape t = (slice_index t 0 == 64) && nat_le 4 (count_by is_slash t)

-- a number with no zero in front, up to a limit
abbrev pub plain_up_to : ℕ → List ℕ → Result ℕ FieldFault
plain_up_to limit t = shaped (is_plain_number t) (within (nat_le (number t) limit) (number t))

-- the next part is read where the one before it has a value
abbrev pub and_then : {X Y : Type 0} → Result X FieldFault → (X → Result Y FieldFault) → Result Y FieldFault
and_then (Ok x) next = next x
and_then (Err e) next = Err e

-- the key, or the first fault of the shape, the instant, the run, the sequence and the day
abbrev pub key_of : List ℕ → Result Key FieldFault
key_of t = shaped (has_key_shape t)
    (and_then (instant_of (instant_part t)) (λ instant.
    and_then (plain_up_to last_run (run_part t)) (λ run.
    and_then (plain_up_to last_sequence (sequence_part t)) (λ sequence.
    and_then (date_of (day_part t)) (λ day.
    Ok (record { instant = instant; trip = trip_part t; run = run; sequence = sequence; day = day }))))))
