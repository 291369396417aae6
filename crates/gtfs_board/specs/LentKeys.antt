-- What contracts see of a key and of a departure whose texts are lent.
use Rattle.std.specs.Prelude.{◌≡◌, ℕ, List, Result, Ok, Err, MatchResult}
use Rattle.gtfs_field.specs.declared.fault.FieldFault.{FieldFault}
use Rattle.gtfs_rows.specs.Key.{Key}
use Rattle.gtfs_board.specs.KeyTexts.{key_of}
use Rattle.gtfs_board.specs.BoardLines.{Listed}
use Rattle.gtfs_board.specs.declared.departure.Departure.{Departure}
use Rattle.gtfs_board.specs.declared.key.Key.{Key as LentKey}

abbrev pub plain_key : LentKey → Key
plain_key k = record { instant = k.instant; trip = k.trip.now; run = k.run; sequence = k.seq; day = k.day }

abbrev pub listed : Departure → Listed
listed d = record { key = plain_key d.key; stop = d.stop.now; route = d.route.now; headsign = d.headsign.now; mark = d.mark }

-- the answer is what the text reads as
abbrev pub ReadsAs : List ℕ → Result LentKey FieldFault → Type 0
ReadsAs t r = MatchResult r (λ k. key_of t ≡ Ok (plain_key k)) (λ e. key_of t ≡ Err e)
