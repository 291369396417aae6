-- What is noted of a row beside what it says, and how it stands in one number.
use Rattle.std.specs.Prelude.{◌==◌, ◌/◌, ◌%◌, ℕ, zero, suc, Bool}
use Rattle.gtfs_stop_times.specs.declared.row_note.RowNote.{RowNote}
use Rattle.gtfs_stop_times.specs.declared.stop_time.ReadTimes.{ReadTimes}
use Rattle.gtfs_stop_times.specs.declared.stop_time.ReadTimes.TheVariants as times

pub record Noted : Type 0 where
  pub trip : ℕ
  pub has_headsign : Bool
  pub times : ReadTimes

-- how the times of a row stand, by a number
abbrev pub times_numbered : ℕ → ReadTimes
times_numbered zero = times.Clear
times_numbered (suc zero) = times.Unclear
times_numbered (suc (suc n)) = times.Unplaced

-- the note that a number is: three bits, and above them the number of the trip
abbrev pub unpacked : ℕ → Noted
unpacked n = record {
  trip = n / 8;
  has_headsign = n % 2 == 1;
  times = times_numbered (n / 2 % 4);
}

abbrev pub noted : RowNote → Noted
noted note = unpacked note.packed
