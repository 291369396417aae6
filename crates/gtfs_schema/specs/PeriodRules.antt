-- Problems of the periods of frequencies.txt: E18 and E19.
-- GTFS Schedule Reference, `start_time` and `end_time` of frequencies.txt. A period holds its start and not its end.
use Rattle.std.specs.Prelude.{ℕ, ◌&&◌, Bool, nat_lt, ℤ, int_lt, int_le, Option}
use Rattle.std.specs.List.{list_any}
use Rattle.std.specs.Int.{int_max, int_min}
use Rattle.gtfs_table.specs.Tables.{Dataset}
use Rattle.gtfs_table.specs.declared.file.File.TheVariants as file
use Rattle.gtfs_schema.specs.FieldValues.{if_there, if_both, is_word}
use Rattle.gtfs_table.specs.Rows.{rows}
use Rattle.gtfs_schema.specs.RowConditions.{word_in, amount_in, Rule, Condition, reported_at}

abbrev pub period_start : Dataset → ℕ → Option ℤ
period_start d n = amount_in d file.Frequencies n "start_time"

abbrev pub period_end : Dataset → ℕ → Option ℤ
period_end d n = amount_in d file.Frequencies n "end_time"

-- ---- E18 period empty

abbrev pub ends_at_start : Rule
ends_at_start d n = if_both (period_end d n) (period_start d n) int_le

abbrev pub period_empty : Condition
period_empty = reported_at file.Frequencies "end_time" ends_at_start

-- ---- E19 periods overlap

-- some second lies in both periods: from the later start on, before the earlier end
abbrev pub share_second : ℤ → ℤ → ℤ → ℤ → Bool
share_second start end start' end' = int_lt (int_max start start') (int_min end end')

abbrev pub periods_meet : Dataset → ℕ → ℕ → Bool
periods_meet d m n = if_both (period_start d m) (period_end d m) (λ start end. if_both (period_start d n) (period_end d n) (share_second start end))

-- an earlier row of the trip has a period that shares a second with that of the row
abbrev pub overlaps_earlier : Rule
overlaps_earlier d n = if_there (word_in d file.Frequencies n "trip_id") (λ trip.
    list_any (λ m. nat_lt m n && is_word (word_in d file.Frequencies m "trip_id") trip && periods_meet d m n) (rows d file.Frequencies))

abbrev pub periods_overlap : Condition
periods_overlap = reported_at file.Frequencies "start_time" overlaps_earlier
