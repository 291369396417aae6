-- What the columns of frequencies.txt say of a row. A row of that file is a frequency: its period is the span of
-- seconds from its start to its end, its start among them and its end not.
use Rattle.std.specs.Prelude.{ℕ, ◌&&◌, Bool, List, Option, option_and_then, option_map, bytes_eq, codes}
use Rattle.std.specs.List.{list_any}
use Rattle.gtfs_table.specs.Tables.{Dataset, field_under}
use Rattle.gtfs_table.specs.declared.file.File.TheVariants as file
use Rattle.gtfs_schema.specs.Columns.{id}
use Rattle.gtfs_schema.specs.ReadFields.{seconds_of, word_of}
use Rattle.gtfs_schema.specs.RowConditions.{text_in}
use Rattle.gtfs_trip_rules.specs.PeriodSpans.{shares}
use Rattle.gtfs_schema.specs.FieldValues.{if_there}
use Rattle.gtfs_trip_rules.specs.declared.periods.columns.FrequencyColumns.{FrequencyColumns}

-- a trip, and the seconds from the origin at which a period starts and ends
abbrev pub Period : Type 0
Period = List ℕ × ℕ × ℕ

-- the period of three texts, where all of them are readable
abbrev pub period_of : List ℕ → List ℕ → List ℕ → Option Period
period_of trip start end =
    option_and_then (λ t. option_and_then (λ s. option_map (λ e. (t, s, e)) (seconds_of end)) (seconds_of start))
    (word_of id trip)

abbrev pub period_in : Dataset → ℕ → Option Period
period_in d n = period_of
    (text_in d file.Frequencies n (codes "trip_id"))
    (text_in d file.Frequencies n (codes "start_time"))
    (text_in d file.Frequencies n (codes "end_time"))

abbrev pub period_at : FrequencyColumns → List (List ℕ) → Option Period
period_at c r = period_of (field_under r c.trip) (field_under r c.start) (field_under r c.end)

-- the period is of this trip, and shares a second with this one
abbrev pub meets_one : Option Period → List ℕ → ℕ → ℕ → Bool
meets_one one trip start end = if_there one (λ p. bytes_eq trip p.0 && shares p.1 p.2 start end)

-- the period of one of these rows meets this one
abbrev pub met_among : Dataset → List ℕ → List ℕ → ℕ → ℕ → Bool
met_among d rows trip start end = list_any (λ m. meets_one (period_in d m) trip start end) rows
