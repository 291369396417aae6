use Rattle.std.proofs.Common.{◌≡◌, ◌++◌, ℕ, List, Some, true}
use Rattle.std.specs.Str.{IsUtf8}
use Rattle.csv.specs.Reading.{Reached, Ready, default_config, source_of}
use Rattle.csv.specs.declared.parser.State.TheVariants as st
use Rattle.csv.specs.declared.reader.Trim.TheVariants as trim
use Rattle.gtfs_table.proofs.ReadSteps.{left_of}
use Rattle.gtfs_table.proofs.Utf8Fields.{is_open}
use Rattle.gtfs_table.proofs.csv_reading.read_all.Given as goal

abbrev pub invariant-loop-records : goal.invariant-loop-records
invariant-loop-records l =
    (l.reader.trim ≡ trim.None) × Ready l.reader × (l.reader.config ≡ default_config)
    × (y : List ℕ) × (source_of (λ s. Some s.now) l.reader ≡ Some y)
    × (read : List (List (List ℕ))) × (l.records ≡ l.fn.records ++ read)
    × Reached default_config st.StartRecord l.fn.text read l.reader.state y
    × IsUtf8 y × (is_open l.reader.state ≡ true)

abbrev pub decreases-loop-records : goal.decreases-loop-records
decreases-loop-records l = left_of (λ s. Some s.now) l.reader
