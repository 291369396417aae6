-- What the values of the options of a board say.
use Rattle.std.specs.Prelude.{◌≡◌, ◌<◌, ◌^◌, ℕ, ◌==◌, Bool, true, is_some, if◌then◌else◌, codes, List, [], ◌∷◌, Option, Some, None, option_map, unsigned_abs, ℤ}
use Rattle.std.specs.Result.{result_ok}
use Rattle.clap.specs.Words.{Text}
use Rattle.gtfs_field.specs.Kinds.{count_of, date_of, instant_of}
use Rattle.gtfs_days.specs.Service.{is_service_day}
use Rattle.gtfs_rows.specs.Departures.{Origins}
use Rattle.gtfs_rows.specs.Key.{Key}
use Rattle.gtfs_board.specs.KeyTexts.{key_of}
use Rattle.gtfs_times.specs.declared.times.Times.{Times}
use Rattle.gtfs_cli.specs.SharedOptions.{first_of_bad, service_day, times_of}
use Rattle.gtfs_commands.specs.Words.{BoardTexts}
use Rattle.gtfs_cli.specs.declared.commands.options.moments.GivenMoment.{GivenMoment}
use Rattle.gtfs_cli.specs.declared.commands.options.moments.GivenMoment.TheVariants.{Instant, ServiceDay}

-- ---- the values of `--from` and `--until`

-- what follows an `@` at the beginning of a text
abbrev pub after_at : List ℕ → Option (List ℕ)
after_at [] = None
after_at (b ∷ rest) = if b == 64 then Some rest else None

abbrev pub moment_from : List ℕ → Option (List ℕ) → Option GivenMoment
moment_from text (Some instant) = option_map Instant (result_ok (instant_of instant))
moment_from text None = option_map ServiceDay (service_day (date_of text))

-- when a text says: `@` and an instant, or a service day YYYYMMDD
abbrev pub moment_of : List ℕ → Option GivenMoment
moment_of text = moment_from text (after_at text)

-- the instant that is meant where service days begin at these origins
abbrev pub instant_at : Origins → GivenMoment → ℤ
instant_at origin (Instant x) = x
instant_at origin (ServiceDay d) = origin d

-- an instant of at most twelve digits, or a service day
abbrev pub IsSound : GivenMoment → Type 0
IsSound (Instant x) = unsigned_abs x < 10 ^ 12
IsSound (ServiceDay d) = is_service_day d ≡ true

-- ---- the values of `--limit` and `--after`

-- the most lines that go out: a count, and without one more than any output takes
abbrev pub limit_of : Option (List ℕ) → Option ℕ
limit_of None = Some 18_446_744_073_709_551_615
limit_of (Some text) = result_ok (count_of text)

-- the key after which the lines begin, if any; the text of a key has to be one
abbrev pub after_of : Option (List ℕ) → Option (Option Key)
after_of None = Some None
after_of (Some text) = option_map Some (result_ok (key_of text))

-- ---- the values of all options

-- the options whose texts are judged, in the order of the usage, and whether each has a value
abbrev pub judged_values : List ℕ → List ℕ → Option (List ℕ) → Option (List ℕ) → List (Text × Bool)
judged_values from until limit after = (codes "--from", is_some (moment_of from)) ∷ (codes "--until", is_some (moment_of until))
    ∷ (codes "--limit", is_some (limit_of limit)) ∷ (codes "--after", is_some (after_of after)) ∷ []

abbrev pub judged_board : BoardTexts → List (Text × Bool)
judged_board asked = judged_values asked.from asked.until asked.limit asked.after

-- the first of them that has none
abbrev pub first_bad_board : BoardTexts → Option Text
first_bad_board asked = first_of_bad (judged_board asked)

-- what the options ask for
pub record BoardRequest : Type 0 where
  pub from : GivenMoment
  pub until : GivenMoment
  pub limit : ℕ
  pub after : Option Key
  pub times : Times

-- each is the value of its text, and the times are those of the flag
pub record IsBoardRequest (asked : BoardTexts) (r : BoardRequest) : Type 0 where
  pub from : moment_of asked.from ≡ Some r.from
  pub until : moment_of asked.until ≡ Some r.until
  pub limit : limit_of asked.limit ≡ Some r.limit
  pub after : after_of asked.after ≡ Some r.after
  pub times : times_of asked.interpolate ≡ r.times
