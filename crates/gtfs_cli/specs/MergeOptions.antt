-- The values of the options of `gtfs merge`.
use Rattle.std.specs.Prelude.{◌≡◌, ℕ, ℤ, Bool, codes, is_some, List, [], ◌∷◌, Option, Some, None, option_map}
use Rattle.std.specs.Result.{result_ok}
use Rattle.clap.specs.Words.{Text}
use Rattle.gtfs_field.specs.Kinds.{count_of}
use Rattle.gtfs_commands.specs.Words.{MergeTexts}
use Rattle.gtfs_cli.specs.SharedOptions.{day_if_given, first_of_bad}

-- up to how many millionths of a degree apart stops become one, if they do; its text has to be a count
abbrev pub near_of : Option Text → Option (Option ℕ)
near_of None = Some None
near_of (Some text) = option_map Some (result_ok (count_of text))

-- the service day from which the second feed counts, and the first one before it, if there is one; its text has to be such a day
abbrev pub cutoff_of : Option Text → Option (Option ℤ)
cutoff_of text = day_if_given text

-- the options whose texts are judged, in the order of the usage, and whether each has a value
abbrev pub judged_merge : MergeTexts → List (Text × Bool)
judged_merge asked = (codes "--near", is_some (near_of asked.near)) ∷ (codes "--cutoff", is_some (cutoff_of asked.cutoff)) ∷ []

-- the first of them that has none
abbrev pub first_bad_merge : MergeTexts → Option Text
first_bad_merge asked = first_of_bad (judged_merge asked)

-- what the options ask for
pub record MergeRequest : Type 0 where
  pub near : Option ℕ
  pub cutoff : Option ℤ

-- each is the value of its text
pub record IsMergeRequest (asked : MergeTexts) (r : MergeRequest) : Type 0 where
  pub near : near_of asked.near ≡ Some r.near
  pub cutoff : cutoff_of asked.cutoff ≡ Some r.cutoff
