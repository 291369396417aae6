-- The values of the options of `gtfs check`.
use Rattle.std.specs.Prelude.{◌≡◌, ◌⊎◌, ◌&&◌, not, Bool, true, false, codes, is_some, List, [], ◌∷◌}
use Rattle.clap.specs.Words.{Text}
use Rattle.gtfs_commands.specs.Words.{CheckTexts}
use Rattle.gtfs_cli.specs.RefusalOrder.{IsFirstBad, Judged}
use Rattle.gtfs_cli.specs.SharedOptions.{day_if_given}
use Rattle.gtfs_cli.specs.declared.commands.refusal.Refusal.{Refusal}
use Rattle.gtfs_cli.specs.declared.commands.refusal.Refusal.TheVariants.{DayWithoutAdvice}

-- a day is given, and no advice is asked for
abbrev pub lacks_advise : CheckTexts → Bool
lacks_advise asked = is_some asked.day && not asked.advise

abbrev pub IsLack : CheckTexts → Refusal → Type 0
IsLack asked DayWithoutAdvice = lacks_advise asked ≡ true
IsLack asked _ = ⊥

-- a day is taken with advice alone
abbrev pub needed : CheckTexts → Judged
needed asked = record { Refuses = λ before after. IsLack asked; Holds = lacks_advise asked ≡ false }

-- the option whose text is judged, and whether it has a value
abbrev pub judged_check : CheckTexts → List (Text × Bool)
judged_check asked = (codes "--day", is_some (day_if_given asked.day)) ∷ []

-- why the day is not read: it is given without advice, or else it is none
abbrev pub IsUnread : CheckTexts → Refusal → Type 0
IsUnread asked refusal = IsLack asked refusal ⊎ ((lacks_advise asked ≡ false) × IsFirstBad (judged_check asked) refusal)
