use Rattle.std.proofs.Common.{◌≡◌, ℕ, ◌≤◌, List, [], ◌∷◌, length, map, Option, None, refl, arith}
use Rattle.gtfs_days.specs.declared.week.Week.{Week}
use Rattle.gtfs_trip_rules.specs.RowsById.{IdRow}
use Rattle.gtfs_trip_rules.specs.ServiceFields.{week_in}
use Rattle.gtfs_trip_rules.specs.ServiceCalendars.{week_of_rows}
use Rattle.gtfs_trip_rules.proofs.services.weeks.Weeks.of.Goals as goal

two_rows : (read : ℕ → Option Week) (rs : List IdRow) → 2 ≤ length rs → None ≡ week_of_rows read (map (λ r. r.1) rs)
two_rows read [] h = absurd (omega arith)
two_rows read (r ∷ []) h = absurd (omega arith)
two_rows read (r ∷ s ∷ rs) h = refl

pub returns-in_default-clause-value : goal.returns-in_default-clause-value
returns-in_default-clause-value c = two_rows (week_in c.args.tables.now c.args.self.now) c.args.rows.now c.in_default.len_at_least
