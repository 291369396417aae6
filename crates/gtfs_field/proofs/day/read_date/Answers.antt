use Rattle.std.proofs.Common.{◌∙◌}
use Rattle.gtfs_field.proofs.Dates.{date_of-eight, date_of-length, date_of-none}
use Rattle.gtfs_field.proofs.day.read_date.Goals as goal
use Rattle.gtfs_field.proofs.day.read_date.Goals.{in_default-via-in-Some+else-text-eq8, in_default-via-in_default}

pub returns-in-Some : goal.returns-in-Some
returns-in-Some c =
    c.day_of.ensures
    ∙ date_of-eight c.args.text.now _ c.if-text-eq8.true (rw c.as_bytes.ensures.value at c.in-Some.ensures.value)

pub returns-in_default : goal.returns-in_default
returns-in_default c = elim c.in_default.branch [
  | in_default-via-in-Some+else-text-eq8 w ↦ date_of-length c.args.text.now w.if-text-eq8.false
  | in_default-via-in_default w ↦ date_of-none c.args.text.now (rw c.as_bytes.ensures.value at w.in_default.ensures.value)
]
