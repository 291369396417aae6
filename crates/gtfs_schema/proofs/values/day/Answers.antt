use Rattle.std.proofs.Common.{◌∙◌, ap, refl}
use Rattle.std.specs.Result.{result_ok}
use Rattle.gtfs_schema.specs.Columns as kind
use Rattle.gtfs_schema.proofs.ReadFacts.{date_read, day_fails}
use Rattle.gtfs_schema.proofs.values.day.Goals as goal

pub returns-clause-whole : goal.returns-clause-whole
returns-clause-whole c = λ e. day_fails kind.date refl e c.args.text.now _ (c.ok.ensures.value ∙ ap result_ok c.read_date.ensures ∙ date_read c.args.text.now)
