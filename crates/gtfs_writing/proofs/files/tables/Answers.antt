use Rattle.gtfs_rows.specs.RowsInMemory.{content_of_parts}
use Rattle.gtfs_rows.proofs.Passing.{written_form}
use Rattle.gtfs_writing.proofs.files.tables.Goals as goal

pub returns-in-Ok-clause-form : goal.returns-in-Ok-clause-form
returns-in-Ok-clause-form c = written_form (content_of_parts c.args.parts.now) c.requires.content

pub returns-in-Err-clause-form : goal.returns-in-Err-clause-form
returns-in-Err-clause-form c = written_form (content_of_parts c.args.parts.now) c.requires.content
