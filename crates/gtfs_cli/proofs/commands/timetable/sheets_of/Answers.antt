use Rattle.std.proofs.Common.{ap, Err}
use Rattle.gtfs_rows.specs.RowsInMemory.{content_of_parts}
use Rattle.gtfs_board.specs.declared.sheet.TableFault.{TableFault}
use Rattle.gtfs_cli.proofs.Tabled.{known-route}
use Rattle.gtfs_cli.proofs.commands.timetable.sheets_of.Goals as goal

-- the route is known where the sheets were made
pub returns-in-Ok-clause-known : goal.returns-in-Ok-clause-known
returns-in-Ok-clause-known c = known-route (content_of_parts c.args.feed.now) c.args.route.now (λ none. cc (c.in-Ok.ensures.unknown.1 none))

pub returns-in-Err-UnknownRoute-clause-refused : goal.returns-in-Err-UnknownRoute-clause-refused
returns-in-Err-UnknownRoute-clause-refused c =
    c.in-Err-UnknownRoute.ensures.unknown.0 (ap (λ (f : TableFault). Err f) c.in-Err-UnknownRoute.field-0-is)

pub returns-in-Err-OutOfMemory-clause-refused : goal.returns-in-Err-OutOfMemory-clause-refused
returns-in-Err-OutOfMemory-clause-refused c = known-route (content_of_parts c.args.feed.now) c.args.route.now
    (λ none. cc (c.in-Err-OutOfMemory.ensures.unknown.1 none, c.in-Err-OutOfMemory.field-0-is))
