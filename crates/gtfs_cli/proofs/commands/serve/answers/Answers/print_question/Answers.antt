use Rattle.std.proofs.Common.{refl}
use Rattle.gtfs_rows.specs.RowsInMemory.{content_of_parts}
use Rattle.gtfs_cli.proofs.Answering.{sheets-asked}
use Rattle.gtfs_cli.proofs.commands.serve.answers.Answers.print_question.Goals as goal

pub returns-in-Timetable : goal.returns-in-Timetable
returns-in-Timetable g c = sheets-asked (content_of_parts c.args.self.now.index.now.feed) c.args.self.now.zone.now c.feed.result.now c.args.self.now.index.now.feed c.feed.ensures
    c.args.question.now c.in-Timetable.request c.in-Timetable.is _ _ c.print_sheets.result c.print_sheets.ensures refl
