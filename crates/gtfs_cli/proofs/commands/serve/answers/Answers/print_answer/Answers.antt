use Rattle.std.proofs.Common.{sym}
use Rattle.gtfs_rows.specs.RowsInMemory.{content_of_parts}
use Rattle.gtfs_cli.specs.LentServeQuestions.{question_of}
use Rattle.gtfs_cli.proofs.Answering.{answered-cut, answered-refused}
use Rattle.gtfs_cli.proofs.commands.serve.answers.Answers.print_answer.Goals as goal

pub returns-in-Some : goal.returns-in-Some
returns-in-Some g c = answered-refused (content_of_parts c.args.self.now.index.now.feed) c.args.self.now.zone.now (question_of c.args.question.now) _ _ c.in-Err.refusal c.in-Err.ensures
    c.in-Some.line.now (sym c.in-Some.ensures) _ c.send.result c.send.ensures.sent c.send.ensures.failed

pub returns : goal.returns
returns g c = answered-cut (content_of_parts c.args.self.now.index.now.feed) c.args.self.now.zone.now (question_of c.args.question.now) _ _ c.in-Err.refusal (sym c.in-None.ensures)
    c.in-Err.ensures
