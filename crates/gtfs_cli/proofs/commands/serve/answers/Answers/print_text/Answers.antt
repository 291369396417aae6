use Rattle.std.proofs.Common.{◌<◌, ◌≤◌, codes, length, inl, inr, refl, subst, arith}
use Rattle.gtfs_conversation.specs.HeardLines.{longest_line}
use Rattle.gtfs_rows.specs.RowsInMemory.{content_of_parts}
use Rattle.gtfs_times.specs.declared.times.Times.{Times}
use Rattle.gtfs_cli.specs.ServeAnswers.{refused_line}
use Rattle.gtfs_cli.specs.LentServeQuestions.{question_of}
use Rattle.gtfs_cli.specs.ServeQuestions.{AsksFor, AsksForNothing}
use Rattle.gtfs_cli.proofs.Answering.{line-asked, line-refused}
use Rattle.gtfs_cli.proofs.commands.serve.answers.Answers.print_text.Goals as goal

pub returns-then-line-gt-LONGEST_LINE : goal.returns-then-line-gt-LONGEST_LINE
returns-then-line-gt-LONGEST_LINE g c =
    let long : longest_line < length c.args.line.now = grind arith in
    line-refused (content_of_parts c.args.self.now.index.now.feed) c.args.self.now.zone.now c.args.self.now.index.now.times c.args.line.now
    (refused_line (codes "line too long")) (inl (long, refl)) _ _ c.send.result c.send.ensures.sent c.send.ensures.failed

pub returns-in-Some : goal.returns-in-Some
returns-in-Some g c =
    let short : length c.args.line.now ≤ longest_line = grind arith in
    let q = question_of c.in-Some.question in
    let asks = subst (λ (t : Times). AsksFor t c.args.line.now q) c.times.ensures c.in-Some.ensures.asks in
    line-asked (content_of_parts c.args.self.now.index.now.feed) c.args.self.now.zone.now c.args.self.now.index.now.times c.args.line.now q
    (record { short = short; utf8 = c.in-Some.ensures.utf8; asks = asks }) _ _ c.print_answer.result c.print_answer.ensures

pub returns-in-None : goal.returns-in-None
returns-in-None g c =
    let short : length c.args.line.now ≤ longest_line = grind arith in
    let nothing = subst (λ (t : Times). AsksForNothing t c.args.line.now) c.times.ensures (c.read_question.ensures.nothing c.in-None.is) in
    line-refused (content_of_parts c.args.self.now.index.now.feed) c.args.self.now.zone.now c.args.self.now.index.now.times c.args.line.now
    (refused_line (codes "bad request")) (inr (inl (short, nothing, refl))) _ _ c.send-in-None.result c.send-in-None.ensures.sent c.send-in-None.ensures.failed
