use Rattle.std.proofs.Common.{◌∙◌, [], ap, inl, refl, subst, sym, List, ℕ, Option, arith}
use Rattle.std.specs.Prelude.{OnOk, OnErr}
use Rattle.std.specs.Io.KnownBytes.{Appends}
use Rattle.std.proofs.KnownBytes.{Appends-nil}
use Rattle.gtfs_rows.specs.RowsInMemory.{content_of_parts}
use Rattle.gtfs_cli.specs.ServeAnswers.{AnswersLine, IsAnswerPart}
use Rattle.gtfs_cli.proofs.Answering.{ended-cut, ended-early, ended-whole, no-bytes, on-err, on-ok, some-bytes}
use Rattle.gtfs_cli.proofs.commands.serve.answers.AnswersAnswer.answer.Goals as goal
use Rattle.gtfs_cli.proofs.commands.serve.answers.AnswersAnswer.answer.Goals.{in-Ok+in-Ok-write_text, in-Ok+in-Err-write_text, in-Err}

pub returns-then-is_empty-clause-whole : goal.returns-then-is_empty-clause-whole
returns-then-is_empty-clause-whole g c = ([], inl (no-bytes c.args.line.now (grind arith), refl), Appends-nil (g.O.Out.told c.args.out.now))

pub returns-clause-whole : goal.returns-clause-whole
returns-clause-whole g c =
    let f = content_of_parts c.args.self.now.index.now.feed in
    let z = c.args.self.now.zone.now in
    let times = c.args.self.now.index.now.times in
    let line = c.args.line.now in
    let some = some-bytes line (sym c.is_empty.ensures ∙ c.if-is_empty.false) in
    let Says = λ (b : Option (List ℕ)). (text : List ℕ) × AnswersLine f z times line text × Appends (g.O.Out.told c.args.out.now) b text in
    let now = g.O.Out.told c.match-print_text.out in
    elim c.match-print_text.branch [
      | in-Ok+in-Ok-write_text w ↦ on-ok c.match-print_text.result (Says now)
          (subst Says (sym (ap g.O.Out.told w.out-is)) (ended-whole f z times line some _ _ _ _ w.in-Ok.ensures w.in-Ok-write_text.ensures.whole))
      | in-Ok+in-Err-write_text w ↦ subst (λ r. OnOk r (Says now)) (sym w.result-is) tt
      | in-Err w ↦ subst (λ r. OnOk r (Says now)) (sym w.result-is) tt
    ]

pub returns-clause-part : goal.returns-clause-part
returns-clause-part g c =
    let f = content_of_parts c.args.self.now.index.now.feed in
    let z = c.args.self.now.zone.now in
    let times = c.args.self.now.index.now.times in
    let line = c.args.line.now in
    let some = some-bytes line (sym c.is_empty.ensures ∙ c.if-is_empty.false) in
    let Says = λ (b : Option (List ℕ)). (text : List ℕ) × IsAnswerPart f z times line text × Appends (g.O.Out.told c.args.out.now) b text in
    let now = g.O.Out.told c.match-print_text.out in
    elim c.match-print_text.branch [
      | in-Ok+in-Ok-write_text w ↦ subst (λ r. OnErr r (Says now)) (sym w.result-is) tt
      | in-Ok+in-Err-write_text w ↦ on-err c.match-print_text.result (Says now)
          (subst Says (sym (ap g.O.Out.told w.out-is)) (ended-early f z times line some _ _ _ _ w.in-Err-write_text.field-0.written w.in-Ok.ensures w.in-Err-write_text.ensures.prefix))
      | in-Err w ↦ on-err c.match-print_text.result (Says now) (subst Says (sym (ap g.O.Out.told w.out-is)) (ended-cut f z times line some _ _ _ w.in-Err.ensures).0)
    ]
