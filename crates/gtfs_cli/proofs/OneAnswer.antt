-- A line has one answer, and the same lines have the same answers.
use Rattle.std.proofs.Common.{◌≡◌, ◌∙◌, ap, ap₂, sym, subst, refl, ℕ, ◌<ℤ◌, true≢false, List, [], ◌∷◌, ◌++◌, length, take, Option, Some, inl, inr, codes, arith}
use Rattle.std.specs.Prelude.{IfSome}
use Rattle.gtfs_conversation.specs.Conversation.{lines_of, said, most_lines, AreAnswered, Exchange}
use Rattle.gtfs_days.specs.Zone.{SaysSame}
use Rattle.gtfs_days.specs.declared.zone.Zone.{Zone}
use Rattle.gtfs_devices.specs.Folder.{Store}
use Rattle.gtfs_table.specs.Tables.{Dataset}
use Rattle.gtfs_rows.specs.Content.{Content}
use Rattle.gtfs_rows.specs.Departures.{Origins}
use Rattle.gtfs_rows.specs.ContentRead.{content_of}
use Rattle.gtfs_times.specs.declared.times.Times.{Times}
use Rattle.gtfs_commands.specs.Words.{ServeTexts}
use Rattle.gtfs_cli.specs.ServeAnswers.{IsLineText, IsQuestion, AnswersWhole, IsWholeText}
use Rattle.gtfs_cli.specs.BoardCommand.{LiesBefore}
use Rattle.gtfs_cli.specs.BoardOptions.{instant_at, BoardRequest}
use Rattle.gtfs_cli.specs.SharedOptions.{times_of}
use Rattle.gtfs_cli.specs.ServeQuestions.{AsksForNothing, Board, Question, Timetable}
use Rattle.gtfs_cli.specs.DevicesSeen.{Talk}
use Rattle.gtfs_cli.specs.ServeCommand.{IsWhollyServed}
use Rattle.gtfs_cli.proofs.Asking.{one-question}
use Rattle.gtfs_cli.proofs.FolderEnds.{one_dataset}
use Rattle.gtfs_cli.proofs.OneBoard.{one_origin, one_text}
use Rattle.gtfs_cli.proofs.ZoneEnds.{same_zones}

module _ (f : Content) (y z : Zone) (same : SaysSame y z) where
  before-in : (r : BoardRequest) → LiesBefore y r → LiesBefore z r
  before-in r before = subst (λ (o : Origins). instant_at o r.until <ℤ instant_at o r.from) (one_origin y z same) before

  -- ---- a question has one text

  one-whole : (q : Question) (t u : List ℕ) → IsWholeText f y q t → IsWholeText f z q u → t ≡ u
  one-whole (Board q) t u (inl a) (inl b) = a.1 ∙ sym b.1
  one-whole (Board q) t u (inl a) (inr (inl b)) = absurd (true≢false (sym b.0 ∙ a.0))
  one-whole (Board q) t u (inl a) (inr (inr b)) = absurd (true≢false (sym b.lists.known ∙ a.0))
  one-whole (Board q) t u (inr (inl a)) (inl b) = absurd (true≢false (sym a.0 ∙ b.0))
  one-whole (Board q) t u (inr (inl a)) (inr (inl b)) = a.2 ∙ sym b.2
  one-whole (Board q) t u (inr (inl a)) (inr (inr b)) = absurd (b.lists.forward (before-in q.values a.1))
  one-whole (Board q) t u (inr (inr a)) (inl b) = absurd (true≢false (sym a.lists.known ∙ b.0))
  one-whole (Board q) t u (inr (inr a)) (inr (inl b)) =
      absurd (a.lists.forward (subst (λ (o : Origins). instant_at o q.values.until <ℤ instant_at o q.values.from) (sym (one_origin y z same)) b.1))
  one-whole (Board q) t u (inr (inr a)) (inr (inr b)) = one_text y z same f q.texts.stop q.values t u a b
  one-whole (Timetable r) t u (inl a) (inl b) = a.1 ∙ sym b.1
  one-whole (Timetable r) t u (inl a) (inr b) = absurd (true≢false (sym b.0 ∙ a.0))
  one-whole (Timetable r) t u (inr a) (inl b) = absurd (true≢false (sym a.0 ∙ b.0))
  one-whole (Timetable r) t u (inr a) (inr b) = a.1 ∙ sym b.1

  -- ---- a line has one answer

  module _ (times : Times) (line : List ℕ) where
    nothing-asked : AsksForNothing times line → (q : Question) → IsQuestion times line q → ⊥
    nothing-asked (inl never) q asks = never asks.utf8
    nothing-asked (inr never) q asks = never q asks.asks

    one-line : (t u : List ℕ) → IsLineText IsWholeText f y times line t → IsLineText IsWholeText f z times line u → t ≡ u
    one-line t u (inl a) (inl b) = a.1 ∙ sym b.1
    one-line t u (inl a) (inr (inl b)) = absurd (omega (arith, a.0, b.0))
    one-line t u (inl a) (inr (inr b)) = let short = b.1.short in absurd (omega (arith, a.0, short))
    one-line t u (inr (inl a)) (inl b) = absurd (omega (arith, a.0, b.0))
    one-line t u (inr (inr a)) (inl b) = let short = a.1.short in absurd (omega (arith, b.0, short))
    one-line t u (inr (inl a)) (inr (inl b)) = a.2 ∙ sym b.2
    one-line t u (inr (inl a)) (inr (inr b)) = absurd (nothing-asked a.1 b.0 b.1)
    one-line t u (inr (inr a)) (inr (inl b)) = absurd (nothing-asked b.1 a.0 a.1)
    one-line t u (inr (inr a)) (inr (inr b)) =
        let asked = one-question times line a.0 b.0 a.1.asks b.1.asks in
        one-whole b.0 t u (subst (λ (q : Question). IsWholeText f y q t) asked a.2) b.2

    one-answer : (t u : List ℕ) → AnswersWhole f y times line t → AnswersWhole f z times line u → t ≡ u
    one-answer t u (inl a) (inl b) = a.1 ∙ sym b.1
    one-answer t u (inl a) (inr b) = absurd (omega (arith, b.1, ap (λ (l : List ℕ). length l) a.0))
    one-answer t u (inr a) (inl b) = absurd (omega (arith, a.1, ap (λ (l : List ℕ). length l) b.0))
    one-answer t u (inr a) (inr b) = a.3 ∙ ap (λ (text : List ℕ). text ++ codes "\n") (one-line a.0 b.0 a.2 b.2) ∙ sym b.3

  -- ---- lines have one answer each

  module _ (times : Times) where
    one-said : (es ds : List Exchange) → AreAnswered (AnswersWhole f y times) es → AreAnswered (AnswersWhole f z times) ds → lines_of es ≡ lines_of ds → said es ≡ said ds
    one-said [] [] a b lines = refl
    one-said [] (d ∷ ds) a b lines = cc lines
    one-said (e ∷ es) [] a b lines = cc lines
    one-said (e ∷ es) (d ∷ ds) a b lines =
        let line : e.line ≡ d.line = cc lines in
        let others : lines_of es ≡ lines_of ds = cc lines in
        let first = one-answer times d.line e.answer d.answer (subst (λ (l : List ℕ). AnswersWhole f y times l e.answer) line a.0) b.0 in
        ap₂ (λ (x w : List ℕ). x ++ w) first (one-said es ds a.1 b.1 others)

heard-some : (o : Option (List (List ℕ))) (lines heard : List (List ℕ)) → o ≡ Some lines → IfSome o (λ ls. heard ≡ take most_lines ls) → heard ≡ take most_lines lines
heard-some o lines heard is all = subst (λ (x : Option (List (List ℕ))). IfSome x (λ ls. heard ≡ take most_lines ls)) is all

pub one-conversation : (limit : ℕ) (store : Store) (asked : ServeTexts) (lines : List (List ℕ)) (one other : Talk) → one.before.waiting ≡ Some lines → other.before.waiting ≡ Some lines
    → (x y : List ℕ) → IsWhollyServed limit (Some store) one asked x → IsWhollyServed limit (Some store) other asked y → x ≡ y
one-conversation limit store asked lines one other waits too x y a b =
    let s = a.0 in
    let t = b.0 in
    let dataset = one_dataset limit store asked.dir s.dataset t.dataset s.holds t.holds in
    let zones = same_zones limit store asked.zone s.zone t.zone s.holds_zone t.holds_zone in
    let times = times_of asked.interpolate in
    let answered = subst (λ (d : Dataset). AreAnswered (AnswersWhole (content_of d) s.zone times) a.1.es) dataset a.1.answered in
    let heard = heard-some one.before.waiting lines (lines_of a.1.es) waits a.1.heard ∙ sym (heard-some other.before.waiting lines (lines_of b.1.es) too b.1.heard) in
    a.1.out ∙ one-said (content_of t.dataset) s.zone t.zone zones times a.1.es b.1.es answered b.1.answered heard ∙ sym b.1.out
