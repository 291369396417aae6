use Rattle.std.proofs.Common.{◌∙◌, refl, arith}
use Rattle.std.proofs.lemmas.Result.{err_from_is_err_and}
use Rattle.gtfs_conversation.proofs.ExchangeLemmas.{answers, begins, ends, ends_at_most, hears, sends, stops_hearing, stops_saying, stops_sending}
use Rattle.gtfs_conversation.proofs.conversation.converse.Goals as goal

pub loop-init : goal.loop-init
loop-init g c = record {
  answered = begins _ _ _;
  counted = refl;
}

pub loop-preserved : goal.loop-preserved
loop-preserved g c =
    let send = c.in_ok-send.ensures in
    let hear = c.in_ok-hear.ensures in
    let answer = c.in_ok-answer.ensures in
    let sent = sends _ _ _ _ _ _ _ _ c.loop.invariant.answered send.kept send.waiting send.asked send.unfailing in
    let heard = hears _ _ _ _ _ _ _ _ _ sent c.if-not-branch.false hear.line hear.order hear.no_failure in
    record {
      answered = answers _ _ _ _ _ _ _ _ _ _ heard c.line.ensures answer.whole.1 answer.whole.2;
      counted = answer.no_failure ∙ (send.no_failure ∙ c.loop.invariant.counted);
    }

-- what was said could not be sent on
pub returns-in_err-send-clause-stopped : goal.returns-in_err-send-clause-stopped
returns-in_err-send-clause-stopped g c =
    let send = c.in_err-send.ensures in
    let p = err_from_is_err_and c.from_residual.result c.from_residual.ensures.1 in
    rw (p.1, p.2) (stops_sending _ _ _ _ _ _ _ (sends _ _ _ _ _ _ _ _ c.loop.invariant.answered send.kept send.waiting send.asked send.unfailing))

-- the next line could not be heard
pub returns-in_err-hear-clause-stopped : goal.returns-in_err-hear-clause-stopped
returns-in_err-hear-clause-stopped g c =
    let send = c.in_ok-send.ensures in
    let hear = c.in_err-hear.ensures in
    let sent = sends _ _ _ _ _ _ _ _ c.loop.invariant.answered send.kept send.waiting send.asked send.unfailing in
    let p = err_from_is_err_and c.from_residual-in_err-hear.result c.from_residual-in_err-hear.ensures.1 in
    rw (p.1, p.2) (stops_hearing _ _ _ _ _ _ _ _ sent hear.refused hear.counted)

-- no line was left
pub returns-then-not-branch-clause-answered : goal.returns-then-not-branch-clause-answered
returns-then-not-branch-clause-answered g c =
    let send = c.in_ok-send.ensures in
    let hear = c.in_ok-hear.ensures in
    let sent = sends _ _ _ _ _ _ _ _ c.loop.invariant.answered send.kept send.waiting send.asked send.unfailing in
    ends _ _ _ _ _ _ _ _ _ sent c.loop.auto.counter-end c.if-not-branch.true hear.line hear.order hear.no_failure

-- the answer could not be said
pub returns-in_err-answer-clause-stopped : goal.returns-in_err-answer-clause-stopped
returns-in_err-answer-clause-stopped g c =
    let send = c.in_ok-send.ensures in
    let hear = c.in_ok-hear.ensures in
    let answer = c.in_err-answer.ensures in
    let sent = sends _ _ _ _ _ _ _ _ c.loop.invariant.answered send.kept send.waiting send.asked send.unfailing in
    let heard = hears _ _ _ _ _ _ _ _ _ sent c.if-not-branch.false hear.line hear.order hear.no_failure in
    let p = err_from_is_err_and c.from_residual-in_err-answer.result c.from_residual-in_err-answer.ensures.1 in
    rw (p.1, p.2) (stops_saying _ _ _ _ _ _ _ _ _ _ _ heard c.line.ensures answer.part.1 answer.part.2)

-- as many lines were heard as can be
pub returns-in_err-send-2-clause-stopped : goal.returns-in_err-send-2-clause-stopped
returns-in_err-send-2-clause-stopped g c =
    let send = c.in_err-send-2.ensures in
    let p = err_from_is_err_and c.from_residual-in_err-send-2.result c.from_residual-in_err-send-2.ensures.1 in
    rw (p.1, p.2) (stops_sending _ _ _ _ _ _ _ (sends _ _ _ _ _ _ _ _ c.loop.invariant.answered send.kept send.waiting send.asked send.unfailing))

pub returns-clause-answered : goal.returns-clause-answered
returns-clause-answered g c =
    let send = c.in_ok-send-2.ensures in
    let sent = sends _ _ _ _ _ _ _ _ c.loop.invariant.answered send.kept send.waiting send.asked send.unfailing in
    ends_at_most _ _ _ _ _ _ sent (omega (arith, c.loop.auto.counter-end, c.loop-test.false))
