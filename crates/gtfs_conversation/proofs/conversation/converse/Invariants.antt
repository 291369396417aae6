use Rattle.std.proofs.Common.{◌≡◌}
use Rattle.gtfs_conversation.proofs.ExchangeLemmas.{Answered}
use Rattle.gtfs_conversation.specs.Conversation.{Hearing}
use Rattle.gtfs_conversation.proofs.conversation.converse.Given as goal

-- as many lines as the loop took turns were heard and answered
abbrev pub invariant-loop : goal.invariant-loop
invariant-loop g l =
    let hearing : g.row.I.Denot → Hearing = λ input. record {
      waiting = g.I.Input.waiting input;
      asked = g.I.Input.asked input;
      failures = g.I.Input.failure_count input;
    } in
    record {
      answered : Answered (g.A.Answer.is_answer l.fn.answers) (g.O.Out.told l.fn.out) (hearing l.fn.input) (hearing l.input) (g.O.Out.told l.out) l.counter;
      counted : g.O.Out.failure_count l.out ≡ g.O.Out.failure_count l.fn.out;
    }
