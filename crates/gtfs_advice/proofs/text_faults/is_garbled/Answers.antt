use Rattle.std.proofs.Common.{◌∙◌, ap, sym, subst}
use Rattle.std.specs.Str.{IsUtf8, chars}
use Rattle.std.proofs.lemmas.Str.{IsUtf8-past_char, chars_past_char}
use Rattle.gtfs_advice.specs.TextFaults.{has_garbled}
use Rattle.gtfs_advice.proofs.Letters.{ended, has_garbled_behind, passed, seen}
use Rattle.gtfs_advice.proofs.text_faults.is_garbled.Goals as goal

pub loop-letter-init : goal.loop-letter-init
loop-letter-init c =
    let whole = ap (λ s. s.rest.now) c.into_iter-letter-iterator.ensures.into_iter_gives ∙ c.chars-letter-items.ensures.rest in
    record { text = subst IsUtf8 (sym whole) c.utf8.text; same = ap (λ text. has_garbled (chars text)) whole }

pub returns-then-is_odd : goal.returns-then-is_odd
returns-then-is_odd c =
    let behind = c.loop-letter.is_behind_lead in
    let rest = c.loop-letter.letter-iterator.rest.now in
    let later = c.next.new.self.rest.now in
    let letter = c.in-Some.letter in
    let cut = chars_past_char rest later letter c.loop-letter.invariant.text c.in-Some.ensures.steps.0 in
    seen behind letter (chars later) (sym c.is_odd.ensures ∙ c.if-is_odd.true) ∙ ap (has_garbled_behind behind) (sym cut) ∙ c.loop-letter.invariant.same

pub loop-letter-preserved : goal.loop-letter-preserved
loop-letter-preserved c =
    let behind = c.loop-letter.is_behind_lead in
    let rest = c.loop-letter.letter-iterator.rest.now in
    let later = c.next.new.self.rest.now in
    let letter = c.in-Some.letter in
    let cut = chars_past_char rest later letter c.loop-letter.invariant.text c.in-Some.ensures.steps.0 in
    let past = passed behind letter (chars later) (sym c.is_odd.ensures ∙ c.if-is_odd.false) in
    record {
      text = IsUtf8-past_char rest later letter c.loop-letter.invariant.text c.in-Some.ensures.steps.0;
      same = ap (λ b. has_garbled_behind b (chars later)) c.is_lead-is_behind_lead.ensures ∙ past ∙ ap (has_garbled_behind behind) (sym cut) ∙ c.loop-letter.invariant.same;
    }

pub returns : goal.returns
returns c = ended c.loop-letter.is_behind_lead c.loop-letter.letter-iterator.rest.now c.in-None.ensures.steps.0.0 ∙ c.loop-letter.invariant.same
