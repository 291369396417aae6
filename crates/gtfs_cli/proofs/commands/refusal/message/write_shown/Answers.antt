use Rattle.std.proofs.Common.{◌+◌, ◌∷◌, List, [], ℕ, refl, subst, sym, take, drop, arith}
use Rattle.std.specs.Io.KnownBytes.{Appends}
use Rattle.std.proofs.lemmas.List.{take_rest}
use Rattle.gtfs_table.proofs.FolderFacts.{on_err-always}
use Rattle.gtfs_table.proofs.StoreFacts.{on_ok-map}
use Rattle.gtfs_schema.specs.FieldValues.{plain}
use Rattle.gtfs_cli.specs.SentText.{SendsBeginning}
use Rattle.gtfs_cli.proofs.ControlSplit.{none-found, split-at}
use Rattle.gtfs_cli.proofs.Parts.{Leaves, err-then, first-sent, last-cut, last-sent, one-cut, one-sent, some-sent}
use Rattle.gtfs_cli.proofs.commands.refusal.message.write_shown.Goals as goal

pub returns-in_err-write_text-clause-cut_short : goal.returns-in_err-write_text-clause-cut_short
returns-in_err-write_text-clause-cut_short g c =
    let before = g.E.Out.told c.args.err.now in
    let now = g.E.Out.told c.loop-at.err in
    let after = g.E.Out.told c.write_text.new.out in
    let text = plain c.args.text.now in
    let rest = c.loop-at.rest.now in
    let at = c.in-Some.at in
    let front = take at rest in
    let past = plain (drop (at + 1) rest) in
    on_err-always c.from_residual.result (SendsBeginning before after text)
    (one-cut before now after text (plain rest) front (32 ∷ past) c.loop-at.invariant.leaves (split-at rest at c.in-Some.ensures.index)
    (some-sent now after front c.in_err-write_text.field-0.0.written c.in_err-write_text.ensures.prefix))

pub returns-in_err-write_text-2-clause-cut_short : goal.returns-in_err-write_text-2-clause-cut_short
returns-in_err-write_text-2-clause-cut_short g c =
    let before = g.E.Out.told c.args.err.now in
    let now = g.E.Out.told c.loop-at.err in
    let mid = g.E.Out.told c.write_text.new.out in
    let after = g.E.Out.told c.write_text-in-Some.new.out in
    let text = plain c.args.text.now in
    let rest = c.loop-at.rest.now in
    let at = c.in-Some.at in
    let front = take at rest in
    let past = plain (drop (at + 1) rest) in
    let left = one-sent before now mid text (plain rest) front (32 ∷ past) c.loop-at.invariant.leaves (split-at rest at c.in-Some.ensures.index) c.in_ok-write_text.ensures.whole in
    on_err-always c.from_residual-in_err-write_text-2.result (SendsBeginning before after text)
    (one-cut before mid after text (32 ∷ past) (32 ∷ []) past left refl
    (some-sent mid after (32 ∷ []) c.in_err-write_text-2.field-0.0.written c.in_err-write_text-2.ensures.prefix))

pub loop-at-preserved : goal.loop-at-preserved
loop-at-preserved g c =
    let before = g.E.Out.told c.args.err.now in
    let now = g.E.Out.told c.loop-at.err in
    let mid = g.E.Out.told c.write_text.new.out in
    let after = g.E.Out.told c.write_text-in-Some.new.out in
    let text = plain c.args.text.now in
    let rest = c.loop-at.rest.now in
    let at = c.in-Some.at in
    let front = take at rest in
    let past = plain (drop (at + 1) rest) in
    let left = one-sent before now mid text (plain rest) front (32 ∷ past) c.loop-at.invariant.leaves (split-at rest at c.in-Some.ensures.index) c.in_ok-write_text.ensures.whole in
    let later = one-sent before mid after text (32 ∷ past) (32 ∷ []) past left refl c.in_ok-write_text-2.ensures.whole in
    record {
      leaves = subst (λ (t : List ℕ). Leaves before after text (plain t)) (sym (take_rest rest (at + 1))) later;
      grows = omega (arith, c.loop-at.invariant.grows, c.write_text.ensures.grows, c.write_text-in-Some.ensures.grows);
    }

pub returns-clause-whole : goal.returns-clause-whole
returns-clause-whole g c =
    let before = g.E.Out.told c.args.err.now in
    let now = g.E.Out.told c.loop-at.err in
    let after = g.E.Out.told c.write_text-2.new.out in
    let text = plain c.args.text.now in
    let rest = c.loop-at.rest.now in
    let same = none-found rest c.first_control.result c.first_control.ensures.index c.in_default.not-Some in
    on_ok-map c.write_text-2.result (Appends now after rest) (Appends before after text)
    (λ out. last-sent before now after text (plain rest) c.loop-at.invariant.leaves (subst (λ (t : List ℕ). Appends now after t) (sym same) out))
    c.write_text-2.ensures.whole

pub returns-clause-cut_short : goal.returns-clause-cut_short
returns-clause-cut_short g c =
    let before = g.E.Out.told c.args.err.now in
    let now = g.E.Out.told c.loop-at.err in
    let after = g.E.Out.told c.write_text-2.new.out in
    let text = plain c.args.text.now in
    let rest = c.loop-at.rest.now in
    let same = none-found rest c.first_control.result c.first_control.ensures.index c.in_default.not-Some in
    err-then c.write_text-2.result (SendsBeginning now after rest) (SendsBeginning before after text)
    (λ begun. last-cut before now after text (plain rest) c.loop-at.invariant.leaves (subst (λ (t : List ℕ). SendsBeginning now after t) (sym same) begun))
    (first-sent c.write_text-2.result now after rest c.write_text-2.ensures.prefix)
