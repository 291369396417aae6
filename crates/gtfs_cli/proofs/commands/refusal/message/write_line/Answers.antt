use Rattle.std.proofs.Common.{◌++◌, List, ℕ, codes, refl, subst}
use Rattle.gtfs_schema.specs.FieldValues.{plain}
use Rattle.gtfs_cli.specs.RefusalMessages.{line_of}
use Rattle.gtfs_cli.specs.SentText.{SendsBeginning}
use Rattle.std.specs.Io.KnownBytes.{Appends}
use Rattle.gtfs_table.proofs.FolderFacts.{on_err-always}
use Rattle.gtfs_cli.proofs.Parts.{all-left, err-then, first-sent, last-cut, one-cut, one-sent, some-sent}
use Rattle.gtfs_cli.proofs.commands.refusal.message.write_line.Goals as goal

pub returns-in_err-write_text-clause-cut_short : goal.returns-in_err-write_text-clause-cut_short
returns-in_err-write_text-clause-cut_short g c =
    let before = g.E.Out.told c.args.err.now in
    let after = g.E.Out.told c.write_text.new.out in
    let text = line_of c.args.first.now c.args.second.now in
    let past = plain c.args.first.now ++ (plain c.args.second.now ++ codes "\n") in
    on_err-always c.from_residual.result (SendsBeginning before after text)
    (one-cut before before after text text (codes "gtfs: ") past (all-left before text) refl
    (some-sent before after (codes "gtfs: ") c.in_err-write_text.field-0.0.written c.in_err-write_text.ensures.prefix))

pub returns-in_err-write_shown-clause-cut_short : goal.returns-in_err-write_shown-clause-cut_short
returns-in_err-write_shown-clause-cut_short g c =
    let before = g.E.Out.told c.args.err.now in
    let begun = g.E.Out.told c.write_text.new.out in
    let after = g.E.Out.told c.write_shown.new.err in
    let text = line_of c.args.first.now c.args.second.now in
    let first = plain c.args.first.now in
    let past = plain c.args.second.now ++ codes "\n" in
    let left = one-sent before before begun text text (codes "gtfs: ") (first ++ past) (all-left before text) refl c.in_ok-write_text.ensures.whole in
    on_err-always c.from_residual-in_err-write_shown.result (SendsBeginning before after text)
    (one-cut before begun after text (first ++ past) first past left refl
    (subst (λ (t : List ℕ). SendsBeginning begun after (plain t)) c.as_bytes.ensures.value c.in_err-write_shown.ensures.cut_short))

pub returns-in_err-write_shown-2-clause-cut_short : goal.returns-in_err-write_shown-2-clause-cut_short
returns-in_err-write_shown-2-clause-cut_short g c =
    let before = g.E.Out.told c.args.err.now in
    let begun = g.E.Out.told c.write_text.new.out in
    let mid = g.E.Out.told c.write_shown.new.err in
    let after = g.E.Out.told c.write_shown-2.new.err in
    let text = line_of c.args.first.now c.args.second.now in
    let first = plain c.args.first.now in
    let second = plain c.args.second.now in
    let past = second ++ codes "\n" in
    let left = one-sent before before begun text text (codes "gtfs: ") (first ++ past) (all-left before text) refl c.in_ok-write_text.ensures.whole in
    let more = one-sent before begun mid text (first ++ past) first past left refl
    (subst (λ (t : List ℕ). Appends begun mid (plain t)) c.as_bytes.ensures.value c.in_ok-write_shown.ensures.whole) in
    on_err-always c.from_residual-in_err-write_shown-2.result (SendsBeginning before after text)
    (one-cut before mid after text past second (codes "\n") more refl
    (subst (λ (t : List ℕ). SendsBeginning mid after (plain t)) c.as_bytes-2.ensures.value c.in_err-write_shown-2.ensures.cut_short))

pub returns-clause-cut_short : goal.returns-clause-cut_short
returns-clause-cut_short g c =
    let before = g.E.Out.told c.args.err.now in
    let begun = g.E.Out.told c.write_text.new.out in
    let mid = g.E.Out.told c.write_shown.new.err in
    let late = g.E.Out.told c.write_shown-2.new.err in
    let after = g.E.Out.told c.write_text-2.new.out in
    let text = line_of c.args.first.now c.args.second.now in
    let first = plain c.args.first.now in
    let second = plain c.args.second.now in
    let past = second ++ codes "\n" in
    let left = one-sent before before begun text text (codes "gtfs: ") (first ++ past) (all-left before text) refl c.in_ok-write_text.ensures.whole in
    let more = one-sent before begun mid text (first ++ past) first past left refl
    (subst (λ (t : List ℕ). Appends begun mid (plain t)) c.as_bytes.ensures.value c.in_ok-write_shown.ensures.whole) in
    let last = one-sent before mid late text past second (codes "\n") more refl
    (subst (λ (t : List ℕ). Appends mid late (plain t)) c.as_bytes-2.ensures.value c.in_ok-write_shown-2.ensures.whole) in
    err-then c.write_text-2.result (SendsBeginning late after (codes "\n")) (SendsBeginning before after text)
    (λ cut. last-cut before late after text (codes "\n") last cut)
    (first-sent c.write_text-2.result late after (codes "\n") c.write_text-2.ensures.prefix)
