use Rattle.std.proofs.Common.{◌≡◌, ◌∙◌, ap, List, ℕ, sym, subst}
use Rattle.std.specs.Prelude.{OnErr}
use Rattle.gtfs_cli.specs.RefusalMessages.{message}
use Rattle.gtfs_cli.specs.SentText.{SendsBeginning}
use Rattle.gtfs_cli.proofs.Parts.{first-sent}
use Rattle.gtfs_cli.proofs.commands.refusal.Refusal.write.Goals as goal

pub returns-in-Words-clause-cut_short : goal.returns-in-Words-clause-cut_short
returns-in-Words-clause-cut_short g c =
    let before = g.E.Out.told c.args.err.now in
    let after = g.E.Out.told c.write_text.new.out in
    let same : c.as_bytes.result.now ≡ message c.args.self.now = c.as_bytes.ensures.value ∙ ap message (sym c.in-Words.is) in
    subst (λ (t : List ℕ). OnErr c.write_text.result (SendsBeginning before after t)) same
    (first-sent c.write_text.result before after c.as_bytes.result.now c.write_text.ensures.prefix)
