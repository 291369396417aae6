use Rattle.std.proofs.Common.{◌≡◌, ◌∙◌, List, ℕ, subst}
use Rattle.gtfs_cli.specs.SentText.{Output, Sends}
use Rattle.gtfs_cli.specs.WordFaults.{fault_line}
use Rattle.gtfs_cli.proofs.Told.{sent-so}
use Rattle.gtfs_cli.proofs.program_end.tell.Goals as goal

pub returns-clause-told : goal.returns-clause-told
returns-clause-told g c =
    let before : Output = record { told = g.E.Out.told c.args.err.now; failures = g.E.Out.failure_count c.args.err.now } in
    let after : Output = record { told = g.E.Out.told c.write_text.new.out; failures = g.E.Out.failure_count c.write_text.new.out } in
    let line : c.as_bytes.result.now ≡ fault_line c.args.fault = c.as_bytes.ensures.value ∙ c.line.ensures in
    subst (λ (text : List ℕ). Sends before after text) line
    (sent-so c.write_text.result before after _ c.write_text.ensures.whole c.write_text.ensures.prefix c.write_text.ensures.counted)
