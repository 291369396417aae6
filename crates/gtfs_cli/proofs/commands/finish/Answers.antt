use Rattle.std.proofs.Common.{Bool, Result, subst, sym}
use Rattle.gtfs_cli.specs.RefusalMessages.{message}
use Rattle.gtfs_cli.specs.CommandPlan.{TellsEnd}
use Rattle.gtfs_cli.specs.DevicesSeen.{Output}
use Rattle.gtfs_cli.specs.declared.commands.refusal.Refusal.{Refusal}
use Rattle.gtfs_cli.proofs.Ended.{sends}
use Rattle.gtfs_cli.proofs.commands.finish.Goals as goal

pub returns-in-Err-clause-told : goal.returns-in-Err-clause-told
returns-in-Err-clause-told g c =
    let before : Output = record { told = g.E.Out.told c.args.err.now; failures = g.E.Out.failure_count c.args.err.now } in
    let after : Output = record { told = g.E.Out.told c.write.new.err; failures = g.E.Out.failure_count c.write.new.err } in
    subst (λ (ended : Result Bool Refusal). TellsEnd before after ended) (sym c.in-Err.is)
    (sends c.write.result _ _ (message c.in-Err.refusal) c.write.ensures.whole c.write.ensures.cut_short c.write.ensures.counted)
