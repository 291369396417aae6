use Rattle.std.proofs.Common.{◌∙◌, inl, inr, refl, subst, arith}
use Rattle.gtfs_conversation.specs.Conversation.{Hearing}
use Rattle.gtfs_commands.specs.Words.{serve_texts_of}
use Rattle.gtfs_cli.specs.ReadingCauses.{IsZoneCause, IsReadingCause}
use Rattle.gtfs_cli.specs.FilesInFolders.{HoldsZone}
use Rattle.gtfs_cli.specs.CommandPlan.{Ends}
use Rattle.gtfs_cli.specs.DevicesSeen.{Output, Talk}
use Rattle.gtfs_cli.specs.ServeCommand.{serve_plan, Converses}
use Rattle.gtfs_cli.specs.declared.commands.refusal.Refusal.{Refusal}
use Rattle.gtfs_rows.specs.RowsInMemory.{content_of_parts}
use Rattle.gtfs_times.specs.declared.times.Times.{Times}
use Rattle.gtfs_cli.proofs.BoardParts.{has-passing}
use Rattle.gtfs_cli.proofs.Plans.{ends-refused, err-up}
use Rattle.gtfs_cli.proofs.ReadsThen.{asks-done, asks-then, reads-back}
use Rattle.gtfs_cli.proofs.Served.{ends-served, serves-none}
use Rattle.gtfs_cli.proofs.commands.serve.serve.Goals as goal

pub returns-in_err-feed : goal.returns-in_err-feed
returns-in_err-feed g c =
    let limit = g.F.Folders.limit c.args.folders.now in
    let held = g.F.Folders.held c.args.folders.now in
    let asked = serve_texts_of c.args.words.now in
    let heard : Hearing = record { waiting = g.I.Input.waiting c.args.input.now; asked = g.I.Input.asked c.args.input.now; failures = g.I.Input.failure_count c.args.input.now } in
    let talk : Talk = record { told = g.O.Out.told c.args.out.now; before = heard; after = heard } in
    let r = c.in_err-feed.field-0.0 in
    let bad = c.in_err-feed.ensures.refused in
    let reads = c.in_err-feed.ensures.reads in
    let other = λ (e : Refusal). IsReadingCause limit held asked.dir (g.F.Folders.failure_count c.args.folders.now) (g.F.Folders.failure_count c.read_feed.new.folders) e in
    err-up c.from_residual.result r (Ends (serve_plan limit held talk asked) _ _) c.from_residual.ensures.1
    (ends-refused (serve_plan limit held talk asked) _ _ _ r (reads.unchanged, serves-none limit held talk asked r refl (λ is. subst other is bad) (λ is. subst other is bad))
    (inl (inl bad)) 10 (omega arith) reads.asks)

pub returns-in_err-zone : goal.returns-in_err-zone
returns-in_err-zone g c =
    let limit = g.F.Folders.limit c.args.folders.now in
    let held = g.F.Folders.held c.args.folders.now in
    let asked = serve_texts_of c.args.words.now in
    let heard : Hearing = record { waiting = g.I.Input.waiting c.args.input.now; asked = g.I.Input.asked c.args.input.now; failures = g.I.Input.failure_count c.args.input.now } in
    let talk : Talk = record { told = g.O.Out.told c.args.out.now; before = heard; after = heard } in
    let r = c.in_err-zone.field-0.0 in
    let reads = c.in_err-zone.ensures.reads in
    let read = c.in_ok-feed.ensures.reads in
    let bad = reads-back 10 _ _ c.in_ok-feed.feed (λ l h k. IsZoneCause l h asked.zone k (g.F.Folders.failure_count c.read_zone.new.folders) r) read c.in_err-zone.ensures.refused in
    let other = λ (e : Refusal). IsZoneCause limit held asked.zone (g.F.Folders.failure_count c.args.folders.now) (g.F.Folders.failure_count c.read_zone.new.folders) e in
    err-up c.from_residual-in_err-zone.result r (Ends (serve_plan limit held talk asked) _ _) c.from_residual-in_err-zone.ensures.1
    (ends-refused (serve_plan limit held talk asked) _ _ _ r
    (reads.unchanged ∙ read.unchanged, serves-none limit held talk asked r refl (λ is. subst other is bad) (λ is. subst other is bad))
    (inl (inr (has-passing limit held asked.dir c.in_ok-feed.feed c.in_ok-feed.ensures.read, inl bad)))
    11 (omega arith) (asks-then 10 1 _ _ _ c.in_ok-feed.feed _ read.asks reads.asks))

pub returns : goal.returns
returns g c =
    let limit = g.F.Folders.limit c.args.folders.now in
    let held = g.F.Folders.held c.args.folders.now in
    let asked = serve_texts_of c.args.words.now in
    let old : Hearing = record { waiting = g.I.Input.waiting c.args.input.now; asked = g.I.Input.asked c.args.input.now; failures = g.I.Input.failure_count c.args.input.now } in
    let new : Hearing = record { waiting = g.I.Input.waiting c.answer_lines.new.input; asked = g.I.Input.asked c.answer_lines.new.input; failures = g.I.Input.failure_count c.answer_lines.new.input } in
    let talk : Talk = record { told = g.O.Out.told c.args.out.now; before = old; after = new } in
    let before : Output = record { told = g.O.Out.told c.args.out.now; failures = g.O.Out.failure_count c.args.out.now } in
    let after : Output = record { told = g.O.Out.told c.answer_lines.new.out; failures = g.O.Out.failure_count c.answer_lines.new.out } in
    let read = c.in_ok-feed.ensures.reads in
    let reads = c.in_ok-zone.ensures.reads in
    let feed = c.in_ok-feed.feed in
    let zone = reads-back 10 _ _ feed (λ l h k. HoldsZone l h asked.zone c.in_ok-zone.zone) read c.in_ok-zone.ensures.read in
    ends-served limit held asked talk feed c.in_ok-zone.zone c.in_ok-feed.ensures.read zone _ _ before after (reads.unchanged ∙ read.unchanged) c.answer_lines.result
    (asks-done 11 _ _ c.in_ok-zone.zone c.answer_lines.result (asks-then 10 1 _ _ _ feed _ read.asks reads.asks))
    (subst (λ (times : Times). Converses (content_of_parts feed) c.in_ok-zone.zone times talk before after c.answer_lines.result) c.read_times.ensures c.answer_lines.ensures)
