use Rattle.gtfs_conversation.specs.Conversation.{Hearing}
use Rattle.gtfs_cli.specs.DevicesSeen.{Output, Talk}
use Rattle.gtfs_cli.proofs.Served.{converses-all}
use Rattle.gtfs_cli.proofs.commands.serve.answer_lines.Goals as goal

pub returns-in-Ok : goal.returns-in-Ok
returns-in-Ok g c =
    let old : Hearing = record { waiting = g.I.Input.waiting c.args.input.now; asked = g.I.Input.asked c.args.input.now; failures = g.I.Input.failure_count c.args.input.now } in
    let new : Hearing = record { waiting = g.I.Input.waiting c.converse.new.input; asked = g.I.Input.asked c.converse.new.input; failures = g.I.Input.failure_count c.converse.new.input } in
    let talk : Talk = record { told = g.O.Out.told c.args.out.now; before = old; after = new } in
    let before : Output = record { told = g.O.Out.told c.args.out.now; failures = g.O.Out.failure_count c.args.out.now } in
    let after : Output = record { told = g.O.Out.told c.converse.new.out; failures = g.O.Out.failure_count c.converse.new.out } in
    converses-all c.in_ok-index.index.feed c.args.feed.now c.in_ok-index.ensures.feed c.args.zone.now c.in_ok-index.index.times c.args.times c.in_ok-index.ensures.times talk before after _
    c.in-Ok.ensures.answered c.in-Ok.ensures.no_failure
