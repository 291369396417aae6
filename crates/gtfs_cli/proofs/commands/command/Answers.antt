use Rattle.std.proofs.Common.{map, refl}
use Rattle.gtfs_conversation.specs.Conversation.{Hearing}
use Rattle.gtfs_cli.specs.AskedCommand.{plan_of}
use Rattle.gtfs_cli.specs.DevicesSeen.{Talk}
use Rattle.gtfs_cli.proofs.AskedOne.{ends-asked, unheard-asked}
use Rattle.gtfs_cli.proofs.Untaken.{ends-fault}
use Rattle.gtfs_cli.proofs.commands.command.Goals as goal

pub returns-in-Ok-Check-clause-ends : goal.returns-in-Ok-Check-clause-ends
returns-in-Ok-Check-clause-ends g c =
    let texts = map g.S.AsStr.text c.args.words.now in
    let talk : Talk = record {
      told = g.O.Out.told c.args.out.now;
      before = record { waiting = g.I.Input.waiting c.args.input.now; asked = g.I.Input.asked c.args.input.now; failures = g.I.Input.failure_count c.args.input.now };
      after = record { waiting = g.I.Input.waiting c.args.input.now; asked = g.I.Input.asked c.args.input.now; failures = g.I.Input.failure_count c.args.input.now };
    } in
    let plan = plan_of (g.F.Folders.limit c.args.folders.now) (g.F.Folders.held c.args.folders.now) talk texts in
    ends-asked plan texts c.in-Ok-Check.field-0 _ c.in-Ok-Check.field-0-is c.in-Ok-Check.ensures.taken c.in-Ok-Check.ensures.read _ _ c.print_report.result _ refl c.print_report.ensures

pub returns-in-Ok-Board-clause-ends : goal.returns-in-Ok-Board-clause-ends
returns-in-Ok-Board-clause-ends g c =
    let texts = map g.S.AsStr.text c.args.words.now in
    let talk : Talk = record {
      told = g.O.Out.told c.args.out.now;
      before = record { waiting = g.I.Input.waiting c.args.input.now; asked = g.I.Input.asked c.args.input.now; failures = g.I.Input.failure_count c.args.input.now };
      after = record { waiting = g.I.Input.waiting c.args.input.now; asked = g.I.Input.asked c.args.input.now; failures = g.I.Input.failure_count c.args.input.now };
    } in
    let plan = plan_of (g.F.Folders.limit c.args.folders.now) (g.F.Folders.held c.args.folders.now) talk texts in
    ends-asked plan texts c.in-Ok-Board.field-0 _ c.in-Ok-Board.field-0-is c.in-Ok-Board.ensures.taken c.in-Ok-Board.ensures.read _ _ c.answer.result _ c.answer.ensures c.print_board.ensures

pub returns-in-Ok-Boards-clause-ends : goal.returns-in-Ok-Boards-clause-ends
returns-in-Ok-Boards-clause-ends g c =
    let texts = map g.S.AsStr.text c.args.words.now in
    let talk : Talk = record {
      told = g.O.Out.told c.args.out.now;
      before = record { waiting = g.I.Input.waiting c.args.input.now; asked = g.I.Input.asked c.args.input.now; failures = g.I.Input.failure_count c.args.input.now };
      after = record { waiting = g.I.Input.waiting c.args.input.now; asked = g.I.Input.asked c.args.input.now; failures = g.I.Input.failure_count c.args.input.now };
    } in
    let plan = plan_of (g.F.Folders.limit c.args.folders.now) (g.F.Folders.held c.args.folders.now) talk texts in
    ends-asked plan texts c.in-Ok-Boards.field-0 _ c.in-Ok-Boards.field-0-is c.in-Ok-Boards.ensures.taken c.in-Ok-Boards.ensures.read _ _ c.answer-in-Ok-Boards.result _ c.answer-in-Ok-Boards.ensures c.print_boards.ensures

pub returns-in-Ok-Serve-clause-ends : goal.returns-in-Ok-Serve-clause-ends
returns-in-Ok-Serve-clause-ends g c =
    let texts = map g.S.AsStr.text c.args.words.now in
    let talk : Talk = record {
      told = g.O.Out.told c.args.out.now;
      before = record { waiting = g.I.Input.waiting c.args.input.now; asked = g.I.Input.asked c.args.input.now; failures = g.I.Input.failure_count c.args.input.now };
      after = record { waiting = g.I.Input.waiting c.serve.new.input; asked = g.I.Input.asked c.serve.new.input; failures = g.I.Input.failure_count c.serve.new.input };
    } in
    let plan = plan_of (g.F.Folders.limit c.args.folders.now) (g.F.Folders.held c.args.folders.now) talk texts in
    ends-asked plan texts c.in-Ok-Serve.field-0 _ c.in-Ok-Serve.field-0-is c.in-Ok-Serve.ensures.taken c.in-Ok-Serve.ensures.read _ _ c.answer-in-Ok-Serve.result _ c.answer-in-Ok-Serve.ensures c.serve.ensures

pub returns-in-Ok-Timetable-clause-ends : goal.returns-in-Ok-Timetable-clause-ends
returns-in-Ok-Timetable-clause-ends g c =
    let texts = map g.S.AsStr.text c.args.words.now in
    let talk : Talk = record {
      told = g.O.Out.told c.args.out.now;
      before = record { waiting = g.I.Input.waiting c.args.input.now; asked = g.I.Input.asked c.args.input.now; failures = g.I.Input.failure_count c.args.input.now };
      after = record { waiting = g.I.Input.waiting c.args.input.now; asked = g.I.Input.asked c.args.input.now; failures = g.I.Input.failure_count c.args.input.now };
    } in
    let plan = plan_of (g.F.Folders.limit c.args.folders.now) (g.F.Folders.held c.args.folders.now) talk texts in
    ends-asked plan texts c.in-Ok-Timetable.field-0 _ c.in-Ok-Timetable.field-0-is c.in-Ok-Timetable.ensures.taken c.in-Ok-Timetable.ensures.read _ _ c.answer-in-Ok-Timetable.result _ c.answer-in-Ok-Timetable.ensures c.print_timetable.ensures

pub returns-in-Ok-Merge-clause-ends : goal.returns-in-Ok-Merge-clause-ends
returns-in-Ok-Merge-clause-ends g c =
    let texts = map g.S.AsStr.text c.args.words.now in
    let talk : Talk = record {
      told = g.O.Out.told c.args.out.now;
      before = record { waiting = g.I.Input.waiting c.args.input.now; asked = g.I.Input.asked c.args.input.now; failures = g.I.Input.failure_count c.args.input.now };
      after = record { waiting = g.I.Input.waiting c.args.input.now; asked = g.I.Input.asked c.args.input.now; failures = g.I.Input.failure_count c.args.input.now };
    } in
    let plan = plan_of (g.F.Folders.limit c.args.folders.now) (g.F.Folders.held c.args.folders.now) talk texts in
    ends-asked plan texts c.in-Ok-Merge.field-0 _ c.in-Ok-Merge.field-0-is c.in-Ok-Merge.ensures.taken c.in-Ok-Merge.ensures.read _ _ c.answer-in-Ok-Merge.result _ c.answer-in-Ok-Merge.ensures c.print_merge.ensures

pub returns-in-Ok-Serve-clause-unheard : goal.returns-in-Ok-Serve-clause-unheard
returns-in-Ok-Serve-clause-unheard g c =
    let texts = map g.S.AsStr.text c.args.words.now in
    unheard-asked texts c.in-Ok-Serve.field-0 _ c.in-Ok-Serve.field-0-is c.in-Ok-Serve.ensures.taken c.in-Ok-Serve.ensures.read _

pub returns-in-Err-clause-ends : goal.returns-in-Err-clause-ends
returns-in-Err-clause-ends g c =
    let texts = map g.S.AsStr.text c.args.words.now in
    let heard : Hearing = record { waiting = g.I.Input.waiting c.args.input.now; asked = g.I.Input.asked c.args.input.now; failures = g.I.Input.failure_count c.args.input.now } in
    let talk : Talk = record { told = g.O.Out.told c.args.out.now; before = heard; after = heard } in
    ends-fault talk refl texts _ _ _ c.answer_fault.result (c.answer_fault.ensures.ends texts c.in-Err.ensures.fault)
    (λ taken. (c.answer_fault.ensures.memory (c.in-Err.ensures.memory taken), c.answer_fault.ensures.unsent (c.in-Err.ensures.memory taken)))
    c.answer_fault.ensures.clean
