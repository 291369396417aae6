use Rattle.std.proofs.Common.{take}
use Rattle.std.specs.Prelude.{flat_map}
use Rattle.gtfs_cli.proofs.Sent.{output, SentWhole}
use Rattle.gtfs_cli.proofs.Tabled.{shown_sheet}
use Rattle.gtfs_cli.proofs.commands.timetable.send_sheets.Given as goal

abbrev pub invariant-loop-sheet : goal.invariant-loop-sheet
invariant-loop-sheet g l =
    SentWhole (flat_map shown_sheet (take l.sheet-index l.sheets)) (output (g.O.Out.told l.initial.out) (g.O.Out.failure_count l.initial.out))
    (output (g.O.Out.told l.out) (g.O.Out.failure_count l.out))
