use Rattle.std.proofs.Common.{◌≡◌, ◌∙◌, refl, ap, subst, IfOk}
use Rattle.clap.specs.Words.{App, app_of, with_subcommand}
use Rattle.gtfs_commands.specs.CommandLine.{board_app, boards_app, check_app, merge_app, serve_app, timetable_app}
use Rattle.gtfs_commands.proofs.definitions.gtfs.Goals as goal

pub returns : goal.returns
returns c =
    let are_checks = c.in_ok-checks.ensures check_app c.check_command.ensures refl
    ∙ ap (λ (a : App). with_subcommand a check_app.top) c.top.ensures in
    let are_single = c.in_ok-single.ensures board_app c.board_command.ensures refl
    ∙ ap (λ (a : App). with_subcommand a board_app.top) are_checks in
    let are_boards = c.in_ok-boards.ensures boards_app c.boards_command.ensures refl
    ∙ ap (λ (a : App). with_subcommand a boards_app.top) are_single in
    let are_serving = c.in_ok-serving.ensures serve_app c.serve_command.ensures refl
    ∙ ap (λ (a : App). with_subcommand a serve_app.top) are_boards in
    let are_timetables = c.in_ok-timetables.ensures timetable_app c.timetable_command.ensures refl
    ∙ ap (λ (a : App). with_subcommand a timetable_app.top) are_serving in
    subst (λ (a : App). IfOk c.with_command-6.result (λ made. app_of made ≡ with_subcommand a merge_app.top)) are_timetables
    (c.with_command-6.ensures merge_app c.merge_command.ensures refl)
