use Rattle.gtfs_commands.proofs.definitions.timetable.timetable_command.Goals as goal

pub returns : goal.returns
returns c =
    c.with_flag.ensures _ (c.with_choice-direction.ensures _ (c.with_option-date.ensures _ (c.with_option-route.ensures _
    (c.with_word-dir.ensures _ c.new_command-timetable.ensures))))
