use Rattle.gtfs_commands.proofs.OneAsked.{one_board, one_boards, one_check, one_merge, one_serve, one_timetable}
use Rattle.gtfs_commands.proofs.law.words_ask_for_one.Goals as goal

pub returns : goal.returns
returns c = record { check = one_check; board = one_board; boards = one_boards; serve = one_serve; timetable = one_timetable; merge = one_merge }
