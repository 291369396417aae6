-- The command line of the program `gtfs`, as `clap` sees it.
use Rattle.std.specs.Prelude.{Some, codes, true}
use Rattle.clap.specs.Words.{App, Rule, Text, new_app, new_rule, with_rule, with_subcommand}
use Rattle.clap.specs.declared.builder.ArgAction.TheVariants.{Set, SetTrue}

-- a plain text that is set once
abbrev pub text_rule : Text → Rule
text_rule id = record (new_rule id) { action = Some Set }

-- a text that must be given, known by its position among the words
abbrev pub word_rule : Text → Rule
word_rule id = record (text_rule id) { required = true }

-- a text that must be given, as `--id text` or `--id=text`; help has one name for the text
abbrev pub option_rule : Text → Rule
option_rule id = record (word_rule id) { long = Some id; value_names = 1 }

-- a text that may be given, as `--id text` or `--id=text`; help has one name for the text
abbrev pub choice_rule : Text → Rule
choice_rule id = record (text_rule id) { long = Some id; value_names = 1 }

-- a flag `--id`, which has no text and may be given once
abbrev pub flag_rule : Text → Rule
flag_rule id = record (new_rule id) { long = Some id; action = Some SetTrue }

-- `check DIR [--values] [--summary] [--advise] [--day D]`
abbrev pub check_app : App
check_app = with_rule (with_rule (with_rule (with_rule (with_rule (new_app (codes "check")) (word_rule (codes "DIR")))
    (flag_rule (codes "values"))) (flag_rule (codes "summary"))) (flag_rule (codes "advise"))) (choice_rule (codes "day"))

-- what `board` needs: `board DIR --zone FILE --stop ID --from T --until T`
abbrev pub needed_board_app : App
needed_board_app = with_rule (with_rule (with_rule (with_rule (with_rule (new_app (codes "board"))
    (word_rule (codes "DIR"))) (option_rule (codes "zone"))) (option_rule (codes "stop")))
    (option_rule (codes "from"))) (option_rule (codes "until"))

-- `board DIR --zone FILE --stop ID --from T --until T [--limit N] [--after KEY] [--interpolate]`
abbrev pub board_app : App
board_app = with_rule (with_rule (with_rule needed_board_app (choice_rule (codes "limit"))) (choice_rule (codes "after")))
    (flag_rule (codes "interpolate"))

-- `boards DIR --zone FILE --requests FILE [--interpolate]`
abbrev pub boards_app : App
boards_app = with_rule (with_rule (with_rule (with_rule (new_app (codes "boards")) (word_rule (codes "DIR")))
    (option_rule (codes "zone"))) (option_rule (codes "requests"))) (flag_rule (codes "interpolate"))

-- `serve DIR --zone FILE [--interpolate]`
abbrev pub serve_app : App
serve_app = with_rule (with_rule (with_rule (new_app (codes "serve")) (word_rule (codes "DIR"))) (option_rule (codes "zone")))
    (flag_rule (codes "interpolate"))

-- `timetable DIR --route ID --date D [--direction 0|1] [--interpolate]`
abbrev pub timetable_app : App
timetable_app = with_rule (with_rule (with_rule (with_rule (with_rule (new_app (codes "timetable"))
    (word_rule (codes "DIR"))) (option_rule (codes "route"))) (option_rule (codes "date"))) (choice_rule (codes "direction")))
    (flag_rule (codes "interpolate"))

-- `merge A B OUT [--near N] [--cutoff D]`
abbrev pub merge_app : App
merge_app = with_rule (with_rule (with_rule (with_rule (with_rule (new_app (codes "merge")) (word_rule (codes "A")))
    (word_rule (codes "B"))) (word_rule (codes "OUT"))) (choice_rule (codes "near"))) (choice_rule (codes "cutoff"))

-- `gtfs`, which has a version, and of which one of the commands must be named; `help` is none of them
abbrev pub gtfs_top : App
gtfs_top = record (new_app (codes "gtfs")) {
  top = record (new_app (codes "gtfs")).top {
    has_version = true;
    subcommand_required = true;
    disable_help_subcommand = true;
  };
}

abbrev pub gtfs_app : App
gtfs_app = with_subcommand (with_subcommand (with_subcommand (with_subcommand (with_subcommand (with_subcommand gtfs_top check_app.top) board_app.top) boards_app.top) serve_app.top) timetable_app.top) merge_app.top
