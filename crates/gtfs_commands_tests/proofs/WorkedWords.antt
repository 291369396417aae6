-- Worked words: what they ask for, what is the matter with them, computed.
use Rattle.std.specs.Prelude.{◌≡◌, List, [], ◌∷◌, Some, None, codes, true, false}
use Rattle.std.proofs.Common.{refl}
use Rattle.clap.specs.Words.{Text, fault_of, takes}
use Rattle.clap.specs.declared.error.kind.ErrorKind.TheVariants as kind
use Rattle.clap.proofs.OnLiterals.{clap_on_literals}
use Rattle.gtfs_commands.specs.Words.{gtfs_app, AreForHelp, AreForVersion, AreRefused, AsksBoardOf, AsksBoardsOf, AsksCheckOf, AsksMergeOf, AsksServeOf, AsksTimetableOf, BoardTexts, BoardsTexts, CheckTexts, MergeTexts, ServeTexts, TimetableTexts}

-- a check
abbrev check_words : List Text
check_words = codes "gtfs" ∷ codes "check" ∷ codes "f1" ∷ []

abbrev check_texts : CheckTexts
check_texts = record { dir = codes "f1"; values = false; summary = false; advise = false; day = None }

check_asked : AsksCheckOf check_words check_texts
unfolding clap_on_literals
check_asked = record { taken = refl; asks = (refl, record { dir = refl; values = refl; summary = refl; advise = refl; day = refl }) }

-- one with all its options
abbrev full_check_words : List Text
full_check_words = codes "gtfs" ∷ codes "check" ∷ codes "--advise" ∷ codes "f1" ∷ codes "--day=20240401" ∷ codes "--values" ∷ codes "--summary" ∷ []

full_check_asked : AsksCheckOf full_check_words (record { dir = codes "f1"; values = true; summary = true; advise = true; day = Some (codes "20240401") })
unfolding clap_on_literals
full_check_asked = record { taken = refl; asks = (refl, record { dir = refl; values = refl; summary = refl; advise = refl; day = refl }) }

-- a board with all its options, but for the flag
abbrev board_words : List Text
board_words = codes "gtfs" ∷ codes "board" ∷ codes "feed" ∷ codes "--zone" ∷ codes "Z" ∷ codes "--stop=S1" ∷ codes "--from" ∷ codes "20240401" ∷ codes "--until" ∷ codes "@5" ∷ codes "--limit" ∷ codes "3" ∷ codes "--after=@0/T/0/1/20240401" ∷ []

abbrev board_texts : BoardTexts
board_texts = record {
  dir = codes "feed";
  zone = codes "Z";
  stop = codes "S1";
  from = codes "20240401";
  until = codes "@5";
  limit = Some (codes "3");
  after = Some (codes "@0/T/0/1/20240401");
  interpolate = false;
}

board_asked : AsksBoardOf board_words board_texts
unfolding clap_on_literals
board_asked = record {
  taken = refl;
  asks = (refl, record { dir = refl; zone = refl; stop = refl; from = refl; until = refl; limit = refl; after = refl; interpolate = refl });
}

-- the same with the flag, in the midst of the words
abbrev flagged_board : List Text
flagged_board = codes "gtfs" ∷ codes "board" ∷ codes "--stop=S1" ∷ codes "--interpolate" ∷ codes "feed" ∷ codes "--zone=Z" ∷ codes "--from=20240401" ∷ codes "--until=@5" ∷ codes "--limit=3" ∷ codes "--after=@0/T/0/1/20240401" ∷ []

flagged_board_asked : AsksBoardOf flagged_board (record board_texts { interpolate = true })
unfolding clap_on_literals
flagged_board_asked = record {
  taken = refl;
  asks = (refl, record { dir = refl; zone = refl; stop = refl; from = refl; until = refl; limit = refl; after = refl; interpolate = refl });
}

-- boards of a file of requests
abbrev boards_words : List Text
boards_words = codes "gtfs" ∷ codes "boards" ∷ codes "feed" ∷ codes "--requests" ∷ codes "R" ∷ codes "--zone=Z" ∷ []

abbrev boards_texts : BoardsTexts
boards_texts = record { dir = codes "feed"; zone = codes "Z"; requests = codes "R"; interpolate = false }

boards_asked : AsksBoardsOf boards_words boards_texts
unfolding clap_on_literals
boards_asked = record { taken = refl; asks = (refl, record { dir = refl; zone = refl; requests = refl; interpolate = refl }) }

-- the same with the flag
abbrev flagged_boards : List Text
flagged_boards = codes "gtfs" ∷ codes "boards" ∷ codes "--interpolate" ∷ codes "feed" ∷ codes "--requests=R" ∷ codes "--zone" ∷ codes "Z" ∷ []

flagged_boards_asked : AsksBoardsOf flagged_boards (record boards_texts { interpolate = true })
unfolding clap_on_literals
flagged_boards_asked = record { taken = refl; asks = (refl, record { dir = refl; zone = refl; requests = refl; interpolate = refl }) }

-- boards without their requests
abbrev without_requests : List Text
without_requests = codes "gtfs" ∷ codes "boards" ∷ codes "feed" ∷ codes "--zone" ∷ codes "Z" ∷ []

without_requests_is : fault_of gtfs_app without_requests ≡ kind.MissingRequiredArgument ∷ []
unfolding clap_on_literals
without_requests_is = refl

without_requests_not_taken : takes gtfs_app without_requests ≡ false
unfolding clap_on_literals
without_requests_not_taken = refl

-- requests to be served
abbrev serve_words : List Text
serve_words = codes "gtfs" ∷ codes "serve" ∷ codes "--zone" ∷ codes "Z" ∷ codes "feed" ∷ []

abbrev serve_texts : ServeTexts
serve_texts = record { dir = codes "feed"; zone = codes "Z"; interpolate = false }

serve_asked : AsksServeOf serve_words serve_texts
unfolding clap_on_literals
serve_asked = record { taken = refl; asks = (refl, record { dir = refl; zone = refl; interpolate = refl }) }

-- the same with the flag
abbrev flagged_serve : List Text
flagged_serve = codes "gtfs" ∷ codes "serve" ∷ codes "feed" ∷ codes "--interpolate" ∷ codes "--zone=Z" ∷ []

flagged_serve_asked : AsksServeOf flagged_serve (record serve_texts { interpolate = true })
unfolding clap_on_literals
flagged_serve_asked = record { taken = refl; asks = (refl, record { dir = refl; zone = refl; interpolate = refl }) }

-- requests without a zone
abbrev without_zone : List Text
without_zone = codes "gtfs" ∷ codes "serve" ∷ codes "feed" ∷ []

without_zone_is : fault_of gtfs_app without_zone ≡ kind.MissingRequiredArgument ∷ []
unfolding clap_on_literals
without_zone_is = refl

without_zone_not_taken : takes gtfs_app without_zone ≡ false
unfolding clap_on_literals
without_zone_not_taken = refl

-- a timetable of both directions
abbrev timetable_words : List Text
timetable_words = codes "gtfs" ∷ codes "timetable" ∷ codes "feed" ∷ codes "--date" ∷ codes "20240401" ∷ codes "--route" ∷ codes "R1" ∷ []

abbrev timetable_texts : TimetableTexts
timetable_texts = record { dir = codes "feed"; route = codes "R1"; date = codes "20240401"; direction = None; interpolate = false }

timetable_asked : AsksTimetableOf timetable_words timetable_texts
unfolding clap_on_literals
timetable_asked = record { taken = refl; asks = (refl, record { dir = refl; route = refl; date = refl; direction = refl; interpolate = refl }) }

-- the same with the flag
abbrev flagged_timetable : List Text
flagged_timetable = codes "gtfs" ∷ codes "timetable" ∷ codes "feed" ∷ codes "--date" ∷ codes "20240401" ∷ codes "--route" ∷ codes "R1" ∷ codes "--interpolate" ∷ []

flagged_timetable_asked : AsksTimetableOf flagged_timetable (record timetable_texts { interpolate = true })
unfolding clap_on_literals
flagged_timetable_asked = record { taken = refl; asks = (refl, record { dir = refl; route = refl; date = refl; direction = refl; interpolate = refl }) }

-- a merge
abbrev merge_words : List Text
merge_words = codes "gtfs" ∷ codes "merge" ∷ codes "north" ∷ codes "south" ∷ codes "both" ∷ []

abbrev merge_texts : MergeTexts
merge_texts = record { a = codes "north"; b = codes "south"; out = codes "both"; near = None; cutoff = None }

merge_asked : AsksMergeOf merge_words merge_texts
unfolding clap_on_literals
merge_asked = record { taken = refl; asks = (refl, record { a = refl; b = refl; out = refl; near = refl; cutoff = refl }) }

-- the same with near stops
abbrev near_merge : List Text
near_merge = codes "gtfs" ∷ codes "merge" ∷ codes "north" ∷ codes "--near" ∷ codes "500" ∷ codes "south" ∷ codes "both" ∷ []

near_merge_asked : AsksMergeOf near_merge (record merge_texts { near = Some (codes "500") })
unfolding clap_on_literals
near_merge_asked = record { taken = refl; asks = (refl, record { a = refl; b = refl; out = refl; near = refl; cutoff = refl }) }

-- the same with near stops and a cutoff, which may stand in any order
abbrev cut_merge : List Text
cut_merge = codes "gtfs" ∷ codes "merge" ∷ codes "--cutoff=20240403" ∷ codes "north" ∷ codes "south" ∷ codes "--near" ∷ codes "500" ∷ codes "both" ∷ []

cut_merge_asked : AsksMergeOf cut_merge (record merge_texts { near = Some (codes "500"); cutoff = Some (codes "20240403") })
unfolding clap_on_literals
cut_merge_asked = record { taken = refl; asks = (refl, record { a = refl; b = refl; out = refl; near = refl; cutoff = refl }) }

-- no command
abbrev no_command : List Text
no_command = codes "gtfs" ∷ []

no_command_is : fault_of gtfs_app no_command ≡ kind.MissingSubcommand ∷ []
unfolding clap_on_literals
no_command_is = refl

no_command_not_taken : takes gtfs_app no_command ≡ false
unfolding clap_on_literals
no_command_not_taken = refl

-- `help` is no command, and there are no words by position
abbrev help_command : List Text
help_command = codes "gtfs" ∷ codes "help" ∷ []

help_command_is : fault_of gtfs_app help_command ≡ kind.UnknownArgument ∷ kind.InvalidSubcommand ∷ []
unfolding clap_on_literals
help_command_is = refl

help_command_not_taken : takes gtfs_app help_command ≡ false
unfolding clap_on_literals
help_command_not_taken = refl

-- a merge of two folders into none
abbrev merge_of_two : List Text
merge_of_two = codes "gtfs" ∷ codes "merge" ∷ codes "north" ∷ codes "south" ∷ []

merge_of_two_is : fault_of gtfs_app merge_of_two ≡ kind.MissingRequiredArgument ∷ []
unfolding clap_on_literals
merge_of_two_is = refl

merge_of_two_not_taken : takes gtfs_app merge_of_two ≡ false
unfolding clap_on_literals
merge_of_two_not_taken = refl

-- a merge of four folders
abbrev merge_of_four : List Text
merge_of_four = codes "gtfs" ∷ codes "merge" ∷ codes "a" ∷ codes "b" ∷ codes "c" ∷ codes "d" ∷ []

merge_of_four_is : fault_of gtfs_app merge_of_four ≡ kind.UnknownArgument ∷ []
unfolding clap_on_literals
merge_of_four_is = refl

merge_of_four_not_taken : takes gtfs_app merge_of_four ≡ false
unfolding clap_on_literals
merge_of_four_not_taken = refl

-- near stops without their distance
abbrev near_nothing : List Text
near_nothing = codes "gtfs" ∷ codes "merge" ∷ codes "a" ∷ codes "b" ∷ codes "c" ∷ codes "--near" ∷ []

near_nothing_is : fault_of gtfs_app near_nothing ≡ kind.InvalidValue ∷ []
unfolding clap_on_literals
near_nothing_is = refl

near_nothing_not_taken : takes gtfs_app near_nothing ≡ false
unfolding clap_on_literals
near_nothing_not_taken = refl

-- a distance that stands twice
abbrev near_twice : List Text
near_twice = codes "gtfs" ∷ codes "merge" ∷ codes "a" ∷ codes "b" ∷ codes "c" ∷ codes "--near=1" ∷ codes "--near=1" ∷ []

near_twice_is : fault_of gtfs_app near_twice ≡ kind.ArgumentConflict ∷ []
unfolding clap_on_literals
near_twice_is = refl

near_twice_not_taken : takes gtfs_app near_twice ≡ false
unfolding clap_on_literals
near_twice_not_taken = refl

-- a cutoff without its day
abbrev cutoff_nothing : List Text
cutoff_nothing = codes "gtfs" ∷ codes "merge" ∷ codes "a" ∷ codes "b" ∷ codes "c" ∷ codes "--cutoff" ∷ []

cutoff_nothing_is : fault_of gtfs_app cutoff_nothing ≡ kind.InvalidValue ∷ []
unfolding clap_on_literals
cutoff_nothing_is = refl

cutoff_nothing_not_taken : takes gtfs_app cutoff_nothing ≡ false
unfolding clap_on_literals
cutoff_nothing_not_taken = refl

-- a cutoff that stands twice
abbrev cutoff_twice : List Text
cutoff_twice = codes "gtfs" ∷ codes "merge" ∷ codes "a" ∷ codes "b" ∷ codes "c" ∷ codes "--cutoff=20240403" ∷ codes "--cutoff=20240403" ∷ []

cutoff_twice_is : fault_of gtfs_app cutoff_twice ≡ kind.ArgumentConflict ∷ []
unfolding clap_on_literals
cutoff_twice_is = refl

cutoff_twice_not_taken : takes gtfs_app cutoff_twice ≡ false
unfolding clap_on_literals
cutoff_twice_not_taken = refl

-- a timetable without its date
abbrev without_date : List Text
without_date = codes "gtfs" ∷ codes "timetable" ∷ codes "feed" ∷ codes "--route" ∷ codes "R1" ∷ []

without_date_is : fault_of gtfs_app without_date ≡ kind.MissingRequiredArgument ∷ []
unfolding clap_on_literals
without_date_is = refl

without_date_not_taken : takes gtfs_app without_date ≡ false
unfolding clap_on_literals
without_date_not_taken = refl

-- a limit that stands twice
abbrev limit_twice : List Text
limit_twice = codes "gtfs" ∷ codes "board" ∷ codes "feed" ∷ codes "--zone" ∷ codes "Z" ∷ codes "--stop=S1" ∷ codes "--from" ∷ codes "@1" ∷ codes "--until" ∷ codes "@5" ∷ codes "--limit=1" ∷ codes "--limit=2" ∷ []

limit_twice_is : fault_of gtfs_app limit_twice ≡ kind.ArgumentConflict ∷ []
unfolding clap_on_literals
limit_twice_is = refl

limit_twice_not_taken : takes gtfs_app limit_twice ≡ false
unfolding clap_on_literals
limit_twice_not_taken = refl

-- a flag that stands twice
abbrev flag_twice : List Text
flag_twice = codes "gtfs" ∷ codes "timetable" ∷ codes "feed" ∷ codes "--route=R1" ∷ codes "--date=20240401" ∷ codes "--interpolate" ∷ codes "--interpolate" ∷ []

flag_twice_is : fault_of gtfs_app flag_twice ≡ kind.ArgumentConflict ∷ []
unfolding clap_on_literals
flag_twice_is = refl

flag_twice_not_taken : takes gtfs_app flag_twice ≡ false
unfolding clap_on_literals
flag_twice_not_taken = refl

-- a flag with a value
abbrev flag_of_one : List Text
flag_of_one = codes "gtfs" ∷ codes "timetable" ∷ codes "feed" ∷ codes "--route=R1" ∷ codes "--date=20240401" ∷ codes "--interpolate=true" ∷ []

flag_of_one_is : fault_of gtfs_app flag_of_one ≡ kind.TooManyValues ∷ []
unfolding clap_on_literals
flag_of_one_is = refl

flag_of_one_not_taken : takes gtfs_app flag_of_one ≡ false
unfolding clap_on_literals
flag_of_one_not_taken = refl

-- the flag of a board and a timetable is none of a check
abbrev flag_of_check : List Text
flag_of_check = codes "gtfs" ∷ codes "check" ∷ codes "feed" ∷ codes "--interpolate" ∷ []

flag_of_check_is : fault_of gtfs_app flag_of_check ≡ kind.UnknownArgument ∷ []
unfolding clap_on_literals
flag_of_check_is = refl

flag_of_check_not_taken : takes gtfs_app flag_of_check ≡ false
unfolding clap_on_literals
flag_of_check_not_taken = refl

-- what is wrong first is told, and not the help after it
abbrev wrong_before_help : List Text
wrong_before_help = codes "gtfs" ∷ codes "board" ∷ codes "--speed=1" ∷ codes "--help" ∷ []

wrong_before_help_is : fault_of gtfs_app wrong_before_help ≡ kind.UnknownArgument ∷ []
unfolding clap_on_literals
wrong_before_help_is = refl

wrong_before_help_not_taken : takes gtfs_app wrong_before_help ≡ false
unfolding clap_on_literals
wrong_before_help_not_taken = refl

-- help
abbrev help_asked : List Text
help_asked = codes "gtfs" ∷ codes "--help" ∷ []

help_asked_is : fault_of gtfs_app help_asked ≡ kind.DisplayHelp ∷ []
unfolding clap_on_literals
help_asked_is = refl

help_asked_for_help : AreForHelp help_asked
unfolding clap_on_literals
help_asked_for_help = (refl, refl)

-- help of a command, though its folders are missing
abbrev merge_help : List Text
merge_help = codes "gtfs" ∷ codes "merge" ∷ codes "--help" ∷ []

merge_help_is : fault_of gtfs_app merge_help ≡ kind.DisplayHelp ∷ []
unfolding clap_on_literals
merge_help_is = refl

merge_help_for_help : AreForHelp merge_help
unfolding clap_on_literals
merge_help_for_help = (refl, refl)

-- the version
abbrev version_asked : List Text
version_asked = codes "gtfs" ∷ codes "--version" ∷ []

version_asked_is : fault_of gtfs_app version_asked ≡ kind.DisplayVersion ∷ []
unfolding clap_on_literals
version_asked_is = refl

version_asked_for_version : AreForVersion version_asked
unfolding clap_on_literals
version_asked_for_version = (refl, refl)

-- the version, by a letter that stands before the one for help
abbrev version_before_help : List Text
version_before_help = codes "gtfs" ∷ codes "-Vh" ∷ []

version_before_help_for_version : AreForVersion version_before_help
unfolding clap_on_literals
version_before_help_for_version = (refl, refl)

-- help, which stands before the version
abbrev help_before_version : List Text
help_before_version = codes "gtfs" ∷ codes "--help" ∷ codes "--version" ∷ []

help_before_version_for_help : AreForHelp help_before_version
unfolding clap_on_literals
help_before_version_for_help = (refl, refl)

-- the program has a version, and a command has none
abbrev version_of_check : List Text
version_of_check = codes "gtfs" ∷ codes "check" ∷ codes "f1" ∷ codes "--version" ∷ []

version_of_check_is : fault_of gtfs_app version_of_check ≡ kind.UnknownArgument ∷ []
unfolding clap_on_literals
version_of_check_is = refl

version_of_check_refused : AreRefused version_of_check
unfolding clap_on_literals
version_of_check_refused = record { untaken = refl; no_help = λ e. cc; no_version = λ e. cc }

-- the version is asked for without a value
abbrev version_of_one : List Text
version_of_one = codes "gtfs" ∷ codes "--version=1" ∷ []

version_of_one_is : fault_of gtfs_app version_of_one ≡ kind.TooManyValues ∷ []
unfolding clap_on_literals
version_of_one_is = refl

version_of_one_refused : AreRefused version_of_one
unfolding clap_on_literals
version_of_one_refused = record { untaken = refl; no_help = λ e. cc; no_version = λ e. cc }
