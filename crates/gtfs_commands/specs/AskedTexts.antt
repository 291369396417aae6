-- What words ask for: the command, and the texts that are given to it.
use Rattle.std.specs.Prelude.{◌≡◌, ◌⊎◌, Bool, List, Option, Some, None, IsSome, find, option_and_then, option_map, codes, true, false}
use Rattle.std.specs.Str.{bytes_eq}
use Rattle.clap.specs.Words.{Row, Text, first_of, subcommand_of, takes}
use Rattle.clap.specs.declared.parser.matches.ValueSource.{ValueSource}
use Rattle.clap.specs.declared.parser.matches.ValueSource.TheVariants as source
use Rattle.gtfs_commands.specs.CommandLine.{gtfs_app}
use Rattle.gtfs_commands.specs.declared.command.BoardTexts.{BoardTexts as LentBoardTexts}
use Rattle.gtfs_commands.specs.declared.command.BoardsTexts.{BoardsTexts as LentBoardsTexts}
use Rattle.gtfs_commands.specs.declared.command.CheckTexts.{CheckTexts as LentCheckTexts}
use Rattle.gtfs_commands.specs.declared.command.Command.{Command}
use Rattle.gtfs_commands.specs.declared.command.Command.TheVariants.{Board, Boards, Check, Merge, Serve, Timetable}
use Rattle.gtfs_commands.specs.declared.command.MergeTexts.{MergeTexts as LentMergeTexts}
use Rattle.gtfs_commands.specs.declared.command.ServeTexts.{ServeTexts as LentServeTexts}
use Rattle.gtfs_commands.specs.declared.command.TimetableTexts.{TimetableTexts as LentTimetableTexts}

-- ---- the texts of each command, as they stand in the words

-- what is given to `check`; a day may be missing, and the others say whether their flags are given
pub record CheckTexts : Type 0 where
  pub dir : Text
  pub values : Bool
  pub summary : Bool
  pub advise : Bool
  pub day : Option Text

-- what is given to `board`; a limit and a key may be missing, and the last says whether its flag is given
pub record BoardTexts : Type 0 where
  pub dir : Text
  pub zone : Text
  pub stop : Text
  pub from : Text
  pub until : Text
  pub limit : Option Text
  pub after : Option Text
  pub interpolate : Bool

-- what is given to `boards`; the last says whether its flag is given
pub record BoardsTexts : Type 0 where
  pub dir : Text
  pub zone : Text
  pub requests : Text
  pub interpolate : Bool

-- what is given to `serve`; the last says whether its flag is given
pub record ServeTexts : Type 0 where
  pub dir : Text
  pub zone : Text
  pub interpolate : Bool

-- what is given to `timetable`; a direction may be missing, and the last says whether its flag is given
pub record TimetableTexts : Type 0 where
  pub dir : Text
  pub route : Text
  pub date : Text
  pub direction : Option Text
  pub interpolate : Bool

-- what is given to `merge`; how close near stops lie, and the day from which the second feed counts, may be missing
pub record MergeTexts : Type 0 where
  pub a : Text
  pub b : Text
  pub out : Text
  pub near : Option Text
  pub cutoff : Option Text

abbrev pub check_texts_of : LentCheckTexts → CheckTexts
check_texts_of words = record {
  dir = words.dir.now;
  values = words.values;
  summary = words.summary;
  advise = words.advise;
  day = option_map (λ text. text.now) words.day;
}

abbrev pub texts_of : LentBoardTexts → BoardTexts
texts_of words = record {
  dir = words.dir.now;
  zone = words.zone.now;
  stop = words.stop.now;
  from = words.from.now;
  until = words.until.now;
  limit = option_map (λ text. text.now) words.limit;
  after = option_map (λ text. text.now) words.after;
  interpolate = words.interpolate;
}

abbrev pub boards_texts_of : LentBoardsTexts → BoardsTexts
boards_texts_of words = record {
  dir = words.dir.now;
  zone = words.zone.now;
  requests = words.requests.now;
  interpolate = words.interpolate;
}

abbrev pub serve_texts_of : LentServeTexts → ServeTexts
serve_texts_of words = record { dir = words.dir.now; zone = words.zone.now; interpolate = words.interpolate }

abbrev pub timetable_texts_of : LentTimetableTexts → TimetableTexts
timetable_texts_of words = record {
  dir = words.dir.now;
  route = words.route.now;
  date = words.date.now;
  direction = option_map (λ text. text.now) words.direction;
  interpolate = words.interpolate;
}

abbrev pub merge_texts_of : LentMergeTexts → MergeTexts
merge_texts_of words = record {
  a = words.a.now;
  b = words.b.now;
  out = words.out.now;
  near = option_map (λ text. text.now) words.near;
  cutoff = option_map (λ text. text.now) words.cutoff;
}

-- ---- what was given for each id

-- it was found among the words, and is no default
abbrev pub is_from_words : Option ValueSource → Bool
is_from_words (Some source.CommandLine) = true
is_from_words _ = false

-- the flag of this id stands among the words
abbrev pub is_flagged : Text → List Row → Bool
is_flagged id given = is_from_words (option_and_then (λ r. r.source) (find (λ r. bytes_eq r.id id) given))

-- each is the text that was given for it, and None where none was given; the flags are told as they were given
pub record GivesCheck (given : List Row) (asked : CheckTexts) : Type 0 where
  pub dir : first_of (codes "DIR") given ≡ Some asked.dir
  pub values : is_flagged (codes "values") given ≡ asked.values
  pub summary : is_flagged (codes "summary") given ≡ asked.summary
  pub advise : is_flagged (codes "advise") given ≡ asked.advise
  pub day : first_of (codes "day") given ≡ asked.day

-- each is the text that was given for it, and None where none was given; the flag is told as it was given
pub record GivesBoard (given : List Row) (asked : BoardTexts) : Type 0 where
  pub dir : first_of (codes "DIR") given ≡ Some asked.dir
  pub zone : first_of (codes "zone") given ≡ Some asked.zone
  pub stop : first_of (codes "stop") given ≡ Some asked.stop
  pub from : first_of (codes "from") given ≡ Some asked.from
  pub until : first_of (codes "until") given ≡ Some asked.until
  pub limit : first_of (codes "limit") given ≡ asked.limit
  pub after : first_of (codes "after") given ≡ asked.after
  pub interpolate : is_flagged (codes "interpolate") given ≡ asked.interpolate

-- each is the text that was given for it; the flag is told as it was given
pub record GivesBoards (given : List Row) (asked : BoardsTexts) : Type 0 where
  pub dir : first_of (codes "DIR") given ≡ Some asked.dir
  pub zone : first_of (codes "zone") given ≡ Some asked.zone
  pub requests : first_of (codes "requests") given ≡ Some asked.requests
  pub interpolate : is_flagged (codes "interpolate") given ≡ asked.interpolate

-- each is the text that was given for it; the flag is told as it was given
pub record GivesServe (given : List Row) (asked : ServeTexts) : Type 0 where
  pub dir : first_of (codes "DIR") given ≡ Some asked.dir
  pub zone : first_of (codes "zone") given ≡ Some asked.zone
  pub interpolate : is_flagged (codes "interpolate") given ≡ asked.interpolate

-- each is the text that was given for it, and None where none was given; the flag is told as it was given
pub record GivesTimetable (given : List Row) (asked : TimetableTexts) : Type 0 where
  pub dir : first_of (codes "DIR") given ≡ Some asked.dir
  pub route : first_of (codes "route") given ≡ Some asked.route
  pub date : first_of (codes "date") given ≡ Some asked.date
  pub direction : first_of (codes "direction") given ≡ asked.direction
  pub interpolate : is_flagged (codes "interpolate") given ≡ asked.interpolate

-- each is the text that was given for it, and None where none was given
pub record GivesMerge (given : List Row) (asked : MergeTexts) : Type 0 where
  pub a : first_of (codes "A") given ≡ Some asked.a
  pub b : first_of (codes "B") given ≡ Some asked.b
  pub out : first_of (codes "OUT") given ≡ Some asked.out
  pub near : first_of (codes "near") given ≡ asked.near
  pub cutoff : first_of (codes "cutoff") given ≡ asked.cutoff

-- ---- the command that is asked for

-- a subcommand is named, with what was given for each of its ids: it is the check of these texts
abbrev pub ForCheck : Option (Text × List Row) → CheckTexts → Type 0
ForCheck None asked = ⊥
ForCheck (Some found) asked = (found.0 ≡ codes "check") × GivesCheck found.1 asked

-- it is the board of these texts
abbrev pub ForBoard : Option (Text × List Row) → BoardTexts → Type 0
ForBoard None asked = ⊥
ForBoard (Some found) asked = (found.0 ≡ codes "board") × GivesBoard found.1 asked

-- it is the boards of these texts
abbrev pub ForBoards : Option (Text × List Row) → BoardsTexts → Type 0
ForBoards None asked = ⊥
ForBoards (Some found) asked = (found.0 ≡ codes "boards") × GivesBoards found.1 asked

-- it is `serve` with these texts
abbrev pub ForServe : Option (Text × List Row) → ServeTexts → Type 0
ForServe None asked = ⊥
ForServe (Some found) asked = (found.0 ≡ codes "serve") × GivesServe found.1 asked

-- it is the timetable of these texts
abbrev pub ForTimetable : Option (Text × List Row) → TimetableTexts → Type 0
ForTimetable None asked = ⊥
ForTimetable (Some found) asked = (found.0 ≡ codes "timetable") × GivesTimetable found.1 asked

-- it is the merge of these texts
abbrev pub ForMerge : Option (Text × List Row) → MergeTexts → Type 0
ForMerge None asked = ⊥
ForMerge (Some found) asked = (found.0 ≡ codes "merge") × GivesMerge found.1 asked

-- it is this command
abbrev pub IsCommandOf : Option (Text × List Row) → Command → Type 0
IsCommandOf None command = ⊥
IsCommandOf (Some found) (Check words) = (found.0 ≡ codes "check") × GivesCheck found.1 (check_texts_of words)
IsCommandOf (Some found) (Board words) = (found.0 ≡ codes "board") × GivesBoard found.1 (texts_of words)
IsCommandOf (Some found) (Boards words) = (found.0 ≡ codes "boards") × GivesBoards found.1 (boards_texts_of words)
IsCommandOf (Some found) (Serve words) = (found.0 ≡ codes "serve") × GivesServe found.1 (serve_texts_of words)
IsCommandOf (Some found) (Timetable words) = (found.0 ≡ codes "timetable") × GivesTimetable found.1 (timetable_texts_of words)
IsCommandOf (Some found) (Merge words) = (found.0 ≡ codes "merge") × GivesMerge found.1 (merge_texts_of words)

-- `clap` takes the words, and they ask for the check of these texts
pub record AsksCheckOf (words : List Text) (asked : CheckTexts) : Type 0 where
  pub taken : takes gtfs_app words ≡ true
  pub asks : ForCheck (subcommand_of gtfs_app words) asked

-- `clap` takes the words, and they ask for the board of these texts
pub record AsksBoardOf (words : List Text) (asked : BoardTexts) : Type 0 where
  pub taken : takes gtfs_app words ≡ true
  pub asks : ForBoard (subcommand_of gtfs_app words) asked

-- `clap` takes the words, and they ask for the boards of these texts
pub record AsksBoardsOf (words : List Text) (asked : BoardsTexts) : Type 0 where
  pub taken : takes gtfs_app words ≡ true
  pub asks : ForBoards (subcommand_of gtfs_app words) asked

-- `clap` takes the words, and they ask to serve requests with these texts
pub record AsksServeOf (words : List Text) (asked : ServeTexts) : Type 0 where
  pub taken : takes gtfs_app words ≡ true
  pub asks : ForServe (subcommand_of gtfs_app words) asked

-- `clap` takes the words, and they ask for the timetable of these texts
pub record AsksTimetableOf (words : List Text) (asked : TimetableTexts) : Type 0 where
  pub taken : takes gtfs_app words ≡ true
  pub asks : ForTimetable (subcommand_of gtfs_app words) asked

-- `clap` takes the words, and they ask for the merge of these texts
pub record AsksMergeOf (words : List Text) (asked : MergeTexts) : Type 0 where
  pub taken : takes gtfs_app words ≡ true
  pub asks : ForMerge (subcommand_of gtfs_app words) asked

-- ---- what each command needs

-- a text was given for the id of `check`
abbrev pub HasCheck : List Row → Type 0
HasCheck given = IsSome (first_of (codes "DIR") given)

-- a text was given for each id that `board` needs
pub record HasBoard (given : List Row) : Type 0 where
  pub dir : IsSome (first_of (codes "DIR") given)
  pub zone : IsSome (first_of (codes "zone") given)
  pub stop : IsSome (first_of (codes "stop") given)
  pub from : IsSome (first_of (codes "from") given)
  pub until : IsSome (first_of (codes "until") given)

-- a text was given for each id that `boards` needs
pub record HasBoards (given : List Row) : Type 0 where
  pub dir : IsSome (first_of (codes "DIR") given)
  pub zone : IsSome (first_of (codes "zone") given)
  pub requests : IsSome (first_of (codes "requests") given)

-- a text was given for each id that `serve` needs
pub record HasServe (given : List Row) : Type 0 where
  pub dir : IsSome (first_of (codes "DIR") given)
  pub zone : IsSome (first_of (codes "zone") given)

-- a text was given for each id that `timetable` needs
pub record HasTimetable (given : List Row) : Type 0 where
  pub dir : IsSome (first_of (codes "DIR") given)
  pub route : IsSome (first_of (codes "route") given)
  pub date : IsSome (first_of (codes "date") given)

-- a text was given for each id that `merge` needs
pub record HasMerge (given : List Row) : Type 0 where
  pub a : IsSome (first_of (codes "A") given)
  pub b : IsSome (first_of (codes "B") given)
  pub out : IsSome (first_of (codes "OUT") given)

-- a command is named, and all that it needs is given
abbrev pub IsWhole : Option (Text × List Row) → Type 0
IsWhole None = ⊥
IsWhole (Some found) = ((found.0 ≡ codes "check") × HasCheck found.1) ⊎ (((found.0 ≡ codes "board") × HasBoard found.1)
    ⊎ (((found.0 ≡ codes "boards") × HasBoards found.1) ⊎ (((found.0 ≡ codes "serve") × HasServe found.1)
    ⊎ (((found.0 ≡ codes "timetable") × HasTimetable found.1) ⊎ ((found.0 ≡ codes "merge") × HasMerge found.1)))))
