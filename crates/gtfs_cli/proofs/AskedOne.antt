-- Words ask for one thing: for a command with its texts, or for none that `clap` takes.
use Rattle.std.proofs.Common.{◌≡◌, ◌∙◌, ap, refl, sym, subst, true, false, true≢false, Bool, bytes_eq, inl, inr, List, Option, Some, None, codes, Result}
use Rattle.std.specs.Prelude.{⊤, IsSome}
use Rattle.clap.specs.Words.{Row, Text, first_of, subcommand_of, takes}
use Rattle.gtfs_commands.specs.AskedTexts.{is_flagged, ForBoard, ForBoards, ForCheck, ForMerge, ForServe, ForTimetable, HasBoard, HasBoards, HasCheck, HasMerge, HasServe, HasTimetable, GivesBoard, GivesBoards, GivesCheck, GivesMerge, GivesServe, GivesTimetable, IsWhole}
use Rattle.gtfs_commands.specs.Words.{gtfs_app, boards_texts_of, check_texts_of, merge_texts_of, serve_texts_of, texts_of, timetable_texts_of, BoardTexts, BoardsTexts, CheckTexts, IsCommandOf, MergeTexts, ServeTexts, TimetableTexts}
use Rattle.gtfs_commands.specs.declared.command.Command.{Command}
use Rattle.gtfs_commands.specs.declared.command.Command.TheVariants as commands
use Rattle.gtfs_commands.specs.declared.command.ServeTexts.{ServeTexts as LentServeTexts}
use Rattle.gtfs_commands.proofs.GtfsWords.{whole}
use Rattle.gtfs_commands.proofs.OneAsked.{same_board, same_boards, same_check, same_merge, same_serve, same_timetable}
use Rattle.gtfs_cli.specs.CommandPlan.{Ends, Plan}
use Rattle.gtfs_cli.specs.DevicesSeen.{Devices}
use Rattle.gtfs_cli.specs.declared.commands.refusal.Refusal.{Refusal}
use Rattle.gtfs_cli.specs.AskedCommand.{Asked, Asks, HearsNothing, Board, Boards, Check, Merge, Serve, Timetable, Untaken}

-- ---- they ask for something

value_of : {A : Type 0} (o : Option A) → IsSome o → (x : A) × (o ≡ Some x)
value_of None some = cc some
value_of (Some x) some = (x, refl)

check_of : (given : List Row) → HasCheck given → (asked : CheckTexts) × GivesCheck given asked
check_of given has =
    let dir = value_of (first_of (codes "DIR") given) has in (
      record {
        dir = dir.0;
        values = is_flagged (codes "values") given;
        summary = is_flagged (codes "summary") given;
        advise = is_flagged (codes "advise") given;
        day = first_of (codes "day") given;
      },
      record { dir = dir.1; values = refl; summary = refl; advise = refl; day = refl },
    )

board_of : (given : List Row) → HasBoard given → (asked : BoardTexts) × GivesBoard given asked
board_of given has =
    let dir = value_of (first_of (codes "DIR") given) has.dir in
    let zone = value_of (first_of (codes "zone") given) has.zone in
    let stop = value_of (first_of (codes "stop") given) has.stop in
    let from = value_of (first_of (codes "from") given) has.from in
    let until = value_of (first_of (codes "until") given) has.until in (
      record {
        dir = dir.0;
        zone = zone.0;
        stop = stop.0;
        from = from.0;
        until = until.0;
        limit = first_of (codes "limit") given;
        after = first_of (codes "after") given;
        interpolate = is_flagged (codes "interpolate") given;
      },
      record { dir = dir.1; zone = zone.1; stop = stop.1; from = from.1; until = until.1; limit = refl; after = refl; interpolate = refl },
    )

boards_of : (given : List Row) → HasBoards given → (asked : BoardsTexts) × GivesBoards given asked
boards_of given has =
    let dir = value_of (first_of (codes "DIR") given) has.dir in
    let zone = value_of (first_of (codes "zone") given) has.zone in
    let requests = value_of (first_of (codes "requests") given) has.requests in (
      record { dir = dir.0; zone = zone.0; requests = requests.0; interpolate = is_flagged (codes "interpolate") given },
      record { dir = dir.1; zone = zone.1; requests = requests.1; interpolate = refl },
    )

serve_of : (given : List Row) → HasServe given → (asked : ServeTexts) × GivesServe given asked
serve_of given has =
    let dir = value_of (first_of (codes "DIR") given) has.dir in
    let zone = value_of (first_of (codes "zone") given) has.zone in (
      record { dir = dir.0; zone = zone.0; interpolate = is_flagged (codes "interpolate") given },
      record { dir = dir.1; zone = zone.1; interpolate = refl },
    )

timetable_of : (given : List Row) → HasTimetable given → (asked : TimetableTexts) × GivesTimetable given asked
timetable_of given has =
    let dir = value_of (first_of (codes "DIR") given) has.dir in
    let route = value_of (first_of (codes "route") given) has.route in
    let date = value_of (first_of (codes "date") given) has.date in (
      record {
        dir = dir.0;
        route = route.0;
        date = date.0;
        direction = first_of (codes "direction") given;
        interpolate = is_flagged (codes "interpolate") given;
      },
      record { dir = dir.1; route = route.1; date = date.1; direction = refl; interpolate = refl },
    )

merge_of : (given : List Row) → HasMerge given → (asked : MergeTexts) × GivesMerge given asked
merge_of given has =
    let a = value_of (first_of (codes "A") given) has.a in
    let b = value_of (first_of (codes "B") given) has.b in
    let out = value_of (first_of (codes "OUT") given) has.out in (
      record { a = a.0; b = b.0; out = out.0; near = first_of (codes "near") given; cutoff = first_of (codes "cutoff") given },
      record { a = a.1; b = b.1; out = out.1; near = refl; cutoff = refl },
    )

-- a command is named, and its texts are given
abbrev ForOne : Option (Text × List Row) → Asked → Type 0
ForOne found (Check texts) = ForCheck found texts
ForOne found (Board texts) = ForBoard found texts
ForOne found (Boards texts) = ForBoards found texts
ForOne found (Serve texts) = ForServe found texts
ForOne found (Timetable texts) = ForTimetable found texts
ForOne found (Merge texts) = ForMerge found texts
ForOne found Untaken = ⊥

for-one : (found : Option (Text × List Row)) → IsWhole found → (asked : Asked) × ForOne found asked
for-one None none = absurd none
for-one (Some found) (inl (named, has)) = let texts = check_of found.1 has in (Check texts.0, (named, texts.1))
for-one (Some found) (inr (inl (named, has))) = let texts = board_of found.1 has in (Board texts.0, (named, texts.1))
for-one (Some found) (inr (inr (inl (named, has)))) = let texts = boards_of found.1 has in (Boards texts.0, (named, texts.1))
for-one (Some found) (inr (inr (inr (inl (named, has))))) = let texts = serve_of found.1 has in (Serve texts.0, (named, texts.1))
for-one (Some found) (inr (inr (inr (inr (inl (named, has)))))) = let texts = timetable_of found.1 has in (Timetable texts.0, (named, texts.1))
for-one (Some found) (inr (inr (inr (inr (inr (named, has)))))) = let texts = merge_of found.1 has in (Merge texts.0, (named, texts.1))

-- what is asked for where `clap` takes the words
asks-by : (words : List Text) → takes gtfs_app words ≡ true → (asked : Asked) → ForOne (subcommand_of gtfs_app words) asked → Asks words asked
asks-by words taken (Check texts) is = record { taken = taken; asks = is }
asks-by words taken (Board texts) is = record { taken = taken; asks = is }
asks-by words taken (Boards texts) is = record { taken = taken; asks = is }
asks-by words taken (Serve texts) is = record { taken = taken; asks = is }
asks-by words taken (Timetable texts) is = record { taken = taken; asks = is }
asks-by words taken (Merge texts) is = record { taken = taken; asks = is }
asks-by words taken Untaken is = absurd is

asks-as : (words : List Text) (taken : Bool) → takes gtfs_app words ≡ taken → (asked : Asked) × Asks words asked
asks-as words true is = let one = for-one (subcommand_of gtfs_app words) (whole words is) in (one.0, asks-by words is one.0 one.1)
asks-as words false is = (Untaken, is)

pub asks-some : (words : List Text) → (asked : Asked) × Asks words asked
asks-some words = asks-as words (takes gtfs_app words) refl

-- ---- and for nothing else

abbrev IsTaken : Asked → Type 0
IsTaken Untaken = ⊥
IsTaken _ = ⊤

abbrev name_of : Asked → Text
name_of (Check texts) = codes "check"
name_of (Board texts) = codes "board"
name_of (Boards texts) = codes "boards"
name_of (Serve texts) = codes "serve"
name_of (Timetable texts) = codes "timetable"
name_of (Merge texts) = codes "merge"
name_of Untaken = codes ""

taken-by : (words : List Text) (x : Asked) → IsTaken x → Asks words x → takes gtfs_app words ≡ true
taken-by words (Check x) has asks = asks.taken
taken-by words (Board x) has asks = asks.taken
taken-by words (Boards x) has asks = asks.taken
taken-by words (Serve x) has asks = asks.taken
taken-by words (Timetable x) has asks = asks.taken
taken-by words (Merge x) has asks = asks.taken
taken-by words Untaken none asks = absurd none

abbrev IsNamed : Option (Text × List Row) → Text → Type 0
IsNamed None name = ⊥
IsNamed (Some found) name = found.0 ≡ name

check-named : (found : Option (Text × List Row)) (texts : CheckTexts) → ForCheck found texts → IsNamed found (codes "check")
check-named None texts asks = absurd asks
check-named (Some found) texts asks = asks.0

board-named : (found : Option (Text × List Row)) (texts : BoardTexts) → ForBoard found texts → IsNamed found (codes "board")
board-named None texts asks = absurd asks
board-named (Some found) texts asks = asks.0

boards-named : (found : Option (Text × List Row)) (texts : BoardsTexts) → ForBoards found texts → IsNamed found (codes "boards")
boards-named None texts asks = absurd asks
boards-named (Some found) texts asks = asks.0

serve-named : (found : Option (Text × List Row)) (texts : ServeTexts) → ForServe found texts → IsNamed found (codes "serve")
serve-named None texts asks = absurd asks
serve-named (Some found) texts asks = asks.0

timetable-named : (found : Option (Text × List Row)) (texts : TimetableTexts) → ForTimetable found texts → IsNamed found (codes "timetable")
timetable-named None texts asks = absurd asks
timetable-named (Some found) texts asks = asks.0

merge-named : (found : Option (Text × List Row)) (texts : MergeTexts) → ForMerge found texts → IsNamed found (codes "merge")
merge-named None texts asks = absurd asks
merge-named (Some found) texts asks = asks.0

named : (words : List Text) (x : Asked) → IsTaken x → Asks words x → IsNamed (subcommand_of gtfs_app words) (name_of x)
named words (Check x) has asks = check-named (subcommand_of gtfs_app words) x asks.asks
named words (Board x) has asks = board-named (subcommand_of gtfs_app words) x asks.asks
named words (Boards x) has asks = boards-named (subcommand_of gtfs_app words) x asks.asks
named words (Serve x) has asks = serve-named (subcommand_of gtfs_app words) x asks.asks
named words (Timetable x) has asks = timetable-named (subcommand_of gtfs_app words) x asks.asks
named words (Merge x) has asks = merge-named (subcommand_of gtfs_app words) x asks.asks
named words Untaken none asks = absurd none

not-both : (found : Option (Text × List Row)) (x y : Text) → bytes_eq x x ≡ true → bytes_eq x y ≡ false → IsNamed found x → IsNamed found y → ⊥
not-both None x y same differ is_x is_y = is_x
not-both (Some found) x y same differ is_x is_y =
    absurd (true≢false (sym same ∙ subst (λ (t : Text). bytes_eq x t ≡ false) (sym (sym is_x ∙ is_y)) differ))

-- commands of two names are not both asked for
clash : (words : List Text) (x y : Asked) → IsTaken x → IsTaken y → bytes_eq (name_of x) (name_of x) ≡ true → bytes_eq (name_of x) (name_of y) ≡ false → Asks words x → Asks words y → ⊥
clash words x y has_x has_y same differ a b =
    not-both (subcommand_of gtfs_app words) (name_of x) (name_of y) same differ (named words x has_x a) (named words y has_y b)

-- words are taken or not
untaken : (words : List Text) (x : Asked) → IsTaken x → Asks words x → takes gtfs_app words ≡ false → ⊥
untaken words x has asks not = absurd (true≢false (sym (taken-by words x has asks) ∙ not))

pub one-asked : (words : List Text) (x y : Asked) → Asks words x → Asks words y → x ≡ y
one-asked words (Check x) (Check y) a b = ap (λ t. Check t) (same_check (subcommand_of gtfs_app words) x y a.asks b.asks)
one-asked words (Check x) (Board y) a b = absurd (clash words (Check x) (Board y) tt tt refl refl a b)
one-asked words (Check x) (Boards y) a b = absurd (clash words (Check x) (Boards y) tt tt refl refl a b)
one-asked words (Check x) (Serve y) a b = absurd (clash words (Check x) (Serve y) tt tt refl refl a b)
one-asked words (Check x) (Timetable y) a b = absurd (clash words (Check x) (Timetable y) tt tt refl refl a b)
one-asked words (Check x) (Merge y) a b = absurd (clash words (Check x) (Merge y) tt tt refl refl a b)
one-asked words (Check x) Untaken a b = absurd (untaken words (Check x) tt a b)
one-asked words (Board x) (Check y) a b = absurd (clash words (Board x) (Check y) tt tt refl refl a b)
one-asked words (Board x) (Board y) a b = ap (λ t. Board t) (same_board (subcommand_of gtfs_app words) x y a.asks b.asks)
one-asked words (Board x) (Boards y) a b = absurd (clash words (Board x) (Boards y) tt tt refl refl a b)
one-asked words (Board x) (Serve y) a b = absurd (clash words (Board x) (Serve y) tt tt refl refl a b)
one-asked words (Board x) (Timetable y) a b = absurd (clash words (Board x) (Timetable y) tt tt refl refl a b)
one-asked words (Board x) (Merge y) a b = absurd (clash words (Board x) (Merge y) tt tt refl refl a b)
one-asked words (Board x) Untaken a b = absurd (untaken words (Board x) tt a b)
one-asked words (Boards x) (Check y) a b = absurd (clash words (Boards x) (Check y) tt tt refl refl a b)
one-asked words (Boards x) (Board y) a b = absurd (clash words (Boards x) (Board y) tt tt refl refl a b)
one-asked words (Boards x) (Boards y) a b = ap (λ t. Boards t) (same_boards (subcommand_of gtfs_app words) x y a.asks b.asks)
one-asked words (Boards x) (Serve y) a b = absurd (clash words (Boards x) (Serve y) tt tt refl refl a b)
one-asked words (Boards x) (Timetable y) a b = absurd (clash words (Boards x) (Timetable y) tt tt refl refl a b)
one-asked words (Boards x) (Merge y) a b = absurd (clash words (Boards x) (Merge y) tt tt refl refl a b)
one-asked words (Boards x) Untaken a b = absurd (untaken words (Boards x) tt a b)
one-asked words (Serve x) (Check y) a b = absurd (clash words (Serve x) (Check y) tt tt refl refl a b)
one-asked words (Serve x) (Board y) a b = absurd (clash words (Serve x) (Board y) tt tt refl refl a b)
one-asked words (Serve x) (Boards y) a b = absurd (clash words (Serve x) (Boards y) tt tt refl refl a b)
one-asked words (Serve x) (Serve y) a b = ap (λ t. Serve t) (same_serve (subcommand_of gtfs_app words) x y a.asks b.asks)
one-asked words (Serve x) (Timetable y) a b = absurd (clash words (Serve x) (Timetable y) tt tt refl refl a b)
one-asked words (Serve x) (Merge y) a b = absurd (clash words (Serve x) (Merge y) tt tt refl refl a b)
one-asked words (Serve x) Untaken a b = absurd (untaken words (Serve x) tt a b)
one-asked words (Timetable x) (Check y) a b = absurd (clash words (Timetable x) (Check y) tt tt refl refl a b)
one-asked words (Timetable x) (Board y) a b = absurd (clash words (Timetable x) (Board y) tt tt refl refl a b)
one-asked words (Timetable x) (Boards y) a b = absurd (clash words (Timetable x) (Boards y) tt tt refl refl a b)
one-asked words (Timetable x) (Serve y) a b = absurd (clash words (Timetable x) (Serve y) tt tt refl refl a b)
one-asked words (Timetable x) (Timetable y) a b = ap (λ t. Timetable t) (same_timetable (subcommand_of gtfs_app words) x y a.asks b.asks)
one-asked words (Timetable x) (Merge y) a b = absurd (clash words (Timetable x) (Merge y) tt tt refl refl a b)
one-asked words (Timetable x) Untaken a b = absurd (untaken words (Timetable x) tt a b)
one-asked words (Merge x) (Check y) a b = absurd (clash words (Merge x) (Check y) tt tt refl refl a b)
one-asked words (Merge x) (Board y) a b = absurd (clash words (Merge x) (Board y) tt tt refl refl a b)
one-asked words (Merge x) (Boards y) a b = absurd (clash words (Merge x) (Boards y) tt tt refl refl a b)
one-asked words (Merge x) (Serve y) a b = absurd (clash words (Merge x) (Serve y) tt tt refl refl a b)
one-asked words (Merge x) (Timetable y) a b = absurd (clash words (Merge x) (Timetable y) tt tt refl refl a b)
one-asked words (Merge x) (Merge y) a b = ap (λ t. Merge t) (same_merge (subcommand_of gtfs_app words) x y a.asks b.asks)
one-asked words (Merge x) Untaken a b = absurd (untaken words (Merge x) tt a b)
one-asked words Untaken (Check y) a b = absurd (untaken words (Check y) tt b a)
one-asked words Untaken (Board y) a b = absurd (untaken words (Board y) tt b a)
one-asked words Untaken (Boards y) a b = absurd (untaken words (Boards y) tt b a)
one-asked words Untaken (Serve y) a b = absurd (untaken words (Serve y) tt b a)
one-asked words Untaken (Timetable y) a b = absurd (untaken words (Timetable y) tt b a)
one-asked words Untaken (Merge y) a b = absurd (untaken words (Merge y) tt b a)
one-asked words Untaken Untaken a b = refl

-- ---- the command that was read

abbrev pub asked_by : Command → Asked
asked_by (commands.Check words) = Check (check_texts_of words)
asked_by (commands.Board words) = Board (texts_of words)
asked_by (commands.Boards words) = Boards (boards_texts_of words)
asked_by (commands.Serve words) = Serve (serve_texts_of words)
asked_by (commands.Timetable words) = Timetable (timetable_texts_of words)
asked_by (commands.Merge words) = Merge (merge_texts_of words)

for-command : (found : Option (Text × List Row)) (x : Command) → IsCommandOf found x → ForOne found (asked_by x)
for-command None x is = absurd is
for-command (Some found) (commands.Check x) is = is
for-command (Some found) (commands.Board x) is = is
for-command (Some found) (commands.Boards x) is = is
for-command (Some found) (commands.Serve x) is = is
for-command (Some found) (commands.Timetable x) is = is
for-command (Some found) (commands.Merge x) is = is

-- what is so of it is so of what the words ask for
pub as-asked : (words : List Text) (x : Command) → takes gtfs_app words ≡ true → IsCommandOf (subcommand_of gtfs_app words) x → (P : Asked → Type 0) → P (asked_by x)
    → (asked : Asked) → Asks words asked → P asked
as-asked words x taken is P h asked asks =
    subst P (one-asked words (asked_by x) asked (asks-by words taken (asked_by x) (for-command (subcommand_of gtfs_app words) x is)) asks) h

-- what a command ends with is what the words ask for
pub ends-asked : (plan : Asked → Plan) (words : List Text) (x command : Command) → x ≡ command → takes gtfs_app words ≡ true → IsCommandOf (subcommand_of gtfs_app words) x
    → (a b : Devices) (r s : Result Bool Refusal) → r ≡ s → Ends (plan (asked_by command)) a b s → (asked : Asked) → Asks words asked → Ends (plan asked) a b r
ends-asked plan words x command is taken read a b r s same ends = as-asked words x taken read (λ asked. Ends (plan asked) a b r)
    (subst (λ (y : Command). Ends (plan (asked_by y)) a b r) (sym is) (subst (λ (e : Result Bool Refusal). Ends (plan (asked_by command)) a b e) (sym same) ends))

-- where `serve` was read, the words ask for no other command
pub unheard-asked : (words : List Text) (x : Command) (texts : LentServeTexts) → x ≡ commands.Serve texts → takes gtfs_app words ≡ true → IsCommandOf (subcommand_of gtfs_app words) x
    → (P : Type 0) → (asked : Asked) → Asks words asked → HearsNothing asked → P
unheard-asked words x texts is taken read P =
    as-asked words x taken read (λ asked. HearsNothing asked → P) (subst (λ (y : Command). HearsNothing (asked_by y) → P) (sym is) (λ none. absurd none))
