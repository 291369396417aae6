-- What words ask for is one thing: two askings of one command have the same texts.
use Rattle.std.proofs.Common.{◌≡◌, ◌∙◌, List, Option, Some, None, ap, sym}
use Rattle.std.specs.Prelude.{unwrap_or}
use Rattle.clap.specs.Words.{Row, Text}
use Rattle.gtfs_commands.specs.AskedTexts.{AsksBoardOf, AsksBoardsOf, AsksCheckOf, AsksMergeOf, AsksServeOf, AsksTimetableOf, BoardTexts, BoardsTexts, CheckTexts, ForBoard, ForBoards, ForCheck, ForMerge, ForServe, ForTimetable, MergeTexts, ServeTexts, TimetableTexts}

same : (o : Option Text) (x y : Text) → o ≡ Some x → o ≡ Some y → x ≡ y
same o x y is_x is_y = ap (λ p. unwrap_or p x) (sym is_x ∙ is_y)

pub same_check : (found : Option (Text × List Row)) (a b : CheckTexts) → ForCheck found a → ForCheck found b → a ≡ b
same_check None a b is_a is_b = absurd is_a
same_check (Some found) a b is_a is_b =
    let dir : a.dir ≡ b.dir = same _ a.dir b.dir is_a.1.dir is_b.1.dir in
    let values : a.values ≡ b.values = sym is_a.1.values ∙ is_b.1.values in
    let summary : a.summary ≡ b.summary = sym is_a.1.summary ∙ is_b.1.summary in
    let advise : a.advise ≡ b.advise = sym is_a.1.advise ∙ is_b.1.advise in
    let day : a.day ≡ b.day = sym is_a.1.day ∙ is_b.1.day in
    λ i. record { dir = dir i; values = values i; summary = summary i; advise = advise i; day = day i }

pub same_board : (found : Option (Text × List Row)) (a b : BoardTexts) → ForBoard found a → ForBoard found b → a ≡ b
same_board None a b is_a is_b = absurd is_a
same_board (Some found) a b is_a is_b =
    let dir : a.dir ≡ b.dir = same _ a.dir b.dir is_a.1.dir is_b.1.dir in
    let zone : a.zone ≡ b.zone = same _ a.zone b.zone is_a.1.zone is_b.1.zone in
    let stop : a.stop ≡ b.stop = same _ a.stop b.stop is_a.1.stop is_b.1.stop in
    let from : a.from ≡ b.from = same _ a.from b.from is_a.1.from is_b.1.from in
    let until : a.until ≡ b.until = same _ a.until b.until is_a.1.until is_b.1.until in
    let limit : a.limit ≡ b.limit = sym is_a.1.limit ∙ is_b.1.limit in
    let after : a.after ≡ b.after = sym is_a.1.after ∙ is_b.1.after in
    let interpolate : a.interpolate ≡ b.interpolate = sym is_a.1.interpolate ∙ is_b.1.interpolate in
    λ i. record {
      dir = dir i;
      zone = zone i;
      stop = stop i;
      from = from i;
      until = until i;
      limit = limit i;
      after = after i;
      interpolate = interpolate i;
    }

pub same_boards : (found : Option (Text × List Row)) (a b : BoardsTexts) → ForBoards found a → ForBoards found b → a ≡ b
same_boards None a b is_a is_b = absurd is_a
same_boards (Some found) a b is_a is_b =
    let dir : a.dir ≡ b.dir = same _ a.dir b.dir is_a.1.dir is_b.1.dir in
    let zone : a.zone ≡ b.zone = same _ a.zone b.zone is_a.1.zone is_b.1.zone in
    let requests : a.requests ≡ b.requests = same _ a.requests b.requests is_a.1.requests is_b.1.requests in
    let interpolate : a.interpolate ≡ b.interpolate = sym is_a.1.interpolate ∙ is_b.1.interpolate in
    λ i. record { dir = dir i; zone = zone i; requests = requests i; interpolate = interpolate i }

pub same_serve : (found : Option (Text × List Row)) (a b : ServeTexts) → ForServe found a → ForServe found b → a ≡ b
same_serve None a b is_a is_b = absurd is_a
same_serve (Some found) a b is_a is_b =
    let dir : a.dir ≡ b.dir = same _ a.dir b.dir is_a.1.dir is_b.1.dir in
    let zone : a.zone ≡ b.zone = same _ a.zone b.zone is_a.1.zone is_b.1.zone in
    let interpolate : a.interpolate ≡ b.interpolate = sym is_a.1.interpolate ∙ is_b.1.interpolate in
    λ i. record { dir = dir i; zone = zone i; interpolate = interpolate i }

pub same_timetable : (found : Option (Text × List Row)) (a b : TimetableTexts) → ForTimetable found a → ForTimetable found b → a ≡ b
same_timetable None a b is_a is_b = absurd is_a
same_timetable (Some found) a b is_a is_b =
    let dir : a.dir ≡ b.dir = same _ a.dir b.dir is_a.1.dir is_b.1.dir in
    let route : a.route ≡ b.route = same _ a.route b.route is_a.1.route is_b.1.route in
    let date : a.date ≡ b.date = same _ a.date b.date is_a.1.date is_b.1.date in
    let direction : a.direction ≡ b.direction = sym is_a.1.direction ∙ is_b.1.direction in
    let interpolate : a.interpolate ≡ b.interpolate = sym is_a.1.interpolate ∙ is_b.1.interpolate in
    λ i. record { dir = dir i; route = route i; date = date i; direction = direction i; interpolate = interpolate i }

pub same_merge : (found : Option (Text × List Row)) (a b : MergeTexts) → ForMerge found a → ForMerge found b → a ≡ b
same_merge None a b is_a is_b = absurd is_a
same_merge (Some found) a b is_a is_b =
    let first : a.a ≡ b.a = same _ a.a b.a is_a.1.a is_b.1.a in
    let second : a.b ≡ b.b = same _ a.b b.b is_a.1.b is_b.1.b in
    let out : a.out ≡ b.out = same _ a.out b.out is_a.1.out is_b.1.out in
    let near : a.near ≡ b.near = sym is_a.1.near ∙ is_b.1.near in
    let cutoff : a.cutoff ≡ b.cutoff = sym is_a.1.cutoff ∙ is_b.1.cutoff in
    λ i. record { a = first i; b = second i; out = out i; near = near i; cutoff = cutoff i }

pub one_check : (words : List Text) (a b : CheckTexts) → AsksCheckOf words a → AsksCheckOf words b → a ≡ b
one_check words a b is_a is_b = same_check _ a b is_a.asks is_b.asks

pub one_board : (words : List Text) (a b : BoardTexts) → AsksBoardOf words a → AsksBoardOf words b → a ≡ b
one_board words a b is_a is_b = same_board _ a b is_a.asks is_b.asks

pub one_boards : (words : List Text) (a b : BoardsTexts) → AsksBoardsOf words a → AsksBoardsOf words b → a ≡ b
one_boards words a b is_a is_b = same_boards _ a b is_a.asks is_b.asks

pub one_serve : (words : List Text) (a b : ServeTexts) → AsksServeOf words a → AsksServeOf words b → a ≡ b
one_serve words a b is_a is_b = same_serve _ a b is_a.asks is_b.asks

pub one_timetable : (words : List Text) (a b : TimetableTexts) → AsksTimetableOf words a → AsksTimetableOf words b → a ≡ b
one_timetable words a b is_a is_b = same_timetable _ a b is_a.asks is_b.asks

pub one_merge : (words : List Text) (a b : MergeTexts) → AsksMergeOf words a → AsksMergeOf words b → a ≡ b
one_merge words a b is_a is_b = same_merge _ a b is_a.asks is_b.asks
