-- What the words of `gtfs` ask for where `clap` takes them, and what is the matter where it does not.
use Rattle.std.proofs.Common.{◌≡◌, ◌⊎◌, ◌∙◌, ◌&&◌, Bool, true, false, List, [], ◌∷◌, Option, Some, None, is_some, refl, sym, subst, inl, inr, codes}
use Rattle.std.specs.Prelude.{option_map, if◌then◌else◌}
use Rattle.std.specs.Option.{option_map_or}
use Rattle.std.proofs.lemmas.Bool.{and_parts, false_from_ne_true}
use Rattle.clap.specs.Words.{App, Row, Text, HasMatchesOf, IsAmong, fault_of, is_simple_and_free, subcommand_of, subcommand_rows_of, takes}
use Rattle.clap.specs.Simple.{Shape, argument_words, built, built_leaf, entered, inherited, label_of, marked_built, names_of, rows_at, with_leaf_noted}
use Rattle.clap.specs.Takes as take
use Rattle.clap.specs.Walk.{answers_to, nothing_held, rows_after, walk}
use Rattle.clap.specs.declared.error.kind.ErrorKind.{ErrorKind}
use Rattle.clap.specs.declared.error.kind.ErrorKind.TheVariants as kind
use Rattle.clap.specs.declared.parser.matches.ArgMatches.{ArgMatches}
use Rattle.gtfs_commands.specs.AskedTexts.{HasBoard, HasBoards, HasCheck, HasMerge, HasServe, HasTimetable, IsWhole}
use Rattle.gtfs_commands.specs.CommandLine.{board_app, boards_app, check_app, gtfs_app, merge_app, serve_app, timetable_app}
use Rattle.gtfs_commands.specs.HelpAndRefusals.{no_memory, IsFaultOf, IsToldOf}
use Rattle.gtfs_commands.specs.declared.fault.WordsFault.{WordsFault}
use Rattle.gtfs_commands.specs.declared.fault.WordsFault.TheVariants as fault
use Rattle.gtfs_commands.proofs.AskedAlone.{alone, built_alone, is_asked, only_asked}
use Rattle.gtfs_commands.proofs.TakenWords.{built_taken}
use Rattle.gtfs_commands.proofs.GivenTexts.{are_filled, given_text, level_command, level_filled, level_given}

help_is_no_memory : kind.DisplayHelp ≡ kind.OutOfMemory → ⊥
help_is_no_memory e = cc

version_is_no_memory : kind.DisplayVersion ≡ kind.OutOfMemory → ⊥
version_is_no_memory e = cc

-- words without a fault are taken
pub taken : (words : List Text) → fault_of gtfs_app words ≡ [] → takes gtfs_app words ≡ true
taken words e = built_taken (built gtfs_app) nothing_held (argument_words gtfs_app words) refl refl e

-- a command as `clap` builds it below the program
abbrev below : App → Shape
below app = built_leaf (inherited (with_leaf_noted (marked_built gtfs_app.top)) app.top)

abbrev check_built : Shape
check_built = below check_app

abbrev board_built : Shape
board_built = below board_app

abbrev boards_built : Shape
boards_built = below boards_app

abbrev serve_built : Shape
serve_built = below serve_app

abbrev timetable_built : Shape
timetable_built = below timetable_app

abbrev merge_built : Shape
merge_built = below merge_app

-- where nothing required is wanting, the id of `check` has a text
has_check : (rows : List Row) → are_filled rows ≡ true → (take.is_given (codes "DIR") rows && true) ≡ true → HasCheck rows
has_check rows filled all = given_text (codes "DIR") rows filled (and_parts (take.is_given (codes "DIR") rows) true all).0

-- and each id that `board` needs
has_board : (rows : List Row) → are_filled rows ≡ true
    → (take.is_given (codes "DIR") rows && (take.is_given (codes "zone") rows && (take.is_given (codes "stop") rows
    && (take.is_given (codes "from") rows && (take.is_given (codes "until") rows && true))))) ≡ true
    → HasBoard rows
has_board rows filled all =
    let until = take.is_given (codes "until") rows && true in
    let from = take.is_given (codes "from") rows && until in
    let stop = take.is_given (codes "stop") rows && from in
    let zone = take.is_given (codes "zone") rows && stop in
    let dirs = and_parts (take.is_given (codes "DIR") rows) zone all in
    let zones = and_parts (take.is_given (codes "zone") rows) stop dirs.1 in
    let stops = and_parts (take.is_given (codes "stop") rows) from zones.1 in
    let froms = and_parts (take.is_given (codes "from") rows) until stops.1 in
    let untils = and_parts (take.is_given (codes "until") rows) true froms.1 in
    record {
      dir = given_text (codes "DIR") rows filled dirs.0;
      zone = given_text (codes "zone") rows filled zones.0;
      stop = given_text (codes "stop") rows filled stops.0;
      from = given_text (codes "from") rows filled froms.0;
      until = given_text (codes "until") rows filled untils.0;
    }

-- and each id that `boards` needs
has_boards : (rows : List Row) → are_filled rows ≡ true
    → (take.is_given (codes "DIR") rows && (take.is_given (codes "zone") rows && (take.is_given (codes "requests") rows && true))) ≡ true
    → HasBoards rows
has_boards rows filled all =
    let requests = take.is_given (codes "requests") rows && true in
    let zone = take.is_given (codes "zone") rows && requests in
    let dirs = and_parts (take.is_given (codes "DIR") rows) zone all in
    let zones = and_parts (take.is_given (codes "zone") rows) requests dirs.1 in
    let files = and_parts (take.is_given (codes "requests") rows) true zones.1 in
    record {
      dir = given_text (codes "DIR") rows filled dirs.0;
      zone = given_text (codes "zone") rows filled zones.0;
      requests = given_text (codes "requests") rows filled files.0;
    }

-- and each id that `serve` needs
has_serve : (rows : List Row) → are_filled rows ≡ true
    → (take.is_given (codes "DIR") rows && (take.is_given (codes "zone") rows && true)) ≡ true
    → HasServe rows
has_serve rows filled all =
    let zone = take.is_given (codes "zone") rows && true in
    let dirs = and_parts (take.is_given (codes "DIR") rows) zone all in
    let zones = and_parts (take.is_given (codes "zone") rows) true dirs.1 in
    record { dir = given_text (codes "DIR") rows filled dirs.0; zone = given_text (codes "zone") rows filled zones.0 }

-- and each id that `timetable` needs
has_timetable : (rows : List Row) → are_filled rows ≡ true
    → (take.is_given (codes "DIR") rows && (take.is_given (codes "route") rows && (take.is_given (codes "date") rows && true))) ≡ true
    → HasTimetable rows
has_timetable rows filled all =
    let date = take.is_given (codes "date") rows && true in
    let route = take.is_given (codes "route") rows && date in
    let dirs = and_parts (take.is_given (codes "DIR") rows) route all in
    let routes = and_parts (take.is_given (codes "route") rows) date dirs.1 in
    let dates = and_parts (take.is_given (codes "date") rows) true routes.1 in
    record {
      dir = given_text (codes "DIR") rows filled dirs.0;
      route = given_text (codes "route") rows filled routes.0;
      date = given_text (codes "date") rows filled dates.0;
    }

-- and each id that `merge` needs
has_merge : (rows : List Row) → are_filled rows ≡ true
    → (take.is_given (codes "A") rows && (take.is_given (codes "B") rows && (take.is_given (codes "OUT") rows && true))) ≡ true
    → HasMerge rows
has_merge rows filled all =
    let out = take.is_given (codes "OUT") rows && true in
    let second = take.is_given (codes "B") rows && out in
    let firsts = and_parts (take.is_given (codes "A") rows) second all in
    let seconds = and_parts (take.is_given (codes "B") rows) out firsts.1 in
    let outs = and_parts (take.is_given (codes "OUT") rows) true seconds.1 in
    record {
      a = given_text (codes "A") rows filled firsts.0;
      b = given_text (codes "B") rows filled seconds.0;
      out = given_text (codes "OUT") rows filled outs.0;
    }

entered_whole : (stop : Option (Text × List Text)) → take.entered_passes (built gtfs_app) stop ≡ true → is_some (entered (built gtfs_app) stop) ≡ true
    → IsWhole (entered (built gtfs_app) stop)
entered_whole None passes has = cc
entered_whole (Some p) passes has =
    go (answers_to p.0 (label_of check_built)) (answers_to p.0 (label_of board_built)) (answers_to p.0 (label_of boards_built))
    (answers_to p.0 (label_of serve_built)) (answers_to p.0 (label_of timetable_built)) (answers_to p.0 (label_of merge_built)) passes has
  where
    named : Bool → Bool → Bool → Bool → Bool → Bool → Option Shape
    named checks single boards serves timetables merges =
        if checks then Some check_built else (if single then Some board_built else (if boards then Some boards_built
        else (if serves then Some serve_built else (if timetables then Some timetable_built else (if merges then Some merge_built else None)))))

    go : (checks single boards serves timetables merges : Bool)
        → option_map_or (λ s. take.level_passes s [] nothing_held p.1 false) (named checks single boards serves timetables merges) true ≡ true
        → is_some (option_map (λ s. rows_at s p.1) (named checks single boards serves timetables merges)) ≡ true
        → IsWhole (option_map (λ s. rows_at s p.1) (named checks single boards serves timetables merges))
    go true single boards serves timetables merges passes has =
        inl (refl, has_check (rows_after check_built.rules [] p.1) (level_filled check_built [] p.1 false refl passes) (level_given check_built [] p.1 passes))
    go false true boards serves timetables merges passes has =
        inr (inl (
          refl,
          has_board (rows_after board_built.rules [] p.1) (level_filled board_built [] p.1 false refl passes)
              (level_given board_built [] p.1 passes),
        ))
    go false false true serves timetables merges passes has =
        inr (inr (inl (
          refl,
          has_boards (rows_after boards_built.rules [] p.1) (level_filled boards_built [] p.1 false refl passes)
              (level_given boards_built [] p.1 passes),
        )))
    go false false false true timetables merges passes has =
        inr (inr (inr (inl (
          refl,
          has_serve (rows_after serve_built.rules [] p.1) (level_filled serve_built [] p.1 false refl passes)
              (level_given serve_built [] p.1 passes),
        ))))
    go false false false false true merges passes has =
        inr (inr (inr (inr (inl (
          refl,
          has_timetable (rows_after timetable_built.rules [] p.1) (level_filled timetable_built [] p.1 false refl passes)
              (level_given timetable_built [] p.1 passes),
        )))))
    go false false false false false true passes has =
        inr (inr (inr (inr (inr (
          refl,
          has_merge (rows_after merge_built.rules [] p.1) (level_filled merge_built [] p.1 false refl passes)
              (level_given merge_built [] p.1 passes),
        )))))
    go false false false false false false passes has = cc

-- words that are taken name a command and give all that it needs
pub whole : (words : List Text) → takes gtfs_app words ≡ true → IsWhole (subcommand_of gtfs_app words)
whole words e =
    let app = built gtfs_app in
    let args = argument_words gtfs_app words in
    let stop = (walk app.top.rules (names_of app) nothing_held args).stopped in
    let below = take.entered_passes app stop in
    let above = take.level_passes app.top (names_of app) nothing_held args (is_some (entered app stop)) in
    let levels = and_parts below above e in
    entered_whole stop levels.0 (level_command app.top (names_of app) args (is_some (entered app stop)) refl levels.1)

-- what a parse of the words gives, where a is the command line of `gtfs`
module _ (a : App) (words : List Text) (is : a ≡ gtfs_app) where
  pub taken_by : (is_simple_and_free a ≡ true → fault_of a words ≡ []) → takes gtfs_app words ≡ true
  taken_by faults = taken words (subst (λ x. is_simple_and_free x ≡ true → fault_of x words ≡ []) is faults refl)

  pub read_by : (m : ArgMatches) → HasMatchesOf a words m → subcommand_rows_of m ≡ subcommand_of gtfs_app words
  read_by m matches = (subst (λ x. HasMatchesOf x words m) is matches refl).1

  pub whole_by : (m : ArgMatches) → HasMatchesOf a words m → (is_simple_and_free a ≡ true → fault_of a words ≡ []) → IsWhole (subcommand_rows_of m)
  whole_by m matches faults = subst IsWhole (sym (read_by m matches)) (whole words (taken_by faults))

-- the kind of words that ask for help or for the version is named beside no other
asked_alone : (words : List Text) → alone (fault_of gtfs_app words) ≡ true
asked_alone words = built_alone (built gtfs_app) nothing_held (argument_words gtfs_app words) refl refl

-- where an error of `clap` has such a kind, the words are not taken, and it is the first that is said of them
asked_first : (words : List Text) (k asked : ErrorKind) → is_asked asked ≡ true → (asked ≡ kind.OutOfMemory → ⊥)
    → (takes gtfs_app words ≡ true → k ≡ kind.OutOfMemory) → (k ≡ kind.OutOfMemory) ⊎ IsAmong k (fault_of gtfs_app words) → k ≡ asked
    → (takes gtfs_app words ≡ false) × (fault_of gtfs_app words ≡ asked ∷ [])
asked_first words k asked is no_memory passes among same = (
  false_from_ne_true (takes gtfs_app words) (λ e. no_memory (sym same ∙ passes e)),
  elim among [
    | inl no_room ↦ absurd (no_memory (sym same ∙ no_room))
    | inr found ↦ only_asked asked is (fault_of gtfs_app words) (asked_alone words) (subst (λ x. IsAmong x (fault_of gtfs_app words)) same found)
  ],
)

-- an error of another kind than this is not that of words of which this is said alone
other_said : (words : List Text) (k asked : ErrorKind) → (k ≡ asked → ⊥) → (k ≡ kind.OutOfMemory → ⊥)
    → (k ≡ kind.OutOfMemory) ⊎ IsAmong k (fault_of gtfs_app words) → fault_of gtfs_app words ≡ asked ∷ [] → ⊥
other_said words k asked other no_memory among asks =
    elim among [ inl no_room ↦ no_memory no_room | inr found ↦ other_kind (subst (IsAmong k) asks found) ]
  where
    other_kind : IsAmong k (asked ∷ []) → ⊥
    other_kind (inl same) = other same
    other_kind (inr none) = none

-- a fault that is told of an error of `clap` is the fault of the words
pub fault_is : (words : List Text) (k : ErrorKind) (told : WordsFault) → (takes gtfs_app words ≡ true → k ≡ kind.OutOfMemory)
    → (k ≡ kind.OutOfMemory) ⊎ IsAmong k (fault_of gtfs_app words) → IsToldOf k told → IsFaultOf words told
fault_is words k (fault.Refused text) passes among is = record {
  untaken = false_from_ne_true (takes gtfs_app words) (λ e. is.1.1 (passes e));
  no_help = other_said words k kind.DisplayHelp is.0 is.1.1 among;
  no_version = other_said words k kind.DisplayVersion is.1.0 is.1.1 among;
}
fault_is words k (fault.Help text) passes among is = asked_first words k kind.DisplayHelp refl help_is_no_memory passes among is
fault_is words k (fault.Version text) passes among is = asked_first words k kind.DisplayVersion refl version_is_no_memory passes among is
fault_is words k fault.OutOfMemory passes among is = tt

-- of words that are taken only memory is told
pub memory_is : (words : List Text) (k : ErrorKind) (told : WordsFault) → (takes gtfs_app words ≡ true → k ≡ kind.OutOfMemory) → IsToldOf k told
    → takes gtfs_app words ≡ true → told ≡ no_memory
memory_is words k (fault.Refused text) passes is e = absurd (is.1.1 (passes e))
memory_is words k (fault.Help text) passes is e = absurd (help_is_no_memory (sym is ∙ passes e))
memory_is words k (fault.Version text) passes is e = absurd (version_is_no_memory (sym is ∙ passes e))
memory_is words k fault.OutOfMemory passes is e = refl

module _ (a : App) (words : List Text) (is : a ≡ gtfs_app) (k : ErrorKind) (told : WordsFault) (told_of : IsToldOf k told)
    (passes : takes a words ≡ true → k ≡ kind.OutOfMemory) where
  pub fault_by : (is_simple_and_free a ≡ true → (k ≡ kind.OutOfMemory) ⊎ IsAmong k (fault_of a words)) → IsFaultOf words told
  fault_by kinds = fault_is words k told (subst (λ x. takes x words ≡ true → k ≡ kind.OutOfMemory) is passes)
      (subst (λ x. is_simple_and_free x ≡ true → (k ≡ kind.OutOfMemory) ⊎ IsAmong k (fault_of x words)) is kinds refl) told_of

  pub memory_by : takes gtfs_app words ≡ true → told ≡ no_memory
  memory_by = memory_is words k told (subst (λ x. takes x words ≡ true → k ≡ kind.OutOfMemory) is passes) told_of
