-- Where `help` is no command, a fault that asks for help or for the version is the only one that `clap` names.
use Rattle.std.proofs.Common.{◌≡◌, ◌&&◌, ◌||◌, ◌==◌, ℕ, zero, suc, Bool, true, false, not, List, [], ◌∷◌, length, drop, Option, Some, None, is_some, refl, sym, ap, inl, inr, nat_lt}
use Rattle.std.specs.Prelude.{find, if◌then◌else◌, encode_utf8, slice_get, codes}
use Rattle.std.specs.List.{list_all, list_any}
use Rattle.std.specs.Option.{option_map_or}
use Rattle.std.specs.Str.{bytes_eq, chars}
use Rattle.clap.specs.Lexer.{long_of, short_of}
use Rattle.clap.specs.Facts.{parser_of_value, unwrap_or_range}
use Rattle.clap.specs.Values.{refused_kind}
use Rattle.clap.specs.ValueTests.{accepts}
use Rattle.clap.specs.Walk.{Held, Names, Row, Rule, Step, Text, Waiting, Walk, action_of, answers_to, arg_by_id, arg_by_index, arg_by_long, arg_by_short, attached_value, finished, has_row, is_empty, is_pending, most_values, next, nothing_held, reacted, settled, subcommand, subcommand_met, takes_several, takes_values, trailing, value, values_or_missing, walk, walk_from, walked, with_default, word_met}
use Rattle.clap.specs.Simple.{App, Shape, entered, label_of, names_of}
use Rattle.clap.specs.Kinds.{IsAmong, Kinds, check_kinds, or_else, range_kinds, request_kinds, value_kinds, values_kinds}
use Rattle.clap.specs.Faults as fault
use Rattle.clap.specs.declared.builder.action.ArgAction.{ArgAction}
use Rattle.clap.specs.declared.builder.action.ArgAction.TheVariants as action
use Rattle.clap.specs.declared.builder.value_parser.ValueParser.{ValueParser}
use Rattle.clap.specs.declared.error.kind.ErrorKind.{ErrorKind}
use Rattle.clap.specs.declared.error.kind.ErrorKind.TheVariants as kind
use Rattle.gtfs_commands.proofs.TakenWords.{first_passes}

-- the kind of words that ask for help or for the version
abbrev pub is_asked : ErrorKind → Bool
is_asked kind.DisplayHelp = true
is_asked kind.DisplayVersion = true
is_asked _ = false

-- at most one kind, or none that asks for help or for the version
abbrev pub alone : Kinds → Bool
alone [] = true
alone (k ∷ []) = true
alone (k ∷ j ∷ ks) = not (list_any is_asked (k ∷ j ∷ ks))

among_any : (asked : ErrorKind) → is_asked asked ≡ true → (ks : Kinds) → IsAmong asked ks → list_any is_asked ks ≡ true
among_any asked is [] among = absurd among
among_any asked is (k ∷ ks) (inl same) = rw (← same, is) refl
among_any asked is (k ∷ ks) (inr among) = or_true (is_asked k) _ (among_any asked is ks among)
  where
    or_true : (a b : Bool) → b ≡ true → (a || b) ≡ true
    or_true true b e = refl
    or_true false b e = e

-- such a kind is the only one of such a list that has it
pub only_asked : (asked : ErrorKind) → is_asked asked ≡ true → (ks : Kinds) → alone ks ≡ true → IsAmong asked ks → ks ≡ asked ∷ []
only_asked asked is [] e among = absurd among
only_asked asked is (k ∷ []) e (inl same) = ap (λ x. x ∷ []) (sym same)
only_asked asked is (k ∷ []) e (inr none) = absurd none
only_asked asked is (k ∷ j ∷ ks) e among =
    let has : list_any is_asked (k ∷ j ∷ ks) ≡ true = among_any asked is (k ∷ j ∷ ks) among in
    let bad : not true ≡ true = rw has at e in
    cc

either : (a b : Kinds) → alone a ≡ true → alone b ≡ true → alone (or_else a b) ≡ true
either [] b e f = f
either (k ∷ ks) b e f = e

when : (test : Bool) (a b : Kinds) → alone a ≡ true → alone b ≡ true → alone (if test then a else b) ≡ true
when true a b e f = e
when false a b e f = f

-- ---- one use of an argument

value_alone : (i : Bool) (p : ValueParser) (t : Text) → alone (value_kinds i p t) ≡ true
value_alone i p t = when (accepts i p t) [] (refused_kind p ∷ []) refl refl

values_alone : (i : Bool) (p : ValueParser) (ts : List Text) → alone (values_kinds i p ts) ≡ true
values_alone i p [] = refl
values_alone i p (t ∷ ts) = either (value_kinds i p t) (values_kinds i p ts) (value_alone i p t) (values_alone i p ts)

all_alone : (a : Rule) (values : List Text) → alone (fault.values_fault a values) ≡ true
all_alone a values = values_alone a.ignore_case (parser_of_value a.parser) values

range_alone : (least most n : ℕ) → alone (range_kinds least most n) ≡ true
range_alone least most n = go (nat_lt 0 least && n == 0) (least == most) (least == n) (nat_lt n least) (nat_lt most n)
  where
    go : (empty fixed right few many : Bool)
        → alone (if empty then kind.InvalidValue ∷ [] else (if fixed then (if right then [] else kind.WrongNumberOfValues ∷ [])
        else (if few then kind.TooFewValues ∷ [] else (if many then kind.TooManyValues ∷ [] else [])))) ≡ true
    go true fixed right few many = refl
    go false true true few many = refl
    go false true false few many = refl
    go false false right true many = refl
    go false false right false true = refl
    go false false right false false = refl

set_alone : (again : Bool) (a : Rule) (values : List Text) (rows : List Row) → alone (fault.set_fault again a values rows) ≡ true
set_alone again a values rows = either (fault.repeat_fault again a.id rows) (fault.values_fault a values)
    (when (has_row a.id rows && not again) (kind.ArgumentConflict ∷ []) [] refl refl) (all_alone a values)

count_alone : (a : Rule) (values : List Text) (rows : List Row) → alone (fault.count_fault a values rows) ≡ true
count_alone a [] rows = value_alone a.ignore_case (parser_of_value a.parser) _
count_alone a (v ∷ vs) rows = all_alone a (v ∷ vs)

action_alone : (x : ArgAction) (again : Bool) (a : Rule) (values : List Text) (rows : List Row) → alone (fault.action_fault x again a values rows) ≡ true
action_alone action.Set again a values rows = set_alone again a values rows
action_alone action.SetTrue again a values rows = set_alone again a values rows
action_alone action.SetFalse again a values rows = set_alone again a values rows
action_alone action.Append again a values rows = all_alone a values
action_alone action.Count again a values rows = count_alone a values rows
action_alone action.Help again a values rows = refl
action_alone action.HelpShort again a values rows = refl
action_alone action.HelpLong again a values rows = refl
action_alone action.Version again a values rows = refl

use_alone : (again : Bool) (a : Rule) (values : List Text) (rows : List Row) → alone (fault.use_fault again a values rows) ≡ true
use_alone again a values rows =
    let range = unwrap_or_range a.range in
    either (range_kinds range.start_inclusive (most_values a) (length values)) (fault.action_fault (action_of a) again a (values_or_missing a values) rows)
    (range_alone range.start_inclusive (most_values a) (length values)) (action_alone (action_of a) again a (values_or_missing a values) rows)

-- ---- one word

settle_alone : (c : List Rule) (again : Bool) (h : Held) → alone (fault.settle_fault c again h) ≡ true
settle_alone c again h = by_pending h.pending
  where
    by_rule : (found : Option Rule) (values : List Text) → alone (option_map_or (λ a. fault.use_fault again a values h.rows) found []) ≡ true
    by_rule None values = refl
    by_rule (Some a) values = use_alone again a values h.rows

    by_pending : (pending : Option (Text × List Text))
        → alone (option_map_or (λ p. option_map_or (λ a. fault.use_fault again a p.1 h.rows) (arg_by_id c p.0) []) pending []) ≡ true
    by_pending None = refl
    by_pending (Some p) = by_rule (arg_by_id c p.0) p.1

react_alone : (c : List Rule) (again : Bool) (a : Rule) (values : List Text) (h : Held) → alone (fault.react_fault c again a values h) ≡ true
react_alone c again a values h = either (fault.settle_fault c again h) (fault.use_fault again a values (settled c h).rows)
    (settle_alone c again h) (use_alone again a values (settled c h).rows)

option_alone : (c : List Rule) (again : Bool) (a : Rule) (v : Option Text) (h : Held) → alone (fault.option_fault c again a v h) ≡ true
option_alone c again a (Some v) h = react_alone c again a (v ∷ []) h
option_alone c again a None h = settle_alone c again h

long_alone : (c : List Rule) (again : Bool) (found : Option Rule) (v : Option Text) (h : Held) → alone (fault.long_fault c again found v h) ≡ true
long_alone c again None v h = refl
long_alone c again (Some a) v h =
    when (takes_values a) (fault.option_fault c again a v h) (if is_some v then kind.TooManyValues ∷ [] else fault.react_fault c again a [] h)
    (option_alone c again a v h) (when (is_some v) (kind.TooManyValues ∷ []) (fault.react_fault c again a [] h) refl (react_alone c again a [] h))

short_alone : (c : List Rule) (again : Bool) (found : Option Rule) (rest : Text) (h : Held) (more : Held → Kinds)
    → ((k : Held) → alone (more k) ≡ true) → alone (fault.short_fault c again found rest h more) ≡ true
short_alone c again None rest h more e = refl
short_alone c again (Some a) rest h more e =
    when (takes_values a) (fault.option_fault c again a (attached_value rest) h) (or_else (fault.react_fault c again a [] h) (more (reacted c a [] h)))
    (option_alone c again a (attached_value rest) h)
    (either (fault.react_fault c again a [] h) (more (reacted c a [] h)) (react_alone c again a [] h) (e (reacted c a [] h)))

flag_alone : (c : List Rule) (again : Bool) (first : Option ℕ) (flags : Text) (skip : ℕ) (h : Held) (more : Text → ℕ → Held → Kinds)
    → ((t : Text) (n : ℕ) (k : Held) → alone (more t n k) ≡ true) → alone (fault.bundle_step_fault c again first flags skip h more) ≡ true
flag_alone c again None flags skip h more e = refl
flag_alone c again (Some x) flags zero h more e =
    let rest = drop (length (encode_utf8 x)) flags in
    short_alone c again (arg_by_short c x) rest h (more rest 0) (e rest 0)
flag_alone c again (Some x) flags (suc skip) h more e = e _ skip h

flags_alone : (c : List Rule) (again : Bool) (k : ℕ) (flags : Text) (skip : ℕ) (h : Held) → alone (fault.flags_fault c again k flags skip h) ≡ true
unfolding fault.flags_fault
flags_alone c again zero flags skip h = refl
flags_alone c again (suc k) flags skip h =
    flag_alone c again (slice_get (chars flags) 0) flags skip h (fault.flags_fault c again k) (flags_alone c again k)

flag_word_alone : (c : List Rule) (again : Bool) (long : Option (Text × Option Text)) (word : Text) (h : Held)
    → alone (fault.flag_word_fault c again long word h) ≡ true
flag_word_alone c again (Some p) word h = long_alone c again (arg_by_long c p.0) p.1 h
flag_word_alone c again None word h = go (short_of word)
  where
    go : (short : Option Text) → alone (option_map_or (λ flags. fault.bundle_fault c again flags h) short []) ≡ true
    go None = refl
    go (Some flags) = flags_alone c again (length flags) flags h.skip (record h { skip = 0 })

other_alone : (s : Shape) (met : Option Text) (word : Text) (h : Held) → s.disable_help_subcommand ≡ true → alone (fault.other_fault s met word h) ≡ true
other_alone s (Some name) word h disabled = go (bytes_eq name (codes "help")) s.disable_help_subcommand disabled
  where
    go : (is_name disabled : Bool) → disabled ≡ true → alone (if is_name && not disabled then kind.DisplayHelp ∷ kind.InvalidSubcommand ∷ [] else []) ≡ true
    go is_name false e = cc
    go true true e = refl
    go false true e = refl
other_alone s None word h disabled =
    when (bytes_eq word (45 ∷ 45 ∷ [])) [] (fault.flag_word_fault s.rules s.args_override_self (long_of word) word h) refl
    (flag_word_alone s.rules s.args_override_self (long_of word) word h)

word_alone : (s : Shape) (names : Names) (is_trailing : Bool) (waiting : Waiting) (word : Text) (h : Held) → s.disable_help_subcommand ≡ true
    → alone (fault.word_fault s names is_trailing waiting word h) ≡ true
word_alone s names true waiting word h disabled = refl
word_alone s names false waiting word h disabled = other_alone s (subcommand_met names waiting word) word h disabled

step_alone : (s : Shape) (position : ℕ) (h : Held) (step : Step) → alone (fault.step_fault s position h step) ≡ true
step_alone s position h (next waiting) = refl
step_alone s position h (trailing p) = refl
step_alone s position h (subcommand name) = refl
step_alone s position h value = go (arg_by_index s.rules position)
  where
    go : (found : Option Rule) → alone (option_map_or (λ a. fault.positional_fault s.rules s.args_override_self a h) found (fault.stray_fault s)) ≡ true
    go None = when s.is_leaf (kind.UnknownArgument ∷ []) (kind.UnknownArgument ∷ kind.InvalidSubcommand ∷ []) refl refl
    go (Some a) = when (is_pending a h.pending && takes_several a) [] (fault.settle_fault s.rules s.args_override_self h) refl
        (settle_alone s.rules s.args_override_self h)

turn_alone : (s : Shape) (names : Names) (w : Walk) (word : Text) → s.disable_help_subcommand ≡ true → alone (fault.turn_fault s names w word) ≡ true
turn_alone s names w word disabled =
    let met = word_met s.rules names w.is_trailing w.waiting w.position word w.held in
    let first = fault.word_fault s names w.is_trailing w.waiting word w.held in
    let second = fault.step_fault s w.position met.0 met.1 in
    when (is_some w.stopped) [] (or_else first second) refl
    (either first second (word_alone s names w.is_trailing w.waiting word w.held disabled) (step_alone s w.position met.0 met.1))

walk_alone : (s : Shape) (names : Names) (w : Walk) (words : List Text) → s.disable_help_subcommand ≡ true → alone (fault.walk_fault s names w words) ≡ true
unfolding fault.walk_fault
walk_alone s names w [] disabled = refl
walk_alone s names w (word ∷ rest) disabled =
    either (fault.turn_fault s names w word) (fault.walk_fault s names (walked s.rules names w word) rest)
    (turn_alone s names w word disabled) (walk_alone s names (walked s.rules names w word) rest disabled)

-- ---- the whole command

request_alone : (x : ArgAction) → alone (request_kinds x) ≡ true
request_alone action.Set = refl
request_alone action.SetTrue = refl
request_alone action.SetFalse = refl
request_alone action.Append = refl
request_alone action.Count = refl
request_alone action.Help = refl
request_alone action.HelpShort = refl
request_alone action.HelpLong = refl
request_alone action.Version = refl

default_alone : (rows : List Row) (a : Rule) → alone (fault.default_fault rows a) ≡ true
default_alone rows a =
    when (has_row a.id rows || is_empty a.defaults) [] (fault.given_default_fault a a.defaults) refl
    (either (request_kinds (action_of a)) (fault.values_fault a a.defaults) (request_alone (action_of a)) (all_alone a a.defaults))

defaults_alone : (rows : List Row) (rules : List Rule) → alone (fault.defaults_fault rows rules) ≡ true
unfolding fault.defaults_fault
defaults_alone rows [] = refl
defaults_alone rows (a ∷ rest) =
    either (fault.default_fault rows a) (fault.defaults_fault (with_default rows a) rest) (default_alone rows a) (defaults_alone (with_default rows a) rest)

checks_alone : (help command argument : Bool) → alone (check_kinds help command argument) ≡ true
checks_alone true command argument = refl
checks_alone false true argument = refl
checks_alone false false true = refl
checks_alone false false false = refl

level_alone : (s : Shape) (names : Names) (h : Held) (words : List Text) (has : Bool) (below : Kinds) → s.disable_help_subcommand ≡ true → alone below ≡ true
    → alone (fault.level_fault s names h words has below) ≡ true
level_alone s names h words has below disabled under =
    let end = (walk s.rules names h words).held in
    let walks = fault.walk_fault s names (walk_from h) words in
    let settles = fault.settle_fault s.rules s.args_override_self end in
    let defaults = fault.defaults_fault (settled s.rules end).rows s.rules in
    let checks = fault.check_fault s (finished s.rules end) has in
    either walks (or_else below (or_else settles (or_else defaults checks))) (walk_alone s names (walk_from h) words disabled)
    (either below (or_else settles (or_else defaults checks)) under
    (either settles (or_else defaults checks) (settle_alone s.rules s.args_override_self end)
    (either defaults checks (defaults_alone (settled s.rules end).rows s.rules) (checks_alone _ _ _))))

entered_alone : (a : App) (stop : Option (Text × List Text)) → list_all (λ s. s.disable_help_subcommand) a.subs ≡ true → alone (fault.entered_fault a stop) ≡ true
entered_alone a None disabled = refl
entered_alone a (Some p) disabled =
    go (find (λ s. answers_to p.0 (label_of s)) a.subs) (first_passes (λ s. answers_to p.0 (label_of s)) (λ s. s.disable_help_subcommand) a.subs)
  where
    go : (found : Option Shape) → ((s : Shape) → list_all (λ x. x.disable_help_subcommand) a.subs ≡ true → found ≡ Some s → s.disable_help_subcommand ≡ true)
        → alone (option_map_or (λ s. fault.level_fault s [] nothing_held p.1 false []) found []) ≡ true
    go None is = refl
    go (Some s) is = level_alone s [] nothing_held p.1 false [] (is s disabled refl) refl

pub built_alone : (a : App) (h : Held) (words : List Text) → a.top.disable_help_subcommand ≡ true → list_all (λ s. s.disable_help_subcommand) a.subs ≡ true
    → alone (fault.built_fault a h words) ≡ true
built_alone a h words top subs =
    let stop = (walk a.top.rules (names_of a) h words).stopped in
    level_alone a.top (names_of a) h words (is_some (entered a stop)) (fault.entered_fault a stop) top (entered_alone a stop subs)
