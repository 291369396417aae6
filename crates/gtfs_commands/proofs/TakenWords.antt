-- Where `clap` finds no fault in the words of a simple command without defaults, it takes them.
use Rattle.std.proofs.Common.{◌≡◌, ◌&&◌, ◌||◌, ℕ, zero, suc, Bool, true, false, not, List, [], ◌∷◌, length, drop, Option, Some, None, is_some, refl, arith, nat_le}
use Rattle.std.specs.Prelude.{find, if◌then◌else◌, encode_utf8, slice_get, codes}
use Rattle.std.specs.List.{list_all, list_any}
use Rattle.std.specs.Option.{option_map_or}
use Rattle.std.specs.Str.{bytes_eq, chars}
use Rattle.std.proofs.lemmas.Bool.{and_from, and_parts}
use Rattle.std.proofs.lemmas.Option.{same_Some}
use Rattle.std.proofs.Math.Bool.{or-true}
use Rattle.clap.specs.Lexer.{long_of, short_of}
use Rattle.clap.specs.Facts.{explicit_source, parser_of_value, unwrap_or_range}
use Rattle.clap.specs.Values.{refused_kind}
use Rattle.clap.specs.ValueTests.{accepts}
use Rattle.clap.specs.Walk.{Held, Names, Row, Rule, Step, Text, Waiting, Walk, action_of, answers_to, arg_by_id, arg_by_index, arg_by_long, arg_by_short, attached_value, finished, has_row, is_pending, most_values, nothing_held, reacted, settled, subcommand_met, takes_several, takes_values, value, next, trailing, subcommand, values_or_missing, walk, walk_from, walked, word_met}
use Rattle.clap.specs.Simple.{App, Shape, entered, label_of, names_of}
use Rattle.clap.specs.Kinds.{Kinds, check_kinds, or_else, range_kinds, value_kinds, values_kinds}
use Rattle.clap.specs.Faults as fault
use Rattle.clap.specs.Takes as take
use Rattle.clap.specs.declared.builder.action.ArgAction.{ArgAction}
use Rattle.clap.specs.declared.builder.action.ArgAction.TheVariants as action
use Rattle.clap.specs.declared.error.kind.ErrorKind.TheVariants as kind
use Rattle.clap.specs.declared.builder.value_parser.ValueParser.{ValueParser}

-- ---- tests

pub none_first : (a b : Kinds) → or_else a b ≡ [] → (a ≡ []) × (b ≡ [])
none_first [] b e = (refl, e)
none_first (k ∷ ks) b e = cc

-- the first that passes a test passes each test that all pass
pub first_passes : {X : Type 0} (p q : X → Bool) (xs : List X) (x : X) → list_all q xs ≡ true → find p xs ≡ Some x → q x ≡ true
first_passes p q [] x all found = cc
first_passes {X} p q (y ∷ ys) x all found = go (p y) found (first_passes p q ys x (and_parts (q y) (list_all q ys) all).1)
  where
    go : (b : Bool) → (if b then Some y else find p ys) ≡ Some x → (find p ys ≡ Some x → q x ≡ true) → q x ≡ true
    go true e rest = rw (← same_Some y x e) (and_parts (q y) (list_all q ys) all).0
    go false e rest = rest e

-- ---- one use of an argument

value_taken : (i : Bool) (p : ValueParser) (t : Text) → value_kinds i p t ≡ [] → accepts i p t ≡ true
value_taken i p t e = go (accepts i p t) e
  where
    go : (b : Bool) → (if b then [] else refused_kind p ∷ []) ≡ [] → b ≡ true
    go true e = refl
    go false e = cc

values_taken : (i : Bool) (p : ValueParser) (ts : List Text) → values_kinds i p ts ≡ [] → list_all (accepts i p) ts ≡ true
values_taken i p [] e = refl
values_taken i p (t ∷ ts) e =
    let parts = none_first (value_kinds i p t) (values_kinds i p ts) e in
    and_from _ _ (value_taken i p t parts.0) (values_taken i p ts parts.1)

range_taken : (least most n : ℕ) → range_kinds least most n ≡ [] → (nat_le least n ≡ true) × (nat_le n most ≡ true)
range_taken least most n e = (grind arith, grind arith)

set_taken : (again : Bool) (a : Rule) (values : List Text) (rows : List Row) → fault.set_fault again a values rows ≡ [] → take.set_passes again a values rows ≡ true
set_taken again a values rows e =
    let parts = none_first (fault.repeat_fault again a.id rows) (fault.values_fault a values) e in
    and_from _ _ (go (has_row a.id rows) again parts.0) (values_taken a.ignore_case (parser_of_value a.parser) values parts.1)
  where
    go : (has again : Bool) → (if has && not again then kind.ArgumentConflict ∷ [] else []) ≡ [] → (not has || again) ≡ true
    go true true e = refl
    go true false e = cc
    go false again e = refl

count_taken : (a : Rule) (values : List Text) (rows : List Row) → fault.count_fault a values rows ≡ [] → take.count_passes a values rows ≡ true
count_taken a [] rows e = value_taken a.ignore_case (parser_of_value a.parser) _ e
count_taken a (v ∷ vs) rows e = values_taken a.ignore_case (parser_of_value a.parser) (v ∷ vs) e

action_taken : (x : ArgAction) (again : Bool) (a : Rule) (values : List Text) (rows : List Row) → fault.action_fault x again a values rows ≡ []
    → take.action_passes x again a values rows ≡ true
action_taken action.Set again a values rows e = set_taken again a values rows e
action_taken action.SetTrue again a values rows e = set_taken again a values rows e
action_taken action.SetFalse again a values rows e = set_taken again a values rows e
action_taken action.Append again a values rows e = values_taken a.ignore_case (parser_of_value a.parser) values e
action_taken action.Count again a values rows e = count_taken a values rows e
action_taken action.Help again a values rows e = cc
action_taken action.HelpShort again a values rows e = cc
action_taken action.HelpLong again a values rows e = cc
action_taken action.Version again a values rows e = cc

use_taken : (again : Bool) (a : Rule) (values : List Text) (rows : List Row) → fault.use_fault again a values rows ≡ [] → take.use_passes again a values rows ≡ true
use_taken again a values rows e =
    let parts = none_first _ _ e in
    let range = range_taken (unwrap_or_range a.range).start_inclusive (most_values a) (length values) parts.0 in
    and_from _ _ range.0 (and_from _ _ range.1 (action_taken (action_of a) again a (values_or_missing a values) rows parts.1))

-- ---- one word

settle_taken : (c : List Rule) (again : Bool) (h : Held) → fault.settle_fault c again h ≡ [] → take.settle_passes c again h ≡ true
settle_taken c again h e = pending_taken h.pending e
  where
    rule_taken : (found : Option Rule) (values : List Text) → option_map_or (λ a. fault.use_fault again a values h.rows) found [] ≡ []
        → option_map_or (λ a. take.use_passes again a values h.rows) found true ≡ true
    rule_taken None values e = refl
    rule_taken (Some a) values e = use_taken again a values h.rows e

    pending_taken : (pending : Option (Text × List Text))
        → option_map_or (λ p. option_map_or (λ a. fault.use_fault again a p.1 h.rows) (arg_by_id c p.0) []) pending [] ≡ []
        → option_map_or (λ p. option_map_or (λ a. take.use_passes again a p.1 h.rows) (arg_by_id c p.0) true) pending true ≡ true
    pending_taken None e = refl
    pending_taken (Some p) e = rule_taken (arg_by_id c p.0) p.1 e

react_taken : (c : List Rule) (again : Bool) (a : Rule) (values : List Text) (h : Held) → fault.react_fault c again a values h ≡ []
    → take.react_passes c again a values h ≡ true
react_taken c again a values h e =
    let parts = none_first _ _ e in
    and_from _ _ (settle_taken c again h parts.0) (use_taken again a values (settled c h).rows parts.1)

option_taken : (c : List Rule) (again : Bool) (a : Rule) (v : Option Text) (h : Held) → fault.option_fault c again a v h ≡ []
    → take.option_passes c again a v h ≡ true
option_taken c again a (Some v) h e = react_taken c again a (v ∷ []) h e
option_taken c again a None h e = settle_taken c again h e

long_taken : (c : List Rule) (again : Bool) (found : Option Rule) (v : Option Text) (h : Held) → fault.long_fault c again found v h ≡ []
    → take.long_passes c again found v h ≡ true
long_taken c again None v h e = cc
long_taken c again (Some a) v h e = go (takes_values a) (is_some v) e
  where
    go : (takes has : Bool)
        → (if takes then fault.option_fault c again a v h else (if has then kind.TooManyValues ∷ [] else fault.react_fault c again a [] h)) ≡ []
        → (if takes then take.option_passes c again a v h else (not has && take.react_passes c again a [] h)) ≡ true
    go true has e = option_taken c again a v h e
    go false true e = cc
    go false false e = react_taken c again a [] h e

short_taken : (c : List Rule) (again : Bool) (found : Option Rule) (rest : Text) (h : Held) (then_fault : Held → Kinds) (then_passes : Held → Bool)
    → ((k : Held) → then_fault k ≡ [] → then_passes k ≡ true) → fault.short_fault c again found rest h then_fault ≡ []
    → take.short_passes c again found rest h then_passes ≡ true
short_taken c again None rest h then_fault then_passes more e = cc
short_taken c again (Some a) rest h then_fault then_passes more e = go (takes_values a) e
  where
    go : (takes : Bool)
        → (if takes then fault.option_fault c again a (attached_value rest) h else or_else (fault.react_fault c again a [] h) (then_fault (reacted c a [] h))) ≡ []
        → (if takes then take.option_passes c again a (attached_value rest) h
        else (take.react_passes c again a [] h && then_passes (reacted c a [] h))) ≡ true
    go true e = option_taken c again a (attached_value rest) h e
    go false e =
        let parts = none_first _ _ e in
        and_from _ _ (react_taken c again a [] h parts.0) (more _ parts.1)

flag_taken : (c : List Rule) (again : Bool) (first : Option ℕ) (flags : Text) (skip : ℕ) (h : Held)
    (then_fault : Text → ℕ → Held → Kinds) (then_passes : Text → ℕ → Held → Bool)
    → ((t : Text) (n : ℕ) (k : Held) → then_fault t n k ≡ [] → then_passes t n k ≡ true)
    → fault.bundle_step_fault c again first flags skip h then_fault ≡ [] → take.bundle_step_passes c again first flags skip h then_passes ≡ true
flag_taken c again None flags skip h then_fault then_passes more e = refl
flag_taken c again (Some x) flags zero h then_fault then_passes more e =
    short_taken c again (arg_by_short c x) _ h _ _ (more (drop (length (encode_utf8 x)) flags) 0) e
flag_taken c again (Some x) flags (suc skip) h then_fault then_passes more e = more _ skip h e

flags_taken : (c : List Rule) (again : Bool) (k : ℕ) (flags : Text) (skip : ℕ) (h : Held) → fault.flags_fault c again k flags skip h ≡ []
    → take.flags_pass c again k flags skip h ≡ true
unfolding fault.flags_fault take.flags_pass
flags_taken c again zero flags skip h e = refl
flags_taken c again (suc k) flags skip h e =
    flag_taken c again (slice_get (chars flags) 0) flags skip h (fault.flags_fault c again k) (take.flags_pass c again k)
    (flags_taken c again k) e

flag_word_taken : (c : List Rule) (again : Bool) (long : Option (Text × Option Text)) (word : Text) (h : Held)
    → fault.flag_word_fault c again long word h ≡ [] → take.flag_word_passes c again long word h ≡ true
flag_word_taken c again (Some p) word h e = long_taken c again (arg_by_long c p.0) p.1 h e
flag_word_taken c again None word h e = go (short_of word) e
  where
    go : (short : Option Text) → option_map_or (λ flags. fault.bundle_fault c again flags h) short [] ≡ []
        → option_map_or (λ flags. take.bundle_passes c again flags h) short true ≡ true
    go None e = refl
    go (Some flags) e = flags_taken c again (length flags) flags h.skip (record h { skip = 0 }) e

other_taken : (s : Shape) (met : Option Text) (word : Text) (h : Held) → fault.other_fault s met word h ≡ [] → take.other_passes s met word h ≡ true
other_taken s (Some name) word h e = go (bytes_eq name (codes "help")) s.disable_help_subcommand e
  where
    go : (is_help disabled : Bool) → (if is_help && not disabled then kind.DisplayHelp ∷ kind.InvalidSubcommand ∷ [] else []) ≡ []
        → (not is_help || disabled) ≡ true
    go true true e = refl
    go true false e = cc
    go false disabled e = refl
other_taken s None word h e = go (bytes_eq word (45 ∷ 45 ∷ [])) e
  where
    go : (dashes : Bool) → (if dashes then [] else fault.flag_word_fault s.rules s.args_override_self (long_of word) word h) ≡ []
        → (dashes || take.flag_word_passes s.rules s.args_override_self (long_of word) word h) ≡ true
    go true e = refl
    go false e = flag_word_taken s.rules s.args_override_self (long_of word) word h e

word_taken : (s : Shape) (names : Names) (is_trailing : Bool) (waiting : Waiting) (word : Text) (h : Held)
    → fault.word_fault s names is_trailing waiting word h ≡ [] → take.word_passes s names is_trailing waiting word h ≡ true
word_taken s names true waiting word h e = refl
word_taken s names false waiting word h e = other_taken s (subcommand_met names waiting word) word h e

positional_taken : (c : List Rule) (again : Bool) (a : Rule) (h : Held) → fault.positional_fault c again a h ≡ [] → take.positional_passes c again a h ≡ true
positional_taken c again a h e = go (is_pending a h.pending && takes_several a) e
  where
    go : (more : Bool) → (if more then [] else fault.settle_fault c again h) ≡ [] → (more || take.settle_passes c again h) ≡ true
    go true e = refl
    go false e = settle_taken c again h e

stray_fails : (s : Shape) → fault.stray_fault s ≡ [] → ⊥
stray_fails s e = go s.is_leaf e
  where
    go : (leaf : Bool) → (if leaf then kind.UnknownArgument ∷ [] else kind.UnknownArgument ∷ kind.InvalidSubcommand ∷ []) ≡ [] → ⊥
    go true e = cc
    go false e = cc

step_taken : (s : Shape) (position : ℕ) (h : Held) (step : Step) → fault.step_fault s position h step ≡ [] → take.step_passes s position h step ≡ true
step_taken s position h (next waiting) e = refl
step_taken s position h (trailing p) e = refl
step_taken s position h (subcommand name) e = refl
step_taken s position h value e = go (arg_by_index s.rules position) e
  where
    go : (found : Option Rule) → option_map_or (λ a. fault.positional_fault s.rules s.args_override_self a h) found (fault.stray_fault s) ≡ []
        → option_map_or (λ a. take.positional_passes s.rules s.args_override_self a h) found false ≡ true
    go None e = absurd (stray_fails s e)
    go (Some a) e = positional_taken s.rules s.args_override_self a h e

turn_taken : (s : Shape) (names : Names) (w : Walk) (word : Text) → fault.turn_fault s names w word ≡ [] → take.turn_passes s names w word ≡ true
turn_taken s names w word e =
    let met = word_met s.rules names w.is_trailing w.waiting w.position word w.held in go met.0 met.1 (is_some w.stopped) e
  where
    go : (h : Held) (step : Step) (stopped : Bool)
        → (if stopped then [] else or_else (fault.word_fault s names w.is_trailing w.waiting word w.held) (fault.step_fault s w.position h step)) ≡ []
        → (stopped || (take.word_passes s names w.is_trailing w.waiting word w.held && take.step_passes s w.position h step)) ≡ true
    go h step true e = refl
    go h step false e =
        let parts = none_first _ _ e in
        and_from _ _ (word_taken s names w.is_trailing w.waiting word w.held parts.0) (step_taken s w.position h step parts.1)

walk_taken : (s : Shape) (names : Names) (w : Walk) (words : List Text) → fault.walk_fault s names w words ≡ [] → take.walk_passes s names w words ≡ true
unfolding fault.walk_fault take.walk_passes
walk_taken s names w [] e = refl
walk_taken s names w (word ∷ rest) e =
    let parts = none_first _ _ e in
    and_from _ _ (turn_taken s names w word parts.0) (walk_taken s names (walked s.rules names w word) rest parts.1)

-- ---- the whole command

none_wanting : (rows : List Row) (rules : List Rule) → list_any (λ a. a.required && not (take.is_given a.id rows)) rules ≡ false
    → list_all (λ a. not a.required || take.is_given a.id rows) rules ≡ true
none_wanting rows [] e = refl
none_wanting rows (a ∷ rest) e = go a.required (take.is_given a.id rows) e (none_wanting rows rest)
  where
    go : (required given : Bool) → ((required && not given) || list_any (λ a. a.required && not (take.is_given a.id rows)) rest) ≡ false
        → (list_any (λ a. a.required && not (take.is_given a.id rows)) rest ≡ false → list_all (λ a. not a.required || take.is_given a.id rows) rest ≡ true)
        → ((not required || given) && list_all (λ a. not a.required || take.is_given a.id rows) rest) ≡ true
    go true true e more = more e
    go true false e more = cc
    go false given e more = more e

all_true : (a b c : Bool) → a ≡ true → b ≡ true → c ≡ true → (a && (b && (true && c))) ≡ true
all_true a b c e f g = rw (e, f, g) refl

-- nothing required is wanting
none_wants : (excused wanting given : Bool) → (wanting ≡ false → given ≡ true) → (if not excused && wanting then kind.MissingRequiredArgument ∷ [] else []) ≡ []
    → (excused || given) ≡ true
none_wants true wanting given all e = refl
none_wants false true given all e = cc
none_wants false false given all e = all refl

checks_taken : (has wants_help used wants_command free negates wanting given : Bool) → (wanting ≡ false → given ≡ true) → free ≡ true
    → check_kinds (not has && (wants_help && not used)) (not has && wants_command) (not (negates && has) && wanting) ≡ []
    → ((not wants_help || (has || used)) && ((not wants_command || has) && (free && ((negates && has) || given)))) ≡ true
checks_taken has wants_help used wants_command false negates wanting given all is_free e = cc
checks_taken true wants_help used wants_command true negates wanting given all is_free e =
    all_true _ _ _ (or-true (not wants_help)) (or-true (not wants_command)) (none_wants (negates && true) wanting given all e)
checks_taken false true false wants_command true negates wanting given all is_free e = cc
checks_taken false true true true true negates wanting given all is_free e = cc
checks_taken false true true false true negates wanting given all is_free e = none_wants (negates && false) wanting given all e
checks_taken false false used true true negates wanting given all is_free e = cc
checks_taken false false used false true negates wanting given all is_free e = none_wants (negates && false) wanting given all e

check_taken : (s : Shape) (rows : List Row) (has : Bool) → fault.has_free_rules s ≡ true → fault.check_fault s rows has ≡ [] → take.is_valid s rows has ≡ true
check_taken s rows has free e =
    checks_taken has s.arg_required_else_help (list_any (λ r. explicit_source r.source) rows) s.subcommand_required (list_all (λ a. a.is_free) s.rules)
    s.subcommand_negates_reqs (list_any (λ a. a.required && not (take.is_given a.id rows)) s.rules)
    (list_all (λ a. not a.required || take.is_given a.id rows) s.rules) (none_wanting rows s.rules) free e

-- no argument has a default or a rule on another argument
abbrev pub is_bare : Shape → Bool
is_bare s = fault.has_free_rules s && list_all take.default_passes s.rules

level_taken : (s : Shape) (names : Names) (h : Held) (words : List Text) (has : Bool) (below : Kinds) → is_bare s ≡ true
    → fault.level_fault s names h words has below ≡ [] → (below ≡ []) × (take.level_passes s names h words has ≡ true)
level_taken s names h words has below bare e =
    let end = (walk s.rules names h words).held in
    let free = and_parts (fault.has_free_rules s) (list_all take.default_passes s.rules) bare in
    let walks = none_first (fault.walk_fault s names (walk_from h) words) _ e in
    let belows = none_first below _ walks.1 in
    let settles = none_first (fault.settle_fault s.rules s.args_override_self end) _ belows.1 in
    let defaults = none_first (fault.defaults_fault (settled s.rules end).rows s.rules) _ settles.1 in (
      belows.0,
      and_from _ _ (walk_taken s names (walk_from h) words walks.0)
          (and_from _ _ (settle_taken s.rules s.args_override_self end settles.0)
          (and_from _ _ free.1 (check_taken s (finished s.rules end) has free.0 defaults.1))),
    )

entered_taken : (a : App) (stop : Option (Text × List Text)) → list_all is_bare a.subs ≡ true → fault.entered_fault a stop ≡ [] → take.entered_passes a stop ≡ true
entered_taken a None bare e = refl
entered_taken a (Some p) bare e = go (find (λ s. answers_to p.0 (label_of s)) a.subs) (first_passes (λ s. answers_to p.0 (label_of s)) is_bare a.subs) e
  where
    go : (found : Option Shape) → ((s : Shape) → list_all is_bare a.subs ≡ true → found ≡ Some s → is_bare s ≡ true)
        → option_map_or (λ s. fault.level_fault s [] nothing_held p.1 false []) found [] ≡ []
        → option_map_or (λ s. take.level_passes s [] nothing_held p.1 false) found true ≡ true
    go None is e = refl
    go (Some s) is e = (level_taken s [] nothing_held p.1 false [] (is s bare refl) e).1

pub built_taken : (a : App) (h : Held) (words : List Text) → is_bare a.top ≡ true → list_all is_bare a.subs ≡ true → fault.built_fault a h words ≡ []
    → take.built_takes a h words ≡ true
built_taken a h words top subs e =
    let stop = (walk a.top.rules (names_of a) h words).stopped in
    let levels = level_taken a.top (names_of a) h words (is_some (entered a stop)) (fault.entered_fault a stop) top e in
    and_from _ _ (entered_taken a stop subs levels.0) levels.1
