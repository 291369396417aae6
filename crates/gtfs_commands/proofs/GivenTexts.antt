-- What `clap` gives for an id that must be given: some text.
use Rattle.std.proofs.Common.{◌≡◌, ◌&&◌, ◌||◌, ◌++◌, ℕ, zero, suc, Bool, true, false, not, List, [], ◌∷◌, length, drop, Option, Some, None, is_some, refl, subst, arith, nat_lt, nat_le}
use Rattle.std.specs.Prelude.{IsSome, find, fold, option_and_then, if◌then◌else◌, encode_utf8, slice_get}
use Rattle.std.specs.List.{list_all, list_any}
use Rattle.std.specs.Option.{option_map_or}
use Rattle.std.specs.Str.{bytes_eq, chars}
use Rattle.std.proofs.lemmas.Bool.{and_parts}
use Rattle.clap.specs.Lexer.{long_of, short_of}
use Rattle.clap.specs.Facts.{explicit_source, unwrap_or_range}
use Rattle.clap.specs.Walk.{Held, Names, Outcome, Row, Rule, Step, Text, Waiting, Walk, action_of, after_flag, after_step, arg_by_id, arg_by_index, arg_by_long, arg_by_short, at_row, attached_value, bundle, bundle_met, bundle_step, default_rows, done, finished, first_of, flag_met, has_long, has_row, has_short, idle, is_pending, long_met, long_or_other, more_values, next, nothing_held, option, option_met, option_word, plain, plain_word, positional, positional_held, pushed, reacted, reading_by, refused, rows_after, settled, settled_rows, short_met, short_or_plain, subcommand, subcommand_met, subcommand_or_other, takes_several, takes_values, to_positional, trailing, used, used_as, used_by_id, value, values_or_missing, waits, walk, most_values, walk_from, walked, walked_from, with_default, with_values, without, word_met}
use Rattle.clap.specs.Simple.{Shape}
use Rattle.clap.specs.Takes as take
use Rattle.clap.specs.declared.builder.action.ArgAction.{ArgAction}
use Rattle.clap.specs.declared.builder.action.ArgAction.TheVariants as action
use Rattle.clap.specs.declared.builder.value_parser.Reading.{Reading}
use Rattle.clap.specs.declared.parser.matches.ValueSource.{ValueSource}
use Rattle.clap.specs.declared.parser.matches.ValueSource.TheVariants.{CommandLine, DefaultValue}
use Rattle.gtfs_commands.proofs.TakenWords.{first_passes}

-- ---- rows

abbrev has_text : List Text → Bool
has_text [] = false
has_text (t ∷ ts) = true

-- each row has a text
abbrev pub are_filled : List Row → Bool
are_filled = list_all (λ r. has_text r.values)

text_added : (ts : List Text) (v : Text) (vs : List Text) → has_text (ts ++ v ∷ vs) ≡ true
text_added [] v vs = refl
text_added (t ∷ ts) v vs = refl

filled_append : (xs ys : List Row) → are_filled xs ≡ true → are_filled ys ≡ true → are_filled (xs ++ ys) ≡ true
filled_append [] ys e f = f
filled_append (x ∷ xs) ys e f =
    let parts = and_parts (has_text x.values) (are_filled xs) e in
    rw (parts.0) (filled_append xs ys parts.1 f)

filled_at : (id : Text) (change : Row → List Row) (missing rows : List Row) → ((r : Row) → are_filled (change r) ≡ true) → are_filled missing ≡ true
    → are_filled rows ≡ true → are_filled (at_row id change missing rows) ≡ true
filled_at id change missing [] changed new e = new
filled_at id change missing (r ∷ rs) changed new e =
    go (bytes_eq r.id id) (and_parts (has_text r.values) (are_filled rs) e) (filled_at id change missing rs changed new)
  where
    go : (b : Bool) → (has_text r.values ≡ true) × (are_filled rs ≡ true) → (are_filled rs ≡ true → are_filled (at_row id change missing rs) ≡ true)
        → are_filled (if b then change r ++ rs else r ∷ at_row id change missing rs) ≡ true
    go true parts rest = filled_append (change r) rs (changed r) parts.1
    go false parts rest = rw (parts.0) (rest parts.1)

filled_without : (id : Text) (rows : List Row) → are_filled rows ≡ true → are_filled (without id rows) ≡ true
filled_without id rows e = filled_at id (λ _. []) [] rows (λ r. refl) refl e

filled_with : (id : Text) (how : Reading) (s : ValueSource) (v : Text) (vs : List Text) (rows : List Row) → are_filled rows ≡ true
    → are_filled (with_values id how s (v ∷ vs) rows) ≡ true
filled_with id how s v vs rows e = filled_at id (more_values s (v ∷ vs))
    (record { id = id; values = v ∷ vs; count = None; source = Some s; reading = how } ∷ []) rows (λ r. rw (text_added r.values v vs) refl) refl e

-- ---- one use of an argument

-- a use of the argument takes a text, or there is one that stands for it, or it asks for help or the version
abbrev pub asks_by : ArgAction → Rule → Bool
asks_by action.Set a = nat_lt 0 (unwrap_or_range a.range).start_inclusive
asks_by action.Append a = false
asks_by action.SetTrue a = has_text a.missing
asks_by action.SetFalse a = false
asks_by action.Count a = false
asks_by action.Help a = true
asks_by action.HelpShort a = true
asks_by action.HelpLong a = true
asks_by action.Version a = true

abbrev pub asks : Rule → Bool
asks a = asks_by (action_of a) a

no_text : (least : ℕ) → nat_lt 0 least ≡ true → nat_le least 0 ≡ true → ⊥
no_text least e f = grind arith

used_filled : (again : Bool) (a : Rule) (values : List Text) (rows : List Row) → asks a ≡ true → take.use_passes again a values rows ≡ true
    → are_filled rows ≡ true → are_filled (used a values rows) ≡ true
used_filled again a values rows ask passes filled =
    go (action_of a) values ask (and_parts (nat_le (unwrap_or_range a.range).start_inclusive (length values))
    (nat_le (length values) (most_values a) && take.action_passes (action_of a) again a (values_or_missing a values) rows) passes).0
  where
    new : List Text → List Row
    new values = with_values a.id (reading_by a) CommandLine values (without a.id rows)

    some : (missing : List Text) → has_text missing ≡ true → are_filled (new missing) ≡ true
    some [] e = cc
    some (v ∷ vs) e = filled_with a.id (reading_by a) CommandLine v vs (without a.id rows) (filled_without a.id rows filled)

    go : (x : ArgAction) (values : List Text) → asks_by x a ≡ true → nat_le (unwrap_or_range a.range).start_inclusive (length values) ≡ true
        → are_filled (used_as x a.id (reading_by a) (values_or_missing a values) rows) ≡ true
    go action.Set [] ask least = absurd (no_text (unwrap_or_range a.range).start_inclusive ask least)
    go action.Set (v ∷ vs) ask least = some (v ∷ vs) refl
    go action.Append values ask least = cc
    go action.SetTrue [] ask least = some a.missing ask
    go action.SetTrue (v ∷ vs) ask least = some (v ∷ vs) refl
    go action.SetFalse values ask least = cc
    go action.Count values ask least = cc
    go action.Help values ask least = filled
    go action.HelpShort values ask least = filled
    go action.HelpLong values ask least = filled
    go action.Version values ask least = filled

-- ---- one word

by_rule : (c : List Rule) (again : Bool) (found : Option Rule) (values : List Text) (rows : List Row)
    → ((a : Rule) → found ≡ Some a → asks a ≡ true) → option_map_or (λ a. take.use_passes again a values rows) found true ≡ true → are_filled rows ≡ true
    → are_filled (used_by_id found values rows) ≡ true
by_rule c again None values rows ask passes filled = filled
by_rule c again (Some a) values rows ask passes filled = used_filled again a values rows (ask a refl) passes filled

by_id : (c : List Rule) (id : Text) (a : Rule) → list_all asks c ≡ true → arg_by_id c id ≡ Some a → asks a ≡ true
by_id c id a ask found = first_passes (λ r. bytes_eq r.id id) asks c a ask found

settled_filled : (c : List Rule) (again : Bool) (pending : Option (Text × List Text)) (rows : List Row) → list_all asks c ≡ true
    → option_map_or (λ p. option_map_or (λ a. take.use_passes again a p.1 rows) (arg_by_id c p.0) true) pending true ≡ true → are_filled rows ≡ true
    → are_filled (settled_rows c pending rows) ≡ true
settled_filled c again None rows ask passes filled = filled
settled_filled c again (Some p) rows ask passes filled = by_rule c again (arg_by_id c p.0) p.1 rows (λ a. by_id c p.0 a ask) passes filled

reacted_filled : (c : List Rule) (again : Bool) (a : Rule) (values : List Text) (h : Held) → list_all asks c ≡ true → asks a ≡ true
    → take.react_passes c again a values h ≡ true → are_filled h.rows ≡ true → are_filled (reacted c a values h).rows ≡ true
reacted_filled c again a values h all ask passes filled =
    let parts = and_parts (take.settle_passes c again h) (take.use_passes again a values (settled c h).rows) passes in
    used_filled again a values (settled c h).rows ask parts.1 (settled_filled c again h.pending h.rows all parts.0 filled)

option_filled : (c : List Rule) (again : Bool) (a : Rule) (v : Option Text) (h : Held) → list_all asks c ≡ true → asks a ≡ true
    → take.option_passes c again a v h ≡ true → are_filled h.rows ≡ true → are_filled (option_met c a v h).0.rows ≡ true
option_filled c again a (Some v) h all ask passes filled = reacted_filled c again a (v ∷ []) h all ask passes filled
option_filled c again a None h all ask passes filled = settled_filled c again h.pending h.rows all passes filled

long_filled : (c : List Rule) (again : Bool) (found : Option Rule) (v : Option Text) (h : Held) → list_all asks c ≡ true
    → ((a : Rule) → found ≡ Some a → asks a ≡ true) → take.long_passes c again found v h ≡ true → are_filled h.rows ≡ true
    → are_filled (long_met c found v h).0.rows ≡ true
long_filled c again None v h all ask passes filled = filled
long_filled c again (Some a) v h all ask passes filled = go (takes_values a) v passes
  where
    go : (takes : Bool) (v : Option Text)
        → (if takes then take.option_passes c again a v h else (not (is_some v) && take.react_passes c again a [] h)) ≡ true
        → are_filled (if takes then option_met c a v h else flag_met c a v h).0.rows ≡ true
    go true v passes = option_filled c again a v h all (ask a refl) passes filled
    go false (Some v) passes = cc
    go false None passes = reacted_filled c again a [] h all (ask a refl) passes filled

short_filled : (c : List Rule) (again : Bool) (found : Option Rule) (rest : Text) (h : Held) (then_held : Held → Held × Outcome) (then_passes : Held → Bool)
    → list_all asks c ≡ true → ((a : Rule) → found ≡ Some a → asks a ≡ true)
    → ((k : Held) → then_passes k ≡ true → are_filled k.rows ≡ true → are_filled (then_held k).0.rows ≡ true)
    → take.short_passes c again found rest h then_passes ≡ true → are_filled h.rows ≡ true → are_filled (short_met c found rest h then_held).0.rows ≡ true
short_filled c again None rest h then_held then_passes all ask more passes filled = filled
short_filled c again (Some a) rest h then_held then_passes all ask more passes filled = go (takes_values a) passes
  where
    go : (takes : Bool)
        → (if takes then take.option_passes c again a (attached_value rest) h
        else (take.react_passes c again a [] h && then_passes (reacted c a [] h))) ≡ true
        → are_filled (if takes then option_met c a (attached_value rest) h else then_held (reacted c a [] h)).0.rows ≡ true
    go true passes = option_filled c again a (attached_value rest) h all (ask a refl) passes filled
    go false passes =
        let parts = and_parts (take.react_passes c again a [] h) (then_passes (reacted c a [] h)) passes in
        more (reacted c a [] h) parts.1 (reacted_filled c again a [] h all (ask a refl) parts.0 filled)

flag_filled : (c : List Rule) (again : Bool) (first : Option ℕ) (flags : Text) (skip : ℕ) (so_far : Outcome) (h : Held)
    (then_held : Text → ℕ → Outcome → Held → Held × Outcome) (then_passes : Text → ℕ → Held → Bool) → list_all asks c ≡ true
    → ((t : Text) (n : ℕ) (o : Outcome) (k : Held) → then_passes t n k ≡ true → are_filled k.rows ≡ true → are_filled (then_held t n o k).0.rows ≡ true)
    → take.bundle_step_passes c again first flags skip h then_passes ≡ true → are_filled h.rows ≡ true
    → are_filled (bundle_step c first flags skip so_far h then_held).0.rows ≡ true
flag_filled c again None flags skip so_far h then_held then_passes all more passes filled = filled
flag_filled c again (Some x) flags zero so_far h then_held then_passes all more passes filled =
    let rest = drop (length (encode_utf8 x)) flags in
    short_filled c again (arg_by_short c x) rest h (then_held rest 0 done) (then_passes rest 0) all
    (λ a. first_passes (λ r. not (is_some r.index) && has_short r x) asks c a all) (more rest 0 done) passes filled
flag_filled c again (Some x) flags (suc skip) so_far h then_held then_passes all more passes filled = more _ skip so_far h passes filled

flags_filled : (c : List Rule) (again : Bool) (k : ℕ) (flags : Text) (skip : ℕ) (so_far : Outcome) (h : Held) → list_all asks c ≡ true
    → take.flags_pass c again k flags skip h ≡ true → are_filled h.rows ≡ true → are_filled (bundle_met c k flags skip so_far h).0.rows ≡ true
unfolding take.flags_pass bundle_met
flags_filled c again zero flags skip so_far h all passes filled = filled
flags_filled c again (suc k) flags skip so_far h all passes filled =
    flag_filled c again (slice_get (chars flags) 0) flags skip so_far h (bundle_met c k) (take.flags_pass c again k) all
    (λ t n o j. flags_filled c again k t n o j all) passes filled

plain_filled : (c : List Rule) (waiting : Waiting) (word : Text) (h : Held) → are_filled h.rows ≡ true → are_filled (plain_word c waiting word h).0.rows ≡ true
plain_filled c idle word h filled = filled
plain_filled c positional word h filled = filled
plain_filled c (option id) word h filled = go (arg_by_id c id)
  where
    go : (found : Option Rule) → are_filled (option_word found id word h).0.rows ≡ true
    go None = filled
    go (Some a) = filled

after_filled : (c : List Rule) (waiting : Waiting) (word : Text) (h : Held) (o : Outcome) → are_filled h.rows ≡ true
    → are_filled (after_flag c waiting word h o).0.rows ≡ true
after_filled c waiting word h done filled = filled
after_filled c waiting word h (waits id) filled = filled
after_filled c waiting word h plain filled = plain_filled c waiting word h filled
after_filled c waiting word h refused filled = plain_filled c waiting word h filled

flag_word_filled : (c : List Rule) (again : Bool) (waiting : Waiting) (long : Option (Text × Option Text)) (word : Text) (h : Held) → list_all asks c ≡ true
    → take.flag_word_passes c again long word h ≡ true → are_filled h.rows ≡ true → are_filled (long_or_other c waiting word long h).0.rows ≡ true
flag_word_filled c again waiting (Some p) word h all passes filled =
    let met = long_met c (arg_by_long c p.0) p.1 h in
    after_filled c waiting word met.0 met.1
    (long_filled c again (arg_by_long c p.0) p.1 h all (λ a. first_passes (λ r. not (is_some r.index) && has_long r p.0) asks c a all) passes filled)
flag_word_filled c again waiting None word h all passes filled = go (short_of word) passes
  where
    go : (short : Option Text) → option_map_or (λ flags. take.bundle_passes c again flags h) short true ≡ true
        → are_filled (short_or_plain c waiting word short h).0.rows ≡ true
    go None passes = plain_filled c waiting word h filled
    go (Some flags) passes =
        let met = bundle c flags h in
        after_filled c waiting word met.0 met.1 (flags_filled c again (length flags) flags h.skip plain (record h { skip = 0 }) all passes filled)

other_filled : (s : Shape) (met : Option Text) (waiting : Waiting) (position : ℕ) (word : Text) (h : Held) → list_all asks s.rules ≡ true
    → take.other_passes s met word h ≡ true → are_filled h.rows ≡ true → are_filled (subcommand_or_other s.rules met waiting position word h).0.rows ≡ true
other_filled s (Some name) waiting position word h all passes filled = filled
other_filled s None waiting position word h all passes filled = go (bytes_eq word (45 ∷ 45 ∷ [])) passes
  where
    go : (dashes : Bool) → (dashes || take.flag_word_passes s.rules s.args_override_self (long_of word) word h) ≡ true
        → are_filled (if dashes then (h, trailing position) else long_or_other s.rules waiting word (long_of word) h).0.rows ≡ true
    go true passes = filled
    go false passes = flag_word_filled s.rules s.args_override_self waiting (long_of word) word h all passes filled

word_filled : (s : Shape) (names : Names) (is_trailing : Bool) (waiting : Waiting) (position : ℕ) (word : Text) (h : Held) → list_all asks s.rules ≡ true
    → take.word_passes s names is_trailing waiting word h ≡ true → are_filled h.rows ≡ true
    → are_filled (word_met s.rules names is_trailing waiting position word h).0.rows ≡ true
word_filled s names true waiting position word h all passes filled = filled
word_filled s names false waiting position word h all passes filled =
    other_filled s (subcommand_met names waiting word) waiting position word h all passes filled

held_filled : (c : List Rule) (again : Bool) (a : Rule) (word : Text) (h : Held) → list_all asks c ≡ true → take.positional_passes c again a h ≡ true
    → are_filled h.rows ≡ true → are_filled (positional_held c a word h).rows ≡ true
held_filled c again a word h all passes filled = go (is_pending a h.pending && takes_several a) passes
  where
    go : (more : Bool) → (more || take.settle_passes c again h) ≡ true → are_filled (pushed a.id word (if more then h else settled c h)).rows ≡ true
    go true passes = filled
    go false passes = settled_filled c again h.pending h.rows all passes filled

step_filled : (s : Shape) (w : Walk) (word : Text) (h : Held) (step : Step) → list_all asks s.rules ≡ true → take.step_passes s w.position h step ≡ true
    → are_filled h.rows ≡ true → are_filled (after_step s.rules word w h step).held.rows ≡ true
step_filled s w word h (next waiting) all passes filled = filled
step_filled s w word h (trailing p) all passes filled = filled
step_filled s w word h (subcommand name) all passes filled = filled
step_filled s w word h value all passes filled = go (arg_by_index s.rules w.position) passes
  where
    go : (found : Option Rule) → option_map_or (λ a. take.positional_passes s.rules s.args_override_self a h) found false ≡ true
        → are_filled (to_positional s.rules found word w h).held.rows ≡ true
    go None passes = filled
    go (Some a) passes = held_filled s.rules s.args_override_self a word h all passes filled

turn_filled : (s : Shape) (names : Names) (w : Walk) (word : Text) → list_all asks s.rules ≡ true → take.turn_passes s names w word ≡ true
    → are_filled w.held.rows ≡ true → are_filled (walked s.rules names w word).held.rows ≡ true
unfolding walked
turn_filled s names w word all passes filled = go w.stopped passes
  where
    go : (stopped : Option (Text × List Text))
        → (is_some stopped || (take.word_passes s names w.is_trailing w.waiting word w.held
        && take.step_passes s w.position (word_met s.rules names w.is_trailing w.waiting w.position word w.held).0
        (word_met s.rules names w.is_trailing w.waiting w.position word w.held).1)) ≡ true
        → are_filled (walked_from s.rules names stopped w word).held.rows ≡ true
    go (Some p) passes = filled
    go None passes =
        let met = word_met s.rules names w.is_trailing w.waiting w.position word w.held in
        let parts = and_parts (take.word_passes s names w.is_trailing w.waiting word w.held) (take.step_passes s w.position met.0 met.1) passes in
        step_filled s w word met.0 met.1 all parts.1 (word_filled s names w.is_trailing w.waiting w.position word w.held all parts.0 filled)

walk_filled : (s : Shape) (names : Names) (w : Walk) (words : List Text) → list_all asks s.rules ≡ true → take.walk_passes s names w words ≡ true
    → are_filled w.held.rows ≡ true → are_filled (fold (walked s.rules names) w words).held.rows ≡ true
unfolding take.walk_passes
walk_filled s names w [] all passes filled = filled
walk_filled s names w (word ∷ rest) all passes filled =
    let parts = and_parts (take.turn_passes s names w word) (take.walk_passes s names (walked s.rules names w word) rest) passes in
    walk_filled s names (walked s.rules names w word) rest all parts.1 (turn_filled s names w word all parts.0 filled)

-- ---- after the words

default_filled : (rows : List Row) (a : Rule) → are_filled rows ≡ true → are_filled (with_default rows a) ≡ true
default_filled rows a filled = go (has_row a.id rows) a.defaults
  where
    go : (has : Bool) (defaults : List Text) → are_filled (if has then rows else default_rows a.id (reading_by a) defaults rows) ≡ true
    go true defaults = filled
    go false [] = filled
    go false (v ∷ vs) = filled_with a.id (reading_by a) DefaultValue v vs rows filled

defaults_filled : (rules : List Rule) (rows : List Row) → are_filled rows ≡ true → are_filled (fold with_default rows rules) ≡ true
defaults_filled [] rows filled = filled
defaults_filled (a ∷ rest) rows filled = defaults_filled rest (with_default rows a) (default_filled rows a filled)

-- the rows of a command that takes the words
pub level_filled : (s : Shape) (names : Names) (words : List Text) (has : Bool) → list_all asks s.rules ≡ true
    → take.level_passes s names nothing_held words has ≡ true → are_filled (rows_after s.rules names words) ≡ true
level_filled s names words has all passes =
    let end = (walk s.rules names nothing_held words).held in
    let checks = list_all take.default_passes s.rules && take.is_valid s (finished s.rules end) has in
    let walks = and_parts (take.walk_passes s names (walk_from nothing_held) words) (take.settle_passes s.rules s.args_override_self end && checks) passes in
    let settles = and_parts (take.settle_passes s.rules s.args_override_self end) checks walks.1 in
    let filled = walk_filled s names (walk_from nothing_held) words all walks.0 refl in
    defaults_filled s.rules (settled s.rules end).rows (settled_filled s.rules s.args_override_self end.pending end.rows all settles.0 filled)

-- where a command takes the words, what it requires is given
pub level_given : (s : Shape) (names : Names) (words : List Text) → take.level_passes s names nothing_held words false ≡ true
    → list_all (λ a. not a.required || take.is_given a.id (rows_after s.rules names words)) s.rules ≡ true
level_given s names words passes =
    let end = (walk s.rules names nothing_held words).held in
    let rows = rows_after s.rules names words in
    let used = list_any (λ r. explicit_source r.source) rows in
    let given = list_all (λ a. not a.required || take.is_given a.id rows) s.rules in
    let free = list_all (λ a. a.is_free) s.rules && ((s.subcommand_negates_reqs && false) || given) in
    let commands = (not s.subcommand_required || false) && free in
    let walks = and_parts (take.walk_passes s names (walk_from nothing_held) words) (take.settle_passes s.rules s.args_override_self end
    && (list_all take.default_passes s.rules && take.is_valid s rows false)) passes in
    let settles = and_parts (take.settle_passes s.rules s.args_override_self end) (list_all take.default_passes s.rules && take.is_valid s rows false) walks.1 in
    let defaults = and_parts (list_all take.default_passes s.rules) (take.is_valid s rows false) settles.1 in
    let helps = and_parts (not s.arg_required_else_help || (false || used)) commands defaults.1 in
    let needs = and_parts (not s.subcommand_required || false) free helps.1 in
    let last = and_parts (list_all (λ a. a.is_free) s.rules) ((s.subcommand_negates_reqs && false) || given) needs.1 in
    go s.subcommand_negates_reqs given last.1
  where
    go : (negates given : Bool) → ((negates && false) || given) ≡ true → given ≡ true
    go true given e = e
    go false given e = e

-- what is given has a text
pub given_text : (id : Text) (rows : List Row) → are_filled rows ≡ true → take.is_given id rows ≡ true → IsSome (first_of id rows)
given_text id rows filled given = go (find (λ r. bytes_eq r.id id) rows) (first_passes (λ r. bytes_eq r.id id) (λ r. has_text r.values) rows) given
  where
    first : (ts : List Text) → has_text ts ≡ true → IsSome (slice_get ts 0)
    first [] e = cc
    first (t ∷ ts) e = refl

    go : (found : Option Row) → ((r : Row) → are_filled rows ≡ true → found ≡ Some r → has_text r.values ≡ true)
        → option_map_or (λ r. explicit_source r.source) found false ≡ true → IsSome (option_and_then (λ r. slice_get r.values 0) found)
    go None text given = cc
    go (Some r) text given = first r.values (text r filled refl)

-- where a command needs a subcommand and takes the words, there is one
pub level_command : (s : Shape) (names : Names) (words : List Text) (has : Bool) → s.subcommand_required ≡ true
    → take.level_passes s names nothing_held words has ≡ true → has ≡ true
level_command s names words has required passes =
    let end = (walk s.rules names nothing_held words).held in
    let rows = rows_after s.rules names words in
    let used = list_any (λ r. explicit_source r.source) rows in
    let given = list_all (λ a. not a.required || take.is_given a.id rows) s.rules in
    let free = list_all (λ a. a.is_free) s.rules && ((s.subcommand_negates_reqs && has) || given) in
    let commands = (not s.subcommand_required || has) && free in
    let walks = and_parts (take.walk_passes s names (walk_from nothing_held) words) (take.settle_passes s.rules s.args_override_self end
    && (list_all take.default_passes s.rules && take.is_valid s rows has)) passes in
    let settles = and_parts (take.settle_passes s.rules s.args_override_self end) (list_all take.default_passes s.rules && take.is_valid s rows has) walks.1 in
    let defaults = and_parts (list_all take.default_passes s.rules) (take.is_valid s rows has) settles.1 in
    let helps = and_parts (not s.arg_required_else_help || (has || used)) commands defaults.1 in
    let needs = and_parts (not s.subcommand_required || has) free helps.1 in
    subst (λ wanted. (not wanted || has) ≡ true) required needs.0
