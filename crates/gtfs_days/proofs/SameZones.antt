-- Two zones whose tables say the same show the same clocks.
use Rattle.std.proofs.Common.{◌≡◌, ℕ, zero, suc, ◌+◌, ◌-◌, ◌==◌, ℤ, pos, ◌*ℤ◌, ◌-ℤ◌, Bool, true, false, cond, if◌then◌else◌, int_lt, int_le, List, [], ◌∷◌, get_or, length, map, Option, Some, None, option_map, refl, sym, ap, ◌∙◌, vec_len}
use Rattle.std.proofs.lemmas.Option.{same_Some}
use Rattle.std.proofs.lemmas.List.{length-map}
use Rattle.std.specs.List.{prefix_len}
use Rattle.jiff_core.specs.declared.civil.datetime.DateTime.{DateTime}
use Rattle.jiff_core.specs.declared.offset.Offset.{Offset}
use Rattle.jiff_core.specs.DateTime.{civil_nanos, civil_seconds}
use Rattle.jiff_tz.specs.Ambiguous.{compatible_offset}
use Rattle.jiff_tz.specs.PosixRule as Posix
use Rattle.jiff_tz.specs.PosixRule.{match_some, rule_nanos, utc_window, in_window, dst_at_by, in_span, saturating_add, saturating_sub, shift_between, ambiguous_by, ambiguous_behind, ambiguous_ahead, ambiguous_at_by}
use Rattle.jiff_tz.specs.PosixText.{tz_view, dst_view}
use Rattle.jiff_tz.specs.Year.{year_of_nanos}
use Rattle.jiff_tz.specs.Tzif as Table
use Rattle.jiff_tz.specs.Tzif.{tzif_view, count_at, civil_count_at, transition_at, type_after, rule_after, offsets_in, is_inside, no_transition}
use Rattle.jiff_tz.specs.TzifReader.{TzifText}
use Rattle.jiff_tz.specs.TzifText.{TransitionText, TypeText, transition_text, type_view, civil_start, civil_end}
use Rattle.jiff_tz.specs.declared.ambiguous.AmbiguousOffset.{AmbiguousOffset}
use Rattle.jiff_tz.specs.declared.ambiguous.AmbiguousOffset.TheVariants.{Unambiguous, Gap, Fold}
use Rattle.jiff_tz.specs.declared.posix.Dst.{Dst}
use Rattle.jiff_tz.specs.declared.posix.TimeZone.{TimeZone}
use Rattle.jiff_tz.specs.declared.tzif.Tzif.{Tzif}
use Rattle.jiff_tz.specs.declared.tzif.transition.LocalTimeType.{LocalTimeType}
use Rattle.jiff_tz.specs.declared.tzif.transition.Transition.{Transition}
use Rattle.gtfs_field.specs.Calendar.{date_of_day}
use Rattle.gtfs_days.specs.Noon.{noon}
use Rattle.gtfs_days.specs.Zone.{transitions_of, zone_origin, IsCivil, IsZoneOf, SaysSame}
use Rattle.gtfs_days.specs.declared.civil.Civil.{Civil}
use Rattle.gtfs_days.specs.declared.zone.Zone.{Zone}
use Rattle.gtfs_days.proofs.Clocks.{civil_unique}
use Rattle.gtfs_days.proofs.Footers.{same_nanos, same_window}

-- ---- the rule after the table

picked_offset : (inside : Bool) (s t : Offset) (a b : Dst) → s.seconds ≡ t.seconds
    → dst_view a ≡ dst_view b
    → (match_some (if inside then Some a else None) s (λ d. d.offset)).seconds
    ≡ (match_some (if inside then Some b else None) t (λ d. d.offset)).seconds
picked_offset true s t a b std e = ap (λ v. v.seconds) e
picked_offset false s t a b std e = std

standing : (s t : Offset) (a b : Option Dst) (n : ℤ) → s.seconds ≡ t.seconds
    → option_map dst_view a ≡ option_map dst_view b
    → (match_some (dst_at_by s a n) s (λ d. d.offset)).seconds
    ≡ (match_some (dst_at_by t b n) t (λ d. d.offset)).seconds
standing s t None None n std e = std
standing s t None (Some b) n std e = cc
standing s t (Some a) None n std e = cc
standing s t (Some a) (Some b) n std e =
    let same = same_Some (dst_view a) (dst_view b) e in
    let inside = in_window (utc_window b (year_of_nanos n) t) n in
    rw (same_window (year_of_nanos n) a b s t std same) (picked_offset inside s t a b std same)

-- the compatible choice of both has the same seconds
record SameChoice (x y : AmbiguousOffset) : Type 0 where
  seconds : (compatible_offset x).seconds ≡ (compatible_offset y).seconds

one_offset : {s t : Offset} → s.seconds ≡ t.seconds → SameChoice (Unambiguous s) (Unambiguous t)
one_offset e = record { seconds = e }

in_gap : {s t d e : Offset} → s.seconds ≡ t.seconds → SameChoice (Gap s d) (Gap t e)
in_gap e = record { seconds = e }

in_fold : {s t d e : Offset} → s.seconds ≡ t.seconds → SameChoice (Fold s d) (Fold t e)
in_fold e = record { seconds = e }

either : {a b : Bool} {x y u v : AmbiguousOffset} → a ≡ b → SameChoice x u → SameChoice y v
    → SameChoice (if a then x else y) (if b then u else v)
either {a = true} {b = true} e first second = first
either {a = true} {b = false} e first second = cc
either {a = false} {b = true} e first second = cc
either {a = false} {b = false} e first second = second

same_shift : (s t d e : Offset) → s.seconds ≡ t.seconds → d.seconds ≡ e.seconds
    → shift_between s d ≡ shift_between t e
same_shift s t d e std dst = rw (std, dst) refl

same_behind : (s t d e : Offset) (w : ℤ × ℤ) (at : ℤ) → s.seconds ≡ t.seconds
    → d.seconds ≡ e.seconds → SameChoice (ambiguous_behind s d w at) (ambiguous_behind t e w at)
same_behind s t d e w at std dst =
    let shift = same_shift s t d e std dst in
    let fold = ap (λ by. in_span (saturating_add w.0 by) w.0 at) shift in
    let gap = ap (λ by. in_span w.1 (saturating_sub w.1 by) at) shift in
    either refl (one_offset dst) (either fold (in_fold std) (either gap (in_gap dst) (one_offset std)))

same_ahead : (s t d e : Offset) (w : ℤ × ℤ) (at : ℤ) → s.seconds ≡ t.seconds → d.seconds ≡ e.seconds
    → SameChoice (ambiguous_ahead s d w at) (ambiguous_ahead t e w at)
same_ahead s t d e w at std dst =
    let shift = same_shift s t d e std dst in
    let gap = ap (λ by. in_span w.0 (saturating_add w.0 by) at) shift in
    let fold = ap (λ by. in_span (saturating_sub w.1 by) w.1 at) shift in
    either refl (one_offset std) (either gap (in_gap std) (either fold (in_fold dst) (one_offset dst)))

same_by : (s t d e : Offset) (w : ℤ × ℤ) (at : ℤ) → s.seconds ≡ t.seconds → d.seconds ≡ e.seconds
    → SameChoice (ambiguous_by s d w at) (ambiguous_by t e w at)
same_by s t d e w at std dst =
    let behind : int_lt d.seconds s.seconds ≡ int_lt e.seconds t.seconds = rw (std, dst) refl in
    let ahead : int_lt s.seconds d.seconds ≡ int_lt t.seconds e.seconds = rw (std, dst) refl in
    either behind (same_behind s t d e w at std dst)
    (either ahead (same_ahead s t d e w at std dst) (one_offset std))

same_choice : (s t : Offset) (a b : Option Dst) (dt : DateTime) → s.seconds ≡ t.seconds
    → option_map dst_view a ≡ option_map dst_view b
    → SameChoice (ambiguous_at_by s a dt) (ambiguous_at_by t b dt)
same_choice s t None None dt std e = one_offset std
same_choice s t None (Some b) dt std e = cc
same_choice s t (Some a) None dt std e = cc
same_choice s t (Some a) (Some b) dt std e =
    let same = same_Some (dst_view a) (dst_view b) e in
    let start = same_nanos dt.date.year a.rule.start b.rule.start (pos 0) (ap (λ v. v.start) same) in
    let finish = same_nanos dt.date.year a.rule.end b.rule.end (pos 0) (ap (λ v. v.finish) same) in
    let year = dt.date.year in
    let w : ℤ × ℤ = (rule_nanos year b.rule.start (pos 0), rule_nanos year b.rule.end (pos 0)) in
    let dst = ap (λ v. v.seconds) same in
    rw (start, finish) (same_by s t a.offset b.offset w (civil_nanos dt) std dst)

-- ---- the table

record SameTable (y z : Tzif) : Type 0 where
  first : type_view y.first ≡ type_view z.first
  rows : map transition_text y.transitions.items ≡ map transition_text z.transitions.items
  rule : option_map tz_view y.posix_tz ≡ option_map tz_view z.posix_tz

prefix_len-text : (test : TransitionText → Bool) (xs : List Transition)
    → prefix_len (λ t. test (transition_text t)) xs ≡ prefix_len test (map transition_text xs)
prefix_len-text test [] = refl
prefix_len-text test (x ∷ xs) = ap (λ n. cond (test (transition_text x)) (1 + n) 0) (prefix_len-text test xs)

get_or-text : (xs : List Transition) (i : ℕ) (d : Transition)
    → transition_text (get_or xs i d) ≡ get_or (map transition_text xs) i (transition_text d)
get_or-text [] i d = refl
get_or-text (x ∷ xs) zero d = refl
get_or-text (x ∷ xs) (suc i) d = get_or-text xs i d

same_count : (y z : Tzif) (test : TransitionText → Bool) → SameTable y z
    → prefix_len (λ t. test (transition_text t)) y.transitions.items
    ≡ prefix_len (λ t. test (transition_text t)) z.transitions.items
same_count y z test h =
    prefix_len-text test y.transitions.items
    ∙ ap (prefix_len test) h.rows
    ∙ sym (prefix_len-text test z.transitions.items)

same_len : (y z : Tzif) → SameTable y z → vec_len y.transitions ≡ vec_len z.transitions
same_len y z h =
    y.transitions.ok.0
    ∙ sym (length-map y.transitions.items transition_text)
    ∙ ap length h.rows
    ∙ length-map z.transitions.items transition_text
    ∙ sym z.transitions.ok.0

-- the text of the stand-in for a place past the end
past_text : TypeText → TransitionText
past_text first = record { second = pos 0; before = first.seconds; after = first }

same_row : (y z : Tzif) (i : ℕ) → SameTable y z
    → transition_text (transition_at y i) ≡ transition_text (transition_at z i)
unfolding past_text
same_row y z i h =
    get_or-text y.transitions.items i (no_transition y)
    ∙ ap (λ rows. get_or rows i (past_text (type_view y.first))) h.rows
    ∙ ap (λ first. get_or (map transition_text z.transitions.items) i (past_text first)) h.first
    ∙ sym (get_or-text z.transitions.items i (no_transition z))

either_type : (b : Bool) (s t u v : LocalTimeType) → type_view s ≡ type_view u
    → type_view t ≡ type_view v → type_view (if b then s else t) ≡ type_view (if b then u else v)
either_type true s t u v first second = first
either_type false s t u v first second = second

same_type : (y z : Tzif) (k : ℕ) → SameTable y z
    → type_view (type_after y k) ≡ type_view (type_after z k)
same_type y z k h =
    let after = ap (λ (t : TransitionText). t.after) (same_row y z (k - 1) h) in
    either_type (k == 0) _ _ _ _ h.first after

if_rule : (b : Bool) (r s : Option TimeZone) → option_map tz_view r ≡ option_map tz_view s
    → option_map tz_view (if b then r else None) ≡ option_map tz_view (if b then s else None)
if_rule true r s e = e
if_rule false r s e = refl

same_rule_after : (y z : Tzif) (k : ℕ) → SameTable y z
    → option_map tz_view (rule_after y k) ≡ option_map tz_view (rule_after z k)
same_rule_after y z k h =
    rw (same_len y z h) (if_rule (k == vec_len z.transitions) y.posix_tz z.posix_tz h.rule)

-- ---- what the table and the rule give

offset_by : (r s : Option TimeZone) (t u : LocalTimeType) (n : ℤ)
    → option_map tz_view r ≡ option_map tz_view s → type_view t ≡ type_view u
    → (match_some r t.offset (λ tz. Posix.offset_at tz n)).seconds
    ≡ (match_some s u.offset (λ tz. Posix.offset_at tz n)).seconds
offset_by None None t u n rule type = ap (λ v. v.seconds) type
offset_by None (Some b) t u n rule type = cc
offset_by (Some a) None t u n rule type = cc
offset_by (Some a) (Some b) t u n rule type =
    let same = same_Some (tz_view a) (tz_view b) rule in
    standing a.std_offset b.std_offset a.dst b.dst n (ap (λ v. v.std_seconds) same) (ap (λ v. v.dst) same)

choice_by : (r s : Option TimeZone) (t u : LocalTimeType) (dt : DateTime)
    → option_map tz_view r ≡ option_map tz_view s → type_view t ≡ type_view u
    → SameChoice (match_some r (Unambiguous t.offset) (λ tz. Posix.ambiguous_at tz dt))
    (match_some s (Unambiguous u.offset) (λ tz. Posix.ambiguous_at tz dt))
choice_by None None t u dt rule type = one_offset (ap (λ v. v.seconds) type)
choice_by None (Some b) t u dt rule type = cc
choice_by (Some a) None t u dt rule type = cc
choice_by (Some a) (Some b) t u dt rule type =
    let same = same_Some (tz_view a) (tz_view b) rule in
    same_choice a.std_offset b.std_offset a.dst b.dst dt (ap (λ v. v.std_seconds) same) (ap (λ v. v.dst) same)

same_offset_at : (y z : Tzif) (n : ℤ) → SameTable y z
    → (Table.offset_at y n).seconds ≡ (Table.offset_at z n).seconds
same_offset_at y z n h =
    let at = Table.floor_second n in
    let count : count_at y at ≡ count_at z at = same_count y z (λ t. int_le t.second at) h in
    rw count (offset_by _ _ _ _ n (same_rule_after y z _ h) (same_type y z _ h))

same_inside : (y z : Tzif) (k : ℕ) (second : ℤ) → SameTable y z
    → is_inside y k second ≡ is_inside z k second
same_inside y z k second h =
    ap (λ t. if k == 0 then false else int_lt second (civil_end t)) (same_row y z (k - 1) h)

gap_or_fold : (a b : Bool) (s t d e : Offset) → s.seconds ≡ t.seconds
    → SameChoice (if a then Gap s d else Fold s d) (if b then Gap t e else Fold t e)
gap_or_fold true true s t d e std = in_gap std
gap_or_fold true false s t d e std = record { seconds = std }
gap_or_fold false true s t d e std = record { seconds = std }
gap_or_fold false false s t d e std = in_fold std

same_in_row : (a b : Transition) → transition_text a ≡ transition_text b
    → SameChoice (offsets_in a) (offsets_in b)
same_in_row a b e =
    let before = ap (λ (t : TransitionText). t.before) e in
    gap_or_fold _ _ a.before b.before a.after.offset b.after.offset before

same_ambiguous_at : (y z : Tzif) (dt : DateTime) → SameTable y z
    → SameChoice (Table.ambiguous_at y dt) (Table.ambiguous_at z dt)
same_ambiguous_at y z dt h =
    let at = civil_seconds dt in
    let count : civil_count_at y at ≡ civil_count_at z at =
    same_count y z (λ t. int_le (civil_start t) at) h in
    let k = civil_count_at z at in
    let row = same_in_row (transition_at y (k - 1)) (transition_at z (k - 1)) (same_row y z (k - 1) h) in
    rw count
    (either (same_inside y z k at h) row
    (choice_by _ _ _ _ dt (same_rule_after y z k h) (same_type y z k h)))

-- ---- zones

same_table : (bytes : List ℕ) (y z : Zone) → IsZoneOf bytes y → IsZoneOf bytes z
    → SameTable (transitions_of y) (transitions_of z)
same_table bytes y z of_y of_z =
    let same : tzif_view (transitions_of y) ≡ tzif_view (transitions_of z) = cc (of_y.read, of_z.read) in
    record {
      first = ap (λ (t : TzifText). t.first) same;
      rows = ap (λ (t : TzifText). t.transitions) same;
      rule = ap (λ (t : TzifText). t.rule) same;
    }

same_clock : (y z : Zone) → SameTable (transitions_of y) (transitions_of z) → (x : ℤ) (c : Civil)
    → IsCivil y x c → IsCivil z x c
same_clock y z h x c is = record {
  date = is.date;
  hour = is.hour;
  minute = is.minute;
  second = is.second;
  offset = is.offset ∙ same_offset_at (transitions_of y) (transitions_of z) _ h;
  clock = is.clock;
}

same_origin : (y z : Zone) (n : ℤ) → SameTable (transitions_of y) (transitions_of z)
    → zone_origin y n ≡ zone_origin z n
same_origin y z n h =
    let at_noon = same_ambiguous_at (transitions_of y) (transitions_of z) (noon (date_of_day n)) h in
    ap (λ ahead. n *ℤ pos 86_400 -ℤ ahead) at_noon.seconds

-- two zones of the same bytes say the same
pub zones_one : (bytes : List ℕ) (y z : Zone) → IsZoneOf bytes y → IsZoneOf bytes z → SaysSame y z
zones_one bytes y z of_y of_z =
    let same = same_table bytes y z of_y of_z in
    record {
      origin = λ n. same_origin y z n same;
      clock = λ x c d in_y in_z. civil_unique z x c d (same_clock y z same x c in_y) in_z;
      shows = λ x c in_y. same_clock y z same x c in_y;
    }
