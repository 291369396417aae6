-- Two rules that say the same agree with the same tables, so that no zone is read whose rule contradicts its table.
use Rattle.std.proofs.Common.{◌≡◌, Bool, true, false, if◌then◌else◌, List, Option, Some, None, Ok, IfSome, option_map, ℤ, refl, sym, ◌∙◌, ap, subst}
use Rattle.std.proofs.lemmas.Option.{same_Some}
use Rattle.jiff_core.specs.declared.offset.Offset.{Offset}
use Rattle.jiff_tz.specs.Abbreviation.{abbreviation_text}
use Rattle.jiff_tz.specs.PosixRule.{rule_nanos, utc_window, in_window, dst_at_by, dst_info, match_some}
use Rattle.jiff_tz.specs.Year.{year_of_nanos}
use Rattle.jiff_tz.specs.PosixText.{tz_view, dst_view, day_time_view}
use Rattle.jiff_tz.specs.Tzif.{HasBadRule, RuleAgrees, tzif_view}
use Rattle.jiff_tz.specs.TzifAgree.{FooterAgrees}
use Rattle.jiff_tz.specs.TzifReader.{TzifText}
use Rattle.jiff_tz.specs.TzifText.{TransitionText}
use Rattle.jiff_tz.specs.declared.abbreviation.Abbreviation.{Abbreviation}
use Rattle.jiff_tz.specs.declared.info.Dst.TheVariants.{No}
use Rattle.jiff_tz.specs.declared.info.OffsetInfo.{OffsetInfo}
use Rattle.jiff_tz.specs.declared.posix.DayTime.{DayTime}
use Rattle.jiff_tz.specs.declared.posix.Dst.{Dst}
use Rattle.jiff_tz.specs.declared.posix.TimeZone.{TimeZone}
use Rattle.jiff_tz.specs.declared.tzif.Tzif.{Tzif}

-- the same offset, flag and name
abbrev SameInfo : OffsetInfo → OffsetInfo → Type 0
SameInfo a b = (a.offset.seconds ≡ b.offset.seconds) × (a.dst ≡ b.dst) × (abbreviation_text a.abbreviation ≡ abbreviation_text b.abbreviation)

abbrev std_info : Offset → Abbreviation → OffsetInfo
std_info o a = record { offset = o; abbreviation = a; dst = No }

pub same_nanos : (y : ℤ) (a b : DayTime) (s : ℤ) → day_time_view a ≡ day_time_view b → rule_nanos y a s ≡ rule_nanos y b s
unfolding rule_nanos
same_nanos y a b s e =
    let date = ap (λ p. p.0) e in
    let time = ap (λ p. p.1) e in
    rw (date, time) refl

pub same_window : (y : ℤ) (a b : Dst) (s t : Offset) → s.seconds ≡ t.seconds → dst_view a ≡ dst_view b → utc_window a y s ≡ utc_window b y t
unfolding utc_window
same_window y a b s t std e =
    let seconds : a.offset.seconds ≡ b.offset.seconds = ap (λ v. v.seconds) e in
    let start = same_nanos y a.rule.start b.rule.start t.seconds (ap (λ v. v.start) e) in
    let finish = same_nanos y a.rule.end b.rule.end b.offset.seconds (ap (λ v. v.finish) e) in
    rw (std, seconds, start, finish) refl

picked : (inside : Bool) (s t : Offset) (f g : Abbreviation) (a b : Dst) → s.seconds ≡ t.seconds → abbreviation_text f ≡ abbreviation_text g → dst_view a ≡ dst_view b
    → SameInfo (match_some (if inside then Some a else None) (std_info s f) dst_info) (match_some (if inside then Some b else None) (std_info t g) dst_info)
picked true s t f g a b std name e = (ap (λ v. v.seconds) e, refl, ap (λ v. v.name) e)
picked false s t f g a b std name e = (std, refl, name)

same_info : (s t : Offset) (f g : Abbreviation) (a b : Option Dst) (n : ℤ) → s.seconds ≡ t.seconds → abbreviation_text f ≡ abbreviation_text g → option_map dst_view a ≡ option_map dst_view b
    → SameInfo (match_some (dst_at_by s a n) (std_info s f) dst_info) (match_some (dst_at_by t b n) (std_info t g) dst_info)
same_info s t f g None None n std name e = (std, refl, name)
same_info s t f g None (Some b) n std name e = cc
same_info s t f g (Some a) None n std name e = cc
same_info s t f g (Some a) (Some b) n std name e =
    let same = same_Some (dst_view a) (dst_view b) e in
    rw (same_window (year_of_nanos n) a b s t std same) (picked (in_window (utc_window b (year_of_nanos n) t) n) s t f g a b std name same)

-- rules that say the same agree with the same rows
same_footer : (rows : List TransitionText) (a b : TimeZone) → tz_view a ≡ tz_view b → FooterAgrees rows a → FooterAgrees rows b
same_footer rows a b e agrees h =
    let row = agrees h in
    let info = same_info a.std_offset b.std_offset a.std_abbrev b.std_abbrev a.dst b.dst _ (ap (λ v. v.std_seconds) e) (ap (λ v. v.std_name) e) (ap (λ v. v.dst) e) in
    (sym info.0 ∙ row.0, sym info.1 ∙ row.1, sym info.2 ∙ row.2)

same_rule : (rows : List TransitionText) (found : Option TimeZone) (rule : TimeZone) → option_map tz_view found ≡ Some (tz_view rule) → IfSome found (λ tz. FooterAgrees rows tz) → FooterAgrees rows rule
same_rule rows None rule e agrees = cc
same_rule rows (Some tz) rule e agrees = same_footer rows tz rule (same_Some (tz_view tz) (tz_view rule) e) agrees

-- a zone that was read has no bad rule
pub no_bad_rule : (z : Tzif) → RuleAgrees z → HasBadRule (Ok (tzif_view z)) → ⊥
no_bad_rule z agrees bad =
    let same : tzif_view z ≡ bad.text = cc bad.read in
    let rule : option_map tz_view z.posix_tz ≡ Some (tz_view bad.rule) = ap (λ (t : TzifText). t.rule) same ∙ bad.is_rule in
    let F : TzifText → Type 0 = λ t. FooterAgrees t.transitions bad.rule in
    bad.disagrees (subst F same (same_rule (tzif_view z).transitions z.posix_tz bad.rule rule agrees))
