-- How long the offset of a zone stays what it is.
use Rattle.std.proofs.Common.{◌≡◌, ◌⊎◌, ℕ, ◌+◌, ◌<◌, ◌≤◌, ◌==◌, ◌&&◌, Bool, true, false, not, if◌then◌else◌, List, length, get_or, Option, Some, None, IfSome, ℤ, pos, neg_ℤ, ◌+ℤ◌, ◌-ℤ◌, ◌*ℤ◌, ◌<ℤ◌, ◌≤ℤ◌, int_le, int_lt, refl, sym, ◌∙◌, ap, subst, inl, inr, arith, vec_len}
use Rattle.std.specs.Int.{int_div_euclid}
use Rattle.std.specs.List.{prefix_len}
use Rattle.std.proofs.lemmas.Bool.Decides.{nat_tests}
use Rattle.std.proofs.lemmas.Int.{ints}
use Rattle.std.proofs.lemmas.List.Sums.{prefix_len_is, prefix_len_passes, prefix_len_stops, prefix_len-le-length}
use Rattle.jiff_core.proofs.SignedLemmas.{signed_arith, int_div_euclid-parts}
use Rattle.jiff_core.specs.Timestamp.{nanos_of_seconds, IsTimestampNanos}
use Rattle.jiff_core.specs.declared.offset.Offset.{Offset}
use Rattle.jiff_tz.specs.PosixRule as Posix
use Rattle.jiff_tz.specs.PosixRule.{utc_window, in_window, dst_at_by, match_some, next_by, next_year, transition_of, ordered}
use Rattle.jiff_tz.specs.Tzif as Table
use Rattle.jiff_tz.specs.Tzif.{count_at, floor_second, transition_at, no_transition, rule_after, type_after}
use Rattle.jiff_tz.specs.Year.{year_of_nanos}
use Rattle.jiff_tz.specs.declared.info.OffsetInfo.{OffsetInfo}
use Rattle.jiff_tz.specs.declared.posix.Dst.{Dst}
use Rattle.jiff_tz.specs.declared.posix.TimeZone.{TimeZone}
use Rattle.jiff_tz.specs.declared.tzif.Tzif.{Tzif}
use Rattle.gtfs_field.proofs.NumberFacts.{cases_int, int_lt-false, int_lt-true, int_le-true, le-int_le, lt-int_lt}

-- a moment, and no other one after `m` up to `n`
abbrev IsApart : ℤ → ℤ → ℤ → Type 0
IsApart m n e = (e ≤ℤ m) ⊎ (n <ℤ e)

lt-int_le : (a b : ℤ) → b <ℤ a → int_le a b ≡ false
lt-int_le a b h = grind (arith, ints)

le-int_lt : (a b : ℤ) → b ≤ℤ a → int_lt a b ≡ false
le-int_lt a b h = grind (arith, ints)

le_same : (e m n : ℤ) → m ≤ℤ n → IsApart m n e → int_le e n ≡ int_le e m
le_same e m n h (inl at) = le-int_le e n (omega (arith, ints, h, at)) ∙ sym (le-int_le e m at)
le_same e m n h (inr past) = lt-int_le e n past ∙ sym (lt-int_le e m (omega (arith, ints, h, past)))

lt_same : (e m n : ℤ) → m ≤ℤ n → IsApart m n e → int_lt n e ≡ int_lt m e
lt_same e m n h (inl at) = le-int_lt n e (omega (arith, ints, h, at)) ∙ sym (le-int_lt m e at)
lt_same e m n h (inr past) = lt-int_lt n e past ∙ sym (lt-int_lt m e (omega (arith, ints, h, past)))

window_same : (w : ℤ × ℤ) (m n : ℤ) → m ≤ℤ n → IsApart m n w.0 → IsApart m n w.1 → in_window w n ≡ in_window w m
window_same w m n h start end =
    rw (le_same w.0 m n h start, lt_same w.1 m n h end, le_same w.1 m n h end, lt_same w.0 m n h start) refl

-- the next one of two moments
abbrev next_of : (ℤ → Option (ℤ × OffsetInfo)) → Option (ℤ × OffsetInfo) → ℤ → ℤ × ℤ → Option (ℤ × OffsetInfo)
next_of at rest m w = if int_lt m w.0 then at w.0 else (if int_lt m w.1 then at w.1 else rest)

abbrev pub IsBefore : ℤ → Option (ℤ × OffsetInfo) → Type 0
IsBefore n o = IfSome o (λ t. n <ℤ t.0)

-- before the next of two ordered moments there is none of them
none_between : (at : ℤ → Option (ℤ × OffsetInfo)) (rest : Option (ℤ × OffsetInfo)) (m n : ℤ) (w : ℤ × ℤ) → ((e : ℤ) → m <ℤ e → IsBefore n (at e) → n <ℤ e)
    → w.0 ≤ℤ w.1 → IsBefore n (next_of at rest m w) → IsApart m n w.0 × IsApart m n w.1
none_between at rest m n w meets up = by (int_lt m w.0) refl (int_lt m w.1) refl
  where
    by : (b : Bool) → int_lt m w.0 ≡ b → (c : Bool) → int_lt m w.1 ≡ c → IsBefore n (if b then at w.0 else (if c then at w.1 else rest)) → IsApart m n w.0 × IsApart m n w.1
    by true e c f before = let past = meets w.0 (int_lt-true m w.0 e) before in (inr past, inr (omega (arith, ints, past, up)))
    by false e true f before = let past = meets w.1 (int_lt-true m w.1 f) before in (inl (int_lt-false m w.0 e), inr past)
    by false e false f before = (inl (int_lt-false m w.0 e), inl (int_lt-false m w.1 f))

-- and of two moments in any order
none_of : (at : ℤ → Option (ℤ × OffsetInfo)) (rest : Option (ℤ × OffsetInfo)) (m n : ℤ) (w : ℤ × ℤ) → ((e : ℤ) → m <ℤ e → IsBefore n (at e) → n <ℤ e)
    → IsBefore n (next_of at rest m (ordered w)) → IsApart m n w.0 × IsApart m n w.1
none_of at rest m n w meets = by (int_le w.0 w.1) refl
  where
    by : (b : Bool) → int_le w.0 w.1 ≡ b → IsBefore n (next_of at rest m (if b then w else (w.1, w.0))) → IsApart m n w.0 × IsApart m n w.1
    by true e before = none_between at rest m n w meets (int_le-true w.0 w.1 e) before
    by false e before =
        let down = cases_int w.0 w.1 in
        let both = none_between at rest m n (w.1, w.0) meets (falls e) before in
        (both.1, both.0)
      where
        falls : int_le w.0 w.1 ≡ false → w.1 ≤ℤ w.0
        falls f = grind (arith, ints)

abbrev first_nanos : ℤ
first_nanos = neg_ℤ (pos 377_705_023_201_000_000_000)

abbrev last_nanos : ℤ
last_nanos = pos 253_402_207_200_999_999_999

-- a moment that is no instant lies after all instants, or before them
meets_transition : (tz : TimeZone) (d : Dst) (w : ℤ × ℤ) (m n e : ℤ) → first_nanos ≤ℤ m → n ≤ℤ last_nanos → m <ℤ e → IsBefore n (transition_of tz d w e) → n <ℤ e
meets_transition tz d w m n e low high above = by (int_le first_nanos e) refl (int_le e last_nanos) refl
  where
    by : (b : Bool) → int_le first_nanos e ≡ b → (c : Bool) → int_le e last_nanos ≡ c → IsBefore n (if b && c then Some (e, if in_window w e then Posix.dst_info d else Posix.std_info tz) else None) → n <ℤ e
    by true f true g before = before
    by true f false g before = let past = past_last g in omega (arith, ints, past, high)
      where
        past_last : int_le e last_nanos ≡ false → last_nanos <ℤ e
        past_last f = grind (arith, ints)
    by false f c g before = let under = under_first f in omega (arith, ints, under, low, above)
      where
        under_first : int_le first_nanos e ≡ false → e <ℤ first_nanos
        under_first f = grind (arith, ints)

-- until its next change a rule has one offset, within a year
rule_holds : (tz : TimeZone) (o : Option Dst) (m n : ℤ) → m ≤ℤ n → first_nanos ≤ℤ m → n ≤ℤ last_nanos → year_of_nanos n ≡ year_of_nanos m
    → IsBefore n (match_some o None (λ d. next_by tz d (year_of_nanos m) m)) → dst_at_by tz.std_offset o n ≡ dst_at_by tz.std_offset o m
rule_holds tz None m n up low high year before = refl
rule_holds tz (Some d) m n up low high year before =
    let w = utc_window d (year_of_nanos m) tz.std_offset in
    let apart = none_of (transition_of tz d w) (next_year tz d (year_of_nanos m)) m n w (λ e. meets_transition tz d w m n e low high) before in
    let same = window_same w m n up apart.0 apart.1 in
    rw (year, same) refl

posix_holds : (tz : TimeZone) (m n : ℤ) → m ≤ℤ n → first_nanos ≤ℤ m → n ≤ℤ last_nanos → year_of_nanos n ≡ year_of_nanos m
    → IsBefore n (Posix.next_at tz m) → Posix.offset_at tz n ≡ Posix.offset_at tz m
posix_holds tz m n up low high year before =
    ap (λ o. match_some o tz.std_offset (λ d. d.offset)) (rule_holds tz tz.dst m n up low high year before)

-- ---- a table

-- the second of a later moment is no earlier one
second_up : (m n : ℤ) → m ≤ℤ n → floor_second m ≤ℤ floor_second n
second_up m n up =
    let low = int_div_euclid-parts m 1_000_000_000 (omega arith) in
    let high = int_div_euclid-parts n 1_000_000_000 (omega arith) in
    omega (arith, signed_arith, low, high, up)

-- before an instant the second is an earlier one
second_below : (n s : ℤ) → n <ℤ nanos_of_seconds s → floor_second n <ℤ s
second_below n s below =
    let parts = int_div_euclid-parts n 1_000_000_000 (omega arith) in
    omega (arith, signed_arith, parts, below)

-- how many rows lie at or before a second does not change up to the next row
count_holds : (z : Tzif) (a b : ℤ) → a ≤ℤ b → (count_at z a < length z.transitions.items → b <ℤ (transition_at z (count_at z a)).second) → count_at z b ≡ count_at z a
count_holds z a b up next =
    let rows = z.transitions.items in
    prefix_len_is (λ t. int_le t.second b) rows (count_at z a) (no_transition z) (prefix_len-le-length (λ t. int_le t.second a) rows)
    (λ k l. le-int_le (get_or rows k (no_transition z)).second b (passes k l))
    (λ l. lt-int_le (get_or rows (count_at z a) (no_transition z)).second b (next l))
  where
    passes : (k : ℕ) → k < count_at z a → (get_or z.transitions.items k (no_transition z)).second ≤ℤ b
    passes k l =
        let before = int_le-true _ a (prefix_len_passes (λ t. int_le t.second a) z.transitions.items k (no_transition z) l) in
        omega (arith, ints, before, up)

by_rule : (o : Option TimeZone) (x : Offset) (m n : ℤ) → m ≤ℤ n → first_nanos ≤ℤ m → n ≤ℤ last_nanos → year_of_nanos n ≡ year_of_nanos m
    → IsBefore n (match_some o None (λ tz. Posix.next_at tz m)) → match_some o x (λ tz. Posix.offset_at tz n) ≡ match_some o x (λ tz. Posix.offset_at tz m)
by_rule None x m n up low high year before = refl
by_rule (Some tz) x m n up low high year before = posix_holds tz m n up low high year before

-- until its next change a table with its rule has one offset, within a day by UTC
table_holds : (z : Tzif) (m n : ℤ) → m ≤ℤ n → first_nanos ≤ℤ m → n ≤ℤ last_nanos → year_of_nanos n ≡ year_of_nanos m
    → IsBefore n (Table.next_at z m) → Table.offset_at z n ≡ Table.offset_at z m
table_holds z m n up low high year = by (count_at z (floor_second m) == vec_len z.transitions) refl
  where
    count : ℕ
    count = count_at z (floor_second m)

    counted : (count < length z.transitions.items → floor_second n <ℤ (transition_at z count).second) → count_at z (floor_second n) ≡ count
    counted next = count_holds z (floor_second m) (floor_second n) (second_up m n up) next

    by : (b : Bool) → (count == vec_len z.transitions) ≡ b
        → IsBefore n (if b then match_some z.posix_tz None (λ tz. Posix.next_at tz m) else Some (Table.transition_view (transition_at z count)))
        → Table.offset_at z n ≡ Table.offset_at z m
    by true e before =
        let all : count ≡ vec_len z.transitions = grind (arith, nat_tests) in
        let same = counted (λ l. absurd (omega (arith, l, all))) in
        rw (same, e) (by_rule z.posix_tz (type_after z count).offset m n up low high year before)
    by false e before =
        let same = counted (λ l. second_below n (transition_at z count).second before) in
        rw (same, e) refl

-- ---- whole seconds

-- seconds of one day by UTC have one year
same_year : (m n e : ℤ) → e ≡ (int_div_euclid m (pos 86_400) +ℤ pos 1) *ℤ pos 86_400 → m ≤ℤ n → n <ℤ e → year_of_nanos (nanos_of_seconds n) ≡ year_of_nanos (nanos_of_seconds m)
same_year m n e is up before =
    let day = int_div_euclid-parts m 86_400 (omega arith) in
    let low = int_div_euclid-parts (nanos_of_seconds m) 86_400_000_000_000 (omega arith) in
    let high = int_div_euclid-parts (nanos_of_seconds n) 86_400_000_000_000 (omega arith) in
    let same : int_div_euclid (nanos_of_seconds n) (pos 86_400_000_000_000) ≡ int_div_euclid (nanos_of_seconds m) (pos 86_400_000_000_000) = omega (arith, signed_arith, day, low, high, is, up, before) in
    rw same refl

-- an offset holds until the next change, or the end of the day by UTC
pub seconds_hold : (z : Tzif) (m n e : ℤ) → IsTimestampNanos (nanos_of_seconds m) → IsTimestampNanos (nanos_of_seconds n) → e ≡ (int_div_euclid m (pos 86_400) +ℤ pos 1) *ℤ pos 86_400 → m ≤ℤ n → n <ℤ e
    → IsBefore (nanos_of_seconds n) (Table.next_at z (nanos_of_seconds m)) → Table.offset_at z (nanos_of_seconds n) ≡ Table.offset_at z (nanos_of_seconds m)
seconds_hold z m n e instant later is up before next =
    table_holds z (nanos_of_seconds m) (nanos_of_seconds n) (omega (arith, signed_arith, up)) instant.0 later.1
    (same_year m n e is up before) next

-- a second before that of a change lies before the change
pub before_change : (n t : ℤ) → n <ℤ floor_second t → nanos_of_seconds n <ℤ t
before_change n t below =
    let parts = int_div_euclid-parts t 1_000_000_000 (omega arith) in
    omega (arith, signed_arith, parts, below)
