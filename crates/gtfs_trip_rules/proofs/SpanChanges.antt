-- Spans that share no second stay so where one is taken out, and where one is put in that shares none with them.
use Rattle.std.proofs.Common.{arith, ◌≡◌, ◌⊎◌, ℕ, ◌<◌, ◌≤◌, true, false, Bool, cond, refl, sym, ap, ◌∙◌, Option, Some, None, inl, inr}
use Rattle.std.specs.Prelude.{◌&&◌, ◌||◌, nat_lt, min, max, Result, Ok, Err, OnOk, OnErr}
use Rattle.std.specs.BTreeMap.{is_at, IsUnchanged, Updates}
use Rattle.std.specs.Map.{lookup}
use Rattle.std.proofs.lemmas.Bool.{cases_Bool}
use Rattle.std.proofs.lemmas.Bool.Decides.{nat_tests}
use Rattle.gtfs_schema.proofs.BoolFacts.{or_left, or_right, same_test}
use Rattle.gtfs_trip_rules.proofs.SpanFacts.{covers_by, same_key, shares_all, shares_parts}
use Rattle.gtfs_trip_rules.specs.PeriodSpans.{AreApart, AreFilled, Key, Spans, covers, key_cmp, shares, span_end}

-- ---- one taken out

module _ (old new : Spans) (k : Key) (changes : (q : Key) → span_end new q ≡ cond (is_at (key_cmp k) q) None (span_end old q)) where
  kept : (q : Key) (end : ℕ) → span_end new q ≡ Some end → span_end old q ≡ Some end
  kept q end there = elim (cases_Bool (is_at (key_cmp k) q)) [
    | inl hit ↦ let gone : span_end new q ≡ None = rw hit at (changes q) in cc (sym gone ∙ there)
    | inr miss ↦ let stays : span_end new q ≡ span_end old q = rw miss at (changes q) in sym stays ∙ there
  ]

  pub out_filled : AreFilled old → AreFilled new
  out_filled filled q end there = filled q end (kept q end there)

  pub out_apart : AreApart old → AreApart new
  out_apart apart i j end end' there there' = apart i j end end' (kept i end there) (kept j end' there')

-- ---- one put in

module _ (old : Spans) (trip : ℕ) (first past : ℕ) (filled : AreFilled old) (below : first < past) (none : covers old trip first past ≡ false) where
  -- a span of the trip lies after the new one or before it
  aside : (q : Key) (end : ℕ) → span_end old q ≡ Some end → trip ≡ q.0 → (past ≤ q.1) ⊎ (end ≤ first)
  aside q end there same = elim (cases_Bool (nat_lt q.1 past)) [
    | inl before ↦ elim (cases_Bool (nat_lt first end)) [
      | inl after ↦
          let hit = covers_by old q end there first past (shares_all q.1 end first past (filled q end there) (grind (arith, nat_tests, before)) (grind (arith, nat_tests, after)) below) in
          let hit' : covers old trip first past ≡ true = ap (λ t. covers old t first past) same ∙ hit in
          cc (sym none ∙ hit')
      | inr not_after ↦ inr (grind (arith, nat_tests, not_after))
    ]
    | inr not_before ↦ inl (grind (arith, nat_tests, not_before))
  ]

  pub absent : span_end old (trip, first) ≡ None
  absent = by (span_end old (trip, first)) refl
    where
      by : (o : Option ℕ) → span_end old (trip, first) ≡ o → o ≡ None
      by None e = refl
      by (Some last) e =
          let own = filled (trip, first) last e in
          let hit = covers_by old (trip, first) last e first past (shares_all first last first past own below own below) in
          cc (sym none ∙ hit)

  module _ (new : Spans) (changes : (q : Key) → span_end new q ≡ cond (is_at (key_cmp (trip, first)) q) (Some past) (span_end old q)) where
    -- the new span, or one from before
    abbrev IsNew : Key → ℕ → Type 0
    IsNew q end = (trip ≡ q.0) × (first ≡ q.1) × (past ≡ end)

    one_of_both : (q : Key) (end : ℕ) → span_end new q ≡ Some end → IsNew q end ⊎ (span_end old q ≡ Some end)
    one_of_both q end there = elim (cases_Bool (is_at (key_cmp (trip, first)) q)) [
      | inl hit ↦
          let put : span_end new q ≡ Some past = rw hit at (changes q) in
          let same = same_key (trip, first) q hit in
          let e : past ≡ end = cc (sym put ∙ there) in
          inl (same.0, same.1, e)
      | inr miss ↦ let stays : span_end new q ≡ span_end old q = rw miss at (changes q) in inr (sym stays ∙ there)
    ]

    in_filled : AreFilled new
    in_filled q end there = elim (one_of_both q end there) [
      | inl own ↦ omega (arith, own, below)
      | inr was ↦ filled q end was
    ]

    in_apart : AreApart old → AreApart new
    in_apart apart i j end end' there there' same before = elim (one_of_both i end there) [
      | inl own ↦ elim (one_of_both j end' there') [
        | inl own' ↦ absurd (omega (arith, own, own', before))
        | inr was' ↦ elim (aside j end' was' (own.0 ∙ same)) [
          | inl past_first ↦ omega (arith, own, past_first)
          | inr ends_first ↦ let full = filled j end' was' in absurd (omega (arith, own, ends_first, full, before))
        ]
      ]
      | inr was ↦ elim (one_of_both j end' there') [
        | inl own' ↦ elim (aside i end was (own'.0 ∙ sym same)) [
          | inl past_first ↦ absurd (omega (arith, own', past_first, before, below))
          | inr ends_first ↦ omega (arith, own', ends_first)
        ]
        | inr was' ↦ apart i j end end' was was' same before
      ]
    ]

  same_ends : (new : Spans) → new.entries ≡ old.entries → (q : Key) → span_end new q ≡ span_end old q
  same_ends new same q = ap (λ es. lookup (is_at (key_cmp q)) es) same

  -- where memory was refused the spans are as they were
  pub settled : {X E : Type 0} (new : Spans) (r : Result X E) → AreApart old → OnOk r (Updates key_cmp old new (trip, first) (Some past)) → OnErr r (IsUnchanged old new)
      → AreFilled new × AreApart new
  settled new (Ok x) apart put same = (in_filled new put.0, in_apart new put.0 apart)
  settled new (Err x) apart put same = (
    (λ q end there. filled q end (sym (same_ends new same q) ∙ there)),
    (λ i j end end' there there'. apart i j end end' (sym (same_ends new same i) ∙ there) (sym (same_ends new same j) ∙ there')),
  )

-- ---- two that share a second, made one

module _ (a b c d s e : ℕ) (ab : a < b) (cd : c < d) (cb : c < b) (ad : a < d) where
  merged_has : shares (min a c) (max b d) s e ≡ true → (shares a b s e || shares c d s e) ≡ true
  merged_has h = let t = shares_parts (min a c) (max b d) s e h in
      elim (cases_Bool (nat_lt s b)) [
        | inl x ↦ elim (cases_Bool (nat_lt a e)) [
          | inl y ↦ or_left (shares a b s e) (shares c d s e) (shares_all a b s e ab (grind (arith, nat_tests, y)) (grind (arith, nat_tests, x)) t.3)
          | inr y ↦ let late : e ≤ a = grind (arith, nat_tests, y) in
              or_right (shares a b s e) (shares c d s e) (shares_all c d s e cd (omega (arith, t, late)) (omega (arith, t, late)) t.3)
        ]
        | inr x ↦ let late : b ≤ s = grind (arith, nat_tests, x) in
            or_right (shares a b s e) (shares c d s e) (shares_all c d s e cd (omega (arith, t, late)) (omega (arith, t, late)) t.3)
      ]

  merged_from : (shares a b s e || shares c d s e) ≡ true → shares (min a c) (max b d) s e ≡ true
  merged_from h = elim (cases_Bool (shares a b s e)) [
    | inl x ↦ let t = shares_parts a b s e x in
        shares_all (min a c) (max b d) s e (omega arith) (omega (arith, t)) (omega (arith, t)) t.3
    | inr x ↦ let y : shares c d s e ≡ true = rw x at h in
        let t = shares_parts c d s e y in
        shares_all (min a c) (max b d) s e (omega arith) (omega (arith, t)) (omega (arith, t)) t.3
  ]

  pub merged : shares (min a c) (max b d) s e ≡ (shares a b s e || shares c d s e)
  merged = same_test (shares (min a c) (max b d) s e) (shares a b s e || shares c d s e) merged_has merged_from

-- the spans that are left and the joined one cover what all spans and the one before did
pub joined : (new t x y : Bool) → (new || (t && (x || y))) ≡ (((t && y) || new) || (t && x))
joined true true x true = refl
joined true true x false = refl
joined true false x y = refl
joined false true true true = refl
joined false true true false = refl
joined false true false true = refl
joined false true false false = refl
joined false false x y = refl

pub or_turned : (a b : Bool) → (a || b) ≡ (b || a)
or_turned true true = refl
or_turned true false = refl
or_turned false true = refl
or_turned false false = refl
