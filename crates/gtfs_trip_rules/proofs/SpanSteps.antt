-- Spans that share no second: the one that a search finds, and what taking one out and putting one in leaves.
use Rattle.std.proofs.Common.{arith, ◌≡◌, ℕ, ◌<◌, ◌≤◌, List, [], ◌∷◌, ◌++◌, true, false, refl, sym, ap, ◌∙◌, Option, Some, None, inl, inr}
use Rattle.std.specs.Prelude.{nat_eq, nat_lt, IsSome, is_some, MatchOption}
use Rattle.std.specs.BTreeMap.{IsOrdered}
use Rattle.std.specs.BTreeMap.Range.{IsInRange, IsRangeOf}
use Rattle.std.specs.Map.{lookup}
use Rattle.std.specs.Ordering.{nat_cmp, ordering_then, is_eq, is_gt, is_lt}
use Rattle.std.specs.declared.cmp.Ordering.{Ordering}
use Rattle.std.specs.declared.cmp.Ordering.TheVariants.{Less, Equal, Greater}
use Rattle.std.specs.declared.ops.Bound.TheVariants.{Included, Excluded}
use Rattle.std.proofs.lemmas.Bool.{cases_Bool, eqb-true}
use Rattle.std.proofs.lemmas.Bool.Decides.{nat_tests}
use Rattle.std.proofs.lemmas.Cmp.{nat_cmp_total, ranked, tied_itself}
use Rattle.std.proofs.lemmas.Map.Keys.{ge_from_not_lt}
use Rattle.std.proofs.lemmas.Map.Lookups.{exact_unsigned}
use Rattle.gtfs_field.proofs.OrderingFacts.{nat-less as less_first}
use Rattle.gtfs_schema.proofs.BoolFacts.{no_test, and_parts}
use Rattle.gtfs_trip_rules.proofs.SpanFacts.{covered_by, covers_by, shares_all, shares_parts}
use Rattle.gtfs_trip_rules.specs.PeriodSpans.{AreApart, AreFilled, IsMet, Key, Spans, covers, key_cmp, shares, span_end}

-- ---- the keys of a trip up to an end

number_tied : (t : ℕ) → nat_cmp t t ≡ Equal
number_tied t = tied_itself nat_cmp_total t

zero_first : (n : ℕ) → is_gt (nat_cmp 0 n) ≡ false
zero_first n = elim (cases_Bool (nat_lt 0 n)) [
  | inl above ↦ rw above refl
  | inr none ↦ let same : n ≡ 0 = grind (arith, nat_tests, none) in rw same refl
]

pub starts_before : (trip : ℕ) (end : ℕ) → is_gt (key_cmp (trip, 0) (trip, end)) ≡ false
starts_before trip end = rw (number_tied trip) (zero_first end)

of_trip : (trip : ℕ) (end : ℕ) (q : Key) → IsInRange key_cmp (Included (trip, 0)) (Excluded (trip, end)) q → (trip ≡ q.0) × (q.1 < end)
of_trip trip end q inside = by (nat_cmp q.0 trip) refl
  where
    by : (o : Ordering) → nat_cmp q.0 trip ≡ o → (trip ≡ q.0) × (q.1 < end)
    by Less e =
        let back : nat_cmp trip q.0 ≡ Greater = nat_cmp_total.antisymm trip q.0 ∙ rw e refl in
        let wrong : true ≡ false = rw back at inside.0 in cc wrong
    by Equal e =
        let less : nat_cmp q.1 end ≡ Less = rw e at inside.1 in
        (sym (exact_unsigned q.0 trip e), ranked q.1 end Less (sym less))
    by Greater e = let wrong : Greater ≡ Less = rw e at inside.1 in cc wrong

in_trip : (trip : ℕ) (end : ℕ) (q : Key) → trip ≡ q.0 → q.1 < end → IsInRange key_cmp (Included (trip, 0)) (Excluded (trip, end)) q
in_trip trip end q same below =
    (rw (sym same, number_tied trip) (zero_first q.1), rw (sym same, number_tied trip) (less_first q.1 end below))

-- ---- the last span that starts before an end

abbrev end_by : Spans → ℕ → ℕ → Option ℕ
end_by spans t n = lookup (λ (k : Key). is_eq (ordering_then (nat_cmp t k.0) (nat_cmp n k.1))) spans.entries

same_end : (spans : Spans) (j k : Key) → j.0 ≡ k.0 → j.1 ≡ k.1 → span_end spans j ≡ span_end spans k
same_end spans j k same e = ap (λ t. end_by spans t j.1) same ∙ ap (end_by spans k.0) e

later : (j k : Key) → j.0 ≡ k.0 → is_lt (key_cmp j k) ≡ false → k.1 ≤ j.1
later j k same low = let h : is_lt (nat_cmp j.1 k.1) ≡ false = rw (same, number_tied k.0) at low in ge_from_not_lt j.1 k.1 h

some_is : (a b : ℕ) → Some a ≡ Some b → a ≡ b
some_is a b e = cc e

module _ (spans : Spans) (ordered : IsOrdered key_cmp spans) (filled : AreFilled spans) (apart : AreApart spans)
    (trip : ℕ) (start end : ℕ) (some : start < end) (r : List (Key × ℕ)) (range : IsRangeOf key_cmp (Included (trip, 0)) (Excluded (trip, end)) spans r) where
  pub last_met : (s : Key × ℕ) (t : List (Key × ℕ)) → r ≡ t ++ s ∷ [] → start < s.1 → IsMet spans trip start end (s.0.1, s.1)
  last_met s t is after =
      let inside = range.3 s t is in
      let of = of_trip trip end s.0 inside.0 in
      record { filled = some; there = same_end spans (trip, s.0.1) s.0 of.0 refl ∙ inside.1; before = of.1; after = after }

  -- a span that shares a second ends no later than the last one
  ends_before : (s : Key × ℕ) (t : List (Key × ℕ)) → r ≡ t ++ s ∷ [] → (k : Key) (last : ℕ) → span_end spans k ≡ Some last → trip ≡ k.0 → k.1 < end → last ≤ s.1
  ends_before s t is k last there same below =
      let inside = range.3 s t is in
      let of = of_trip trip end s.0 inside.0 in
      let there' : IsSome (span_end spans k) = rw there refl in
      let low = later s.0 k (sym of.0 ∙ same) (range.4 s t is k (in_trip trip end k same below) there') in
      let own = filled s.0 s.1 inside.1 in
      elim (cases_Bool (nat_lt k.1 s.0.1)) [
        | inl before ↦ let h : k.1 < s.0.1 = grind (arith, nat_tests, before) in
            let far = apart k s.0 last s.1 there inside.1 (sym same ∙ of.0) h in omega (arith, far, own)
        | inr not_before ↦ let h : k.1 ≡ s.0.1 = grind (arith, nat_tests, not_before, low) in
            let e = some_is last s.1 (sym there ∙ same_end spans k s.0 (sym same ∙ of.0) h ∙ inside.1) in omega (arith, e)
      ]

  pub last_missed : (s : Key × ℕ) (t : List (Key × ℕ)) → r ≡ t ++ s ∷ [] → s.1 ≤ start → covers spans trip start end ≡ false
  last_missed s t is past = no_test (covers spans trip start end) (λ hit.
      let met = covered_by spans ordered trip start end hit in
      let parts = and_parts (nat_eq trip met.0.0.0) (shares met.0.0.1 met.0.1 start end) met.1 in
      let times = shares_parts met.0.0.1 met.0.1 start end parts.1 in
      let last = ends_before s t is met.0.0 met.0.1 met.2 (eqb-true trip met.0.0.0 parts.0) times.1 in
      absurd (omega (arith, times.2, last, past)))

  pub none_met : r ≡ [] → covers spans trip start end ≡ false
  none_met empty = no_test (covers spans trip start end) (λ hit.
      let met = covered_by spans ordered trip start end hit in
      let parts = and_parts (nat_eq trip met.0.0.0) (shares met.0.0.1 met.0.1 start end) met.1 in
      let times = shares_parts met.0.0.1 met.0.1 start end parts.1 in
      let none = range.5 empty met.0.0 (in_trip trip end met.0.0 (eqb-true trip met.0.0.0 parts.0) times.1) in
      let wrong : None ≡ Some met.0.1 = sym none ∙ met.2 in cc wrong)

-- a span that was found shares a second
pub met_is : (spans : Spans) (filled : AreFilled spans) (trip : ℕ) (start end : ℕ) (met : Option (ℕ × ℕ))
    → MatchOption met (covers spans trip start end ≡ false) (λ m. IsMet spans trip start end m) → is_some met ≡ covers spans trip start end
met_is spans filled trip start end None none = sym none
met_is spans filled trip start end (Some m) is =
    sym (covers_by spans (trip, m.0) m.1 is.there start end (shares_all m.0 m.1 start end (filled (trip, m.0) m.1 is.there) is.before is.after is.filled))
