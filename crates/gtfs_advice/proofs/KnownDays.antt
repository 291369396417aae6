-- Days that are known, and what a service that goes on adds to them.
use Rattle.std.proofs.Common.{◌≡◌, ◌∙◌, ◌++◌, Bool, true, false, not, [], ◌∷◌, cond, filter, ℤ, pos, ◌+ℤ◌, ◌-ℤ◌, ◌<ℤ◌, ◌≤ℤ◌, int_le, int_lt, refl, sym, ap, inl, inr, arith}
use Rattle.std.specs.Prelude.{◌&&◌}
use Rattle.std.proofs.lemmas.Bool.{and_parts, cases_Bool}
use Rattle.std.proofs.lemmas.List.{append-nil}
use Rattle.jiff_core.proofs.SignedLemmas.{signed_arith}
use Rattle.gtfs_field.proofs.NumberFacts.{cases_int, int_le-true, int_lt-true, int_lt-false}
use Rattle.gtfs_days.specs.Service.{first_service_day, last_service_day}
use Rattle.gtfs_advice.specs.Services.{begins_gap_of}
use Rattle.gtfs_advice.specs.ServiceSeasons.{GoesOn}
use Rattle.gtfs_advice.specs.ServedDays.{AreKnown, IsPart, IsQuiet, RunsOnServiceDays, days_before, gap_before}
use Rattle.gtfs_advice.specs.declared.served_days.ServedDays.{ServedDays}
use Rattle.gtfs_advice.proofs.Gaps.{gap_begins, none_more, one_more, rested_before, served_soon}
use Rattle.gtfs_advice.proofs.Seasons.{ahead}

-- more is a test that passes wherever another one does
pub goes_on_part : (active served : ℤ → Bool) (from after : ℤ) → IsPart active served → GoesOn active from after → GoesOn served from after
goes_on_part active served from after part on = record {
  later = on.later;
  passes = part (after -ℤ pos 1) on.passes;
  near = λ d low high. let n = on.near d low high in (n.0, n.1, part (d +ℤ pos n.0) n.2);
}

module _ (served : ℤ → Bool) (day after : ℤ) (on : GoesOn served day after) (runs : served day ≡ true) where
  -- no gap begins in the two weeks up to the day, and none after it
  no_gap : (from : ℤ) → first_service_day ≤ℤ from → from ≤ℤ (day +ℤ pos 1) → day <ℤ (from +ℤ pos 14) → filter (begins_gap_of served) (days_before after) ≡ filter (begins_gap_of served) (days_before from)
  no_gap from low up near = none_more (begins_gap_of served) from after low (omega (arith, signed_arith, on.later)) each
    where
      each : (d : ℤ) → from ≤ℤ d → d <ℤ after → begins_gap_of served d ≡ false
      each d from_on before = elim (cases_int day d) [
        | inl past ↦ let n = on.near d past before in served_soon served d n.0 n.1 n.2
        | inr upto ↦ let n = ahead served d day 14 upto (omega (arith, signed_arith)) runs in served_soon served d n.0 n.1 n.2
      ]

  pub known_near : (days : ServedDays) → AreKnown served days → days.until ≤ℤ day → day <ℤ (days.until +ℤ pos 14) → AreKnown served (record days { until = after })
  known_near days known up near = record {
    gaps = known.gaps ∙ sym (no_gap days.until known.from (omega (arith, signed_arith)) near);
    ran = λ _. on.passes;
    from = omega (arith, signed_arith, known.from, on.later);
  }

  -- the days up to the next one with service
  module _ (until : ℤ) (low : first_service_day ≤ℤ until) (quiet : IsQuiet served until day) where
    -- of the days after the first one without service none begins a gap
    rested : (from : ℤ) → until <ℤ from → from ≤ℤ (day +ℤ pos 1) → filter (begins_gap_of served) (days_before (day +ℤ pos 1)) ≡ filter (begins_gap_of served) (days_before from)
    rested from later up = none_more (begins_gap_of served) from (day +ℤ pos 1) (omega (arith, signed_arith)) up
        (λ d from_on before. rested_before served d (quiet (d -ℤ pos 1) (omega (arith, signed_arith)) (omega (arith, signed_arith))))

    pub with_gap : (until +ℤ pos 14) ≤ℤ day → day ≤ℤ last_service_day → served (until -ℤ pos 1) ≡ true
        → filter (begins_gap_of served) (days_before after) ≡ filter (begins_gap_of served) (days_before until) ++ until ∷ []
    with_gap far service ran =
        let begins = gap_begins served until day (omega (arith, signed_arith)) service ran (λ d from before. quiet d from (omega (arith, signed_arith))) (omega (arith, signed_arith)) runs in
        no_gap (day +ℤ pos 1) (omega (arith, signed_arith)) (omega (arith, signed_arith)) (omega (arith, signed_arith))
        ∙ rested (until +ℤ pos 1) (omega (arith, signed_arith)) (omega (arith, signed_arith))
        ∙ one_more (begins_gap_of served) until low begins

    pub at_first : until ≡ first_service_day → RunsOnServiceDays served → until ≤ℤ day
        → filter (begins_gap_of served) (days_before after) ≡ filter (begins_gap_of served) (days_before until)
    at_first first services up =
        no_gap (day +ℤ pos 1) (omega (arith, signed_arith)) (omega (arith, signed_arith)) (omega (arith, signed_arith))
        ∙ none_more (begins_gap_of served) until (day +ℤ pos 1) low (omega (arith, signed_arith)) each
      where
        each : (d : ℤ) → until ≤ℤ d → d <ℤ (day +ℤ pos 1) → begins_gap_of served d ≡ false
        each d from before = rested_before served d (elim (cases_Bool (served (d -ℤ pos 1))) [
          | inr rests ↦ rests
          | inl ran ↦ elim (cases_int (d -ℤ pos 1) until) [
            | inr inside ↦ quiet (d -ℤ pos 1) inside (omega (arith, signed_arith))
            | inl earlier ↦ let inside = int_le-true first_service_day (d -ℤ pos 1) (and_parts (int_le first_service_day (d -ℤ pos 1)) (int_le (d -ℤ pos 1) last_service_day) (services (d -ℤ pos 1) ran)).0 in
                absurd (omega (arith, signed_arith, inside, first))
          ]
        ])

    -- what the days become
    pub known_after : (days new : ServedDays) → days.until ≡ until → AreKnown served days → RunsOnServiceDays served → until ≤ℤ day → day ≤ℤ last_service_day
        → new.until ≡ after → new.gaps.items ≡ days.gaps.items ++ gap_before until day → AreKnown served new
    known_after days new same known services up service goes_to told = record {
      gaps = told ∙ by_case (int_lt first_service_day until) refl (int_lt day (until +ℤ pos 14)) refl ∙ ap (λ d. filter (begins_gap_of served) (days_before d)) (sym goes_to);
      ran = λ _. ap (λ d. served (d -ℤ pos 1)) goes_to ∙ on.passes;
      from = omega (arith, signed_arith, goes_to, on.later);
    }
      where
        so_far : days.gaps.items ≡ filter (begins_gap_of served) (days_before until)
        so_far = known.gaps ∙ ap (λ d. filter (begins_gap_of served) (days_before d)) same

        by_case : (past : Bool) → int_lt first_service_day until ≡ past → (near : Bool) → int_lt day (until +ℤ pos 14) ≡ near
            → days.gaps.items ++ gap_before until day ≡ filter (begins_gap_of served) (days_before after)
        by_case false is near is_near =
            let first : until ≡ first_service_day = let h = int_lt-false first_service_day until is in omega (arith, signed_arith, low) in
            ap (λ b. days.gaps.items ++ cond (b && not (int_lt day (until +ℤ pos 14))) (until ∷ []) []) is
            ∙ append-nil days.gaps.items ∙ so_far ∙ sym (at_first first services up)
        by_case true is true is_near =
            let soon = int_lt-true day (until +ℤ pos 14) is_near in
            ap (λ b. days.gaps.items ++ cond (b && not (int_lt day (until +ℤ pos 14))) (until ∷ []) []) is
            ∙ ap (λ b. days.gaps.items ++ cond (not b) (until ∷ []) []) is_near
            ∙ append-nil days.gaps.items ∙ so_far ∙ sym (no_gap until low (omega (arith, signed_arith)) soon)
        by_case true is false is_near =
            let far = int_lt-false day (until +ℤ pos 14) is_near in
            let before = int_lt-true first_service_day until is in
            let ran : served (until -ℤ pos 1) ≡ true = ap (λ d. served (d -ℤ pos 1)) (sym same) ∙ known.ran (omega (arith, signed_arith, same)) in
            ap (λ b. days.gaps.items ++ cond (b && not (int_lt day (until +ℤ pos 14))) (until ∷ []) []) is
            ∙ ap (λ b. days.gaps.items ++ cond (not b) (until ∷ []) []) is_near
            ∙ ap (λ l. l ++ until ∷ []) so_far ∙ sym (with_gap far service ran)
