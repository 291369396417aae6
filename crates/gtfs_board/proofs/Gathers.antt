use Rattle.std.proofs.Common.{◌≡◌, ℕ, zero, suc, ◌+◌, ◌*◌, ◌≤◌, List, [], ◌∷◌, ◌++◌, ◌⊎◌, inl, inr, Option, Some, None, refl, sym, ◌∙◌, ap, subst, arith, find, append_assoc, append-nil, length}
use Rattle.std.specs.Prelude.{ℤ, pos, ◌+ℤ◌, ◌-ℤ◌, ◌*ℤ◌, ◌≤ℤ◌, ◌<ℤ◌}
use Rattle.std.specs.List.{filter_map, cons_option, range_with_len}
use Rattle.std.specs.Int.{int_min}
use Rattle.std.specs.Option.{option_to_list}
use Rattle.std.proofs.lemmas.Int.{ints, clamps}
use Rattle.gtfs_board.specs.declared.upcoming.candidate.Candidate.{Candidate}
use Rattle.gtfs_runs.specs.Tallies.{tally}
use Rattle.gtfs_board.specs.upcoming.QueueOrder.{In, Each}
use Rattle.gtfs_board.specs.upcoming.OpenedLanes.{Events, AreLanes, AreHeads, is_opened, AreStepsFew}
use Rattle.gtfs_board.specs.upcoming.Candidates.{candidate_lt, heads_on, least_from, day_of, lane_of, instant_of, IsWithin, AreGathered}
use Rattle.gtfs_board.proofs.Orders.{find-in, Each-in}
use Rattle.gtfs_board.proofs.Heads.{head-found}
use Rattle.gtfs_board.proofs.Opening.{heads_opened, heads_skipped}
use Rattle.gtfs_board.proofs.Window.{each_in, waits-head}
use Rattle.gtfs_board.proofs.Reach.{one_opened}
use Rattle.gtfs_board.proofs.Days.{least_from-append}
use Rattle.gtfs_board.proofs.Candidates.{candidates_strict}

module _ {X Y : Type 0} (h : X → Option Y) where
  in-cons : (o : Option Y) (ys : List Y) (y : Y) → In y (cons_option o ys) → (o ≡ Some y) ⊎ In y ys
  in-cons None ys y here = inr here
  in-cons (Some x) ys y here = elim here [ inl e ↦ inl (ap Some (sym e)) | inr later ↦ inr later ]

  in-filter_map : (xs : List X) (y : Y) → In y (filter_map h xs) → (x : X) × (h x ≡ Some y)
  in-filter_map [] y here = absurd here
  in-filter_map (x ∷ xs) y here = elim (in-cons (h x) (filter_map h xs) y here) [ inl e ↦ (x, e) | inr later ↦ in-filter_map xs y later ]

-- the least lies at or below the mark, and at or above what lies below all
pub least_from-le : (mark : ℤ) (cs : List Candidate) → least_from mark cs ≤ℤ mark
unfolding least_from
least_from-le mark [] = omega (arith, ints)
least_from-le mark (c ∷ cs) = let rest = least_from-le (int_min mark c.instant) cs in omega (arith, ints, clamps, rest)

pub least_from-above : (low mark : ℤ) (cs : List Candidate) → low ≤ℤ mark → Each (λ c. low ≤ℤ c.instant) cs → low ≤ℤ least_from mark cs
unfolding least_from
least_from-above low mark [] h all = h
least_from-above low mark (c ∷ cs) h all = least_from-above low (int_min mark c.instant) cs (omega (arith, ints, clamps, h, all.0)) all.1

pub least_from-each : (mark : ℤ) (cs : List Candidate) → Each (λ c. least_from mark cs ≤ℤ c.instant) cs
unfolding least_from
least_from-each mark [] = tt
least_from-each mark (c ∷ cs) = (let rest = least_from-le (int_min mark c.instant) cs in omega (arith, ints, clamps, rest), least_from-each (int_min mark c.instant) cs)

pub heads_on-in : (events : Events Candidate) (floor : Candidate) (day : ℤ) (n : ℕ) (c : Candidate) → In c (heads_on events floor day n) → (i : ℕ) × In c (events i day)
unfolding heads_on
heads_on-in events floor day n c here =
    let r = in-filter_map (λ i. find (candidate_lt floor) (events i day)) (range_with_len 0 n) c here in
    (r.0, find-in (candidate_lt floor) (events r.0 day) c r.1)

module _ {count latest : ℕ} {events : Events Candidate} (ls : AreLanes candidate_lt instant_of day_of lane_of count latest events) where
  -- one more day is opened
  pub gathered_more : (floor : Candidate) (end : ℤ) (others before after : List Candidate) (day next mark falls : ℤ)
      → AreGathered events floor end others before day mark
      → (day *ℤ pos 86_400) ≤ℤ (mark +ℤ pos 93_599)
      → after ≡ before ++ heads_on events floor day count → falls ≡ least_from mark (heads_on events floor day count)
      → (day +ℤ pos 1) ≤ℤ next → ((i : ℕ) (d : ℤ) → (day +ℤ pos 1) ≤ℤ d → d <ℤ next → events i d ≡ [])
      → AreGathered events floor end others after next falls × (falls ≤ℤ mark) × ((day *ℤ pos 86_400) ≤ℤ (falls +ℤ pos 93_599))
  unfolding heads_on
  gathered_more floor end others before after day next mark falls old reached joined fell up skips =
      let hs = heads_on events floor day count in
      let opened = heads_opened candidates_strict ls (candidate_lt floor) day (others ++ before) old.heads in
      let regrouped : (others ++ before) ++ hs ≡ others ++ after = append_assoc others before hs ∙ ap (λ k. others ++ k) (sym joined) in
      let there = subst (λ q. AreHeads candidate_lt day_of lane_of events (day +ℤ pos 1) (candidate_lt floor) q) regrouped opened in
      let low : (day *ℤ pos 86_400) ≤ℤ (falls +ℤ pos 93_599) =
      let above = least_from-above (day *ℤ pos 86_400 -ℤ pos 93_599) mark hs (omega (arith, ints, reached))
      (each_in (λ c. (day *ℤ pos 86_400 -ℤ pos 93_599) ≤ℤ c.instant) hs (λ c here.
      let at = heads_on-in events floor day count c here in
      let e = ls.early at.0 day c at.1 in
      omega (arith, ints, e))) in
      omega (arith, ints, above, fell) in (
        record {
          heads = heads_skipped candidates_strict ls (candidate_lt floor) (day +ℤ pos 1) next (others ++ after) up skips there;
          least = fell ∙ ap (λ m. least_from m hs) old.least ∙ sym (least_from-append end (others ++ before) hs) ∙ ap (least_from end) regrouped;
          within = each_in (IsWithin falls) (others ++ after) (λ c here.
              let head = waits-head candidates_strict ls (day +ℤ pos 1) (candidate_lt floor) (others ++ after) there c here in
              let below = (head-found candidates_strict ls (day +ℤ pos 1) (candidate_lt floor) c head).0 in
              omega (arith, ints, below, low));
        },
        (let fall = least_from-le mark hs in omega (arith, ints, fall, fell)),
        low,
      )

-- the least of a heap is its first
pub least_from-is : (mark : ℤ) (c : Candidate) (cs : List Candidate) → In c cs → c.instant ≤ℤ mark → Each (λ y. c.instant ≤ℤ y.instant) cs → least_from mark cs ≡ c.instant
least_from-is mark c cs here high low =
    let a = Each-in (λ y. least_from mark cs ≤ℤ y.instant) cs c (least_from-each mark cs) here in
    let b = least_from-above c.instant mark cs high low in
    omega (arith, ints, a, b)

pub nothing_there : {X : Type 0} (xs : List X) → length xs ≤ 0 → xs ≡ []
nothing_there [] h = refl
nothing_there (x ∷ xs) h = absurd (omega arith)

pub gathered_first : (events : Events Candidate) (floor : Candidate) (end : ℤ) (others fresh : List Candidate) (head : Option Candidate) (day waiting mark : ℤ)
    → AreHeads candidate_lt day_of lane_of events day (candidate_lt floor) (others ++ option_to_list head)
    → Each (IsWithin (least_from end (others ++ option_to_list head))) (others ++ option_to_list head)
    → fresh ≡ [] → waiting ≡ least_from end others → mark ≡ least_from waiting (option_to_list head)
    → AreGathered events floor end (others ++ option_to_list head) fresh day mark × (mark ≡ least_from end (others ++ option_to_list head))
gathered_first events floor end others fresh head day waiting mark heads within empty first least =
    let all_heads = others ++ option_to_list head in
    let same : all_heads ++ fresh ≡ all_heads = ap (λ k. all_heads ++ k) empty ∙ append-nil all_heads in
    let all : mark ≡ least_from end (others ++ option_to_list head) = least ∙ ap (λ m. least_from m (option_to_list head)) first ∙ sym (least_from-append end others (option_to_list head)) in
    (record { heads = rw same heads; least = rw same all; within = rw (same, all) within }, all)

times_more : (n a b : ℕ) → a + 1 ≤ b → n * a + n ≤ n * b
times_more zero a b h = omega arith
times_more (suc n) a b h = let rest = times_more n a b h in grind (arith, rest)

-- the steps of one more day
pub steps_more : (low day next mark falls : ℤ) (days : List ℤ) (count before old now first : ℕ)
    → In day days → low ≤ℤ (day *ℤ pos 86_400) → (day +ℤ pos 1) ≤ℤ next → falls ≤ℤ mark → (day *ℤ pos 86_400) ≤ℤ (falls +ℤ pos 93_599)
    → old + first ≤ before + count * tally (is_opened low day mark) days → now ≤ old + count
    → now + first ≤ before + count * tally (is_opened low next falls) days
steps_more low day next mark falls days count before old now first there above up fall within so_far step =
    let more = one_opened low day next mark falls days there above (omega (arith, ints, up)) fall within in
    let a = tally (is_opened low day mark) days in
    let b = tally (is_opened low next falls) days in
    let scaled : count * a + count ≤ count * b = times_more count a b more in
    omega (arith, scaled, so_far, step)

-- the same, for every low mark
pub steps_few_more : (last day next mark falls : ℤ) (days : List ℤ) (count before old now : ℕ) (start first : ℤ)
    → AreStepsFew count last days before start first old day mark
    → In day days → start ≤ℤ day → day ≤ℤ last → (day +ℤ pos 1) ≤ℤ next → falls ≤ℤ mark → (day *ℤ pos 86_400) ≤ℤ (falls +ℤ pos 93_599)
    → now ≤ old + count → AreStepsFew count last days before start first now next falls
steps_few_more last day next mark falls days count before old now start first so_far there since due up fall within step low from =
    let above : low ≤ℤ (day *ℤ pos 86_400) = elim from [
      | inl past ↦ absurd (omega (arith, ints, past, since, due))
      | inr begins ↦ omega (arith, ints, begins, since)
    ] in
    steps_more low day next mark falls days count before old now (count * tally (is_opened low start first) days) there above up fall within (so_far low from) step
