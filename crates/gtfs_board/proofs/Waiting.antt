use Rattle.std.proofs.Common.{◌≡◌, ℕ, zero, suc, ◌+◌, ◌*◌, ◌≤◌, Bool, true, false, List, [], ◌∷◌, ◌++◌, inl, inr, Option, Some, None, refl, sym, ◌∙◌, ap, arith, find}
use Rattle.std.specs.Prelude.{ℤ, count_by, int_lt, pos, ◌+ℤ◌, ◌*ℤ◌, ◌≤ℤ◌, ◌<ℤ◌}
use Rattle.std.specs.List.{filter}
use Rattle.std.specs.Option.{option_to_list}
use Rattle.std.proofs.lemmas.Int.{ints}
use Rattle.std.proofs.lemmas.Bool.{cases_Bool}
use Rattle.gtfs_field.proofs.NumberFacts.{cases_int, int_lt-true}
use Rattle.gtfs_board.specs.declared.upcoming.candidate.Candidate.{Candidate}
use Rattle.gtfs_runs.specs.Tallies.{tally}
use Rattle.gtfs_runs.proofs.Tallies.{tally-append}
use Rattle.gtfs_board.specs.upcoming.QueueOrder.{In, Each, IsUpward, same}
use Rattle.gtfs_board.specs.Board.{low_mark, may_be_opened}
use Rattle.gtfs_board.specs.upcoming.OpenedLanes.{Events, IsStopped, IsFrom, AreStepsFew, is_opened}
use Rattle.gtfs_board.specs.upcoming.Candidates.{AreDepartures, AreHeadsAbove, HaveSameMembers, AreQueued, candidate_lt, least_from, IsWithin, AreGathered, instant_or_end, IsAside, IsFirst, IsWaiting, head_of, rest_above}
use Rattle.gtfs_board.proofs.Orders.{Each-in, find-in, find-least, find-none, in-either}
use Rattle.gtfs_board.proofs.Heads.{head-waits, least_of_all, heads_taken, head-found, find-passes}
use Rattle.gtfs_board.proofs.Window.{each_in, each_weaker, waits-head, held_bound}
use Rattle.gtfs_board.proofs.Reach.{reached-opened, opened-reached}
use Rattle.gtfs_board.proofs.Starts.{IsStartDay}
use Rattle.gtfs_board.proofs.Rests.{rest_taken, rest_empty, in-in_order, in-filter}
use Rattle.gtfs_board.proofs.Candidates.{candidates_strict, not_lt-instant}
use Rattle.gtfs_board.proofs.Queues.{in_alike, each_alike, uncounted, tally_sum}
use Rattle.gtfs_board.proofs.Gathers.{least_from-is, least_from-above}
use Rattle.gtfs_board.proofs.Days.{least_from-none as least_none}

in-option : {C : Type 0} (o : Option C) (x : C) → In x (option_to_list o) → o ≡ Some x
in-option None x here = absurd here
in-option (Some y) x here = elim here [ inl e ↦ ap Some (sym e) | inr later ↦ absurd later ]

times_le : (n a b : ℕ) → a ≤ b → n * a ≤ n * b
times_le zero a b h = omega arith
times_le (suc n) a b h = let rest = times_le n a b h in grind (arith, rest)

counted : (n : ℕ) (p : ℤ → Bool) (xs : List ℤ) → n * count_by p xs ≡ n * tally p xs
counted n p xs = ap (λ k. n * k) (tally_sum p xs)

no_earlier : (end : ℤ) (first : Option Candidate) (others : List Candidate) → IsFirst first others → Each (λ y. instant_or_end end first ≤ℤ y.instant) (option_to_list first ++ others)
no_earlier end None others e = rw e tt
no_earlier end (Some c) others least = (omega (arith, ints), each_weaker (λ y. candidate_lt y c ≡ false) (λ y. c.instant ≤ℤ y.instant) (λ y h. not_lt-instant y c h) others least)

pub floor_up : (c : Candidate) → IsUpward candidate_lt (candidate_lt c)
floor_up c x y h above = candidates_strict.trans c x y above h

-- what the departures of the lanes keep, and what waits of them
module _ {count latest : ℕ} {end first_day last : ℤ} {days : List ℤ} {origins : ℤ → ℤ} {events : Events Candidate} {all : List Candidate}
    (known : AreDepartures count latest end first_day last days origins events all) where
  pub head_ends : (floor : Candidate) (q : List Candidate) (day : ℤ) → AreHeadsAbove events floor day q → (c : Candidate) → In c q
      → In c (events c.lane c.day) × (c.instant ≤ℤ end) × (candidate_lt floor c ≡ true)
  head_ends floor q day heads c here =
      let head = waits-head candidates_strict known.lanes day (candidate_lt floor) q heads c here in
      let found = (head-found candidates_strict known.lanes day (candidate_lt floor) c head).1 in
      let there = find-in (candidate_lt floor) (events c.lane c.day) c found in
      (there, known.ends c.lane c.day c there, find-passes (candidate_lt floor) (events c.lane c.day) c found)

  -- what was gathered joins what waits, and the first of all, if any, has the least instant
  least_is : (floor : Candidate) (others fresh rest : List Candidate) (o : Option Candidate) (day mark : ℤ) → AreGathered events floor end others fresh day mark
      → HaveSameMembers (option_to_list o ++ rest) (others ++ fresh) → IsFirst o rest → mark ≡ instant_or_end end o
  least_is floor others fresh rest None day mark g alike none =
      g.least ∙ ap (least_from end) (uncounted (others ++ fresh) (λ x. sym (alike x) ∙ ap (tally (same candidate_lt x)) none)) ∙ least_none end
  least_is floor others fresh rest (Some c) day mark g alike least =
      let here = in_alike (others ++ fresh) (c ∷ rest) alike c (inl refl) in
      let low = each_alike (λ y. c.instant ≤ℤ y.instant) (c ∷ rest) (others ++ fresh) (λ x. sym (alike x)) (no_earlier end (Some c) rest least) in
      g.least ∙ least_from-is end c (others ++ fresh) here (head_ends floor (others ++ fresh) day g.heads c here).1 low

  pub joined : (floor : Candidate) (others fresh rest : List Candidate) (o : Option Candidate) (day mark : ℤ) → AreGathered events floor end others fresh day mark
      → IsStopped last day mark → HaveSameMembers (option_to_list o ++ rest) (others ++ fresh) → IsFirst o rest
      → IsWaiting events end last floor o rest day × (mark ≡ instant_or_end end o)
  joined floor others fresh rest o day mark g stopped alike first =
      let is = least_is floor others fresh rest o day mark g alike first in (
        record {
          heads = λ x. alike x ∙ g.heads x;
          least = first;
          within = each_alike (IsWithin (instant_or_end end o)) (others ++ fresh) (option_to_list o ++ rest) alike (rw is at g.within);
          stopped = rw is at stopped;
        },
        is,
      )

  above_first : (first : Option Candidate) (day : ℤ) → IsStopped last day (instant_or_end end first)
      → (i : ℕ) (d : ℤ) (y : Candidate) → day ≤ℤ d → In y (events i d) → instant_or_end end first <ℤ y.instant
  above_first first day stopped i d y after there = elim stopped [
    | inl past ↦ let none = known.beyond i d (omega (arith, ints, past, after)) in absurd (rw none at there)
    | inr above ↦ let e = known.lanes.early i d y there in omega (arith, ints, above, after, e)
  ]

  -- the first is the least of the rest
  pub first_of_rest : (floor c : Candidate) (others : List Candidate) (day : ℤ)
      → IsWaiting events end last floor (Some c) others day
      → rest_above all floor ≡ c ∷ rest_above all c
  first_of_rest floor c others day w =
      let head = head_ends floor (c ∷ others) day w.heads c (inl refl) in
      rest_taken candidates_strict all (candidate_lt floor) c (floor_up floor) (known.whole.whole c head.0) head.2
      (λ y there passes. least_of_all candidates_strict known.lanes day (candidate_lt floor) (c ∷ others) c w.heads (floor_up floor) (candidates_strict.irrefl c, w.least)
      (above_first (Some c) day w.stopped) y.lane y.day y (known.whole.sound y there) passes)

  pub none_of_rest : (floor : Candidate) (others : List Candidate) (day : ℤ)
      → IsWaiting events end last floor None others day → rest_above all floor ≡ []
  none_of_rest floor others day w = rest_empty candidates_strict all (candidate_lt floor) (λ y there passes.
      let at = known.whole.sound y there in
      elim (cases_int y.day day) [
        | inl before ↦
            let found = find-least candidates_strict (candidate_lt floor) (floor_up floor) (events y.lane y.day) (known.lanes.ascend y.lane y.day) y at passes in
            let waits = head-waits candidates_strict known.lanes day (candidate_lt floor) others w.heads y.lane y.day found.0 before found.1 in
            rw w.least at waits
        | inr after ↦
            let above = above_first None day w.stopped y.lane y.day y after at in
            let low = known.ends y.lane y.day y at in
            absurd (omega (arith, ints, above, low))
      ])

  -- once the first is taken, what was next to it in its lane waits in its place
  pub taken : (floor c : Candidate) (others : List Candidate) (day : ℤ) (next : Option Candidate) → IsWaiting events end last floor (Some c) others day
      → next ≡ find (candidate_lt c) (events c.lane c.day)
      → AreHeadsAbove events c day (others ++ option_to_list next)
      × (c.instant ≤ℤ least_from end (others ++ option_to_list next))
      × Each (IsWithin (least_from end (others ++ option_to_list next))) (others ++ option_to_list next)
  taken floor c others day next w is =
      let new = option_to_list next in
      let all = others ++ new in
      let least = least_of_all candidates_strict known.lanes day (candidate_lt floor) (c ∷ others) c w.heads (floor_up floor) (candidates_strict.irrefl c, w.least) (above_first (Some c) day w.stopped) in
      let moved = heads_taken candidates_strict known.lanes day (candidate_lt floor) c others w.heads (floor_up floor) least in
      let heads : AreHeadsAbove events c day all = λ x.
      let a = tally-append (same candidate_lt x) others new in
      let b = tally-append (same candidate_lt x) new others in
      let m = moved x in
      let n = rw (← is) at m in
      omega (arith, a, b, n) ∙ n in
      let head = head_ends floor (c ∷ others) day w.heads c (inl refl) in
      let instants : Each (λ y. c.instant ≤ℤ y.instant) all = each_in (λ y. c.instant ≤ℤ y.instant) all (λ y there.
      let h = head_ends c all day heads y there in known.lanes.follow c y h.2) in
      let above = least_from-above c.instant end all head.1 instants in
      let days : (y : Candidate) → In y all → IsWithin c.instant y = λ y there. elim (in-either others new y there) [
        | inl old ↦ Each-in (IsWithin c.instant) others y w.within.1 old
        | inr fresh ↦
            let e = in-option next y fresh in
            let at = find-in (candidate_lt c) (events c.lane c.day) y (sym is ∙ e) in
            let d = known.lanes.of_day c.lane c.day y at in
            rw d w.within.0
      ] in
      (heads, above, each_in (IsWithin (least_from end all)) all (λ y there. let d = days y there in omega (arith, ints, d, above)))

  -- the steps of a board that moves from one instant to another, and made one for what it took
  pub steps_taken : (low day day' x y mark x2 y2 : ℤ) (before mid after : ℕ) → x2 ≡ x → y2 ≡ y → IsStopped last day x → x ≤ℤ mark
      → after + count * tally (is_opened low day mark) days ≤ mid + count * tally (is_opened low day' y) days → mid ≤ before + 1
      → after + count * count_by (may_be_opened low x2) days ≤ before + 1 + count * count_by (may_be_opened low y2) days
  steps_taken low day day' x y mark x2 y2 before mid after ex ey stopped up h step =
      let a = times_le count _ _ (reached-opened low day x mark days up (each_in (λ d. day ≤ℤ d → (x +ℤ pos 93_599) <ℤ (d *ℤ pos 86_400)) days (λ d there past. elim stopped [
        | inl gone ↦ let b = known.within d there in absurd (omega (arith, ints, gone, b, past))
        | inr above ↦ omega (arith, ints, above, past)
      ]))) in
      let b = times_le count _ _ (opened-reached low day' y days) in
      let cx = counted count (may_be_opened low x) days in
      let cy = counted count (may_be_opened low y) days in
      rw (ex, ey) (omega (arith, a, b, h, step, cx, cy))

  -- and of one that was opened
  pub steps_opened : (low y y2 start mark day : ℤ) (before after : ℕ) → IsFrom low last start
      → AreStepsFew count last days before start mark after day y → y2 ≡ y → after ≤ before + count * count_by (may_be_opened low y2) days
  steps_opened low y y2 start mark day before after from few ey =
      let h = few low from in
      let b = times_le count _ _ (opened-reached low day y days) in
      let c = counted count (may_be_opened low y) days in
      rw ey (omega (arith, h, b, c))

  -- what waits is left
  waits_left : (floor : Candidate) (first : Option Candidate) (others : List Candidate) (day : ℤ)
      → IsWaiting events end last floor first others day → Each (λ c. In c (rest_above all floor)) (option_to_list first ++ others)
  waits_left floor first others day w = each_in (λ c. In c (rest_above all floor)) (option_to_list first ++ others) (λ c there.
      let h = head_ends floor (option_to_list first ++ others) day w.heads c there in
      in-in_order candidates_strict (filter (candidate_lt floor) all) c (in-filter (candidate_lt floor) all c (known.whole.whole c h.0) h.2))

  -- the queue and the rest have one first
  pub stands : (floor : Candidate) (first : Option Candidate) (others : List Candidate) (day : ℤ) → IsWaiting events end last floor first others day
      → (head_of (option_to_list first ++ others) ≡ head_of (rest_above all floor)) × (instant_or_end end (head_of (rest_above all floor)) ≡ instant_or_end end first)
  stands floor None others day w = let none = none_of_rest floor others day w in let alone = w.least in (rw (none, alone) refl, rw none refl)
  stands floor (Some c) others day w = let is = first_of_rest floor c others day w in (rw is refl, rw is refl)

  pub queued : (floor : Candidate) (first : Option Candidate) (others : List Candidate) (day : ℤ) (start : ℤ) (steps : ℕ) → IsWaiting events end last floor first others day
      → AreQueued (record { rest = rest_above all floor; queue = option_to_list first ++ others; lanes = count; latest = latest; start = start; end = end; steps = steps })
  queued floor first others day start steps w = record {
    within = waits_left floor first others day w;
    same_first = (stands floor first others day w).0;
    bounded = held_bound candidates_strict known.lanes day (candidate_lt floor) (option_to_list first ++ others) (instant_or_end end first) w.heads (no_earlier end first others w.least) w.within;
  }

  -- nothing above a floor lies on a day before the first one that is looked at
  start_past : (floor : Candidate) (day : ℤ) → IsStartDay (low_mark latest floor.instant) first_day last day
      → (i : ℕ) (d : ℤ) (c : Candidate) → d <ℤ day → In c (events i d) → candidate_lt floor c ≡ false
  start_past floor day start i d c early there = elim (start.earlier d early) [
    | inl outside ↦ let none = known.before i d outside in absurd (rw none at there)
    | inr low ↦ elim (cases_Bool (candidate_lt floor c)) [
      | inl above ↦
          let order = known.lanes.follow floor c above in
          let late = known.lanes.late i d c there in
          absurd (omega (arith, ints, order, late, low))
      | inr isnt ↦ isnt
    ]
  ]

  pub heads_start : (floor : Candidate) (day : ℤ) → IsStartDay (low_mark latest floor.instant) first_day last day → AreHeadsAbove events floor day []
  heads_start floor day start x = elim (cases_Bool (int_lt x.day day)) [
    | inl is ↦
        let none : find (candidate_lt floor) (events x.lane x.day) ≡ None =
        find-none (candidate_lt floor) (events x.lane x.day) (λ c there. start_past floor day start x.lane x.day c (int_lt-true x.day day is) there) in
        rw (is, none) refl
    | inr isnt ↦ rw isnt refl
  ]

  -- the day of each candidate that waits is opened
  pub first_opened : (floor : Candidate) (queue : List Candidate) (day : ℤ) → AreHeadsAbove events floor day queue → (c : Candidate) → In c queue → c.day <ℤ day
  first_opened floor queue day heads c there =
      (head-found candidates_strict known.lanes day (candidate_lt floor) c (waits-head candidates_strict known.lanes day (candidate_lt floor) queue heads c there)).0

pub still_from : (low last a b : ℤ) → IsFrom low last a → a ≤ℤ b → IsFrom low last b
still_from low last a b from up = elim from [
  | inl past ↦ inl (omega (arith, ints, past, up))
  | inr begins ↦ inr (omega (arith, ints, begins, up))
]

-- a floor stays aside on later days
pub aside_later : (floor : Candidate) (a b : ℤ) (n : ℕ) → a ≤ℤ b → IsAside floor a n → IsAside floor b n
aside_later floor a b n up aside = elim aside [
  | inl earlier ↦ inl (omega (arith, ints, up, earlier))
  | inr outside ↦ inr outside
]
