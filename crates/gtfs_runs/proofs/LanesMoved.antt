-- The lanes of a stop are these lanes in any order, so its lists may stand in two.
use Rattle.std.proofs.Common.{◌≡◌, ◌∙◌, ◌+◌, ◌++◌, ◌<◌, ℕ, true, false, cond, List, [], ◌∷◌, length, refl, sym, subst, arith, inl, inr, append_assoc}
use Rattle.std.proofs.lemmas.Bool.{cases_Bool}
use Rattle.std.proofs.lemmas.List.{append-nil}
use Rattle.std.proofs.lemmas.List.Elements.{All-nil, All-push}
use Rattle.std.proofs.lemmas.List.Recursion.{is_sum_by}
use Rattle.std.specs.Prelude.{◌==◌, All}
use Rattle.std.specs.List.{sum_by}
use Rattle.std.specs.List.Sorted.{IsPermutation}
use Rattle.std.proofs.lemmas.List.Sorted.{All-permutation, IsPermutation-append_comm, IsPermutation-append_left, IsPermutation-append_right, IsPermutation-refl, IsPermutation-trans, length_permutation, sum_by-IsPermutation}
use Rattle.gtfs_rows.specs.Content.{Content}
use Rattle.gtfs_rows.specs.TransferOrder.{Ascends}
use Rattle.gtfs_runs.specs.LaneKinds.{has_untimed}
use Rattle.gtfs_runs.specs.EventOrder.{is_same, event_cmp}
use Rattle.gtfs_runs.specs.Tallies.{tally}
use Rattle.gtfs_runs.specs.StopLanes.{AreLanesOf, LaneValue, events_of_service}
use Rattle.gtfs_runs.specs.declared.event.Event.{Event}
use Rattle.gtfs_runs.specs.steps.FilledApart.{AreApart}
use Rattle.gtfs_runs.proofs.Tallies.{tally-append}

abbrev told_by : ℕ → Event → LaneValue → ℕ
told_by k e lane = cond (lane.service == k) (tally (is_same e) lane.events) 0

one-more : (k : ℕ) (e : Event) (l : LaneValue) (ls : List LaneValue) → tally (is_same e) (events_of_service k (l ∷ ls)) ≡ told_by k e l + tally (is_same e) (events_of_service k ls)
one-more k e l ls = elim (cases_Bool (l.service == k)) [
  | inl is ↦ rw is (tally-append (is_same e) l.events (events_of_service k ls))
  | inr isnt ↦ rw isnt (none (tally (is_same e) (events_of_service k ls)))
]
  where
    none : (n : ℕ) → n ≡ 0 + n
    none n = omega arith

told : (k : ℕ) (e : Event) (lanes : List LaneValue) → tally (is_same e) (events_of_service k lanes) ≡ sum_by (told_by k e) lanes
told k e lanes = is_sum_by (λ ls. tally (is_same e) (events_of_service k ls)) (told_by k e) refl (one-more k e) lanes

pub lanes-moved : (c : Content) (s : List ℕ) (ids : List (List ℕ)) (xs ys : List LaneValue) → IsPermutation xs ys → AreLanesOf c s ids xs → AreLanesOf c s ids ys
lanes-moved c s ids xs ys moved are = record {
  within = All-permutation (λ lane. lane.service < length ids) xs ys moved are.within;
  ascending = All-permutation (λ lane. Ascends event_cmp lane.events) xs ys moved are.ascending;
  exact = λ k e within. told k e ys ∙ sum_by-IsPermutation (told_by k e) xs ys moved ∙ sym (told k e xs) ∙ are.exact k e within;
  counted = length_permutation xs ys moved ∙ are.counted;
}

-- the lists in two, of which the second stands last
pub lists-apart : {X : Type 0} (lists periods given filled : List X) → IsPermutation lists (given ++ filled) → IsPermutation (lists ++ periods) (given ++ periods ++ filled)
lists-apart lists periods given filled apart =
    IsPermutation-trans (lists ++ periods) (given ++ filled ++ periods) (given ++ periods ++ filled)
    (IsPermutation-append_left periods lists (given ++ filled) apart)
    (subst (λ l. IsPermutation (given ++ filled ++ periods) l) (sym (append_assoc given periods filled))
    (subst (λ l. IsPermutation l (given ++ (periods ++ filled))) (sym (append_assoc given filled periods))
    (IsPermutation-append_right given (filled ++ periods) (periods ++ filled) (IsPermutation-append_comm filled periods))))

-- ---- the steps of the code

pub all_given : (c : Content) (lists : List LaneValue) → All (λ lane. has_untimed c lane ≡ false) lists → AreApart c lists lists []
all_given c lists all = record {
  same = subst (λ l. IsPermutation lists l) (sym (append-nil lists)) (IsPermutation-refl lists);
  given = all;
  filled = All-nil (λ lane. has_untimed c lane ≡ true);
}

pub given_more : (c : Content) (lists given filled : List LaneValue) (l : LaneValue) → AreApart c lists given filled → has_untimed c l ≡ false → AreApart c (lists ++ l ∷ []) (given ++ l ∷ []) filled
given_more c lists given filled l apart is = record {
  same = lists-apart lists (l ∷ []) given filled apart.same;
  given = All-push (λ lane. has_untimed c lane ≡ false) given l apart.given is;
  filled = apart.filled;
}

pub filled_more : (c : Content) (lists given filled : List LaneValue) (l : LaneValue) → AreApart c lists given filled → has_untimed c l ≡ true → AreApart c (lists ++ l ∷ []) given (filled ++ l ∷ [])
filled_more c lists given filled l apart is = record {
  same = subst (λ m. IsPermutation (lists ++ l ∷ []) m) (append_assoc given filled (l ∷ [])) (IsPermutation-append_left (l ∷ []) lists (given ++ filled) apart.same);
  given = apart.given;
  filled = All-push (λ lane. has_untimed c lane ≡ true) filled l apart.filled is;
}
