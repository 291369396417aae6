-- The lists of all stops are the departure rows of a feed.
use Rattle.std.proofs.Common.{◌≡◌, ◌∙◌, ◌&&◌, ◌||◌, ℕ, Bool, true, false, cond, List, [], ◌∷◌, filter, length, nat_lt, refl, sym, ap, inl, inr}
use Rattle.std.specs.List.{All, list_any}
use Rattle.std.proofs.lemmas.Bool.{cases_Bool, lt-ltb}
use Rattle.gtfs_rows.specs.TransferOrder.{Ascends}
use Rattle.gtfs_rows.specs.RowsInMemory.{IsSoundParts, content_of_parts, stop_ids, text_of_number}
use Rattle.gtfs_rows.specs.declared.parts.Parts.{Parts}
use Rattle.gtfs_times.proofs.TimedContent.{content-timed}
use Rattle.gtfs_times.specs.TimedRows.{timed_parts}
use Rattle.gtfs_times.specs.declared.times.Times.{Times}
use Rattle.gtfs_runs.specs.Tallies.{tally}
use Rattle.gtfs_runs.specs.StopIndex.{AreDepartureRows, has_departure_row, departure_row_cmp, is_this_row}
use Rattle.gtfs_runs.specs.declared.departure_row.DepartureRow.{DepartureRow}
use Rattle.gtfs_runs.specs.steps.AtStops.{at_stop, departs_of}
use Rattle.gtfs_runs.proofs.Tallies.{any-tally}

-- what is asked of those that are kept
pub any_kept : {X : Type 0} (q f : X → Bool) (xs : List X) → list_any q (filter f xs) ≡ list_any (λ x. q x && f x) xs
any_kept q f [] = refl
any_kept q f (x ∷ xs) = elim (cases_Bool (f x)) [
  | inl kept ↦ rw kept (λ i. sym (alone (q x)) i || any_kept q f xs i)
  | inr left ↦ rw left (any_kept q f xs ∙ ap (λ b. b || list_any (λ y. q y && f y) xs) (sym (never (q x))))
]
  where
    alone : (b : Bool) → (b && true) ≡ b
    alone true = refl
    alone false = refl

    never : (b : Bool) → (b && false) ≡ false
    never true = refl
    never false = refl

pub are-departure-rows : (choice : Times) (p : Parts) → IsSoundParts p → (lists : List (List DepartureRow)) → length lists ≡ length p.stops
    → ((s t r : ℕ) → tally (is_this_row t r) (at_stop lists s) ≡ cond (departs_of (timed_parts choice p) s t r) 1 0) → All (Ascends (departure_row_cmp p)) lists
    → AreDepartureRows choice p lists
are-departure-rows choice p sound lists size told up =
    let q = timed_parts choice p in
    record {
      counted = size;
      in_order = up;
      all = λ s t r within.
          let known : nat_lt s (length p.stops) ≡ true = lt-ltb s (length p.stops) within in
          any-tally (is_this_row t r) (at_stop lists s) (departs_of q s t r) (told s t r)
          ∙ ap (λ k. k && has_departure_row (content_of_parts q) (text_of_number (stop_ids p) s) t r) known
          ∙ ap (λ c. has_departure_row c (text_of_number (stop_ids p) s) t r) (content-timed choice p sound);
    }
