-- A sorted list in which no event stands twice ascends.
use Rattle.std.proofs.Common.{◌≡◌, ◌≤◌, ◌∙◌, ◌&&◌, ◌==◌, ℕ, Bool, true, false, cond, List, length, nat_lt, get_or, refl, sym, ap, arith, rules}
use Rattle.std.specs.List.Sorted.{IsPermutation, IsSorted}
use Rattle.std.specs.Cmp.{IsTotalOrder, ranked}
use Rattle.std.specs.Cmp.Derive.{both_true}
use Rattle.std.specs.Cmp.Rules.{comparing}
use Rattle.std.specs.declared.cmp.Ordering.{Ordering}
use Rattle.std.specs.declared.cmp.Ordering.TheVariants.{Less, Equal, Greater}
use Rattle.std.specs.Ordering.{is_eq, is_lt, ordering_reverse}
use Rattle.std.proofs.lemmas.List.Sorted.{ranks_by, sorted_far}
use Rattle.gtfs_field.proofs.NumberFacts.{number_itself as itself}
use Rattle.gtfs_field.proofs.OrderingFacts.{tied_first as first_tie, tied_second as second_tie}
use Rattle.gtfs_rows.specs.TransferOrder.{Ascends}
use Rattle.gtfs_rows.specs.declared.parts.Parts.{Parts}
use Rattle.gtfs_rows.specs.RowsInMemory.{IsSoundParts, service_ids, stop_ids, text_of_number}
use Rattle.gtfs_times.proofs.TimedContent.{content-timed}
use Rattle.gtfs_times.specs.TimedRows.{timed_parts}
use Rattle.gtfs_times.specs.declared.times.Times.{Times}
use Rattle.gtfs_runs.specs.Events.{is_event}
use Rattle.gtfs_runs.specs.Tallies.{tally}
use Rattle.gtfs_runs.specs.FlatEvents.{AreEvents, Served, is_event_of, is_served, served_cmp}
use Rattle.gtfs_runs.specs.declared.event.Event.{Event}
use Rattle.gtfs_runs.proofs.Counting.{same-self}
use Rattle.gtfs_runs.proofs.Tallies.{any-tally, tally-permutation, two_at}

served_total : IsTotalOrder served_cmp
served_total = search (comparing, rules) depth 20

-- what ties with an event is that event under the same number
tied : (x y : Served) → served_cmp x y ≡ Equal → is_served x.0.0 x.1 y ≡ true
tied x y tie =
    let number : x.0.0 ≡ y.0.0 = ranked x.0.0 y.0.0 Equal (sym (first_tie _ _ tie)) in
    both_true (ap (λ n. n == x.0.0) (sym number) ∙ itself x.0.0) (ap is_eq (second_tie _ _ tie))

below : (r q : Ordering) → q ≡ ordering_reverse r → is_lt q ≡ false → (r ≡ Equal → ⊥) → r ≡ Less
below Less q turned far apart = refl
below Equal q turned far apart = absurd (apart refl)
below Greater q turned far apart = absurd (never (sym (ap is_lt turned) ∙ far))
  where
    never : true ≡ false → ⊥
    never h = cc

ascends : (xs : List Served) → IsSorted served_cmp xs → ((k : ℕ) (e : Event) → tally (is_served k e) xs ≤ 1) → Ascends served_cmp xs
ascends xs up once i j d before within =
    let a = get_or xs i d in
    let b = get_or xs j d in
    below (served_cmp a b) (served_cmp b a) (served_total.antisymm b a)
    (sorted_far (λ x y. is_lt (served_cmp x y)) (ranks_by served_total (λ x. x)) xs up i j d (omega arith) within)
    (λ tie. twice (tally (is_served a.0.0 a.1) xs) (two_at (is_served a.0.0 a.1) xs i j d before within (both_true (itself a.0.0) (same-self a.1)) (tied a b tie)) (once a.0.0 a.1))
  where
    twice : (n : ℕ) → 2 ≤ n → n ≤ 1 → ⊥
    twice n two one = omega arith

-- ---- all together

pub are-events : (choice : Times) (p : Parts) → IsSoundParts p → (s : ℕ) (found sorted : List Served)
    → ((k : ℕ) (e : Event) → tally (is_served k e) found ≡ cond (is_event_of (timed_parts choice p) s k e) 1 0)
    → IsPermutation found sorted → IsSorted served_cmp sorted → AreEvents choice p s sorted
are-events choice p sound s found sorted told same up =
    let q = timed_parts choice p in
    let every : (k : ℕ) (e : Event) → tally (is_served k e) sorted ≡ cond (is_event_of q s k e) 1 0 = λ k e. tally-permutation (is_served k e) found sorted same ∙ told k e in
    record {
      in_order = ascends sorted up (λ k e. most (is_event_of q s k e) (tally (is_served k e) sorted) (every k e));
      all = λ k e. any-tally (is_served k e) sorted (is_event_of q s k e) (every k e)
          ∙ ap (λ c. nat_lt k (length p.services) && is_event c (text_of_number (stop_ids p) s) (text_of_number (service_ids p) k) e) (content-timed choice p sound);
    }
  where
    most : (b : Bool) (n : ℕ) → n ≡ cond b 1 0 → n ≤ 1
    most true n is = omega (arith, is)
    most false n is = omega (arith, is)
