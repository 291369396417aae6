-- The rows that an index has at the place of a stop: those at the stop, and those of its children.
use Rattle.std.proofs.Common.{◌≡◌, ◌<◌, ◌+◌, ◌++◌, ◌∙◌, ◌==◌, ℕ, zero, suc, cond, take, List, [], ◌∷◌, length, get_or, refl, ap, arith}
use Rattle.std.specs.List.{All, flat_map}
use Rattle.std.proofs.lemmas.Grind.{flat_map-append}
use Rattle.std.proofs.lemmas.List.{append-nil, take_more}
use Rattle.std.proofs.lemmas.List.Elements.{All-append, All-cons, All-head, All-nil, All-tail}
use Rattle.std.proofs.lemmas.Option.{slice_get-get_or}
use Rattle.gtfs_rows.specs.RowsInMemory.{IsSoundParts}
use Rattle.gtfs_rows.specs.declared.parts.Parts.{Parts}
use Rattle.gtfs_times.proofs.FilledContent.{sound-timed}
use Rattle.gtfs_times.specs.TimedRows.{timed_parts}
use Rattle.gtfs_times.specs.declared.times.Times.{Times}
use Rattle.gtfs_runs.specs.Tallies.{tally}
use Rattle.gtfs_runs.specs.StopIndex.{AreDepartureRows, is_this_row}
use Rattle.gtfs_runs.specs.declared.departure_row.DepartureRow.{DepartureRow}
use Rattle.gtfs_runs.specs.declared.stop_index.children.Child.{Child}
use Rattle.gtfs_runs.specs.steps.AtStops.{at_stop, departs_of}
use Rattle.gtfs_runs.specs.steps.Children.{is_child}
use Rattle.gtfs_runs.specs.steps.NotedRows.{IsNoted}
use Rattle.gtfs_runs.specs.steps.PlaceRows.{AreOfPlace}
use Rattle.gtfs_runs.specs.steps.FoundAtRow.{IsInside}
use Rattle.gtfs_runs.proofs.ChildFacts.{children_within}
use Rattle.gtfs_runs.proofs.PlaceFinds.{stop_times_there}
use Rattle.gtfs_runs.proofs.PlacePassings.{rows_inside}
use Rattle.gtfs_runs.proofs.PlaceRows.{place_sum, told_at}
use Rattle.gtfs_runs.proofs.Tallies.{tally-append}

abbrev pub children_rows : List (List DepartureRow) → List Child → List DepartureRow
children_rows index children = flat_map (λ x. at_stop index x.stop) children

-- what holds of two lists put together holds of each
pub first_all : {X : Type 0} (P : X → Type 0) (xs ys : List X) → All P (xs ++ ys) → All P xs
first_all P [] ys all = All-nil P
first_all P (x ∷ xs) ys all = All-cons P x xs (All-head P x (xs ++ ys) all) (first_all P xs ys (All-tail P x (xs ++ ys) all))

pub last_all : {X : Type 0} (P : X → Type 0) (xs ys : List X) → All P (xs ++ ys) → All P ys
last_all P [] ys all = all
last_all P (x ∷ xs) ys all = last_all P xs ys (All-tail P x (xs ++ ys) all)

-- those of one child
pub child_rows : (P : DepartureRow → Type 0) (index : List (List DepartureRow)) (children : List Child) → All P (children_rows index children)
    → (k : ℕ) (d : Child) → k < length children → All P (at_stop index (get_or children k d).stop)
child_rows P index [] all k d within = absurd (omega (arith, within))
child_rows P index (x ∷ xs) all zero d within = first_all P (at_stop index x.stop) (children_rows index xs) all
child_rows P index (x ∷ xs) all (suc k) d within = child_rows P index xs (last_all P (at_stop index x.stop) (children_rows index xs) all) k d (omega (arith, within))

pub more_children : (index : List (List DepartureRow)) (children : List Child) (n : ℕ) (d : Child) → n < length children
    → children_rows index (take (n + 1) children) ≡ children_rows index (take n children) ++ at_stop index (get_or children n d).stop
more_children index children n d within =
    ap (children_rows index) (take_more children n d within) ∙ flat_map-append (λ x. at_stop index x.stop) (take n children) (get_or children n d ∷ [])
    ∙ ap (λ l. children_rows index (take n children) ++ l) (append-nil (at_stop index (get_or children n d).stop))

module _ (choice : Times) (p : Parts) (sound : IsSoundParts p) (index : List (List DepartureRow)) (are : AreDepartureRows choice p index) (notes : All (All (IsNoted (timed_parts choice p))) index)
    (s : ℕ) (within : s < length p.stops) (children : List Child) (own : (n : ℕ) → tally (λ x. n == x.stop) children ≡ cond (is_child p s n) 1 0) where
  abbrev q : Parts
  q = timed_parts choice p

  abbrev rows : List DepartureRow
  rows = at_stop index s ++ children_rows index children

  known : All (λ x. x.stop < length p.stops) children
  known = children_within p children s own

  at_one : (n t r : ℕ) → n < length p.stops → tally (is_this_row t r) (at_stop index n) ≡ cond (departs_of q n t r) 1 0
  at_one n t r inside =
      let there : n < length index = omega (arith, inside, are.counted) in
      told_at choice p sound index are n t r (at_stop index n) inside (slice_get-get_or index n [] there)

  at_children : (t r : ℕ) (xs : List Child) → All (λ x. x.stop < length p.stops) xs → tally (is_this_row t r) (children_rows index xs) ≡ tally (λ x. departs_of q x.stop t r) xs
  at_children t r [] all = refl
  at_children t r (x ∷ xs) all =
      tally-append (is_this_row t r) (at_stop index x.stop) (children_rows index xs)
      ∙ (λ i. at_one x.stop t r (All-head (λ y. y.stop < length p.stops) x xs all) i + at_children t r xs (All-tail (λ y. y.stop < length p.stops) x xs all) i)

  pub of_place : AreOfPlace q s rows
  of_place t r =
      tally-append (is_this_row t r) (at_stop index s) (children_rows index children)
      ∙ (λ i. at_one s t r within i + at_children t r children known i)
      ∙ place_sum q (sound-timed p sound choice) s within children own t r

  of_one : (P : DepartureRow → Type 0) → All (All P) index → (n : ℕ) → n < length p.stops → All P (at_stop index n)
  of_one P all n inside = let there : n < length index = omega (arith, inside, are.counted) in all n [] there

  of_children : (P : DepartureRow → Type 0) → All (All P) index → (xs : List Child) → All (λ x. x.stop < length p.stops) xs → All P (children_rows index xs)
  of_children P all [] stops = All-nil P
  of_children P all (x ∷ xs) stops =
      All-append P (at_stop index x.stop) (children_rows index xs) (of_one P all x.stop (All-head (λ y. y.stop < length p.stops) x xs stops)) (of_children P all xs (All-tail (λ y. y.stop < length p.stops) x xs stops))

  -- what holds of all departure rows holds of these
  pub of_all : (P : DepartureRow → Type 0) → All (All P) index → All P rows
  of_all P all = All-append P (at_stop index s) (children_rows index children) (of_one P all s within) (of_children P all children known)

  pub noted_rows : All (IsNoted q) rows
  noted_rows = of_all (IsNoted q) notes

  pub inside_rows : All (IsInside p) rows
  inside_rows = rows_inside choice p sound rows (stop_times_there q (sound-timed p sound choice) s rows of_place) noted_rows
