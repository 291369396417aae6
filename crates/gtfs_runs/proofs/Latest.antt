-- The latest time of events.
use Rattle.std.proofs.Common.{◌≡◌, ◌≤◌, ◌<◌, ◌+◌, ◌-◌, ◌++◌, ◌∙◌, ℕ, suc, List, [], ◌∷◌, length, map, take, get_or, Option, Some, None, nat_lt, if◌then◌else◌, refl, sym, ap, arith, inl, inr}
use Rattle.std.specs.Prelude.{max, unwrap_or}
use Rattle.std.specs.List.{flat_map, fold, range_with_len, slice_get}
use Rattle.std.specs.declared.cmp.Ordering.TheVariants.{Less}
use Rattle.std.proofs.lemmas.Bool.{cases_Bool, ltb-false, ltb-true}
use Rattle.std.proofs.lemmas.Grind.{flat_map-append}
use Rattle.std.proofs.lemmas.List.{append-nil, map-append, take_more as taken}
use Rattle.std.proofs.lemmas.Option.{get_or_from_slice_get, slice_get-get_or}
use Rattle.std.proofs.lemmas.List.FromFn.{length-map-range_with_len as length-range}
use Rattle.gtfs_field.proofs.OrderingFacts.{first_at_most as not_before}
use Rattle.gtfs_rows.specs.TransferOrder.{Ascends}
use Rattle.gtfs_rows.proofs.SameElements.{pairs-tail}
use Rattle.gtfs_runs.specs.EventOrder.{event_cmp}
use Rattle.gtfs_runs.specs.PeriodRuns.{run_event, run_events}
use Rattle.gtfs_runs.specs.StopLanes.{LaneValue}
use Rattle.gtfs_runs.specs.declared.event.Event.{Event}
use Rattle.gtfs_runs.specs.steps.LatestOfLists.{latest_of}
use Rattle.gtfs_runs.proofs.Finding.{get_or-range_0}

max-zero : (a : ℕ) → max 0 a ≡ a
max-zero a = omega arith

max-assoc : (a b c : ℕ) → max (max a b) c ≡ max a (max b c)
max-assoc a b c = omega arith

max-later : (a b : ℕ) → a ≤ b → max a b ≡ b
max-later a b h = omega arith

fold-from : (a b : ℕ) (xs : List ℕ) → fold max (max a b) xs ≡ max a (fold max b xs)
fold-from a b [] = refl
fold-from a b (x ∷ xs) = ap (λ n. fold max n xs) (max-assoc a b x) ∙ fold-from a (max b x) xs

fold-start : (a : ℕ) (xs : List ℕ) → fold max a xs ≡ max a (fold max 0 xs)
fold-start a xs = ap (λ n. fold max n xs) (sym (back a)) ∙ fold-from a 0 xs
  where
    back : (b : ℕ) → max b 0 ≡ b
    back b = omega arith

fold-append : (a : ℕ) (xs ys : List ℕ) → fold max a (xs ++ ys) ≡ fold max (fold max a xs) ys
fold-append a [] ys = refl
fold-append a (x ∷ xs) ys = fold-append (max a x) xs ys

pub latest-append : (xs ys : List Event) → latest_of (xs ++ ys) ≡ max (latest_of xs) (latest_of ys)
latest-append xs ys =
    ap (fold max 0) (map-append (λ e. e.at) xs ys) ∙ fold-append 0 (map (λ e. e.at) xs) (map (λ e. e.at) ys)
    ∙ fold-start (latest_of xs) (map (λ e. e.at) ys)

from_first : (e : Event) (es : List Event) (d : Event) → Ascends event_cmp (e ∷ es) → fold max e.at (map (λ x. x.at) es) ≡ (get_or (e ∷ es) (length es) d).at
from_first e [] d up = refl
from_first e (x ∷ es) d up =
    let pair : event_cmp e x ≡ Less = up 0 1 e (omega arith) (omega arith) in
    ap (λ n. fold max n (map (λ y. y.at) es)) (max-later e.at x.at (not_before e.at x.at _ pair))
    ∙ from_first x es d (pairs-tail (λ a b. event_cmp a b ≡ Less) e (x ∷ es) up)

-- of ascending events the last is the latest
pub latest-last : (es : List Event) (d : Event) → Ascends event_cmp es → 0 < length es → latest_of es ≡ (get_or es (length es - 1) d).at
latest-last [] d up some = absurd (omega arith)
latest-last (e ∷ es) d up some =
    let last : suc (length es) - 1 ≡ length es = omega arith in
    ap (λ n. fold max n (map (λ x. x.at) es)) (max-zero e.at) ∙ from_first e es d up ∙ ap (λ n. (get_or (e ∷ es) n d).at) (sym last)

-- a lane more
pub latest_more : {X : Type 0} (f : X → LaneValue) (xs : List X) (n : ℕ) (d : X) (old new last : ℕ) → n < length xs
    → old ≡ latest_of (flat_map (λ lane. lane.events) (map f (take n xs))) → last ≡ latest_of (f (get_or xs n d)).events → new ≡ max last old
    → new ≡ latest_of (flat_map (λ lane. lane.events) (map f (take (n + 1) xs)))
latest_more f xs n d old new last within so_far own made =
    let x = get_or xs n d in
    let all : flat_map (λ lane. lane.events) (map f (take (n + 1) xs)) ≡ flat_map (λ lane. lane.events) (map f (take n xs)) ++ (f x).events =
    ap (λ l. flat_map (λ lane. lane.events) (map f l)) (taken xs n d within)
    ∙ ap (flat_map (λ lane. lane.events)) (map-append f (take n xs) (x ∷ []))
    ∙ flat_map-append (λ lane. lane.events) (map f (take n xs)) (f x ∷ [])
    ∙ ap (λ l. flat_map (λ lane. lane.events) (map f (take n xs)) ++ l) (append-nil (f x).events) in
    made ∙ (λ i. max (own i) (so_far i)) ∙ turned (latest_of (f x).events) (latest_of (flat_map (λ lane. lane.events) (map f (take n xs))))
    ∙ sym (ap latest_of all ∙ latest-append (flat_map (λ lane. lane.events) (map f (take n xs))) (f x).events)
  where
    turned : (a b : ℕ) → max a b ≡ max b a
    turned a b = omega arith

-- the runs of a period
pub no-runs : (first : Event) (headway count : ℕ) → count ≡ 0 → 0 ≡ latest_of (run_events first headway count)
unfolding run_events
no-runs first headway count none = rw none refl

pub latest-runs : (first : Event) (headway count : ℕ) → Ascends event_cmp (run_events first headway count) → 0 < count → latest_of (run_events first headway count) ≡ (run_event first headway (count - 1)).at
unfolding run_events
latest-runs first headway count up some =
    let f = run_event first headway in
    let es = map f (range_with_len 0 count) in
    let size : length es ≡ count = length-range f 0 count in
    latest-last es first up (omega (arith, size, some)) ∙ ap (λ n. (get_or es (n - 1) first).at) size
    ∙ ap (λ e. e.at) (get_or-range_0 f count (count - 1) first (omega (arith, some)))

-- the steps of the code
pub latest-some : (first : Event) (headway count n m : ℕ) (o : Option Event) (last : Event) → Ascends event_cmp (run_events first headway count) → m ≡ count → n ≡ m - 1
    → o ≡ (if nat_lt n count then Some (run_event first headway n) else None) → o ≡ Some last → last.at ≡ latest_of (run_events first headway count)
latest-some first headway count n m o last up all before is there = elim (cases_Bool (nat_lt n count)) [
  | inl below ↦
      let some : 0 < count = omega (arith, ltb-true n count below) in
      let same : last ≡ run_event first headway n = ap (λ x. unwrap_or x last) (sym there ∙ is ∙ ap (λ b. if b then Some (run_event first headway n) else None) below) in
      let at : n ≡ count - 1 = omega (arith, all, before) in
      ap (λ e. e.at) same ∙ ap (λ i. (run_event first headway i).at) at ∙ sym (latest-runs first headway count up some)
  | inr past ↦ absurd (none (sym there ∙ is ∙ ap (λ b. if b then Some (run_event first headway n) else None) past))
]
  where
    none : Some last ≡ None → ⊥
    none h = cc

pub latest-none : (first : Event) (headway count n m : ℕ) (o : Option Event) → m ≡ count → n ≡ m - 1
    → o ≡ (if nat_lt n count then Some (run_event first headway n) else None) → o ≡ None → 0 ≡ latest_of (run_events first headway count)
latest-none first headway count n m o all before is there = elim (cases_Bool (nat_lt n count)) [
  | inl below ↦ absurd (some (sym there ∙ is ∙ ap (λ b. if b then Some (run_event first headway n) else None) below))
  | inr past ↦ let none : count ≡ 0 = omega (arith, all, before, ltb-false n count past) in no-runs first headway count none
]
  where
    some : None ≡ Some (run_event first headway n) → ⊥
    some h = cc

pub latest-listed : (es : List Event) (o : Option Event) (last : Event) → Ascends event_cmp es → o ≡ slice_get es (length es - 1) → o ≡ Some last → last.at ≡ latest_of es
latest-listed [] o last up is there = absurd (none (sym there ∙ is))
  where
    none : Some last ≡ None → ⊥
    none h = cc
latest-listed (e ∷ es) o last up is there =
    let at : slice_get (e ∷ es) (length (e ∷ es) - 1) ≡ Some last = sym is ∙ there in
    ap (λ x. x.at) (sym (get_or_from_slice_get (e ∷ es) (length (e ∷ es) - 1) last last at)) ∙ sym (latest-last (e ∷ es) last up (omega arith))

pub latest-unlisted : (es : List Event) (o : Option Event) → o ≡ slice_get es (length es - 1) → o ≡ None → 0 ≡ latest_of es
latest-unlisted [] o is there = refl
latest-unlisted (e ∷ es) o is there =
    let inside : length (e ∷ es) - 1 < length (e ∷ es) = omega arith in
    absurd (some (sym there ∙ is ∙ slice_get-get_or (e ∷ es) (length (e ∷ es) - 1) e inside))
  where
    some : None ≡ Some (get_or (e ∷ es) (length (e ∷ es) - 1) e) → ⊥
    some h = cc
