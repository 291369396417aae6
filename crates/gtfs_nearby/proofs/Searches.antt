-- The least number of stops of a run inside an area: of one stop, of a node, of one run and then of another.
use Rattle.std.proofs.Common.{◌≡◌, ◌≤◌, ◌<◌, ◌+◌, ◌-◌, ◌∙◌, ◌⊎◌, inl, inr, ℕ, true, List, refl, sym, ap, subst, arith, length, get_or, min, max}
use Rattle.std.proofs.lemmas.List.{get_or_default}
use Rattle.gtfs_nearby.specs.MapAreas.{has}
use Rattle.gtfs_nearby.specs.AreaTree.{IsTree, reach, shared}
use Rattle.gtfs_nearby.specs.TreeSearch.{IsLeastOfRun}
use Rattle.gtfs_nearby.specs.declared.area.Area.{Area}
use Rattle.gtfs_nearby.specs.declared.listed.Listed.{Listed}
use Rattle.gtfs_nearby.specs.declared.run.Run.{Run}
use Rattle.gtfs_nearby.specs.declared.tree.Node.{Node}
use Rattle.gtfs_nearby.specs.declared.tree.TheConstants.{LEAF}
use Rattle.gtfs_nearby.proofs.Blocks.{alone, stops}
use Rattle.gtfs_nearby.proofs.Trees.{reach-after}

-- no stop of the run is both inside and lower
pub least-kept : (area : Area) (xs : List Listed) (run : Run) (below : ℕ) → ((k : ℕ) (d : Listed) → run.from ≤ k → k < run.until → has area (get_or xs k d).place ≡ true → below ≤ (get_or xs k d).number)
    → IsLeastOfRun area xs run below below
least-kept area xs run below high = record { bound = omega arith; each = high; one = λ h. absurd (omega arith) }

-- a run, and then another
least-both : (area : Area) (xs : List Listed) (p q r : Run) (below a b : ℕ) → ((k : ℕ) → r.from ≤ k → k < r.until → ((p.from ≤ k) × (k < p.until)) ⊎ ((q.from ≤ k) × (k < q.until)))
    → ((k : ℕ) → p.from ≤ k → k < p.until → (r.from ≤ k) × (k < r.until)) → ((k : ℕ) → q.from ≤ k → k < q.until → (r.from ≤ k) × (k < r.until))
    → IsLeastOfRun area xs p below a → IsLeastOfRun area xs q a b → IsLeastOfRun area xs r below b
least-both area xs p q r below a b sides in_p in_q first second = record {
  bound = omega (arith, first.bound, second.bound);
  each = λ k d low high inside. elim (sides k low high) as (λ w. b ≤ (get_or xs k d).number) [
    | inl l ↦ omega (arith, second.bound, first.each k d l.0 l.1 inside)
    | inr l ↦ second.each k d l.0 l.1 inside
  ];
  one = λ h. elim lower as (λ w. (k : ℕ) × (r.from ≤ k) × (k < r.until) × ((d : Listed) → (has area (get_or xs k d).place ≡ true) × ((get_or xs k d).number ≡ b))) [
    | inl l ↦
        let it = second.one l in
        let within = in_q it.0 it.1 it.2 in
        (it.0, within.0, within.1, it.3)
    | inr e ↦
        let it = first.one (omega (arith, e, h)) in
        let within = in_p it.0 it.1 it.2 in
        (it.0, within.0, within.1, λ d. ((it.3 d).0, (it.3 d).1 ∙ sym e))
  ];
}
  where
    lower : (b < a) ⊎ (b ≡ a)
    lower = let up = second.bound in grind arith

-- ---- by a look at each

module _ (area : Area) (xs : List Listed) (n until old : ℕ) (d : Listed) (within : n < length xs) (next : until ≡ n + 1) where
  pub one-lower : (new : ℕ) → (get_or xs n d).number < old → has area (get_or xs n d).place ≡ true → new ≡ (get_or xs n d).number → IsLeastOfRun area xs (stops n until) old new
  one-lower new lower inside is = subst (IsLeastOfRun area xs (stops n until) old) (sym is) (record {
    bound = omega arith;
    each = λ k e from before has_it. subst (λ x. (get_or xs n d).number ≤ x.number) (alone xs n k d e within from (omega (arith, before, next))) (omega arith);
    one = λ h. (n, omega arith, omega (arith, next), λ e. subst (λ x. (has area x.place ≡ true) × (x.number ≡ (get_or xs n d).number)) (get_or_default xs n d e within) (inside, refl));
  })

  pub one-kept : (new : ℕ) → new ≡ old → (has area (get_or xs n d).place ≡ true → old ≤ (get_or xs n d).number) → IsLeastOfRun area xs (stops n until) old new
  one-kept new is high = subst (IsLeastOfRun area xs (stops n until) old) (sym is) (least-kept area xs (stops n until) old (λ k e from before.
      subst (λ x. has area x.place ≡ true → old ≤ x.number) (alone xs n k d e within from (omega (arith, before, next))) high))

pub run-none : (area : Area) (xs : List Listed) (run : Run) (below : ℕ) → run.until ≤ run.from → IsLeastOfRun area xs run below below
run-none area xs run below none = least-kept area xs run below (λ k d from before. absurd (omega (arith, from, before)))

-- one stop more
pub run-more : (area : Area) (xs : List Listed) (from middle n until m below a b : ℕ) → middle ≡ n → m ≡ n + 1 → until ≡ n + 1 → from ≤ n → IsLeastOfRun area xs (stops from middle) below a → IsLeastOfRun area xs (stops n m) a b
    → IsLeastOfRun area xs (stops from until) below b
run-more area xs from middle n until m below a b same next last order first second =
    least-both area xs (stops from middle) (stops n m) (stops from until) below a b
    (λ k low high. sides k low high) (λ k low high. (low, omega (arith, high))) (λ k low high. (omega (arith, low), omega (arith, high))) first second
  where
    sides : (k : ℕ) → from ≤ k → k < until → ((from ≤ k) × (k < middle)) ⊎ ((n ≤ k) × (k < m))
    sides k low high = elim (halves k) as (λ w. ((from ≤ k) × (k < middle)) ⊎ ((n ≤ k) × (k < m))) [ inl l ↦ inl (low, omega (arith, l)) | inr l ↦ inr (l, omega (arith, high)) ]
      where
        halves : (k : ℕ) → (k < n) ⊎ (n ≤ k)
        halves k = grind arith

-- ---- node after node

-- what is left of a run from where so many nodes reach
abbrev pub after : Run → ℕ → Run
after run reached = record { from = max run.from reached; until = run.until }

-- the stops of one node more
after-more : (area : Area) (xs : List Listed) (run s : Run) (below a b : ℕ) → s.from ≤ s.until → IsLeastOfRun area xs (after run s.until) below a → IsLeastOfRun area xs (shared run s) a b → IsLeastOfRun area xs (after run s.from) below b
after-more area xs run s below a b order first second =
    least-both area xs (after run s.until) (shared run s) (after run s.from) below a b
    (λ k low high. sides k low high) (λ k low high. (omega (arith, low), high)) (λ k low high. (low, omega (arith, high))) first second
  where
    sides : (k : ℕ) → max run.from s.from ≤ k → k < run.until → ((max run.from s.until ≤ k) × (k < run.until)) ⊎ ((max run.from s.from ≤ k) × (k < min run.until s.until))
    sides k low high = elim (halves k) as (λ w. ((max run.from s.until ≤ k) × (k < run.until)) ⊎ ((max run.from s.from ≤ k) × (k < min run.until s.until))) [
      | inl l ↦ inr (low, omega (arith, l, high))
      | inr l ↦ inl (omega (arith, l, low), high)
    ]
      where
        halves : (k : ℕ) → (k < s.until) ⊎ (s.until ≤ k)
        halves k = grind arith

module _ (area : Area) (xs : List Listed) (ns : List Node) (tree : IsTree xs (length xs) ns) (run : Run) (below : ℕ) where
  pub after-none : run.until ≤ length xs → IsLeastOfRun area xs (after run (reach ns (length ns))) below below
  after-none within = run-none area xs (after run (reach ns (length ns))) below (omega (arith, within, tree.all))

  -- a node that told
  pub after-told : (k left a b : ℕ) (d : Node) → k < length ns → left ≡ k + 1 → IsLeastOfRun area xs (after run (reach ns left)) below a → IsLeastOfRun area xs (shared run (get_or ns k d).stops) a b
      → IsLeastOfRun area xs (after run (reach ns (get_or ns k d).first)) below b
  after-told k left a b d within next first second =
      let node = tree.nodes k d within in
      let one = node.block.one in
      subst (λ m. IsLeastOfRun area xs (after run m) below b) (sym node.from)
      (after-more area xs run (get_or ns k d).stops below a b (omega (arith, one.1, one.2))
      (subst (λ m. IsLeastOfRun area xs (after run m) below a) (reach-after ns k left d within next) first) second)

  pub first-within : (k : ℕ) (d : Node) → k < length ns → (get_or ns k d).first ≤ length ns
  first-within k d within = let first = (tree.nodes k d within).first in omega arith

  -- one whose parts come next
  pub after-open : (k left a : ℕ) (d : Node) → k < length ns → left ≡ k + 1 → LEAF < (get_or ns k d).stops.until - (get_or ns k d).stops.from → IsLeastOfRun area xs (after run (reach ns left)) below a
      → IsLeastOfRun area xs (after run (reach ns k)) below a
  after-open k left a d within next more first =
      subst (λ m. IsLeastOfRun area xs (after run m) below a) (reach-after ns k left d within next ∙ sym ((tree.nodes k d within).parts more)) first

  pub after-all : (left a : ℕ) → left ≤ 0 → IsLeastOfRun area xs (after run (reach ns left)) below a → IsLeastOfRun area xs run below a
  after-all left a none least =
      let start : left ≡ 0 = omega arith in
      let from : max run.from (reach ns left) ≡ run.from = ap (λ k. max run.from (reach ns k)) start ∙ omega arith in
      subst (λ m. IsLeastOfRun area xs (stops m run.until) below a) from least
