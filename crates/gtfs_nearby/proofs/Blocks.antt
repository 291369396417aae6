-- Blocks of listed stops: of one, and of two runs that stand one after the other.
use Rattle.std.proofs.Common.{◌≡◌, ◌≤◌, ◌<◌, ◌+◌, ◌∙◌, ◌⊎◌, inl, inr, ℕ, true, List, sym, ap, subst, arith, length, get_or, min}
use Rattle.std.proofs.lemmas.List.{get_or_default}
use Rattle.gtfs_nearby.specs.MapAreas.{has}
use Rattle.gtfs_nearby.specs.AreaTree.{IsBlock, block_joined, block_of_one}
use Rattle.gtfs_nearby.specs.declared.block.Block.{Block}
use Rattle.gtfs_nearby.specs.declared.listed.Listed.{Listed}
use Rattle.gtfs_nearby.specs.declared.run.Run.{Run}
use Rattle.gtfs_nearby.proofs.Areas.{area_of-has, joined-has_first, joined-has_second}

-- the stops from one index to before another
abbrev pub stops : ℕ → ℕ → Run
stops from until = record { from = from; until = until }

-- the stop at one index
pub alone : (xs : List Listed) (n k : ℕ) (d e : Listed) → n < length xs → n ≤ k → k < n + 1 → get_or xs n d ≡ get_or xs k e
alone xs n k d e within from until =
    let same : n ≡ k = omega arith in
    get_or_default xs n d e within ∙ ap (λ j. get_or xs j e) same

pub block-one : (xs : List Listed) (n until : ℕ) (d : Listed) (b : Block) → n < length xs → until ≡ n + 1 → b ≡ block_of_one (get_or xs n d) → IsBlock xs (stops n until) b
block-one xs n until d b within next is = subst (IsBlock xs (stops n until)) (sym is) (record {
  area = λ k e from before. subst (λ x. has (block_of_one (get_or xs n d)).area x.place ≡ true) (alone xs n k d e within from (omega (arith, before, next))) (area_of-has (get_or xs n d).place);
  least = λ k e from before. subst (λ x. (get_or xs n d).number ≤ x.number) (alone xs n k d e within from (omega (arith, before, next))) (omega arith);
  one = (n, omega arith, omega (arith, next), λ e. ap (λ x. x.number) (get_or_default xs n e d within));
})

least-of : (a b : ℕ) → (min a b ≡ a) ⊎ (min a b ≡ b)
least-of a b = grind arith

pub block-joined : (xs : List Listed) (from middle until : ℕ) (a b c : Block) → c ≡ block_joined a b → IsBlock xs (stops from middle) a → IsBlock xs (stops middle until) b → IsBlock xs (stops from until) c
block-joined xs from middle until a b c is first second = subst (IsBlock xs (stops from until)) (sym is) (record {
  area = λ k d low high. elim (sides k) as (λ w. has (block_joined a b).area (get_or xs k d).place ≡ true) [
    | inl l ↦ joined-has_first a.area b.area (get_or xs k d).place (first.area k d low l)
    | inr r ↦ joined-has_second a.area b.area (get_or xs k d).place (second.area k d r high)
  ];
  least = λ k d low high. elim (sides k) as (λ w. min a.least b.least ≤ (get_or xs k d).number) [
    | inl l ↦ omega (arith, first.least k d low l)
    | inr r ↦ omega (arith, second.least k d r high)
  ];
  one = elim (least-of a.least b.least) as (λ w. (k : ℕ) × (from ≤ k) × (k < until) × ((d : Listed) → (get_or xs k d).number ≡ min a.least b.least)) [
    | inl e ↦ (first.one.0, first.one.1, omega (arith, first.one.2, second.one.1, second.one.2), λ d. first.one.3 d ∙ sym e)
    | inr e ↦ (second.one.0, omega (arith, first.one.1, first.one.2, second.one.1), second.one.2, λ d. second.one.3 d ∙ sym e)
  ];
})
  where
    sides : (k : ℕ) → (k < middle) ⊎ (middle ≤ k)
    sides k = grind arith
