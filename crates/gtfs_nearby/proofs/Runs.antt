-- Stops of one group stand one after the other.
use Rattle.std.proofs.Common.{◌≡◌, ◌≤◌, ◌<◌, ◌∙◌, ℕ, Bool, true, false, List, refl, sym, ap, subst, arith, length, get_or, ltb, leb, true≢false, inl, inr, ◌⊎◌}
use Rattle.std.specs.Cmp.{IsTotalOrder, nat_cmp_total, on_total, then_total}
use Rattle.std.specs.List.Sorted.{IsPartitionPoint, IsPartitionedBy, IsNonDecreasingBy, IsSorted}
use Rattle.std.specs.Ordering.{is_le, is_lt, ordering_index, ordering_then}
use Rattle.std.specs.declared.cmp.Ordering.{Ordering}
use Rattle.std.specs.declared.cmp.Ordering.TheVariants.{Less, Equal, Greater}
use Rattle.std.proofs.lemmas.List.Sorted.{IsPartitionedBy-leb, IsPartitionedBy-ltb, searchable_from_sorted}
use Rattle.gtfs_field.proofs.ListFacts.{some_of}
use Rattle.gtfs_nearby.specs.AreaTree.{IsRun, listed_cmp}
use Rattle.gtfs_nearby.specs.PlacedStops.{group_cmp}
use Rattle.gtfs_nearby.specs.declared.listed.Listed.{Listed}
use Rattle.gtfs_nearby.specs.declared.placed_stop.PlacedStop.{PlacedStop}
use Rattle.gtfs_nearby.proofs.Places.{group_total}

abbrev pub is_before : PlacedStop → Listed → Bool
is_before p x = is_lt (group_cmp x.place p)

abbrev pub is_up_to : PlacedStop → Listed → Bool
is_up_to p x = is_le (group_cmp x.place p)

pub listed_total : IsTotalOrder listed_cmp
listed_total = then_total (on_total (λ (x : Listed). x.place) group_total) (on_total (λ (x : Listed). x.order) nat_cmp_total)

first-by : (r s : Ordering) → is_lt (ordering_then r s) ≡ false → is_lt r ≡ false
first-by Less s e = e
first-by Equal s e = refl
first-by Greater s e = refl

by-group : (xs : List Listed) → IsSorted listed_cmp xs → IsSorted (λ x y. group_cmp x.place y.place) xs
by-group xs up k d low high = first-by _ _ (up k d low high)

ranks : (p : PlacedStop) (xs : List Listed) → IsSorted listed_cmp xs → IsNonDecreasingBy (λ x. ordering_index (group_cmp x.place p)) xs
ranks p xs up = searchable_from_sorted group_total (λ x. x.place) xs p (by-group xs up)

lt-index : (o : Ordering) → ltb (ordering_index o) 1 ≡ is_lt o
lt-index Less = refl
lt-index Equal = refl
lt-index Greater = refl

le-index : (o : Ordering) → leb (ordering_index o) 1 ≡ is_le o
le-index Less = refl
le-index Equal = refl
le-index Greater = refl

pub before-parted : (p : PlacedStop) (xs : List Listed) → IsSorted listed_cmp xs → IsPartitionedBy (is_before p) xs
before-parted p xs up = subst (λ t. IsPartitionedBy t xs) (λ i x. lt-index (group_cmp x.place p) i) (IsPartitionedBy-ltb (λ x. ordering_index (group_cmp x.place p)) xs 1 (ranks p xs up))

pub up_to-parted : (p : PlacedStop) (xs : List Listed) → IsSorted listed_cmp xs → IsPartitionedBy (is_up_to p) xs
up_to-parted p xs up = subst (λ t. IsPartitionedBy t xs) (λ i x. le-index (group_cmp x.place p) i) (IsPartitionedBy-leb (λ x. ordering_index (group_cmp x.place p)) xs 1 (ranks p xs up))

both-sides : (o : Ordering) → is_lt o ≡ true → is_le o ≡ false → ⊥
both-sides Less e f = true≢false f
both-sides Equal e f = true≢false (sym e)
both-sides Greater e f = true≢false (sym e)

le-or-lt : (a b : ℕ) → (a ≤ b) ⊎ (b < a)
le-or-lt a b = grind arith

tied : (o : Ordering) → is_lt o ≡ false → is_le o ≡ true → o ≡ Equal
tied Less e f = absurd (true≢false e)
tied Equal e f = refl
tied Greater e f = absurd (true≢false (sym f))

module _ (p : PlacedStop) (xs : List Listed) (from until : ℕ) (from_within : from ≤ length xs) (until_within : until ≤ length xs)
    (first : IsPartitionPoint (λ x. is_before p x ≡ true) (λ x. is_before p x ≡ false) xs from)
    (last : IsPartitionPoint (λ x. is_up_to p x ≡ true) (λ x. is_up_to p x ≡ false) xs until) where
  pub run-is : IsRun xs p (record { from = from; until = until })
  run-is = record {
    order = order;
    within = until_within;
    inside = λ k d h l. tied _ (first.1 k d h (omega (arith, l, until_within))) (last.0 k d (omega arith) l);
    all = λ k d h e. (after_from k d h e, before_until k d h e);
  }
    where
      order : from ≤ until
      order = elim (le-or-lt from until) as (λ w. from ≤ until) [
        | inl h ↦ h
        | inr h ↦ absurd (both-sides (group_cmp (get_or xs until (some_of xs until (omega (arith, h, from_within)))).place p)
            (first.0 until (some_of xs until (omega (arith, h, from_within))) (omega arith) h)
            (last.1 until (some_of xs until (omega (arith, h, from_within))) (omega arith) (omega (arith, h, from_within))))
      ]

      after_from : (k : ℕ) (d : Listed) → k < length xs → group_cmp (get_or xs k d).place p ≡ Equal → from ≤ k
      after_from k d h e = elim (le-or-lt from k) as (λ w. from ≤ k) [
        | inl l ↦ l
        | inr l ↦ absurd (true≢false (sym (first.0 k d (omega arith) l) ∙ ap is_lt e))
      ]

      before_until : (k : ℕ) (d : Listed) → k < length xs → group_cmp (get_or xs k d).place p ≡ Equal → k < until
      before_until k d h e = elim (le-or-lt until k) as (λ w. k < until) [
        | inl l ↦ absurd (true≢false (sym (ap is_le e) ∙ last.1 k d l h))
        | inr l ↦ l
      ]
