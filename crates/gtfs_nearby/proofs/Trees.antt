-- Trees of nodes: how far the first nodes reach, and one node more.
use Rattle.std.proofs.Common.{◌≡◌, ◌≤◌, ◌<◌, ◌+◌, ◌-◌, ◌∙◌, ◌++◌, ◌∷◌, [], ◌⊎◌, inl, inr, ℕ, suc, List, refl, sym, ap, subst, arith, length, get_or, map}
use Rattle.std.proofs.lemmas.List.{get_or-map, get_or_append_left, length-append, length-map, map-append}
use Rattle.std.proofs.Math.Seq.{get_or-append_seam}
use Rattle.gtfs_nearby.specs.AreaTree.{AreEven, IsBlock, IsNode, IsTree, last_but_one, last_of, node_joined, reach}
use Rattle.gtfs_nearby.specs.declared.block.Block.{Block}
use Rattle.gtfs_nearby.specs.declared.listed.Listed.{Listed}
use Rattle.gtfs_nearby.specs.declared.run.Run.{Run}
use Rattle.gtfs_nearby.specs.declared.tree.Node.{Node}
use Rattle.gtfs_nearby.specs.declared.tree.TheConstants.{LEAF}
use Rattle.gtfs_nearby.proofs.Blocks.{block-joined}

-- ---- how far the first nodes reach

abbrev pub ends : List Node → List ℕ
ends ns = map (λ n. n.stops.until) ns

pub reach-after : (ns : List Node) (k m : ℕ) (d : Node) → k < length ns → m ≡ k + 1 → reach ns m ≡ (get_or ns k d).stops.until
reach-after ns k m d within next =
    let same : m ≡ suc k = omega arith in
    ap (λ j. reach ns j) same ∙ get_or-map (λ (n : Node). n.stops.until) ns k d 0 within

reach-kept : (ns : List Node) (n : Node) (k : ℕ) → k ≤ length ns → reach (ns ++ n ∷ []) k ≡ reach ns k
reach-kept ns n k within =
    ap (λ l. get_or (0 ∷ l) k 0) (map-append (λ (m : Node). m.stops.until) ns (n ∷ []))
    ∙ get_or_append_left (0 ∷ ends ns) (ends (n ∷ [])) 0 k (omega (arith, length-map ns (λ m. m.stops.until)))

-- ---- one node more

length-more : (ns : List Node) (n : Node) → length (ns ++ n ∷ []) ≡ length ns + 1
length-more ns n = length-append ns (n ∷ [])

node-kept : (xs : List Listed) (ns : List Node) (n m : Node) (k : ℕ) → k ≤ length ns → IsNode xs ns k m → IsNode xs (ns ++ n ∷ []) k m
node-kept xs ns n m k within node =
    let first = node.first in
    record {
      first = first;
      from = reach-kept ns n m.first (omega arith) ∙ node.from;
      parts = λ more. reach-kept ns n k within ∙ node.parts more;
      within = node.within;
      block = node.block;
    }

tree-more : (xs : List Listed) (count until : ℕ) (ns new : List Node) (n : Node) → new ≡ ns ++ n ∷ [] → n.stops.until ≡ until → IsNode xs ns (length ns) n → IsTree xs count ns → IsTree xs until new
tree-more xs count until ns new n pushed last node tree = subst (IsTree xs until) (sym pushed) (record {
  all = reach-after (ns ++ n ∷ []) (length ns) (length (ns ++ n ∷ [])) n (omega (arith, length-more ns n)) (length-more ns n) ∙ ap (λ m. m.stops.until) (get_or-append_seam ns n [] n) ∙ last;
  nodes = λ k d h. elim (cases k (omega (arith, h, length-more ns n))) as (λ w. IsNode xs (ns ++ n ∷ []) k (get_or (ns ++ n ∷ []) k d)) [
    | inl l ↦ subst (IsNode xs (ns ++ n ∷ []) k) (sym (get_or_append_left ns (n ∷ []) d k l)) (node-kept xs ns n (get_or ns k d) k (omega arith) (tree.nodes k d l))
    | inr e ↦ subst (IsNode xs (ns ++ n ∷ []) k) (sym (ap (λ j. get_or (ns ++ n ∷ []) j d) e ∙ get_or-append_seam ns n [] d))
        (subst (λ j. IsNode xs (ns ++ n ∷ []) j n) (sym e) (node-kept xs ns n n (length ns) (omega arith) node))
  ];
})
  where
    cases : (k : ℕ) → k < length ns + 1 → (k < length ns) ⊎ (k ≡ length ns)
    cases k h = grind arith

-- a leaf of the next stops
pub tree-leaf : (xs : List Listed) (ns new : List Node) (s : Run) (b : Block) (f : ℕ) → f ≡ length ns → new ≡ ns ++ record { block = b; stops = s; first = f } ∷ [] → s.until ≤ s.from + LEAF → s.until ≤ length xs
    → IsBlock xs s b → IsTree xs s.from ns → IsTree xs s.until new
tree-leaf xs ns new s b f here pushed few within block tree = tree-more xs s.from s.until ns new (record { block = b; stops = s; first = f }) pushed refl
    (record { first = omega arith; from = ap (λ j. reach ns j) here ∙ tree.all; parts = λ more. absurd (omega arith); within = within; block = block }) tree

-- the last node that is no part begins later, the longer the tree
abbrev pub latest : List Node → ℕ
latest ns = get_or (map (λ n. n.stops.from) ns) (length ns - 1) 0

latest-is : (ns : List Node) (k : ℕ) (d : Node) → length ns ≡ k + 1 → latest ns ≡ (get_or ns k d).stops.from
latest-is ns k d all =
    let last : length ns - 1 ≡ k = omega arith in
    ap (λ j. get_or (map (λ (n : Node). n.stops.from) ns) j 0) last ∙ get_or-map (λ (n : Node). n.stops.from) ns k d 0 (omega arith)

-- a node of which the last two are the parts
module _ (xs : List Listed) (count : ℕ) (ns new : List Node) (n : Node) (pushed : new ≡ ns ++ n ∷ []) (even : AreEven ns) (is : (d : Node) → n ≡ node_joined (last_but_one ns d) (last_of ns d)) (tree : IsTree xs count ns) where
  next : Node
  next = get_or ns (length ns - 1) n

  node : Node
  node = get_or ns ((get_or ns (length ns - 1) n).first - 1) n

  next-is : IsNode xs ns (length ns - 1) next
  unfolding next
  next-is = let some = even.some in tree.nodes (length ns - 1) n (omega arith)

  node-is : IsNode xs ns (next.first - 1) node
  unfolding next node
  node-is = let before = even.before n in tree.nodes (next.first - 1) n (omega arith)

  touching : node.stops.until ≡ next.stops.from
  unfolding next node
  touching =
      let before = even.before n in
      sym (reach-after ns (next.first - 1) next.first n (omega arith) (omega arith)) ∙ next-is.from

  ending : reach ns (length ns) ≡ next.stops.until
  unfolding next
  ending = let some = even.some in reach-after ns (length ns - 1) (length ns) n (omega arith) (omega arith)

  joined-is : IsNode xs ns (length ns) (node_joined node next)
  unfolding next node
  joined-is =
      let before = even.before n in
      let first = node-is.first in
      record {
        first = omega arith;
        from = node-is.from;
        parts = λ more. ending;
        within = next-is.within;
        block = block-joined xs node.stops.from node.stops.until next.stops.until node.block next.block _ refl node-is.block
            (subst (λ m. IsBlock xs (record { from = m; until = next.stops.until }) next.block) (sym touching) next-is.block);
      }

  same : n ≡ node_joined node next
  unfolding next node
  same = is n

  pub tree-joined : IsTree xs count new
  tree-joined = tree-more xs count count ns new n pushed (ap (λ m. m.stops.until) same ∙ sym ending ∙ tree.all) (subst (IsNode xs ns (length ns)) (sym same) joined-is) tree

  pub joined-earlier : latest new < latest ns
  unfolding next node
  joined-earlier =
      let some = even.some in
      let old : latest ns ≡ next.stops.from = latest-is ns (length ns - 1) n (omega arith) in
      let pushed-is : latest (ns ++ n ∷ []) ≡ n.stops.from = latest-is (ns ++ n ∷ []) (length ns) n (length-more ns n) ∙ ap (λ m. m.stops.from) (get_or-append_seam ns n [] n) in
      let now : latest new ≡ n.stops.from = ap latest pushed ∙ pushed-is in
      let from : n.stops.from ≡ node.stops.from = ap (λ m. m.stops.from) same in
      let one = node-is.block.one in
      omega (arith, old, now, from, touching, one.1, one.2)
