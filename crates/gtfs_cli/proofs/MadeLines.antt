-- Lines that are made of some things, one of each or one of the first of each kind.
use Rattle.std.proofs.Common.{◌≡◌, ◌∙◌, ap, sym, refl, ℕ, ◌+◌, ◌<◌, ◌≤◌, Bool, true, false, cond, ◌||◌, add-one, ◌++◌, List, [], ◌∷◌, length, map, take, get_or, Option, Some, None, arith}
use Rattle.std.specs.Prelude.{count_by}
use Rattle.std.specs.List.{enumerate_from, list_any}
use Rattle.std.proofs.Math.Seq.{take-suc}
use Rattle.std.proofs.lemmas.List.{get_or-map, length-map}
use Rattle.std.proofs.lemmas.List.Folds.{list_any-append}
use Rattle.std.proofs.lemmas.List.FromFn.{get_or-enumerate_from, length-enumerate_from}
use Rattle.gtfs_cli.specs.FirstOfEachKind.{first_of, firsts, if_counted}

module _ {Y X : Type 0} (f : Y → X) (ys : List Y) (i : ℕ) where
  abbrev all : List X
  all = map f ys

  pub within : i < length ys → i < length all
  within inside = omega (arith, inside, length-map ys f)

  pub lines-inside : (g : X → List ℕ) → i < length ys → i < length (map g all)
  lines-inside g inside = omega (arith, inside, length-map ys f, length-map all g)

  pub lines-end : (g : X → List ℕ) → length ys ≤ i → length (map g all) ≤ i
  lines-end g end = omega (arith, end, length-map ys f, length-map all g)

  module _ (is_alike : X → X → Bool) (line : X → Option ℕ → List ℕ) where
    many : length (firsts is_alike line all) ≡ length ys
    many = omega (arith, length-map ys f, length-enumerate_from 0 all, length-map (enumerate_from 0 all) (first_of is_alike line all))

    pub firsts-inside : i < length ys → i < length (firsts is_alike line all)
    firsts-inside inside = omega (arith, inside, many)

    pub firsts-end : length ys ≤ i → length (firsts is_alike line all) ≤ i
    firsts-end end = omega (arith, end, many)

  -- the thing at this place
  module _ (y d : Y) (is : y ≡ get_or ys i d) (inside : i < length ys) where
    pub found : (x : X) → get_or all i x ≡ f y
    found x = get_or-map f ys i d x inside ∙ ap f (sym is)

    -- its line is that at its place
    pub line-at : (g : X → List ℕ) → g (f y) ≡ get_or (map g all) i []
    line-at g = ap g (sym (found (f y))) ∙ sym (get_or-map g all i (f y) [] (within inside))

    module _ (is_alike : X → X → Bool) where
      -- whether one of a kind stands before the next place
      pub any-more : (q : X) → is_alike q (f y) ≡ is_alike (f y) q
          → list_any (is_alike q) (take (i + 1) all) ≡ cond (is_alike (f y) q) true (list_any (is_alike q) (take i all))
      any-more q turned =
          let parted : take (i + 1) all ≡ take i all ++ f y ∷ [] =
          ap (λ n. take n all) (add-one i) ∙ take-suc all i (f y) (within inside) ∙ ap (λ x. take i all ++ x ∷ []) (found (f y)) in
          ap (list_any (is_alike q)) parted ∙ list_any-append (is_alike q) (take i all) (f y ∷ [])
          ∙ ap (λ b. list_any (is_alike q) (take i all) || (b || false)) turned
          ∙ one-or (is_alike (f y) q) (list_any (is_alike q) (take i all))
        where
          one-or : (b any : Bool) → (any || (b || false)) ≡ cond b true any
          one-or true true = refl
          one-or true false = refl
          one-or false true = refl
          one-or false false = refl

      -- the line at its place is that of its kind where none stands before
      pub first-at : (line : X → Option ℕ → List ℕ) (count : Option ℕ)
          → count ≡ cond (list_any (is_alike (f y)) (take i all)) None (Some (count_by (is_alike (f y)) all))
          → if_counted (line (f y)) count ≡ get_or (firsts is_alike line all) i []
      first-at line count told =
          ap (if_counted (line (f y))) told ∙ by (list_any (is_alike (f y)) (take i all))
          ∙ ap (first_of is_alike line all) (sym (get_or-enumerate_from 0 all i (0, f y) (within inside) ∙ (λ k. (zero-first k, found (f y) k))))
          ∙ sym (get_or-map (first_of is_alike line all) (enumerate_from 0 all) i (0, f y) [] (omega (arith, within inside, length-enumerate_from 0 all)))
        where
          zero-first : 0 + i ≡ i
          zero-first = omega arith

          by : (any : Bool) → if_counted (line (f y)) (cond any None (Some (count_by (is_alike (f y)) all)))
              ≡ cond any [] (line (f y) (Some (count_by (is_alike (f y)) all)))
          by true = refl
          by false = refl
