-- Rows put into a map by their keys, the first row of each key staying.
use Rattle.std.proofs.Common.{◌≡◌, ◌<◌, ◌+◌, ◌∙◌, ◌++◌, ◌∷◌, [], ℕ, true, false, cond, List, Option, Some, None, map, is_some, refl, sym, ap, subst, take, get_or, length, append_assoc, add-one, arith}
use Rattle.std.proofs.Math.Seq.{take-suc}
use Rattle.std.specs.FinMap as table
use Rattle.std.specs.FinMap.Entries.{find_tied}
use Rattle.std.specs.Cmp.{IsTotalOrder}
use Rattle.std.specs.Map.{lookup}
use Rattle.std.specs.Ordering.{eq_by_cmp, is_eq, match_ordering}
use Rattle.std.specs.BTreeMap.{insert_entry}
use Rattle.std.specs.declared.cmp.Ordering.{Ordering}
use Rattle.std.specs.declared.cmp.Ordering.TheVariants.{Less, Equal, Greater}
use Rattle.std.proofs.lemmas.List.{map-append}
use Rattle.gtfs_field.proofs.OrderingFacts.{equal as is_tie}

module _ {K X : Type 0} (order : K → K → Ordering) where
  -- the map's words
  looked-up : (q : K) (es : List (K × X)) → lookup (λ k. is_eq (order q k)) es ≡ table.find order q es
  looked-up q [] = refl
  looked-up q (e ∷ es) = ap (cond (is_eq (order q e.0)) (Some e.1)) (looked-up q es)

  inserted : (k : K) (x : X) (es : List (K × X)) → insert_entry order es k x ≡ table.Entries.put order k x es
  inserted k x [] = refl
  inserted k x (e ∷ es) =
      elim (order k e.0) as (λ r. match_ordering r ((k, x) ∷ e ∷ es) ((e.0, x) ∷ es) (e ∷ insert_entry order es k x) ≡ table.Entries.by_order r ((k, x) ∷ e ∷ es) ((e.0, x) ∷ es) (e ∷ table.Entries.put order k x es)) [
        | Less ↦ refl
        | Equal ↦ refl
        | Greater ↦ ap (λ rest. e ∷ rest) (inserted k x es)
      ]

  -- what is found among the first entries is found among all
  found-first : (q : K) (es fs : List (K × X)) → is_some (table.find order q es) ≡ true → table.find order q (es ++ fs) ≡ table.find order q es
  found-first q [] fs there = cc there
  found-first q (e ∷ es) fs there = elim (eq_by_cmp order q e.0) as (λ b. is_some (cond b (Some e.1) (table.find order q es)) ≡ true → cond b (Some e.1) (table.find order q (es ++ fs)) ≡ cond b (Some e.1) (table.find order q es)) [
    | true ↦ λ h. refl
    | false ↦ λ h. found-first q es fs h
  ] there

  not-last : (q k : K) (x : X) (es : List (K × X)) → eq_by_cmp order q k ≡ false → table.find order q (es ++ (k, x) ∷ []) ≡ table.find order q es
  not-last q k x [] apart = ap (λ b. cond b (Some x) None) apart
  not-last q k x (e ∷ es) apart = ap (cond (eq_by_cmp order q e.0) (Some e.1)) (not-last q k x es apart)

  -- no rows make no entries
  no-entries : (es : List (K × X)) → length es ≡ 0 → es ≡ []
  no-entries [] e = refl
  no-entries (e ∷ es) none = absurd (omega arith)

  pub entries-none : (key : X → K) → table.entries (table.from_entries {R = order} (map (λ x. (key x, x)) [])) ≡ []
  entries-none key = no-entries _ (sym (table.len-entries (table.empty {X = X} {R = order})) ∙ table.len-empty order X)

  module _ (o : IsTotalOrder order) (antisymmetric : table.IsAntisymmetric order) (key : X → K) where
    abbrev keyed : List X → List (K × X)
    keyed xs = map (λ x. (key x, x)) xs

    -- the entries of these rows, the first row of each key staying
    abbrev pub entries_of : List X → List (K × X)
    entries_of xs = table.entries (table.from_entries {R = order} (keyed xs))

    found-in : (q : K) (xs : List X) → table.find order q (entries_of xs) ≡ table.find order q (keyed xs)
    found-in q xs = sym (table.get-entries (table.from_entries {R = order} (keyed xs)) q) ∙ table.get-from_entries o (keyed xs) q

    keyed-more : (xs : List X) (x : X) → keyed (xs ++ x ∷ []) ≡ keyed xs ++ (key x, x) ∷ []
    keyed-more xs x = map-append (λ x. (key x, x)) xs (x ∷ [])

    -- a row whose key is not there is put in
    pub put-new : (es : List (K × X)) (xs : List X) (x : X) → es ≡ entries_of xs → is_some (lookup (λ k. is_eq (order (key x) k)) es) ≡ false
        → insert_entry order es (key x) x ≡ entries_of (xs ++ x ∷ [])
    put-new es xs x is absent =
        let none = no-one (table.find order (key x) (keyed xs)) (ap is_some (sym (looked-up (key x) es ∙ ap (table.find order (key x)) is ∙ found-in (key x) xs)) ∙ absent) in
        inserted (key x) x es ∙ ap (table.Entries.put order (key x) x) is
        ∙ sym (table.entries-insert o (table.from_entries {R = order} (keyed xs)) (key x) x)
        ∙ sym (ap table.entries (ap (λ l. table.from_entries {R = order} l) (keyed-more xs x) ∙ table.from_entries_push o antisymmetric (keyed xs) (key x) x none))
      where
        no-one : (r : Option X) → is_some r ≡ false → r ≡ None
        no-one None e = refl
        no-one (Some x) e = cc e

    -- a row whose key is there is left out
    pub left-out : (es : List (K × X)) (xs : List X) (x : X) → es ≡ entries_of xs → is_some (lookup (λ k. is_eq (order (key x) k)) es) ≡ true
        → es ≡ entries_of (xs ++ x ∷ [])
    left-out es xs x is present =
        let there : is_some (table.find order (key x) (keyed xs)) ≡ true = ap is_some (sym (looked-up (key x) es ∙ ap (table.find order (key x)) is ∙ found-in (key x) xs)) ∙ present in
        is ∙ ap table.entries (table.same_map o antisymmetric _ _ (λ q. table.get-from_entries o (keyed xs) q ∙ same q there ∙ sym (table.get-from_entries o (keyed (xs ++ x ∷ [])) q)))
      where
        same : (q : K) → is_some (table.find order (key x) (keyed xs)) ≡ true → table.find order q (keyed xs) ≡ table.find order q (keyed (xs ++ x ∷ []))
        same q there =
            elim (eq_by_cmp order q (key x)) as (λ b. eq_by_cmp order q (key x) ≡ b → table.find order q (keyed xs) ≡ table.find order q (keyed (xs ++ x ∷ []))) [
              | true ↦ λ tie. sym (ap (table.find order q) (keyed-more xs x)
                  ∙ found-first q (keyed xs) ((key x, x) ∷ []) (sym (ap is_some (find_tied order o q (key x) (is_tie _ tie) (keyed xs))) ∙ there))
              | false ↦ λ apart. sym (ap (table.find order q) (keyed-more xs x) ∙ not-last q (key x) x (keyed xs) apart)
            ] refl

    -- ---- a loop over rows that a function gives

    one-more : {A : Type 0} (f : A → X) (ts : List A) (n : ℕ) (d : A) (xs : List X) → n < length ts → (xs ++ map f (take n ts)) ++ f (get_or ts n d) ∷ [] ≡ xs ++ map f (take (n + 1) ts)
    one-more f ts n d xs within =
        append_assoc xs (map f (take n ts)) (f (get_or ts n d) ∷ [])
        ∙ ap (λ ys. xs ++ ys) (sym (map-append f (take n ts) (get_or ts n d ∷ [])) ∙ ap (map f) (sym (ap (λ m. take m ts) (add-one n) ∙ take-suc ts n d within)))

    pub turn-new : {A : Type 0} (f : A → X) (ts : List A) (n : ℕ) (d : A) (xs : List X) (es : List (K × X)) (k : K) (x : X) → n < length ts → x ≡ f (get_or ts n d) → k ≡ key x
        → es ≡ entries_of (xs ++ map f (take n ts)) → is_some (lookup (λ j. is_eq (order k j)) es) ≡ false → insert_entry order es k x ≡ entries_of (xs ++ map f (take (n + 1) ts))
    turn-new f ts n d xs es k x within row own is absent =
        ap (λ j. insert_entry order es j x) own
        ∙ put-new es (xs ++ map f (take n ts)) x is (subst (λ j. is_some (lookup (λ i. is_eq (order j i)) es) ≡ false) own absent)
        ∙ ap entries_of (ap (λ r. (xs ++ map f (take n ts)) ++ r ∷ []) row ∙ one-more f ts n d xs within)

    pub turn-old : {A : Type 0} (f : A → X) (ts : List A) (n : ℕ) (d : A) (xs : List X) (es : List (K × X)) (k : K) (x : X) → n < length ts → x ≡ f (get_or ts n d) → k ≡ key x
        → es ≡ entries_of (xs ++ map f (take n ts)) → is_some (lookup (λ j. is_eq (order k j)) es) ≡ true → es ≡ entries_of (xs ++ map f (take (n + 1) ts))
    turn-old f ts n d xs es k x within row own is present =
        left-out es (xs ++ map f (take n ts)) x is (subst (λ j. is_some (lookup (λ i. is_eq (order j i)) es) ≡ true) own present)
        ∙ ap entries_of (ap (λ r. (xs ++ map f (take n ts)) ++ r ∷ []) row ∙ one-more f ts n d xs within)
