-- Rows by their ids: look-ups in a list of rows, and in rows that stand by id.
use Rattle.std.proofs.Common.{◌≡◌, ℕ, Bool, true, false, cond, T, List, [], ◌∷◌, Some, None, Option, Less, Equal, Greater, Ordering, refl, sym, ap, ◌∙◌, subst, inl, inr, arith, length, map, bytes_eq, find, option_map, is_some}
use Rattle.std.specs.Prelude.{◌&&◌, ◌||◌}
use Rattle.std.specs.List.{list_any}
use Rattle.std.specs.Ordering.{is_lt, is_eq, eq_by_cmp}
use Rattle.std.specs.Cmp.Lexicographic.{nat_list_cmp_total, texts_ties, bytes_decides}
use Rattle.std.specs.FinMap as table
use Rattle.std.proofs.lemmas.Bool.{and_parts, or_cases, or_left, or_right, true≢false, false_from_ne_true}
use Rattle.std.proofs.lemmas.Option.{same_Some as Some-same}
use Rattle.std.proofs.Math.Bool.{or-false}
use Rattle.gtfs_field.specs.TextOrder.{text_cmp}
use Rattle.gtfs_schema.proofs.SiteFacts.{text_is as same_bytes}
use Rattle.gtfs_schema.proofs.NamedFacts.{text_turned as bytes_flip}
use Rattle.gtfs_rows.proofs.Members.{In}
use Rattle.gtfs_merge.specs.Merged.{by_id}

-- ---- texts

pub bytes_same : (x y : List ℕ) → x ≡ y → bytes_eq x y ≡ true
bytes_same x y e = (bytes_decides x y).1 e

-- ---- membership

-- an element that passes a test
pub list_any-In : {X : Type 0} (p : X → Bool) (xs : List X) → list_any p xs ≡ true → (x : X) × In x xs × (p x ≡ true)
list_any-In p [] e = absurd (true≢false (sym e))
list_any-In {X = X} p (x ∷ xs) e =
    elim (or_cases (p x) (list_any p xs) e) as (λ w. (y : X) × In y (x ∷ xs) × (p y ≡ true)) [
      | inl h ↦ (x, inl refl, h)
      | inr h ↦ let r = list_any-In p xs h in (r.0, inr r.1, r.2)
    ]

pub In-list_any : {X : Type 0} (p : X → Bool) (xs : List X) (x : X) → In x xs → p x ≡ true → list_any p xs ≡ true
In-list_any p [] x i h = elim i [ ]
In-list_any p (y ∷ ys) x (inl e) h = or_left _ _ (ap p e ∙ h)
In-list_any p (y ∷ ys) x (inr i) h = or_right _ _ (In-list_any p ys x i h)

-- tests that agree at each element
pub list_any-alike : {X : Type 0} (p q : X → Bool) (xs : List X) → ((x : X) → In x xs → p x ≡ q x) → list_any p xs ≡ list_any q xs
list_any-alike p q [] h = refl
list_any-alike p q (x ∷ xs) h = λ i. h x (inl refl) i || list_any-alike p q xs (λ y k. h y (inr k)) i

pub find-alike : {X : Type 0} (p q : X → Bool) (xs : List X) → ((x : X) → In x xs → p x ≡ q x) → find p xs ≡ find q xs
find-alike p q [] h = refl
find-alike p q (x ∷ xs) h = λ i. cond (h x (inl refl) i) (Some x) (find-alike p q xs (λ y k. h y (inr k)) i)

pub find-map : {X Y : Type 0} (p : Y → Bool) (f : X → Y) (xs : List X) → find p (map f xs) ≡ option_map f (find (λ x. p (f x)) xs)
find-map p f [] = refl
find-map p f (x ∷ xs) = elim (p (f x)) as (λ b. cond b (Some (f x)) (find p (map f xs)) ≡ option_map f (cond b (Some x) (find (λ x. p (f x)) xs))) [ true ↦ refl | false ↦ find-map p f xs ]

Some-not-None : {X : Type 0} (x : X) → Some x ≡ None → ⊥
Some-not-None x e = true≢false (ap is_some e)

-- what a look-up found stands in the list and passes
pub find-In : {X : Type 0} (p : X → Bool) (xs : List X) (x : X) → find p xs ≡ Some x → In x xs × (p x ≡ true)
find-In p [] x = λ e. absurd (Some-not-None x (sym e))
find-In p (y ∷ ys) x =
    elim (p y) as (λ b. p y ≡ b → cond b (Some y) (find p ys) ≡ Some x → In x (y ∷ ys) × (p x ≡ true)) [
      | true ↦ λ t e. (inl (Some-same _ _ e), ap p (sym (Some-same _ _ e)) ∙ t)
      | false ↦ λ t e. let r = find-In p ys x e in (inr r.0, r.1)
    ] refl

pub find-Some : {X : Type 0} (p : X → Bool) (xs : List X) → list_any p xs ≡ true → (x : X) × (find p xs ≡ Some x)
find-Some p [] = λ e. absurd (true≢false (sym e))
find-Some {X = X} p (y ∷ ys) =
    elim (p y) as (λ b. (b || list_any p ys) ≡ true → (x : X) × (cond b (Some y) (find p ys) ≡ Some x)) [
      | true ↦ λ e. (y, refl)
      | false ↦ λ e. find-Some p ys e
    ]

pub find-None : {X : Type 0} (p : X → Bool) (xs : List X) → list_any p xs ≡ false → find p xs ≡ None
find-None p [] = λ e. refl
find-None p (y ∷ ys) =
    elim (p y) as (λ b. (b || list_any p ys) ≡ false → cond b (Some y) (find p ys) ≡ None) [
      | true ↦ λ e. absurd (true≢false e)
      | false ↦ λ e. find-None p ys e
    ]

-- ---- look-ups by id

-- a test of what was found, false where nothing was
abbrev pub holds_at : {X : Type 0} → Option X → (X → Bool) → Bool
holds_at None p = false
holds_at (Some x) p = p x

pub holds_at-map : {X Y : Type 0} (f : X → Y) (o : Option X) (p : Y → Bool) → holds_at (option_map f o) p ≡ holds_at o (λ x. p (f x))
holds_at-map f None p = refl
holds_at-map f (Some x) p = refl

pub holds_at-Some : {X : Type 0} (o : Option X) (p : X → Bool) → holds_at o p ≡ true → (x : X) × (o ≡ Some x) × (p x ≡ true)
holds_at-Some None p e = absurd (true≢false (sym e))
holds_at-Some (Some x) p e = (x, refl, e)

T-true : (b : Bool) → T b → b ≡ true
T-true true h = refl
T-true false h = absurd h

true-T : (b : Bool) → b ≡ true → T b
true-T b e = subst T (sym e) tt

less_not_equal : (r : Ordering) → is_lt r ≡ true → is_eq r ≡ true → ⊥
less_not_equal Less a b = true≢false (sym b)
less_not_equal Equal a b = true≢false (sym a)
less_not_equal Greater a b = true≢false (sym a)

module _ {X : Type 0} (id : X → List ℕ) where
  -- the first row with the id
  abbrev pub look : List X → List ℕ → Option X
  look rows q = find (λ r. bytes_eq (id r) q) rows

  -- a row with the id that passes a test
  abbrev pub look_any : List X → List ℕ → (X → Bool) → Bool
  look_any rows q p = list_any (λ r. bytes_eq (id r) q && p r) rows

  -- each id names one row at most
  abbrev pub IsKeyed : List X → Type 0
  IsKeyed rows = (q : List ℕ) (p : X → Bool) → look_any rows q p ≡ holds_at (look rows q) p

  -- ---- entries of a map from ids to rows

  abbrev OwnKeys : List (List ℕ × X) → Type 0
  OwnKeys [] = Unit {0}
  OwnKeys (e ∷ es) = (id e.1 ≡ e.0) × OwnKeys es

  OwnKeys-put : (k : List ℕ) (v : X) (es : List (List ℕ × X)) → id v ≡ k → OwnKeys es → OwnKeys (table.put text_cmp k v es)
  OwnKeys-put k v [] e h = (e, tt)
  OwnKeys-put k v (x ∷ xs) e h =
      elim (text_cmp k x.0) as (λ r. text_cmp k x.0 ≡ r → OwnKeys (table.Entries.by_order r ((k, v) ∷ x ∷ xs) ((x.0, v) ∷ xs) (x ∷ table.put text_cmp k v xs))) [
        | Less ↦ λ t. (e, h)
        | Equal ↦ λ t. (e ∙ table.slice_cmp-IsAntisymmetric table.nat_cmp-IsAntisymmetric k x.0 t, h.1)
        | Greater ↦ λ t. (h.0, OwnKeys-put k v xs e h.1)
      ] refl

  abbrev entry : X → List ℕ × X
  entry r = (id r, r)

  no_entries : (es : List (List ℕ × X)) → length es ≡ 0 → OwnKeys es
  no_entries [] e = tt
  no_entries (x ∷ xs) e = absurd (omega arith)

  OwnKeys-from_entries : (rows : List X) → OwnKeys (table.entries (table.from_entries {R = text_cmp} (map entry rows)))
  OwnKeys-from_entries [] = no_entries _ (sym (table.len-entries (table.empty {X = X} {R = text_cmp})) ∙ table.len-empty text_cmp X)
  OwnKeys-from_entries (r ∷ rs) =
      let m = table.from_entries {R = text_cmp} (map entry rs) in
      subst OwnKeys (sym (table.entries-insert nat_list_cmp_total m (id r) r)) (OwnKeys-put (id r) r _ refl (OwnKeys-from_entries rs))

  -- the key's test, both ways
  ties : (q x : List ℕ) → eq_by_cmp text_cmp q x ≡ bytes_eq x q
  ties q x = sym (texts_ties q x) ∙ bytes_flip q x

  look-own : (q : List ℕ) (es : List (List ℕ × X)) → OwnKeys es → look (map (λ e. e.1) es) q ≡ table.find text_cmp q es
  look-own q [] h = refl
  look-own q (e ∷ es) h = λ i. cond ((ap (λ x. bytes_eq x q) h.0 ∙ sym (ties q e.0)) i) (Some e.1) (look-own q es h.1 i)

  look-rows : (rows : List X) (q : List ℕ) → table.find text_cmp q (map entry rows) ≡ look rows q
  look-rows [] q = refl
  look-rows (r ∷ rs) q = λ i. cond (ties q (id r) i) (Some r) (look-rows rs q i)

  -- a look-up in rows by id finds the first row of the list that they were made of
  pub look-by_id : (rows : List X) (q : List ℕ) → look (by_id id rows) q ≡ look rows q
  look-by_id rows q =
      let m = table.from_entries {R = text_cmp} (map entry rows) in
      look-own q (table.entries m) (OwnKeys-from_entries rows) ∙ sym (table.get-entries m q) ∙ table.get-from_entries nat_list_cmp_total (map entry rows) q ∙ look-rows rows q

  below-missed : (x : List ℕ) (es : List (List ℕ × X)) → OwnKeys es → T (table.Entries.below_all text_cmp x es) → (q : List ℕ) → bytes_eq x q ≡ true → (p : X → Bool) → look_any (map (λ e. e.1) es) q p ≡ false
  below-missed x [] own h q t p = refl
  below-missed x (e ∷ es) own h q t p =
      let parts = and_parts _ _ (T-true _ h) in
      let apart : bytes_eq (id e.1) q ≡ false = false_from_ne_true _ (λ s.
      let at : x ≡ e.0 = same_bytes x q t ∙ sym (same_bytes _ q s) ∙ own.0 in
      less_not_equal (text_cmp x e.0) parts.0 (sym (texts_ties x e.0) ∙ bytes_same x e.0 at)) in
      (λ i. (apart i && p e.1) || look_any (map (λ e. e.1) es) q p) ∙ below-missed x es own.1 (true-T _ parts.1) q t p

  keyed-own : (es : List (List ℕ × X)) → OwnKeys es → T (table.is_sorted text_cmp es) → IsKeyed (map (λ e. e.1) es)
  keyed-own [] own h q p = refl
  keyed-own (e ∷ es) own h q p =
      let parts = and_parts _ _ (T-true _ h) in
      let rest = look_any (map (λ e. e.1) es) q p in
      elim (bytes_eq (id e.1) q) as (λ b. bytes_eq (id e.1) q ≡ b → ((b && p e.1) || rest) ≡ holds_at (cond b (Some e.1) (look (map (λ e. e.1) es) q)) p) [
        | true ↦ λ t. ap (λ r. p e.1 || r) (below-missed e.0 es own.1 (true-T _ parts.0) q (ap (λ x. bytes_eq x q) (sym own.0) ∙ t) p) ∙ or-false (p e.1)
        | false ↦ λ t. keyed-own es own.1 (true-T _ parts.1) q p
      ] refl

  pub keyed-by_id : (rows : List X) → IsKeyed (by_id id rows)
  keyed-by_id rows = let m = table.from_entries {R = text_cmp} (map entry rows) in keyed-own (table.entries m) (OwnKeys-from_entries rows) (table.entries_sorted m)
