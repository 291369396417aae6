-- Rows by key ascend, each is one of the rows, and a search among them finds the first of the rows.
use Rattle.std.proofs.Common.{◌≡◌, Bool, true, false, cond, T, List, [], ◌∷◌, map, Some, None, Less, Equal, Greater, Ordering, refl, sym, ap, ◌∙◌, subst, inl, inr, arith, length, get_or}
use Rattle.std.specs.Prelude.{find, option_map}
use Rattle.std.specs.FinMap as table
use Rattle.std.specs.FinMap.Entries.{below_all, by_order}
use Rattle.std.specs.Cmp.{IsTotalOrder, tied_itself}
use Rattle.std.specs.List.{All, Contains, list_all, list_any}
use Rattle.std.specs.Ordering.{is_lt, is_eq, eq_by_cmp, on, ordering_reverse}
use Rattle.std.proofs.lemmas.Bool.{and_parts, and_from, or_left, or_right, cases_Bool}
use Rattle.std.proofs.lemmas.List.Elements.{Contains-get_or}
use Rattle.std.proofs.lemmas.List.Kept.{AllPairs-cons}
use Rattle.std.proofs.lemmas.List.{nil_from_length}
use Rattle.gtfs_field.proofs.OrderingFacts.{equal as tie_from}
use Rattle.gtfs_rows.specs.TransferOrder.{Ascends, by_key}
use Rattle.gtfs_rows.proofs.SameElements.{contains-first, contains-later, contains-cases, contains-none, contains-from_map}

pub no_entries : {K Z : Type 0} (R : K → K → Ordering) → table.entries (table.empty {X = Z} {R = R}) ≡ []
no_entries {Z = Z} R = nil_from_length _ (sym (table.len-entries (table.empty {X = Z} {R = R})) ∙ table.len-empty R Z)

-- what holds of each element holds of all
pub all_from : {X : Type 0} (p : X → Bool) (xs : List X) → ((x : X) → Contains xs x → p x ≡ true) → list_all p xs ≡ true
all_from p [] each = refl
all_from p (x ∷ xs) each = and_from (p x) (list_all p xs) (each x (contains-first x x xs refl)) (all_from p xs (λ y at. each y (contains-later y x xs at)))

-- an element that passes
pub any_from : {X : Type 0} (p : X → Bool) (xs : List X) (x : X) → Contains xs x → p x ≡ true → list_any p xs ≡ true
any_from p [] x at passes = absurd (contains-none x at)
any_from p (y ∷ xs) x at passes = elim (contains-cases x y xs at) [
  | inl same ↦ or_left (p y) (list_any p xs) (ap p same ∙ passes)
  | inr later ↦ or_right (p y) (list_any p xs) (any_from p xs x later passes)
]

-- tests that agree on the elements find the same
pub find_agree : {X : Type 0} (p q : X → Bool) (xs : List X) → ((x : X) → Contains xs x → p x ≡ q x) → find p xs ≡ find q xs
find_agree p q [] same = refl
find_agree p q (x ∷ xs) same = λ i. cond (same x (contains-first x x xs refl) i) (Some x) (find_agree p q xs (λ y at. same y (contains-later y x xs at)) i)

pub find_map : {A X : Type 0} (f : A → X) (p : X → Bool) (xs : List A) → find p (map f xs) ≡ option_map f (find (λ a. p (f a)) xs)
find_map f p [] = refl
find_map f p (x ∷ xs) = elim (cases_Bool (p (f x))) [
  | inl here ↦ rw here refl
  | inr later ↦ rw later (find_map f p xs)
]

-- the element that a search finds
pub record IsFound {X : Type 0} (p : X → Bool) (xs : List X) (x : X) : Type 0 where
  pub passes : p x ≡ true
  pub among : Contains xs x

pub found_is : {X : Type 0} (p : X → Bool) (xs : List X) (x : X) → find p xs ≡ Some x → IsFound p xs x
found_is p [] x found = cc
found_is p (y ∷ xs) x found = elim (cases_Bool (p y)) [
  | inl here ↦
      let some : Some y ≡ Some x = rw here at found in
      let same : y ≡ x = cc in
      record { passes = sym (ap p same) ∙ here; among = contains-first x y xs same }
  | inr later ↦ let rest = found_is p xs x (rw later at found) in record { passes = rest.passes; among = contains-later x y xs rest.among }
]

module _ {K X : Type 0} (R : K → K → Ordering) (o : IsTotalOrder R) (key : X → K) where
  abbrev Entries : Type 0
  Entries = List (K × X)

  -- the entry's value is one of the rows, and its key is the row's
  record Stands (rows : List X) (e : K × X) : Type 0 where
    pub among : Contains rows e.1
    pub own : R (key e.1) e.0 ≡ Equal

  abbrev StandAll : List X → Entries → Type 0
  StandAll rows es = (e : K × X) → Contains es e → Stands rows e

  stand_more : (rows : List X) (y : K × X) (es : Entries) → Stands rows y → StandAll rows es → StandAll rows (y ∷ es)
  stand_more rows y es first rest e at = elim (contains-cases e y es at) [
    | inl same ↦ subst (Stands rows) same first
    | inr later ↦ rest e later
  ]

  stand_put : (rows : List X) (r : X) (es : Entries) → Contains rows r → StandAll rows es → StandAll rows (table.put R (key r) r es)
  stand_put rows r [] at all = stand_more rows (key r, r) [] (record { among = at; own = tied_itself o (key r) }) all
  stand_put rows r (x ∷ xs) at all =
      let rest : StandAll rows xs = λ e later. all e (contains-later e x xs later) in
      elim (R (key r) x.0) as (λ q. R (key r) x.0 ≡ q → StandAll rows (by_order q ((key r, r) ∷ x ∷ xs) ((x.0, r) ∷ xs) (x ∷ table.put R (key r) r xs))) [
        | Less ↦ λ t. stand_more rows (key r, r) (x ∷ xs) (record { among = at; own = tied_itself o (key r) }) all
        | Equal ↦ λ t. stand_more rows (x.0, r) xs (record { among = at; own = t }) rest
        | Greater ↦ λ t. stand_more rows x (table.put R (key r) r xs) (all x (contains-first x x xs refl)) (stand_put rows r xs at rest)
      ] refl

  abbrev keyed : List X → Entries
  keyed rows = map (λ x. (key x, x)) rows

  no_entry : (es : Entries) → length es ≡ 0 → (e : K × X) → Contains es e → ⊥
  no_entry [] none e at = contains-none e at
  no_entry (x ∷ xs) none e at = omega arith

  stand_rows : (all rows : List X) → ((r : X) → Contains rows r → Contains all r) → StandAll all (table.entries (table.from_entries {R = R} (keyed rows)))
  stand_rows all [] within = λ e at. absurd (no_entry _ (sym (table.len-entries (table.empty {X = X} {R = R})) ∙ table.len-empty R X) e at)
  stand_rows all (r ∷ rows) within =
      subst (StandAll all) (sym (table.entries-insert o (table.from_entries {R = R} (keyed rows)) (key r) r))
      (stand_put all r _ (within r (contains-first r r rows refl)) (stand_rows all rows (λ s at. within s (contains-later s r rows at))))

  own_entries : (rows : List X) → StandAll rows (table.entries (table.from_entries {R = R} (keyed rows)))
  own_entries rows = stand_rows rows rows (λ r at. at)

  -- a row by key is one of the rows
  pub by_key_member : (rows : List X) (r : X) → Contains (by_key R key rows) r → Contains rows r
  by_key_member rows r at =
      let e = contains-from_map (λ e. e.1) (table.entries (table.from_entries {R = R} (keyed rows))) r at in
      subst (Contains rows) e.1.1 (own_entries rows e.0 e.1.0).among

  -- ---- their order

  turn : (q x y : K) → R x y ≡ Equal → R q x ≡ R q y
  turn q x y t = o.antisymm q x ∙ ap ordering_reverse (o.congr x y q t) ∙ sym (o.antisymm q y)

  is_less : (r : Ordering) → is_lt r ≡ true → r ≡ Less
  is_less Less h = refl
  is_less Equal h = cc
  is_less Greater h = cc

  T-true : (b : Bool) → T b → b ≡ true
  T-true true h = refl
  T-true false h = absurd h

  true-T : (b : Bool) → b ≡ true → T b
  true-T b e = subst T (sym e) tt

  below-each : (es : Entries) (y : K) → below_all R y es ≡ true → (e : K × X) → Contains es e → is_lt (R y e.0) ≡ true
  below-each [] y h e at = absurd (contains-none e at)
  below-each (x ∷ xs) y h e at =
      let parts = and_parts (is_lt (R y x.0)) (below_all R y xs) h in
      elim (contains-cases e x xs at) [
        | inl same ↦ ap (λ v. is_lt (R y v.0)) (sym same) ∙ parts.0
        | inr later ↦ below-each xs y parts.1 e later
      ]

  abbrev IsOwn : K × X → Type 0
  IsOwn e = R (key e.1) e.0 ≡ Equal

  below-own : (x y : K × X) → IsOwn x → IsOwn y → is_lt (R x.0 y.0) ≡ true → R (key x.1) (key y.1) ≡ Less
  below-own x y own other less = o.congr (key x.1) x.0 (key y.1) own ∙ turn x.0 (key y.1) y.0 other ∙ is_less (R x.0 y.0) less

  each_value : (P : X → Type 0) (es : Entries) → ((e : K × X) → Contains es e → P e.1) → All P (map (λ e. e.1) es)
  each_value P es each k d within =
      let value = contains-from_map (λ e. e.1) es (get_or (map (λ e. e.1) es) k d) (Contains-get_or (map (λ e. e.1) es) k d within) in
      subst P value.1.1 (each value.0 value.1.0)

  ascends-values : (es : Entries) → ((e : K × X) → Contains es e → IsOwn e) → T (table.is_sorted R es) → Ascends (on key R) (map (λ e. e.1) es)
  ascends-values [] own h = λ i j d less within. absurd (omega arith)
  ascends-values (x ∷ xs) own h =
      let parts = and_parts (below_all R x.0 xs) (table.is_sorted R xs) (T-true _ h) in
      AllPairs-cons (λ y z. R (key y) (key z) ≡ Less) x.1 (map (λ e. e.1) xs)
      (each_value (λ z. R (key x.1) (key z) ≡ Less) xs (λ e at. below-own x e (own x (contains-first x x xs refl)) (own e (contains-later e x xs at)) (below-each xs x.0 parts.0 e at)))
      (ascends-values xs (λ e at. own e (contains-later e x xs at)) (true-T _ parts.1))

  pub by_key_ascends : (rows : List X) → Ascends (on key R) (by_key R key rows)
  by_key_ascends rows =
      let m = table.from_entries {R = R} (keyed rows) in
      ascends-values (table.entries m) (λ e at. (own_entries rows e at).own) (table.entries_sorted m)

  -- ---- a search by the key

  abbrev pub ties : K → X → Bool
  ties q x = eq_by_cmp R q (key x)

  find_entries : (q : K) (es : Entries) → ((e : K × X) → Contains es e → IsOwn e) → find (ties q) (map (λ e. e.1) es) ≡ table.find R q es
  find_entries q [] own = refl
  find_entries q (x ∷ xs) own =
      let same : ties q x.1 ≡ eq_by_cmp R q x.0 = ap is_eq (turn q (key x.1) x.0 (own x (contains-first x x xs refl))) in
      λ i. cond (same i) (Some x.1) (find_entries q xs (λ e at. own e (contains-later e x xs at)) i)

  find_keyed : (q : K) (rows : List X) → table.find R q (keyed rows) ≡ find (ties q) rows
  find_keyed q [] = refl
  find_keyed q (x ∷ rows) = ap (cond (ties q x) (Some x)) (find_keyed q rows)

  pub find_by_key : (q : K) (rows : List X) → find (ties q) (by_key R key rows) ≡ find (ties q) rows
  find_by_key q rows =
      let m = table.from_entries {R = R} (keyed rows) in
      find_entries q (table.entries m) (λ e at. (own_entries rows e at).own)
      ∙ sym (table.get-entries m q)
      ∙ table.get-from_entries o (keyed rows) q
      ∙ find_keyed q rows

  -- ---- of each key a row stays

  -- the row that stays of those with this key
  pub record Stays (rows : List X) (x : X) : Type 0 where
    pub row : X
    pub among : Contains (by_key R key rows) row
    pub tied : R (key x) (key row) ≡ Equal

  some_found : (q : K) (rows : List X) (x : X) → Contains rows x → R q (key x) ≡ Equal → find (ties q) rows ≡ None → ⊥
  some_found q [] x at tie none = contains-none x at
  some_found q (y ∷ rows) x at tie none = elim (contains-cases x y rows at) [
    | inl same ↦
        let here : ties q y ≡ true = ap (λ z. is_eq (R q (key z))) same ∙ ap is_eq tie in
        let found : Some y ≡ None = rw here at none in
        cc
    | inr later ↦
        elim (ties q y) as (λ b. cond b (Some y) (find (ties q) rows) ≡ None → ⊥) [
          | true ↦ λ some. cc
          | false ↦ λ rest. some_found q rows x later tie rest
        ] none
  ]

  pub stays : (rows : List X) (x : X) → Contains rows x → Stays rows x
  stays rows x at =
      elim (find (ties (key x)) (by_key R key rows)) as (λ r. find (ties (key x)) (by_key R key rows) ≡ r → Stays rows x) [
        | None ↦ λ none. absurd (some_found (key x) rows x at (tied_itself o (key x)) (sym (find_by_key (key x) rows) ∙ none))
        | Some y ↦ λ some.
            let found = found_is (ties (key x)) (by_key R key rows) y some in
            record { row = y; among = found.among; tied = tie_from (R (key x) (key y)) found.passes }
      ] refl
