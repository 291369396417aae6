-- Spans by the number of a trip and their start: what they cover, and what one more or one less changes.
use Rattle.std.proofs.Common.{arith, ◌≡◌, ℕ, ◌<◌, ◌≤◌, List, [], ◌∷◌, true, false, Bool, refl, sym, ap, ◌∙◌, Some, None, inl, inr}
use Rattle.std.specs.Prelude.{◌&&◌, ◌||◌, nat_eq, nat_lt}
use Rattle.std.specs.BTreeMap.{insert_entry, is_at, IsOrdered}
use Rattle.std.specs.Cmp.{Equal-is, nat_cmp_total, IsTotalOrder, on_total, then_total}
use Rattle.std.specs.List.{All, list_any}
use Rattle.std.specs.Map.{lookup, remove_entry}
use Rattle.std.specs.Ordering.{nat_cmp}
use Rattle.std.specs.declared.cmp.Ordering.{Ordering}
use Rattle.std.specs.declared.cmp.Ordering.TheVariants.{Less, Equal, Greater}
use Rattle.std.proofs.lemmas.Bool.{and_from as and_both, cases_Bool, eq-eqb}
use Rattle.std.proofs.lemmas.Bool.Decides.{nat_tests}
use Rattle.std.proofs.lemmas.List.Elements.{All-head, All-tail}
use Rattle.std.proofs.lemmas.Map.Lookups.{exact_unsigned}
use Rattle.std.proofs.lemmas.Map.Views.{All-found}
use Rattle.gtfs_field.proofs.OrderingFacts.{tied as then_equal}
use Rattle.gtfs_field.proofs.ListFacts.{any_silent as no_entry}
use Rattle.gtfs_schema.proofs.BoolFacts.{and_parts, no_test}
use Rattle.gtfs_trip_rules.specs.PeriodSpans.{Key, Spans, covers, key_cmp, shares, span_end}

-- ---- the seconds of two periods

pub shares_parts : (a b c d : ℕ) → shares a b c d ≡ true → (a < b) × (a < d) × (c < b) × (c < d)
shares_parts a b c d e = elim (cases_Bool (nat_lt c a)) [
  | inl x ↦ elim (cases_Bool (nat_lt d b)) [
    | inl y ↦ let h : nat_lt a d ≡ true = rw (x, y) at e in (grind (arith, nat_tests, h, x, y), grind (arith, nat_tests, h), grind (arith, nat_tests, h, x, y), grind (arith, nat_tests, h, x))
    | inr y ↦ let h : nat_lt a b ≡ true = rw (x, y) at e in (grind (arith, nat_tests, h), grind (arith, nat_tests, h, y), grind (arith, nat_tests, h, x, y), grind (arith, nat_tests, h, x, y))
  ]
  | inr x ↦ elim (cases_Bool (nat_lt d b)) [
    | inl y ↦ let h : nat_lt c d ≡ true = rw (x, y) at e in (grind (arith, nat_tests, h, x, y), grind (arith, nat_tests, h, x), grind (arith, nat_tests, h, y), grind (arith, nat_tests, h))
    | inr y ↦ let h : nat_lt c b ≡ true = rw (x, y) at e in (grind (arith, nat_tests, h, x), grind (arith, nat_tests, h, x, y), grind (arith, nat_tests, h), grind (arith, nat_tests, h, y))
  ]
]

pub shares_all : (a b c d : ℕ) → a < b → a < d → c < b → c < d → shares a b c d ≡ true
shares_all a b c d ab ad cb cd = elim (cases_Bool (nat_lt c a)) [
  | inl x ↦ elim (cases_Bool (nat_lt d b)) [
    | inl y ↦ rw (x, y) (grind (arith, nat_tests))
    | inr y ↦ rw (x, y) (grind (arith, nat_tests))
  ]
  | inr x ↦ elim (cases_Bool (nat_lt d b)) [
    | inl y ↦ rw (x, y) (grind (arith, nat_tests))
    | inr y ↦ rw (x, y) (grind (arith, nat_tests))
  ]
]

-- ---- lists of entries

or_swap : (a b c : Bool) → (a || (b || c)) ≡ (b || (a || c))
or_swap true true c = refl
or_swap true false c = refl
or_swap false b c = refl

-- a test of a list, by the entry that is taken out and the others
any_without : {K X : Type 0} (test : K → Bool) (p : K × X → Bool) (b : Bool) (v : X) (es : List (K × X))
    → ((k : K) → test k ≡ true → p (k, v) ≡ b) → lookup test es ≡ Some v → list_any p es ≡ (b || list_any p (remove_entry test es))
any_without test p b v [] same found = cc
any_without test p b v (e ∷ es) same found = elim (cases_Bool (test e.0)) [
  | inl hit ↦ let first : Some e.1 ≡ Some v = rw hit at found in
      let last : e.1 ≡ v = cc first in
      rw hit (ap (λ x. x || list_any p es) (ap (λ w. p (e.0, w)) last ∙ same e.0 hit))
  | inr miss ↦ let rest : lookup test es ≡ Some v = rw miss at found in
      rw miss (ap (λ x. p e || x) (any_without test p b v es same rest) ∙ or_swap (p e) b (list_any p (remove_entry test es)))
]

any_with : {K X : Type 0} (cmp : K → K → Ordering) (p : K × X → Bool) (k : K) (v : X) (es : List (K × X))
    → lookup (is_at (cmp k)) es ≡ None → list_any p (insert_entry cmp es k v) ≡ (p (k, v) || list_any p es)
any_with cmp p k v [] none = refl
any_with {K} {X} cmp p k v (e ∷ es) none = by (cmp k e.0) refl (any_with cmp p k v es)
  where
    by : (o : Ordering) → cmp k e.0 ≡ o → (lookup (is_at (cmp k)) es ≡ None → list_any p (insert_entry cmp es k v) ≡ (p (k, v) || list_any p es))
        → list_any p (insert_entry cmp (e ∷ es) k v) ≡ (p (k, v) || list_any p (e ∷ es))
    by Less r later = rw r refl
    by Equal r later = let found : Some e.1 ≡ None = rw r at none in cc found
    by Greater r later = let rest : lookup (is_at (cmp k)) es ≡ None = rw r at none in
        rw r (ap (λ x. p e || x) (later rest) ∙ or_swap (p e) (p (k, v)) (list_any p es))

-- what holds of each entry holds of one that passes
any_entry : {X : Type 0} (p : X → Bool) (P : X → Type 0) (xs : List X) → list_any p xs ≡ true → All P xs → (x : X) × (p x ≡ true) × P x
any_entry p P [] e all = cc e
any_entry p P (x ∷ xs) e all = elim (cases_Bool (p x)) [
  | inl hit ↦ (x, hit, All-head P x xs all)
  | inr miss ↦ let rest : list_any p xs ≡ true = rw miss at e in any_entry p P xs rest (All-tail P x xs all)
]

-- ---- keys

pub key_total : IsTotalOrder key_cmp
key_total = then_total (on_total (λ (k : Key). k.0) nat_cmp_total) (on_total (λ (k : Key). k.1) nat_cmp_total)

pub same_key : (j k : Key) → is_at (key_cmp j) k ≡ true → (j.0 ≡ k.0) × (j.1 ≡ k.1)
same_key j k e =
    let parts = then_equal (nat_cmp j.0 k.0) (nat_cmp j.1 k.1) ((Equal-is (key_cmp j k)).0 e) in
    (exact_unsigned j.0 k.0 parts.0, exact_unsigned j.1 k.1 parts.1)

-- ---- what spans cover

abbrev pub covers_one : ℕ → ℕ → ℕ → (Key × ℕ) → Bool
covers_one trip start end s = nat_eq trip s.0.0 && shares s.0.1 s.1 start end

one_alike : (trip : ℕ) (start end last : ℕ) (j k : Key) → is_at (key_cmp j) k ≡ true → covers_one trip start end (k, last) ≡ covers_one trip start end (j, last)
one_alike trip start end last j k e = let same = same_key j k e in
    ap (λ t. nat_eq trip t && shares k.1 last start end) (sym same.0) ∙ ap (λ s. nat_eq trip j.0 && shares s last start end) (sym same.1)

pub taken_out : (old new : Spans) (k : Key) (last : ℕ) → span_end old k ≡ Some last → new.entries ≡ remove_entry (is_at (key_cmp k)) old.entries
    → (trip : ℕ) (start end : ℕ) → covers old trip start end ≡ ((nat_eq trip k.0 && shares k.1 last start end) || covers new trip start end)
taken_out old new k last there removed trip start end = rw removed
    (any_without (is_at (key_cmp k)) (covers_one trip start end) (covers_one trip start end (k, last)) last old.entries (one_alike trip start end last k) there)

pub put_in : (old new : Spans) (k : Key) (last : ℕ) → span_end old k ≡ None → new.entries ≡ insert_entry key_cmp old.entries k last
    → (trip : ℕ) (start end : ℕ) → covers new trip start end ≡ ((nat_eq trip k.0 && shares k.1 last start end) || covers old trip start end)
put_in old new k last none inserted trip start end = rw inserted (any_with key_cmp (covers_one trip start end) k last old.entries none)

-- a span that shares a second
pub covers_by : (spans : Spans) (k : Key) (last : ℕ) → span_end spans k ≡ Some last → (start end : ℕ) → shares k.1 last start end ≡ true → covers spans k.0 start end ≡ true
covers_by spans k last there start end e = any_without (is_at (key_cmp k)) (covers_one k.0 start end) true last spans.entries
    (λ j at. one_alike k.0 start end last k j at ∙ and_both (nat_eq k.0 k.0) (shares k.1 last start end) (eq-eqb k.0 k.0 refl) e) there

pub covered_by : (spans : Spans) → IsOrdered key_cmp spans → (trip : ℕ) (start end : ℕ) → covers spans trip start end ≡ true
    → (s : Key × ℕ) × (covers_one trip start end s ≡ true) × (span_end spans s.0 ≡ Some s.1)
covered_by spans ordered trip start end e =
    any_entry (covers_one trip start end) (λ s. span_end spans s.0 ≡ Some s.1) spans.entries e (All-found key_total spans ordered)

-- a period with no second shares none
pub none_shared : (spans : Spans) (trip : ℕ) (start end : ℕ) → end ≤ start → covers spans trip start end ≡ false
none_shared spans trip start end none = no_entry (covers_one trip start end) spans.entries (λ s.
    no_test (covers_one trip start end s) (λ hit.
    let times = shares_parts s.0.1 s.1 start end ((and_parts (nat_eq trip s.0.0) (shares s.0.1 s.1 start end) hit).1) in
    absurd (omega (arith, times.3, none))))
