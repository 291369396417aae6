-- New ids: they are free, and two ids never get the same one.
use Rattle.std.proofs.Common.{◌≡◌, ℕ, zero, suc, ◌+◌, ◌^◌, ◌<◌, ◌≤◌, Bool, true, false, cond, not, ltb, List, [], ◌∷◌, ◌++◌, refl, sym, ap, ◌∙◌, subst, unwrap_or, arith, length, map, bytes_eq, codes, decimal, lt-ltb, append_assoc, length-append, inl, inr, ◌⊎◌}
use Rattle.std.specs.Prelude.{◌||◌, if◌then◌else◌}
use Rattle.std.specs.List.{list_any, range_with_len, IsDistinct, AllByRecursion}
use Rattle.std.specs.Str.Parse.{AllDigits, digits_value}
use Rattle.std.specs.Char.{digit_value}
use Rattle.std.specs.Cmp.Lexicographic.{nat_list_eq_equiv}
use Rattle.std.proofs.lemmas.Bool.{true≢false, not-true, false_from_ne_true, cases_Bool, or_parts}
use Rattle.std.proofs.lemmas.List.{append_cancel_left, append_cancel_right}
use Rattle.std.proofs.lemmas.List.Folds.{list_any-append}
use Rattle.std.proofs.lemmas.Fmt.{decimal_is_IsNumeral_wide}
use Rattle.std.proofs.lemmas.Map.Made.{length-le_from_is_member}
use Rattle.gtfs_schema.proofs.SiteFacts.{text_is as same_bytes}
use Rattle.gtfs_rows.proofs.Members.{In}
use Rattle.gtfs_merge.specs.Renaming.{lists_id, merged_id, free_number, free_id, renamed_b}
use Rattle.gtfs_merge.proofs.Lookups.{list_any-In, In-list_any, find-In, find-Some}

-- ---- what stands before the digits at the end

keep : ℕ → List ℕ → List ℕ
keep c [] = cond (ltb (digit_value c) 10) [] (c ∷ [])
keep c (d ∷ ds) = c ∷ d ∷ ds

without_digits : List ℕ → List ℕ
without_digits [] = []
without_digits (c ∷ cs) = keep c (without_digits cs)

no-digits : (ds : List ℕ) → AllDigits 10 ds → without_digits ds ≡ []
unfolding without_digits keep
no-digits [] h = refl
no-digits (c ∷ cs) h = ap (keep c) (no-digits cs h.1) ∙ ap (λ b. cond b [] (c ∷ [])) (lt-ltb (digit_value c) 10 h.0)

-- what stands before a text that does not end in digits stays
stays : (x : List ℕ) (c : ℕ) (y ds : List ℕ) → without_digits y ≡ c ∷ ds → without_digits (x ++ y) ≡ x ++ (c ∷ ds)
unfolding without_digits keep
stays [] c y ds e = e
stays (a ∷ []) c y ds e = ap (keep a) e
stays (a ∷ b ∷ x) c y ds e = ap (keep a) (stays (b ∷ x) c y ds e)

mark : List ℕ
mark = codes "_merged_"

abbrev limit : ℕ
limit = 10 ^ 64

mark_kept : (ds : List ℕ) → without_digits ds ≡ [] → without_digits (mark ++ ds) ≡ mark
unfolding without_digits keep mark
mark_kept ds e = λ i. keep 95 (keep 109 (keep 101 (keep 114 (keep 103 (keep 101 (keep 100 (keep 95 (e i))))))))

merged-is : (x : List ℕ) (n : ℕ) → merged_id x n ≡ x ++ (mark ++ decimal n)
unfolding mark
merged-is x n = append_assoc x (codes "_merged_") (decimal n)

mark_first : (ds : List ℕ) → without_digits ds ≡ [] → without_digits (mark ++ ds) ≡ 95 ∷ (109 ∷ 101 ∷ 114 ∷ 103 ∷ 101 ∷ 100 ∷ 95 ∷ [])
unfolding mark
mark_first ds e = mark_kept ds e

mark-is : 95 ∷ (109 ∷ 101 ∷ 114 ∷ 103 ∷ 101 ∷ 100 ∷ 95 ∷ []) ≡ mark
unfolding mark
mark-is = refl

stem : (x : List ℕ) (n : ℕ) → n < limit → without_digits (merged_id x n) ≡ x ++ mark
stem x n h = ap without_digits (merged-is x n) ∙ stays x 95 (mark ++ decimal n) (109 ∷ 101 ∷ 114 ∷ 103 ∷ 101 ∷ 100 ∷ 95 ∷ []) (mark_first (decimal n) (no-digits (decimal n) (decimal_is_IsNumeral_wide n h).0.1)) ∙ ap (λ m. x ++ m) mark-is

-- the number's text tells the number
decimal_same : (m n : ℕ) → m < limit → n < limit → decimal m ≡ decimal n → m ≡ n
decimal_same m n h k e = sym (decimal_is_IsNumeral_wide m h).1 ∙ ap (digits_value 10) e ∙ (decimal_is_IsNumeral_wide n k).1

-- a new id tells the id that it stands for, and the number
pub merged_id-base : (x y : List ℕ) (m n : ℕ) → m < limit → n < limit → merged_id x m ≡ merged_id y n → x ≡ y
merged_id-base x y m n h k e = append_cancel_right x y mark (sym (stem x m h) ∙ ap without_digits e ∙ stem y n k)

pub merged_id-number : (x : List ℕ) (m n : ℕ) → m < limit → n < limit → merged_id x m ≡ merged_id x n → m ≡ n
merged_id-number x m n h k e = decimal_same m n h k (append_cancel_left mark (decimal m) (decimal n) (append_cancel_left x (mark ++ decimal m) (mark ++ decimal n) (sym (merged-is x m) ∙ e ∙ merged-is x n)))

-- ---- a free number

In-range : (a n x : ℕ) → In x (range_with_len a n) → (a ≤ x) × (x < a + n)
In-range a zero x i = elim i [ ]
In-range a (suc n) x i = elim i as (λ w. (a ≤ x) × (x < a + suc n)) [
  | inl e ↦ (omega arith, omega arith)
  | inr k ↦ let r = In-range (a + 1) n x k in (omega arith, omega arith)
]

tries : List ℕ → ℕ → ℕ → List (List ℕ)
tries base a n = map (merged_id base) (range_with_len a n)

apart_from : (base : List ℕ) (x a n : ℕ) → x < a → a + n < limit → AllByRecursion (λ y. bytes_eq (merged_id base x) y ≡ false) (tries base a n)
unfolding tries
apart_from base x a zero h k = tt
apart_from base x a (suc n) h k = (
  false_from_ne_true _ (λ e. let q : x ≡ a = merged_id-number base x a (omega arith) (omega arith) (same_bytes _ _ e) in absurd (omega arith)),
  apart_from base x (a + 1) n (omega arith) (omega arith),
)

distinct_tries : (base : List ℕ) (a n : ℕ) → a + n < limit → IsDistinct bytes_eq (tries base a n)
unfolding tries IsDistinct
distinct_tries base a zero k = tt
distinct_tries base a (suc n) k = (apart_from base a (a + 1) n (omega arith) (omega arith), distinct_tries base (a + 1) n (omega arith))

length-tries : (base : List ℕ) (a n : ℕ) → length (tries base a n) ≡ n
unfolding tries
length-tries base a zero = refl
length-tries base a (suc n) = ap suc (length-tries base (a + 1) n)

In-tries : (base : List ℕ) (a n : ℕ) (q : List ℕ) → In q (tries base a n) → (m : ℕ) × In m (range_with_len a n) × (merged_id base m ≡ q)
unfolding tries
In-tries base a zero q i = elim i [ ]
In-tries base a (suc n) q i = elim i as (λ w. (m : ℕ) × In m (range_with_len a (suc n)) × (merged_id base m ≡ q)) [
  | inl e ↦ (a, inl refl, e)
  | inr k ↦ let r = In-tries base (a + 1) n q k in (r.0, inr r.1, r.2)
]

-- one more number than there are ids: some number is free
pub some_free : (taken : List (List ℕ)) (base : List ℕ) → length taken + 2 < limit → list_any (λ n. not (lists_id taken (merged_id base n))) (range_with_len 1 (length taken + 1)) ≡ true
some_free taken base h =
    elim (list_any (λ n. not (lists_id taken (merged_id base n))) (range_with_len 1 (length taken + 1)))
    as (λ b. list_any (λ n. not (lists_id taken (merged_id base n))) (range_with_len 1 (length taken + 1)) ≡ b → b ≡ true) [
      | true ↦ λ t. refl
      | false ↦ λ t.
          let all : (q : List ℕ) → list_any (bytes_eq q) (tries base 1 (length taken + 1)) ≡ true → list_any (bytes_eq q) taken ≡ true = λ q e.
          (let r = list_any-In (bytes_eq q) _ e in
          let s = In-tries base 1 (length taken + 1) r.0 r.1 in
          elim (cases_Bool (lists_id taken (merged_id base s.0))) as (λ w. list_any (bytes_eq q) taken ≡ true) [
            | inl y ↦ subst (λ z. lists_id taken z ≡ true) (s.2 ∙ sym (same_bytes q r.0 r.2)) y
            | inr n ↦ absurd (true≢false (sym (In-list_any (λ n. not (lists_id taken (merged_id base n))) _ s.0 s.1 (ap not n)) ∙ t))
          ]) in
          let few = length-le_from_is_member nat_list_eq_equiv (tries base 1 (length taken + 1)) taken (distinct_tries base 1 (length taken + 1) (omega arith)) all in
          absurd (omega (arith, length-tries base 1 (length taken + 1)))
    ] refl

-- the new id is free, and its number is small
pub free_number-free : (taken : List (List ℕ)) (base : List ℕ) → length taken + 2 < limit → (lists_id taken (free_id taken base) ≡ false) × (free_number taken base < limit)
free_number-free taken base h =
    let r = find-Some (λ n. not (lists_id taken (merged_id base n))) (range_with_len 1 (length taken + 1)) (some_free taken base h) in
    let s = find-In (λ n. not (lists_id taken (merged_id base n))) (range_with_len 1 (length taken + 1)) r.0 r.1 in
    let at : free_number taken base ≡ r.0 = ap (λ o. unwrap_or o 0) r.1 in
    let w = In-range 1 (length taken + 1) r.0 s.0 in
    (ap (λ n. lists_id taken (merged_id base n)) at ∙ not-true _ s.1, subst (λ n. n < limit) (sym at) (omega arith))

-- ---- renaming of B

module _ (ids_a ids_b : List (List ℕ)) (is_joined : List ℕ → Bool) (few : length ids_a + length ids_b + 2 < limit) where
  rename : List ℕ → List ℕ
  rename = renamed_b ids_a ids_b is_joined

  few_both : length (ids_a ++ ids_b) + 2 < limit
  few_both = subst (λ n. n + 2 < limit) (sym (length-append ids_a ids_b)) few

  has-append : (x : List ℕ) → lists_id (ids_a ++ ids_b) x ≡ (lists_id ids_a x || lists_id ids_b x)
  has-append x = list_any-append (bytes_eq x) ids_a ids_b

  abbrev Kind_of_name : List ℕ → Type 0
  Kind_of_name x = ((rename x ≡ x) × ((lists_id ids_a x ≡ false) ⊎ (is_joined x ≡ true))) ⊎ (rename x ≡ free_id (ids_a ++ ids_b) x)

  -- an id stays, where A lacks it or it is joined, or it gets a free one
  kind_of_name : (x : List ℕ) → Kind_of_name x
  unfolding rename
  kind_of_name x =
      elim (lists_id ids_a x) as (λ h. lists_id ids_a x ≡ h → ((if not h || is_joined x then x else free_id (ids_a ++ ids_b) x) ≡ x) × ((lists_id ids_a x ≡ false) ⊎ (is_joined x ≡ true)) ⊎ ((if not h || is_joined x then x else free_id (ids_a ++ ids_b) x) ≡ free_id (ids_a ++ ids_b) x)) [
        | false ↦ λ t. inl (refl, inl t)
        | true ↦ λ t. elim (is_joined x) as (λ j. is_joined x ≡ j → ((if j then x else free_id (ids_a ++ ids_b) x) ≡ x) × ((lists_id ids_a x ≡ false) ⊎ (is_joined x ≡ true)) ⊎ ((if j then x else free_id (ids_a ++ ids_b) x) ≡ free_id (ids_a ++ ids_b) x)) [
          | true ↦ λ u. inl (refl, inr u)
          | false ↦ λ u. inr refl
        ] refl
      ] refl

  free_apart : (x : List ℕ) → (lists_id ids_a (free_id (ids_a ++ ids_b) x) ≡ false) × (lists_id ids_b (free_id (ids_a ++ ids_b) x) ≡ false)
  free_apart x = or_parts _ _ (sym (has-append _) ∙ (free_number-free (ids_a ++ ids_b) x few_both).0)

  -- an id of B that gets an id of A is joined, and stays
  pub renamed_into_a : (x : List ℕ) → lists_id ids_a (renamed_b ids_a ids_b is_joined x) ≡ true → (renamed_b ids_a ids_b is_joined x ≡ x) × (is_joined x ≡ true)
  unfolding rename
  renamed_into_a x h = elim (kind_of_name x) as (λ w. (rename x ≡ x) × (is_joined x ≡ true)) [
    | inl s ↦ (
      s.0,
      elim s.1 as (λ w. is_joined x ≡ true) [
        | inl lacks ↦ absurd (true≢false (sym h ∙ ap (lists_id ids_a) s.0 ∙ lacks))
        | inr j ↦ j
      ],
    )
    | inr f ↦ absurd (true≢false (sym h ∙ ap (lists_id ids_a) f ∙ (free_apart x).0))
  ]

  pub joined_stays : (x : List ℕ) → is_joined x ≡ true → renamed_b ids_a ids_b is_joined x ≡ x
  joined_stays x j = elim (lists_id ids_a x) as (λ h. (if not h || is_joined x then x else free_id (ids_a ++ ids_b) x) ≡ x) [
    | false ↦ refl
    | true ↦ ap (λ b. if b then x else free_id (ids_a ++ ids_b) x) j
  ]

  -- two ids of B stay two
  pub renamed_apart : (x y : List ℕ) → lists_id ids_b x ≡ true → lists_id ids_b y ≡ true → renamed_b ids_a ids_b is_joined x ≡ renamed_b ids_a ids_b is_joined y → x ≡ y
  unfolding rename
  renamed_apart x y hx hy e =
      elim (kind_of_name x) as (λ w. x ≡ y) [
        | inl s ↦ elim (kind_of_name y) as (λ w. x ≡ y) [
          | inl t ↦ sym s.0 ∙ e ∙ t.0
          | inr g ↦ absurd (true≢false (sym hx ∙ ap (lists_id ids_b) (sym s.0 ∙ e ∙ g) ∙ (free_apart y).1))
        ]
        | inr f ↦ elim (kind_of_name y) as (λ w. x ≡ y) [
          | inl t ↦ absurd (true≢false (sym hy ∙ ap (lists_id ids_b) (sym t.0 ∙ sym e ∙ f) ∙ (free_apart x).1))
          | inr g ↦ merged_id-base x y _ _ (free_number-free (ids_a ++ ids_b) x few_both).1 (free_number-free (ids_a ++ ids_b) y few_both).1 (sym f ∙ e ∙ g)
        ]
      ]
