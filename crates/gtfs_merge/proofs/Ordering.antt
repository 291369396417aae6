-- Rows that are gathered by their numbers, and sorted.
use Rattle.std.proofs.Common.{◌≡◌, ◌<◌, ◌+◌, ◌++◌, ℕ, suc, Bool, List, [], ◌∷◌, sym, ap, ◌∙◌, subst, length, map, filter, get_or, append_assoc, arith}
use Rattle.std.specs.List.{range_with_len}
use Rattle.std.specs.List.Sorted.{IsSorted}
use Rattle.std.specs.Ordering.{is_lt, on}
use Rattle.std.proofs.lemmas.List.{get_or-map, get_or_default, length-map, map-append}
use Rattle.std.proofs.lemmas.List.Elements.{filter-append}
use Rattle.gtfs_field.proofs.ListFacts.{range-push as range-more}
use Rattle.gtfs_field.specs.TextOrder.{text_cmp}
use Rattle.gtfs_merge.specs.MergeEntries.{Entry, entry_value}
use Rattle.gtfs_merge.specs.declared.kind.Side.TheVariants as side
use Rattle.gtfs_merge.specs.declared.numbering.sorted_rows.MergedRow.{MergedRow}

range-next : (n : ℕ) → range_with_len 0 (n + 1) ≡ range_with_len 0 n ++ n ∷ []
range-next n =
    let next : n + 1 ≡ suc n = omega arith in
    let last : 0 + n ≡ n = omega arith in
    ap (range_with_len 0) next ∙ range-more 0 n ∙ ap (λ j. range_with_len 0 n ++ j ∷ []) last

-- one more number, whose row was added
pub rows-more : {X : Type 0} (f : ℕ → X) (n : ℕ) (olds news : List X) → olds ≡ map f (range_with_len 0 n) → news ≡ olds ++ f n ∷ [] → news ≡ map f (range_with_len 0 (n + 1))
rows-more f n olds news old new =
    new ∙ ap (λ l. l ++ f n ∷ []) old ∙ sym (map-append f (range_with_len 0 n) (n ∷ [])) ∙ ap (map f) (sym (range-next n))

-- one more number, whose row was added if it passes
pub passing-more : {X : Type 0} (p : ℕ → Bool) (f : ℕ → X) (n : ℕ) (start olds news : List X) → olds ≡ start ++ map f (filter p (range_with_len 0 n)) → news ≡ olds ++ map f (filter p (n ∷ []))
    → news ≡ start ++ map f (filter p (range_with_len 0 (n + 1)))
passing-more p f n start olds news old new =
    new ∙ ap (λ l. l ++ map f (filter p (n ∷ []))) old
    ∙ append_assoc start (map f (filter p (range_with_len 0 n))) (map f (filter p (n ∷ [])))
    ∙ ap (λ l. start ++ l) (sym (map-append f (filter p (range_with_len 0 n)) (filter p (n ∷ []))) ∙ ap (map f) (sym (filter-append p (range_with_len 0 n) (n ∷ [])) ∙ ap (filter p) (sym (range-next n))))

-- a row of a list, as loops read it
abbrev pub row_at : List MergedRow → ℕ → MergedRow
row_at rows n = get_or rows n (record { id = record { ref_ptr = (0, 0); now = [] }; side = side.A; number = 0 })

pub own-row : (rows : List MergedRow) (n : ℕ) → n < length rows → row_at rows n ≡ get_or rows n (row_at rows n)
own-row rows n within = get_or_default rows n _ _ within

abbrev pub entry_id : Entry → List ℕ
entry_id e = e.id

pub sorted-values : (xs : List MergedRow) → IsSorted (λ x y. text_cmp (entry_value x).id (entry_value y).id) xs → IsSorted (on entry_id text_cmp) (map entry_value xs)
sorted-values [] up k d from within = let none : k + 1 < 0 = within in absurd (omega (arith, none))
sorted-values (x ∷ xs) up k d from within =
    let inside : k + 1 < length (x ∷ xs) = subst (λ m. k + 1 < m) (length-map (x ∷ xs) entry_value) within in
    let before : k < length (x ∷ xs) = omega (arith, inside) in
    let first = get_or-map entry_value (x ∷ xs) (k + 1) x d inside in
    let second = get_or-map entry_value (x ∷ xs) k x d before in
    ap (λ a. is_lt (text_cmp (entry_id a) (entry_id (get_or (map entry_value (x ∷ xs)) k d)))) first
    ∙ ap (λ b. is_lt (text_cmp (entry_value (get_or (x ∷ xs) (k + 1) x)).id (entry_id b))) second
    ∙ up k x from inside
