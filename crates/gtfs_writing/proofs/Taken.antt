-- Rows taken one after the other: the steps of a loop over a list, each item of which gives rows.
use Rattle.std.proofs.Common.{◌≡◌, ◌∙◌, ap, sym, ℕ, suc, ◌+◌, ◌<◌, ◌≤◌, ◌++◌, ◌∷◌, List, [], get_or, drop, length, map, refl, add-one, drop-cons}
use Rattle.std.proofs.lemmas.List.{drop_all, map-append}
use Rattle.gtfs_table.specs.Tables.{Records}
use Rattle.gtfs_writing.specs.TakenRecords.{Taking, with_fields, with_row, with_rows}

with_rows-append : {S : Type 0} (t : Taking S) (s : S) (a b : Records) → with_rows t s (a ++ b) ≡ with_rows t (with_rows t s a) b
with_rows-append t s [] b = refl
with_rows-append t s (r ∷ a) b = with_rows-append t (with_row t s r) a b

-- the cells of two lists of rows
pub mapped-append : {A B C : Type 0} (f : B → C) (h : A → B) (a b : List A) → map f (map h (a ++ b)) ≡ map f (map h a) ++ map f (map h b)
mapped-append f h a b = ap (map f) (map-append h a b) ∙ map-append f (map h a) (map h b)

-- after the first of the rows that are left
pub step : {S : Type 0} (t : Taking S) (left own later : Records) → left ≡ own ++ later → (s s' end : S)
    → with_rows t s left ≡ end → s' ≡ with_rows t s own → with_rows t s' later ≡ end
step t left own later split s s' end before taken =
    ap (λ u. with_rows t u later) taken ∙ sym (with_rows-append t s own later) ∙ sym (ap (with_rows t s) split) ∙ before

-- after the rows of the item at i
pub loop_step_at : {S X : Type 0} (t : Taking S) (rows : List X → Records) (own : X → Records) → ((x : X) (xs : List X) → rows (x ∷ xs) ≡ own x ++ rows xs)
    → (xs : List X) (i : ℕ) (d : X) → i < length xs → (s s' end : S)
    → with_rows t s (rows (drop i xs)) ≡ end → s' ≡ with_rows t s (own (get_or xs i d)) → with_rows t s' (rows (drop (i + 1) xs)) ≡ end
loop_step_at t rows own cons xs i d within s s' end before taken =
    let later = drop (suc i) xs in
    let x = get_or xs i d in
    let split : rows (drop i xs) ≡ own x ++ rows later = ap rows (drop-cons xs i d within) ∙ cons x later in
    ap (λ n. with_rows t s' (rows (drop n xs))) (add-one i) ∙ step t (rows (drop i xs)) (own x) (rows later) split s s' end before taken

pub loop_step : {S X : Type 0} (t : Taking S) (rows : List X → Records) (own : X → Records) → ((x : X) (xs : List X) → rows (x ∷ xs) ≡ own x ++ rows xs)
    → (xs : List X) (i : ℕ) (x : X) → i < length xs → x ≡ get_or xs i x → (s s' end : S)
    → with_rows t s (rows (drop i xs)) ≡ end → s' ≡ with_rows t s (own x) → with_rows t s' (rows (drop (i + 1) xs)) ≡ end
loop_step t rows own cons xs i x within is s s' end before taken =
    loop_step_at t rows own cons xs i x within s s' end before (taken ∙ ap (λ y. with_rows t s (own y)) is)

-- after the last item
pub loop_done : {S X : Type 0} (t : Taking S) (rows : List X → Records) → rows [] ≡ [] → (xs : List X) (i : ℕ) → length xs ≤ i → (s end : S)
    → with_rows t s (rows (drop i xs)) ≡ end → s ≡ end
loop_done t rows none xs i past s end before = sym (ap (λ ys. with_rows t s (rows ys)) (drop_all i xs past) ∙ ap (with_rows t s) none) ∙ before

-- ---- the fields of one row

pub with_fields-append : {S : Type 0} (t : Taking S) (s : S) (a b : List (List ℕ)) → with_fields t s (a ++ b) ≡ with_fields t (with_fields t s a) b
with_fields-append t s [] b = refl
with_fields-append t s (f ∷ a) b = with_fields-append t (t.next s f) a b

-- after the field of the item at i
pub field_step : {S X : Type 0} (t : Taking S) (fields : List X → List (List ℕ)) (own : X → List ℕ) → ((x : X) (xs : List X) → fields (x ∷ xs) ≡ own x ∷ fields xs)
    → (xs : List X) (i : ℕ) (d : X) → i < length xs → (s s' end : S)
    → with_fields t s (fields (drop i xs)) ≡ end → s' ≡ t.next s (own (get_or xs i d)) → with_fields t s' (fields (drop (i + 1) xs)) ≡ end
field_step t fields own cons xs i d within s s' end before taken =
    let later = drop (suc i) xs in
    let x = get_or xs i d in
    let split : fields (drop i xs) ≡ own x ∷ fields later = ap fields (drop-cons xs i d within) ∙ cons x later in
    ap (λ n. with_fields t s' (fields (drop n xs))) (add-one i) ∙ ap (λ u. with_fields t u (fields later)) taken ∙ sym (ap (with_fields t s) split) ∙ before

pub field_done : {S X : Type 0} (t : Taking S) (fields : List X → List (List ℕ)) → fields [] ≡ [] → (xs : List X) (i : ℕ) → length xs ≤ i → (s end : S)
    → with_fields t s (fields (drop i xs)) ≡ end → s ≡ end
field_done t fields none xs i past s end before = sym (ap (λ ys. with_fields t s (fields ys)) (drop_all i xs past) ∙ ap (with_fields t s) none) ∙ before
