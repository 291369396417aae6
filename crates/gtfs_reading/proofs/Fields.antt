-- The fields of a row, and the lists of rows that a loop makes.
use Rattle.std.proofs.Common.{◌≡◌, ◌<◌, ◌≤◌, ◌+◌, ◌∷◌, ◌++◌, [], ℕ, List, length, map, take, get_or, true, Bool, Option, Some, None, option_map, refl, sym, ap, subst, ◌∙◌, arith}
use Rattle.std.specs.List.{All, list_all}
use Rattle.std.proofs.lemmas.List.{map_more, map_push, take_all}
use Rattle.std.proofs.lemmas.List.Folds.{list_all-append}
use Rattle.gtfs_table.specs.Rows.{is_row, records_in}
use Rattle.gtfs_table.specs.Tables.{Dataset, field_under, record_at}
use Rattle.gtfs_table.specs.declared.file.File.{File}
use Rattle.gtfs_schema.specs.steps.Ids.{FirstRows, first_rows, rows_by_number}
use Rattle.gtfs_reading.specs.ColumnIndices.{column_indices}
use Rattle.gtfs_reading.proofs.ByIds.{rows_are}
use Rattle.std.proofs.lemmas.List.Elements.{All-head}
use Rattle.std.proofs.lemmas.Simd.{map-map}
use Rattle.gtfs_reading.proofs.CalendarFacts.{head_of}

-- the text of a field by the place of its column
pub field_at : (d : Dataset) (x : File) (n : ℕ) (r : List (List ℕ)) (columns : List (Option ℕ)) → r ≡ record_at (records_in d x) n → columns ≡ column_indices d x
    → (k : ℕ) → field_under r (get_or columns k None) ≡ field_under (record_at (records_in d x) n) (get_or (column_indices d x) k None)
field_at d x n r columns read found k i = field_under (read i) (get_or (found i) k None)

-- an item for each of the first numbers
pub listed_next_of : {A X Y : Type 0} (f : X → Y) (g : A → Y) (ns : List A) (k : ℕ) (out : List X) (x : X) (z : A) → k < length ns
    → map f out ≡ map g (take k ns) → f x ≡ g (get_or ns k z) → map f (out ++ x ∷ []) ≡ map g (take (k + 1) ns)
listed_next_of f g ns k out x z h before here =
    map_push f out x ∙ ap (λ ys. ys ++ f x ∷ []) before ∙ ap (λ y. map g (take k ns) ++ y ∷ []) here ∙ sym (map_more g ns k z h)

pub listed_next : {X Y : Type 0} (f : X → Y) (g : ℕ → Y) (ns : List ℕ) (k : ℕ) (out : List X) (x : X) → k < length ns
    → map f out ≡ map g (take k ns) → f x ≡ g (get_or ns k 0) → map f (out ++ x ∷ []) ≡ map g (take (k + 1) ns)
listed_next f g ns k out x h before here = listed_next_of f g ns k out x 0 h before here

pub listed_all : {A X Y : Type 0} (f : X → Y) (g : A → Y) (ns : List A) (k : ℕ) (out : List X) → length ns ≤ k
    → map f out ≡ map g (take k ns) → map f out ≡ map g ns
listed_all f g ns k out h before = before ∙ ap (map g) (take_all k ns h)

-- a row of a column by the number of its id
pub numbered_row : (d : Dataset) (x : File) (name : List ℕ) (i : FirstRows) → i ≡ first_rows d x name → (k n : ℕ) → k < length (rows_by_number i)
    → n ≡ get_or (rows_by_number i) k 0 → is_row (records_in d x) n ≡ true
numbered_row d x name i is k n h same =
    ap (is_row (records_in d x)) same ∙ subst (λ i. k < length (rows_by_number i) → is_row (records_in d x) (get_or (rows_by_number i) k 0) ≡ true) (sym is) (rows_are d x name k 0) h

-- numbers taken out of their types
pub numbers_of : {N Y : Type 0} (number : N → ℕ) (f : ℕ → Y) (o : Option N) → option_map (λ n. f (number n)) o ≡ option_map f (option_map number o)
numbers_of number f None = refl
numbers_of number f (Some n) = refl

-- one more that passes
pub all_next : {X : Type 0} (p : X → Bool) (xs : List X) (x : X) → list_all p xs ≡ true → p x ≡ true → list_all p (xs ++ x ∷ []) ≡ true
all_next p xs x before here = list_all-append p xs (x ∷ []) ∙ rw (before, here) refl

-- what is read of the rows that stand beside ids
pub read_next : {A B Y : Type 0} (f : B → Y) (rs : List (A × B)) (k : ℕ) (out : List Y) (y : Y) (z : A × B) → k < length rs
    → out ≡ map f (map (λ r. r.1) (take k rs)) → y ≡ f (get_or rs k z).1 → out ++ y ∷ [] ≡ map f (map (λ r. r.1) (take (k + 1) rs))
read_next f rs k out y z h before here =
    ap (λ ys. ys ++ y ∷ []) (before ∙ map-map f (λ r. r.1) (take k rs)) ∙ ap (λ x. map (λ r. f r.1) (take k rs) ++ x ∷ []) here
    ∙ sym (map-map f (λ r. r.1) (take (k + 1) rs) ∙ map_more (λ r. f r.1) rs k z h)

-- the first of the rows that stand beside ids
pub none_beside : {A : Type 0} (rs : List (A × ℕ)) → length rs < 1 → head_of (map (λ r. r.1) rs) ≡ None
none_beside [] h = refl
none_beside (r ∷ rs) h = absurd (omega arith)

pub first_beside : {A : Type 0} (rs : List (A × ℕ)) (z : A × ℕ) → 1 ≤ length rs → head_of (map (λ r. r.1) rs) ≡ Some (get_or rs 0 z).1
first_beside [] z h = absurd (omega arith)
first_beside (r ∷ rs) z h = refl

pub all_beside : {A : Type 0} (P : ℕ → Type 0) (rs : List (A × ℕ)) (z : A × ℕ) → All P (map (λ r. r.1) rs) → 1 ≤ length rs → P (get_or rs 0 z).1
all_beside P [] z all h = absurd (omega arith)
all_beside P (r ∷ rs) z all h = All-head P r.1 (map (λ r. r.1) rs) all
