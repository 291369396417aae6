-- A tree under texts, seen as the map from the texts' bytes.
use Rattle.std.proofs.Common.{◌≡◌, ℕ, Less, Bool, true, false, cond, T, List, [], ◌∷◌, map, refl, sym, ap, subst, ◌∙◌, Some, None, unwrap_or, String, string_bytes, Bor, IsSome}
use Rattle.std.specs.FinMap as fin
use Rattle.std.specs.FinMap.Entries.{below_all}
use Rattle.std.specs.BTreeMap as tree
use Rattle.std.specs.Map.{lookup, keys_of}
use Rattle.std.specs.Map.Iter.{deref}
use Rattle.std.specs.String.{string_cmp}
use Rattle.std.specs.Ordering.{nat_cmp, is_eq, is_lt, eq_by_cmp}
use Rattle.std.specs.Cmp.Lexicographic.{slice_cmp}
use Rattle.std.specs.List.Sorted.{IsStrictlySortedBy}
use Rattle.std.specs.List.{AllByRecursion}
use Rattle.std.proofs.lemmas.Cmp.{eq_by_cmp_equiv}
use Rattle.std.proofs.lemmas.Map.Text.{is_eq-slice_cmp, btree_map_updates_text}
use Rattle.gtfs_field.proofs.OrderingFacts.{equal}
use Rattle.gtfs_field.proofs.TestFacts.{both_so}
use Rattle.gtfs_field.proofs.TextOrderFacts.{texts_total, texts_exact}
use Rattle.gtfs_field.specs.TextOrder.{text_cmp}
use Rattle.gtfs_devices.specs.Folder.{Files, Store, put, put_folder}
use Rattle.gtfs_devices.specs.ByText.{by_text}

-- an entry under the bytes of its text
abbrev bytes_of : {X Y : Type 0} → String Y × X → List ℕ × X
bytes_of e = (string_bytes e.0, e.1)

find-bytes_of : {X Y : Type 0} (q : List ℕ) (es : List (String Y × X)) → fin.find text_cmp q (map bytes_of es) ≡ lookup (tree.is_at (λ k. slice_cmp nat_cmp q (string_bytes k))) es
find-bytes_of q [] = refl
find-bytes_of q (e ∷ es) = ap (cond (is_eq (text_cmp q (string_bytes e.0))) (Some e.1)) (find-bytes_of q es)

-- a look-up finds what the tree has at the text
pub get-by_text : {X Y : Type 0} (m : tree.BTreeMap (String Y) X) (q : List ℕ) → fin.get (by_text m.entries) q ≡ tree.get_by_text m q
get-by_text m q = fin.get-from_entries texts_total (map bytes_of m.entries) q ∙ find-bytes_of q m.entries

-- a tree that has a new value at one text and is else as it was
pub by_text-updated : {X Y : Type 0} (text : List ℕ) (x : X) (m n : tree.BTreeMap (String Y) X) → tree.UpdatesBy string_cmp (λ k. slice_cmp nat_cmp text (string_bytes k)) m n (Some x) → by_text n.entries ≡ fin.insert (by_text m.entries) text x
by_text-updated text x m n u = fin.same_map texts_total texts_exact _ _ (λ q.
    get-by_text n q ∙ btree_map_updates_text text m n (Some x) u q
    ∙ ap (λ b. cond b (Some x) (tree.get_by_text m q)) (sym (is_eq-slice_cmp text q) ∙ (eq_by_cmp_equiv texts_total).symm text q)
    ∙ sym (fin.get-insert texts_total (by_text m.entries) text x q ∙ ap (cond (eq_by_cmp text_cmp q text) (Some x)) (get-by_text m q)))

-- the same where a new entry was inserted
pub by_text-inserted : {X Y : Type 0} (k : String Y) (x : X) (m n : tree.BTreeMap (String Y) X) → tree.Updates string_cmp m n k (Some x) → by_text n.entries ≡ fin.insert (by_text m.entries) (string_bytes k) x
by_text-inserted k x m n u = by_text-updated (string_bytes k) x m n u

-- ---- the keys in order

below-bytes_of : {X Y : Type 0} (k : String Y) (es : List (String Y × X)) → AllByRecursion (λ y. string_cmp k y ≡ Less) (keys_of es) → T (below_all text_cmp (string_bytes k) (map bytes_of es))
below-bytes_of k [] p = tt
below-bytes_of k (e ∷ es) p = both_so (is_lt (string_cmp k e.0)) _ (subst (λ r. T (is_lt r)) (sym p.0) tt) (below-bytes_of k es p.1)

sorted-bytes_of : {X Y : Type 0} (es : List (String Y × X)) → IsStrictlySortedBy string_cmp (keys_of es) → T (fin.is_sorted text_cmp (map bytes_of es))
unfolding IsStrictlySortedBy
sorted-bytes_of [] p = tt
sorted-bytes_of (e ∷ es) p = both_so (below_all text_cmp (string_bytes e.0) (map bytes_of es)) _ (below-bytes_of e.0 es p.0) (sorted-bytes_of es p.1)

-- the map of sorted entries has just these
entries-from_entries : {X : Type 0} (es : List (List ℕ × X)) → T (fin.is_sorted text_cmp es) → fin.entries (fin.from_entries {R = text_cmp} es) ≡ es
entries-from_entries es p =
    ap fin.entries (fin.same_map texts_total texts_exact (fin.from_entries es) (fin.from_sorted es) (λ q. fin.get-from_entries texts_total es q ∙ sym (fin.get-from_sorted text_cmp es q p)))
    ∙ fin.entries-from_sorted text_cmp es p

map-bytes_of : {X Y : Type 0} (es : List (String Y × X)) → map (λ e. e.0) (map bytes_of es) ≡ map string_bytes (keys_of es)
map-bytes_of [] = refl
map-bytes_of (e ∷ es) = ap (λ ks. string_bytes e.0 ∷ ks) (map-bytes_of es)

-- the names in order are the tree's keys
pub keys-by_text : {X Y : Type 0} (m : tree.BTreeMap (String Y) X) → tree.IsOrdered string_cmp m → fin.keys (by_text m.entries) ≡ map string_bytes (tree.keys m)
keys-by_text m o = ap (map (λ e. e.0)) (entries-from_entries _ (sorted-bytes_of m.entries o)) ∙ map-bytes_of m.entries

-- the bytes of lent texts
pub map-deref : {Y : Type 0} (ks : List (Bor (String Y))) → map (λ k. string_bytes k.now) ks ≡ map string_bytes (map deref ks)
map-deref [] = refl
map-deref (k ∷ ks) = ap (λ ts. string_bytes k.now ∷ ts) (map-deref ks)

-- ---- a store with one more file

same-or : {X : Type 0} (m : fin.FinMap text_cmp X) (k q : List ℕ) (x : X) → fin.get m k ≡ Some x → (b : Bool) → eq_by_cmp text_cmp q k ≡ b → cond b (Some x) (fin.get m q) ≡ fin.get m q
same-or m k q x h true e = sym h ∙ fin.get_tied texts_total m q k (equal (text_cmp q k) e)
same-or m k q x h false e = refl

-- to insert what a map has is to change nothing
pub insert-same : {X : Type 0} (m : fin.FinMap text_cmp X) (k : List ℕ) (x : X) → fin.get m k ≡ Some x → fin.insert m k x ≡ m
insert-same m k x h = fin.same_map texts_total texts_exact _ _ (λ q. fin.get-insert texts_total m k x q ∙ same-or m k q x h (eq_by_cmp text_cmp q k) refl)

-- a file in a folder that is there
pub put-present : (store : Store) (dir name bytes : List ℕ) (files : Files) → fin.get store dir ≡ Some files → put store dir name bytes ≡ fin.insert store dir (fin.insert files name bytes)
put-present store dir name bytes files h = ap (λ found. fin.insert store dir (fin.insert (unwrap_or found fin.empty) name bytes)) h

-- a file in a folder that is absent
pub put-absent : (store : Store) (dir name bytes : List ℕ) → fin.get store dir ≡ None → put store dir name bytes ≡ fin.insert store dir (fin.insert fin.empty name bytes)
put-absent store dir name bytes h = ap (λ found. fin.insert store dir (fin.insert (unwrap_or found fin.empty) name bytes)) h

-- a file written into the folder that a look-up lent
pub put-through : {Y : Type 0} (store : Store) (m n : tree.BTreeMap (String Y) Files) (dir name bytes : List ℕ) (old new : Files) → by_text m.entries ≡ store → tree.get_by_text m dir ≡ Some old
    → (IsSome (tree.get_by_text m dir) → tree.UpdatesBy string_cmp (λ k. slice_cmp nat_cmp dir (string_bytes k)) m n (Some new)) → new ≡ fin.insert old name bytes → by_text n.entries ≡ put store dir name bytes
put-through store m n dir name bytes old new v g u w =
    let there : fin.get store dir ≡ Some old = ap (λ s. fin.get s dir) (sym v) ∙ get-by_text m dir ∙ g in
    by_text-updated dir new m n (u (subst IsSome (sym g) refl)) ∙ ap (λ s. fin.insert s dir new) v ∙ ap (λ f. fin.insert store dir f) w ∙ sym (put-present store dir name bytes old there)

-- nothing written into it
pub kept-through : {Y : Type 0} (store : Store) (m n : tree.BTreeMap (String Y) Files) (dir : List ℕ) (old new : Files) → by_text m.entries ≡ store → tree.get_by_text m dir ≡ Some old
    → (IsSome (tree.get_by_text m dir) → tree.UpdatesBy string_cmp (λ k. slice_cmp nat_cmp dir (string_bytes k)) m n (Some new)) → new ≡ old → by_text n.entries ≡ store
kept-through store m n dir old new v g u w =
    let there : fin.get store dir ≡ Some old = ap (λ s. fin.get s dir) (sym v) ∙ get-by_text m dir ∙ g in
    by_text-updated dir new m n (u (subst IsSome (sym g) refl)) ∙ ap (λ s. fin.insert s dir new) v ∙ ap (λ f. fin.insert store dir f) w ∙ insert-same store dir old there

-- a folder that is there
pub put_folder-present : (store : Store) (dir : List ℕ) (files : Files) → fin.get store dir ≡ Some files → put_folder store dir ≡ store
put_folder-present store dir files h = ap (λ found. fin.insert store dir (unwrap_or found fin.empty)) h ∙ insert-same store dir files h
