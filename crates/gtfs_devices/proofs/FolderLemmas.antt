-- What a store holds after one file, or one folder, was put into it.
use Rattle.std.proofs.Common.{◌≡◌, ◌≢◌, ℕ, Bool, true, false, cond, List, ap, refl, ◌∙◌, Some, option_map}
use Rattle.std.specs.FinMap as fin
use Rattle.std.specs.Ordering.{eq_by_cmp}
use Rattle.std.proofs.lemmas.Cmp.{eq_by_cmp_equiv}
use Rattle.gtfs_field.proofs.OrderingFacts.{equal}
use Rattle.gtfs_devices.specs.Folder.{Store, files_of, file_in, put}
use Rattle.gtfs_field.proofs.TextOrderFacts.{texts_total, texts_exact}
use Rattle.gtfs_field.specs.TextOrder.{text_cmp}

same : (text : List ℕ) → eq_by_cmp text_cmp text text ≡ true
same text = (eq_by_cmp_equiv texts_total).refl text

decided : (a b : List ℕ) → a ≢ b → (t : Bool) → eq_by_cmp text_cmp a b ≡ t → eq_by_cmp text_cmp a b ≡ false
decided a b n true e = absurd (n (texts_exact a b (equal (text_cmp a b) e)))
decided a b n false e = e

other : (a b : List ℕ) → a ≢ b → eq_by_cmp text_cmp a b ≡ false
other a b n = decided a b n (eq_by_cmp text_cmp a b) refl

module _ {X : Type 0} (m : fin.FinMap text_cmp X) (k : List ℕ) (x : X) where
  -- a map has what was inserted
  pub get-insert-same : fin.get (fin.insert m k x) k ≡ Some x
  get-insert-same = fin.get-insert texts_total m k x k ∙ ap (λ b. cond b (Some x) (fin.get m k)) (same k)

  -- and at any other text what it had
  pub get-insert-other : (q : List ℕ) → q ≢ k → fin.get (fin.insert m k x) q ≡ fin.get m q
  get-insert-other q n = fin.get-insert texts_total m k x q ∙ ap (λ b. cond b (Some x) (fin.get m q)) (other q k n)

module _ (store : Store) (dir name bytes : List ℕ) where
  -- the file that was put is there
  pub file_in-put : file_in (put store dir name bytes) dir name ≡ Some (Some bytes)
  file_in-put =
      ap (option_map (λ files. fin.get files name)) (get-insert-same store dir (fin.insert (files_of store dir) name bytes))
      ∙ ap Some (get-insert-same (files_of store dir) name bytes)

  -- another file of the folder is as it was
  pub file_in-put-other_file : (q : List ℕ) → q ≢ name → file_in (put store dir name bytes) dir q ≡ Some (fin.get (files_of store dir) q)
  file_in-put-other_file q n =
      ap (option_map (λ files. fin.get files q)) (get-insert-same store dir (fin.insert (files_of store dir) name bytes))
      ∙ ap Some (get-insert-other (files_of store dir) name bytes q n)

  -- another folder is as it was
  pub get-put-other_folder : (q : List ℕ) → q ≢ dir → fin.get (put store dir name bytes) q ≡ fin.get store q
  get-put-other_folder q n = get-insert-other store dir (fin.insert (files_of store dir) name bytes) q n
