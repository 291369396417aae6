-- The tables of what a device holds.
use Rattle.std.proofs.Common.{◌≡◌, ◌<◌, ◌≤◌, ◌+◌, ◌∷◌, ◌++◌, ◌∙◌, [], ℕ, zero, suc, List, Option, Some, None, length, take, get_or, refl, sym, ap, arith}
use Rattle.std.specs.Prelude.{option_map, filter, not, OnErr, Ok, Err, Result}
use Rattle.std.specs.FinMap as finmap
use Rattle.std.proofs.lemmas.List.{take_more}
use Rattle.std.proofs.lemmas.List.Elements.{All-push}
use Rattle.gtfs_devices.specs.Device.{counted, counted_times, calls_after, Calls, MakesCalls, MakesSomeCalls, Rises}
use Rattle.gtfs_table.specs.FileNames.{file_name}
use Rattle.gtfs_devices.specs.Folder.{file_in, Files, Store, Finds, Lists, RefusesRead}
use Rattle.gtfs_table.specs.TablesRead.{AllHoldWithin, HoldsTable, HoldsDataset, HoldsWithin, RefusesDataset, SetsTables, dataset_of, is_kept, kept_files, table_in, tables_set}
use Rattle.gtfs_table.specs.Tables.{Dataset, Table, absent, empty_dataset, table_of_bytes, with_table}
use Rattle.gtfs_table.specs.declared.file.File.{File}
use Rattle.gtfs_devices.specs.declared.folders.FolderFault.{FolderFault}
use Rattle.gtfs_devices.specs.declared.folders.FolderFault.TheVariants.{Read, TooLarge, OutOfMemory, NoFolder, Write}

-- the file that was found, as a table
found-in : (o : Option Files) (x : File) (bytes : Option (List ℕ)) → option_map (λ files. finmap.get files (file_name x)) o ≡ Some bytes
    → option_map (λ files. table_in files x) o ≡ Some (table_of_bytes bytes)
found-in None x bytes e = cc e
found-in (Some files) x bytes e =
    let same : finmap.get files (file_name x) ≡ bytes = cc e in
    ap (λ (b : Option (List ℕ)). Some (table_of_bytes b)) same

pub finds-table : (told : Option Store) (dir : List ℕ) (x : File) (bytes : Option (List ℕ)) → Finds told dir (file_name x) bytes → HoldsTable told dir x (table_of_bytes bytes)
finds-table None dir x bytes h = tt
finds-table (Some store) dir x bytes h = found-in (finmap.get store dir) x bytes h

pub table-none : table_of_bytes None ≡ absent
unfolding table_of_bytes
table-none = refl

set-more : (table : File → Table) (xs : List File) (x : File) (d : Dataset) → tables_set table (xs ++ x ∷ []) d ≡ with_table (tables_set table xs d) x (table x)
set-more table [] x d = refl
set-more table (y ∷ xs) x d = set-more table xs x (with_table d y (table y))

pub sets-none : (told : Option Store) (dir : List ℕ) (d : Dataset) → SetsTables told dir (take 0 kept_files) d d
sets-none None dir d = tt
sets-none (Some store) dir d = λ files there. refl

table-held : (o : Option Files) (files : Files) (x : File) (t : Table) → o ≡ Some files → option_map (λ (fs : Files). table_in fs x) o ≡ Some t → t ≡ table_in files x
table-held o files x t e h = let same : Some (table_in files x) ≡ Some t = rw e at h in cc same

pub sets-more : (told : Option Store) (dir : List ℕ) (n : ℕ) (x : File) (old d e : Dataset) (t : Table) → SetsTables told dir (take n kept_files) old d → n < length kept_files
    → HoldsTable told dir (get_or kept_files n x) t → e ≡ with_table d (get_or kept_files n x) t → SetsTables told dir (take (n + 1) kept_files) old e
sets-more None dir n x old d e t h lt holds same = tt
sets-more (Some store) dir n x old d e t h lt holds same = λ files there.
    let table = table-held (finmap.get store dir) files (get_or kept_files n x) t there holds in
    let whole = set-more (table_in files) (take n kept_files) (get_or kept_files n x) old in
    rw (take_more kept_files n x lt, whole, same, h files there, table) refl

held-in : (o : Option Files) (files : Files) (d : Dataset) → o ≡ Some files → d ≡ dataset_of files → option_map dataset_of o ≡ Some d
held-in o files d e h = rw (e, h) refl

listed : (o : Option Files) (names : List (List ℕ)) → option_map (λ (files : Files). finmap.keys files) o ≡ Some names → (files : Files) × (o ≡ Some files) × (names ≡ finmap.keys files)
listed None names e = absurd (cc e)
listed (Some files) names e = (files, refl, (let same : finmap.keys files ≡ names = cc e in sym same))

pub sets-all : (told : Option Store) (dir : List ℕ) (names : List (List ℕ)) (old new : Dataset) → Lists told dir names
    → old ≡ record empty_dataset { others = filter (λ name. not (is_kept name)) names } → SetsTables told dir kept_files old new → HoldsDataset told dir new
sets-all None dir names old new h e sets = tt
sets-all (Some store) dir names old new h e sets =
    let (files, there, keys) = listed (finmap.get store dir) names h in
    let read = sets files there ∙ ap (λ (d : Dataset). tables_set (table_in files) kept_files d) e in
    let named = read ∙ ap (λ (ns : List (List ℕ)). tables_set (table_in files) kept_files (record empty_dataset { others = filter (λ name. not (is_kept name)) ns })) keys in
    held-in (finmap.get store dir) files new there named

-- a fault of one call, as one of the whole
pub rises-from : (n m k : ℕ) → n ≤ m → Rises m k → Rises n k
rises-from n m k h r = omega arith

pub refused-read : (fault : FolderFault) (limit : ℕ) (told : Option Store) (dir : List ℕ) (x : File) (n m k : ℕ) → n ≤ m → RefusesRead fault limit told dir (file_name x) m k
    → RefusesDataset fault limit told dir n k
refused-read Read limit told dir x n m k h r = rises-from n m k h r
refused-read TooLarge limit told dir x n m k h r = (x, r)
refused-read OutOfMemory limit told dir x n m k h r = tt
refused-read NoFolder limit told dir x n m k h r = r
refused-read Write limit told dir x n m k h r = absurd r

-- ---- the limit

found-within : (limit : ℕ) (found : Option (Option (List ℕ))) (read : List ℕ) → found ≡ Some (Some read) → length read ≤ limit → (bytes : List ℕ) → found ≡ Some (Some bytes) → length bytes ≤ limit
found-within limit found read e short bytes f = let same : read ≡ bytes = cc (e, f) in rw (← same) short

none-within : (limit : ℕ) (found : Option (Option (List ℕ))) → found ≡ Some None → (bytes : List ℕ) → found ≡ Some (Some bytes) → length bytes ≤ limit
none-within limit found e bytes f = absurd (cc (e, f))

-- a file that is absent is not too long
pub within-absent : (limit : ℕ) (told : Option Store) (dir : List ℕ) (x : File) → Finds told dir (file_name x) None → HoldsWithin limit told dir x
within-absent limit None dir x found = tt
within-absent limit (Some store) dir x found = none-within limit (file_in store dir (file_name x)) found

pub within-none : (limit : ℕ) (told : Option Store) (dir : List ℕ) → AllHoldWithin limit told dir (take 0 kept_files)
within-none limit told dir k d lt = absurd (omega (arith, lt))

pub within-more : (limit : ℕ) (told : Option Store) (dir : List ℕ) (n : ℕ) (x : File) → AllHoldWithin limit told dir (take n kept_files) → n < length kept_files
    → HoldsWithin limit told dir (get_or kept_files n x) → AllHoldWithin limit told dir (take (n + 1) kept_files)
within-more limit told dir n x all lt one = rw (take_more kept_files n x lt) (All-push (λ (y : File). HoldsWithin limit told dir y) (take n kept_files) (get_or kept_files n x) all one)

-- ---- the calls

pub on_err-always : {T E : Type 0} (r : Result T E) (P : Type 0) → P → OnErr r P
on_err-always (Ok x) P p = tt
on_err-always (Err e) P p = p

pub calls-none : (a : Option Calls) → MakesCalls 0 a a
calls-none None = tt
calls-none (Some a) = refl

times-more : (n m count : ℕ) → counted_times m (counted_times n count) ≡ counted_times (n + m) count
times-more n zero count = let e : n + 0 ≡ n = omega arith in rw e refl
times-more n (suc m) count = let e : n + suc m ≡ suc (n + m) = omega arith in rw e (ap counted (times-more n m count))

pub calls-more : (n m : ℕ) (a b c : Option Calls) → MakesCalls n a b → MakesCalls m b c → MakesCalls (n + m) a c
calls-more n m None b c p q = tt
calls-more n m (Some a) None c p q = absurd (cc p)
calls-more n m (Some a) (Some b) c p q =
    let first : b ≡ calls_after n a = cc p in
    q ∙ ap (λ (x : Calls). Some (calls_after m x)) first ∙ ap (λ (made : ℕ). Some (record { made = made; failing = a.failing })) (times-more n m a.made)

pub calls-some : (most n : ℕ) (a b : Option Calls) → 1 ≤ n → n ≤ most → MakesCalls n a b → MakesSomeCalls most a b
calls-some most n a b some few made = record { count = n; some = some; few = few; made = made }

-- one call, and then some more
pub calls-then : (most : ℕ) (a b c : Option Calls) → MakesCalls 1 a b → MakesSomeCalls most b c → MakesSomeCalls (most + 1) a c
calls-then most a b c first later = record {
  count = 1 + later.count;
  some = omega arith;
  few = omega (arith, later.few);
  made = calls-more 1 later.count a b c first later.made;
}
