-- Where a refused reading of a folder ended.
use Rattle.std.proofs.Common.{◌≡◌, ◌<◌, ◌+◌, ◌∷◌, ◌++◌, [], ℕ, zero, suc, List, Option, length, take, drop, get_or, refl, sym, ap, subst, arith}
use Rattle.std.specs.Prelude.{Result, Ok, Err, IfErr, IsErrAnd}
use Rattle.std.proofs.lemmas.List.{length-take}
use Rattle.gtfs_devices.specs.Device.{Calls, MakesCalls}
use Rattle.gtfs_table.specs.ReadingEnds.{EndsAtFile}
use Rattle.gtfs_table.specs.FileNames.{file_name}
use Rattle.gtfs_devices.specs.Folder.{Store, RefusesRead}
use Rattle.gtfs_table.specs.TablesRead.{AllHoldWithin, kept_files}
use Rattle.gtfs_table.specs.declared.file.File.{File}
use Rattle.gtfs_devices.specs.declared.folders.FolderFault.{FolderFault}
use Rattle.gtfs_table.proofs.FolderFacts.{calls-more}

-- a list around one of its members
around : {X : Type 0} (xs : List X) (n : ℕ) (d : X) → n < length xs → take n xs ++ get_or xs n d ∷ drop (suc n) xs ≡ xs
around [] n d lt = absurd (omega (arith, lt))
around (x ∷ xs) zero d lt = refl
around (x ∷ xs) (suc n) d lt = ap (λ rest. x ∷ rest) (around xs n d (omega (arith, lt)))

-- what holds of a fault holds where it is handed on
pub of-fault : {T E : Type 0} (r : Result T E) (P : E → Type 0) (fault : E) → IsErrAnd r (λ e. e ≡ fault) → P fault → IfErr r P
of-fault (Ok x) P fault same p = tt
of-fault (Err e) P fault same p = subst P (sym same) p

-- a device that tells the same, and has the same limit and count of failures, refused the file for the same
pub refused-from : (fault : FolderFault) (limit cap : ℕ) (told seen : Option Store) (dir name : List ℕ) (before middle after : ℕ) → cap ≡ limit → seen ≡ told → middle ≡ before
    → RefusesRead fault cap seen dir name middle after → RefusesRead fault limit told dir name before after
refused-from fault limit cap told seen dir name before middle after bound same none refused =
    let capped = subst (λ (n : ℕ). RefusesRead fault n seen dir name middle after) bound refused in
    let told_so = subst (λ (t : Option Store). RefusesRead fault limit t dir name middle after) same capped in
    subst (λ (n : ℕ). RefusesRead fault limit told dir name n after) none told_so

pub ends-from : (fault : FolderFault) (limit cap : ℕ) (told seen : Option Store) (dir : List ℕ) (before middle after : ℕ) (a c : Option Calls) → cap ≡ limit → seen ≡ told → middle ≡ before
    → EndsAtFile fault cap seen dir middle after a c → EndsAtFile fault limit told dir before after a c
ends-from fault limit cap told seen dir before middle after a c bound same none ends = record {
  earlier = ends.earlier;
  file = ends.file;
  later = ends.later;
  order = ends.order;
  within = subst (λ (t : Option Store). AllHoldWithin limit t dir ends.earlier) same (subst (λ (n : ℕ). AllHoldWithin n seen dir ends.earlier) bound ends.within);
  refused = refused-from fault limit cap told seen dir (file_name ends.file) before middle after bound same none ends.refused;
  called = ends.called;
}

-- a file is refused at the n-th call, from 0, where the files before it were read
pub ends-at : (fault : FolderFault) (limit : ℕ) (told : Option Store) (dir : List ℕ) (before after n : ℕ) (x : File) (a b c : Option Calls) → n < length kept_files
    → AllHoldWithin limit told dir (take n kept_files) → RefusesRead fault limit told dir (file_name (get_or kept_files n x)) before after → MakesCalls n a b → MakesCalls 1 b c
    → EndsAtFile fault limit told dir before after a c
ends-at fault limit told dir before after n x a b c lt all refused made one =
    let count : length (take n kept_files) ≡ n = omega (arith, lt, length-take n kept_files) in
    record {
      earlier = take n kept_files;
      file = get_or kept_files n x;
      later = drop (suc n) kept_files;
      order = around kept_files n x lt;
      within = all;
      refused = refused;
      called = subst (λ (m : ℕ). MakesCalls (m + 1) a c) (sym count) (calls-more n 1 a b c made one);
    }
