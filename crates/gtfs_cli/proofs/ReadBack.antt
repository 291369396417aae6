-- The files of a feed, read again, are its written form.
use Rattle.std.proofs.Common.{◌≡◌, ◌∙◌, ap, sym, subst, refl, ℕ, lit<, Bool, true, false, true≢false, cond, not, List, [], ◌∷◌, drop, take, Option, Some, None, option_map, unwrap_or}
use Rattle.std.specs.FinMap as finmap
use Rattle.std.specs.List.{All, list_all}
use Rattle.std.specs.Ordering.{eq_by_cmp}
use Rattle.std.proofs.lemmas.Bool.{and_parts}
use Rattle.gtfs_table.specs.FileNames.{file_name}
use Rattle.gtfs_devices.specs.Folder.{files_of, put, Files, Store}
use Rattle.gtfs_field.specs.TextOrder.{text_cmp}
use Rattle.gtfs_table.specs.TablesRead.{dataset_of, kept_files, other_names, table_in, HoldsDataset}
use Rattle.gtfs_table.specs.Tables.{table_of, table_of_bytes, Dataset}
use Rattle.gtfs_table.specs.declared.file.File.{File}
use Rattle.gtfs_table.specs.declared.file.File.TheVariants as file
use Rattle.gtfs_devices.proofs.FolderLemmas.{get-insert-same}
use Rattle.gtfs_field.proofs.TextOrderFacts.{texts_total}
use Rattle.gtfs_schema.specs.Problems.{Passes}
use Rattle.gtfs_rows.specs.Content.{Content}
use Rattle.gtfs_rows.specs.ContentRead.{content_of}
use Rattle.gtfs_rows.specs.WrittenContent.{written, written_beside}
use Rattle.gtfs_rows.specs.WrittenForm.{IsWrittenForm}
use Rattle.gtfs_cli.specs.MergeParts.{ReadsAs}
use Rattle.gtfs_cli.specs.MergeCommand.{file_text, with_files, HoldsFiles, ReadsAgain}

module _ (c : Content) where
  -- the files of a folder with these put there
  files_with : List File → Files → Files
  files_with [] fs = fs
  files_with (x ∷ xs) fs = files_with xs (finmap.insert fs (file_name x) (file_text c x))

  folder_with : (dir : List ℕ) (xs : List File) (store : Store) (fs : Files) → finmap.get store dir ≡ Some fs
      → finmap.get (with_files c dir xs store) dir ≡ Some (files_with xs fs)
  unfolding files_with
  folder_with dir [] store fs is = is
  folder_with dir (x ∷ xs) store fs is =
      let name = file_name x in
      let text = file_text c x in
      folder_with dir xs (put store dir name text) (finmap.insert fs name text)
      (get-insert-same store dir (finmap.insert (files_of store dir) name text)
      ∙ ap (λ o. Some (finmap.insert (unwrap_or o finmap.empty) name text)) is)

  -- the folder is there once a file was put there
  folder_made : (dir : List ℕ) (x : File) (xs : List File) (store : Store)
      → finmap.get (with_files c dir (x ∷ xs) store) dir ≡ Some (files_with (x ∷ xs) (files_of store dir))
  unfolding files_with
  folder_made dir x xs store =
      let files = finmap.insert (files_of store dir) (file_name x) (file_text c x) in
      folder_with dir xs (put store dir (file_name x) (file_text c x)) files (get-insert-same store dir files)

  -- other names stay as they are
  untouched : (name : List ℕ) (xs : List File) (fs : Files) → list_all (λ x. not (eq_by_cmp text_cmp name (file_name x))) xs ≡ true
      → finmap.get (files_with xs fs) name ≡ finmap.get fs name
  unfolding files_with
  untouched name [] fs apart = refl
  untouched name (x ∷ xs) fs apart =
      let parts = and_parts (not (eq_by_cmp text_cmp name (file_name x))) _ apart in
      untouched name xs (finmap.insert fs (file_name x) (file_text c x)) parts.1
      ∙ finmap.get-insert texts_total fs (file_name x) (file_text c x) name
      ∙ other (eq_by_cmp text_cmp name (file_name x)) parts.0
    where
      other : (b : Bool) → not b ≡ true → cond b (Some (file_text c x)) (finmap.get fs name) ≡ finmap.get fs name
      other true e = absurd (true≢false (sym e))
      other false e = refl

  -- a file that was put there is there, where none of its name was put there later
  put_there : (x : File) (xs : List File) (fs : Files) → list_all (λ y. not (eq_by_cmp text_cmp (file_name x) (file_name y))) xs ≡ true
      → finmap.get (files_with (x ∷ xs) fs) (file_name x) ≡ Some (file_text c x)
  unfolding files_with
  put_there x xs fs apart = untouched (file_name x) xs (finmap.insert fs (file_name x) (file_text c x)) apart ∙ get-insert-same fs (file_name x) (file_text c x)

  module _ (fs : Files) where
    all : Files
    all = files_with kept_files fs

    there : (x : File) → finmap.get all (file_name x) ≡ Some (file_text c x)
    unfolding all files_with
    there file.Agency = put_there file.Agency (drop 1 kept_files) fs refl
    there file.Stops = put_there file.Stops (drop 2 kept_files) (files_with (take 1 kept_files) fs) refl
    there file.Routes = put_there file.Routes (drop 3 kept_files) (files_with (take 2 kept_files) fs) refl
    there file.Trips = put_there file.Trips (drop 4 kept_files) (files_with (take 3 kept_files) fs) refl
    there file.StopTimes = put_there file.StopTimes (drop 5 kept_files) (files_with (take 4 kept_files) fs) refl
    there file.Calendar = put_there file.Calendar (drop 6 kept_files) (files_with (take 5 kept_files) fs) refl
    there file.CalendarDates = put_there file.CalendarDates (drop 7 kept_files) (files_with (take 6 kept_files) fs) refl
    there file.Frequencies = put_there file.Frequencies (drop 8 kept_files) (files_with (take 7 kept_files) fs) refl
    there file.Transfers = put_there file.Transfers [] (files_with (take 8 kept_files) fs) refl

    reads : ((x : File) → ReadsAs c x) → (x : File) → table_in all x ≡ table_of (written c) x
    reads each x = ap table_of_bytes (there x) ∙ each x

    dataset_is : ((x : File) → ReadsAs c x) → dataset_of all ≡ written_beside (other_names (finmap.keys all)) c
    dataset_is each = λ i. record {
      agency = reads each file.Agency i;
      stops = reads each file.Stops i;
      routes = reads each file.Routes i;
      trips = reads each file.Trips i;
      stop_times = reads each file.StopTimes i;
      calendar = reads each file.Calendar i;
      calendar_dates = reads each file.CalendarDates i;
      frequencies = reads each file.Frequencies i;
      transfers = reads each file.Transfers i;
      others = other_names (finmap.keys all);
    }

  each_of : All (ReadsAs c) kept_files → (x : File) → ReadsAs c x
  each_of h file.Agency = h 0 file.Agency (lit< tt)
  each_of h file.Stops = h 1 file.Agency (lit< tt)
  each_of h file.Routes = h 2 file.Agency (lit< tt)
  each_of h file.Trips = h 3 file.Agency (lit< tt)
  each_of h file.StopTimes = h 4 file.Agency (lit< tt)
  each_of h file.Calendar = h 5 file.Agency (lit< tt)
  each_of h file.CalendarDates = h 6 file.Agency (lit< tt)
  each_of h file.Frequencies = h 7 file.Agency (lit< tt)
  each_of h file.Transfers = h 8 file.Agency (lit< tt)

  again : (form : IsWrittenForm c) (d : Dataset) (others : List (List ℕ)) → written_beside others c ≡ d → Passes d × (content_of d ≡ c)
  again form d others is = (
    subst (λ (e : Dataset). Passes e) is (form.passes others),
    subst (λ (e : Dataset). content_of e ≡ c) is (form.reads_back others),
  )

  found : (x y : Dataset) → Some x ≡ Some y → x ≡ y
  found x y e = ap (λ o. unwrap_or o x) e

  whole : (store : Store) (dir : List ℕ) → finmap.get (with_files c dir kept_files store) dir ≡ Some (all (files_of store dir))
  unfolding all
  whole store dir = folder_made dir file.Agency (drop 1 kept_files) store

  -- the folder, read again
  pub reads-again : (held now : Option Store) (dir : List ℕ) → IsWrittenForm c → All (ReadsAs c) kept_files → HoldsFiles held now dir c kept_files
      → ReadsAgain held now dir c
  reads-again None now dir form each files = tt
  reads-again (Some store) now dir form each files = λ d holds.
      let fs = files_of store dir in
      let here = subst (λ (m : Option Store). HoldsDataset m dir d) files holds in
      let made : Some (dataset_of (all fs)) ≡ Some d = sym (ap (option_map dataset_of) (whole store dir)) ∙ here in
      again form d (other_names (finmap.keys (all fs))) (sym (dataset_is fs (each_of each)) ∙ found (dataset_of (all fs)) d made)
