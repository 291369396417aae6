-- What a device holds while the files of a feed are written.
use Rattle.std.proofs.Common.{◌≡◌, ◌∙◌, ap, sym, subst, refl, ℕ, ◌+◌, ◌<◌, ◌≤◌, add-one, inr, List, [], ◌∷◌, ◌++◌, length, take, drop, take-append-drop, get_or, Option, Some, None}
use Rattle.std.proofs.Math.Seq.{take-suc}
use Rattle.std.proofs.lemmas.List.{take_all}
use Rattle.gtfs_table.specs.FileNames.{file_name}
use Rattle.gtfs_devices.specs.Folder.{put, Disturbs, Store, Writes}
use Rattle.gtfs_table.specs.TablesRead.{kept_files}
use Rattle.gtfs_table.specs.declared.file.File.{File}
use Rattle.gtfs_devices.specs.Device.{Rises}
use Rattle.gtfs_rows.specs.Content.{Content}
use Rattle.gtfs_cli.specs.MergeCommand.{file_text, with_files, DisturbsAfter, HoldsFiles, IsFileEnd, IsWritingEnd}
use Rattle.gtfs_cli.specs.declared.commands.refusal.Refusal.{Refusal}
use Rattle.gtfs_cli.specs.declared.commands.refusal.Refusal.TheVariants.{Unwritable, OutOfMemory}
use Rattle.gtfs_cli.proofs.Sequences.{items-split}

module _ (c : Content) (dir : List ℕ) where
  with_more : (xs : List File) (x : File) (store : Store) → with_files c dir (xs ++ x ∷ []) store ≡ put (with_files c dir xs store) dir (file_name x) (file_text c x)
  with_more [] x store = refl
  with_more (y ∷ ys) x store = with_more ys x (put store dir (file_name y) (file_text c y))

  -- nothing was written yet
  pub none-held : (held : Option Store) → HoldsFiles held held dir c []
  none-held None = tt
  none-held (Some store) = refl

  more_held : (old mid new : Option Store) (xs : List File) (x : File) → HoldsFiles old mid dir c xs → Writes mid new dir (file_name x) (file_text c x)
      → HoldsFiles old new dir c (xs ++ x ∷ [])
  more_held None mid new xs x holds writes = tt
  more_held (Some store) mid new xs x holds writes =
      subst (λ (m : Option Store). Writes m new dir (file_name x) (file_text c x)) holds writes ∙ ap Some (sym (with_more xs x store))

  -- one more file was written
  pub file-held : (old mid new : Option Store) (i : ℕ) (x : File) → i < length kept_files → HoldsFiles old mid dir c (take i kept_files)
      → Writes mid new dir (file_name (get_or kept_files i x)) (file_text c (get_or kept_files i x)) → HoldsFiles old new dir c (take (i + 1) kept_files)
  file-held old mid new i x inside holds writes =
      let more : take (i + 1) kept_files ≡ take i kept_files ++ get_or kept_files i x ∷ [] = ap (λ n. take n kept_files) (add-one i) ∙ take-suc kept_files i x inside in
      subst (λ (xs : List File). HoldsFiles old new dir c xs) (sym more) (more_held old mid new (take i kept_files) (get_or kept_files i x) holds writes)

  -- all files were written
  pub files-held : (old new : Option Store) (i : ℕ) → length kept_files ≤ i → HoldsFiles old new dir c (take i kept_files) → HoldsFiles old new dir c kept_files
  files-held old new i end holds = subst (λ (xs : List File). HoldsFiles old new dir c xs) (take_all i kept_files end) holds

  after : (old mid new : Option Store) (xs : List File) (x : File) → HoldsFiles old mid dir c xs → Disturbs mid new dir (file_name x) → DisturbsAfter old new dir c xs x
  after None mid new xs x holds disturbs = tt
  after (Some store) mid new xs x holds disturbs = subst (λ (m : Option Store). Disturbs m new dir (file_name x)) holds disturbs

  -- the files before one that was not written
  pub file-ends : (old mid new : Option Store) (first before end : ℕ) (i : ℕ) (x : File) → 0 < length dir → i < length kept_files → HoldsFiles old mid dir c (take i kept_files)
      → before ≡ first → (r : Refusal) → IsFileEnd mid new before end dir (get_or kept_files i x) r → IsWritingEnd old new first end dir c r
  file-ends old mid new first before end i x named inside holds since (Unwritable path) h = (
    h.0,
    inr (
      named,
      subst (λ (n : ℕ). Rises n end) since h.1,
      record {
        files = take i kept_files;
        one = get_or kept_files i x;
        left = drop (i + 1) kept_files;
        order = items-split kept_files i x inside;
        disturbs = after old mid new (take i kept_files) (get_or kept_files i x) holds h.2;
      },
    ),
  )
  file-ends old mid new first before end i x named inside holds since OutOfMemory h = (
    record {
      files = take i kept_files;
      left = drop i kept_files;
      order = sym (take-append-drop i kept_files);
      holds = subst (λ (m : Option Store). HoldsFiles old m dir c (take i kept_files)) (sym h.0) holds;
    },
    h.1 ∙ since,
  )
  file-ends old mid new first before end i x named inside holds since _ h = absurd h
