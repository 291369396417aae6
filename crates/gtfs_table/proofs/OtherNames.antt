-- The names of a folder but those of kept files.
use Rattle.std.proofs.Common.{◌≡◌, ℕ, List, Bool, false, filter}
use Rattle.std.specs.Prelude.{not, true}
use Rattle.std.proofs.lemmas.Bool.{not-true}
use Rattle.std.proofs.lemmas.List.Elements.{All-weaker, filter_passes}
use Rattle.std.proofs.lemmas.List.Kept.{IsSortedBy-filter}
use Rattle.std.proofs.lemmas.List.Sorted.{ranks_by}
use Rattle.gtfs_devices.specs.Folder.{IsByBytes}
use Rattle.gtfs_field.proofs.TextOrderFacts.{texts_total}
use Rattle.gtfs_table.specs.TablesRead.{AreOthers, is_kept, other_names}

-- some of the names are in order as all are
pub filter-by_bytes : (p : List ℕ → Bool) (names : List (List ℕ)) → IsByBytes names → IsByBytes (filter p names)
filter-by_bytes p names h = IsSortedBy-filter _ (ranks_by texts_total (λ x. x)) p names h

-- what is left of names in order
pub others-of : (names : List (List ℕ)) → IsByBytes names → AreOthers (other_names names)
others-of names h = record {
  ordered = filter-by_bytes (λ name. not (is_kept name)) names h;
  not_kept = All-weaker (λ name. not (is_kept name) ≡ true) (λ name. is_kept name ≡ false) (λ name e. not-true (is_kept name) e) (other_names names)
      (filter_passes (λ name. not (is_kept name)) names);
}
