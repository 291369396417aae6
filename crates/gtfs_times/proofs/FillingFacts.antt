-- Times of positions are those of the rows' times alone, whatever else rows hold.
use Rattle.std.proofs.Common.{◌≡◌, ◌∙◌, ◌+◌, ◌-◌, ◌*◌, ◌/◌, ℕ, List, [], ◌∷◌, ◌++◌, map, find, reverse, take, drop, Option, Some, None, option_map, refl, sym, ap, is_some, unwrap_or}
use Rattle.std.specs.List.{enumerate_from}
use Rattle.std.proofs.lemmas.List.{drop-map, take-map, map-append, reverse-append}
use Rattle.gtfs_rows.proofs.KeyedRows.{find_map}
use Rattle.gtfs_rows.specs.Rows.{StopRow}
use Rattle.gtfs_rows.specs.Runs.{is_timed}
use Rattle.gtfs_rows.specs.SoundContent.{comes, leaves}
use Rattle.gtfs_times.specs.Filling.{Placed, timed_before, timed_after, time_between, time_at}

-- ---- lists

pub enumerate-map : {X Y : Type 0} (f : X → Y) (a : ℕ) (xs : List X) → enumerate_from a (map f xs) ≡ map (λ x. (x.0, f x.1)) (enumerate_from a xs)
enumerate-map f a [] = refl
enumerate-map f a (x ∷ xs) = ap (λ ys. (a, f x) ∷ ys) (enumerate-map f (a + 1) xs)

pub reverse-map : {X Y : Type 0} (f : X → Y) (xs : List X) → reverse (map f xs) ≡ map f (reverse xs)
reverse-map f [] = refl
reverse-map f (x ∷ xs) = reverse-append (f x ∷ []) (map f xs) ∙ ap (λ ys. ys ++ f x ∷ []) (reverse-map f xs) ∙ sym (map-append f (reverse xs) (x ∷ [])) ∙ sym (ap (map f) (reverse-append (x ∷ []) xs))

-- ---- rows that are made of others

abbrev pub placed_by : {X : Type 0} → (X → StopRow) → ℕ × X → Placed
placed_by f x = (x.0, f x.1)

module _ {X : Type 0} (f : X → StopRow) (xs : List X) (m : ℕ) where
  pub before-map : timed_before (map f xs) m ≡ option_map (placed_by f) (find (λ x. is_timed (f x.1)) (reverse (take m (enumerate_from 0 xs))))
  before-map =
      ap (λ ys. find (λ x. is_timed x.1) (reverse (take m ys))) (enumerate-map f 0 xs)
      ∙ ap (λ ys. find (λ x. is_timed x.1) (reverse ys)) (take-map (placed_by f) m (enumerate_from 0 xs))
      ∙ ap (find (λ x. is_timed x.1)) (reverse-map (placed_by f) (take m (enumerate_from 0 xs)))
      ∙ find_map (placed_by f) (λ x. is_timed x.1) (reverse (take m (enumerate_from 0 xs)))

  pub after-map : timed_after (map f xs) m ≡ option_map (placed_by f) (find (λ x. is_timed (f x.1)) (drop (m + 1) (enumerate_from 0 xs)))
  after-map =
      ap (λ ys. find (λ x. is_timed x.1) (drop (m + 1) ys)) (enumerate-map f 0 xs)
      ∙ ap (find (λ x. is_timed x.1)) (drop-map (placed_by f) (m + 1) (enumerate_from 0 xs))
      ∙ find_map (placed_by f) (λ x. is_timed x.1) (drop (m + 1) (enumerate_from 0 xs))

-- two ways to make rows, of which both have the same times
module _ {X : Type 0} (f g : X → StopRow) (reach : (x : X) → comes (f x) ≡ comes (g x)) (leave : (x : X) → leaves (f x) ≡ leaves (g x)) where
  between-same : (i j : Option (ℕ × X)) (m : ℕ) → time_between (option_map (placed_by f) i) (option_map (placed_by f) j) m ≡ time_between (option_map (placed_by g) i) (option_map (placed_by g) j) m
  between-same None j m = refl
  between-same (Some i) None m = refl
  between-same (Some i) (Some j) m = λ k. Some (unwrap_or (leave i.1 k) 0 + ((unwrap_or (reach j.1 k) 0 - unwrap_or (leave i.1 k) 0) * (m - i.0)) / (j.0 - i.0))

  pub time_at-same : (xs : List X) (m : ℕ) → time_at (map f xs) m ≡ time_at (map g xs) m
  time_at-same xs m =
      (λ k. time_between (before-map f xs m k) (after-map f xs m k) m)
      ∙ (λ k. time_between (option_map (placed_by f) (find (λ x. is_some (leave x.1 k)) (reverse (take m (enumerate_from 0 xs)))))
      (option_map (placed_by f) (find (λ x. is_some (leave x.1 k)) (drop (m + 1) (enumerate_from 0 xs)))) m)
      ∙ between-same _ _ m
      ∙ sym (λ k. time_between (before-map g xs m k) (after-map g xs m k) m)
