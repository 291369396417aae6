-- What the names of a merge tell is the report of the merge.
use Rattle.std.proofs.Common.{◌≡◌, ◌∙◌, ap, refl, ℕ, Bool, true, false, not, List, [], ◌∷◌, ◌++◌, length, filter, bytes_eq, Option, Some, None}
use Rattle.std.specs.Prelude.{if◌then◌else◌, flat_map}
use Rattle.std.proofs.lemmas.Bool.{or_left, or_right}
use Rattle.gtfs_rows.specs.Content.{Content}
use Rattle.gtfs_merge.specs.Merging.{AreNamesOf}
use Rattle.gtfs_merge.specs.Names.{AllNames, in_kind, new_id}
use Rattle.gtfs_merge.specs.Renaming.{lists_id, ids, names_a, names_b, renaming, Renaming}
use Rattle.gtfs_merge.specs.NearStops.{near_line, nearness, report}
use Rattle.gtfs_merge.specs.MergeReport.{joined_line, kind_lines, kinds, renamed_line, renamed_lines}
use Rattle.gtfs_merge.specs.declared.kind.Kind.{Kind}
use Rattle.gtfs_merge.specs.declared.kind.Side.{Side}
use Rattle.gtfs_merge.specs.declared.kind.Side.TheVariants as side
use Rattle.gtfs_merge.proofs.Lookups.{bytes_same}
use Rattle.gtfs_cli.specs.MergeReport.{both_lines, id_line, named_line, names_report, side_lines}

-- the lines of ids of which each became what the renaming says
lines_of : (s : Side) (k : Kind) (rename : Renaming) (new : List ℕ → Option (List ℕ)) (xs : List (List ℕ)) → ((x : List ℕ) → lists_id xs x ≡ true → new x ≡ Some (rename x))
    → flat_map (λ x. named_line s k x (new x)) xs ≡ renamed_lines s k rename xs
lines_of s k rename new [] is = refl
lines_of s k rename new (x ∷ xs) is =
    ap (λ o. named_line s k x o ++ flat_map (λ y. named_line s k y (new y)) xs) (is x (or_left (bytes_eq x x) (lists_id xs x) (bytes_same x x refl)))
    ∙ ap (λ t. named_line s k x (Some (rename x)) ++ t) (lines_of s k rename new xs (λ y h. is y (or_right (bytes_eq y x) (lists_id xs y) h)))
    ∙ step (bytes_eq (rename x) x) (filter (λ y. not (bytes_eq (rename y) y)) xs)
  where
    step : (b : Bool) (ys : List (List ℕ)) → (if b then [] else renamed_line s k x (rename x)) ++ flat_map (λ y. renamed_line s k y (rename y)) ys
        ≡ flat_map (λ y. renamed_line s k y (rename y)) (if not b then x ∷ ys else ys)
    step true ys = refl
    step false ys = refl

named : (rename : Renaming) (xs : List (List ℕ)) (x : List ℕ) (told : Option (List ℕ)) → told ≡ (if lists_id xs x then Some (rename x) else None) → lists_id xs x ≡ true → told ≡ Some (rename x)
named rename xs x told is there = is ∙ ap (λ b. if b then Some (rename x) else None) there

module _ (near : Option ℕ) (a b : Content) (n : AllNames) (are : AreNamesOf near a b n) where
  first_lines : (k : Kind) → side_lines n side.A k ≡ renamed_lines side.A k (renaming (names_a a b) k) (ids k a)
  first_lines k =
      ap (flat_map (id_line n side.A k)) (are.ids_a k)
      ∙ lines_of side.A k (renaming (names_a a b) k) (new_id (in_kind n k).a) (ids k a)
      (λ x. named (renaming (names_a a b) k) (ids k a) x (new_id (in_kind n k).a x) (are.a k x))

  second_lines : (k : Kind) → side_lines n side.B k ≡ renamed_lines side.B k (renaming (names_b (nearness near) a b) k) (ids k b)
  second_lines k =
      ap (flat_map (id_line n side.B k)) (are.ids_b k)
      ∙ lines_of side.B k (renaming (names_b (nearness near) a b) k) (new_id (in_kind n k).b) (ids k b)
      (λ x. named (renaming (names_b (nearness near) a b) k) (ids k b) x (new_id (in_kind n k).b x) (are.b k x))

  lines_told : (k : Kind) → both_lines n k ≡ kind_lines (nearness near) a b k
  lines_told k = λ i. first_lines k i ++ second_lines k i

  pub report-told : names_report near n ≡ report near a b
  report-told = λ i. (flat_map (λ k. lines_told k i) kinds ++ flat_map (λ k. joined_line k (length (are.joined k i))) kinds)
      ++ near_line near (length (are.near i))
