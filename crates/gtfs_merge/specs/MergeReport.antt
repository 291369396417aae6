-- The text of a merge's report.
use Rattle.std.specs.Prelude.{ℕ, not, List, [], ◌∷◌, ◌++◌, length, filter, flat_map, bytes_eq, codes, decimal}
use Rattle.gtfs_merge.specs.declared.kind.Kind.{Kind}
use Rattle.gtfs_merge.specs.declared.kind.Kind.TheVariants as kind
use Rattle.gtfs_merge.specs.declared.kind.Side.{Side}
use Rattle.gtfs_merge.specs.declared.kind.Side.TheVariants as side
use Rattle.gtfs_schema.specs.FieldValues.{plain}
use Rattle.gtfs_rows.specs.Content.{Content}
use Rattle.gtfs_merge.specs.Renaming.{Nearness, Renaming, names_a, names_b, renaming, ids, joined_ids}

abbrev pub kinds : List Kind
kinds = kind.Agency ∷ kind.Stop ∷ kind.Route ∷ kind.Service ∷ kind.Trip ∷ []

abbrev pub kind_name : Kind → List ℕ
kind_name kind.Agency = codes "agency"
kind_name kind.Stop = codes "stop"
kind_name kind.Route = codes "route"
kind_name kind.Service = codes "service"
kind_name kind.Trip = codes "trip"

abbrev pub side_name : Side → List ℕ
side_name side.A = codes "A"
side_name side.B = codes "B"

-- SIDE, KIND, the old id and the new one, with tabs; control characters are printed as spaces
abbrev pub renamed_line : Side → Kind → List ℕ → List ℕ → List ℕ
renamed_line s k old new = side_name s ++ codes "\t" ++ kind_name k ++ codes "\t" ++ plain old ++ codes "\t" ++ plain new ++ codes "\n"

-- the lines of those ids of a side that change, by their bytes, as the ids of a content stand
abbrev pub renamed_lines : Side → Kind → Renaming → List (List ℕ) → List ℕ
renamed_lines s k rename ids = flat_map (λ x. renamed_line s k x (rename x)) (filter (λ x. not (bytes_eq (rename x) x)) ids)

-- those of both sides
abbrev pub kind_lines : Nearness → Content → Content → Kind → List ℕ
kind_lines near a b k = renamed_lines side.A k (renaming (names_a a b) k) (ids k a) ++ renamed_lines side.B k (renaming (names_b near a b) k) (ids k b)

abbrev pub joined_line : Kind → ℕ → List ℕ
joined_line k count = codes "joined " ++ kind_name k ++ codes " " ++ decimal count ++ codes "\n"

abbrev pub merge_report : Nearness → Content → Content → List ℕ
merge_report near a b = flat_map (kind_lines near a b) kinds ++ flat_map (λ k. joined_line k (length (joined_ids near k a b))) kinds
