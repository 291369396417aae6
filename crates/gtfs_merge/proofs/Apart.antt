-- Two ids of a kind that a feed has become two ids.
use Rattle.std.proofs.Common.{◌≡◌, ℕ, true, false, not, List, [], ◌∷◌, ◌++◌, Some, None, Option, refl, sym, ap, ◌∙◌, subst, inl, inr, length, bytes_eq, codes, true≢false, eqb-true, arith, option_map, option_and_then, find, is_some}
use Rattle.std.specs.Prelude.{◌&&◌, ◌==◌, if◌then◌else◌}
use Rattle.std.proofs.lemmas.Bool.{and_parts, or_cases, cases_Bool}
use Rattle.gtfs_rows.specs.Rows.{Agency, Stop}
use Rattle.gtfs_rows.specs.Content.{Content}
use Rattle.gtfs_rows.specs.SoundContent.{IsSound, is_sound_agency}
use Rattle.gtfs_table.specs.Rows.{is_empty}
use Rattle.gtfs_rows.proofs.Members.{In, list_all-In}
use Rattle.gtfs_merge.specs.Renaming.{Nearness, never_near, lists_id, ids, free_id, renamed_b, agency_a, agency_b, joined_agency, joined_route, joined_service, joined_trip, stop_b, names_a, names_b, joined_stop_under, stop_within}
use Rattle.gtfs_merge.specs.DeparturesOfBoth.{StaysApart}
use Rattle.gtfs_merge.specs.Names.{may_meet}
use Rattle.gtfs_merge.specs.NearStops.{nearness}
use Rattle.gtfs_merge.specs.declared.kind.Kind.{Kind}
use Rattle.gtfs_merge.specs.declared.kind.Kind.TheVariants as kind
use Rattle.gtfs_merge.specs.declared.kind.Side.TheVariants as side
use Rattle.gtfs_merge.proofs.Fresh.{renamed_apart, renamed_into_a}
use Rattle.gtfs_merge.proofs.MergedRows.{found, found_id}
use Rattle.gtfs_merge.proofs.Union.{AreFew}
use Rattle.gtfs_merge.proofs.Stops.{never-nearness, by_rule, stop_case, stop_id_of}
use Rattle.gtfs_merge.proofs.Premises.{sound-places}

abbrev agency_id_of : Agency → List ℕ
agency_id_of r = r.agency_id

pub no-text : (x : List ℕ) → (length x == 0) ≡ true → x ≡ []
no-text [] e = refl
no-text (c ∷ cs) e = let h : length (c ∷ cs) ≡ 0 = eqb-true _ _ e in absurd (omega arith)

all-one : {X : Type 0} (xs : List X) → length xs ≡ 1 → (x y : X) → In x xs → In y xs → x ≡ y
all-one [] e x y i j = elim i [ ]
all-one (z ∷ []) e x y (inl p) (inl q) = sym p ∙ q
all-one (z ∷ []) e x y (inl p) (inr q) = elim q [ ]
all-one (z ∷ []) e x y (inr p) j = elim p [ ]
all-one (z ∷ w ∷ zs) e x y i j = absurd (omega arith)

-- where an agency has no id it is the only one
pub one-agency : (f : Content) → IsSound f → lists_id (ids kind.Agency f) [] ≡ true → (y : List ℕ) → lists_id (ids kind.Agency f) y ≡ true → y ≡ []
one-agency f s h y hy =
    let r = found agency_id_of f.agencies [] h in
    let i = found_id agency_id_of f.agencies [] r.0 r.1 in
    let t = found agency_id_of f.agencies y hy in
    let j = found_id agency_id_of f.agencies y t.0 t.1 in
    let p = and_parts _ _ (list_all-In (is_sound_agency f) f.agencies s.agencies r.0 i.0) in
    elim (or_cases (not (is_empty r.0.agency_id)) (length f.agencies == 1) p.0) as (λ w. y ≡ []) [
      | inl n ↦ absurd (true≢false (sym n ∙ ap (λ x. not (is_empty x)) i.1))
      | inr one ↦ sym j.1 ∙ ap agency_id_of (all-one f.agencies (eqb-true _ _ one) t.0 r.0 j.0 i.0) ∙ i.1
    ]

module _ (a b : Content) (sound_a : IsSound a) (sound_b : IsSound b) where
  -- an empty id that stands alone
  alone : (f : Content) → IsSound f → (x y : List ℕ) → (length x == 0) ≡ true → lists_id (ids kind.Agency f) x ≡ true → lists_id (ids kind.Agency f) y ≡ true → x ≡ y
  alone f s x y e hx hy = let n = no-text x e in n ∙ sym (one-agency f s (subst (λ z. lists_id (ids kind.Agency f) z ≡ true) n hx) y hy)

  apart-agency_a : StaysApart kind.Agency a (names_a a b)
  apart-agency_a x y hx hy = elim (cases_Bool (length x == 0)) as (λ w. agency_a a b x ≡ agency_a a b y → x ≡ y) [
    | inl ex ↦ λ e. alone a sound_a x y ex hx hy
    | inr nx ↦ elim (cases_Bool (length y == 0)) as (λ w. agency_a a b x ≡ agency_a a b y → x ≡ y) [
      | inl ey ↦ λ e. sym (alone a sound_a y x ey hy hx)
      | inr ny ↦ λ e. sym (kept x nx) ∙ e ∙ kept y ny
    ]
  ]
    where
      kept : (x : List ℕ) → (length x == 0) ≡ false → agency_a a b x ≡ x
      kept x n = λ i. if n i && not (joined_agency a b x) then free_id (ids kind.Agency a ++ ids kind.Agency b) (codes "agency") else x

  apart-agency_b : (near : Nearness) → AreFew kind.Agency a b → StaysApart kind.Agency b (names_b near a b)
  apart-agency_b near few x y hx hy = elim (cases_Bool (length x == 0)) as (λ w. agency_b a b x ≡ agency_b a b y → x ≡ y) [
    | inl ex ↦ λ e. alone b sound_b x y ex hx hy
    | inr nx ↦ elim (cases_Bool (length y == 0)) as (λ w. agency_b a b x ≡ agency_b a b y → x ≡ y) [
      | inl ey ↦ λ e. sym (alone b sound_b y x ey hy hx)
      | inr ny ↦ λ e. renamed_apart (ids kind.Agency a) (ids kind.Agency b) (joined_agency a b) few x y hx hy (sym (ruled x nx) ∙ e ∙ ruled y ny)
    ]
  ]
    where
      ruled : (x : List ℕ) → (length x == 0) ≡ false → agency_b a b x ≡ renamed_b (ids kind.Agency a) (ids kind.Agency b) (joined_agency a b) x
      ruled x n = λ i. if n i && not (joined_agency a b x)
          then free_id (if lists_id (ids kind.Agency a) [] then (ids kind.Agency a ++ ids kind.Agency b) ++ agency_a a b [] ∷ [] else ids kind.Agency a ++ ids kind.Agency b) (codes "agency")
          else renamed_b (ids kind.Agency a) (ids kind.Agency b) (joined_agency a b) x

  -- without near stops an id of B that gets an id of A is joined, and stays
  pub stop_joins : AreFew kind.Stop a b → (x : List ℕ) → lists_id (ids kind.Stop b) x ≡ true → lists_id (ids kind.Stop a) (stop_b never_near a b x) ≡ true → (joined_stop_under (stop_within never_near 2 a b) a b x ≡ true) × (stop_b never_near a b x ≡ x)
  stop_joins few x hx h = elim (stop_case never_near never-nearness a b (sound-places a sound_a) (sound-places b sound_b) few x) as (λ w. (joined_stop_under (stop_within never_near 2 a b) a b x ≡ true) × (stop_b never_near a b x ≡ x)) [
    | inl c ↦ elim c as (λ w. (joined_stop_under (stop_within never_near 2 a b) a b x ≡ true) × (stop_b never_near a b x ≡ x)) [
      | inl j ↦ j
      | inr n ↦ absurd (none (find (λ y. bytes_eq y.stop_id x) b.stops) n.0 n.1)
    ]
    | inr r ↦
        let into = renamed_into_a (ids kind.Stop a) (ids kind.Stop b) (joined_stop_under (stop_within never_near 2 a b) a b) few x (subst (λ v. lists_id (ids kind.Stop a) v ≡ true) r h) in
        (into.1, r ∙ into.0)
  ]
    where
      nobody : (xs : List Stop) → find (λ z. false) xs ≡ None
      nobody [] = refl
      nobody (z ∷ zs) = nobody zs

      none : (o : Option Stop) (q : List ℕ) → option_and_then (λ y. option_map stop_id_of (find (λ z. false) a.stops)) o ≡ Some q → ⊥
      none None q e = true≢false (sym (ap is_some e))
      none (Some y) q e = true≢false (sym (ap is_some (sym (ap (option_map stop_id_of) (nobody a.stops)) ∙ e)))

  apart-stop : AreFew kind.Stop a b → StaysApart kind.Stop b (names_b never_near a b)
  apart-stop few x y hx hy e = elim (cases_Bool (lists_id (ids kind.Stop a) (stop_b never_near a b x))) as (λ w. x ≡ y) [
    | inl h ↦ sym (stop_joins few x hx h).1 ∙ e ∙ (stop_joins few y hy (subst (λ v. lists_id (ids kind.Stop a) v ≡ true) e h)).1
    | inr n ↦
        let places_a = sound-places a sound_a in
        let places_b = sound-places b sound_b in
        let rule = by_rule never_near never-nearness a b places_a places_b few in
        renamed_apart (ids kind.Stop a) (ids kind.Stop b) (joined_stop_under (stop_within never_near 2 a b) a b) few x y hx hy
        (sym (rule x hx n) ∙ e ∙ rule y hy (ap (lists_id (ids kind.Stop a)) (sym e) ∙ n))
  ]

  pub apart-a : (c : Kind) → StaysApart c a (names_a a b)
  apart-a kind.Agency = apart-agency_a
  apart-a kind.Stop = λ x y hx hy e. e
  apart-a kind.Route = λ x y hx hy e. e
  apart-a kind.Service = λ x y hx hy e. e
  apart-a kind.Trip = λ x y hx hy e. e

  -- where ids of a kind do not meet
  pub apart-unmet : (near : Option ℕ) (c : Kind) → may_meet near c side.B ≡ false → AreFew c a b → StaysApart c b (names_b (nearness near) a b)
  apart-unmet near kind.Agency unmet few = apart-agency_b (nearness near) few
  apart-unmet None kind.Stop unmet few = apart-stop few
  apart-unmet (Some n) kind.Stop unmet few = absurd (true≢false unmet)
  apart-unmet near kind.Route unmet few = renamed_apart (ids kind.Route a) (ids kind.Route b) (joined_route a b) few
  apart-unmet near kind.Service unmet few = renamed_apart (ids kind.Service a) (ids kind.Service b) (joined_service a b) few
  apart-unmet near kind.Trip unmet few = renamed_apart (ids kind.Trip a) (ids kind.Trip b) (joined_trip (nearness near) a b) few
