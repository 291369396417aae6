-- Names of both sides meet only where an id is joined.
use Rattle.std.proofs.Common.{◌≡◌, ◌<◌, ◌+◌, ◌^◌, ℕ, Bool, true, false, List, [], ◌∷◌, Some, None, refl, sym, ap, ◌∙◌, subst, inl, inr, ◌⊎◌, length, filter, bytes_eq, true≢false, Option, is_some, arith}
use Rattle.std.specs.Prelude.{if◌then◌else◌}
use Rattle.std.proofs.lemmas.Bool.{or_cases, or_left, or_right}
use Rattle.gtfs_schema.proofs.SiteFacts.{text_is as same_bytes}
use Rattle.gtfs_rows.specs.Content.{Content}
use Rattle.gtfs_rows.specs.RowsInMemory.{IsSoundParts, content_of_parts}
use Rattle.gtfs_merge.specs.MergedDepartures.{AreFew}
use Rattle.gtfs_merge.specs.Names.{MeetWhereJoined, NamesOfKind, kind_names, may_meet, new_id}
use Rattle.gtfs_merge.specs.NearStops.{nearness}
use Rattle.gtfs_merge.specs.Renaming.{Names, lists_id, ids, is_joined, joined_ids, joined_stop, name_of_id, names_a, names_b, never_near, renamed_b, renaming, stop_b}
use Rattle.gtfs_merge.specs.MergedSides.{nearness_of}
use Rattle.gtfs_merge.specs.declared.kind.Kind.{Kind}
use Rattle.gtfs_merge.specs.declared.kind.Kind.TheVariants as kind
use Rattle.gtfs_merge.specs.declared.kind.Side.TheVariants as side
use Rattle.gtfs_merge.specs.declared.sides.Sides.{Sides}
use Rattle.gtfs_merge.proofs.Fresh.{renamed_into_a}
use Rattle.gtfs_merge.proofs.JoinedAgencies.{agency-into, agency-stays_b}
use Rattle.gtfs_merge.proofs.JoinedIds.{joined-has}
use Rattle.gtfs_merge.proofs.MergesOfKinds.{ids-meet, twin-stays}
use Rattle.gtfs_merge.proofs.NamesFacts.{named}
use Rattle.gtfs_merge.proofs.SettledStops.{joined-settled}
use Rattle.gtfs_merge.proofs.Stops.{never-nearness}
use Rattle.gtfs_merge.proofs.Apart.{apart-a, stop_joins}

-- an id that passes is one of those that pass
has-filter : (p : List ℕ → Bool) (xs : List (List ℕ)) (x : List ℕ) → lists_id xs x ≡ true → p x ≡ true → lists_id (filter p xs) x ≡ true
has-filter p [] x has passes = has
has-filter p (y ∷ ys) x has passes = by (p y) refl (or_cases (bytes_eq x y) (lists_id ys x) has) (λ later. has-filter p ys x later passes)
  where
    by : (t : Bool) → p y ≡ t → (bytes_eq x y ≡ true) ⊎ (lists_id ys x ≡ true) → (lists_id ys x ≡ true → lists_id (filter p ys) x ≡ true) → lists_id (if t then y ∷ filter p ys else filter p ys) x ≡ true
    by true e (inl same) rest = or_left (bytes_eq x y) _ same
    by true e (inr later) rest = or_right (bytes_eq x y) _ (rest later)
    by false e (inl same) rest = absurd (true≢false (sym passes ∙ ap p (same_bytes x y same) ∙ e))
    by false e (inr later) rest = rest later

-- what has a name is an id of the feed
named-there : (n : Names) (k : Kind) (f : Content) (x name : List ℕ) → name_of_id n k f x ≡ Some name → (lists_id (ids k f) x ≡ true) × (renaming n k x ≡ name)
named-there n k f x name = by (lists_id (ids k f) x) refl
  where
    by : (h : Bool) → lists_id (ids k f) x ≡ h → (if h then Some (renaming n k x) else None) ≡ Some name → (lists_id (ids k f) x ≡ true) × (renaming n k x ≡ name)
    by true there is = (there, cc)
    by false there is = cc

module _ (sides : Sides) (sound_a : IsSoundParts sides.a.now) (sound_b : IsSoundParts sides.b.now)
    (few : (k : Kind) → length (ids k (content_of_parts sides.a.now)) + length (ids k (content_of_parts sides.b.now)) < 2 ^ 65) where
  abbrev a : Content
  a = content_of_parts sides.a.now

  abbrev b : Content
  b = content_of_parts sides.b.now

  few-stops : AreFew kind.Stop a b
  few-stops = let h = few kind.Stop in omega arith

  -- without near stops a stop of B that gets an id of A is joined, and stays
  stop-into : (near : Option ℕ) → is_some near ≡ false → (y : List ℕ) → lists_id (ids kind.Stop b) y ≡ true → lists_id (ids kind.Stop a) (stop_b (nearness near) a b y) ≡ true
      → (joined_stop (nearness near) a b y ≡ true) × (stop_b (nearness near) a b y ≡ y)
  stop-into None none y hy h =
      let j = stop_joins a b sound_a.content sound_b.content few-stops y hy h in
      (sym (joined-settled never_near never-nearness a b sound_a.content sound_b.content few-stops y hy) ∙ j.0, j.1)
  stop-into (Some n) none y hy h = absurd (true≢false none)

  ruled-into : (k : Kind) (y : List ℕ) → lists_id (ids k a) (renamed_b (ids k a) (ids k b) (is_joined (nearness_of sides) k a b) y) ≡ true
      → (is_joined (nearness_of sides) k a b y ≡ true) × (renamed_b (ids k a) (ids k b) (is_joined (nearness_of sides) k a b) y ≡ y)
  ruled-into k y h = let small = few k in let into = renamed_into_a (ids k a) (ids k b) (is_joined (nearness_of sides) k a b) (omega arith) y h in (into.1, into.0)

  -- where ids of the kind do not meet, an id of B that gets an id of A is joined, and stays
  joined-into : (k : Kind) → may_meet sides.near k side.B ≡ false → (y : List ℕ) → lists_id (ids k b) y ≡ true → lists_id (ids k a) (renaming (names_b (nearness_of sides) a b) k y) ≡ true
      → (is_joined (nearness_of sides) k a b y ≡ true) × (renaming (names_b (nearness_of sides) a b) k y ≡ y)
  joined-into kind.Agency unmet y hy h = let j = agency-into a b sound_a.content (few kind.Agency) y h in (j, agency-stays_b a b sound_a.content (few kind.Agency) y j)
  joined-into kind.Stop unmet y hy h = stop-into sides.near unmet y hy h
  joined-into kind.Route unmet y hy h = ruled-into kind.Route y h
  joined-into kind.Service unmet y hy h = ruled-into kind.Service y h
  joined-into kind.Trip unmet y hy h = ruled-into kind.Trip y h

  met : (k : Kind) → may_meet sides.near k side.B ≡ false → (x y name : List ℕ) → lists_id (ids k a) x ≡ true → lists_id (ids k b) y ≡ true → renaming (names_a a b) k x ≡ name → renaming (names_b (nearness_of sides) a b) k y ≡ name
      → (x ≡ name) × (y ≡ name) × (lists_id (joined_ids (nearness_of sides) k a b) name ≡ true)
  met k unmet x y name has_x has_y new_x new_y =
      let has = ids-meet sides sound_a sound_b few k x y has_x has_y (new_x ∙ sym new_y) in
      let joined = joined-into k unmet y has_y has in
      let there = joined-has (nearness_of sides) k a b y joined.0 in
      let kept : y ≡ name = sym joined.1 ∙ new_y in
      let stays : renaming (names_a a b) k y ≡ y = ap (renaming (names_a a b) k) (sym joined.1) ∙ twin-stays sides sound_a sound_b few k y has ∙ joined.1 in
      let one : x ≡ y = apart-a a b sound_a.content sound_b.content k x y has_x there.0 (new_x ∙ sym kept ∙ sym stays) in
      (one ∙ kept, kept, subst (λ z. lists_id (joined_ids (nearness_of sides) k a b) z ≡ true) kept (has-filter (is_joined (nearness_of sides) k a b) (ids k a) y there.0 joined.0))

  pub names-meet : (k : Kind) → may_meet sides.near k side.B ≡ false → (n : NamesOfKind) → n ≡ kind_names k sides → MeetWhereJoined n
  names-meet k unmet n is x y name first second =
      let told_x = named-there (names_a a b) k a x name (sym (named (names_a a b) k sides.a.now sound_a x) ∙ ap (λ m. new_id m.a x) (sym is) ∙ first) in
      let told_y = named-there (names_b (nearness_of sides) a b) k b y name (sym (named (names_b (nearness_of sides) a b) k sides.b.now sound_b y) ∙ ap (λ m. new_id m.b y) (sym is) ∙ second) in
      let meet = met k unmet x y name told_x.0 told_y.0 told_x.1 told_y.1 in
      (meet.0, meet.1, ap (λ m. lists_id m.joined name) is ∙ meet.2)
