-- All that the names of two feeds promise, where each kind has its table.
use Rattle.std.proofs.Common.{◌≡◌, ◌<◌, ◌+◌, ◌^◌, ◌∙◌, ℕ, false, List, ap, arith, length, sym}
use Rattle.gtfs_rows.specs.Content.{Content}
use Rattle.gtfs_rows.specs.RowsInMemory.{IsSoundParts, content_of_parts}
use Rattle.gtfs_merge.specs.MergedDepartures.{AreFew}
use Rattle.gtfs_merge.specs.Merging.{AreNamesOf}
use Rattle.gtfs_merge.specs.Names.{AllNames, AreApart, AreKindNames, in_kind, may_meet, new_id, of_side}
use Rattle.gtfs_merge.specs.NearStops.{near_pairs}
use Rattle.gtfs_merge.specs.Renaming.{ids, name_of_id, names_a, names_b}
use Rattle.gtfs_merge.specs.MergedSides.{nearness_of}
use Rattle.gtfs_merge.specs.declared.kind.Kind.{Kind}
use Rattle.gtfs_merge.specs.declared.kind.Side.{Side}
use Rattle.gtfs_merge.specs.declared.kind.Side.TheVariants as side
use Rattle.gtfs_merge.specs.declared.sides.Sides.{Sides}
use Rattle.gtfs_merge.proofs.Apart.{apart-a, apart-unmet}
use Rattle.gtfs_merge.proofs.JoinedKinds.{ids-known}
use Rattle.gtfs_merge.proofs.NamesAcross.{names-meet}
use Rattle.gtfs_merge.proofs.NamesFacts.{apart-names, named}

module _ (sides : Sides) (sound_a : IsSoundParts sides.a.now) (sound_b : IsSoundParts sides.b.now)
    (few : (k : Kind) → length (ids k (content_of_parts sides.a.now)) + length (ids k (content_of_parts sides.b.now)) < 2 ^ 65) (names : AllNames) (are : AreKindNames sides names) where
  abbrev a : Content
  a = content_of_parts sides.a.now

  abbrev b : Content
  b = content_of_parts sides.b.now

  ids-a : (k : Kind) → (in_kind names k).a.ids ≡ ids k a
  ids-a k = ap (λ t. t.a.ids) (are k) ∙ sym (ids-known k sides.a.now sound_a)

  ids-b : (k : Kind) → (in_kind names k).b.ids ≡ ids k b
  ids-b k = ap (λ t. t.b.ids) (are k) ∙ sym (ids-known k sides.b.now sound_b)

  named-a : (k : Kind) (x : List ℕ) → new_id (in_kind names k).a x ≡ name_of_id (names_a a b) k a x
  named-a k x = ap (λ t. new_id t.a x) (are k) ∙ named (names_a a b) k sides.a.now sound_a x

  named-b : (k : Kind) (x : List ℕ) → new_id (in_kind names k).b x ≡ name_of_id (names_b (nearness_of sides) a b) k b x
  named-b k x = ap (λ t. new_id t.b x) (are k) ∙ named (names_b (nearness_of sides) a b) k sides.b.now sound_b x

  are-few : (k : Kind) → AreFew k a b
  are-few k = let below = few k in omega (arith, below)

  apart : (k : Kind) (s : Side) → may_meet sides.near k s ≡ false → AreApart (of_side (in_kind names k) s)
  apart k side.A unmet x y name first second =
      apart-names (names_a a b) k a (apart-a a b sound_a.content sound_b.content k) x y name (sym (named-a k x) ∙ first) (sym (named-a k y) ∙ second)
  apart k side.B unmet x y name first second =
      apart-names (names_b (nearness_of sides) a b) k b (apart-unmet a b sound_a.content sound_b.content sides.near k unmet (are-few k)) x y name (sym (named-b k x) ∙ first) (sym (named-b k y) ∙ second)

  pub promised : names.near ≡ near_pairs (nearness_of sides) a b → AreNamesOf sides.near a b names
  promised near = record {
    ids_a = ids-a;
    ids_b = ids-b;
    a = named-a;
    b = named-b;
    apart = apart;
    across = λ k unmet. names-meet sides sound_a sound_b few k unmet (in_kind names k) (are k);
    joined = λ k. ap (λ t. t.joined) (are k);
    near = near;
  }
