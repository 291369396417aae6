-- Two boards of one feed, zone, stop, span and key are one list.
use Rattle.std.proofs.Common.{◌≡◌, ℕ, ℤ, ◌||◌, Bool, true, false, List, [], ◌∷◌, Option, refl, sym, ◌∙◌}
use Rattle.std.specs.List.{Contains}
use Rattle.std.specs.Ordering.{is_eq}
use Rattle.std.proofs.lemmas.Cmp.{eq_by_cmp_equiv}
use Rattle.std.proofs.lemmas.Map.Views.{list_any-from_Contains}
use Rattle.gtfs_field.proofs.OrderingFacts.{equal}
use Rattle.gtfs_rows.specs.Content.{Content}
use Rattle.gtfs_rows.proofs.ByKey.{by_key_is}
use Rattle.gtfs_rows.proofs.SameElements.{SameElements, contains-first, contains-later}
use Rattle.gtfs_rows.specs.Departures.{Origins, IsBoard, is_member}
use Rattle.gtfs_rows.specs.Key.{Key, key_cmp}
use Rattle.gtfs_board.proofs.KeyOrder.{key_cmp_total, key_cmp-IsAntisymmetric}

contains_step : (k x : Key) (xs : List Key) → (is_member k xs ≡ true → Contains xs k) → (b : Bool) → is_eq (key_cmp k x) ≡ b → (b || is_member k xs) ≡ true → Contains (x ∷ xs) k
contains_step k x xs later true e h = contains-first k x xs (sym (key_cmp-IsAntisymmetric k x (equal (key_cmp k x) e)))
contains_step k x xs later false e h = contains-later k x xs (later h)

contains-from_member : (k : Key) (xs : List Key) → is_member k xs ≡ true → Contains xs k
contains-from_member k [] h = cc h
contains-from_member k (x ∷ xs) h = contains_step k x xs (contains-from_member k xs) (is_eq (key_cmp k x)) refl h

moves : (xs ys : List Key) → ((k : Key) → is_member k xs ≡ is_member k ys) → (k : Key) → Contains xs k → Contains ys k
moves xs ys same k at = contains-from_member k ys (sym (same k) ∙ list_any-from_Contains (eq_by_cmp_equiv key_cmp_total) k xs at)

pub one-board : (f : Content) (origin : Origins) (s : List ℕ) (from until : ℤ) (after : Option Key) (xs ys : List Key) → IsBoard f origin s from until after xs → IsBoard f origin s from until after ys → xs ≡ ys
one-board f origin s from until after xs ys a b =
    let same : (k : Key) → is_member k xs ≡ is_member k ys = λ k. a.members k ∙ sym (b.members k) in
    let elements : SameElements xs ys = record { there = moves xs ys same; back = moves ys xs (λ k. sym (same k)) } in
    let itself : SameElements xs xs = record { there = λ k at. at; back = λ k at. at } in
    sym (by_key_is key_cmp key_cmp_total (λ (k : Key). k) key_cmp-IsAntisymmetric xs xs itself a.ascending)
    ∙ by_key_is key_cmp key_cmp_total (λ (k : Key). k) key_cmp-IsAntisymmetric xs ys elements b.ascending
