-- Names in the order of their bytes.
use Rattle.std.proofs.Common.{◌≡◌, ◌<◌, ◌+◌, ◌∷◌, ◌∙◌, [], List, false, String, Ordering, Less, Equal, Greater, string_bytes, map, length, get_or, IsSorted, refl, ap, arith}
use Rattle.std.specs.String.{string_cmp}
use Rattle.std.specs.Ordering.{is_lt, ordering_reverse}
use Rattle.std.specs.List.Sorted.{IsStrictlySortedBy}
use Rattle.std.proofs.lemmas.List.{get_or-map, length-map}
use Rattle.std.proofs.lemmas.Map.Keys.{Less-from_sorted}
use Rattle.gtfs_devices.specs.Folder.{IsByBytes}
use Rattle.gtfs_field.proofs.TextOrderFacts.{texts_total}

-- texts in order are bytes in order
pub by_bytes : {Y : Type 0} (names : List (String Y)) → IsSorted string_cmp names → IsByBytes (map string_bytes names)
by_bytes [] h k d low within = absurd (omega arith)
by_bytes (x ∷ xs) h k d low within =
    let all : k + 1 < length (x ∷ xs) = omega (arith, length-map (x ∷ xs) (string_bytes {Z = _})) in
    rw (get_or-map string_bytes (x ∷ xs) (k + 1) x d all, get_or-map string_bytes (x ∷ xs) k x d (omega arith)) (h k x low all)

not_above : (r : Ordering) → r ≡ Less → is_lt (ordering_reverse r) ≡ false
not_above Less p = refl
not_above Equal p = refl
not_above Greater p = absurd (cc p)

-- keys of a tree are in order
pub keys-by_bytes : {Y : Type 0} (names : List (String Y)) → IsStrictlySortedBy string_cmp names → IsByBytes (map string_bytes names)
keys-by_bytes names h = by_bytes names (λ k d low within.
    ap is_lt (texts_total.antisymm (string_bytes (get_or names (k + 1) d)) (string_bytes (get_or names k d)))
    ∙ not_above _ (Less-from_sorted string_cmp names k (k + 1) d h (omega arith) within))
