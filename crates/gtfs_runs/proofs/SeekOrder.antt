-- A seek lies where its moment lies.
use Rattle.std.proofs.Common.{◌≡◌, ◌<◌, ◌∙◌, ℕ, pos, negsuc, Bool, List, [], ◌∷◌, suc, length, refl, ap, Some, None, arith}
use Rattle.std.specs.Prelude.{All, bytes_eq, nat_lt}
use Rattle.std.specs.List.{find, position}
use Rattle.std.specs.Ordering.{int_cmp, is_lt, nat_cmp, ordering_then}
use Rattle.std.specs.declared.cmp.Ordering.{Ordering}
use Rattle.std.specs.declared.cmp.Ordering.TheVariants.{Less}
use Rattle.gtfs_rows.specs.TransferOrder.{Ascends}
use Rattle.gtfs_rows.specs.RowsInMemory.{text_of_number}
use Rattle.gtfs_field.specs.TextOrder.{text_cmp}
use Rattle.gtfs_runs.specs.declared.event.Event.{Event}
use Rattle.gtfs_runs.proofs.TripIds.{between, position_none, same_firsts, then_less, there_same}

-- an id that a trip has
pub known-trip : (ids : List (List ℕ)) (id : List ℕ) (n m : ℕ) (a c : Ordering) → Ascends text_cmp ids → position (bytes_eq id) ids ≡ Some n → m < length ids
    → is_lt (ordering_then a (ordering_then (nat_cmp n m) c)) ≡ is_lt (ordering_then a (ordering_then (text_cmp id (text_of_number ids m)) c))
known-trip ids id n m a c up found within = ap (λ r. is_lt (ordering_then a (ordering_then r c))) (there_same ids id n m up found within)

-- an id that no trip has: the first trip with a greater id stands for it, run 0 and sequence -1
pub unknown-trip : (ids : List (List ℕ)) (id : List ℕ) (t m run seq : ℕ) (a c : Ordering) → position (bytes_eq id) ids ≡ None → m < length ids
    → nat_lt m t ≡ is_lt (text_cmp (text_of_number ids m) id)
    → is_lt (ordering_then a (ordering_then (nat_cmp t m) (ordering_then (nat_cmp 0 run) (int_cmp (negsuc 0) (pos seq)))))
    ≡ is_lt (ordering_then a (ordering_then (text_cmp id (text_of_number ids m)) c))
unknown-trip ids id t m run seq a c none within below =
    let b = between id ids t m below (position_none (bytes_eq id) ids none m within) in
    ap (λ r. is_lt (ordering_then a (ordering_then (nat_cmp t m) r))) (then_less run)
    ∙ same_firsts a (ordering_then (nat_cmp t m) Less) (text_cmp id (text_of_number ids m)) c b.0 b.1

-- tests that agree on the events of a list find the same
pub found-alike : (p q : Event → Bool) (Of : Event → Type 0) → ((e : Event) → Of e → p e ≡ q e) → (es : List Event) → All Of es → find p es ≡ find q es
found-alike p q Of agree [] of = refl
found-alike p q Of agree (e ∷ es) of =
    let here = agree e (of 0 e (omega arith)) in
    let later = found-alike p q Of agree es (λ k d within. of (suc k) d (omega (arith, within))) in
    rw (here, later) refl
