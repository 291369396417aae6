-- Candidates compare as their keys do.
use Rattle.std.proofs.Common.{◌≡◌, ◌<◌, ℕ, true, List, length, refl, sym, ap, ◌∙◌}
use Rattle.std.specs.Ordering.{nat_cmp, int_cmp, is_lt, ordering_then}
use Rattle.std.specs.declared.cmp.Ordering.{Ordering}
use Rattle.std.specs.declared.cmp.Ordering.TheVariants.{Less, Equal, Greater}
use Rattle.gtfs_rows.specs.TransferOrder.{Ascends}
use Rattle.gtfs_field.specs.TextOrder.{text_cmp}
use Rattle.gtfs_runs.proofs.TripIds.{numbers}
use Rattle.gtfs_board.specs.CandidateKeys.{key_among}
use Rattle.gtfs_rows.specs.Key.{key_cmp}
use Rattle.gtfs_board.specs.declared.upcoming.candidate.Candidate.{Candidate}
use Rattle.gtfs_board.specs.upcoming.Candidates.{candidate_lt, departure_cmp, lane_cmp}
use Rattle.gtfs_board.proofs.KeyOrder.{key_cmp-IsAntisymmetric}

pub compares : (ids : List (List ℕ)) (a b : Candidate) → Ascends text_cmp ids → a.trip < length ids → b.trip < length ids
    → departure_cmp a b ≡ key_cmp (key_among ids a) (key_among ids b)
compares ids a b up in_a in_b =
    ap (λ (r : Ordering). ordering_then (int_cmp a.instant b.instant)
    (ordering_then r (ordering_then (nat_cmp a.run b.run) (ordering_then (nat_cmp a.sequence b.sequence) (int_cmp a.day b.day)))))
    (numbers ids a.trip b.trip up in_a in_b)

rises : (r s : Ordering) → is_lt (ordering_then r s) ≡ true → (r ≡ Equal → ⊥) → r ≡ Less
rises Less s h apart = refl
rises Equal s h apart = absurd (apart refl)
rises Greater s h apart = cc h

-- of two candidates with different keys, the first has the lesser
pub key_rises : (ids : List (List ℕ)) (a b : Candidate) → Ascends text_cmp ids → a.trip < length ids → b.trip < length ids
    → (key_among ids a ≡ key_among ids b → ⊥) → candidate_lt a b ≡ true → key_cmp (key_among ids a) (key_among ids b) ≡ Less
key_rises ids a b up in_a in_b apart less =
    let same = compares ids a b up in_a in_b in
    sym same ∙ rises (departure_cmp a b) (lane_cmp a b) less
    (λ tied. apart (key_cmp-IsAntisymmetric (key_among ids a) (key_among ids b) (sym same ∙ tied)))
