use Rattle.std.proofs.Common.{◌≡◌, ◌∙◌}
use Rattle.std.specs.Ordering.{ordering_then}
use Rattle.gtfs_board.specs.upcoming.Candidates.{departure_cmp}
use Rattle.gtfs_board.proofs.CandidateKeys.{compares}
use Rattle.gtfs_board.proofs.KeyOrder.{chained}
use Rattle.gtfs_board.proofs.upcoming.candidate.Candidate.cmp_departure.Goals as goal

pub returns : goal.returns
returns c =
    let a = c.args.self.now in
    let b = c.args.other.now in
    let joined = chained c.cmp.result c.cmp-2.result c.cmp-3.result c.cmp-4.result c.cmp-5.result _ _ _ c.then-4.result c.then.ensures c.then-2.ensures c.then-3.ensures c.then-4.ensures in
    let value : c.then-4.result ≡ departure_cmp a b =
    joined ∙ (λ i. ordering_then (c.cmp.ensures i) (ordering_then (c.cmp-2.ensures i) (ordering_then (c.cmp-3.ensures i) (ordering_then (c.cmp-4.ensures i) (c.cmp-5.ensures i))))) in
    record { value = value; as_keys = λ ids up in_a in_b. value ∙ compares ids a b up in_a in_b }
