use Rattle.std.proofs.Common.{◌≡◌, true, false, refl, sym, ◌∙◌, ap, rules, inl, inr}
use Rattle.std.specs.Prelude.{◌<ℤ◌, ◌≤ℤ◌}
use Rattle.std.proofs.lemmas.Bool.{true≢false}
use Rattle.std.specs.Cmp.{IsTotalOrder, tied_itself, ranked, int_ranked, int_cmp_is}
use Rattle.std.specs.Cmp.Rules.{comparing}
use Rattle.std.specs.declared.cmp.Ordering.{Ordering}
use Rattle.std.specs.declared.cmp.Ordering.TheVariants.{Less, Equal, Greater}
use Rattle.std.specs.Ordering.{is_lt, ordering_reverse}
use Rattle.gtfs_field.proofs.NumberFacts.{cases_int}
use Rattle.gtfs_field.proofs.OrderingFacts.{less, tied as parts}
use Rattle.gtfs_board.specs.declared.upcoming.candidate.Candidate.{Candidate}
use Rattle.gtfs_board.specs.upcoming.Candidates.{candidate_cmp, candidate_lt}
use Rattle.gtfs_board.specs.upcoming.QueueOrder.{IsStrict}

tied : (r s : Ordering) → r ≡ ordering_reverse s → is_lt r ≡ false → is_lt s ≡ false → r ≡ Equal
tied r Less e h k = absurd (true≢false k)
tied r Equal e h k = e
tied r Greater e h k = absurd (true≢false (sym (ap is_lt e) ∙ h))

pub strict_from_total : {K : Type 0} (R : K → K → Ordering) → IsTotalOrder R → ((x y : K) → R x y ≡ Equal → x ≡ y) → IsStrict (λ x y. is_lt (R x y))
strict_from_total R o exact = record {
  irrefl = λ x. ap is_lt (tied_itself o x);
  trans = λ x y z h k. ap is_lt (o.trans x y z (less _ h) (less _ k));
  exact = λ x y h k. exact x y (tied (R x y) (R y x) (o.antisymm x y) h k);
}

pub candidates_total : IsTotalOrder candidate_cmp
candidates_total = search (comparing, rules) depth 20

pub candidates_strict : IsStrict candidate_lt
candidates_strict = strict_from_total candidate_cmp candidates_total (λ x y h.
    let both = parts _ _ h in
    let a = parts _ _ both.0 in
    let b = parts _ _ a.1 in
    let d = parts _ _ b.1 in
    let e = parts _ _ d.1 in
    let g = parts _ _ both.1 in
    let k = parts _ _ g.1 in
    let instants = int_ranked x.instant y.instant Equal (sym a.0) in
    let trips = ranked x.trip y.trip Equal (sym b.0) in
    let runs = ranked x.run y.run Equal (sym d.0) in
    let sequences = ranked x.sequence y.sequence Equal (sym e.0) in
    let days = int_ranked x.day y.day Equal (sym e.1) in
    let lanes = ranked x.lane y.lane Equal (sym g.0) in
    let rows = ranked x.row y.row Equal (sym k.0) in
    let times = ranked x.at y.at Equal (sym k.1) in
    λ i. record {
      instant = instants i;
      trip = trips i;
      run = runs i;
      sequence = sequences i;
      day = days i;
      lane = lanes i;
      row = rows i;
      at = times i;
    })

-- an earlier instant comes first
pub candidate_lt-instant : (a b : Candidate) → a.instant <ℤ b.instant → candidate_lt a b ≡ true
candidate_lt-instant a b h = let e = int_cmp_is a.instant b.instant Less h in rw (← e) refl

pub not_lt-instant : (a b : Candidate) → candidate_lt a b ≡ false → b.instant ≤ℤ a.instant
not_lt-instant a b h = elim (cases_int a.instant b.instant) [
  | inl less ↦ absurd (true≢false (sym (candidate_lt-instant a b less) ∙ h))
  | inr same ↦ same
]
