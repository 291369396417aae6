-- What lies above an event or a moment lies above with all that follow.
use Rattle.std.proofs.Common.{◌≡◌, true, false, refl, sym, ◌∙◌, ap, rules, arith}
use Rattle.std.specs.Prelude.{ℤ, pos, ◌<ℤ◌}
use Rattle.std.proofs.lemmas.Int.{ints}
use Rattle.std.proofs.lemmas.Bool.{true≢false}
use Rattle.std.specs.Cmp.{IsTotalOrder, alike_right}
use Rattle.std.specs.Cmp.Rules.{comparing}
use Rattle.std.specs.declared.cmp.Ordering.{Ordering}
use Rattle.std.specs.declared.cmp.Ordering.TheVariants.{Less, Equal, Greater}
use Rattle.std.specs.Ordering.{is_lt, is_gt, ordering_then, nat_cmp, int_cmp}
use Rattle.gtfs_field.proofs.NumberFacts.{int_cmp-pos as same_cmp}
use Rattle.gtfs_field.proofs.OrderingFacts.{int-less, less, nat-greater, nat-less}
use Rattle.gtfs_runs.specs.declared.event.Event.{Event}
use Rattle.gtfs_runs.specs.declared.moment.Moment.{Moment}
use Rattle.gtfs_runs.specs.EventOrder.{event_cmp, moment_cmp, moment_of_event, is_later, is_above_moment, IsFrom}

pub events_total : IsTotalOrder event_cmp
events_total = search (comparing, rules) depth 20

pub moments_total : IsTotalOrder moment_cmp
moments_total = search (comparing, rules) depth 20

-- an order of which the last part is left out
without_last : (a b c d e : Ordering) → ordering_then a (ordering_then b (ordering_then c (ordering_then d e))) ≡ Less → is_gt (ordering_then a (ordering_then b (ordering_then c d))) ≡ false
without_last Less b c d e h = refl
without_last Greater b c d e h = absurd (cc)
without_last Equal Less c d e h = refl
without_last Equal Greater c d e h = absurd (cc)
without_last Equal Equal Less d e h = refl
without_last Equal Equal Greater d e h = absurd (cc)
without_last Equal Equal Equal Less e h = refl
without_last Equal Equal Equal Equal e h = refl
without_last Equal Equal Equal Greater e h = absurd (cc)

pub moments-rise : (x y : Event) → event_cmp x y ≡ Less → is_gt (moment_cmp (moment_of_event x) (moment_of_event y)) ≡ false
moments-rise x y h =
    rw (same_cmp x.at y.at, same_cmp x.seq y.seq) (without_last (nat_cmp x.at y.at) (nat_cmp x.trip.0 y.trip.0) (nat_cmp x.run y.run) (nat_cmp x.seq y.seq) (nat_cmp x.row y.row) h)

module _ {K : Type 0} {R : K → K → Ordering} (o : IsTotalOrder R) where
  upto : (x y z : K) (r : Ordering) → R x y ≡ Less → R y z ≡ r → is_gt r ≡ false → R x z ≡ Less
  upto x y z Less below is le = o.trans x y z below is
  upto x y z Equal below is le = sym (alike_right o y z x is) ∙ below
  upto x y z Greater below is le = absurd (true≢false le)

-- what follows an event that lies above lies above
pub later-upward : (e x y : Event) → event_cmp x y ≡ Less → is_later e x ≡ true → is_later e y ≡ true
later-upward e x y rises above = ap is_lt (events_total.trans e x y (less _ above) rises)

pub above-upward : (s : Moment) (x y : Event) → event_cmp x y ≡ Less → is_above_moment s x ≡ true → is_above_moment s y ≡ true
above-upward s x y rises above = ap is_lt (upto moments_total s (moment_of_event x) (moment_of_event y) _ (less _ above) refl (moments-rise x y rises))

int-greater : (a b : ℤ) → b <ℤ a → int_cmp a b ≡ Greater
int-greater a b h = grind (arith, ints)

-- time decides first
pub above-from : (s : Moment) → IsFrom s.at (is_above_moment s)
above-from s = record {
  before = λ e h. rw (int-greater s.at (pos e.at) h) refl;
  after = λ e h. rw (int-less s.at (pos e.at) h) refl;
}

pub later-from : (x : Event) → IsFrom (pos x.at) (is_later x)
later-from x = record {
  before = λ e h. rw (nat-greater x.at e.at (omega (arith, ints))) refl;
  after = λ e h. rw (nat-less x.at e.at (omega (arith, ints))) refl;
}
