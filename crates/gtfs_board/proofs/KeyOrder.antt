-- The order of keys: total, only equal keys tie, and what it says of the instants.
use Rattle.std.proofs.Common.{◌≡◌, true, ℤ, ◌<ℤ◌, ◌≤ℤ◌, refl, ap, ◌∙◌, arith}
use Rattle.std.proofs.lemmas.Int.{ints}
use Rattle.std.proofs.lemmas.Cmp.{nat_cmp_total, int_cmp_total, nat_list_cmp_total, then_total, on_total}
use Rattle.std.specs.Cmp.{IsTotalOrder}
use Rattle.std.specs.FinMap.{IsAntisymmetric, nat_cmp-IsAntisymmetric, int_cmp-IsAntisymmetric, slice_cmp-IsAntisymmetric}
use Rattle.std.specs.Ordering.{ordering_then, is_lt, MatchOrdering}
use Rattle.std.specs.declared.cmp.Ordering.{Ordering}
use Rattle.std.specs.declared.cmp.Ordering.TheVariants.{Less, Equal, Greater}
use Rattle.gtfs_field.proofs.OrderingFacts.{tied_first, tied_second}
use Rattle.gtfs_rows.specs.Key.{Key, key_cmp}

-- ---- five comparisons, one after the other

regrouped : (a b c d e : Ordering) → ordering_then (ordering_then (ordering_then (ordering_then a b) c) d) e ≡ ordering_then a (ordering_then b (ordering_then c (ordering_then d e)))
regrouped Less b c d e = refl
regrouped Greater b c d e = refl
regrouped Equal Less c d e = refl
regrouped Equal Greater c d e = refl
regrouped Equal Equal Less d e = refl
regrouped Equal Equal Greater d e = refl
regrouped Equal Equal Equal d e = refl

pub chained : (a b c d e first second third last : Ordering) → first ≡ ordering_then a b → second ≡ ordering_then first c → third ≡ ordering_then second d → last ≡ ordering_then third e
    → last ≡ ordering_then a (ordering_then b (ordering_then c (ordering_then d e)))
chained a b c d e first second third last one two three four =
    four ∙ ap (λ r. ordering_then r e) (three ∙ ap (λ r. ordering_then r d) (two ∙ ap (λ r. ordering_then r c) one)) ∙ regrouped a b c d e

-- ---- the laws

pub key_cmp_total : IsTotalOrder key_cmp
key_cmp_total = then_total (on_total (λ (k : Key). k.instant) int_cmp_total)
    (then_total (on_total (λ (k : Key). k.trip) nat_list_cmp_total)
    (then_total (on_total (λ (k : Key). k.run) nat_cmp_total)
    (then_total (on_total (λ (k : Key). k.sequence) nat_cmp_total)
    (on_total (λ (k : Key). k.day) int_cmp_total))))

pub key_cmp-IsAntisymmetric : IsAntisymmetric key_cmp
key_cmp-IsAntisymmetric a b e =
    let past_instant = tied_second _ _ e in
    let past_trip = tied_second _ _ past_instant in
    let past_run = tied_second _ _ past_trip in
    let instant = int_cmp-IsAntisymmetric a.instant b.instant (tied_first _ _ e) in
    let trip = slice_cmp-IsAntisymmetric nat_cmp-IsAntisymmetric a.trip b.trip (tied_first _ _ past_instant) in
    let run = nat_cmp-IsAntisymmetric a.run b.run (tied_first _ _ past_trip) in
    let sequence = nat_cmp-IsAntisymmetric a.sequence b.sequence (tied_first _ _ past_run) in
    let day = int_cmp-IsAntisymmetric a.day b.day (tied_second _ _ past_run) in
    λ i. record { instant = instant i; trip = trip i; run = run i; sequence = sequence i; day = day i }

-- ---- the same as tests

-- ---- keys and their instants

not_later : (x y : ℤ) (r s : Ordering) → MatchOrdering r (x <ℤ y) (x ≡ y) (y <ℤ x) → is_lt (ordering_then r s) ≡ true → x ≤ℤ y
not_later x y Less s ranks h = omega (arith, ints, ranks)
not_later x y Equal s ranks h = omega (arith, ints, ranks)
not_later x y Greater s ranks h = cc h
