-- Routes in the order of their names.
use Rattle.std.proofs.Common.{◌≡◌, ◌∙◌, ◌+◌, ◌<◌, ◌++◌, ℕ, List, [], ◌∷◌, None, length, get_or, refl, sym, ap, subst, arith, inl, inr}
use Rattle.std.specs.Cmp.{IsTotalOrder, nat_cmp_total, on_total, then_total}
use Rattle.std.specs.Cmp.Lexicographic.{options_total}
use Rattle.std.proofs.lemmas.Bool.{cases_lt}
use Rattle.std.proofs.lemmas.List.{get_or_append_left, get_or_default, length-append}
use Rattle.std.proofs.Math.Seq.{get_or-append_seam}
use Rattle.gtfs_field.proofs.TextOrderFacts.{texts_total}
use Rattle.gtfs_rows.specs.declared.route.Route.{Route}
use Rattle.gtfs_advice.specs.declared.named_routes.NamedRoute.{NamedRoute}
use Rattle.gtfs_advice.specs.NamedRoutes.{AreNamed, IsNamed, listed_cmp, name_cmp}

-- ---- their order

pub names_total : IsTotalOrder name_cmp
names_total =
    then_total (then_total (then_total (on_total (λ (x : NamedRoute). x.agency.0) nat_cmp_total) (on_total (λ (x : NamedRoute). x.route_type) nat_cmp_total))
    (on_total (λ (x : NamedRoute). x.short_name) (options_total (on_total (λ t. t.now) texts_total)))) (on_total (λ (x : NamedRoute). x.long_name) (options_total (on_total (λ t. t.now) texts_total)))

pub listed_total : IsTotalOrder listed_cmp
listed_total = then_total names_total (on_total (λ (x : NamedRoute). x.number) nat_cmp_total)

-- ---- by their numbers

moved : {n k : ℕ} {r s : Route} {x y : NamedRoute} → IsNamed n r x → n ≡ k → r ≡ s → x ≡ y → IsNamed k s y
moved {n} {k} {r} {s} {x} {y} one e f g = subst (λ z. IsNamed k s z) g (subst (λ z. IsNamed k z x) f (subst (λ m. IsNamed m r x) e one))

-- the first n routes
pub record AreNamedSoFar (rs : List Route) (n : ℕ) (xs : List NamedRoute) : Type 0 where
  pub count : length xs ≡ n
  pub each : (k : ℕ) (d : Route) (e : NamedRoute) → k < n → IsNamed k (get_or rs k d) (get_or xs k e)

pub none-named : (rs : List Route) → AreNamedSoFar rs 0 []
none-named rs = record { count = refl; each = λ k d e h. absurd (omega arith) }

pub one-named : (rs : List Route) (n : ℕ) (r : Route) (x : NamedRoute) (before after : List NamedRoute) → n < length rs → r ≡ get_or rs n r → IsNamed n r x → after ≡ before ++ x ∷ []
    → AreNamedSoFar rs n before → AreNamedSoFar rs (n + 1) after
one-named rs n r x before after within is one pushed so_far = record {
  count = ap length pushed ∙ length-append before (x ∷ []) ∙ omega (arith, so_far.count);
  each = λ k d e h. elim (cases_lt k n) [
    | inl less ↦
        moved (so_far.each k d e less) refl refl (sym (ap (λ xs. get_or xs k e) pushed ∙ get_or_append_left before (x ∷ []) e k (omega (arith, less, so_far.count))))
    | inr rest ↦
        let same : n ≡ k = omega arith in
        let end : length before ≡ k = so_far.count ∙ same in
        let last : get_or after k e ≡ x = ap (λ xs. get_or xs k e) pushed ∙ ap (λ m. get_or (before ++ x ∷ []) m e) (sym end) ∙ get_or-append_seam before x [] e in
        let row : r ≡ get_or rs k d = is ∙ get_or_default rs n r d within ∙ ap (λ m. get_or rs m d) same in
        moved one same row (sym last)
  ];
}

pub all-named : (rs : List Route) (n : ℕ) (xs : List NamedRoute) → n ≡ length rs → AreNamedSoFar rs n xs → AreNamed rs xs
all-named rs n xs end so_far = record { count = so_far.count ∙ end; each = λ k d e h. so_far.each k d e (omega (arith, h, end)) }

-- ---- neighbours with one name

-- what an index past the end reads
abbrev pub nothing : NamedRoute
nothing = record { agency = record { 0 = 0 }; route_type = 0; short_name = None; long_name = None; number = 0 }
