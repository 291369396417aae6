use Rattle.std.proofs.Common.{◌≡◌, ◌<◌, ◌∙◌, [], ◌∷◌, get_or, length, map, sym, ap, subst}
use Rattle.std.specs.List.{All}
use Rattle.std.specs.List.Sorted.{IsPermutation}
use Rattle.std.proofs.lemmas.List.{get_or_default, map-append, map-id}
use Rattle.std.proofs.lemmas.List.Elements.{All-push}
use Rattle.std.proofs.lemmas.List.Sorted.{All-permutation, IsPermutation-map}
use Rattle.gtfs_runs.specs.declared.stop_lanes.listed.ListedEvent.{ListedEvent}
use Rattle.gtfs_runs.specs.declared.stop_lanes.listed.Ranked.{Ranked}
use Rattle.gtfs_runs.proofs.Pushes.{mapped-all, pushed-more}
use Rattle.gtfs_runs.proofs.stop_lanes.listed.places_by_rank.Goals as goal

pub loop-at-preserved : goal.loop-at-preserved
loop-at-preserved c =
    let xs = c.args.listed.now in
    let n = c.loop-at.at in
    let inside : n < length xs = c.loop-at-test.true in
    let old = c.loop-at.places.items in
    let is = c.in_ok-at.ensures in
    record {
      within = subst (All (λ y. y.at < length xs)) (sym c.in_ok-push.ensures.items) (All-push (λ y. y.at < length xs) old _ c.loop-at.invariant.within (subst (λ m. m < length xs) (sym is) inside));
      same = λ d.
          pushed-more (λ y. y) xs n (get_or xs n d) _ _ (get_or xs c.in_ok-at.at d) inside (get_or_default xs n d (get_or xs n d) inside) (c.loop-at.invariant.same d)
          (ap (map (λ (y : Ranked). get_or xs y.at d)) c.in_ok-push.ensures.items ∙ map-append (λ (y : Ranked). get_or xs y.at d) old (_ ∷ []))
          (ap (λ m. get_or xs m d) is);
    }

pub returns-clause-within : goal.returns-clause-within
returns-clause-within c = All-permutation (λ y. y.at < length c.args.listed.now) _ _ c.sort_unstable_by_key.ensures.permutation c.loop-at.invariant.within

pub returns-clause-same : goal.returns-clause-same
returns-clause-same c = λ d.
    let xs = c.args.listed.now in
    let at : Ranked → ListedEvent = λ y. get_or xs y.at d in
    let all : map at c.loop-at.places.items ≡ xs = mapped-all (λ y. y) xs c.loop-at.at _ c.loop-at-test.false (c.loop-at.invariant.same d) ∙ map-id xs in
    subst (λ l. IsPermutation l (map at c.sort_unstable_by_key.new.self.items)) all (IsPermutation-map at _ _ c.sort_unstable_by_key.ensures.permutation)
