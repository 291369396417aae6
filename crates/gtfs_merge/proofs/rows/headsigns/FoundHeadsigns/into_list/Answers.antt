use Rattle.std.proofs.Common.{◌∙◌, ◌++◌, ◌∷◌, [], ap, append-nil, append_assoc, sym, subst, string_bytes, map}
use Rattle.gtfs_rows.specs.Headsigns.{AreDistinct}
use Rattle.gtfs_rows.proofs.HeadsignFacts.{distinct-texts}
use Rattle.gtfs_merge.proofs.rows.headsigns.FoundHeadsigns.into_list.Goals as goal

pub loop-text-init : goal.loop-text-init
loop-text-init c =
    ap (λ ts. ts ++ map string_bytes c.into_iter-text-iterator.result) c.in_ok-list.ensures.items
    ∙ ap (map string_bytes) c.into_iter-text-iterator.ensures.into_iter_gives.0 ∙ c.self.view_is

pub loop-text-preserved : goal.loop-text-preserved
loop-text-preserved c =
    let later = map string_bytes c.next.new.self in
    ap (λ ts. ts ++ later) (c.in_ok-push.ensures.items ∙ ap (λ t. c.loop-text.list.items ++ t ∷ []) c.new.ensures)
    ∙ append_assoc c.loop-text.list.items (string_bytes c.in-Some.text ∷ []) later
    ∙ ap (λ ks. c.loop-text.list.items ++ map string_bytes ks) (sym c.in-Some.ensures.steps) ∙ c.loop-text.invariant

pub returns-clause-texts : goal.returns-clause-texts
returns-clause-texts c =
    c.new-2.ensures ∙ sym (append-nil c.loop-text.list.items)
    ∙ ap (λ ks. c.loop-text.list.items ++ map string_bytes ks) (sym c.in-None.ensures.steps.0) ∙ c.loop-text.invariant

pub returns-clause-distinct : goal.returns-clause-distinct
returns-clause-distinct c = subst AreDistinct c.self.view_is (distinct-texts string_bytes c.self.inside.texts.keys c.into_iter-text-iterator.ensures.into_iter_gives.3)
