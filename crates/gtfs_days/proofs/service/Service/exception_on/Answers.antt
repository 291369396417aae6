use Rattle.std.proofs.Common.{rules, ◌≡◌, ◌∙◌, to_z, of_z, to_z-of_z, FitsSigned, w32, int_cmp}
use Rattle.std.specs.List.{HoldsAt}
use Rattle.std.specs.List.Sorted.{IsNonDecreasingBy, IsPartitionPoint}
use Rattle.std.specs.Ordering.{ordering_index}
use Rattle.std.specs.declared.cmp.Ordering.TheVariants.{Less, Equal, Greater}
use Rattle.std.proofs.lemmas.List.Sorted.{answers_always}
use Rattle.gtfs_days.proofs.Exceptions.{found_exception, missing_exception}
use Rattle.gtfs_days.proofs.service.Service.exception_on.Goals as goal

pub returns-in-Ok : goal.returns-in-Ok
returns-in-Ok c = λ kind.
    let fits : FitsSigned w32 c.number.result = search rules in
    let back : to_z w32 (of_z w32 c.number.result) ≡ c.args.day = to_z-of_z fits ∙ c.number.ensures.value in
    let found : HoldsAt (λ e. int_cmp e.0 c.args.day ≡ Equal) c.self.inside.exceptions.items c.in-Ok.at =
    rw (← back, ← c.deref.ensures.value) (c.in-Ok.ensures.position (λ e. e.0) (answers_always _ _ _ (λ f a r g called. search rules))) in
    rw (← c.self.view_is) (found_exception kind c.args.day c.self.inside.exceptions.items c.in-Ok.at c.index.result.now c.self.invariant.1 (rw (← c.deref.ensures.value) c.in-Ok.ensures.bound) found c.index.ensures)

pub returns-in-Err : goal.returns-in-Err
returns-in-Err c = λ kind.
    let fits : FitsSigned w32 c.number.result = search rules in
    let back : to_z w32 (of_z w32 c.number.result) ≡ c.args.day = to_z-of_z fits ∙ c.number.ensures.value in
    let searchable : IsNonDecreasingBy (λ e. ordering_index (int_cmp e.0 c.args.day)) c.self.inside.exceptions.items
    → IsPartitionPoint (λ e. int_cmp e.0 c.args.day ≡ Less) (λ e. int_cmp e.0 c.args.day ≡ Greater) c.self.inside.exceptions.items c.in-Err.field-0 =
    rw (← back, ← c.deref.ensures.value) (c.in-Err.ensures.position (λ e. e.0) (answers_always _ _ _ (λ f a r g called. search rules))) in
    rw (← c.self.view_is) (missing_exception kind c.args.day c.self.inside.exceptions.items c.in-Err.field-0 c.self.invariant.1 searchable)
