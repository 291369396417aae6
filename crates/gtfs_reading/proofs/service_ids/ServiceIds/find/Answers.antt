use Rattle.std.proofs.Common.{rules, of_calls, ◌≡◌, ◌<◌, length, subst, Some, None}
use Rattle.std.specs.List.{HoldsAt}
use Rattle.std.specs.List.Sorted.{IsNonDecreasingBy, IsPartitionPoint}
use Rattle.std.specs.Ordering.{ordering_index}
use Rattle.std.specs.declared.cmp.Ordering.TheVariants.{Less, Equal, Greater}
use Rattle.std.proofs.lemmas.Fn.{always_returns_same}
use Rattle.gtfs_field.specs.TextOrder.{text_cmp}
use Rattle.gtfs_reading.specs.ServiceIds.{NumbersText}
use Rattle.gtfs_reading.proofs.ServiceFacts.{text_found, text_missing}
use Rattle.gtfs_reading.proofs.service_ids.ServiceIds.find.Goals as goal

pub returns-in-Ok : goal.returns-in-Ok
returns-in-Ok c =
    let all = c.self.inside.ids.items in
    let id = c.args.id.now in
    let tie : HoldsAt (λ r. text_cmp r.now id ≡ Equal) all c.in-Ok.number =
    rw (← c.deref.ensures.value) (c.in-Ok.ensures.position (λ r. text_cmp r.now id) (always_returns_same _ _ _ (λ a r f k. search (rules, of_calls)))) in
    let within : c.in-Ok.number < length all = rw c.deref.ensures.value at c.in-Ok.ensures.bound in
    subst (λ ids. NumbersText ids id (Some c.in-Ok.number)) c.self.view_is (text_found id all c.self.invariant c.in-Ok.number within tie)

pub returns-in-Err : goal.returns-in-Err
returns-in-Err c =
    let all = c.self.inside.ids.items in
    let id = c.args.id.now in
    let rank : IsNonDecreasingBy (λ r. ordering_index (text_cmp r.now id)) all
    → IsPartitionPoint (λ r. text_cmp r.now id ≡ Less) (λ r. text_cmp r.now id ≡ Greater) all c.in-Err.field-0 =
    rw (← c.deref.ensures.value) (c.in-Err.ensures.position (λ r. text_cmp r.now id) (always_returns_same _ _ _ (λ a r f k. search (rules, of_calls)))) in
    subst (λ ids. NumbersText ids id None) c.self.view_is (text_missing id all c.self.invariant c.in-Err.field-0 rank)
