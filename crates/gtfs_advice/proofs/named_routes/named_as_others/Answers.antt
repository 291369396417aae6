use Rattle.std.proofs.Common.{◌≡◌, ◌<◌, List, Some, Vec, Bool, Global, length, map, nat_eq, sym, subst}
use Rattle.std.specs.Prelude.{All}
use Rattle.std.specs.List.{list_any}
use Rattle.std.specs.Option.{option_eq}
use Rattle.std.proofs.lemmas.Result.{IfOk-weaker}
use Rattle.gtfs_rows.specs.RowsInMemory.{content_of_parts}
use Rattle.gtfs_advice.specs.declared.named_routes.NamedRoute.{NamedRoute}
use Rattle.gtfs_advice.specs.NumberMarks.{AreMarks}
use Rattle.gtfs_advice.specs.NamedRoutes.{AreNamed, neighbours, repeated}
use Rattle.gtfs_advice.specs.Routes.{is_named_as_another}
use Rattle.gtfs_advice.proofs.NamedAsOthers.{marks-are, within}
use Rattle.gtfs_advice.proofs.named_routes.named_as_others.Goals as goal

pub repeats-requires : goal.repeats-requires
repeats-requires c =
    let xs = c.in_ok-by_number.field-0.items in
    let are = subst (λ rs. AreNamed rs xs) c.as_slice.ensures c.in_ok-by_number.ensures in
    subst (λ ys. All (λ x. x.number < length ys) ys) (sym c.deref.ensures.value) (within c.args.parts.now c.requires xs c.in_order-listed.result.items are c.in_order-listed.ensures.same)

pub returns : goal.returns
returns c =
    let p = c.args.parts.now in
    let xs = c.in_ok-by_number.field-0.items in
    let ys = c.in_order-listed.result.items in
    let are = subst (λ rs. AreNamed rs xs) c.as_slice.ensures c.in_ok-by_number.ensures in
    let marked = λ (zs : List NamedRoute) (marks : Vec Bool Global). AreMarks (length zs) (λ k. list_any (λ w. option_eq nat_eq (repeated w) (Some k)) (neighbours zs)) marks.items in
    IfOk-weaker c.repeats.result (marked c.deref.result.now) (λ marks. marks.items ≡ map (is_named_as_another (content_of_parts p)) (content_of_parts p).routes)
    (λ marks are_marks. marks-are p c.requires xs ys are c.in_order-listed.ensures.same c.in_order-listed.ensures.in_order marks.items (subst (λ zs. marked zs marks) c.deref.ensures.value are_marks)) c.repeats.ensures
