use Rattle.std.proofs.Common.{◌≡◌, ◌++◌, ◌∷◌, ◌∙◌, [], add-one, ap, get_or, map, subst, sym, take, true}
use Rattle.std.proofs.Math.Seq.{take-suc}
use Rattle.std.proofs.lemmas.List.{map-append, take_all}
use Rattle.gtfs_days.specs.Cut.{cut_day}
use Rattle.gtfs_days.specs.Service.{is_service_day}
use Rattle.gtfs_rows.specs.TrimmedContent.{trimmed_by_number}
use Rattle.gtfs_feed.proofs.trimmed.trimmed_services.Goals as goal

pub trim-requires : goal.trim-requires
trim-requires c = subst (λ cut. is_service_day (cut_day cut) ≡ true) (sym c.again.ensures) c.requires

pub loop-service-preserved : goal.loop-service-preserved
loop-service-preserved c =
    let f = trimmed_by_number c.args.cut.now in
    let rows = c.args.services.now in
    let index = c.loop-service.service-index in
    let so_far = take index rows in
    let row = get_or rows index c.service-item.result in
    rw (add-one, take-suc rows index c.service-item.result c.loop-service-test.true, map-append f so_far (row ∷ [])) (c.in_ok-push.ensures.items ∙ ap (λ items. items ++ c.in_ok-trim.field-0 ∷ []) c.loop-service.invariant
    ∙ ap (λ row. map f so_far ++ row ∷ []) (c.in_ok-trim.ensures ∙ ap (λ cut. trimmed_by_number cut c.service-item.result) c.again.ensures ∙ ap f c.service-item.is))

pub returns : goal.returns
returns c = c.new.ensures ∙ c.loop-service.invariant ∙ ap (map (trimmed_by_number c.args.cut.now)) (take_all c.loop-service.service-index c.args.services.now c.loop-service-test.false)
