use Rattle.std.proofs.Common.{◌<◌, ℕ, List, get_or, length, sym, ap, ◌∙◌, arith}
use Rattle.std.specs.Prelude.{bytes_eq}
use Rattle.std.proofs.lemmas.List.Folds.{list_any_at}
use Rattle.gtfs_schema.specs.steps.FoundProblems.{is_same}
use Rattle.gtfs_schema.proofs.EachFacts.{each_done, each_more}
use Rattle.gtfs_row_rules.proofs.FileFacts.{asked, other_problem, others_reported}
use Rattle.gtfs_schema.proofs.SiteFacts.{text_itself}
use Rattle.gtfs_row_rules.proofs.files.report_other_files.Goals as goal

pub loop-name-preserved : goal.loop-name-preserved
loop-name-preserved c =
    let d = c.args.tables.now in
    let value = c.others-name-items.ensures.value in
    let i = c.loop-name.name-index in
    let item = c.name-item.result in
    let name = get_or d.others i item in
    let within : i < length d.others = rw (← value) (omega arith) in
    let site = ap other_problem (c.as_str.ensures ∙ c.name-item.is ∙ ap (λ (names : List (List ℕ)). get_or names i item) value) in
    each_more d (λ t. is_same (other_problem t)) d.others i item c.args.found.now c.loop-name.found c.report_if.new.self within c.loop-name.invariant
    (asked d _ (other_problem name) _ _ _ site (sym (list_any_at (bytes_eq name) d.others i item within (text_itself name))) c.in_ok-report_if.ensures)

pub returns : goal.returns
returns c =
    let d = c.args.tables.now in
    others_reported d c.args.found.now c.loop-name.found
    (each_done d (λ t. is_same (other_problem t)) d.others c.loop-name.name-index c.args.found.now c.loop-name.found (rw (← c.others-name-items.ensures.value) c.loop-name-test.false) c.loop-name.invariant)
