use Rattle.std.proofs.Common.{◌≡◌, ◌∙◌, ap, sym, subst, Some, false}
use Rattle.std.proofs.Common.{rules}
use Rattle.std.specs.List.{slice_get}
use Rattle.gtfs_schema.specs.FieldValues.{has_control}
use Rattle.gtfs_schema.proofs.PlainTexts.{plain-itself, plain-plain}
use Rattle.gtfs_rows.specs.Headsigns.{ArePlain}
use Rattle.gtfs_reading.specs.HeadsignIndex.{with_headsign}
use Rattle.gtfs_reading.proofs.EachOnce.{plain-headsign}
use Rattle.gtfs_reading.proofs.headsigns.Headsigns.index.Goals as goal
use Rattle.gtfs_reading.proofs.headsigns.Headsigns.index.Goals.{then-has_control+in_ok-text+in_ok-index, else-has_control+in_ok-index-2}

pub index_of_plain-requires : goal.index_of_plain-requires
index_of_plain-requires c = let same = c.as_str.ensures.value ∙ c.in_ok-text.ensures in rw same (plain-plain c.args.text.now)

pub index_of_plain-requires-else-has_control : goal.index_of_plain-requires-else-has_control
index_of_plain-requires-else-has_control c = let none : has_control c.args.text.now ≡ false = search rules in plain-itself c.args.text.now none

pub returns-clause-index : goal.returns-clause-index
returns-clause-index c = elim c.if-has_control.branch [
  | then-has_control+in_ok-text+in_ok-index w ↦
      ap (λ v. slice_get v.texts c.if-has_control.index) (c.self-2.view_is ∙ w.self-is) ∙ ap (slice_get w.index_of_plain.new.self.texts) w.index-is
      ∙ w.in_ok-index.ensures.index ∙ ap Some (w.as_str.ensures.value ∙ w.in_ok-text.ensures)
  | else-has_control+in_ok-index-2 w ↦
      let none : has_control c.args.text.now ≡ false = search rules in
      ap (λ v. slice_get v.texts c.if-has_control.index) (c.self-2.view_is ∙ w.self-is) ∙ ap (slice_get w.index_of_plain-else-has_control.new.self.texts) w.index-is
      ∙ w.in_ok-index-2.ensures.index ∙ ap Some (sym (plain-itself c.args.text.now none))
]

pub returns-then-is_at-clause-texts : goal.returns-then-is_at-clause-texts
returns-then-is_at-clause-texts c =
    plain-headsign c.args.self.now.texts (subst (λ v. ArePlain v.texts) c.self.view_is c.self.invariant) c.self.inside.last c.args.text.now
    (c.is_at.ensures c.if-is_at.true)

pub returns-clause-texts : goal.returns-clause-texts
returns-clause-texts c = elim c.if-has_control.branch [
  | then-has_control+in_ok-text+in_ok-index w ↦
      ap (λ v. v.texts) (c.self-2.view_is ∙ w.self-is) ∙ w.in_ok-index.ensures.texts
      ∙ ap (λ t. with_headsign c.args.self.now.texts (Some t)) (w.as_str.ensures.value ∙ w.in_ok-text.ensures)
  | else-has_control+in_ok-index-2 w ↦
      let none : has_control c.args.text.now ≡ false = search rules in
      ap (λ v. v.texts) (c.self-2.view_is ∙ w.self-is) ∙ w.in_ok-index-2.ensures.texts
      ∙ ap (λ t. with_headsign c.args.self.now.texts (Some t)) (sym (plain-itself c.args.text.now none))
]
