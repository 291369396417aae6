use Rattle.std.proofs.Common.{◌≡◌, IfOk, false, rules, subst, sym}
use Rattle.gtfs_schema.specs.FieldValues.{has_control}
use Rattle.gtfs_schema.proofs.PlainTexts.{plain-itself}
use Rattle.gtfs_reading.proofs.texts.plain.Goals as goal

pub returns-then-not-has_control : goal.returns-then-not-has_control
returns-then-not-has_control c =
    let none : has_control c.args.text.now ≡ false = search rules in
    subst (λ t. IfOk c.copy_of.result (λ s. s ≡ t)) (sym (plain-itself c.args.text.now none)) c.copy_of.ensures
