use Rattle.std.proofs.Common.{◌++◌, ◌∷◌, ◌∙◌, [], ap, to_z, w32}
use Rattle.std.specs.Prelude.{pos}
use Rattle.gtfs_field.proofs.NumberFacts.{int_lt-true}
use Rattle.gtfs_days.specs.declared.exception.Exception.TheVariants.{Added}
use Rattle.gtfs_days_tests.proofs.ManyDays.{next-day}
use Rattle.gtfs_days_tests.proofs.cuts.many_exceptions.Goals as goal

pub loop-number-preserved : goal.loop-number-preserved
loop-number-preserved c =
    let es = c.loop-number.exceptions.items in
    let number = to_z w32 c.loop-number.number-bits in
    next-day number Added es c.push.new.self.items c.loop-number.invariant.0 (int_lt-true number (pos 70_000) c.loop-number-test.true) (c.in_ok-push.ensures.items ∙ ap (λ day. es ++ (day, Added) ∷ []) c.from_number.ensures) c.loop-number.invariant.1
