use Rattle.std.proofs.Common.{◌∙◌, arith}
use Rattle.gtfs_field.proofs.Times.{hours_at-pair, hours_at-three}
use Rattle.gtfs_field.proofs.clock.hours_of.Goals as goal

pub returns-in_err-two_digits-in-len3-clause-value : goal.returns-in_err-two_digits-in-len3-clause-value
returns-in_err-two_digits-in-len3-clause-value c =
    c.from_residual-in_err-two_digits-in-len3.ensures
    ∙ hours_at-pair c.args.text.now _ (omega arith) c.in_err-two_digits-in-len3.ensures

pub returns-in_ok-two_digits-in-len3-clause-value : goal.returns-in_ok-two_digits-in-len3-clause-value
returns-in_ok-two_digits-in-len3-clause-value c =
    hours_at-three c.args.text.now _ _ (omega arith) c.in_ok-digit-in-len3.ensures.value c.in_ok-two_digits-in-len3.ensures
