use Rattle.std.proofs.Common.{◌<◌, length, arith, ◌∙◌}
use Rattle.gtfs_field.proofs.TimeColons.{time_of-short, time_of-other, time_of-hours, time_of-middle, time_of-minutes, time_of-seconds, time_of-ok}
use Rattle.gtfs_field.proofs.clock.seconds_of.Goals as goal

pub returns-in_default-clause-value : goal.returns-in_default-clause-value
returns-in_default-clause-value c =
    let bytes = c.as_bytes.result.now in
    let short : length bytes < 6 = omega arith in
    rw (← c.as_bytes.ensures.value) (time_of-short bytes short)

pub returns-in_default-2-clause-value : goal.returns-in_default-2-clause-value
returns-in_default-2-clause-value c =
    let bytes = c.as_bytes.result.now in
    rw (← c.as_bytes.ensures.value) (time_of-other bytes (omega arith) (λ e. omega arith))

pub returns-in_default-3-clause-value : goal.returns-in_default-3-clause-value
returns-in_default-3-clause-value c =
    let bytes = c.as_bytes.result.now in
    rw (← c.as_bytes.ensures.value) (time_of-middle bytes (omega arith) (λ e. omega arith))

pub returns-in_err-hours-clause-value : goal.returns-in_err-hours-clause-value
returns-in_err-hours-clause-value c =
    let bytes = c.as_bytes.result.now in
    rw (← c.as_bytes.ensures.value) (c.from_residual.ensures ∙ time_of-hours bytes (omega arith) (omega arith) c.in_err-hours.ensures.value)

pub returns-in_err-minutes-clause-value : goal.returns-in_err-minutes-clause-value
returns-in_err-minutes-clause-value c =
    let bytes = c.as_bytes.result.now in
    rw (← c.as_bytes.ensures.value) (c.from_residual-in_err-minutes.ensures ∙ time_of-minutes bytes (omega arith) (omega arith) c.in_err-minutes.ensures.value)

pub returns-in_err-seconds-clause-value : goal.returns-in_err-seconds-clause-value
returns-in_err-seconds-clause-value c =
    let bytes = c.as_bytes.result.now in
    rw (← c.as_bytes.ensures.value) (c.from_residual-in_err-seconds.ensures ∙ time_of-seconds bytes (omega arith) (omega arith) c.in_err-seconds.ensures.value)

pub returns-clause-value : goal.returns-clause-value
returns-clause-value c =
    let bytes = c.as_bytes.result.now in
    rw (← c.as_bytes.ensures.value)
    (time_of-ok bytes (omega arith) (omega arith) _ _ _ (omega arith) c.in_ok-hours.ensures.value c.in_ok-minutes.ensures.value c.in_ok-seconds.ensures.value)
