use Rattle.std.proofs.Common.{◌≡◌, ◌<◌, ◌^◌, ◌∙◌, sym, subst, rules, unsigned_abs, ℤ, to_z, of_z, to_z-of_z, FitsSigned, w64}
use Rattle.gtfs_field.specs.Kinds.{date_of}
use Rattle.gtfs_cli.proofs.Moments.{read-small, service-sound}
use Rattle.gtfs_cli.proofs.commands.options.moments.read_moment.Goals as goal

pub returns-in_ok-ok-in-Some-clause-sound : goal.returns-in_ok-ok-in-Some-clause-sound
returns-in_ok-ok-in-Some-clause-sound c =
    let small = read-small c.in-Some.instant.now c.read_instant.result c.in_ok-ok-in-Some.field-0 c.read_instant.ensures (sym c.ok.ensures.value ∙ c.in_ok-ok-in-Some.was) in
    let fits : FitsSigned w64 c.in_ok-ok-in-Some.field-0 = search rules in
    let back : to_z w64 (of_z w64 c.in_ok-ok-in-Some.field-0) ≡ c.in_ok-ok-in-Some.field-0 = to_z-of_z fits in
    subst (λ (x : ℤ). unsigned_abs x < 10 ^ 12) (sym back) small

pub returns-in_ok-read_service_day-in-None-clause-sound : goal.returns-in_ok-read_service_day-in-None-clause-sound
returns-in_ok-read_service_day-in-None-clause-sound c =
    service-sound (date_of c.args.text.now) c.in_ok-read_service_day-in-None.field-0 (sym c.read_service_day.ensures ∙ c.in_ok-read_service_day-in-None.was)
