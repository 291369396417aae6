use Rattle.std.proofs.Common.{rules, ◌≡◌, ◌∙◌, sym, Some, to_z, of_z, to_z-of_z, FitsSigned, w32}
use Rattle.gtfs_days.specs.Service.{IsFirst, is_active}
use Rattle.gtfs_days.proofs.ActiveDays.{first_same}
use Rattle.gtfs_days.proofs.service.Service.next_active.Goals as goal

pub returns-in-Some : goal.returns-in-Some
returns-in-Some c =
    let fits : FitsSigned w32 c.number.result = search rules in
    let day : to_z w32 (of_z w32 c.number.result) ≡ c.args.day = to_z-of_z fits ∙ c.number.ensures.value in
    let fits_found : FitsSigned w32 c.in-Some.number = search rules in
    let same : c.from_number.result ≡ c.in-Some.number = c.from_number.ensures ∙ to_z-of_z fits_found in
    let found = rw day at c.in-Some.ensures in
    let first : IsFirst (is_active c.args.self.now) c.args.day c.in-Some.number =
    first_same _ (is_active c.args.self.now) c.args.day (Some c.in-Some.number) (λ e h. sym (c.exceptions_from.ensures.same e h)) found in
    rw same first

pub returns-in-None : goal.returns-in-None
returns-in-None c =
    let fits : FitsSigned w32 c.number.result = search rules in
    let day : to_z w32 (of_z w32 c.number.result) ≡ c.args.day = to_z-of_z fits ∙ c.number.ensures.value in
    let none = rw day at c.in-None.ensures in
    λ e h. c.exceptions_from.ensures.same e h ∙ none e h
