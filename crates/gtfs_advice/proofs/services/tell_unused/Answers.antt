use Rattle.std.proofs.Common.{List, subst}
use Rattle.std.specs.Prelude.{OnOk}
use Rattle.gtfs_rows.specs.RowsInMemory.{content_of_parts}
use Rattle.gtfs_advice.specs.declared.code.Code.{Code}
use Rattle.gtfs_advice.specs.Advice.{About, Tells}
use Rattle.gtfs_advice.specs.Services.{has_no_trip}
use Rattle.gtfs_advice.specs.UsedServices.{stands_under}
use Rattle.gtfs_advice.proofs.UsedFacts.{of_those}
use Rattle.gtfs_advice.proofs.services.tell_unused.Goals as goal

pub returns : goal.returns
returns c =
    let p = c.args.parts.now in
    let all = content_of_parts p in
    let F : List (Code × About) → Type 0 = λ said. OnOk c.tell_each.result (Tells p said c.args.told.now.items c.tell_each.new.told.items) in
    subst F (of_those c.args.code (stands_under c.args.in_calendar) (has_no_trip all) all.services) c.tell_each.ensures
