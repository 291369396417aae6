use Rattle.std.proofs.Common.{subst}
use Rattle.gtfs_board.specs.PageFaults.{EndsPage, IsCounted}
use Rattle.gtfs_board.specs.declared.page.PageFault.{PageFault}
use Rattle.gtfs_cli.proofs.BoardParts.{page-cut, page-sent, page-stopped}
use Rattle.gtfs_cli.proofs.Plans.{prints-cut, prints-stopped, prints-whole}
use Rattle.gtfs_cli.proofs.commands.board.print_page.Goals as goal

pub returns-in-Ok : goal.returns-in-Ok
returns-in-Ok g c = λ f stop r limit lists.
    let board = c.args.board.now in
    prints-whole _ _ _ _ _ _ _
    (page-sent f board.zone stop r c.args.limit limit board.rest c.write_page.new.board.rest _ lists (g.O.Out.told c.args.out.now) (g.O.Out.told c.write_page.new.out) c.in-Ok.ensures.page)
    c.in-Ok.ensures.no_failure

pub returns-in-Err-Out : goal.returns-in-Err-Out
returns-in-Err-Out g c = λ f stop r limit lists.
    let board = c.args.board.now in
    let left = c.write_page.new.board.rest in
    let old = g.O.Out.told c.args.out.now in
    let new = g.O.Out.told c.write_page.new.out in
    let ends = subst (λ (e : PageFault). EndsPage board.zone c.args.limit board.rest left old new e) c.in-Err-Out.field-0-is c.in-Err-Out.ensures.fault in
    let once = subst (λ (e : PageFault). IsCounted (g.O.Out.failure_count c.args.out.now) (g.O.Out.failure_count c.write_page.new.out) e) c.in-Err-Out.field-0-is c.in-Err-Out.ensures.counted in
    prints-cut _ _ _ _ _ _ (page-cut f board.zone stop r c.args.limit limit board.rest left _ lists old new ends) once c.write_page.ensures.grows

pub returns-in-Err-OutOfMemory : goal.returns-in-Err-OutOfMemory
returns-in-Err-OutOfMemory g c = λ f stop r limit lists.
    let board = c.args.board.now in
    let left = c.write_page.new.board.rest in
    let old = g.O.Out.told c.args.out.now in
    let new = g.O.Out.told c.write_page.new.out in
    let ends = subst (λ (e : PageFault). EndsPage board.zone c.args.limit board.rest left old new e) c.in-Err-OutOfMemory.field-0-is c.in-Err-OutOfMemory.ensures.fault in
    let same = subst (λ (e : PageFault). IsCounted (g.O.Out.failure_count c.args.out.now) (g.O.Out.failure_count c.write_page.new.out) e) c.in-Err-OutOfMemory.field-0-is c.in-Err-OutOfMemory.ensures.counted in
    prints-stopped _ _ _ _ _ _ (page-stopped f board.zone stop r c.args.limit limit board.rest left _ lists old new ends) same
