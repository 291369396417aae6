use Rattle.std.proofs.Common.{◌≡◌, ◌<◌, length, arith}
use Rattle.gtfs_cli.proofs.Paths.{cut-at_root, cut-inside, cut-nowhere}
use Rattle.gtfs_cli.proofs.commands.paths.cut_path.Goals as goal

pub returns-in-None : goal.returns-in-None
returns-in-None c = cut-nowhere c.args.path.now c.in-None.ensures.cases

pub returns-in-Some : goal.returns-in-Some
returns-in-Some c =
    let h = c.in-Some.ensures.cases in
    let none : length c.in-Some.cut.0.now ≡ 0 = grind arith in
    cut-at_root c.args.path.now c.in-Some.cut.0.now c.in-Some.cut.1.now h.0 h.1 h.2 h.3 h.4 none

pub returns-in-Some-2 : goal.returns-in-Some-2
returns-in-Some-2 c =
    let h = c.in-Some.ensures.cases in
    let some : 0 < length c.in-Some.cut.0.now = grind arith in
    cut-inside c.args.path.now c.in-Some.cut.0.now c.in-Some.cut.1.now h.0 h.1 h.2 h.3 h.4 some
