use Rattle.std.proofs.Common.{◌∙◌, sym}
use Rattle.gtfs_board.proofs.SheetRuns.{timed-is, timed-there, untimed-is}
use Rattle.gtfs_board.proofs.sheet.times.time_among.Goals as goal

pub passes-requires-clause-ascend : goal.passes-requires-clause-ascend
passes-requires-clause-ascend c = λ d.
    c.requires.later d (timed-there c.args.rows.now c.args.position d c.index-rows-position.result c.in-Some.field-0 c.requires.within c.index-rows-position.is (sym c.departs.ensures ∙ c.in-Some.is))

pub returns-in-Some : goal.returns-in-Some
returns-in-Some c = λ p t fs.
    timed-is p t c.args.rows.now fs c.args.start c.args.position _ c.in-Some.field-0 c.index-rows-position.result c.requires.within c.index-rows-position.is
    (sym c.departs.ensures ∙ c.in-Some.is) (c.passes.ensures p t fs c.index-rows-position.result)

pub returns-in-None : goal.returns-in-None
returns-in-None c = λ p t fs.
    untimed-is p t c.args.rows.now fs c.args.start c.args.position c.index-rows-position.result c.requires.within c.index-rows-position.is (sym c.departs.ensures ∙ c.in-None.is)
