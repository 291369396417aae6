use Rattle.std.proofs.Common.{◌∙◌, ap}
use Rattle.gtfs_schema.specs.Problems.{passes}
use Rattle.gtfs_rows.specs.ContentRead.{content_of}
use Rattle.gtfs_rules.proofs.ReportLaws.{passes_if}
use Rattle.gtfs_cli.proofs.Checked.{none-drafted, not-passing, one-drafted}
use Rattle.gtfs_cli.proofs.commands.check.draft_if_advised.Goals as goal

pub returns-in_default : goal.returns-in_default
returns-in_default c =
    none-drafted c.args.advise (passes c.args.report.problems) (content_of c.args.report.dataset)
    (not-passing c.args.report.dataset c.args.report.problems c.requires c.in_default.ensures.fails)

pub returns : goal.returns
returns c =
    one-drafted c.args.advise (passes c.args.report.problems) _ (content_of c.args.report.dataset) c.if-not-advise.false
    (passes_if c.args.report.dataset c.args.report.problems c.requires c.in-Ok.ensures.passes) (c.in_ok-new.ensures.content ∙ ap content_of c.in-Ok.ensures.passed)
