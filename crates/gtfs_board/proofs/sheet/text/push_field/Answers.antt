use Rattle.std.proofs.Common.{codes, string_bytes}
use Rattle.gtfs_board.proofs.Joined.{joined}
use Rattle.gtfs_board.proofs.SheetTexts.{pushed}
use Rattle.gtfs_board.proofs.sheet.text.push_field.Goals as goal

pub returns : goal.returns
returns c =
    pushed c.push_str-2.result _ (string_bytes c.push_str.new.self) _ c.args.field.now c.push_str-2.ensures.bytes
    (λ last. joined (string_bytes c.args.text.now) _ _ (codes "\t") c.args.field.now c.in_ok-push_str.ensures.bytes last)
