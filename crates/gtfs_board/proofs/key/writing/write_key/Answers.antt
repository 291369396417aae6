use Rattle.std.proofs.Common.{◌∙◌, ◌++◌, ap, lit<, string_bytes, FitsSigned, w64}
use Rattle.std.specs.Fmt.{signed_decimal}
use Rattle.std.proofs.lemmas.Int.{to_z-of_z}
use Rattle.gtfs_board.specs.LentKeys.{plain_key}
use Rattle.gtfs_board.proofs.Joined.{key-joined}
use Rattle.gtfs_board.proofs.key.writing.write_key.Goals as goal

pub returns-clause-appended : goal.returns-clause-appended
returns-clause-appended c =
    let instant = c.args.key.now.instant in
    let fits : FitsSigned w64 instant = assumption in
    let at = rw c.unwrap.ensures at c.push.ensures.bytes ∙ ap (λ k. string_bytes c.args.text.now ++ k) (c.push.ensures.ascii (lit< tt)) in
    let shown = rw c.unwrap-2.ensures at c.push_str.ensures.bytes in
    let slash = rw c.unwrap-3.ensures at c.push-2.ensures.bytes ∙ ap (λ k. string_bytes c.push_str.new.self ++ k) (c.push-2.ensures.ascii (lit< tt)) in
    let trip = rw c.unwrap-4.ensures at c.push_str-2.ensures.bytes in
    key-joined _ _ _ _ _ _ _ (plain_key c.args.key.now) (c.format.ensures.text ∙ ap signed_decimal (to_z-of_z w64 instant fits)) at shown slash trip c.push_run.ensures.appended
