use Rattle.std.proofs.Common.{◌∙◌, ◌++◌, ap, append_assoc, codes, string_bytes}
use Rattle.gtfs_table.specs.FileNames.{file_name}
use Rattle.gtfs_advice.specs.Advice.{about_of}
use Rattle.gtfs_advice.specs.Codes.{advice_name, advice_text, file_of}
use Rattle.gtfs_cli.specs.AdviceLines.{about_text}
use Rattle.gtfs_cli.specs.CheckLines.{count_shown}
use Rattle.gtfs_cli.proofs.ShownValues.{one-more, pushed-as}
use Rattle.gtfs_cli.proofs.report.advice_line.push_advice.Goals as goal

pub returns : goal.returns
unfolding lib.Utf8.encode
returns c =
    let old = string_bytes c.args.text.now in
    let code = c.args.advice.now.code in
    let named = c.in_ok-push_str.ensures.bytes ∙ ap (λ t. old ++ t) c.name.ensures in
    let spaced = one-more old (advice_name code) (codes " ") _ _ named c.in_ok-push.ensures.bytes in
    let filed = one-more old _ (file_name (file_of code)) _ _ spaced
    (c.in_ok-push_str-2.ensures.bytes ∙ ap (λ t. string_bytes c.push.new.self ++ t) (c.name-2.ensures ∙ ap file_name c.file.ensures)) in
    let parted = one-more old _ (codes "\t") _ _ filed c.in_ok-push-2.ensures.bytes in
    let about = one-more old _ (about_text (about_of c.args.feed.now c.args.advice.now.subject)) _ _ parted c.in_ok-push_subject.ensures in
    let apart = one-more old _ (codes "\t") _ _ about c.in_ok-push-3.ensures.bytes in
    let said = one-more old _ (advice_text code) _ _ apart (c.in_ok-push_str-3.ensures.bytes ∙ ap (λ t. string_bytes c.push-3.new.self ++ t) c.text.ensures) in
    let counted = one-more old _ (count_shown c.args.count) _ _ said c.in_ok-push_shown_count.ensures in
    pushed-as c.push-4.result _ _ _ _ c.push-4.ensures.bytes (ap (λ t. t ++ codes "\n") counted ∙ append_assoc old _ (codes "\n"))
