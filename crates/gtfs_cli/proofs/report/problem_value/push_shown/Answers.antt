use Rattle.std.proofs.Common.{◌≡◌, ◌∙◌, ◌++◌, ap, append_assoc, chars, codes, encode_utf8_all, length, string_bytes, take}
use Rattle.std.proofs.lemmas.Iterator.{YieldsList-from_chars}
use Rattle.std.proofs.lemmas.Iterator.Consumers.{count_from_yields_List}
use Rattle.gtfs_schema.specs.FieldValues.{plain}
use Rattle.gtfs_cli.proofs.ShownValues.{plain-cut, plain-whole, pushed-as}
use Rattle.gtfs_cli.proofs.report.problem_value.push_shown.Goals as goal

pub returns-in_ok-push_beginning : goal.returns-in_ok-push_beginning
returns-in_ok-push_beginning c =
    let value = c.args.value.now in
    let start = string_bytes c.args.text.now in
    let count : c.count.result ≡ length (chars value) = count_from_yields_List _ c.count.result c.count.ensures.ran (YieldsList-from_chars value c.utf8.value c.chars.ensures.rest) in
    pushed-as c.push_str.result _ _ _ _ c.push_str.ensures.bytes
    (ap (λ t. t ++ codes "...") c.in_ok-push_beginning.ensures ∙ append_assoc start (plain (encode_utf8_all (take 57 (chars value)))) (codes "...")
    ∙ ap (λ t. start ++ t) (plain-cut value c.count.result count c.if-count-gt-MOST.true))

pub returns-in_ok-reserve : goal.returns-in_ok-reserve
returns-in_ok-reserve c =
    let value = c.args.value.now in
    let count : c.count.result ≡ length (chars value) = count_from_yields_List _ c.count.result c.count.ensures.ran (YieldsList-from_chars value c.utf8.value c.chars.ensures.rest) in
    c.push_plain.ensures.appended ∙ ap (λ t. t ++ plain value) c.in_ok-reserve.ensures.bytes
    ∙ ap (λ t. string_bytes c.args.text.now ++ t) (plain-whole value c.count.result count c.if-count-gt-MOST.false)
