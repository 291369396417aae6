use Rattle.std.proofs.Common.{◌≡◌, ◌∙◌, ◌++◌, ℕ, map, ap, sym, append_assoc, chars, encode_utf8, encode_utf8_all, string_bytes, take}
use Rattle.std.proofs.lemmas.Iterator.{items_from_drains, YieldsList-from_chars, YieldsList-from_take}
use Rattle.std.proofs.lemmas.List.{map-id}
use Rattle.gtfs_schema.specs.FieldValues.{plain}
use Rattle.gtfs_cli.proofs.ShownValues.{plain-more}
use Rattle.gtfs_cli.proofs.report.problem_value.push_beginning.Goals as goal

pub loop-character-preserved : goal.loop-character-preserved
loop-character-preserved c =
    let start = string_bytes c.args.text.now in
    c.in_ok-push_character.ensures ∙ ap (λ t. t ++ plain (encode_utf8 c.in-Some.character)) c.loop-character.invariant
    ∙ append_assoc start (plain (encode_utf8_all c.loop-character.yielded)) (plain (encode_utf8 c.in-Some.character))
    ∙ ap (λ t. start ++ t) (sym (plain-more c.loop-character.yielded c.in-Some.character))

pub returns : goal.returns
returns c =
    let value = c.args.value.now in
    let same = c.into_iter-character-iterator.ensures.into_iter_gives in
    let rest = ap (λ t. t.iter.rest.now) same ∙ ap (λ s. s.rest.now) c.take-character-items.ensures.source ∙ c.chars.ensures.rest in
    let count = ap (λ t. t.n) same ∙ c.take-character-items.ensures.count in
    let taken = YieldsList-from_take {s = c.into_iter-character-iterator.result} 57 (YieldsList-from_chars value c.utf8.value rest) count in
    let all : map (λ (x : ℕ). x) c.loop-character.yielded ≡ take 57 (chars value) =
    items_from_drains c.loop-character.yielded (c.loop-character.character-iterator, c.loop-character.yielded_by, λ u. (c.next.new.self, c.in-None.ensures.steps)) taken in
    c.loop-character.invariant ∙ ap (λ cs. string_bytes c.args.text.now ++ plain (encode_utf8_all cs)) (sym (map-id c.loop-character.yielded) ∙ all)
