use Rattle.std.proofs.Common.{◌≡◌, ◌++◌, ◌∷◌, ◌∙◌, [], length}
use Rattle.gtfs_table.proofs.StoreFacts.{IsTextPush, text-push}
use Rattle.gtfs_table.proofs.texts.Texts.push.Goals as goal

pushed : (c : goal.After-unwrap) → IsTextPush c.push.new.self c.extend_from_slice.new.self.items c.args.self.now c.args.text.now
pushed c =
    let size : c.len.result ≡ length c.self.inside.bytes.items = c.len.ensures ∙ rw (c.in_ok-reserve.ensures.items) at c.reserve.new.self.ok.0 in
    let starts : c.push.new.self ≡ c.self.inside.starts ++ length c.self.inside.bytes.items ∷ [] = rw size at c.in_ok-push.ensures.ok in
    let bytes : c.extend_from_slice.new.self.items ≡ c.self.inside.bytes.items ++ c.args.text.now =
    rw (c.unwrap.ensures, c.reserve.ensures.items, c.as_bytes-bytes.ensures.value) at c.extend_from_slice.ensures.items in
    text-push c.self.inside.starts c.self.inside.bytes.items c.args.text.now _ _ c.args.self.now c.self.view_is c.self.invariant.rising c.self.invariant.utf8 c.utf8.text starts bytes

pub invariant_of-self-2 : goal.invariant_of-self-2
invariant_of-self-2 c = record { rising = (pushed c).rising; utf8 = (pushed c).utf8 }

pub returns-clause-ok : goal.returns-clause-ok
returns-clause-ok c = (pushed c).value
