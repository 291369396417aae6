use Rattle.std.proofs.Common.{◌≡◌, ◌∙◌, ◌++◌, ◌∷◌, [], ap, sym, subst, bytes_eq, string_bytes, map, length, Some}
use Rattle.std.specs.List.{slice_get}
use Rattle.std.proofs.lemmas.List.{length-map}
use Rattle.gtfs_field.proofs.ListFacts.{any_mapped, position-map}
use Rattle.gtfs_rows.specs.Headsigns.{AddsOnly, ArePlain, KeepsHeadsigns}
use Rattle.gtfs_rows.proofs.HeadsignFacts.{found-at, kept-append, last-added, last-at, plain-more, texts-more}
use Rattle.gtfs_reading.specs.HeadsignIndex.{with_headsign}
use Rattle.gtfs_reading.proofs.EachOnce.{known-headsign, new-headsign}
use Rattle.gtfs_reading.proofs.headsigns.Headsigns.index_of_plain.Goals as goal

pub returns-in-Some-clause-index : goal.returns-in-Some-clause-index
returns-in-Some-clause-index c =
    rw (← c.self.view_is) (found-at c.args.text.now (map string_bytes c.self.inside.texts.keys) c.in-Some.index
    (position-map (bytes_eq c.args.text.now) string_bytes c.self.inside.texts.keys ∙ sym c.in-Some.ensures.index))

pub returns-in-Some-clause-texts : goal.returns-in-Some-clause-texts
returns-in-Some-clause-texts c =
    let ts = map string_bytes c.self.inside.texts.keys in
    rw (← c.self.view_is) (known-headsign ts c.in-Some.index c.args.text.now (found-at c.args.text.now ts c.in-Some.index
    (position-map (bytes_eq c.args.text.now) string_bytes c.self.inside.texts.keys ∙ sym c.in-Some.ensures.index)))

pub invariant_of-self-2 : goal.invariant_of-self-2
invariant_of-self-2 c =
    let ts = map string_bytes c.self.inside.texts.keys in
    let more = texts-more string_bytes c.args.text.now c.self.inside.texts.keys c.insert.new.self.keys c.in_ok-from_str.field-0 c.in_ok-from_str.ensures.ok c.in_default.ensures.found c.in_ok-insert.ensures.keys in
    subst ArePlain (sym more) (plain-more ts c.args.text.now c.self.invariant c.requires)

pub returns-clause-index : goal.returns-clause-index
returns-clause-index c =
    let keys = c.self.inside.texts.keys in
    let ts = map string_bytes keys in
    let more = texts-more string_bytes c.args.text.now keys c.insert.new.self.keys c.in_ok-from_str.field-0 c.in_ok-from_str.ensures.ok c.in_default.ensures.found c.in_ok-insert.ensures.keys in
    ap (λ us. slice_get us c.len-index.result) more
    ∙ ap (slice_get (ts ++ c.args.text.now ∷ [])) (c.len-index.ensures.len ∙ sym (length-map keys string_bytes))
    ∙ last-at ts c.args.text.now

pub returns-clause-kept : goal.returns-clause-kept
returns-clause-kept c =
    let ts = map string_bytes c.self.inside.texts.keys in
    let more = texts-more string_bytes c.args.text.now c.self.inside.texts.keys c.insert.new.self.keys c.in_ok-from_str.field-0 c.in_ok-from_str.ensures.ok c.in_default.ensures.found c.in_ok-insert.ensures.keys in
    subst (λ old. KeepsHeadsigns old.texts (map string_bytes c.insert.new.self.keys)) c.self.view_is (subst (KeepsHeadsigns ts) (sym more) (kept-append ts (c.args.text.now ∷ [])))

pub returns-clause-added : goal.returns-clause-added
returns-clause-added c =
    let keys = c.self.inside.texts.keys in
    let ts = map string_bytes keys in
    let more = texts-more string_bytes c.args.text.now keys c.insert.new.self.keys c.in_ok-from_str.field-0 c.in_ok-from_str.ensures.ok c.in_default.ensures.found c.in_ok-insert.ensures.keys in
    let at : length ts ≡ c.len-index.result = length-map keys string_bytes ∙ sym c.len-index.ensures.len in
    subst (λ old. AddsOnly old.texts (map string_bytes c.insert.new.self.keys) (Some c.len-index.result)) c.self.view_is
    (subst (λ new. AddsOnly ts new (Some c.len-index.result)) (sym more) (subst (λ k. AddsOnly ts (ts ++ c.args.text.now ∷ []) (Some k)) at (last-added ts c.args.text.now)))

pub returns-clause-texts : goal.returns-clause-texts
returns-clause-texts c =
    let keys = c.self.inside.texts.keys in
    let t = c.args.text.now in
    let more = texts-more string_bytes t keys c.insert.new.self.keys c.in_ok-from_str.field-0 c.in_ok-from_str.ensures.ok c.in_default.ensures.found c.in_ok-insert.ensures.keys in
    subst (λ old. map string_bytes c.insert.new.self.keys ≡ with_headsign old.texts (Some t)) c.self.view_is
    (more ∙ new-headsign (map string_bytes keys) t (any_mapped (bytes_eq t) string_bytes keys ∙ sym c.in_default.ensures.found))
