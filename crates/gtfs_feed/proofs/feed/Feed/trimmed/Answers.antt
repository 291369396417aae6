use Rattle.std.proofs.Common.{◌≡◌, ◌∙◌, ap, subst, sym}
use Rattle.std.proofs.lemmas.Result.{IfOk-weaker}
use Rattle.gtfs_rows.specs.TrimmedContent.{trimmed, trimmed_parts}
use Rattle.gtfs_rows.specs.RowsInMemory.{IsSoundParts, content_of_parts}
use Rattle.gtfs_rows.proofs.TrimmedParts.{content-trimmed, sound-parts}
use Rattle.gtfs_feed.proofs.feed.Feed.trimmed.Goals as goal

pub assemble-requires : goal.assemble-requires
assemble-requires c =
    let cut = c.args.cut in
    let p = c.args.self.now in
    subst IsSoundParts (sym (c.in_ok-parts.ensures ∙ ap (trimmed_parts cut) c.parts.ensures.value)) (sound-parts cut p c.requires c.parts.ensures.sound)

pub returns-clause-content : goal.returns-clause-content
returns-clause-content c =
    let cut = c.args.cut in
    let p = c.args.self.now in
    let is : content_of_parts c.in_ok-parts.parts ≡ trimmed cut (content_of_parts p) = ap content_of_parts (c.in_ok-parts.ensures ∙ ap (trimmed_parts cut) c.parts.ensures.value) ∙ content-trimmed cut p in
    IfOk-weaker c.assemble.result (λ feed. feed ≡ c.in_ok-parts.parts) (λ feed. content_of_parts feed ≡ trimmed cut (content_of_parts p)) (λ feed same. ap content_of_parts same ∙ is) c.assemble.ensures.value

pub returns-clause-parts : goal.returns-clause-parts
returns-clause-parts c =
    let cut = c.args.cut in
    let p = c.args.self.now in
    let is : c.in_ok-parts.parts ≡ trimmed_parts cut p = c.in_ok-parts.ensures ∙ ap (trimmed_parts cut) c.parts.ensures.value in
    IfOk-weaker c.assemble.result (λ feed. feed ≡ c.in_ok-parts.parts) (λ feed. feed ≡ trimmed_parts cut p) (λ feed same. same ∙ is) c.assemble.ensures.value
