use Rattle.std.proofs.Common.{◌≡◌, ◌∙◌, false, sym, ap}
use Rattle.std.specs.Prelude.{is_some, option_map}
use Rattle.std.specs.List.{slice_get}
use Rattle.std.specs.Option.{option_and_then}
use Rattle.gtfs_cli.specs.BoardsRequests.{fields_of, text_if_any}
use Rattle.gtfs_cli.proofs.RequestFields.{are_texts, some_read}
use Rattle.gtfs_cli.proofs.commands.boards.requests.read_texts.Goals as goal

pub returns : goal.returns
returns c =
    let fs = fields_of c.args.line.now in
    let few : is_some (slice_get fs 5) ≡ false = ap is_some (sym c.field.ensures) ∙ some_read (λ t. t.now) c.field.result ∙ sym c.is_some.ensures ∙ c.if-is_some.false in
    are_texts fs c.in-Some.stop.now c.in-Some-field.from.now c.in-Some-field-2.until.now _ _ few
    (sym c.field-2.ensures ∙ ap (option_map (λ t. t.now)) c.in-Some.is)
    (sym c.field-3.ensures ∙ ap (option_map (λ t. t.now)) c.in-Some-field.is)
    (sym c.field-4.ensures ∙ ap (option_map (λ t. t.now)) c.in-Some-field-2.is)
    (c.text_if_any.ensures ∙ ap (option_and_then text_if_any) c.field-5.ensures)
    (c.text_if_any-2.ensures ∙ ap (option_and_then text_if_any) c.field-6.ensures)
