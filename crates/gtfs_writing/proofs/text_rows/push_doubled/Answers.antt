use Rattle.std.proofs.Common.{◌≡◌, ◌++◌, ◌∷◌, ◌∙◌, [], ℕ, List, sym, ap, if◌then◌else◌}
use Rattle.std.specs.Result.{OnOk, is_ok}
use Rattle.std.specs.Prelude.{Result, Ok, Err}
use Rattle.std.proofs.lemmas.Bool.{ne_eqb}
use lib.Utf8.{encode}
use Rattle.csv.specs.Writing.{default_writer, escaped}
use Rattle.gtfs_writing.proofs.Quotes.{doubled-quote, doubled-other}
use Rattle.gtfs_writing.proofs.text_rows.push_doubled.Goals as goal

grown : {T E : Type 0} (r : Result T E) (new old x y : List ℕ) → new ≡ (if is_ok r then old ++ x else old) → x ≡ y → OnOk r (new ≡ old ++ y)
grown (Ok v) new old x y e same = e ∙ ap (λ z. old ++ z) same
grown (Err v) new old x y e same = tt

pub returns-then-c-eq34 : goal.returns-then-c-eq34
returns-then-c-eq34 c =
    grown c.push_str.result _ _ (34 ∷ 34 ∷ []) _ c.push_str.ensures.bytes (sym doubled-quote ∙ ap (λ b. escaped default_writer (encode b)) (sym c.if-c-eq34.true))

pub returns-else-c-eq34 : goal.returns-else-c-eq34
returns-else-c-eq34 c =
    grown c.push.result _ _ (encode c.args.c) _ c.push.ensures.bytes (sym (doubled-other c.args.c (ne_eqb c.args.c 34 c.if-c-eq34.false)))
