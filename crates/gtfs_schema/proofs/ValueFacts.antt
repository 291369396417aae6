-- Values, and the words and amounts that they are.
use Rattle.std.proofs.Common.{◌≡◌, ℕ, ℤ, pos, List, Option, Some, None, Result, Ok, Err, true, refl, sym, ap}
use Rattle.std.specs.Option.{option_and_then, option_map}
use Rattle.std.specs.Result.{result_ok}
use Rattle.gtfs_field.specs.declared.fault.FieldFault.{FieldFault}
use Rattle.gtfs_schema.specs.FieldValues.{Value, amount, as_amount, as_word, value_of_count, is_word, word}
use Rattle.gtfs_schema.proofs.SiteFacts.{text_is}

pub word_value : (v : Option Value) (t : List ℕ) → option_and_then as_word v ≡ Some t → v ≡ Some (word t)
word_value None t e = cc e
word_value (Some (word s)) t e = ap (λ o. option_map word o) e
word_value (Some (amount x)) t e = cc e

pub amount_value : (v : Option Value) (x : ℤ) → option_and_then as_amount v ≡ Some x → v ≡ Some (amount x)
amount_value None x e = cc e
amount_value (Some (word s)) x e = cc e
amount_value (Some (amount y)) x e = ap (λ o. option_map amount o) e

pub amount_back : (o : Option ℤ) → option_and_then as_amount (option_map amount o) ≡ o
amount_back None = refl
amount_back (Some x) = refl

pub counted_amount : (r : Result ℕ FieldFault) → option_and_then as_amount (result_ok (value_of_count r)) ≡ option_map pos (result_ok r)
counted_amount (Ok n) = refl
counted_amount (Err e) = refl

pub is_word_some : (o : Option (List ℕ)) (t : List ℕ) → is_word o t ≡ true → o ≡ Some t
is_word_some None t e = cc e
is_word_some (Some s) t e = ap Some (sym (text_is t s e))
