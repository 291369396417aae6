-- What one more text, field or record leaves of the offsets and of what they cut.
use Rattle.std.specs.Prelude.{Result, OnOk, if◌then◌else◌}
use Rattle.std.specs.Result.{is_ok}
use Rattle.std.proofs.Common.{◌≡◌, ◌<◌, ◌≤◌, ◌∷◌, ◌++◌, ◌∙◌, [], ℕ, List, Ok, Err, length, refl, arith, length-append}
use Rattle.std.specs.List.{All}
use Rattle.std.specs.Str.{IsUtf8}
use Rattle.std.proofs.lemmas.List.Elements.{All-push}
use Rattle.csv.specs.Records.{AllText, Rising}
use Rattle.csv.proofs.RecordFacts.{rising-more, rising-end, text-more}
use Rattle.gtfs_table.specs.FieldOffsets.{parts, add_to_last}
use Rattle.gtfs_table.proofs.PartFacts.{parts-push, parts-more, filled-more}

-- the offsets, and what they cut, after a push of a part
pub rising-push : (starts : List ℕ) (size more : ℕ) → Rising 0 starts size → size ≤ more → Rising 0 (starts ++ size ∷ []) more
rising-push starts size more r h = rising-more 0 (starts ++ size ∷ []) size more (rising-end 0 starts size r) h

pub record IsTextPush (new_starts new_bytes : List ℕ) (texts : List (List ℕ)) (text : List ℕ) : Type 0 where
  pub rising : Rising 0 new_starts (length new_bytes)
  pub utf8 : AllText (parts new_starts new_bytes)
  pub value : parts new_starts new_bytes ≡ texts ++ text ∷ []

pub text-push : (starts bytes text new_starts new_bytes : List ℕ) (texts : List (List ℕ)) → parts starts bytes ≡ texts → Rising 0 starts (length bytes) → AllText (parts starts bytes)
    → IsUtf8 text → new_starts ≡ starts ++ length bytes ∷ [] → new_bytes ≡ bytes ++ text → IsTextPush new_starts new_bytes texts text
text-push starts bytes text new_starts new_bytes texts e r all u s b =
    let value = parts-push 0 starts bytes text r in
    rw (s, b) (record {
      rising = rising-push starts (length bytes) (length (bytes ++ text)) r (omega (arith, length-append bytes text));
      utf8 = rw value (text-more (parts starts bytes) text all u);
      value = value ∙ rw e refl;
    })

-- no record without a field
abbrev pub AllFilled : {X : Type 0} → List (List X) → Type 0
AllFilled {X} rs = All (λ (r : List X). 0 < length r) rs

pub record IsRecordPush (new_starts : List ℕ) (new_fields : List (List ℕ)) (records : List (List (List ℕ))) : Type 0 where
  pub rising : Rising 0 new_starts (length new_fields)
  pub filled : AllFilled (parts new_starts new_fields)
  pub value : parts new_starts new_fields ≡ records

pub record-push : (starts new_starts : List ℕ) (fields more new_fields : List (List ℕ)) (records : List (List (List ℕ))) → parts starts fields ≡ records → Rising 0 starts (length fields)
    → AllFilled (parts starts fields) → 0 < length more → new_starts ≡ starts ++ length fields ∷ [] → new_fields ≡ fields ++ more → IsRecordPush new_starts new_fields (records ++ more ∷ [])
record-push starts new_starts fields more new_fields records e r all some s f =
    let value = parts-push 0 starts fields more r in
    rw (s, f) (record {
      rising = rising-push starts (length fields) (length (fields ++ more)) r (omega (arith, length-append fields more));
      filled = rw value (All-push (λ (q : List (List ℕ)). 0 < length q) (parts starts fields) more all some);
      value = value ∙ rw e refl;
    })

pub field-push : (starts : List ℕ) (fields new_fields : List (List ℕ)) (field : List ℕ) (records : List (List (List ℕ))) → parts starts fields ≡ records → Rising 0 starts (length fields)
    → AllFilled (parts starts fields) → new_fields ≡ fields ++ field ∷ [] → IsRecordPush starts new_fields (add_to_last records field)
field-push starts fields new_fields field records e r all f =
    let value = parts-more 0 starts fields field r in
    rw f (record {
      rising = rising-more 0 starts (length fields) (length (fields ++ field ∷ [])) r (omega (arith, length-append fields (field ∷ [])));
      filled = rw value (filled-more (parts starts fields) field all);
      value = value ∙ rw e refl;
    })

pub on_ok-map : {T E : Type 0} (r : Result T E) (P Q : Type 0) → (P → Q) → OnOk r P → OnOk r Q
on_ok-map (Ok x) P Q f h = f h
on_ok-map (Err e) P Q f h = h

pub on_ok-always : {T E : Type 0} (r : Result T E) (P : Type 0) → P → OnOk r P
on_ok-always (Ok x) P p = p
on_ok-always (Err e) P p = tt

pub on_ok-if : {T E : Type 0} (r : Result T E) (x a b z : List ℕ) → x ≡ (if is_ok r then a else b) → a ≡ z → OnOk r (x ≡ z)
on_ok-if (Ok y) x a b z e h = e ∙ h
on_ok-if (Err y) x a b z e h = tt
