-- One more record of a text, read by `csv` without headers.
use Rattle.std.proofs.Common.{◌≡◌, ◌<◌, ◌+◌, ◌++◌, ◌∷◌, ◌∙◌, [], ℕ, List, Option, Some, length, refl, sym, ap, subst, arith, true, false}
use Rattle.std.specs.Prelude.{unwrap_or}
use Rattle.std.specs.Str.{IsUtf8}
use Rattle.csv.specs.Machine.{Read, next_record}
use Rattle.csv.specs.Reading.{Reached, ReadRecord, default_config, source_of, records}
use Rattle.csv.specs.Records.{AllText}
use Rattle.csv.specs.declared.reader.Reader.{Reader}
use Rattle.csv.specs.declared.parser.State.{State}
use Rattle.csv.specs.declared.parser.State.TheVariants as st
use Rattle.csv.proofs.ReadFacts.{rows-more, rows-end, reached-more}
use Rattle.gtfs_table.proofs.AllRecords.{last, shorter, read-filled, records-AreRecords}
use Rattle.gtfs_table.proofs.Utf8Fields.{is_open, next_record-text, ReadsText}

-- what a read that found a record says of it and of the text after it
pub record IsStep (old new : ℕ) (fields : List (List ℕ)) : Type 0 where
  pub text : AllText fields
  pub filled : 0 < length fields
  pub shorter : new < old

-- what is left to read, counted so that each record makes it less
abbrev pub left_of : {R : Type 0} → (R → Option (List ℕ)) → Reader R → ℕ
left_of rem r = length (unwrap_or (source_of rem r) []) + last r.state

took : {R : Type 0} (rem : R → Option (List ℕ)) (a b : Reader R) (fields : List (List ℕ)) (y : List ℕ) → a.config ≡ default_config → source_of rem a ≡ Some y → ReadRecord rem a b true fields
    → (p : Read) × (next_record default_config a.state [] [] y ≡ Some p) × (fields ≡ p.0) × (p.1 ≡ b.state) × (source_of rem b ≡ Some p.2)
unfolding Reached
took rem a b fields y config source read =
    let (z, at_z, (p, found, same, (state, rest))) = rows-more rem a b fields default_config a.state y y [] config source (refl, refl) read in
    (p, found, same, state, at_z ∙ ap (λ (t : List ℕ). Some t) (sym rest))

reads-of : (o : Option Read) (p : Read) → o ≡ Some p → ReadsText o → ReadsText (Some p)
reads-of o p e h = rw e at h

pub read-step : {R : Type 0} (rem : R → Option (List ℕ)) (a b : Reader R) (fields : List (List ℕ)) (y : List ℕ) → a.config ≡ default_config → source_of rem a ≡ Some y
    → IsUtf8 y → is_open a.state ≡ true → ReadRecord rem a b true fields → IsStep (left_of rem a) (left_of rem b) fields
read-step rem a b fields y config source utf8 open_a read =
    let (p, found, same, state, rest) = took rem a b fields y config source read in
    let text = reads-of _ p found (next_record-text a.state y open_a utf8) in
    let one = shorter y a.state [] [] p found in
    let ends : last b.state ≡ 0 = rw (← state, one.1) refl in
    record {
      text = rw same text.0;
      filled = rw same (read-filled y a.state [] [] p found);
      shorter = rw (source, rest, ends) (omega (arith, one.0));
    }

pub read-more : {R : Type 0} (rem : R → Option (List ℕ)) (a b : Reader R) (fields : List (List ℕ)) (xs y : List ℕ) (rows : List (List (List ℕ))) → a.config ≡ default_config
    → source_of rem a ≡ Some y → IsUtf8 y → is_open a.state ≡ true → Reached default_config st.StartRecord xs rows a.state y → ReadRecord rem a b true fields
    → (z : List ℕ) × (source_of rem b ≡ Some z) × Reached default_config st.StartRecord xs (rows ++ fields ∷ []) b.state z × IsUtf8 z × (is_open b.state ≡ true)
read-more rem a b fields xs y rows config source utf8 open_a reached read =
    let (p, found, same, state, rest) = took rem a b fields y config source read in
    let text = reads-of _ p found (next_record-text a.state y open_a utf8) in
    let more = reached-more default_config st.StartRecord a.state xs y rows p reached found in
    let grown = subst (λ (f : List (List ℕ)). Reached default_config st.StartRecord xs (rows ++ f ∷ []) p.1 p.2) (sym same) more in
    let there = subst (λ (s : State). Reached default_config st.StartRecord xs (rows ++ fields ∷ []) s p.2) state grown in
    (p.2, rest, there, text.1, subst (λ (s : State). is_open s ≡ true) state text.2)

pub read-end : {R : Type 0} (rem : R → Option (List ℕ)) (a b : Reader R) (fields : List (List ℕ)) (xs y : List ℕ) (rows : List (List (List ℕ))) → a.config ≡ default_config
    → source_of rem a ≡ Some y → Reached default_config st.StartRecord xs rows a.state y → ReadRecord rem a b false fields → rows ≡ records default_config xs
read-end rem a b fields xs y rows config source reached read =
    sym (records-AreRecords xs rows (a.state, y, reached, rows-end rem a b fields default_config y config source read))
