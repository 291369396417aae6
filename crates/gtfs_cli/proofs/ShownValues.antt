-- Characters that are appended, one after another.
use Rattle.std.proofs.Common.{◌≡◌, ◌∙◌, ap, sym, ℕ, ◌++◌, ◌∷◌, Bool, true, false, codes, nat_lt, ◌<◌, ◌≤◌, arith, List, [], length, take, append-nil, append_assoc, Result, Ok, Err}
use Rattle.std.specs.Prelude.{chars, encode_utf8, encode_utf8_all, if◌then◌else◌, OnOk}
use Rattle.std.specs.Result.{is_ok}
use Rattle.std.proofs.lemmas.Grind.{common_steps}
use Rattle.std.proofs.lemmas.List.{map-append}
use Rattle.gtfs_schema.specs.FieldValues.{plain}
use Rattle.gtfs_cli.specs.CheckLines.{shown_value}
use Rattle.gtfs_schema.proofs.PlainTexts.{plain-past, shown}

pub plain-append : (a b : List ℕ) → plain (a ++ b) ≡ plain a ++ plain b
plain-append a b = map-append shown a b

-- one character, which is shown as d
pub plain-one : (c d : ℕ) → d ≡ shown c → encode_utf8 d ≡ plain (encode_utf8 c)
plain-one c d is = sym (plain-past (encode_utf8 c) [] c d (sym (append-nil (encode_utf8 c))) is ∙ append-nil (encode_utf8 d))

-- one more
pub plain-more : (cs : List ℕ) (c : ℕ) → plain (encode_utf8_all (cs ++ c ∷ [])) ≡ plain (encode_utf8_all cs) ++ plain (encode_utf8 c)
plain-more [] c = ap plain (append-nil (encode_utf8 c))
plain-more (x ∷ xs) c =
    plain-append (encode_utf8 x) (encode_utf8_all (xs ++ c ∷ [])) ∙ ap (λ t. plain (encode_utf8 x) ++ t) (plain-more xs c)
    ∙ sym (append_assoc (plain (encode_utf8 x)) (plain (encode_utf8_all xs)) (plain (encode_utf8 c)))
    ∙ ap (λ t. t ++ plain (encode_utf8 c)) (sym (plain-append (encode_utf8 x) (encode_utf8_all xs)))

-- where a text grew, it has what was pushed
pub pushed : {T E : Type 0} (r : Result T E) (new x y : List ℕ) → new ≡ (if is_ok r then x else y) → OnOk r (new ≡ x)
pushed (Ok t) new x y e = e
pushed (Err e) new x y h = tt

-- and so what that is
pub pushed-as : {T E : Type 0} (r : Result T E) (new x y t : List ℕ) → new ≡ (if is_ok r then x else y) → x ≡ t → OnOk r (new ≡ t)
pushed-as (Ok done) new x y t e same = e ∙ same
pushed-as (Err e) new x y t h same = tt

-- one text more behind another one
pub one-more : (old a b x y : List ℕ) → x ≡ old ++ a → y ≡ x ++ b → y ≡ old ++ (a ++ b)
one-more old a b x y first second = second ∙ ap (λ t. t ++ b) first ∙ append_assoc old a b

-- four texts behind another one
pub four-parts : (old a b c d x y z : List ℕ) → x ≡ old ++ a → y ≡ x ++ b → z ≡ y ++ c → z ++ d ≡ old ++ (a ++ b ++ c ++ d)
four-parts old a b c d x y z first second third =
    ap (λ t. t ++ d) (third ∙ ap (λ t. t ++ c) (second ∙ ap (λ t. t ++ b) first)) ∙ all-behind
  where
    all-behind : (((old ++ a) ++ b) ++ c) ++ d ≡ old ++ (a ++ b ++ c ++ d)
    all-behind =
        append_assoc ((old ++ a) ++ b) c d ∙ append_assoc (old ++ a) b (c ++ d) ∙ append_assoc old a (b ++ (c ++ d))
        ∙ ap (λ t. old ++ t) (sym (append_assoc (a ++ b) c d ∙ append_assoc a b (c ++ d)))

is-long : (n : ℕ) → 60 < n → nat_lt 60 n ≡ true
is-long n long = grind (arith, common_steps)

is-short : (n : ℕ) → n ≤ 60 → nat_lt 60 n ≡ false
is-short n short = grind (arith, common_steps)

-- a text that is cut, with three dots
pub plain-cut : (t : List ℕ) (n : ℕ) → n ≡ length (chars t) → 60 < n → plain (encode_utf8_all (take 57 (chars t))) ++ codes "..." ≡ plain (shown_value t)
plain-cut t n is long =
    sym (plain-append (encode_utf8_all (take 57 (chars t))) (codes "..."))
    ∙ ap (λ (b : Bool). plain (if b then encode_utf8_all (take 57 (chars t)) ++ codes "..." else t)) (sym (ap (nat_lt 60) (sym is) ∙ is-long n long))

pub plain-whole : (t : List ℕ) (n : ℕ) → n ≡ length (chars t) → n ≤ 60 → plain t ≡ plain (shown_value t)
plain-whole t n is short = ap (λ (b : Bool). plain (if b then encode_utf8_all (take 57 (chars t)) ++ codes "..." else t)) (sym (ap (nat_lt 60) (sym is) ∙ is-short n short))
