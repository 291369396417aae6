-- A list of headsigns, to which one is added where it is new.
use Rattle.std.proofs.Common.{◌≡◌, ◌∙◌, ◌++◌, ◌∷◌, [], ℕ, zero, suc, List, length, map, Bool, false, bytes_eq, Some, refl, sym, ap, arith}
use Rattle.std.specs.Prelude.{if◌then◌else◌}
use Rattle.std.specs.List.{AllPairs, IsDistinct, list_any, position, slice_get}
use Rattle.std.proofs.lemmas.List.{length_push, map-append}
use Rattle.std.proofs.lemmas.List.Elements.{All-append, All-cons, All-from_recursion, All-nil}
use Rattle.std.proofs.lemmas.List.Kept.{AllPairs-cons}
use Rattle.std.proofs.lemmas.List.Quantifiers.{position-Some}
use Rattle.std.proofs.lemmas.Option.{slice_get-get_or}
use Rattle.gtfs_schema.specs.FieldValues.{plain}
use Rattle.gtfs_schema.proofs.SiteFacts.{text_is}
use Rattle.gtfs_rows.proofs.SameElements.{pairs-map}
use Rattle.gtfs_rows.specs.Headsigns.{AddsOnly, AreDistinct, ArePlain, KeepsHeadsigns}

-- the text at an index that was found
pub found-at : (t : List ℕ) (ts : List (List ℕ)) (k : ℕ) → position (bytes_eq t) ts ≡ Some k → slice_get ts k ≡ Some t
found-at t ts k e =
    let at = position-Some (bytes_eq t) ts k [] e in
    slice_get-get_or ts k [] at.0 ∙ ap Some (sym (text_is t _ at.1))

pub kept-append : (ts more : List (List ℕ)) → KeepsHeadsigns ts (ts ++ more)
kept-append [] more k t e = cc e
kept-append (s ∷ ts) more zero t e = e
kept-append (s ∷ ts) more (suc k) t e = kept-append ts more k t e

pub last-at : (ts : List (List ℕ)) (t : List ℕ) → slice_get (ts ++ t ∷ []) (length ts) ≡ Some t
last-at [] t = refl
last-at (s ∷ ts) t = last-at ts t

-- the new index alone is new
pub last-added : (ts : List (List ℕ)) (t : List ℕ) → AddsOnly ts (ts ++ t ∷ []) (Some (length ts))
last-added ts t k low within = let same : length ts ≡ k = omega (arith, length_push ts t) in ap Some same

pub plain-more : (ts : List (List ℕ)) (t : List ℕ) → ArePlain ts → plain t ≡ t → ArePlain (ts ++ t ∷ [])
plain-more ts t all here = All-append (λ s. plain s ≡ s) ts (t ∷ []) all (All-cons (λ s. plain s ≡ s) t [] here (All-nil (λ s. plain s ≡ s)))

-- the texts after one that is not among them was added
pub texts-more : {S : Type 0} (bytes : S → List ℕ) (t : List ℕ) (keys new : List S) (k : S) → bytes k ≡ t → false ≡ list_any (λ s. bytes_eq t (bytes s)) keys
    → new ≡ (if list_any (λ s. bytes_eq (bytes k) (bytes s)) keys then keys else keys ++ k ∷ []) → map bytes new ≡ map bytes keys ++ t ∷ []
texts-more bytes t keys new k is absent more =
    let none : list_any (λ s. bytes_eq (bytes k) (bytes s)) keys ≡ false = ap (λ u. list_any (λ s. bytes_eq u (bytes s)) keys) is ∙ sym absent in
    ap (map bytes) (more ∙ ap (λ b. if b then keys else keys ++ k ∷ []) none) ∙ map-append bytes keys (k ∷ []) ∙ ap (λ u. map bytes keys ++ u ∷ []) is

all-apart : {S : Type 0} (e : S → S → Bool) (keys : List S) → IsDistinct e keys → AllPairs (λ a b. e a b ≡ false) keys
unfolding IsDistinct
all-apart e [] apart = λ i j d below within. absurd (omega arith)
all-apart e (k ∷ keys) apart =
    AllPairs-cons (λ a b. e a b ≡ false) k keys (All-from_recursion (λ b. e k b ≡ false) keys apart.0) (all-apart e keys apart.1)

pub distinct-texts : {S : Type 0} (bytes : S → List ℕ) (keys : List S) → IsDistinct (λ a b. bytes_eq (bytes a) (bytes b)) keys → AreDistinct (map bytes keys)
distinct-texts bytes keys apart = pairs-map bytes (λ s t. bytes_eq s t ≡ false) keys (all-apart (λ a b. bytes_eq (bytes a) (bytes b)) keys apart)
