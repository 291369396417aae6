-- What a new number stands for, and what the number of a headsign does.
use Rattle.std.proofs.Common.{◌≡◌, ◌<◌, ◌∙◌, ℕ, zero, suc, List, [], ◌∷◌, Option, Some, None, length, get_or, true, refl, sym, ap, arith}
use Rattle.std.specs.Prelude.{IfSome, nat_lt, option_and_then, option_map}
use Rattle.std.specs.List.{slice_get}
use Rattle.std.proofs.lemmas.Bool.{lt-ltb}
use Rattle.std.proofs.lemmas.List.{get_or-map, length-map}
use Rattle.std.proofs.lemmas.Option.{get_or_from_slice_get, slice_get_within}
use Rattle.gtfs_rows.specs.RowsInMemory.{is_number_within, text_of_number}
use Rattle.gtfs_merge.specs.Headsigns.{AreNumbersOf}
use Rattle.gtfs_merge.specs.NewNumbers.{AreNewNumbers}
use Rattle.gtfs_merge.specs.Renaming.{Renaming}

module _ (merged : List (List ℕ)) (rename : Renaming) (olds : List (List ℕ)) (numbers : List ℕ) (are : AreNewNumbers merged rename olds numbers) where
  pub numbers-length : length numbers ≡ length olds
  numbers-length = sym (length-map numbers (text_of_number merged)) ∙ ap length are.named ∙ length-map olds rename

  -- the id at a new number is what the old one became
  pub number-named : (n : ℕ) → n < length olds → text_of_number merged (get_or numbers n 0) ≡ rename (text_of_number olds n)
  number-named n within =
      sym (get_or-map (text_of_number merged) numbers n 0 (rename (text_of_number olds n)) (omega (arith, numbers-length)))
      ∙ ap (λ ts. get_or ts n (rename (text_of_number olds n))) are.named
      ∙ get_or-map rename olds n [] (rename (text_of_number olds n)) within

  pub number-within : (n : ℕ) → n < length olds → get_or numbers n 0 < length merged
  number-within n within = are.within n 0 (omega (arith, numbers-length))

  -- the same of a number that may not be there
  pub option-named : {N : Type 0} (number : N → ℕ) (made : ℕ → N) (o : Option N) → ((n : ℕ) → number (made n) ≡ n) → IfSome o (λ n. number n < length olds)
      → option_map (λ m. text_of_number merged (number m)) (option_map (λ n. made (get_or numbers (number n) 0)) o) ≡ option_map rename (option_map (λ n. text_of_number olds (number n)) o)
  option-named number made None again within = refl
  option-named number made (Some n) again within = ap Some (ap (text_of_number merged) (again (get_or numbers (number n) 0)) ∙ number-named (number n) within)

  pub option-within : {N : Type 0} (number : N → ℕ) (made : ℕ → N) (o : Option N) → ((n : ℕ) → number (made n) ≡ n) → IfSome o (λ n. number n < length olds)
      → is_number_within (length merged) (option_map number (option_map (λ n. made (get_or numbers (number n) 0)) o)) ≡ true
  option-within number made None again within = refl
  option-within number made (Some n) again within = ap (λ m. nat_lt m (length merged)) (again (get_or numbers (number n) 0)) ∙ lt-ltb _ (length merged) (number-within (number n) within)

-- ---- headsigns

numbers-long : (texts olds : List (List ℕ)) (numbers : List (Option ℕ)) → AreNumbersOf texts olds numbers → length numbers ≡ length olds
numbers-long texts olds numbers are = sym (length-map numbers (option_and_then (slice_get texts))) ∙ ap length are ∙ length-map olds Some

-- a headsign's new number is that of its text
told-at : (texts olds : List (List ℕ)) (numbers : List (Option ℕ)) → AreNumbersOf texts olds numbers → (n : ℕ) → n < length olds → option_and_then (slice_get texts) (get_or numbers n None) ≡ Some (text_of_number olds n)
told-at texts [] numbers are n within = absurd (omega arith)
told-at texts (t ∷ olds) [] are n within = cc are
told-at texts (t ∷ olds) (o ∷ numbers) are zero within = cc are
told-at texts (t ∷ olds) (o ∷ numbers) are (suc n) within = told-at texts olds numbers (cc are) n (omega arith)

record IsNumberOf (texts : List (List ℕ)) (o : Option ℕ) (t : List ℕ) : Type 0 where
  pub within : IfSome o (λ k. k < length texts)
  pub named : option_map (text_of_number texts) o ≡ Some t

number-of : (texts : List (List ℕ)) (o : Option ℕ) (t : List ℕ) → option_and_then (slice_get texts) o ≡ Some t → IsNumberOf texts o t
number-of texts None t told = cc told
number-of texts (Some k) t told = record { within = slice_get_within texts k t told; named = ap Some (get_or_from_slice_get texts k t [] told) }

-- a stop time's headsign stays, under its new number
pub headsign-named : (texts olds : List (List ℕ)) (numbers : List (Option ℕ)) → AreNumbersOf texts olds numbers → (o : Option ℕ) → IfSome o (λ n. n < length olds)
    → option_map (text_of_number texts) (option_and_then (λ n. get_or numbers n None) o) ≡ option_map (text_of_number olds) o
headsign-named texts olds numbers are None within = refl
headsign-named texts olds numbers are (Some n) within = (number-of texts (get_or numbers n None) (text_of_number olds n) (told-at texts olds numbers are n within)).named

pub headsign-within : (texts olds : List (List ℕ)) (numbers : List (Option ℕ)) → AreNumbersOf texts olds numbers → (o : Option ℕ) → IfSome o (λ n. n < length olds)
    → IfSome (option_and_then (λ n. get_or numbers n None) o) (λ k. k < length texts)
headsign-within texts olds numbers are None within = tt
headsign-within texts olds numbers are (Some n) within = (number-of texts (get_or numbers n None) (text_of_number olds n) (told-at texts olds numbers are n within)).within
