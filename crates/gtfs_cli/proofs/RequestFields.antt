-- The texts of a request by the fields of its line.
use Rattle.std.proofs.Common.{◌≡◌, ℕ, true, false, List, [], ◌∷◌, Option, Some, None, refl, sym}
use Rattle.std.specs.Prelude.{is_some, option_map}
use Rattle.std.specs.List.{slice_get}
use Rattle.std.specs.Option.{option_and_then}
use Rattle.std.proofs.lemmas.Option.{same_Some}
use Rattle.gtfs_cli.specs.BoardsRequests.{text_if_any, texts_in}

pub too_many : (fs : List (List ℕ)) → is_some (slice_get fs 5) ≡ true → None ≡ texts_in fs
too_many [] more = refl
too_many (a ∷ []) more = refl
too_many (a ∷ b ∷ []) more = refl
too_many (a ∷ b ∷ c ∷ []) more = cc
too_many (a ∷ b ∷ c ∷ d ∷ []) more = cc
too_many (a ∷ b ∷ c ∷ d ∷ e ∷ []) more = cc
too_many (a ∷ b ∷ c ∷ d ∷ e ∷ f ∷ rest) more = refl

pub are_texts : (fs : List (List ℕ)) (stop from until : List ℕ) (limit after : Option (List ℕ)) → is_some (slice_get fs 5) ≡ false
    → slice_get fs 0 ≡ Some stop → slice_get fs 1 ≡ Some from → slice_get fs 2 ≡ Some until
    → limit ≡ option_and_then text_if_any (slice_get fs 3) → after ≡ option_and_then text_if_any (slice_get fs 4)
    → Some (record { stop = stop; from = from; until = until; limit = limit; after = after }) ≡ texts_in fs
are_texts [] stop from until limit after few one two three four five = cc
are_texts (a ∷ []) stop from until limit after few one two three four five = cc
are_texts (a ∷ b ∷ []) stop from until limit after few one two three four five = cc
are_texts (a ∷ b ∷ c ∷ []) stop from until limit after few one two three four five =
    λ i. Some (record { stop = same_Some stop a (sym one) i; from = same_Some from b (sym two) i; until = same_Some until c (sym three) i; limit = four i; after = five i })
are_texts (a ∷ b ∷ c ∷ d ∷ []) stop from until limit after few one two three four five =
    λ i. Some (record { stop = same_Some stop a (sym one) i; from = same_Some from b (sym two) i; until = same_Some until c (sym three) i; limit = four i; after = five i })
are_texts (a ∷ b ∷ c ∷ d ∷ e ∷ []) stop from until limit after few one two three four five =
    λ i. Some (record { stop = same_Some stop a (sym one) i; from = same_Some from b (sym two) i; until = same_Some until c (sym three) i; limit = four i; after = five i })
are_texts (a ∷ b ∷ c ∷ d ∷ e ∷ f ∷ rest) stop from until limit after few one two three four five = cc

pub some_read : {X Y : Type 0} (f : X → Y) (o : Option X) → is_some (option_map f o) ≡ is_some o
some_read f None = refl
some_read f (Some x) = refl
