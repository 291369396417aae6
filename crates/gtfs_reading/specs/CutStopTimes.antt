-- A list that is cut into as many stretches as there are rows: it starts at the first, and the starts rise to its end.
use Rattle.std.specs.Prelude.{◌≡◌, ℕ, List, length, slice_index_or}
use Rattle.csv.specs.Records.{Rising}

abbrev pub IsCutInto : {X : Type 0} → ℕ → List ℕ → List X → Type 0
IsCutInto count starts xs = (length starts ≡ count) × Rising 0 starts (length xs) × (slice_index_or starts 0 (length xs) ≡ 0)
