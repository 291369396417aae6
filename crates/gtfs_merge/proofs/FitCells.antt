-- Cells stay inside their columns under new names.
use Rattle.std.proofs.Common.{◌≡◌, Bool, true, List, [], ◌∷◌, sym, true≢false}
use Rattle.std.proofs.lemmas.Bool.{and_parts, and_from}
use Rattle.gtfs_schema.specs.Columns.{Column}
use Rattle.gtfs_rows.specs.Cells.{Cell, are_cells, is_cell}

-- each cell of the second row fits its column if that of the first row does
abbrev pub AllFit : List Column → List Cell → List Cell → Type 0
AllFit [] vs ws = are_cells [] vs ≡ true → are_cells [] ws ≡ true
AllFit (c ∷ cs) [] ws = Unit {0}
AllFit (c ∷ cs) (v ∷ vs) [] = ⊥
AllFit (c ∷ cs) (v ∷ vs) (w ∷ ws) = (is_cell c v ≡ true → is_cell c w ≡ true) × AllFit cs vs ws

pub fit-cells : (cs : List Column) (vs ws : List Cell) → AllFit cs vs ws → are_cells cs vs ≡ true → are_cells cs ws ≡ true
fit-cells [] vs ws h e = h e
fit-cells (c ∷ cs) [] ws h e = absurd (true≢false (sym e))
fit-cells (c ∷ cs) (v ∷ vs) [] h e = absurd h
fit-cells (c ∷ cs) (v ∷ vs) (w ∷ ws) h e = let p = and_parts _ _ e in and_from _ _ (h.0 p.0) (fit-cells cs vs ws h.1 p.1)

pub stays : {B : Bool} → B ≡ true → B ≡ true
stays e = e
