-- A part that went out after a whole text.
use Rattle.std.proofs.Common.{ℕ, List, ◌++◌, Option, Result, Ok, Err}
use Rattle.std.specs.Prelude.{OnErr, ⊤}
use Rattle.std.specs.Io.KnownBytes.{Appends}
use Rattle.std.proofs.KnownBytes.{Appends-trans}

pub part_after : {T E : Type 0} (said : Result T E) (first mid last : Option (List ℕ)) (text : List ℕ) → Appends first mid text
    → OnErr said ((part : List ℕ) × Appends mid last part) → OnErr said ((all : List ℕ) × ⊤ × Appends first last all)
part_after (Ok x) first mid last text whole p = tt
part_after (Err e) first mid last text whole p = (text ++ p.0, tt, Appends-trans first mid last text p.0 whole p.1)
