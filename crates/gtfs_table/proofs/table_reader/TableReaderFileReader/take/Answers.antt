use Rattle.std.proofs.Common.{◌∙◌, ◌++◌, ℕ, List, ap, append_assoc, arith, drop, length-drop, sym, take, take-append-drop}
use Rattle.std.proofs.lemmas.List.{take_all}
use Rattle.gtfs_table.specs.ReadingProgress.{table_after}
use Rattle.gtfs_table.proofs.table_reader.TableReaderFileReader.take.Goals as goal

pub loop-behind-preserved : goal.loop-behind-preserved
loop-behind-preserved c = λ rest.
    let size = c.min-size.result in
    let old = c.loop-behind.self in
    let behind = c.loop-behind.behind.now in
    let parted = ap (λ (x : List ℕ). table_after old (x ++ rest)) (sym (take-append-drop size behind))
    ∙ ap (λ (x : List ℕ). table_after old x) (append_assoc (take size behind) (drop size behind) rest) in
    c.loop-behind.invariant rest ∙ parted ∙ c.in_ok-take_part.ensures (drop size behind ++ rest)
    ∙ ap (λ (x : List ℕ). table_after c.take_part.new.self (x ++ rest)) (sym (take_all _ (drop size behind) (omega (arith, length-drop size behind))))
