use Rattle.std.proofs.Common.{◌≡◌, ◌<◌, ◌≤◌, ◌∙◌, ap, arith, get_or, length, map, subst, sym}
use Rattle.std.proofs.lemmas.List.{get_or-map, length-map}
use Rattle.gtfs_merge.specs.MergeEntries.{Entry, entry_value}
use Rattle.gtfs_merge.specs.NewNumbers.{numbers_of}
use Rattle.gtfs_merge.proofs.NumberTables.{none-set, set-more}
use Rattle.gtfs_merge.proofs.Ordering.{own-row, row_at}
use Rattle.gtfs_merge.proofs.numbering.new_numbers.Numbers.set_rows.Goals as goal

pub set-requires : goal.set-requires
set-requires c =
    let es = map entry_value c.args.rows.now in
    let index = c.loop-index.index in
    let row = row_at c.args.rows.now c.loop-index.index in
    let within : index < length es = omega (arith, c.loop-index-test.true, length-map c.args.rows.now entry_value) in
    let is : get_or es index (entry_value row) ≡ entry_value row = get_or-map entry_value c.args.rows.now index row (entry_value row) c.loop-index-test.true ∙ ap entry_value (sym (own-row c.args.rows.now c.loop-index.index c.loop-index-test.true)) in
    let before = subst (λ (e : Entry). e.number < length (numbers_of c.args.self.now e.side)) is (c.requires index (entry_value row) within) in
    subst (λ n. row.number < n) (sym (c.loop-index.invariant.long row.side)) before

pub loop-index-init : goal.loop-index-init
loop-index-init c = none-set (map entry_value c.args.rows.now) c.args.self.now

pub loop-index-preserved : goal.loop-index-preserved
loop-index-preserved c =
    let es = map entry_value c.args.rows.now in
    let index = c.loop-index.index in
    let row = row_at c.args.rows.now c.loop-index.index in
    let within : index < length es = omega (arith, c.loop-index-test.true, length-map c.args.rows.now entry_value) in
    let is : (d : Entry) → get_or es index d ≡ entry_value row = λ d. get_or-map entry_value c.args.rows.now index row d c.loop-index-test.true ∙ ap entry_value (sym (own-row c.args.rows.now c.loop-index.index c.loop-index-test.true)) in
    let at = is (entry_value row) in
    let before = subst (λ (e : Entry). e.number < length (numbers_of c.args.self.now e.side)) at (c.requires index (entry_value row) within) in
    let inside = subst (λ n. row.number < n) (sym (c.loop-index.invariant.long row.side)) before in
    set-more es c.args.self.now c.loop-index.self c.set.new.self row.side row.number index c.set.ensures c.loop-index.invariant within inside (λ d. ap (λ e. e.side) (is d)) (λ d. ap (λ e. e.number) (is d))

pub returns-clause-count : goal.returns-clause-count
returns-clause-count c = c.loop-index.invariant.long

pub returns-clause-numbers : goal.returns-clause-numbers
returns-clause-numbers c = λ k d within.
    let past : length c.args.rows.now ≤ c.loop-index.index = omega (arith, c.loop-index-test.false) in
    c.loop-index.invariant.numbers k d (omega (arith, within, past, length-map c.args.rows.now entry_value)) within
