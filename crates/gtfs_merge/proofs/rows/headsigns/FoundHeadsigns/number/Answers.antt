use Rattle.std.proofs.Common.{◌∙◌, ap, map, string_bytes}
use Rattle.std.specs.Prelude.{option_and_then}
use Rattle.std.specs.Cmp.Lexicographic.{bytes_decides}
use Rattle.std.specs.List.{slice_get}
use Rattle.gtfs_merge.proofs.HeadsignNumbers.{kept-insert, number-told}
use Rattle.gtfs_merge.proofs.rows.headsigns.FoundHeadsigns.number.Goals as goal

pub returns-clause-number : goal.returns-clause-number
returns-clause-number c =
    let keys = c.insert_full.new.self.keys in
    let stored = c.in_ok-index.ensures.stored in
    ap (option_and_then (slice_get (map string_bytes keys))) c.in_ok-number.ensures
    ∙ number-told string_bytes keys c.in_ok-index.index stored.0 c.in_ok-text.text c.args.headsign.now (λ x y. (bytes_decides x y).0) stored.1 stored.2 c.in_ok-text.ensures.ok

pub returns-clause-kept : goal.returns-clause-kept
returns-clause-kept c = kept-insert string_bytes _ c.self.inside.texts.keys c.insert_full.new.self.keys c.in_ok-text.text c.args.self.now c.self.view_is c.in_ok-index.ensures.keys

pub returns-in_err-number-clause-kept : goal.returns-in_err-number-clause-kept
returns-in_err-number-clause-kept c = kept-insert string_bytes _ c.self.inside.texts.keys c.insert_full.new.self.keys c.in_ok-text.text c.args.self.now c.self.view_is c.in_ok-index.ensures.keys
