use Rattle.std.proofs.Common.{◌∙◌, ◌++◌, ◌∷◌, [], ap, subst, sym}
use Rattle.gtfs_table.proofs.FolderFacts.{on_err-always}
use Rattle.gtfs_stop_times.specs.KeptLists.{no_note, no_row, stop_times_at}
use Rattle.gtfs_stop_times.specs.RowNotes.{Noted}
use Rattle.gtfs_stop_times.specs.StopTimeOrder.{AreEarlier}
use Rattle.gtfs_stop_times.proofs.KeptListFacts.{kept_itself, listed_more, one_more, still_listed, still_same, still_unnamed}
use Rattle.gtfs_stop_times.proofs.kept.KeptStopTimes.push.Goals as goal

pub invariant_of-self : goal.invariant_of-self
invariant_of-self c =
    let k = c.self.inside in
    let n = c.args.stop_time.row in
    let earlier = subst (AreEarlier n) (sym c.self.view_is) c.requires.earlier in
    let none = still_unnamed c.args.stop_time.stop_row k.rows.items c.put.new.list.items c.put.ensures.no_others c.requires.unnamed c.self.invariant.unnamed in
    still_listed k.rows.items c.put.new.list.items k.notes.items k.notes.items n k.order c.self.invariant earlier c.put.ensures.before (kept_itself n k.notes.items) none

pub returns-in_err-put-clause-kept : goal.returns-in_err-put-clause-kept
returns-in_err-put-clause-kept c =
    let k = c.self.inside in
    let n = c.args.stop_time.row in
    let earlier = subst (AreEarlier n) (sym c.self.view_is) c.requires.earlier in
    on_err-always c.from_residual-in_err-put.result _
    (still_same k.rows.items c.put.new.list.items k.notes.items k.notes.items n k.order c.self.invariant earlier c.put.ensures.before (kept_itself n k.notes.items) ∙ c.self.view_is)

pub invariant_of-self-in_err-put-2 : goal.invariant_of-self-in_err-put-2
invariant_of-self-in_err-put-2 c =
    let k = c.self.inside in
    let n = c.args.stop_time.row in
    let earlier = subst (AreEarlier n) (sym c.self.view_is) c.requires.earlier in
    let none = still_unnamed c.args.stop_time.stop_row k.rows.items c.put.new.list.items c.put.ensures.no_others c.requires.unnamed c.self.invariant.unnamed in
    still_listed k.rows.items c.put.new.list.items k.notes.items c.put-2.new.list.items n k.order c.self.invariant earlier c.put.ensures.before c.put-2.ensures.before none

pub returns-in_err-put-2-clause-kept : goal.returns-in_err-put-2-clause-kept
returns-in_err-put-2-clause-kept c =
    let k = c.self.inside in
    let n = c.args.stop_time.row in
    let earlier = subst (AreEarlier n) (sym c.self.view_is) c.requires.earlier in
    on_err-always c.from_residual-in_err-put-2.result _
    (still_same k.rows.items c.put.new.list.items k.notes.items c.put-2.new.list.items n k.order c.self.invariant earlier c.put.ensures.before c.put-2.ensures.before ∙ c.self.view_is)

pub invariant_of-self-in_err-push : goal.invariant_of-self-in_err-push
invariant_of-self-in_err-push c =
    let k = c.self.inside in
    let n = c.args.stop_time.row in
    let earlier = subst (AreEarlier n) (sym c.self.view_is) c.requires.earlier in
    let none = still_unnamed c.args.stop_time.stop_row k.rows.items c.put.new.list.items c.put.ensures.no_others c.requires.unnamed c.self.invariant.unnamed in
    rw c.in_err-push.ensures.kept
    (still_listed k.rows.items c.put.new.list.items k.notes.items c.put-2.new.list.items n k.order c.self.invariant earlier c.put.ensures.before c.put-2.ensures.before none)

pub returns-in_err-push-clause-kept : goal.returns-in_err-push-clause-kept
returns-in_err-push-clause-kept c =
    let k = c.self.inside in
    let n = c.args.stop_time.row in
    let earlier = subst (AreEarlier n) (sym c.self.view_is) c.requires.earlier in
    on_err-always c.from_residual-in_err-push.result _
    (ap (stop_times_at c.put.new.list.items c.put-2.new.list.items) c.in_err-push.ensures.kept
    ∙ still_same k.rows.items c.put.new.list.items k.notes.items c.put-2.new.list.items n k.order c.self.invariant earlier c.put.ensures.before c.put-2.ensures.before ∙ c.self.view_is)

pub invariant_of-self-2 : goal.invariant_of-self-2
invariant_of-self-2 c =
    let k = c.self.inside in
    let n = c.args.stop_time.row in
    let earlier = subst (AreEarlier n) (sym c.self.view_is) c.requires.earlier in
    let none = still_unnamed c.args.stop_time.stop_row k.rows.items c.put.new.list.items c.put.ensures.no_others c.requires.unnamed c.self.invariant.unnamed in
    rw c.in_ok-push.ensures.added
    (listed_more k.rows.items c.put.new.list.items k.notes.items c.put-2.new.list.items n k.order c.self.invariant earlier c.put.ensures.before c.put-2.ensures.before none
    c.in_ok-put.ensures.long c.in_ok-put-2.ensures.long)

pub returns-clause-added : goal.returns-clause-added
returns-clause-added c =
    let k = c.self.inside in
    let s = c.args.stop_time in
    let earlier = subst (AreEarlier s.row) (sym c.self.view_is) c.requires.earlier in
    ap (stop_times_at c.put.new.list.items c.put-2.new.list.items) c.in_ok-push.ensures.added
    ∙ one_more k.rows.items c.put.new.list.items k.notes.items c.put-2.new.list.items s.row k.order c.self.invariant earlier c.put.ensures.before c.put-2.ensures.before
    s.stop_row c.in_ok-note.note (c.in_ok-put.ensures.here no_row) (c.in_ok-put-2.ensures.here no_note)
    ∙ ap (λ (x : Noted). stop_times_at k.rows.items k.notes.items k.order ++ record { trip = x.trip; row = s.row; has_headsign = x.has_headsign; times = x.times; stop_row = s.stop_row } ∷ []) c.in_ok-note.ensures.note
    ∙ ap (λ rs. rs ++ s ∷ []) c.self.view_is
