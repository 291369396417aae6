-- Answers that are there, and faults.
use Rattle.std.proofs.Common.{◌≡◌, ◌∙◌, Err, Ok, ap, refl, sym}
use Rattle.std.specs.Prelude.{◌≢◌, IfErr, IfOk, IsErrOf, Result}
use Rattle.gtfs_board.specs.declared.board.BoardFault.{BoardFault}
use Rattle.gtfs_board.specs.declared.board.BoardFault.TheVariants.{BadSpan, UnknownStop}

pub if_ok : {A E : Type 0} (r : Result A E) (P Q : A → Type 0) → IfOk r P → ((x : A) → P x → Q x) → IfOk r Q
if_ok (Ok x) P Q h more = more x h
if_ok (Err e) P Q h more = tt

fault : (A : Type 0) (d e : BoardFault) (r s : Result A BoardFault) → r ≡ Err d → s ≡ Err e → r ≡ s → d ≡ e
fault A d e r s is_d is_e same = ap (fault_or d) (sym is_d ∙ same ∙ is_e)
  where
    fault_or : BoardFault → Result A BoardFault → BoardFault
    fault_or d (Ok x) = d
    fault_or d (Err e) = e

pub never_unknown : {A : Type 0} (r : Result A BoardFault) → IfErr r (λ e. e ≢ UnknownStop) → IsErrOf r UnknownStop → ⊥
never_unknown (Ok x) h is = cc
never_unknown {A} (Err e) h is = h (fault A e UnknownStop (Err e) (Err UnknownStop) refl refl is)

pub bad_is_known : BadSpan ≢ UnknownStop
bad_is_known e = cc

pub not_bad : {A : Type 0} (r : Result A BoardFault) → r ≡ Err UnknownStop → IsErrOf r BadSpan → ⊥
not_bad {A} r unknown bad = apart (fault A UnknownStop BadSpan r r unknown bad refl)
  where
    apart : UnknownStop ≡ BadSpan → ⊥
    apart e = cc
