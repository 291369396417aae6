use Rattle.std.proofs.Common.{inl, inr, refl, subst}
use Rattle.gtfs_commands.specs.Words.{IsFaultOf}
use Rattle.gtfs_commands.specs.declared.fault.WordsFault.{WordsFault}
use Rattle.gtfs_commands.specs.declared.fault.WordsFault.TheVariants.{Help, Version}
use Rattle.gtfs_cli.proofs.Untaken.{answer-cut, answer-of, answer-sent}
use Rattle.gtfs_cli.proofs.commands.answer_fault.Goals as goal

pub returns-in_ok-write_text-in-Help-clause-ends : goal.returns-in_ok-write_text-in-Help-clause-ends
returns-in_ok-write_text-in-Help-clause-ends g c = λ words is.
    let asked = subst (λ (f : WordsFault). IsFaultOf words f) c.in-Help.is is in
    answer-sent words _ _ _ _ (answer-of words (Help c.in-Help.help) _ (inl asked) asked refl) c.as_bytes.ensures.value c.in_ok-write_text-in-Help.ensures.whole c.in_ok-write_text-in-Help.ensures.no_failure

pub returns-in_err-write_text-in-Help-clause-ends : goal.returns-in_err-write_text-in-Help-clause-ends
returns-in_err-write_text-in-Help-clause-ends g c = λ words is.
    let asked = subst (λ (f : WordsFault). IsFaultOf words f) c.in-Help.is is in
    answer-cut words _ _ _ _ (answer-of words (Help c.in-Help.help) _ (inl asked) asked refl) c.as_bytes.ensures.value c.in_err-write_text-in-Help.field-0.0.written c.in_err-write_text-in-Help.ensures.prefix
    c.in_err-write_text-in-Help.ensures.once c.write_text.ensures.grows c.from_residual.result c.from_residual.ensures.1

pub returns-in_ok-write_text-in-Version-clause-ends : goal.returns-in_ok-write_text-in-Version-clause-ends
returns-in_ok-write_text-in-Version-clause-ends g c = λ words is.
    let asked = subst (λ (f : WordsFault). IsFaultOf words f) c.in-Version.is is in
    answer-sent words _ _ _ _ (answer-of words (Version c.in-Version.version) _ (inr asked) asked refl) c.as_bytes-in-Version.ensures.value c.in_ok-write_text-in-Version.ensures.whole c.in_ok-write_text-in-Version.ensures.no_failure

pub returns-in_err-write_text-in-Version-clause-ends : goal.returns-in_err-write_text-in-Version-clause-ends
returns-in_err-write_text-in-Version-clause-ends g c = λ words is.
    let asked = subst (λ (f : WordsFault). IsFaultOf words f) c.in-Version.is is in
    answer-cut words _ _ _ _ (answer-of words (Version c.in-Version.version) _ (inr asked) asked refl) c.as_bytes-in-Version.ensures.value c.in_err-write_text-in-Version.field-0.0.written c.in_err-write_text-in-Version.ensures.prefix
    c.in_err-write_text-in-Version.ensures.once c.write_text-in-Version.ensures.grows c.from_residual-in_err-write_text-in-Version.result c.from_residual-in_err-write_text-in-Version.ensures.1
