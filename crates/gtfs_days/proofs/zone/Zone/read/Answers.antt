use Rattle.std.proofs.Common.{arith, inl, inr}
use Rattle.gtfs_days.proofs.Footers.{no_bad_rule}
use Rattle.gtfs_days.proofs.zone.Zone.read.Goals as goal

pub returns-in-Ok-clause-refused : goal.returns-in-Ok-clause-refused
returns-in-Ok-clause-refused c bad = elim bad [
  | inl long ↦ absurd (omega arith)
  | inr content ↦ elim content [
    | inl fault ↦ rw c.in-Ok.ensures.value at fault
    | inr rule ↦ absurd (no_bad_rule c.in-Ok.table c.in-Ok.ensures.agrees (rw c.in-Ok.ensures.value at rule))
  ]
]
