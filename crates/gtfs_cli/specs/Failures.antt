-- How often the folders and the output have failed.
use Rattle.std.specs.Prelude.{◌≡◌, ℕ}

-- counts of failures, of the folders and of the output
pub record Failures : Type 0 where
  pub folders : ℕ
  pub output : ℕ

-- neither the folders nor the output failed: the counts are what they were
abbrev pub FailedNowhere : Failures → Failures → Type 0
FailedNowhere before after = (after.folders ≡ before.folders) × (after.output ≡ before.output)
