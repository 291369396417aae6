-- How a page ends early.
use Rattle.std.specs.Prelude.{◌≡◌, ◌+◌, ℕ, Bool, cond, List, length, Option}
use Rattle.gtfs_days.specs.declared.zone.Zone.{Zone}
use Rattle.gtfs_devices.specs.Device.{counted}
use Rattle.gtfs_board.specs.Board.{AreStepsWithin, StepCount}
use Rattle.gtfs_board.specs.BoardLines.{Listed}
use Rattle.gtfs_board.specs.BoardPage.{IsPage, IsCutShort, IsStopped}
use Rattle.gtfs_board.specs.declared.page.PageFault.{PageFault}
use Rattle.gtfs_board.specs.declared.page.PageFault.TheVariants.{Out, OutOfMemory}

-- the fault tells how many whole lines of the page went out
abbrev pub EndsPage : Zone → ℕ → List Listed → List Listed → Option (List ℕ) → Option (List ℕ) → PageFault → Type 0
EndsPage z limit rest left before after (Out lines) = IsCutShort z limit rest left before after lines
EndsPage z limit rest left before after (OutOfMemory lines) = IsStopped z limit rest left before after lines

-- where the output is to blame, it failed once, and where memory is, its count of failures is what it was
abbrev pub IsCounted : ℕ → ℕ → PageFault → Type 0
IsCounted before after (Out lines) = after ≡ counted before
IsCounted before after (OutOfMemory lines) = after ≡ before

-- a departure was taken for each line that went out, and one more after them: these cost a step each at most, beside the steps
-- for days. Where memory was refused before one more was taken, the steps of the refused call are not bounded
abbrev pub AreFaultSteps : List Listed → List Listed → StepCount → StepCount → PageFault → Type 0
AreFaultSteps rest left old new (Out lines) = AreStepsWithin (lines + 1) old new
AreFaultSteps rest left old new (OutOfMemory lines) = length rest ≡ lines + 1 + length left → AreStepsWithin (lines + 1) old new

-- ---- the next line of a page of which so many lines went out

-- the line went out, or there is none
abbrev pub IsLineSent : Zone → List Listed → List Listed → Option (List ℕ) → Option (List ℕ) → Bool → Type 0
IsLineSent z rest left before after more = IsPage z 1 rest left before after (cond more 1 0)

abbrev pub EndsLine : Zone → ℕ → List Listed → List Listed → Option (List ℕ) → Option (List ℕ) → PageFault → Type 0
EndsLine z lines rest left before after (Out n) = (n ≡ lines) × IsCutShort z 1 rest left before after 0
EndsLine z lines rest left before after (OutOfMemory n) = (n ≡ lines) × IsStopped z 1 rest left before after 0

-- a departure that was taken cost a step at most, beside the steps for days
abbrev pub AreLineFaultSteps : List Listed → List Listed → StepCount → StepCount → PageFault → Type 0
AreLineFaultSteps rest left old new (Out n) = AreStepsWithin 1 old new
AreLineFaultSteps rest left old new (OutOfMemory n) = length rest ≡ 1 + length left → AreStepsWithin 1 old new
