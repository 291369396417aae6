-- What the program itself has to say: of each fault the line for the error output, and the status.
use Rattle.std.specs.Prelude.{ℕ, List, codes, ⊤}
use Rattle.gtfs_cli.specs.declared.fault.Fault.{Fault}
use Rattle.gtfs_cli.specs.declared.fault.Fault.TheVariants.{BadWords, NoRandomSource, OutputFailed, OutOfMemory}

abbrev pub fault_line : Fault → List ℕ
fault_line BadWords = codes "gtfs: bad words\n"
fault_line NoRandomSource = codes "gtfs: no random source\n"
fault_line OutputFailed = codes "gtfs: output failed\n"
fault_line OutOfMemory = codes "gtfs: out of memory\n"

abbrev pub fault_status : Fault → ℕ
fault_status BadWords = 2
fault_status NoRandomSource = 3
fault_status OutputFailed = 3
fault_status OutOfMemory = 4

-- why the words of the command line are not read
abbrev pub IsWordsFault : Fault → Type 0
IsWordsFault BadWords = ⊤
IsWordsFault OutOfMemory = ⊤
IsWordsFault _ = ⊥
