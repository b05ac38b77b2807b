-- The numbers of the statuses.
use Rattle.std.specs.Prelude.{ℕ}
use Rattle.pv_request.specs.declared.status.Status.{Status}
use Rattle.pv_request.specs.declared.status.Status.TheVariants.{Done, OpenLeft, Usage, SystemRefused, PavingRefused, ReadFault, WriteFault, WantOfMemory, TreeLimit, Disagree, KeeperFault, NoFile}

abbrev pub code_of : Status → ℕ
code_of Done = 0
code_of OpenLeft = 1
code_of Usage = 2
code_of SystemRefused = 3
code_of PavingRefused = 4
code_of ReadFault = 5
code_of WriteFault = 6
code_of WantOfMemory = 7
code_of TreeLimit = 8
code_of Disagree = 9
code_of KeeperFault = 10
code_of NoFile = 11
