-- What ends a command early: its status, and its line on the standard error.
use Rattle.std.specs.Prelude.{ℕ, Bool, List, [], ◌∷◌, ◌++◌, codes, decimal}
use Rattle.pv_ctc.specs.declared.reading.ProgramRefused.{ProgramRefused}
use Rattle.pv_ctc.specs.declared.reading.ProgramRefused.TheVariants as program
use Rattle.pv_grammar.specs.Messages.{cause_name}
use Rattle.pv_parse.specs.declared.refused.ParseRefused.{ParseRefused}
use Rattle.pv_parse.specs.declared.refused.ParseRefused.TheVariants as parse
use Rattle.pv_request.specs.declared.status.Status.{Status}
use Rattle.pv_request.specs.declared.status.Status.TheVariants as status
use Rattle.pv_request.specs.declared.refusal.Refusal.{Refusal}
use Rattle.pv_request.specs.declared.refusal.Refusal.TheVariants.{Usage, System, Contract, Objective, NoFile, ReadFault, Paving, NotStored, KeeperFault, NotPrinted, Memory, TreeLimit, Disagree, Differs}
use Rattle.pv_request.specs.declared.refusal.FileFault.{FileFault}
use Rattle.pv_request.specs.declared.refusal.FileFault.TheVariants.{TooLong, WrongIdentity, BadLine, TooManyNodes, BadRow, TooManyRows}
use Rattle.pv_tree.specs.PathText.{path_text}

abbrev pub status_of : Refusal → Status
status_of Usage = status.Usage
status_of (System line column byte cause) = status.SystemRefused
status_of (Contract byte) = status.Usage
status_of (Objective byte cause) = status.Usage
status_of (NoFile name) = status.NoFile
status_of (ReadFault name) = status.ReadFault
status_of (NotStored name) = status.WriteFault
status_of (KeeperFault name) = status.KeeperFault
status_of NotPrinted = status.WriteFault
status_of (Paving name fault) = status.PavingRefused
status_of Memory = status.WantOfMemory
status_of (TreeLimit settled) = status.TreeLimit
status_of (Disagree path joined file) = status.Disagree
status_of (Differs path file due) = status.Disagree

abbrev pub fault_words : FileFault → List ℕ
fault_words TooLong = codes "too long"
fault_words WrongIdentity = codes "wrong identity"
fault_words (BadLine line) = codes "bad line " ++ decimal line
fault_words (TooManyNodes line) = codes "too many nodes at line " ++ decimal line
fault_words (BadRow row) = codes "bad row " ++ decimal row
fault_words TooManyRows = codes "too many rows"

-- two outcomes at a path
abbrev pub apart_words : List Bool → List ℕ → List ℕ → List ℕ
apart_words path one other = path_text path ++ (codes ": " ++ (one ++ (codes " | " ++ other)))

abbrev pub words_of : Refusal → List ℕ
words_of Usage = codes "usage: paver COMMAND SYSTEM [OPTIONS] [PAVING..]"
words_of (System line column byte cause) =
    codes "system: line " ++ (decimal line ++ (codes " column " ++ (decimal column
    ++ (codes " byte " ++ (decimal byte ++ (codes ": " ++ cause_name cause))))))
words_of (Contract byte) = codes "contract: refused at byte " ++ decimal byte
words_of (Objective byte cause) = codes "objective: byte " ++ (decimal byte ++ (codes ": " ++ cause_name cause))
words_of (NoFile name) = codes "no file: " ++ name.now
words_of (ReadFault name) = codes "read fault: " ++ name.now
words_of (NotStored name) = codes "write fault: " ++ name.now
words_of (KeeperFault name) = codes "keeper fault: " ++ name.now
words_of NotPrinted = codes "write fault: standard output"
words_of (Paving name fault) = codes "paving " ++ (name.now ++ (codes ": " ++ fault_words fault))
words_of Memory = codes "want of memory"
words_of (TreeLimit settled) = codes "tree limit: " ++ (decimal settled ++ codes " settled")
words_of (Disagree path joined file) = codes "disagree " ++ apart_words path joined.items file.items
words_of (Differs path file due) = codes "differs " ++ apart_words path file.items due.items

-- the line, with its line feed
abbrev pub line_of : Refusal → List ℕ
line_of refusal = words_of refusal ++ 10 ∷ []

-- the refusal for a fault of a text
abbrev pub refusal_of : ParseRefused → Refusal
refusal_of parse.Memory = Memory
refusal_of (parse.Fault byte line column cause) = System line column byte cause

-- the refusal for a fault of a contractor program
abbrev pub program_refusal_of : ProgramRefused → Refusal
program_refusal_of program.Memory = Memory
program_refusal_of (program.Bad byte) = Contract byte
