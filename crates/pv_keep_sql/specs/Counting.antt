-- Which refusal an error of a database is, what it does to the count of faults, and how the calls of a keeper answer it.
use Rattle.std.specs.Prelude.{◌≡◌, ◌≤◌, ℕ}
use Rattle.std.specs.declared.io.ErrorKind.{ErrorKind}
use Rattle.std.specs.declared.io.ErrorKind.TheVariants as kind
use Rattle.sqlite.specs.declared.error.Error.{Error}
use Rattle.sqlite.specs.declared.error.Error.TheVariants.{SqliteFailure}
use Rattle.sqlite.specs.declared.error.ErrorCode.TheVariants as code
use Rattle.pv_io.specs.Outside.{Rose}
use Rattle.pv_keep.specs.declared.keeper.BeginRefused.{BeginRefused}
use Rattle.pv_keep.specs.declared.keeper.BeginRefused.TheVariants as begin
use Rattle.pv_keep.specs.declared.keeper.LoadRefused.{LoadRefused}
use Rattle.pv_keep.specs.declared.keeper.LoadRefused.TheVariants as load
use Rattle.pv_io.specs.declared.refused.IoRefused.{IoRefused}
use Rattle.pv_io.specs.declared.refused.IoRefused.TheVariants as keep
use Rattle.pv_keep_sql.specs.declared.faults.Refused.{Refused}
use Rattle.pv_keep_sql.specs.declared.faults.Refused.TheVariants.{Failed, Memory}

-- every error is a failure but want of memory
abbrev pub refusal_of : Error → Refused
refusal_of (SqliteFailure code.OutOfMemory) = Memory
refusal_of e = Failed

-- the same of an error of the machine, by its kind
abbrev pub refusal_of_kind : ErrorKind → Refused
refusal_of_kind kind.OutOfMemory = Memory
refusal_of_kind k = Failed

-- a refusal is counted, unless memory was wanting
abbrev pub IsCounted : Refused → ℕ → ℕ → Type 0
IsCounted Failed before after = Rose before after × (before ≤ after)
IsCounted Memory before after = after ≡ before

abbrev pub begin_refusal : Refused → BeginRefused
begin_refusal Failed = begin.Failed
begin_refusal Memory = begin.Memory

abbrev pub load_refusal : Refused → LoadRefused
load_refusal Failed = load.Failed
load_refusal Memory = load.Memory

abbrev pub keep_refusal : Refused → IoRefused
keep_refusal Failed = keep.Failed
keep_refusal Memory = keep.Memory
