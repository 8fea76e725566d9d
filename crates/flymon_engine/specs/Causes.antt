-- Why the carrying out of commands stopped.
use Rattle.std.specs.Prelude.{◌≡◌, ℕ}
use Rattle.outside.specs.Faults.{Rose}
use Rattle.capture_read.specs.declared.records.CaptureFault.{CaptureFault}
use Rattle.capture_read.specs.declared.records.CaptureFault.TheVariants.{Read}
use Rattle.flymon_engine.specs.declared.stop.Halt.{Halt}
use Rattle.flymon_engine.specs.declared.stop.Halt.TheVariants.{Damage, Input, Device, Output}

-- a fault of the files (at slot 2), the registers or the output has its cause, by the counts before and after
abbrev pub HasCause : (files_before files_now last regs_before regs_now out_before out_now : ℕ) → Halt → Type 0
HasCause files_before files_now last regs_before regs_now out_before out_now (Damage fault) = Unit {0}
HasCause files_before files_now last regs_before regs_now out_before out_now Input = Rose files_before files_now × (last ≡ 2)
HasCause files_before files_now last regs_before regs_now out_before out_now Device = Rose regs_before regs_now
HasCause files_before files_now last regs_before regs_now out_before out_now Output = Rose out_before out_now

-- what a fault of the capture is to the run
abbrev pub halt_of : CaptureFault → Halt
halt_of Read = Input
halt_of fault = Damage fault
