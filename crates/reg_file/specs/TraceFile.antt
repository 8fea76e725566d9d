-- What clauses see of a `TraceFile` besides its registers.
use Rattle.outside.specs.Schedule.{Schedule}
use Rattle.reg_file.specs.declared.trace.TraceFile.{TraceFile}
use Rattle.reg_file.specs.Registers.{Contents, Dims}
use Rattle.reg_file.specs.RamFile.{ram_dims, ram_contents}
use Rattle.reg_file.specs.Log.{Log}

abbrev pub trace_dims : TraceFile → Dims
trace_dims file = ram_dims file.file

abbrev pub trace_contents : TraceFile → Contents
trace_contents file = ram_contents file.file

-- its calls of `rmw`
abbrev pub log_of : TraceFile → Log
log_of file = file.log

-- its calls of `shape`, `read` and `fill`
abbrev pub schedule_of : TraceFile → Schedule
schedule_of file = file.schedule
