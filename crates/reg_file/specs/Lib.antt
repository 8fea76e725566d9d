pub mod Registers
pub mod Reads
pub mod Words
pub mod RamFile
pub mod Log
pub mod TraceFile
pub mod Calls
