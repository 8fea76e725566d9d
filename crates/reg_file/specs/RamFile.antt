-- What clauses see of a `RamFile`.
use Rattle.reg_file.specs.declared.ram.RamFile.{RamFile}
use Rattle.reg_file.specs.Registers.{Contents, Dims}
use Rattle.reg_file.specs.Words.{flat, words_in}

abbrev pub ram_dims : RamFile → Dims
ram_dims file = record { arrays = file.arrays; bits = file.bits }

abbrev pub ram_contents : RamFile → Contents
ram_contents file = flat file.bits (words_in file.words)
