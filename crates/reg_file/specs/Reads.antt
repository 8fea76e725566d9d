-- What a call that only reads leaves of a register file.
use Rattle.std.specs.Prelude.{◌≡◌, ◌≤◌}
use Rattle.outside.specs.Told.{Stays}
use Rattle.reg_file.specs.declared.traits.RegFile.{Ghosts}

-- the count of faults did not fall, and the shape, the contents and the list of operations stayed
pub record OnlyReads {R : Type 0} (file : Ghosts R) (old new : R) : Type 0 where
  pub later : file.faults old ≤ file.faults new
  pub dims : file.dims new ≡ file.dims old
  pub contents : Stays (file.contents old) (file.contents new)
  pub calls : Stays (file.calls old) (file.calls new)
