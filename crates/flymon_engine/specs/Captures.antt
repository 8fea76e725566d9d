-- A capture that is read record by record while commands are carried out.
use Rattle.std.specs.Prelude.{◌≡◌, false, Ok}
use Rattle.fm_io.specs.Slots.{Cursor, Slot}
use Rattle.capture_read.specs.Reading.{Reading}
use Rattle.capture_read.specs.Steps.{IsAt}
use Rattle.flymon_engine.specs.Arrivals.{Left, left_in, Comes}

-- the next record may be read: no fault was met, and the slot stands behind what was read
pub record IsReady (reading : Reading) (slot : Slot) : Type 0 where
  pub sound : reading.faulty ≡ false
  pub place : IsAt reading slot

-- the header was read, and all that the capture gives is left
pub record HasBegun (reading : Reading) (cursor : Cursor) : Type 0 where
  pub left : Left
  pub is : left_in cursor.bytes ≡ Ok left
  pub goes_on : Comes reading left cursor
