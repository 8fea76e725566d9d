-- What is true of files in memory, whatever they hold.
use Rattle.std.specs.Prelude.{◌≡◌, ℕ, true, IsSome}
use Rattle.fm_io.specs.declared.mem_files.MemFiles.{MemFiles}
use Rattle.fm_io.specs.MemFiles.{slots_of}
use Rattle.fm_io.specs.Slots.{slot_at}

-- each slot with a file tells its bytes and position
abbrev pub FilesTell : Type 0
FilesTell = (files : MemFiles) (number : ℕ)
    → (slot_at (slots_of files) number).attached ≡ true → IsSome (slot_at (slots_of files) number).cursor
