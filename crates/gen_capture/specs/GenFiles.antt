-- The meanings of generated files.
use Rattle.std.specs.Prelude.{ℕ}
use Rattle.gen_capture.specs.declared.gen_files.GenFiles.{GenFiles}
use Rattle.fm_io.specs.Names.{Directory}
use Rattle.fm_io.specs.Slots.{Slots}
use Rattle.gen_capture.specs.Places.{directory_in, slots_in}

-- a name that is not there is the one thing that fails
abbrev pub faults_of : GenFiles → ℕ
faults_of files = files.misses

abbrev pub last_of : GenFiles → ℕ
last_of files = files.last

abbrev pub strays_of : GenFiles → ℕ
strays_of files = files.misses

abbrev pub directory_of : GenFiles → Directory
directory_of files = directory_in files.seed files.count

abbrev pub slots_of : GenFiles → Slots
slots_of files = slots_in files.seed files.count files.places
