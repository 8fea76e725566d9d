-- Arrays of registers in one list of words, one array after the other.
use Rattle.std.specs.Prelude.{ℕ, ◌+◌, ◌*◌, ◌^◌, List, [], Option, None, Some, nat_lt, if◌then◌else◌, slice_index}
use Rattle.std.specs.Global.{Vec}
use Rattle.reg_file.specs.Registers.{Contents}

-- the registers in these words, for arrays of `2 ^ bits`; all others are 0
abbrev pub flat : ℕ → List ℕ → Contents
flat bits words array addr =
    if nat_lt addr (2 ^ bits) then slice_index words (array * 2 ^ bits + addr) else 0

-- no words before there is a vector
abbrev pub words_in : Option (Vec ℕ) → List ℕ
words_in None = []
words_in (Some words) = words.items
