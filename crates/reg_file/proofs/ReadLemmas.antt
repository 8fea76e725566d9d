-- Calls that only read, one after the other.
use Rattle.std.proofs.Common.{refl, ◌∙◌, arith}
use Rattle.outside.proofs.ToldLemmas.{stays_same, stays_then}
use Rattle.reg_file.specs.declared.traits.RegFile.{Ghosts}
use Rattle.reg_file.specs.Reads.{OnlyReads}

-- no call
pub reads_none : {R : Type 0} (file : Ghosts R) (at : R) → OnlyReads file at at
reads_none file at =
    record { later = omega arith; dims = refl; contents = stays_same (file.contents at); calls = stays_same (file.calls at) }

-- two calls
pub reads_then : {R : Type 0} (file : Ghosts R) (a b c : R) → OnlyReads file a b → OnlyReads file b c → OnlyReads file a c
reads_then file a b c one two =
    record {
      later = omega (arith, one.later, two.later);
      dims = two.dims ∙ one.dims;
      contents = stays_then (file.contents a) (file.contents b) (file.contents c) one.contents two.contents;
      calls = stays_then (file.calls a) (file.calls b) (file.calls c) one.calls two.calls;
    }
