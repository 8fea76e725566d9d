use Rattle.std.proofs.Common.{◌≡◌, ◌<◌, ◌^◌, take}
use Rattle.key_mask.specs.Vectors.{big_endian}
use Rattle.key_mask.proofs.vectors.number_in.Given as goal

abbrev pub invariant-bytes : goal.invariant-bytes
invariant-bytes l = record {
  same : l.number ≡ big_endian (take l.byte-index l.bytes);
  small : l.number < 256 ^ l.byte-index;
}
