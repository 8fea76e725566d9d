-- Worked values of names.
use Rattle.std.specs.Prelude.{◌≡◌, true, false, codes}
use Rattle.std.proofs.Common.{refl}
use Rattle.sketch_defs.specs.Names.{is_name}

sixteen : is_name (codes "a_name_of_16_byt") ≡ true
sixteen = refl

seventeen : is_name (codes "a_name_of_17_byte") ≡ false
seventeen = refl

none : is_name (codes "") ≡ false
none = refl

capital : is_name (codes "hOt") ≡ false
capital = refl

digit_first : is_name (codes "1hot") ≡ false
digit_first = refl
