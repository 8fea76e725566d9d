-- What holds whatever the registers tell.
use Rattle.std.proofs.Common.{Option, None, Some, IfSome, sym, subst}
use Rattle.outside.specs.Told.{Stays}
use Rattle.reg_file.specs.Registers.{Contents}

-- two facts on what they tell, before and after a call that leaves them
pub told_more : (one two : Option Contents) (P Q T : Contents → Type 0) → Stays one two → ((told : Contents) → P told → Q told → T told)
    → IfSome one P → IfSome two Q → IfSome two T
told_more one None P Q T same step p q = tt
told_more None (Some y) P Q T same step p q = absurd same
told_more (Some x) (Some y) P Q T same step p q = step y (subst P (sym same) p) q

pub told_all : (cells : Option Contents) (P : Contents → Type 0) → ((told : Contents) → P told) → IfSome cells P
told_all None P each = tt
told_all (Some told) P each = each told

pub told_then : (cells : Option Contents) (P T : Contents → Type 0) → ((told : Contents) → P told → T told) → IfSome cells P → IfSome cells T
told_then None P T step p = tt
told_then (Some told) P T step p = step told p

pub both_told : (cells : Option Contents) (P Q : Contents → Type 0) → IfSome cells P → IfSome cells Q → IfSome cells (λ told. P told × Q told)
both_told None P Q p q = tt
both_told (Some told) P Q p q = (p, q)
