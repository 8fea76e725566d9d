-- Where the capture and the registers are told, through calls.
use Rattle.std.proofs.Common.{Option, None, Some, refl, ◌∙◌, arith}
use Rattle.outside.specs.Told.{Told}
use Rattle.fm_io.specs.Slots.{Cursor}
use Rattle.reg_file.specs.Registers.{Contents}
use Rattle.capture_read.specs.Steps.{MovesOn}
use Rattle.flymon_engine.specs.Worlds.{WhereTold}
use Rattle.flymon_engine.specs.Moves.{WasTold}

-- two facts of what is told are one
pub told_both : {A B : Type 0} (R S : A → B → Type 0) (a : Option A) (b : Option B) → Told R a b → Told S a b → Told (λ x y. R x y × S x y) a b
told_both R S a None r s = tt
told_both R S None (Some y) r s = absurd r
told_both R S (Some x) (Some y) r s = (r, s)

-- what holds where both are told, through calls that move both
pub where_then : {P Q : Cursor → Contents → Type 0} {S : Cursor → Cursor → Type 0} {T : Contents → Contents → Type 0}
    (t0 t1 : Option Cursor) (c0 c1 : Option Contents)
    → ((t u : Cursor) (c d : Contents) → S t u → T c d → P t c → Q u d)
    → Told S t0 t1 → Told T c0 c1 → WhereTold t0 c0 P → WhereTold t1 c1 Q
where_then t0 None c0 c1 step s r p = tt
where_then None (Some u) c0 c1 step s r p = absurd s
where_then (Some t) (Some u) c0 None step s r p = tt
where_then (Some t) (Some u) None (Some d) step s r p = absurd r
where_then (Some t) (Some u) (Some c) (Some d) step s r p = step t u c d s r p

-- through no call at all
pub where_weaker : {P Q : Cursor → Contents → Type 0} (t : Option Cursor) (c : Option Contents)
    → ((u : Cursor) (d : Contents) → P u d → Q u d) → WhereTold t c P → WhereTold t c Q
where_weaker None c step p = tt
where_weaker (Some u) None step p = tt
where_weaker (Some u) (Some d) step p = step u d p

-- through a call that moves the capture alone
pub where_tape : {P Q : Cursor → Contents → Type 0} {S : Cursor → Cursor → Type 0} (t0 t1 : Option Cursor) (c : Option Contents)
    → ((t u : Cursor) (d : Contents) → S t u → P t d → Q u d) → Told S t0 t1 → WhereTold t0 c P → WhereTold t1 c Q
where_tape t0 None c step s p = tt
where_tape None (Some u) c step s p = absurd s
where_tape (Some t) (Some u) None step s p = tt
where_tape (Some t) (Some u) (Some d) step s p = step t u d s p

-- through a call that moves the registers alone
pub where_cells : {P Q : Cursor → Contents → Type 0} {T : Contents → Contents → Type 0} (t : Option Cursor) (c0 c1 : Option Contents)
    → ((u : Cursor) (c d : Contents) → T c d → P u c → Q u d) → Told T c0 c1 → WhereTold t c0 P → WhereTold t c1 Q
where_cells None c0 c1 step r p = tt
where_cells (Some u) c0 None step r p = tt
where_cells (Some u) None (Some d) step r p = absurd r
where_cells (Some u) (Some c) (Some d) step r p = step u c d r p

-- through a call that takes what holds before it to what holds behind it
pub then_where : {P Q I J : Cursor → Contents → Type 0}
    (t0 t1 : Option Cursor) (c0 c1 : Option Contents)
    → ((t : Cursor) (c : Contents) → P t c → I t c)
    → ((t : Cursor) (c : Contents) (u : Cursor) (d : Contents) → P t c → J u d → Q u d)
    → Told MovesOn t0 t1 → WasTold c0 c1 → (WhereTold t0 c0 I → WhereTold t1 c1 J) → WhereTold t0 c0 P → WhereTold t1 c1 Q
then_where t0 None c0 c1 into out s r call p = tt
then_where None (Some u) c0 c1 into out s r call p = absurd s
then_where (Some t) (Some u) c0 None into out s r call p = tt
then_where (Some t) (Some u) None (Some d) into out s r call p = absurd r
then_where (Some t) (Some u) (Some c) (Some d) into out s r call p = out t c u d p (call (into t c p))

pub was_same : {A : Type 0} (a : Option A) → WasTold a a
was_same None = tt
was_same (Some x) = tt

pub was_then : {A : Type 0} (a b c : Option A) → WasTold a b → WasTold b c → WasTold a c
was_then a b None r s = tt
was_then a None (Some z) r s = absurd s
was_then None (Some y) (Some z) r s = absurd r
was_then (Some x) (Some y) (Some z) r s = tt

pub on_same : (a : Option Cursor) → Told MovesOn a a
on_same None = tt
on_same (Some x) = record { bytes = refl; on = omega arith }

pub on_then : (a b c : Option Cursor) → Told MovesOn a b → Told MovesOn b c → Told MovesOn a c
on_then a b None r s = tt
on_then a None (Some z) r s = absurd s
on_then None (Some y) (Some z) r s = absurd r
on_then (Some x) (Some y) (Some z) r s = record { bytes = s.bytes ∙ r.bytes; on = omega (arith, r.on, s.on) }
