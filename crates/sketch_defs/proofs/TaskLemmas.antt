-- What a task that has no fault keeps, and that this is all.
use Rattle.std.proofs.Common.{◌≡◌, ◌≢◌, ◌↔◌, List, ℕ, ◌≤◌, Bool, true, false, not, nat_le, if◌then◌else◌, IsTrue, Option, None, Some, refl, arith}
use Rattle.std.specs.Str.{bytes_eq}
use Rattle.std.proofs.lemmas.Bool.Decides.{nat_tests, not_from_Decides}
use Rattle.std.proofs.lemmas.Slice.Eq.{bytes_eq-Decides}
use Rattle.key_mask.specs.Masks.{no_lengths}
use Rattle.sketch_defs.specs.declared.kinds.Kind.{Kind}
use Rattle.sketch_defs.specs.declared.kinds.Kind.TheVariants.{Cms, SumaxSum, SumaxMax, Bloom, Mrac, Hll, FlagOr, FlagAnd}
use Rattle.sketch_defs.specs.declared.tasks.TaskFault.{TaskFault}
use Rattle.sketch_defs.specs.declared.tasks.TaskFault.TheVariants as faults
use Rattle.sketch_defs.specs.Tasks.{Sketch, most_rows, allows_rows, allows, is_no_key, first_fault}
use Rattle.sketch_defs.proofs.NameLemmas.{both_true}

passed : (bad : Bool) (fault : TaskFault) (others : Option TaskFault) → (if bad then Some fault else others) ≡ None → (bad ≡ false) × (others ≡ None)
passed true fault others e = cc
passed false fault others e = (refl, e)

not_false : (b : Bool) → not b ≡ false → b ≡ true
not_false true e = refl
not_false false e = cc

-- the three parts of a task that is allowed
pub record IsAllowed (sketch : Sketch) : Type 0 where
  pub rows : allows_rows sketch.kind sketch.rows ≡ true
  pub key : is_no_key sketch.key ≡ false
  pub attr : allows sketch.kind sketch.attr ≡ true

pub allowed_parts : (sketch : Sketch) → first_fault sketch ≡ None → IsAllowed sketch
allowed_parts sketch none =
    let one = passed (not (allows_rows sketch.kind sketch.rows)) faults.Rows _ none in
    let two = passed (is_no_key sketch.key) faults.EmptyKey _ one.1 in
    let three = passed (not (allows sketch.kind sketch.attr)) faults.Attr _ two.1 in
    record {
      rows = not_false (allows_rows sketch.kind sketch.rows) one.0;
      key = two.0;
      attr = not_false (allows sketch.kind sketch.attr) three.0;
    }

pub rows_allowed : (sketch : Sketch) → first_fault sketch ≡ None → IsTrue (allows_rows sketch.kind sketch.rows)
rows_allowed sketch none = (allowed_parts sketch none).rows

pub attr_allowed : (sketch : Sketch) → first_fault sketch ≡ None → IsTrue (allows sketch.kind sketch.attr)
attr_allowed sketch none = (allowed_parts sketch none).attr

pub key_stands : (sketch : Sketch) → first_fault sketch ≡ None → sketch.key ≢ no_lengths
unfolding is_no_key
key_stands sketch none = not_from_Decides (bytes_eq sketch.key no_lengths) (bytes_eq-Decides sketch.key no_lengths) (allowed_parts sketch none).key

most_is_four : (kind : Kind) → most_rows kind ≤ 4
most_is_four Cms = omega arith
most_is_four SumaxSum = omega arith
most_is_four SumaxMax = omega arith
most_is_four Bloom = omega arith
most_is_four Mrac = omega arith
most_is_four Hll = omega arith
most_is_four FlagOr = omega arith
most_is_four FlagAnd = omega arith

rows_within : (kind : Kind) (rows : ℕ) → allows_rows kind rows ≡ true → (1 ≤ rows) × (rows ≤ most_rows kind)
rows_within kind rows e =
    let parts = both_true (nat_le 1 rows) (nat_le rows (most_rows kind)) e in
    (grind (arith, nat_tests, parts.0), grind (arith, nat_tests, parts.1))

pub some_rows : (sketch : Sketch) → first_fault sketch ≡ None → 1 ≤ sketch.rows
some_rows sketch none = (rows_within sketch.kind sketch.rows (rows_allowed sketch none)).0

pub few_rows : (sketch : Sketch) → first_fault sketch ≡ None → sketch.rows ≤ 4
few_rows sketch none = omega (arith, (rows_within sketch.kind sketch.rows (rows_allowed sketch none)).1, most_is_four sketch.kind)

-- a task of which the three parts are allowed has no fault
pub no_fault : (sketch : Sketch) → IsTrue (allows_rows sketch.kind sketch.rows) → sketch.key ≢ no_lengths → IsTrue (allows sketch.kind sketch.attr)
    → first_fault sketch ≡ None
unfolding is_no_key
no_fault sketch rows stands attr =
    let some : bytes_eq sketch.key no_lengths ≡ false = by (bytes_eq sketch.key no_lengths) refl in
    rw (rows, some, attr) refl where
      by : (b : Bool) → bytes_eq sketch.key no_lengths ≡ b → b ≡ false
      by true e = absurd (stands ((bytes_eq-Decides sketch.key no_lengths).0 e))
      by false e = refl

never : IsTrue false → ⊥
never e = cc

-- the test of a mask is that of the key
pub key_tested : (key : List ℕ) (test : Bool) → IsTrue test ↔ (key ≡ no_lengths) → is_no_key key ≡ test
unfolding is_no_key
key_tested key true exact = rw (exact.0 refl) (by (bytes_eq no_lengths no_lengths) refl) where
  by : (b : Bool) → bytes_eq no_lengths no_lengths ≡ b → b ≡ true
  by true e = refl
  by false e = absurd (not_from_Decides (bytes_eq no_lengths no_lengths) (bytes_eq-Decides no_lengths no_lengths) e refl)
key_tested key false exact = by (bytes_eq key no_lengths) refl where
  by : (b : Bool) → bytes_eq key no_lengths ≡ b → b ≡ false
  by true e = absurd (never (exact.1 ((bytes_eq-Decides key no_lengths).0 e)))
  by false e = refl
