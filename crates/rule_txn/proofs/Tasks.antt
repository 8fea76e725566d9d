-- A task with another size is allowed, as it was.
use Rattle.std.proofs.Common.{◌≡◌, ◌≢◌, List, ℕ, Bool, true, false, not, if◌then◌else◌, IsTrue, None, Some, refl}
use Rattle.std.specs.Str.{bytes_eq}
use Rattle.std.proofs.lemmas.Slice.Eq.{bytes_eq-Decides}
use Rattle.key_mask.specs.Masks.{no_lengths}
use Rattle.sketch_defs.specs.declared.tasks.TaskFault.TheVariants as faults
use Rattle.sketch_defs.specs.Tasks.{Sketch, allows_rows, allows, is_no_key, first_fault}

no_key : (key : List ℕ) (b : Bool) → bytes_eq key no_lengths ≡ b → key ≢ no_lengths → b ≡ false
no_key key true e stands = absurd (stands ((bytes_eq-Decides key no_lengths).0 e))
no_key key false e stands = refl

pub key_is_some : (key : List ℕ) → key ≢ no_lengths → is_no_key key ≡ false
unfolding is_no_key
key_is_some key stands = no_key key (bytes_eq key no_lengths) refl stands

some_fault : (rows key attr : Bool) → rows ≡ true → key ≡ false → attr ≡ true
    → (if not rows then Some faults.Rows else (if key then Some faults.EmptyKey else (if not attr then Some faults.Attr else None))) ≡ None
some_fault rows key attr a b c = simp (a, b, c)

pub no_fault : (sketch : Sketch) → IsTrue (allows_rows sketch.kind sketch.rows) → sketch.key ≢ no_lengths → IsTrue (allows sketch.kind sketch.attr)
    → first_fault sketch ≡ None
no_fault sketch rows key attr =
    some_fault (allows_rows sketch.kind sketch.rows) (is_no_key sketch.key) (allows sketch.kind sketch.attr) rows (key_is_some sketch.key key) attr
