use Rattle.std.proofs.Common.{◌≡◌, true, false, sym, ◌∙◌, refl}
use Rattle.sketch_defs.specs.Tasks.{allows, allows_rows, is_no_key}
use Rattle.sketch_defs.proofs.TaskLemmas.{key_tested}
use Rattle.sketch_defs.proofs.tasks.Task.new.Goals as goal

pub returns-then-is_empty : goal.returns-then-is_empty
returns-then-is_empty c =
    let rows : allows_rows c.args.kind c.args.rows ≡ true = sym c.allows_rows.ensures ∙ c.if-not-allows_rows.false in
    let none : is_no_key c.args.key ≡ true = key_tested c.args.key c.is_empty.result c.is_empty.ensures.exact ∙ c.if-is_empty.true in
    rw (rows, none) refl

pub returns-then-not-allows : goal.returns-then-not-allows
returns-then-not-allows c =
    let rows : allows_rows c.args.kind c.args.rows ≡ true = sym c.allows_rows.ensures ∙ c.if-not-allows_rows.false in
    let some : is_no_key c.args.key ≡ false = key_tested c.args.key c.is_empty.result c.is_empty.ensures.exact ∙ c.if-is_empty.false in
    let attr : allows c.args.kind c.args.attr ≡ false = sym c.allows.ensures ∙ c.if-not-allows.true in
    rw (rows, some, attr) refl

pub invariant_of-result : goal.invariant_of-result
invariant_of-result c =
    let rows : allows_rows c.args.kind c.args.rows ≡ true = sym c.allows_rows.ensures ∙ c.if-not-allows_rows.false in
    let some : is_no_key c.args.key ≡ false = key_tested c.args.key c.is_empty.result c.is_empty.ensures.exact ∙ c.if-is_empty.false in
    let attr : allows c.args.kind c.args.attr ≡ true = sym c.allows.ensures ∙ c.if-not-allows.false in
    rw (rows, some, attr) refl

pub returns : goal.returns
returns c =
    let rows : allows_rows c.args.kind c.args.rows ≡ true = sym c.allows_rows.ensures ∙ c.if-not-allows_rows.false in
    let some : is_no_key c.args.key ≡ false = key_tested c.args.key c.is_empty.result c.is_empty.ensures.exact ∙ c.if-is_empty.false in
    let attr : allows c.args.kind c.args.attr ≡ true = sym c.allows.ensures ∙ c.if-not-allows.false in
    (refl, rw (rows, some, attr) refl)
