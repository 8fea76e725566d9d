use Rattle.std.proofs.Common.{◌≡◌, ◌+◌, length, sym, ap, ◌∙◌, arith}
use Rattle.std.specs.Option.{option_copied}
use Rattle.texts.specs.Cuts.{left_behind}
use Rattle.texts.proofs.CutLemmas.{parts_behind}
use Rattle.key_mask.specs.Items.{with_items}
use Rattle.key_mask.proofs.ItemLemmas.{item_read, item_fault}
use Rattle.key_mask.proofs.items.read_items.Goals as goal

pub returns-in-Err : goal.returns-in-Err
returns-in-Err g c =
    sym (item_fault g.T.FromItems.item_in c.items.place c.items.found c.in-Some.text.now c.cut.result.0.now c.in-Err.kind c.cut.ensures.front (sym c.in-Err.ensures))
    ∙ ap (λ o. with_items g.T.FromItems.item_in c.items.place c.items.found (parts_behind 44 (option_copied o))) (sym c.in-Some.is)
    ∙ c.items.invariant.same

pub items-preserved : goal.items-preserved
items-preserved g c =
    let read = item_read g.T.FromItems.item_in c.items.place c.items.found c.in-Some.text.now c.cut.result.0.now (option_copied c.cut.result.1) c.in-Ok.next
    c.cut.ensures.front c.cut.ensures.back (sym c.in-Ok.ensures) in
    let left : left_behind (option_copied c.items.left) ≡ length c.in-Some.text.now + 1 = ap (λ o. left_behind (option_copied o)) c.in-Some.is in
    record {
      same = read
          ∙ ap (λ o. with_items g.T.FromItems.item_in c.items.place c.items.found (parts_behind 44 (option_copied o))) (sym c.in-Some.is)
          ∙ c.items.invariant.same;
      room = omega (arith, left, c.cut.ensures.room, c.items.invariant.room);
    }
