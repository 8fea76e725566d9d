use Rattle.std.proofs.Common.{rules, ◌≡◌, arith, ap, sym, ◌∙◌, ◌-◌, ◌+◌, ◌*◌, ◌^◌, subst, ℕ, List, length, true, add-one, replicate}
use Rattle.std.proofs.lemmas.List.{length-replicate}
use Rattle.std.proofs.lemmas.Nat.{pow_pos}
use Rattle.addr_translate.specs.Blocks.{Block}
use Rattle.partition_pool.specs.Regions.{block_at}
use Rattle.partition_pool.specs.Pools.{PoolState}
use Rattle.partition_pool.specs.Kept.{IsKept, Marks, blocks_from}
use Rattle.partition_pool.proofs.Halves.{pow_twice}
use Rattle.partition_pool.proofs.Pools.{whole_again, new_pool}
use Rattle.partition_pool.proofs.Starts.{blocks_none}
use Rattle.partition_pool.proofs.pool.Pool.new.Goals as goal

pub mark-requires-clause-room : goal.mark-requires-clause-room
mark-requires-clause-room c =
    let n : length c.as_mut_slice.result.now ≡ 2 * c.power-count.result - 1 =
    ap length (c.as_mut_slice.ensures.value ∙ c.in_ok-nodes.ensures)
    ∙ length-replicate {A = ℕ} (2 * c.power-count.result - 1) 0 in
    let some = pow_pos (c.args.bits - c.saturating_sub.result) in
    let twice = pow_twice (c.args.bits - c.saturating_sub.result) in
    let e = ap (λ k. 2 ^ k) (add-one (c.args.bits - c.saturating_sub.result)) in
    omega (arith, c.power-count.ensures)

pub invariant_of-result : goal.invariant_of-result
invariant_of-result c =
    let count : c.power-count.result ≡ 2 ^ (c.args.bits - c.saturating_sub.result) = c.power-count.ensures in
    let starts : c.in_ok-starts.starts.items ≡ replicate (2 ^ (c.args.bits - c.saturating_sub.result)) 0 =
    c.in_ok-starts.ensures ∙ ap (λ n. replicate n 0) count in
    let nodes : c.in_ok-nodes.nodes.items
    ≡ replicate (2 * 2 ^ (c.args.bits - c.saturating_sub.result) - 1) 0 =
    c.in_ok-nodes.ensures ∙ ap (λ n. replicate (2 * n - 1) 0) count in
    let many : length c.in_ok-nodes.nodes.items ≡ 2 * 2 ^ (c.args.bits - c.saturating_sub.result) - 1 =
    ap length nodes ∙ length-replicate {A = ℕ} (2 * 2 ^ (c.args.bits - c.saturating_sub.result) - 1) 0 in
    let some = pow_pos (c.args.bits - c.saturating_sub.result) in
    let twice = pow_twice (c.args.bits - c.saturating_sub.result) in
    let e = ap (λ k. 2 ^ k) (add-one (c.args.bits - c.saturating_sub.result)) in
    let room : length c.in_ok-nodes.nodes.items + 1 ≡ 2 ^ (c.args.bits - c.saturating_sub.result + 1) =
    omega arith in
    let M : List ℕ → Type 0 =
    λ xs. Marks c.args.bits c.saturating_sub.result (block_at c.args.bits 0) true xs c.mark.new.nodes in
    let marks = subst M c.as_mut_slice.ensures.value c.mark.ensures in
    let same : length c.mark.new.nodes ≡ length c.in_ok-nodes.nodes.items = c.mark.auto.nodes
    ∙ ap length c.as_mut_slice.ensures.value in
    let made = new_pool c.args.bits c.saturating_sub.result c.args.split c.in_ok-starts.starts.items
    c.in_ok-nodes.nodes.items c.mark.new.nodes
    c.requires.least c.requires.least_split c.requires.most_split c.saturating_sub.ensures starts nodes same
    room marks in
    let X : List ℕ → Type 0 =
    λ xs. IsKept c.args.bits c.saturating_sub.result c.args.split c.in_ok-starts.starts.items xs in
    let n : length c.mark.new.nodes ≡ c.in_ok-nodes.nodes.len = search rules in
    subst X (sym (whole_again c.in_ok-nodes.nodes.len c.mark.new.nodes c.in_ok-nodes.nodes.items n)) made

pub returns : goal.returns
returns c =
    let made : List Block → PoolState =
    λ bs. record { number = c.args.number; bits = c.args.bits; split = c.args.split; taken = bs } in
    ap made (ap (blocks_from c.saturating_sub.result 0) c.in_ok-starts.ensures
    ∙ blocks_none c.saturating_sub.result 0 c.power-count.result)
