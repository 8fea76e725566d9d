-- The calls of a packet rise in arrays, so that it makes one on an array at most.
use Rattle.std.proofs.Common.{◌≡◌, ℕ, zero, suc, ◌+◌, ◌<◌, ◌≤◌, List, [], ◌∷◌, ◌++◌, length, subst, sym, ap, ◌∙◌, arith}
use Rattle.std.specs.Prelude.{Option, None, Some}
use Rattle.std.specs.List.{All, AllPairs, find, flat_map, range_with_len}
use Rattle.std.proofs.lemmas.List.Elements.{All-nil, All-append, All-head, All-tail, All-weaker}
use Rattle.std.proofs.lemmas.List.Kept.{AllPairs-cons}
use Rattle.reg_file.specs.declared.traits.Call.{Call}
use Rattle.pkt_headers.specs.declared.packets.Packet.{Packet}
use Rattle.match_table.specs.declared.entries.Entry.{Entry}
use Rattle.match_table.specs.Tables.{takes}
use Rattle.match_table.proofs.OrderLemmas.{pairs_first, pairs_rest}
use Rattle.cmu_stage.specs.Passing.{call_by, calls_by, calls_at}
use Rattle.pipe_core.specs.Rules.{Rules, entries_on, first_in, cmus_in}
use Rattle.pipe_core.specs.Groups.{keys_in, array_calls, group_calls, packet_calls, IsBelow, CallsRise}
use Rattle.pipe_core.proofs.RangeLemmas.{flat_more, all_flat}
use Rattle.pipe_core.proofs.FirstLemmas.{first_le, first_next}
use Rattle.pipe_core.proofs.GroupLemmas.{IsWithin, array_within, group_within}

abbrev Rises : List Call → Type 0
Rises = AllPairs IsBelow

no_calls : Rises []
no_calls i j d less within = absurd (omega arith)

-- two lists of calls, the second on arrays behind those of the first
rise_append : (low mid high : ℕ) (xs ys : List Call) → Rises xs → Rises ys → All (IsWithin low mid) xs → All (IsWithin mid high) ys → Rises (xs ++ ys)
rise_append low mid high [] ys one two below above = two
rise_append low mid high (x ∷ xs) ys one two below above =
    let here = All-head (IsWithin low mid) x xs below in
    AllPairs-cons IsBelow x (xs ++ ys)
    (All-append (IsBelow x) xs ys (pairs_first IsBelow x xs one)
    (All-weaker (IsWithin mid high) (IsBelow x) (λ y within. omega (arith, here.most, within.least)) ys above))
    (rise_append low mid high xs ys (pairs_rest IsBelow x xs one) two (All-tail (IsWithin low mid) x xs below) above)

-- the lists of a range, each between its bound and the next
rise_flat : (f : ℕ → List Call) (bound : ℕ → ℕ) (a n : ℕ) → ((j k : ℕ) → j ≤ k → bound j ≤ bound k)
    → ((k : ℕ) → Rises (f (a + k))) → ((k : ℕ) → All (IsWithin (bound k) (bound (k + 1))) (f (a + k))) → Rises (flat_map f (range_with_len a n))
rise_flat f bound a zero up rise within = no_calls
rise_flat f bound a (suc n) up rise within =
    let e : n + 1 ≡ suc n = omega arith in
    subst (λ m. Rises (flat_map f (range_with_len a m))) e
    (subst Rises (sym (flat_more f a n))
    (rise_append 0 (bound n) (bound (n + 1)) (flat_map f (range_with_len a n)) (f (a + n))
    (rise_flat f bound a n up rise within) (rise n)
    (all_flat (IsWithin 0 (bound n)) f a n (λ k less i d lt. let is = within k i d lt in
    record { least = omega arith; most = omega (arith, is.most, up (k + 1) n (omega arith)) }))
    (within n)))

array_rise : (rules : Rules) (group : ℕ) (packet : Packet) (outs : List ℕ) (array : ℕ) → Rises (array_calls rules group packet outs array)
unfolding calls_at
array_rise rules group packet outs array = by (find (takes packet.vec) (entries_on rules array)) where
  by : (found : Option Entry) → Rises (calls_by (keys_in rules group packet.vec) packet outs array found)
  by None = no_calls
  by (Some entry) = λ i j d less within. absurd (omega (arith, within))

group_rise : (rules : Rules) (group : ℕ) (packet : Packet) (outs : List ℕ) → Rises (group_calls rules group packet outs)
unfolding group_calls
group_rise rules group packet outs =
    let first = first_in rules group in
    rise_flat (array_calls rules group packet outs) (λ k. first + k) first (cmus_in rules group) (λ j k le. omega arith)
    (λ k. array_rise rules group packet outs (first + k))
    (λ k. array_within rules group packet outs (first + k) (first + k) (first + (k + 1)) (omega arith) (omega arith))

pub calls_rise : CallsRise
unfolding packet_calls
calls_rise rules packet outs =
    rise_flat (λ group. group_calls rules group packet outs) (first_in rules) 0 (length rules.geometry.groups) (first_le rules)
    (λ k. group_rise rules (0 + k) packet outs)
    (λ k i d less. let is = group_within rules (0 + k) packet outs i d less in
    let e : 0 + k ≡ k = omega arith in
    let low = ap (first_in rules) e in let many = ap (cmus_in rules) e in
    record { least = omega (arith, is.least, low); most = omega (arith, is.most, low, many, first_next rules k) })
