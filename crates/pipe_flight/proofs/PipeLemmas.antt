-- The registers on which the rules of a pipe make calls.
use Rattle.std.proofs.Common.{◌≡◌, ℕ, zero, suc, ◌+◌, ◌<◌, ◌≤◌, ◌^◌, Bool, true, false, List, [], ◌∷◌, length, get_or, map, refl, arith, ⊎_elim, pow_mono}
use Rattle.std.specs.Prelude.{Option, None, Some}
use Rattle.std.specs.List.{All, Contains, find, range_with_len}
use Rattle.std.proofs.lemmas.Bool.{cases_lt}
use Rattle.std.proofs.lemmas.Nat.{xor_of_32}
use Rattle.std.proofs.lemmas.List.Elements.{All-nil, All-cons, All-weaker, All-contains_itself}
use Rattle.reg_file.specs.declared.traits.Call.{Call}
use Rattle.pkt_headers.specs.declared.packets.Packet.{Packet}
use Rattle.addr_translate.specs.Geometry.{greatest_bits}
use Rattle.addr_translate.proofs.BlockLemmas.{index_lt}
use Rattle.addr_translate.proofs.GeometryLemmas.{greatest_at_most}
use Rattle.hash_units.proofs.HashLemmas.{hash_lt, row_hash_lt}
use Rattle.group_keys.specs.declared.uses.KeyUse.{KeyUse}
use Rattle.group_keys.specs.declared.uses.KeyUse.TheVariants.{Single, Pair}
use Rattle.group_keys.specs.Units.{UsedUnit, unit_at}
use Rattle.key_mask.specs.Bytes.{and_bytes}
use Rattle.key_mask.specs.Masks.{mask_bytes_of}
use Rattle.match_table.specs.declared.entries.Entry.{Entry}
use Rattle.match_table.specs.Tables.{takes}
use Rattle.cmu_stage.specs.Keys.{unit_key, key_in}
use Rattle.cmu_stage.specs.Passing.{IsEntry, entry_hash, call_by, calls_by, calls_at}
use Rattle.cmu_stage.proofs.PassLemmas.{found_all}
use Rattle.pipe_core.specs.Rules.{Rules, IsPipe, entries_on, units_in, first_in, cmus_in}
use Rattle.pipe_core.specs.Groups.{keys_in, array_calls, group_calls}
use Rattle.pipe_core.proofs.RangeLemmas.{all_flat}
use Rattle.pipe_core.proofs.RuleLemmas.{entries_stand}
use Rattle.pipe_flight.specs.Schedules.{AreAt}
use Rattle.pipe_flight.specs.Pipes.{Names, PipesAreStaged, PipesAvoidUnnamed}
use Rattle.pipe_flight.proofs.PassLemmas.{staged, past_all}

-- ---- keys are numbers of 32 bits

unit_small : (hash_key vector : List ℕ) (unit : Option UsedUnit) → unit_key hash_key vector unit < 2 ^ 32
unit_small hash_key vector None = omega arith
unit_small hash_key vector (Some used) = hash_lt hash_key (and_bytes vector (mask_bytes_of used.mask))

map_small : (f : ℕ → ℕ) → ((n : ℕ) → f n < 2 ^ 32) → (ns : List ℕ) (i : ℕ) → get_or (map f ns) i 0 < 2 ^ 32
map_small f small [] i = omega arith
map_small f small (n ∷ ns) zero = small n
map_small f small (n ∷ ns) (suc i) = map_small f small ns i

key_small : (rules : Rules) (group : ℕ) (vector : List ℕ) (keys : KeyUse) → key_in (keys_in rules group vector) keys < 2 ^ 32
key_small rules group vector keys = by keys
  where
    each : (i : ℕ) → get_or (keys_in rules group vector) i 0 < 2 ^ 32
    each i = map_small (λ unit. unit_key rules.hash_key vector (unit_at (units_in rules group) unit)) (λ unit. unit_small rules.hash_key vector (unit_at (units_in rules group) unit)) (range_with_len 0 4) i

    by : (keys : KeyUse) → key_in (keys_in rules group vector) keys < 2 ^ 32
    by (Single unit) = each unit
    by (Pair one two) = xor_of_32 (get_or (keys_in rules group vector) one 0) (get_or (keys_in rules group vector) two 0) (each one) (each two)

-- ---- the place of a call

bits_small : (bits wide : ℕ) → 2 ^ bits ≤ 2 ^ wide → wide ≤ 20 → bits ≤ 32
bits_small bits wide le small =
    ⊎_elim
    (λ (more : 32 < bits).
    let p = pow_mono {i = 21} {j = bits} (omega arith) in
    let q = pow_mono {i = wide} {j = 20} small in
    absurd (omega (arith, p, q, le)))
    (λ (few : bits ≤ 32). few)
    (cases_lt 32 bits)

array_named : (rules : Rules) (group : ℕ) (packet : Packet) (outs : List ℕ) (array : ℕ) → greatest_bits rules.geometry ≤ 20 → All (IsEntry (greatest_bits rules.geometry) 4 48) (entries_on rules array)
    → AreAt (Names rules) (array_calls rules group packet outs array)
unfolding calls_at
array_named rules group packet outs array few stand = by (find (takes packet.vec) (entries_on rules array)) refl
  where
    by : (found : Option Entry) → find (takes packet.vec) (entries_on rules array) ≡ found → AreAt (Names rules) (calls_by (keys_in rules group packet.vec) packet outs array found)
    by None e = All-nil (λ (c : Call). Names rules c.array c.addr)
    by (Some entry) e =
        let keys = keys_in rules group packet.vec in
        let among = found_all (Contains (entries_on rules array)) (takes packet.vec) (entries_on rules array) entry (All-contains_itself (entries_on rules array)) e in
        let is = found_all (IsEntry (greatest_bits rules.geometry) 4 48) (takes packet.vec) (entries_on rules array) entry stand e in
        let h = entry_hash keys entry in
        let small : h < 2 ^ 32 = row_hash_lt (key_in keys entry.keys) entry.row (key_small rules group packet.vec entry.keys) in
        let bits : entry.region.bits ≤ 32 = bits_small entry.region.bits (greatest_bits rules.geometry) (omega (arith, is.inside)) few in
        let place = index_lt h entry.region.bits small bits in
        All-cons (λ (c : Call). Names rules c.array c.addr) (call_by keys packet outs array entry) []
        (record { entry = entry; among = among; low = omega arith; high = omega (arith, place) })
        (All-nil (λ (c : Call). Names rules c.array c.addr))

group_named : (rules : Rules) (group : ℕ) (packet : Packet) (outs : List ℕ) → IsPipe rules → AreAt (Names rules) (group_calls rules group packet outs)
unfolding group_calls
group_named rules group packet outs pipe =
    all_flat (λ (c : Call). Names rules c.array c.addr) (array_calls rules group packet outs) (first_in rules group) (cmus_in rules group)
    (λ k less. array_named rules group packet outs (first_in rules group + k) (greatest_at_most rules.geometry pipe.geometry) (stand k less))
  where
    stand : (k : ℕ) → k < cmus_in rules group → All (IsEntry (greatest_bits rules.geometry) 4 48) (entries_on rules (first_in rules group + k))
    stand k less =
        ⊎_elim
        (λ (exists : group < length rules.geometry.groups). entries_stand rules group (first_in rules group + k) pipe exists (omega arith) (omega arith))
        (λ (past : length rules.geometry.groups ≤ group). absurd (omega (arith, past_all rules.geometry.groups group past, less)))
        (cases_lt group (length rules.geometry.groups))

-- ---- the laws

pub pipes_staged : PipesAreStaged
pipes_staged rules = staged rules

pub unnamed_avoided : PipesAvoidUnnamed
unnamed_avoided rules fill pipe off = λ group packet outs.
    All-weaker (λ (c : Call). Names rules c.array c.addr) (λ (c : Call). fill.test c.array c.addr ≡ false)
    (λ c named. by (fill.test c.array c.addr) refl (λ e. off c.array c.addr e named))
    (group_calls rules group packet outs) (group_named rules group packet outs pipe)
  where
    by : (b : Bool) {t : Bool} → t ≡ b → (t ≡ true → ⊥) → t ≡ false
    by true e h = absurd (h e)
    by false e h = e
