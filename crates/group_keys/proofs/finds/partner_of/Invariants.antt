use Rattle.std.proofs.Common.{◌≡◌, ℕ, ◌+◌, Bool, length}
use Rattle.std.specs.List.{find}
use Rattle.group_keys.specs.Units.{unit_at, xor_to}
use Rattle.group_keys.proofs.PairLemmas.{numbers_from}
use Rattle.group_keys.proofs.finds.partner_of.Given as goal

abbrev pub invariant-seconds : goal.invariant-seconds
invariant-seconds l =
    let test : ℕ → Bool = λ two. xor_to l.mask (unit_at l.units l.one) (unit_at l.units two) in
    find test (numbers_from l.two (length l.units)) ≡ find test (numbers_from (l.one + 1) (length l.units))
