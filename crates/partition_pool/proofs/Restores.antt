-- A region that is taken and given back.
use Rattle.std.proofs.Common.{◌≡◌, ◌^◌, Bool, true, false, cond, List, [], ◌∷◌, refl, ap, ◌∙◌, arith}
use Rattle.std.specs.Prelude.{nat_le}
use Rattle.std.proofs.lemmas.Bool.Decides.{nat_tests}
use Rattle.std.proofs.lemmas.Bool.{false≢true}
use Rattle.std.proofs.lemmas.Nat.{pow_pos}
use Rattle.addr_translate.specs.Blocks.{Block}
use Rattle.partition_pool.specs.Regions.{are_apart, is_free, is_block, put_by_base, without}
use Rattle.partition_pool.proofs.Orders.{and_true, is_block_true, is_block_same}

first_gone : (region : Block) (others : List Block) → without region (region ∷ others) ≡ others
first_gone region others =
    ap (λ (b : Bool). cond b others (region ∷ without region others)) (is_block_same region region refl)

-- a region meets itself
other_block : (region other : Block) → are_apart region other ≡ true → is_block other region ≡ false
other_block region other apart = by (is_block other region) refl
  where
    by : (b : Bool) → is_block other region ≡ b → b ≡ false
    by true e =
        let same = is_block_true other region e in
        let base = ap (λ (x : Block). x.base) same in
        let size = ap (λ (x : Block). 2 ^ x.bits) same in
        let some = pow_pos region.bits in
        absurd (false≢true (grind (arith, nat_tests)))
    by false e = refl

pub without_put : (taken : List Block) (region : Block) → is_free taken region ≡ true
    → without region (put_by_base region taken) ≡ taken
without_put [] region free = first_gone region []
without_put (other ∷ others) region free =
    by (without_put others region (and_true (are_apart region other) (is_free others region) free).1)
    (nat_le region.base other.base)
  where
    by : without region (put_by_base region others) ≡ others
        → (b : Bool) → without region (cond b (region ∷ other ∷ others) (other ∷ put_by_base region others))
        ≡ other ∷ others
    by rest true = first_gone region (other ∷ others)
    by rest false =
        ap (λ (b : Bool). cond b (put_by_base region others)
        (other ∷ without region (put_by_base region others)))
        (other_block region other (and_true (are_apart region other) (is_free others region) free).0)
        ∙ ap (λ (xs : List Block). other ∷ xs) rest
