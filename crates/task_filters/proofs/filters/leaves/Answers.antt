use Rattle.std.proofs.Common.{◌≡◌, ℕ, List, ◌+◌, ◌-◌, ◌*◌, ◌<◌, ◌≤◌, length, get_or, bit_and, ap, ap₂, sym, ◌∙◌, refl, arith, ⊎_elim}
use Rattle.std.specs.Int.{byte_at}
use Rattle.std.proofs.lemmas.Bool.{cases_lt, false≢true}
use Rattle.std.proofs.lemmas.List.{ext_get_or}
use Rattle.std.proofs.lemmas.Nat.{and_le_l}
use Rattle.key_mask.specs.Bytes.{and_bytes}
use Rattle.key_mask.proofs.BytesLemmas.{length-bytewise, get_or-and_bytes}
use Rattle.key_mask.proofs.EightLemmas.{byte_at_and, same_eight}
use Rattle.task_filters.proofs.filters.leaves.Goals as goal

pub returns-then-eight_at : goal.returns-then-eight_at
returns-then-eight_at c =
    let bytes : List ℕ = c.args.bytes.now in
    let mask : List ℕ = c.args.mask.now in
    let at : ℕ = 8 * c.eights.eight in
    let one : ℕ = c.eight_at.result in
    let two : ℕ = c.eight_at-in-eights.result in
    let each : (k : ℕ) → k < 8 → byte_at k (bit_and one two) ≡ get_or (and_bytes bytes mask) (at + k) 0 = λ k h.
    byte_at_and one two k h
    ∙ ap₂ bit_and (c.eight_at.ensures k h) (c.eight_at-in-eights.ensures k h)
    ∙ sym (get_or-and_bytes bytes mask (at + k)) in (
      (λ h. absurd (false≢true h)),
      λ e. absurd (c.if-eight_at.true
          (same_eight (bit_and one two) c.eight_at-in-eights-2.result (omega (arith, and_le_l one two)) (omega arith)
          (λ k h. each k h ∙ ap (λ l. get_or l (at + k) 0) e ∙ sym (c.eight_at-in-eights-2.ensures k h)))),
    )

pub eights-preserved : goal.eights-preserved
eights-preserved c k below =
    let bytes : List ℕ = c.args.bytes.now in
    let mask : List ℕ = c.args.mask.now in
    let at : ℕ = 8 * c.eights.eight in
    let one : ℕ = c.eight_at.result in
    let two : ℕ = c.eight_at-in-eights.result in
    let each : (k : ℕ) → k < 8 → byte_at k (bit_and one two) ≡ get_or (and_bytes bytes mask) (at + k) 0 = λ k h.
    byte_at_and one two k h
    ∙ ap₂ bit_and (c.eight_at.ensures k h) (c.eight_at-in-eights.ensures k h)
    ∙ sym (get_or-and_bytes bytes mask (at + k)) in
    ⊎_elim
    (λ (before : k < at). c.eights.invariant k before)
    (λ (from : at ≤ k).
    let place : at + (k - at) ≡ k = omega arith in
    let there : k - at < 8 = omega arith in
    let same : get_or (and_bytes bytes mask) (at + (k - at)) 0 ≡ get_or c.args.value.now (at + (k - at)) 0 =
    sym (each (k - at) there) ∙ ap (byte_at (k - at)) c.if-eight_at.false ∙ c.eight_at-in-eights-2.ensures (k - at) there in
    ap (λ i. get_or (and_bytes bytes mask) i 0) (sym place) ∙ same ∙ ap (λ i. get_or c.args.value.now i 0) place)
    (cases_lt k at)

pub returns : goal.returns
returns c =
    let bytes : List ℕ = c.args.bytes.now in
    let mask : List ℕ = c.args.mask.now in
    let whole : length (and_bytes bytes mask) ≡ length c.args.value.now = omega (arith, length-bytewise bit_and bytes mask) in
    ((λ h. ext_get_or 0 (and_bytes bytes mask) c.args.value.now whole (λ k h. c.eights.invariant k (omega (arith, length-bytewise bit_and bytes mask)))), λ e. refl)
