use Rattle.std.proofs.Common.{◌≡◌, ◌++◌, ◌<◌, ◌≤◌, ℕ, List, take, drop, length, Option, None, Some, sym, ap, ◌∙◌, subst, arith}
use Rattle.std.specs.Prelude.{OnSome}
use Rattle.std.specs.Io.KnownBytes.{Consumes, IsAtEnd}
use Rattle.std.specs.Io.BufRead.{FillKeeps}
use Rattle.std.proofs.BufReadLemmas.{Consumes_shown}
use Rattle.std.proofs.lemmas.List.{take-append-le, take_all, length-append, length-drop, length-take-le}
use Rattle.fm_io.proofs.readers.read_next.Goals as goal

where_known : (old new : Option (List ℕ)) (n : ℕ) (buf : List ℕ) → Consumes old new (take n buf)
    → (n ≡ 0 → 0 < length buf → OnSome old (IsAtEnd new))
    → OnSome old (Consumes old new (take n buf) × (n ≡ 0 → 0 < length buf → IsAtEnd new))
where_known None new n buf took end = tt
where_known (Some xs) new n buf took end = (took, end)

pub returns-clause-bytes : goal.returns-clause-bytes
returns-clause-bytes g c =
    let left = g.B.Read.remaining in
    let old = left c.args.reader.now in
    let new = left c.consume.new.self in
    let n = c.min-count.result in
    let shown = c.in_ok-next.next.now in
    let copied = c.copy_from_slice.new.self in
    let rested = c.fill_buf.follows.lender-at-none in
    let room : n ≤ length shown = omega arith in
    let filled = subst (FillKeeps old (left rested) (g.B.BufRead.consumable_len rested)) c.in_ok-next.was c.fill_buf.follows.holds-at-none in
    let taken = Consumes_shown old (left rested) new (g.B.BufRead.consumable_len rested) shown n room
    c.in_ok-next.ensures.front c.in_ok-next.ensures.end filled.0 filled.1 c.consume.ensures.bytes in
    let long : length copied ≡ n = ap (λ (l : List ℕ). length l) c.copy_from_slice.ensures.after ∙ length-take-le n shown room in
    let piece : take n (copied ++ drop n c.args.buf.now) ≡ take n shown =
    take-append-le n copied (drop n c.args.buf.now) (omega (arith, long)) ∙ (take_all n copied (omega (arith, long)) ∙ c.copy_from_slice.ensures.after) in
    where_known old new n (copied ++ drop n c.args.buf.now)
    (subst (λ (l : List ℕ). Consumes old new l) (sym piece) taken.0)
    (λ none some. taken.1 (omega (arith, some, long, length-append copied (drop n c.args.buf.now), length-drop n c.args.buf.now)))
