-- The tally over a list of cells: one cell more, and how much that adds.
use Rattle.std.proofs.Common.{◌≡◌, ℕ, ◌+◌, ◌-◌, ◌^◌, ◌<◌, ◌≤◌, List, length, take, get_or, ap, sym, ◌∙◌, arith}
use Rattle.std.proofs.lemmas.List.Sums.{sum-map, sum_by_more}
use Rattle.sketch_defs.specs.Answers.{zero_share, rank_share, zeros_of, z_of}
use Rattle.sketch_defs.proofs.EstimateLemmas.{power_le}

-- ---- one cell more

pub zeros_more : (cells : List ℕ) (i : ℕ) → i < length cells
    → zeros_of (take (i + 1) cells) ≡ zeros_of (take i cells) + zero_share (get_or cells i 0)
zeros_more cells i within =
    sum-map zero_share (take (i + 1) cells)
    ∙ sum_by_more zero_share cells i 0 within
    ∙ ap (λ n. n + zero_share (get_or cells i 0)) (sym (sum-map zero_share (take i cells)))

pub z_more : (cells : List ℕ) (i : ℕ) → i < length cells
    → z_of (take (i + 1) cells) ≡ z_of (take i cells) + rank_share (get_or cells i 0)
z_more cells i within =
    sum-map rank_share (take (i + 1) cells)
    ∙ sum_by_more rank_share cells i 0 within
    ∙ ap (λ n. n + rank_share (get_or cells i 0)) (sym (sum-map rank_share (take i cells)))

-- ---- its range

pub rank_share_le : (cell : ℕ) → rank_share cell ≤ 2 ^ 33
rank_share_le cell = power_le (33 - cell) 33 (omega arith)
