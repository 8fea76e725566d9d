-- Worked values of sorting.
use Rattle.std.proofs.Common.{◌≡◌, ◌==◌, nat_lt, [], ◌∷◌, refl}
use Rattle.lists.specs.Sorting.{put_by, sort_by, cut_by}

put_between : put_by nat_lt 4 (1 ∷ 3 ∷ 5 ∷ []) ≡ 1 ∷ 3 ∷ 4 ∷ 5 ∷ []
put_between = refl

put_last : put_by nat_lt 7 (1 ∷ 3 ∷ []) ≡ 1 ∷ 3 ∷ 7 ∷ []
put_last = refl

sorted : sort_by nat_lt (5 ∷ 1 ∷ 4 ∷ []) ≡ 1 ∷ 4 ∷ 5 ∷ []
sorted = refl

-- the first that passes alone
cut_once : cut_by (λ x. x == 1) (5 ∷ 1 ∷ 4 ∷ 1 ∷ []) ≡ 5 ∷ 4 ∷ 1 ∷ []
cut_once = refl

cut_none : cut_by (λ x. x == 2) (5 ∷ 1 ∷ []) ≡ 5 ∷ 1 ∷ []
cut_none = refl
