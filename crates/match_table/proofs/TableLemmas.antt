-- What a table keeps.
use Rattle.std.proofs.Common.{◌≡◌, ◌≢◌, ◌⊎◌, ℕ, suc, ◌+◌, ◌<◌, ◌≤◌, Bool, true, false, cond, List, [], ◌∷◌, ◌++◌, length, length-append, get_or, drop, refl, sym, ap, ◌∙◌, subst, inl, inr, arith}
use Rattle.std.specs.declared.cmp.Ordering.TheVariants.{Less}
use Rattle.std.specs.Cmp.Lexicographic.{slice_cmp}
use Rattle.std.specs.List.{All, AllPairs, filter, list_any, position_or_len}
use Rattle.std.specs.Ordering.{nat_cmp, is_lt}
use Rattle.std.proofs.lemmas.List.Elements.{All-head, All-tail}
use Rattle.std.proofs.lemmas.List.{length-map}
use Rattle.std.proofs.lemmas.List.Edits.{length-remove}
use Rattle.match_table.specs.declared.entries.Entry.{Entry}
use Rattle.lists.specs.Sorting.{Rising, put_by, cut_by}
use Rattle.match_table.specs.Runs.{ends_from, lasts, goes_on}
use Rattle.match_table.specs.Tables.{takes, has_base, has_mask, admits, comes_first, by_rank, same_mask, mask_of, masks_of, lesser_mask, StandApart, IsTable}
use Rattle.lists.proofs.SortLemmas.{OnlyOne}
use Rattle.lists.proofs.PlaceLemmas.{cut_at, any_within}
use Rattle.match_table.proofs.RunLemmas.{length_lasts, run, past_run, All-lasts}
use Rattle.match_table.proofs.OrderLemmas.{apart_one, by_mask, mask_rises, masks_upto, rank_rises}
use Rattle.match_table.proofs.ChangeLemmas.{apart_cut, apart_push, length_sorted, rank_cut, rank_push}

-- ---- what a table keeps

pub mask_count_is : (entries ranked : List Entry) (ends : List ℕ) → ranked ≡ by_rank entries → ends ≡ ends_from same_mask 0 ranked
    → length ends ≡ length (masks_of entries)
mask_count_is entries ranked ends e f =
    ap length f ∙ ap (λ l. length (ends_from same_mask 0 l)) e ∙ length_lasts same_mask 0 (by_rank entries) ∙ sym (length-map (lasts same_mask (by_rank entries)) mask_of)

pub kept_rises : (entries ranked : List Entry) → AllPairs StandApart entries → ranked ≡ by_rank entries → Rising comes_first ranked
kept_rises entries ranked apart e = subst (λ (l : List Entry). Rising comes_first l) (sym e) (rank_rises entries apart)

pub length_rank : (entries ranked : List Entry) → ranked ≡ by_rank entries → length ranked ≡ length entries
length_rank entries ranked e = ap length e ∙ length_sorted comes_first entries

pub installed : {room : ℕ} {entries ranked new_entries new_ranked : List Entry} {ends new_ends : List ℕ} {a b c new_a new_b new_c : ℕ} (entry : Entry)
    → IsTable room entries ranked ends a b c → length entries < room → admits entries entry.filter ≡ true → list_any (has_base entry.region.base) entries ≡ false
    → new_entries ≡ entries ++ entry ∷ [] → new_ranked ≡ put_by comes_first entry ranked → new_ends ≡ ends_from same_mask 0 new_ranked
    → a ≤ new_a → b ≤ new_b → c ≤ new_c → IsTable room new_entries new_ranked new_ends new_a new_b new_c
installed {entries = entries} {ranked = ranked} {new_entries = new_entries} entry is less filters bases e f g la lb lc =
    let holds_a = is.list_holds in let holds_b = is.ranked_holds in let holds_c = is.ends_holds in
    let size : length new_entries ≡ length entries + 1 = ap length e ∙ length-append entries (entry ∷ []) in
    record {
      some = is.some;
      most = is.most;
      apart = subst (λ (l : List Entry). AllPairs StandApart l) (sym e) (apart_push entries entry is.apart filters bases);
      in_rank = f ∙ ap (put_by comes_first entry) is.in_rank ∙ rank_push entries entry filters ∙ ap by_rank (sym e);
      grouped = g;
      few = omega arith;
      list_holds = omega arith;
      ranked_holds = omega arith;
      ends_holds = omega arith;
    }

pub length_cut : (base : ℕ) (entries : List Entry) → list_any (has_base base) entries ≡ true → length (cut_by (has_base base) entries) + 1 ≡ length entries
length_cut base entries some =
    ap (λ l. length l + 1) (cut_at (has_base base) entries)
    ∙ length-remove entries (position_or_len (has_base base) entries) (any_within (has_base base) entries some)

pub uninstalled : {room : ℕ} {entries ranked new_entries new_ranked : List Entry} {ends new_ends : List ℕ} {a b c new_a new_b new_c : ℕ} (base : ℕ)
    → IsTable room entries ranked ends a b c → list_any (has_base base) entries ≡ true
    → new_entries ≡ cut_by (has_base base) entries → new_ranked ≡ cut_by (has_base base) ranked → new_ends ≡ ends_from same_mask 0 new_ranked
    → a ≤ new_a → b ≤ new_b → c ≤ new_c → IsTable room new_entries new_ranked new_ends new_a new_b new_c
uninstalled {entries = entries} {ranked = ranked} {new_entries = new_entries} base is some e f g la lb lc =
    let holds_a = is.list_holds in let holds_b = is.ranked_holds in let holds_c = is.ends_holds in
    let fits = is.few in
    let size : length new_entries + 1 ≡ length entries = ap (λ l. length l + 1) e ∙ length_cut base entries some in
    record {
      some = is.some;
      most = is.most;
      apart = subst (λ (l : List Entry). AllPairs StandApart l) (sym e) (apart_cut base entries is.apart some);
      in_rank = f ∙ ap (cut_by (has_base base)) is.in_rank ∙ rank_cut base entries is.apart some ∙ ap by_rank (sym e);
      grouped = g;
      few = omega arith;
      list_holds = omega arith;
      ranked_holds = omega arith;
      ends_holds = omega arith;
    }

pub copied : {room other_room : ℕ} {entries ranked others other_ranked new_entries new_ranked : List Entry} {ends other_ends new_ends : List ℕ}
    {a b c d e f new_a new_b new_c : ℕ}
    → IsTable room entries ranked ends a b c → IsTable other_room others other_ranked other_ends d e f → room ≡ other_room
    → new_entries ≡ others → new_ranked ≡ other_ranked → new_ends ≡ ends_from same_mask 0 new_ranked
    → a ≤ new_a → b ≤ new_b → c ≤ new_c → IsTable room new_entries new_ranked new_ends new_a new_b new_c
copied {others = others} {new_entries = new_entries} is other same p q g la lb lc =
    let holds_a = is.list_holds in let holds_b = is.ranked_holds in let holds_c = is.ends_holds in
    let fits = other.few in
    let size : length new_entries ≡ length others = ap length p in
    record {
      some = is.some;
      most = is.most;
      apart = subst (λ (l : List Entry). AllPairs StandApart l) (sym p) other.apart;
      in_rank = q ∙ other.in_rank ∙ ap by_rank (sym p);
      grouped = g;
      few = omega arith;
      list_holds = omega arith;
      ranked_holds = omega arith;
      ends_holds = omega arith;
    }

-- ---- the masks rise

mask_less : (one two : Entry) → comes_first one two ≡ true → mask_of two ≢ mask_of one → lesser_mask one two ≡ true
mask_less one two first other = pick (masks_upto one two first) where
  pick : (slice_cmp nat_cmp (mask_of one) (mask_of two) ≡ Less) ⊎ (mask_of one ≡ mask_of two) → lesser_mask one two ≡ true
  pick (inl e) = ap is_lt e
  pick (inr e) = absurd (other (sym e))

masks_rise_more : (x : Entry) (xs : List Entry) → Rising comes_first (x ∷ xs) → Rising lesser_mask (lasts same_mask xs)
    → (b : Bool) → goes_on same_mask x xs ≡ b → Rising lesser_mask (cond b (lasts same_mask xs) (x ∷ lasts same_mask xs))
masks_rise_more x xs rises rest true e = rest
masks_rise_more x xs rises rest false e =
    let others : All (λ z. mask_of z ≢ mask_of x) xs =
    subst (λ b. All (λ z. mask_of z ≢ mask_of x) (drop (cond b (suc (run same_mask xs)) 1) (x ∷ xs))) e
    (past_run comes_first mask_of has_mask by_mask mask_rises x xs rises) in
    (All-lasts (λ z. lesser_mask x z ≡ true) same_mask xs (λ k d h. mask_less x (get_or xs k d) (rises.0 k d h) (others k d h)), rest)

pub masks_rise : (ranked : List Entry) → Rising comes_first ranked → Rising lesser_mask (lasts same_mask ranked)
masks_rise [] rises = tt
masks_rise (x ∷ xs) rises = masks_rise_more x xs rises (masks_rise xs rises.1) (goes_on same_mask x xs) refl

-- ---- at most one entry takes a vector

none_left : (p : Entry → Bool) (xs : List Entry) → All (λ x. p x ≡ false) xs → filter p xs ≡ []
none_left p [] none = refl
none_left p (x ∷ xs) none =
    rw (All-head (λ x. p x ≡ false) x xs none) (none_left p xs (All-tail (λ x. p x ≡ false) x xs none))

one_more : (p : Entry → Bool) (x : Entry) (xs : List Entry) → length (filter p xs) ≤ 1 → (p x ≡ true → All (λ y. p y ≡ false) xs)
    → (b : Bool) → p x ≡ b → length (filter p (x ∷ xs)) ≤ 1
one_more p x xs rest others true e = let none : filter p xs ≡ [] = none_left p xs (others e) in rw (e, none) (omega arith)
one_more p x xs rest others false e = rw e rest

one_of : (p : Entry → Bool) (xs : List Entry) → OnlyOne p xs → length (filter p xs) ≤ 1
one_of p [] one = omega arith
one_of p (x ∷ xs) one = one_more p x xs (one_of p xs one.1) one.0 (p x) refl

pub one_takes : (vector : List ℕ) (entries : List Entry) → AllPairs StandApart entries → length (filter (takes vector) entries) ≤ 1
one_takes vector entries apart = one_of (takes vector) entries (apart_one vector entries apart)
