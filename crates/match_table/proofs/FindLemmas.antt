-- The search for the entry that takes a vector, mask by mask.
use Rattle.std.proofs.Common.{◌≡◌, ℕ, suc, ◌+◌, ◌-◌, ◌<◌, ◌≤◌, Bool, true, false, List, [], ◌∷◌, map, length, get_or, take, drop, length-drop, drop-cons, is_some, Bor, Ordering, Option, Some, None, Err, ⊎_elim, refl, sym, ap, ◌∙◌, subst, arith}
use Rattle.std.specs.declared.cmp.Ordering.TheVariants.{Less, Equal, Greater}
use Rattle.std.specs.Cmp.Lexicographic.{slice_cmp}
use Rattle.std.specs.List.Sorted.{IsSortedBy, IsBinarySearchResult}
use Rattle.std.specs.List.{HoldsAt, filter, find}
use Rattle.std.specs.Ordering.{nat_cmp, is_lt, ordering_then, ordering_reverse}
use Rattle.std.specs.Option.{option_copied}
use Rattle.std.specs.Str.{bytes_eq}
use Rattle.std.proofs.lemmas.Bool.{false≢true, cases_lt}
use Rattle.std.proofs.lemmas.Cmp.{nat_list_cmp_total}
use Rattle.std.proofs.lemmas.List.{take-append-drop, drop-drop, length-take-le}
use Rattle.std.proofs.Math.ListN.{drop_of_length-le}
use Rattle.key_mask.specs.Bytes.{and_bytes}
use Rattle.match_table.specs.declared.entries.Entry.{Entry}
use Rattle.task_filters.specs.Filters.{passes}
use Rattle.lists.specs.Sorting.{Rising}
use Rattle.match_table.specs.Runs.{ends_from, lasts, start_of}
use Rattle.match_table.specs.Tables.{takes, has_mask, has_value, value_order, comes_first, same_mask, mask_of, IsGroup}
use Rattle.std.proofs.lemmas.List.Sorted.{searchable_from_sorted}
use Rattle.lists.proofs.PlaceLemmas.{find_there, find_nowhere, find_agree, find_none, find_some}
use Rattle.match_table.proofs.RunLemmas.{group_at, NextGroup, run, rising_at, rising_take, rising_drop, run_one_key, next_group, first_end}
use Rattle.match_table.proofs.OrderLemmas.{by_mask, bytes_same, cmp_equal, cmp_same, is_less, mask_rises, same_bytes}

-- ---- find

then_less : (o p : Ordering) → o ≡ Equal → is_lt (ordering_then o p) ≡ true → p ≡ Less
then_less Less p e less = cc
then_less Equal p e less = is_less p less
then_less Greater p e less = cc

values_rise : (one two : Entry) → mask_of one ≡ mask_of two → comes_first one two ≡ true → slice_cmp nat_cmp one.filter.value two.filter.value ≡ Less
unfolding comes_first
values_rise one two same first =
    then_less (slice_cmp nat_cmp (mask_of one) (mask_of two)) (slice_cmp nat_cmp one.filter.value two.filter.value) (cmp_same (mask_of one) (mask_of two) same) first

group_values : (group : List Entry) → IsGroup group → (i j : ℕ) (d : Entry) → i < j → j < length group
    → slice_cmp nat_cmp (get_or group i d).filter.value (get_or group j d).filter.value ≡ Less
group_values group is i j d less within =
    values_rise (get_or group i d) (get_or group j d) (is.one_mask d i d (omega arith) ∙ sym (is.one_mask d j d within))
    (rising_at comes_first group is.rising i j d less within)

not_value : (value : List ℕ) (entry : Entry) → (slice_cmp nat_cmp entry.filter.value value ≡ Equal → ⊥) → has_value value entry ≡ false
not_value value entry other = by_cases (has_value value entry) refl where
  by_cases : (b : Bool) → has_value value entry ≡ b → has_value value entry ≡ false
  by_cases true e = absurd (other (cmp_same entry.filter.value value (sym (same_bytes value entry.filter.value e))))
  by_cases false e = e

pub value_found : (group : List Entry) (value : List ℕ) (at : ℕ) (d : Entry) → IsGroup group → at < length group
    → HoldsAt (λ entry. value_order value entry ≡ Equal) group at → Some (get_or group at d) ≡ find (has_value value) group
value_found group value at d is within here =
    let same = cmp_equal (get_or group at d).filter.value value (here d) in
    sym (find_there (has_value value) group d at within (bytes_same value (get_or group at d).filter.value (sym same))
    (λ k less. not_value value (get_or group k d)
    (λ e. let other = group_values group is k at d less within in
    let equal : slice_cmp nat_cmp (get_or group k d).filter.value (get_or group at d).filter.value ≡ Equal =
    subst (λ (v : List ℕ). slice_cmp nat_cmp (get_or group k d).filter.value v ≡ Equal) (sym same) e in
    let no : Less ≡ Equal = sym other ∙ equal in cc)))

reversed : (o p : Ordering) → o ≡ ordering_reverse p → p ≡ Less → is_lt o ≡ false
reversed o p e less = ap is_lt (e ∙ ap ordering_reverse less)

group_sorted : (group : List Entry) → IsGroup group → IsSortedBy (λ (a b : Entry). is_lt (slice_cmp nat_cmp a.filter.value b.filter.value)) group
group_sorted group is k d low high =
    let one = get_or group k d in let two = get_or group (k + 1) d in
    reversed (slice_cmp nat_cmp two.filter.value one.filter.value) (slice_cmp nat_cmp one.filter.value two.filter.value)
    (nat_list_cmp_total.antisymm two.filter.value one.filter.value) (group_values group is k (k + 1) d (omega arith) high)

pub value_absent : (group : List Entry) (value : List ℕ) (at : ℕ) → IsGroup group
    → IsBinarySearchResult (value_order value) group (Err at) → None ≡ find (has_value value) group
value_absent group value at is sides =
    let parts = sides (searchable_from_sorted nat_list_cmp_total (λ (e : Entry). e.filter.value) group value (group_sorted group is)) in
    sym (find_nowhere (has_value value) group (λ k d h.
    ⊎_elim
    (λ (below : k < at). not_value value (get_or group k d) (λ e. let less = parts.0 k d (omega arith) below in let no : Less ≡ Equal = sym less ∙ e in cc))
    (λ (past : at ≤ k). not_value value (get_or group k d) (λ e. let greater = parts.1 k d past h in let no : Greater ≡ Equal = sym greater ∙ e in cc))
    (cases_lt k at)))

-- in a group, taking a vector is having the value that its mask leaves of it
pub group_find : (group : List Entry) (vector value : List ℕ) (d : Entry) → IsGroup group → value ≡ and_bytes vector (mask_of (get_or group 0 d))
    → find (has_value value) group ≡ find (takes vector) group
unfolding passes
group_find group vector value d is e =
    find_agree (has_value value) (takes vector) group
    (λ k c h. ap (λ (v : List ℕ). bytes_eq v (get_or group k c).filter.value) (e ∙ ap (and_bytes vector) (sym (is.one_mask d k c h))))

pub next_is_group : (ranked : List Entry) → Rising comes_first ranked → IsGroup (take (run same_mask ranked) ranked)
next_is_group ranked rises = record {
  rising = rising_take comes_first (run same_mask ranked) ranked rises;
  one_mask = λ d. run_one_key mask_of has_mask by_mask ranked d;
}

-- ---- one group after another

-- the groups so far hold no entry that takes the vector
pub record Looking (vector : List ℕ) (ranked : List Entry) (ends : List ℕ) (from i : ℕ) : Type 0 where
  pub rising : Rising comes_first (drop from ranked)
  pub ends_left : drop i ends ≡ ends_from same_mask from (drop from ranked)
  pub within : from ≤ length ranked
  pub before : find (takes vector) ranked ≡ find (takes vector) (drop from ranked)

looking_next : {vector : List ℕ} {ranked : List Entry} {ends : List ℕ} {from i : ℕ} → Looking vector ranked ends from i → i < length ends
    → NextGroup same_mask from (drop from ranked) (get_or ends i 0) (drop (suc i) ends)
looking_next {ranked = ranked} {ends = ends} {from = from} {i = i} looks more =
    next_group same_mask from (drop from ranked) (get_or ends i 0) (drop (suc i) ends) (sym (drop-cons ends i 0 more) ∙ looks.ends_left)

pub record IsPart (ranked : List Entry) (from end : ℕ) : Type 0 where
  pub order : from ≤ end
  pub within : end ≤ length ranked
  pub some : 0 < length (take (end - from) (drop from ranked))
  pub group : IsGroup (take (end - from) (drop from ranked))

part_is : (ranked : List Entry) (from end : ℕ) → from ≤ length ranked → Rising comes_first (drop from ranked) → end ≡ from + run same_mask (drop from ranked)
    → take (end - from) (drop from ranked) ≡ take (run same_mask (drop from ranked)) (drop from ranked)
part_is ranked from end within rising e = let same : end - from ≡ run same_mask (drop from ranked) = omega arith in ap (λ n. take n (drop from ranked)) same

pub looking_part : {vector : List ℕ} {ranked : List Entry} {ends : List ℕ} {from i : ℕ} → Looking vector ranked ends from i → i < length ends
    → IsPart ranked from (get_or ends i 0)
looking_part {ranked = ranked} {ends = ends} {from = from} {i = i} looks more =
    let next = looking_next looks more in
    let rest = drop from ranked in
    let long : length rest ≡ length ranked - from = length-drop from ranked in
    let few = looks.within in
    let inside = next.within in let here = next.here in let some = next.some in
    let same = part_is ranked from (get_or ends i 0) few looks.rising here in
    let size : length (take (run same_mask rest) rest) ≡ run same_mask rest = length-take-le (run same_mask rest) rest inside in
    record {
      order = omega arith;
      within = omega arith;
      some = rw same (omega arith);
      group = subst (λ (l : List Entry). IsGroup l) (sym same) (next_is_group rest looks.rising);
    }

find_parts : (p : Entry → Bool) (n : ℕ) (xs : List Entry) → find p (take n xs) ≡ None → find p xs ≡ find p (drop n xs)
find_parts p n xs none = ap (find p) (sym (take-append-drop n xs)) ∙ find_none p (take n xs) (drop n xs) none

pub looking_on : {vector : List ℕ} {ranked : List Entry} {ends : List ℕ} {from i : ℕ} → Looking vector ranked ends from i → i < length ends
    → find (takes vector) (take (get_or ends i 0 - from) (drop from ranked)) ≡ None → Looking vector ranked ends (get_or ends i 0) (i + 1)
looking_on {vector = vector} {ranked = ranked} {ends = ends} {from = from} {i = i} looks more none =
    let next = looking_next looks more in
    let rest = drop from ranked in let n = run same_mask rest in
    let part = looking_part looks more in
    let same = part_is ranked from (get_or ends i 0) looks.within looks.rising next.here in
    let further : drop n rest ≡ drop (get_or ends i 0) ranked = drop-drop n from ranked ∙ ap (λ k. drop k ranked) (sym next.here) in
    let one : i + 1 ≡ suc i = omega arith in
    record {
      rising = subst (λ (l : List Entry). Rising comes_first l) further (rising_drop comes_first n rest looks.rising);
      ends_left = ap (λ k. drop k ends) one ∙ next.rest ∙ ap (ends_from same_mask (get_or ends i 0)) further;
      within = part.within;
      before = looks.before ∙ find_parts (takes vector) n rest (ap (find (takes vector)) (sym same) ∙ none) ∙ ap (find (takes vector)) further;
    }

pub looking_found : {vector : List ℕ} {ranked : List Entry} {ends : List ℕ} {from i : ℕ} → (one : Entry) → Looking vector ranked ends from i → i < length ends
    → find (takes vector) (take (get_or ends i 0 - from) (drop from ranked)) ≡ Some one → find (takes vector) ranked ≡ Some one
looking_found {vector = vector} {ranked = ranked} {ends = ends} {from = from} {i = i} one looks more some =
    let n = get_or ends i 0 - from in let rest = drop from ranked in
    looks.before ∙ ap (find (takes vector)) (sym (take-append-drop n rest)) ∙ find_some (takes vector) (take n rest) (drop n rest) one some

-- at a branch on what a group's search gave
pub found_here : {vector : List ℕ} {ranked : List Entry} {ends : List ℕ} {from i : ℕ} → (o : Option (Bor Entry)) → Looking vector ranked ends from i → i < length ends
    → option_copied o ≡ find (takes vector) (take (get_or ends i 0 - from) (drop from ranked)) → is_some o ≡ true → option_copied o ≡ find (takes vector) ranked
found_here None looks more e some = absurd (false≢true some)
found_here (Some one) looks more e some = sym (looking_found one.now looks more (sym e))

pub none_here : (o : Option (Bor Entry)) (group : List Entry) (vector : List ℕ) → option_copied o ≡ find (takes vector) group → is_some o ≡ false
    → find (takes vector) group ≡ None
none_here None group vector e none = sym e
none_here (Some one) group vector e none = absurd (false≢true (sym none))

no_ends : (from : ℕ) (xs : List Entry) → [] ≡ ends_from same_mask from xs → xs ≡ []
no_ends from [] e = refl
no_ends from (x ∷ xs) e =
    let no : [] ≡ (from + run same_mask (x ∷ xs)) ∷ ends_from same_mask (from + run same_mask (x ∷ xs)) (drop (run same_mask (x ∷ xs)) (x ∷ xs)) = e ∙ first_end same_mask from x xs in cc

pub looking_end : {vector : List ℕ} {ranked : List Entry} {ends : List ℕ} {from i : ℕ} → Looking vector ranked ends from i → length ends ≤ i
    → None ≡ find (takes vector) ranked
looking_end {vector = vector} {ranked = ranked} {ends = ends} {from = from} {i = i} looks past =
    let left = no_ends from (drop from ranked) (sym (drop_of_length-le ends past) ∙ looks.ends_left) in
    sym (looks.before ∙ ap (find (takes vector)) left)

pub looking_first : (vector : List ℕ) (ranked : List Entry) (ends : List ℕ) → Rising comes_first ranked → ends ≡ ends_from same_mask 0 ranked
    → Looking vector ranked ends 0 0
looking_first vector ranked ends rises e = record { rising = rises; ends_left = e; within = omega arith; before = refl }

-- ---- the group of a mask

pub record MaskGroup (ranked : List Entry) (ends : List ℕ) (at : ℕ) : Type 0 where
  pub order : start_of 0 ends at ≤ get_or ends at 0
  pub within : get_or ends at 0 ≤ length ranked
  pub group : filter (has_mask (get_or (map mask_of (lasts same_mask ranked)) at [])) ranked
      ≡ take (get_or ends at 0 - start_of 0 ends at) (drop (start_of 0 ends at) ranked)

pub mask_group_at : (ranked : List Entry) (ends : List ℕ) (at : ℕ) → Rising comes_first ranked → ends ≡ ends_from same_mask 0 ranked → at < length ends
    → MaskGroup ranked ends at
mask_group_at ranked ends at rises e within =
    subst (λ (l : List ℕ). MaskGroup ranked l at) (sym e)
    (let is = group_at comes_first mask_of has_mask by_mask mask_rises [] at 0 ranked rises (subst (λ (l : List ℕ). at < length l) e within) in
    record {
      order = is.rises;
      within = omega (arith, is.within);
      group = is.group ∙ (let e : start_of 0 (ends_from same_mask 0 ranked) at - 0 ≡ start_of 0 (ends_from same_mask 0 ranked) at = omega arith in
          ap (λ n. take (get_or (ends_from same_mask 0 ranked) at 0 - start_of 0 (ends_from same_mask 0 ranked) at) (drop n ranked)) e);
    })
