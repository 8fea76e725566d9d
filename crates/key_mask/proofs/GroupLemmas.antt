-- IPv6 addresses in their canonical spelling are what is printed of them.
use Rattle.std.proofs.Common.{◌≡◌, ℕ, zero, suc, ◌+◌, ◌*◌, ◌/◌, ◌%◌, ◌^◌, ◌<◌, ◌≤◌, ◌==◌, ◌&&◌, ◌||◌, Bool, true, false, not, nat_lt, List, [], ◌∷◌, ◌++◌, length, map, Option, None, Some, is_none, refl, ap, sym, subst, ◌∙◌, arith, append-nil, replicate, length-append, inl, inr, ◌-◌, ◌⊎◌, ⊎_elim, eq-eqb}
use Rattle.std.specs.Char.{digit_char}
use Rattle.std.specs.List.{fold, join_with_byte, list_all}
use Rattle.std.proofs.Math.Nat.{mul-le-mul_right, pow-le-pow_right, pow-suc}
use Rattle.std.proofs.lemmas.Bool.{and_parts, cases_Bool, cases_lt, false≢true, le-ltb, lt-ltb, ne_eqb}
use Rattle.std.proofs.lemmas.Bool.Decides.{nat_tests}
use Rattle.std.proofs.lemmas.List.Splits.{join_with_byte-slice_split}
use Rattle.std.proofs.lemmas.List.{length-replicate}
use Rattle.texts.specs.Cuts.{parts}
use Rattle.key_mask.specs.Ipv6.{double_from, eight_groups_at, eight_groups_in, full_in, group_in, group_text, groups_before, groups_value, hex_after, ipv6_in, ipv6_text}
use Rattle.key_mask.specs.Ipv6Grammar.{AreGroups, IsFull, IsShort}
use Rattle.key_mask.specs.Numbers.{hex_digit_in}
use Rattle.key_mask.specs.Spellings.{has_no_leading_zero, is_canonical_group, is_lower_case}
use Rattle.key_mask.proofs.Ipv6AgainLemmas.{AreSmall, count_back, group_all, small_back, texts_are}
use Rattle.key_mask.proofs.Ipv6GrammarLemmas.{full_parts, no_double, no_others_are_addresses, parts_of_join, pieces, some_bind}
use Rattle.key_mask.proofs.NumberLemmas.{digit_pass, each_below}
use Rattle.key_mask.proofs.HexLemmas.{IsDigit, digit_small, is_lower, lower_at, one_digit}

-- a digit that is no 0
digit_some : (c d : ℕ) → IsDigit c d → not (c == 48) ≡ true → 0 < d
digit_some c zero digit lead = absurd (let z : (c == 48) ≡ true = eq-eqb c 48 digit.is in let wrong : false ≡ true = rw z at lead in false≢true wrong)
digit_some c (suc d) digit lead = omega arith

first_digit : (a : ℕ) (xs : List ℕ) → has_no_leading_zero (a ∷ xs) ≡ true → 0 < length xs → not (a == 48) ≡ true
first_digit a [] lead some = absurd (omega arith)
first_digit a (x ∷ xs) lead some = let long : (length (a ∷ x ∷ xs) == 1) ≡ false = ne_eqb (length (a ∷ x ∷ xs)) 1 (λ e. omega arith) in rw long at lead

one_text : (p : ℕ) → p < 16 → digit_char p ∷ [] ≡ group_text p
unfolding group_text
one_text p lp = rw (lt-ltb p 16 lp) refl

two_text : (p q : ℕ) → 0 < p → p < 16 → q < 16 → digit_char p ∷ digit_char q ∷ [] ≡ group_text (p * 16 + q)
unfolding group_text
two_text p q some lp lq =
    let g : ℕ = p * 16 + q in
    let d1 : p ≡ g / 16 = omega arith in
    let d2 : q ≡ g % 16 = omega arith in
    rw (le-ltb g 16 (omega arith), lt-ltb g 256 (omega arith)) (λ i. digit_char (d1 i) ∷ digit_char (d2 i) ∷ [])

three_text : (p q r : ℕ) → 0 < p → p < 16 → q < 16 → r < 16 → digit_char p ∷ digit_char q ∷ digit_char r ∷ [] ≡ group_text ((p * 16 + q) * 16 + r)
unfolding group_text
three_text p q r some lp lq lr =
    let g : ℕ = (p * 16 + q) * 16 + r in
    let d1 : p ≡ g / 16 / 16 = omega arith in
    let d2 : q ≡ g / 16 % 16 = omega arith in
    let d3 : r ≡ g % 16 = omega arith in
    rw (le-ltb g 16 (omega arith), le-ltb g 256 (omega arith), lt-ltb g 4096 (omega arith)) (λ i. digit_char (d1 i) ∷ digit_char (d2 i) ∷ digit_char (d3 i) ∷ [])

four_text : (p q r s : ℕ) → 0 < p → p < 16 → q < 16 → r < 16 → s < 16
    → digit_char p ∷ digit_char q ∷ digit_char r ∷ digit_char s ∷ [] ≡ group_text (((p * 16 + q) * 16 + r) * 16 + s)
unfolding group_text
four_text p q r s some lp lq lr ls =
    let g : ℕ = ((p * 16 + q) * 16 + r) * 16 + s in
    let d1 : p ≡ g / 16 / 16 / 16 = omega arith in
    let d2 : q ≡ g / 16 / 16 % 16 = omega arith in
    let d3 : r ≡ g / 16 % 16 = omega arith in
    let d4 : s ≡ g % 16 = omega arith in
    rw (le-ltb g 16 (omega arith), le-ltb g 256 (omega arith), le-ltb g 4096 (omega arith))
    (λ i. digit_char (d1 i) ∷ digit_char (d2 i) ∷ digit_char (d3 i) ∷ digit_char (d4 i) ∷ [])

-- the digits of a group, one by one
record IsDigits (n : ℕ) (c : ℕ) (cs : List ℕ) (g : ℕ) : Type 0 where
  d : ℕ
  digit : hex_digit_in c ≡ Some d
  rest : hex_after (n * 16 + d) cs ≡ Some g

digit_first : (n c : ℕ) (cs : List ℕ) (g : ℕ) → hex_after n (c ∷ cs) ≡ Some g → IsDigits n c cs g
digit_first n c cs g h =
    let f : ℕ → Option ℕ = λ d. hex_after (n * 16 + d) cs in
    let step = some_bind (hex_digit_in c) f g h in
    record { d = step.0; digit = step.1; rest = step.2 }

group_cases : (text : List ℕ) (g : ℕ) → group_in text ≡ Some g → (0 < length text) × (length text ≤ 4) × (hex_after 0 text ≡ Some g)
unfolding group_in
group_cases text g h =
    ⊎_elim
    (λ (e : (length text == 0 || nat_lt 4 (length text)) ≡ true). let none : None ≡ Some g = rw e at h in absurd (let wrong : ⊥ = cc in wrong))
    (λ (e : (length text == 0 || nat_lt 4 (length text)) ≡ false).
    let sides = or_parts (length text == 0) (nat_lt 4 (length text)) e in
    let one : (length text == 0) ≡ false = sides.0 in
    let two : nat_lt 4 (length text) ≡ false = sides.1 in
    (grind (arith, nat_tests, one), grind (arith, nat_tests, two), rw e at h))
    (cases_Bool (length text == 0 || nat_lt 4 (length text))) where
      or_parts : (a b : Bool) → (a || b) ≡ false → (a ≡ false) × (b ≡ false)
      or_parts true b e = absurd (false≢true (sym e))
      or_parts false b e = (refl, e)

group_digits : (text : List ℕ) (g : ℕ) → length text ≤ 4 → hex_after 0 text ≡ Some g → 0 < length text
    → has_no_leading_zero text ≡ true → is_lower_case text ≡ true → text ≡ group_text g
group_digits [] g few h some lead lower = absurd (omega arith)
group_digits (a ∷ []) g few h some lead lower =
    let one = digit_first 0 a [] g h in
    let p = one_digit a one.d one.digit (lower_at (a ∷ []) lower 0 (omega arith)) in
    let last : 0 * 16 + one.d ≡ g = cc one.rest in
    let whole : one.d ≡ g = omega (arith, last) in
    (λ i. p.is i ∷ []) ∙ one_text one.d p.small ∙ ap group_text whole
group_digits (a ∷ b ∷ []) g few h some lead lower =
    let one = digit_first 0 a (b ∷ []) g h in
    let two = digit_first (0 * 16 + one.d) b [] g one.rest in
    let p = one_digit a one.d one.digit (lower_at (a ∷ b ∷ []) lower 0 (omega arith)) in
    let q = one_digit b two.d two.digit (lower_at (a ∷ b ∷ []) lower 1 (omega arith)) in
    let begun = digit_some a one.d p (first_digit a (b ∷ []) lead (omega arith)) in
    let last : (0 * 16 + one.d) * 16 + two.d ≡ g = cc two.rest in
    let whole : one.d * 16 + two.d ≡ g = omega (arith, last) in
    (λ i. p.is i ∷ q.is i ∷ []) ∙ two_text one.d two.d begun p.small q.small ∙ ap group_text whole
group_digits (a ∷ b ∷ c ∷ []) g few h some lead lower =
    let one = digit_first 0 a (b ∷ c ∷ []) g h in
    let two = digit_first (0 * 16 + one.d) b (c ∷ []) g one.rest in
    let three = digit_first ((0 * 16 + one.d) * 16 + two.d) c [] g two.rest in
    let p = one_digit a one.d one.digit (lower_at (a ∷ b ∷ c ∷ []) lower 0 (omega arith)) in
    let q = one_digit b two.d two.digit (lower_at (a ∷ b ∷ c ∷ []) lower 1 (omega arith)) in
    let r = one_digit c three.d three.digit (lower_at (a ∷ b ∷ c ∷ []) lower 2 (omega arith)) in
    let begun = digit_some a one.d p (first_digit a (b ∷ c ∷ []) lead (omega arith)) in
    let last : ((0 * 16 + one.d) * 16 + two.d) * 16 + three.d ≡ g = cc three.rest in
    let whole : (one.d * 16 + two.d) * 16 + three.d ≡ g = omega (arith, last) in
    (λ i. p.is i ∷ q.is i ∷ r.is i ∷ []) ∙ three_text one.d two.d three.d begun p.small q.small r.small ∙ ap group_text whole
group_digits (a ∷ b ∷ c ∷ d ∷ []) g few h some lead lower =
    let one = digit_first 0 a (b ∷ c ∷ d ∷ []) g h in
    let two = digit_first (0 * 16 + one.d) b (c ∷ d ∷ []) g one.rest in
    let three = digit_first ((0 * 16 + one.d) * 16 + two.d) c (d ∷ []) g two.rest in
    let four = digit_first (((0 * 16 + one.d) * 16 + two.d) * 16 + three.d) d [] g three.rest in
    let p = one_digit a one.d one.digit (lower_at (a ∷ b ∷ c ∷ d ∷ []) lower 0 (omega arith)) in
    let q = one_digit b two.d two.digit (lower_at (a ∷ b ∷ c ∷ d ∷ []) lower 1 (omega arith)) in
    let r = one_digit c three.d three.digit (lower_at (a ∷ b ∷ c ∷ d ∷ []) lower 2 (omega arith)) in
    let s = one_digit d four.d four.digit (lower_at (a ∷ b ∷ c ∷ d ∷ []) lower 3 (omega arith)) in
    let begun = digit_some a one.d p (first_digit a (b ∷ c ∷ d ∷ []) lead (omega arith)) in
    let last : (((0 * 16 + one.d) * 16 + two.d) * 16 + three.d) * 16 + four.d ≡ g = cc four.rest in
    let whole : ((one.d * 16 + two.d) * 16 + three.d) * 16 + four.d ≡ g = omega (arith, last) in
    (λ i. p.is i ∷ q.is i ∷ r.is i ∷ s.is i ∷ []) ∙ four_text one.d two.d three.d four.d begun p.small q.small r.small s.small ∙ ap group_text whole
group_digits (a ∷ b ∷ c ∷ d ∷ e ∷ more) g few h some lead lower = absurd (omega arith)

group_is : (text : List ℕ) (g : ℕ) → group_in text ≡ Some g → is_canonical_group text ≡ true → text ≡ group_text g
group_is text g h canonical =
    let both = and_parts (has_no_leading_zero text) (is_lower_case text) canonical in
    let cases = group_cases text g h in
    group_digits text g cases.1 cases.2 cases.0 both.0 both.1

after_small : (n : ℕ) (text : List ℕ) (g : ℕ) → hex_after n text ≡ Some g → g < (n + 1) * 16 ^ length text
after_small n [] g h = let same : n ≡ g = cc h in omega (arith, same)
after_small n (c ∷ cs) g h =
    let one = digit_first n c cs g h in
    let small = digit_small c one.d one.digit in
    let rest = after_small (n * 16 + one.d) cs g one.rest in
    let more : (n * 16 + one.d + 1) * 16 ^ length cs ≤ (n + 1) * 16 * 16 ^ length cs = mul-le-mul_right (16 ^ length cs) (omega (arith, small)) in
    rw (pow-suc 16 (length cs)) (omega (arith, rest, more))

group_small : (text : List ℕ) (g : ℕ) → group_in text ≡ Some g → g < 65536
group_small text g h =
    let cases = group_cases text g h in
    let small = after_small 0 text g cases.2 in
    let most : 16 ^ length text ≤ 16 ^ 4 = pow-le-pow_right {n = 16} (omega arith) {i = length text} {j = 4} cases.1 in
    omega (arith, small, most)

groups_small : (texts : List (List ℕ)) (gs : List ℕ) → AreGroups texts gs → AreSmall gs
groups_small [] [] h = tt
groups_small [] (g ∷ gs) h = absurd h
groups_small (text ∷ texts) [] h = absurd h
groups_small (text ∷ texts) (g ∷ gs) h = (group_small text g h.0, groups_small texts gs h.1)

groups_are : (texts : List (List ℕ)) (gs : List ℕ) → AreGroups texts gs → list_all is_canonical_group texts ≡ true → texts ≡ map group_text gs
groups_are [] [] h canonical = refl
groups_are [] (g ∷ gs) h canonical = absurd h
groups_are (text ∷ texts) [] h canonical = absurd h
groups_are (text ∷ texts) (g ∷ gs) h canonical =
    let both = and_parts (is_canonical_group text) (list_all is_canonical_group texts) canonical in
    λ i. group_is text g h.0 both.0 i ∷ groups_are texts gs h.1 both.1 i

-- groups are those of their number
back_from : (m : ℕ) (gs behind : List ℕ) (k : ℕ) → AreSmall gs
    → groups_before (k + length gs) (fold (λ n group. n * 65536 + group) m gs) behind ≡ groups_before k m (gs ++ behind)
unfolding groups_before
back_from m [] behind k small = let e : k + 0 ≡ k = omega arith in rw e refl
back_from m (g ∷ gs) behind k small =
    let e : k + length (g ∷ gs) ≡ suc k + length gs = omega arith in
    let front : (m * 65536 + g) / 65536 ≡ m = omega (arith, small.0) in
    let last : (m * 65536 + g) % 65536 ≡ g = omega (arith, small.0) in
    rw e (back_from (m * 65536 + g) gs behind (suc k) small.1 ∙ (λ i. groups_before k (front i) (last i ∷ (gs ++ behind))))

groups_back : (gs : List ℕ) → AreSmall gs → length gs ≡ 8 → groups_before 8 (groups_value gs) [] ≡ gs
unfolding groups_before
groups_back gs small long = let e : 0 + length gs ≡ 8 = omega (arith, long) in subst (λ n. groups_before n (groups_value gs) [] ≡ gs ++ []) e (back_from 0 gs [] 0 small) ∙ append-nil gs

value_from : (m : ℕ) (gs : List ℕ) → AreSmall gs → fold (λ n group. n * 65536 + group) m gs < (m + 1) * 65536 ^ length gs
value_from m [] small = omega arith
value_from m (g ∷ gs) small =
    let rest = value_from (m * 65536 + g) gs small.1 in
    let more : (m * 65536 + g + 1) * 65536 ^ length gs ≤ (m + 1) * 65536 * 65536 ^ length gs = mul-le-mul_right (65536 ^ length gs) (omega (arith, small.0)) in
    rw (pow-suc 65536 (length gs)) (omega (arith, rest, more))

-- what an address that is read is
record IsIpv6 (text : List ℕ) (n : ℕ) : Type 0 where
  groups : List ℕ
  eight : eight_groups_in text ≡ Some groups
  value : groups_value groups ≡ n

ipv6_parts : (text : List ℕ) (n : ℕ) → ipv6_in text ≡ Some n → IsIpv6 text n
unfolding ipv6_in
ipv6_parts text n h =
    let f : List ℕ → Option ℕ = λ groups. Some (groups_value groups) in
    let step = some_bind (eight_groups_in text) f n h in
    record { groups = step.0; eight = step.1; value = cc step.2 }

pub ipv6_is : (text : List ℕ) (n : ℕ) → ipv6_in text ≡ Some n → (list_all is_canonical_group (parts 58 text) && is_none (double_from 0 text)) ≡ true → text ≡ ipv6_text n
unfolding eight_groups_in ipv6_text
ipv6_is text n h canonical =
    let is = ipv6_parts text n h in
    let both = and_parts (list_all is_canonical_group (parts 58 text)) (is_none (double_from 0 text)) canonical in
    let full : full_in text ≡ Some is.groups = no_place (double_from 0 text) both.1 is.groups is.eight in
    let read = full_parts text is.groups full in
    let small = groups_small (parts 58 text) is.groups read.0 in
    let same : groups_before 8 n [] ≡ is.groups = ap (λ m. groups_before 8 m []) (sym is.value) ∙ groups_back is.groups small read.1 in
    sym (join_with_byte-slice_split 58 text) ∙ ap (join_with_byte 58) (groups_are (parts 58 text) is.groups read.0 both.0 ∙ ap (map group_text) (sym same)) where
      no_place : (o : Option ℕ) → is_none o ≡ true → (gs : List ℕ) → eight_groups_at text o ≡ Some gs → full_in text ≡ Some gs
      no_place None e gs h = h
      no_place (Some at) e gs h = absurd (false≢true e)

append_small : (xs ys : List ℕ) → AreSmall xs → AreSmall ys → AreSmall (xs ++ ys)
append_small [] ys p q = q
append_small (x ∷ xs) ys p q = (p.0, append_small xs ys p.1 q)

zeros_small : (n : ℕ) → AreSmall (replicate {A = ℕ} n 0)
zeros_small zero = tt
zeros_small (suc n) = (omega arith, zeros_small n)

groups_read : (text gs : List ℕ) → eight_groups_in text ≡ Some gs → AreSmall gs × (length gs ≡ 8)
groups_read text gs h = cases (no_others_are_addresses text gs h) where
  cases : IsFull text gs ⊎ IsShort text gs → AreSmall gs × (length gs ≡ 8)
  cases (inl full) = (groups_small full.texts gs full.each, full.eight)
  cases (inr short) =
      let nil : ℕ = 0 in
      let zeros : List ℕ = replicate (8 - length short.left - length short.right) nil in
      let all : AreSmall (short.left ++ (zeros ++ short.right)) =
      append_small short.left (zeros ++ short.right) (groups_small short.before short.left short.each_left)
      (append_small zeros short.right (zeros_small (8 - length short.left - length short.right)) (groups_small short.behind short.right short.each_right)) in (
        subst AreSmall (sym short.groups_are) all,
        ap length short.groups_are
            ∙ omega (arith, short.few, length-append short.left (zeros ++ short.right), length-append zeros short.right, length-replicate {A = ℕ} (8 - length short.left - length short.right) nil),
      )

pub ipv6_small : (text : List ℕ) (n : ℕ) → ipv6_in text ≡ Some n → n < 2 ^ 128
ipv6_small text n h =
    let is = ipv6_parts text n h in
    let read = groups_read text is.groups is.eight in
    let small = value_from 0 is.groups read.0 in
    let count : 65536 ^ length is.groups ≡ 2 ^ 128 = ap (λ k. 65536 ^ k) read.1 in
    omega (arith, is.value, small, count)

-- ---- what is printed is in its canonical spelling

first_big : (d : ℕ) (xs : List ℕ) → 0 < d → d < 16 → has_no_leading_zero (digit_char d ∷ xs) ≡ true
first_big d xs some small =
    let other : not (digit_char d == 48) ≡ true = both_below d some (each_below (λ k. k == 0 || not (digit_char k == 48)) 16 refl d small) in
    rw_or (length (digit_char d ∷ xs) == 1) (not (digit_char d == 48)) other where
      rw_or : (a b : Bool) → b ≡ true → (a || b) ≡ true
      rw_or true b e = refl
      rw_or false b e = e

      both_below : (d : ℕ) → 0 < d → (d == 0 || not (digit_char d == 48)) ≡ true → not (digit_char d == 48) ≡ true
      both_below d some e = let ne : (d == 0) ≡ false = ne_eqb d 0 (λ z. omega (arith, z, some)) in rw ne at e

group_lead : (g : ℕ) → g < 65536 → has_no_leading_zero (group_text g) ≡ true
unfolding group_text
group_lead g h =
    elim (cases_lt g 16) [
      | inl one ↦ rw (lt-ltb g 16 one) refl
      | inr ten ↦ elim (cases_lt g 256) [
        | inl two ↦ rw (le-ltb g 16 ten, lt-ltb g 256 two) (first_big (g / 16) (digit_char (g % 16) ∷ []) (omega arith) (omega arith))
        | inr hundred ↦ elim (cases_lt g 4096) [
          | inl three ↦ rw (le-ltb g 16 ten, le-ltb g 256 hundred, lt-ltb g 4096 three)
              (first_big (g / 16 / 16) (digit_char (g / 16 % 16) ∷ digit_char (g % 16) ∷ []) (omega arith) (omega arith))
          | inr thousand ↦ rw (le-ltb g 16 ten, le-ltb g 256 hundred, le-ltb g 4096 thousand)
              (first_big (g / 16 / 16 / 16) (digit_char (g / 16 / 16 % 16) ∷ digit_char (g / 16 % 16) ∷ digit_char (g % 16) ∷ []) (omega arith) (omega arith))
        ]
      ]
    ]

group_lower : (g : ℕ) → g < 65536 → is_lower_case (group_text g) ≡ true
group_lower g h = group_all is_lower (digit_pass is_lower refl) g h

groups_canonical : (gs : List ℕ) → AreSmall gs → list_all is_canonical_group (map group_text gs) ≡ true
groups_canonical [] small = refl
groups_canonical (g ∷ gs) small = rw (group_lead g small.0, group_lower g small.0, groups_canonical gs small.1) refl

joined_canonical : (gs : List ℕ) → AreSmall gs → 0 < length gs
    → (list_all is_canonical_group (parts 58 (join_with_byte 58 (map group_text gs))) && is_none (double_from 0 (join_with_byte 58 (map group_text gs)))) ≡ true
joined_canonical [] small some = absurd (omega arith)
joined_canonical (g ∷ gs) small some =
    let all = pieces (map group_text (g ∷ gs)) (g ∷ gs) (texts_are (g ∷ gs) small) in
    rw (parts_of_join (group_text g) (map group_text gs) all, groups_canonical (g ∷ gs) small, no_double (group_text g) (map group_text gs) all) refl

pub ipv6_canonical : (n : ℕ) → (list_all is_canonical_group (parts 58 (ipv6_text n)) && is_none (double_from 0 (ipv6_text n))) ≡ true
unfolding ipv6_text
ipv6_canonical n = joined_canonical (groups_before 8 n []) (small_back 8 n [] tt) (omega (arith, count_back 8 n []))
