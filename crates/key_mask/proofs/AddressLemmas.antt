-- IPv4 addresses in their canonical spelling are what is printed of them.
use Rattle.std.proofs.Common.{◌≡◌, ℕ, ◌+◌, ◌*◌, ◌/◌, ◌%◌, ◌^◌, ◌<◌, true, not, List, [], ◌∷◌, ◌++◌, map, Option, Some, refl, ap, sym, ◌∙◌, arith}
use Rattle.std.specs.Fmt.{decimal}
use Rattle.std.specs.Int.{bytes_high_first}
use Rattle.std.specs.List.{join_with_byte, list_all}
use Rattle.std.proofs.lemmas.Bool.{and_parts}
use Rattle.std.proofs.lemmas.Bool.Decides.{nat_tests}
use Rattle.texts.specs.Cuts.{front, back, parts, tail_of}
use Rattle.texts.proofs.CutLemmas.{joined, parts_behind, parts_first, split_last, split_more}
use Rattle.key_mask.specs.Numbers.{◌>>=◌, address_in, is_dot, number_in}
use Rattle.key_mask.specs.Spellings.{address_text, has_no_leading_zero}
use Rattle.key_mask.proofs.Ipv6GrammarLemmas.{some_bind}
use Rattle.key_mask.proofs.NumberLemmas.{decimal_lead, decimal_pass, digits_pass, number_read, number_text}
use Rattle.key_mask.proofs.VectorLemmas.{AreBytes, bytes_back}

dot_joined : (text rest : List ℕ) → back is_dot text ≡ Some rest → text ≡ front is_dot text ++ 46 ∷ rest
dot_joined text rest h = joined 46 text ∙ ap (λ behind. front is_dot text ++ tail_of 46 behind) h

-- what the four numbers of an address are
record IsAddress (text : List ℕ) (n : ℕ) : Type 0 where
  a : ℕ
  b : ℕ
  c : ℕ
  d : ℕ
  one : List ℕ
  two : List ℕ
  three : List ℕ
  first : number_in 3 255 (front is_dot text) ≡ Some a
  behind_first : back is_dot text ≡ Some one
  second : number_in 3 255 (front is_dot one) ≡ Some b
  behind_second : back is_dot one ≡ Some two
  third : number_in 3 255 (front is_dot two) ≡ Some c
  behind_third : back is_dot two ≡ Some three
  fourth : number_in 3 255 three ≡ Some d
  value : ((a * 256 + b) * 256 + c) * 256 + d ≡ n

address_parts : (text : List ℕ) (n : ℕ) → address_in text ≡ Some n → IsAddress text n
unfolding address_in
address_parts text n h =
    let f7 : ℕ → ℕ → ℕ → ℕ → Option ℕ = λ a b c d. Some (((a * 256 + b) * 256 + c) * 256 + d) in
    let f6 : ℕ → ℕ → ℕ → List ℕ → Option ℕ = λ a b c three. number_in 3 255 three >>= f7 a b c in
    let f5 : ℕ → ℕ → List ℕ → ℕ → Option ℕ = λ a b two c. back is_dot two >>= f6 a b c in
    let f4 : ℕ → ℕ → List ℕ → Option ℕ = λ a b two. number_in 3 255 (front is_dot two) >>= f5 a b two in
    let f3 : ℕ → List ℕ → ℕ → Option ℕ = λ a one b. back is_dot one >>= f4 a b in
    let f2 : ℕ → List ℕ → Option ℕ = λ a one. number_in 3 255 (front is_dot one) >>= f3 a one in
    let f1 : ℕ → Option ℕ = λ a. back is_dot text >>= f2 a in
    let s1 = some_bind (number_in 3 255 (front is_dot text)) f1 n h in
    let s2 = some_bind (back is_dot text) (f2 s1.0) n s1.2 in
    let s3 = some_bind (number_in 3 255 (front is_dot s2.0)) (f3 s1.0 s2.0) n s2.2 in
    let s4 = some_bind (back is_dot s2.0) (f4 s1.0 s3.0) n s3.2 in
    let s5 = some_bind (number_in 3 255 (front is_dot s4.0)) (f5 s1.0 s3.0 s4.0) n s4.2 in
    let s6 = some_bind (back is_dot s4.0) (f6 s1.0 s3.0 s5.0) n s5.2 in
    let s7 = some_bind (number_in 3 255 s6.0) (f7 s1.0 s3.0 s5.0) n s6.2 in
    record {
      a = s1.0;
      b = s3.0;
      c = s5.0;
      d = s7.0;
      one = s2.0;
      two = s4.0;
      three = s6.0;
      first = s1.1;
      behind_first = s2.1;
      second = s3.1;
      behind_second = s4.1;
      third = s5.1;
      behind_third = s6.1;
      fourth = s7.1;
      value = cc s7.2;
    }

-- the last number has no dot
last_part : (text : List ℕ) (n : ℕ) → number_in 3 255 text ≡ Some n → parts 46 text ≡ text ∷ []
last_part text n h =
    let read = number_read 3 255 n text h in
    split_last is_dot text (digits_pass (λ c. not (is_dot c)) (λ c low high. grind (arith, nat_tests)) text read.digits)

pub address_small : (text : List ℕ) (n : ℕ) → address_in text ≡ Some n → n < 2 ^ 32
address_small text n h =
    let is = address_parts text n h in
    let a = number_read 3 255 is.a (front is_dot text) is.first in
    let b = number_read 3 255 is.b (front is_dot is.one) is.second in
    let c = number_read 3 255 is.c (front is_dot is.two) is.third in
    let d = number_read 3 255 is.d is.three is.fourth in
    omega (arith, is.value, a.within, b.within, c.within, d.within)

pub address_is : (text : List ℕ) (n : ℕ) → address_in text ≡ Some n → list_all has_no_leading_zero (parts 46 text) ≡ true → text ≡ address_text n
unfolding address_text
address_is text n h canonical =
    let is = address_parts text n h in
    let a = number_read 3 255 is.a (front is_dot text) is.first in
    let b = number_read 3 255 is.b (front is_dot is.one) is.second in
    let c = number_read 3 255 is.c (front is_dot is.two) is.third in
    let d = number_read 3 255 is.d is.three is.fourth in
    let cut : parts 46 text ≡ front is_dot text ∷ front is_dot is.one ∷ front is_dot is.two ∷ is.three ∷ [] =
    parts_first 46 text ∙ ap (λ o. front is_dot text ∷ parts_behind 46 o) is.behind_first
    ∙ ap (λ xs. front is_dot text ∷ xs) (parts_first 46 is.one ∙ ap (λ o. front is_dot is.one ∷ parts_behind 46 o) is.behind_second
    ∙ ap (λ xs. front is_dot is.one ∷ xs) (parts_first 46 is.two ∙ ap (λ o. front is_dot is.two ∷ parts_behind 46 o) is.behind_third
    ∙ ap (λ xs. front is_dot is.two ∷ xs) (last_part is.three is.d is.fourth))) in
    let whole : list_all has_no_leading_zero (front is_dot text ∷ front is_dot is.one ∷ front is_dot is.two ∷ is.three ∷ []) ≡ true = rw cut at canonical in
    let l1 = and_parts (has_no_leading_zero (front is_dot text)) (list_all has_no_leading_zero (front is_dot is.one ∷ front is_dot is.two ∷ is.three ∷ [])) whole in
    let l2 = and_parts (has_no_leading_zero (front is_dot is.one)) (list_all has_no_leading_zero (front is_dot is.two ∷ is.three ∷ [])) l1.1 in
    let l3 = and_parts (has_no_leading_zero (front is_dot is.two)) (list_all has_no_leading_zero (is.three ∷ [])) l2.1 in
    let l4 = and_parts (has_no_leading_zero is.three) true l3.1 in
    let t1 = number_text 3 255 is.a (front is_dot text) (omega arith) is.first l1.0 in
    let t2 = number_text 3 255 is.b (front is_dot is.one) (omega arith) is.second l2.0 in
    let t3 = number_text 3 255 is.c (front is_dot is.two) (omega arith) is.third l3.0 in
    let t4 = number_text 3 255 is.d is.three (omega arith) is.fourth l4.0 in
    let bytes : List ℕ = is.a ∷ is.b ∷ is.c ∷ is.d ∷ [] in
    let small : AreBytes bytes = (omega (arith, a.within), (omega (arith, b.within), (omega (arith, c.within), (omega (arith, d.within), tt)))) in
    let number : (((0 * 256 + is.a) * 256 + is.b) * 256 + is.c) * 256 + is.d ≡ n = omega (arith, is.value) in
    let again : bytes_high_first 4 n ≡ bytes = ap (bytes_high_first 4) (sym number) ∙ bytes_back bytes small in
    let joined : text ≡ decimal is.a ++ 46 ∷ (decimal is.b ++ 46 ∷ (decimal is.c ++ 46 ∷ decimal is.d)) =
    dot_joined text is.one is.behind_first
    ∙ (λ i. t1 i ++ 46 ∷ (dot_joined is.one is.two is.behind_second i))
    ∙ (λ i. decimal is.a ++ 46 ∷ (t2 i ++ 46 ∷ (dot_joined is.two is.three is.behind_third i)))
    ∙ (λ i. decimal is.a ++ 46 ∷ (decimal is.b ++ 46 ∷ (t3 i ++ 46 ∷ t4 i))) in
    joined ∙ ap (λ bs. join_with_byte 46 (map decimal bs)) (sym again)

dotted_lead : (a b c d : ℕ) → a < 256 → b < 256 → c < 256 → d < 256
    → list_all has_no_leading_zero (parts 46 (decimal a ++ 46 ∷ (decimal b ++ 46 ∷ (decimal c ++ 46 ∷ decimal d)))) ≡ true
dotted_lead a b c d la lb lc ld =
    let dotless : (n : ℕ) → n < 256 → list_all (λ c. not (is_dot c)) (decimal n) ≡ true = λ n h. decimal_pass (λ c. not (is_dot c)) (λ c low high. grind (arith, nat_tests)) n (omega arith) in
    let cut : parts 46 (decimal a ++ 46 ∷ (decimal b ++ 46 ∷ (decimal c ++ 46 ∷ decimal d))) ≡ decimal a ∷ decimal b ∷ decimal c ∷ decimal d ∷ [] =
    split_more is_dot (decimal a) 46 (decimal b ++ 46 ∷ (decimal c ++ 46 ∷ decimal d)) (dotless a la) refl
    ∙ ap (λ xs. decimal a ∷ xs) (split_more is_dot (decimal b) 46 (decimal c ++ 46 ∷ decimal d) (dotless b lb) refl
    ∙ ap (λ xs. decimal b ∷ xs) (split_more is_dot (decimal c) 46 (decimal d) (dotless c lc) refl
    ∙ ap (λ xs. decimal c ∷ xs) (split_last is_dot (decimal d) (dotless d ld)))) in
    rw (cut, decimal_lead a (omega arith), decimal_lead b (omega arith), decimal_lead c (omega arith), decimal_lead d (omega arith)) refl

pub address_canonical : (n : ℕ) → list_all has_no_leading_zero (parts 46 (address_text n)) ≡ true
unfolding address_text
address_canonical n =
    dotted_lead (n / 16777216 % 256) (n / 65536 % 256) (n / 256 % 256) (n % 256) (omega arith) (omega arith) (omega arith) (omega arith)
