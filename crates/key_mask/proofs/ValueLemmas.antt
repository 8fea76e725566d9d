-- The values of fields, printed and read.
use Rattle.std.proofs.Common.{◌≡◌, ℕ, ◌+◌, ◌*◌, ◌/◌, ◌%◌, ◌^◌, ◌<◌, ◌≤◌, Bool, true, not, List, ◌∷◌, ◌++◌, Some, refl, ap, ◌∙◌, arith}
use Rattle.std.specs.Char.{digit_char}
use Rattle.std.specs.Fmt.{decimal}
use Rattle.std.specs.List.{list_all}
use Rattle.std.proofs.lemmas.Bool.Decides.{nat_tests}
use Rattle.std.proofs.lemmas.List.Folds.{list_all-append}
use Rattle.texts.proofs.CutLemmas.{cut}
use Rattle.key_mask.specs.declared.fields.Field.{Field}
use Rattle.key_mask.specs.declared.fields.ValueKind.{ValueKind}
use Rattle.key_mask.specs.declared.fields.ValueKind.TheVariants.{Ipv4, Port, Byte, Hex, Ipv6}
use Rattle.key_mask.specs.Fields.{kind_of, width_of}
use Rattle.key_mask.specs.Numbers.{address_in, hex_in, is_dot, number_in}
use Rattle.key_mask.specs.Spellings.{address_text, hex_text, kind_text, kind_value_in, value_in, value_text}
use Rattle.key_mask.proofs.FieldLemmas.{kind_fits, kind_width}
use Rattle.key_mask.proofs.Ipv6AgainLemmas.{ipv6_again, ipv6_all}
use Rattle.key_mask.proofs.NumberLemmas.{decimal_pass, digit_again, number_again}
use Rattle.key_mask.proofs.VectorLemmas.{value_back}

dotless : (n : ℕ) → n < 256 → list_all (λ c. not (is_dot c)) (decimal n) ≡ true
dotless n small = decimal_pass (λ c. not (is_dot c)) (λ c low high. grind (arith, nat_tests)) n (omega arith)

byte_again : (n : ℕ) → n < 256 → number_in 3 255 (decimal n) ≡ Some n
byte_again n small = number_again 3 255 n (omega arith) (omega arith) (omega arith) (omega arith)

dotted_again : (a b c d : ℕ) → a < 256 → b < 256 → c < 256 → d < 256
    → address_in (decimal a ++ 46 ∷ (decimal b ++ 46 ∷ (decimal c ++ 46 ∷ decimal d))) ≡ Some (((a * 256 + b) * 256 + c) * 256 + d)
unfolding address_in
dotted_again a b c d la lb lc ld =
    let one = cut is_dot (decimal a) 46 (decimal b ++ 46 ∷ (decimal c ++ 46 ∷ decimal d)) (dotless a la) refl in
    let two = cut is_dot (decimal b) 46 (decimal c ++ 46 ∷ decimal d) (dotless b lb) refl in
    let three = cut is_dot (decimal c) 46 (decimal d) (dotless c lc) refl in
    rw (one.0, one.1, byte_again a la, two.0, two.1, byte_again b lb, three.0, three.1, byte_again c lc, byte_again d ld) refl

address_again : (n : ℕ) → n < 2 ^ 32 → address_in (address_text n) ≡ Some n
unfolding address_text
address_again n small =
    let a : ℕ = n / 16777216 % 256 in
    let b : ℕ = n / 65536 % 256 in
    let c : ℕ = n / 256 % 256 in
    let d : ℕ = n % 256 in
    let back : ((a * 256 + b) * 256 + c) * 256 + d ≡ n = omega (arith, value_back 4 n (omega arith)) in
    dotted_again a b c d (omega arith) (omega arith) (omega arith) (omega arith) ∙ ap (λ m. Some m) back

hex_again : (n : ℕ) → n < 65536 → hex_in (hex_text n) ≡ Some n
unfolding hex_in hex_text
hex_again n small =
    rw (digit_again (n / 16 / 16 / 16) (omega arith), digit_again (n / 16 / 16 % 16) (omega arith), digit_again (n / 16 % 16) (omega arith), digit_again (n % 16) (omega arith))
    (ap (λ m. Some m) (omega arith))

kind_again : (kind : ValueKind) (n : ℕ) → n < 2 ^ kind_width kind → kind_value_in kind (kind_text kind n) ≡ Some n
kind_again Ipv4 n small = address_again n small
kind_again Port n small = number_again 5 65535 n (omega arith) (omega arith) (omega arith) (omega arith)
kind_again Byte n small = byte_again n (omega arith)
kind_again Hex n small = hex_again n (omega arith)
kind_again Ipv6 n small = ipv6_again n small

pub value_again : (field : Field) (n : ℕ) → n < 2 ^ width_of field → value_in field (value_text field n) ≡ Some n
value_again field n small = kind_again (kind_of field) n (kind_fits field n small)

-- ---- with which bytes a value is printed

-- a test that digits of either base and what stands between them pass
pub record PassesAll (p : ℕ → Bool) : Type 0 where
  pub decimals : (c : ℕ) → 48 ≤ c → c ≤ 57 → p c ≡ true
  pub digits : (d : ℕ) → d < 16 → p (digit_char d) ≡ true
  pub dot : p 46 ≡ true
  pub colon : p 58 ≡ true
  pub letter : p 120 ≡ true

pass_both : (p : ℕ → Bool) (xs ys : List ℕ) → list_all p xs ≡ true → list_all p ys ≡ true → list_all p (xs ++ ys) ≡ true
pass_both p xs ys e h = list_all-append p xs ys ∙ rw (e, h) refl

dotted_pass : (p : ℕ → Bool) → PassesAll p → (a b c d : ℕ) → a < 256 → b < 256 → c < 256 → d < 256
    → list_all p (decimal a ++ 46 ∷ (decimal b ++ 46 ∷ (decimal c ++ 46 ∷ decimal d))) ≡ true
dotted_pass p each a b c d la lb lc ld =
    let one : (n : ℕ) → n < 256 → list_all p (decimal n) ≡ true = λ n h. decimal_pass p each.decimals n (omega arith) in
    let third : list_all p (decimal c ++ 46 ∷ decimal d) ≡ true = pass_both p (decimal c) (46 ∷ decimal d) (one c lc) (rw each.dot (one d ld)) in
    let second : list_all p (decimal b ++ 46 ∷ (decimal c ++ 46 ∷ decimal d)) ≡ true = pass_both p (decimal b) (46 ∷ (decimal c ++ 46 ∷ decimal d)) (one b lb) (rw each.dot third) in
    pass_both p (decimal a) (46 ∷ (decimal b ++ 46 ∷ (decimal c ++ 46 ∷ decimal d))) (one a la) (rw each.dot second)

address_pass : (p : ℕ → Bool) → PassesAll p → (n : ℕ) → list_all p (address_text n) ≡ true
unfolding address_text
address_pass p each n =
    dotted_pass p each (n / 16777216 % 256) (n / 65536 % 256) (n / 256 % 256) (n % 256) (omega arith) (omega arith) (omega arith) (omega arith)

hex_pass : (p : ℕ → Bool) → PassesAll p → (n : ℕ) → n < 65536 → list_all p (hex_text n) ≡ true
unfolding hex_text
hex_pass p each n small =
    rw (each.decimals 48 (omega arith) (omega arith), each.letter, each.digits (n / 16 / 16 / 16) (omega arith), each.digits (n / 16 / 16 % 16) (omega arith), each.digits (n / 16 % 16) (omega arith), each.digits (n % 16) (omega arith)) refl

pub kind_pass : (p : ℕ → Bool) → PassesAll p → (kind : ValueKind) (n : ℕ) → n < 2 ^ kind_width kind → list_all p (kind_text kind n) ≡ true
kind_pass p each Ipv4 n small = address_pass p each n
kind_pass p each Port n small = decimal_pass p each.decimals n (omega arith)
kind_pass p each Byte n small = decimal_pass p each.decimals n (omega arith)
kind_pass p each Hex n small = hex_pass p each n (omega arith)
kind_pass p each Ipv6 n small = ipv6_all p each.colon each.digits n

pub value_pass : (p : ℕ → Bool) → PassesAll p → (field : Field) (n : ℕ) → n < 2 ^ width_of field → list_all p (value_text field n) ≡ true
value_pass p each field n small = kind_pass p each (kind_of field) n (kind_fits field n small)
