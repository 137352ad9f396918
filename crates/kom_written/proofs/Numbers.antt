-- A number is read again from its decimal digits.
use Rattle.std.proofs.Common.{◌≡◌, ℕ, ◌+◌, ◌-◌, ◌*◌, ◌/◌, ◌%◌, ◌≤◌, ◌<◌, ◌^◌, Bool, true, false, ◌&&◌, List, [], ◌∷◌, ◌++◌, refl, ◌∙◌, arith}
use Rattle.std.specs.Fmt as fmt
use Rattle.std.specs.List.{list_all}
use Rattle.std.specs.Char.{is_ascii_digit}
use Rattle.std.proofs.lemmas.Fmt.{decimal_by_steps}
use Rattle.std.proofs.lemmas.Grind.{common_steps}
use Rattle.kom_text.specs.Pieces.{is_number}
use Rattle.kom_text.specs.Numbers.{decimal, decimal_from}

abbrev Reads : ℕ → List ℕ → Type 0
Reads n ds = (is_number ds ≡ true) × (decimal ds ≡ n)

is_digit : (d : ℕ) → d < 10 → is_ascii_digit (48 + d) ≡ true
is_digit d h = grind (arith, common_steps)

all_more : (b : Bool) (ds : List ℕ) (d : ℕ) → (list_all is_ascii_digit ds ≡ true → list_all is_ascii_digit (ds ++ d ∷ []) ≡ true)
    → b && list_all is_ascii_digit ds ≡ true → b && list_all is_ascii_digit (ds ++ d ∷ []) ≡ true
all_more true ds d more h = more h
all_more false ds d more h = cc

digits_more : (ds : List ℕ) (d : ℕ) → list_all is_ascii_digit ds ≡ true → is_ascii_digit d ≡ true → list_all is_ascii_digit (ds ++ d ∷ []) ≡ true
digits_more [] d h k = rw k refl
digits_more (x ∷ ds) d h k = all_more (is_ascii_digit x) ds d (λ h'. digits_more ds d h' k) h

number_more : (ds : List ℕ) (d : ℕ) → is_number ds ≡ true → is_ascii_digit d ≡ true → is_number (ds ++ d ∷ []) ≡ true
number_more [] d h k = cc
number_more (x ∷ ds) d h k = all_more (is_ascii_digit x) ds d (λ h'. digits_more ds d h' k) h

value_more : (v : ℕ) (ds : List ℕ) (d : ℕ) → decimal_from v (ds ++ d ∷ []) ≡ decimal_from v ds * 10 + (d - 48)
value_more v [] d = refl
value_more v (x ∷ ds) d = value_more (v * 10 + (x - 48)) ds d

one_digit : (n : ℕ) → n < 10 → Reads n ((48 + n) ∷ [])
one_digit n h = (rw (is_digit n h) refl, omega arith)

digit_more : (n : ℕ) (ds : List ℕ) → 10 ≤ n → Reads (n / 10) ds → Reads n (ds ++ ((48 + n % 10) ∷ []))
digit_more n ds h r =
    let d : n % 10 < 10 = omega arith in
    let v = value_more 0 ds (48 + n % 10) in
    (number_more ds (48 + n % 10) r.0 (is_digit (n % 10) d), v ∙ rw (r.1) (omega arith))

pub reads_again : (n : ℕ) → n < 2 ^ 64 → Reads n (fmt.decimal n)
reads_again n h = decimal_by_steps Reads one_digit digit_more n h
