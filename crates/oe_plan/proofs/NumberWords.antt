-- Words that spell numbers.
use Rattle.std.proofs.Common.{◌≡◌, ℕ, ◌^◌, ◌<◌, ◌≤◌, List, Result, Ok, Err, sym, ◌∙◌, arith}
use Rattle.std.specs.Str.Parse.{ParsesUnsigned}
use Rattle.std.proofs.lemmas.Fmt.{decimal_injective, parse-decimal}
use Rattle.oe_plan.specs.Words.{IsNumberWord}

-- what parsing into so many bits makes of a word that spells a number
pub parses_number : {E : Type 0} (bits : ℕ) {low high number : ℕ} (word bytes : List ℕ) (r : Result ℕ E) → high < 2 ^ bits → high < 2 ^ 64
    → bytes ≡ word → ParsesUnsigned bits 10 bytes r → IsNumberWord low high word number → r ≡ Ok number
parses_number bits {number = number} word bytes r small fits same parses w =
    let below : number ≤ _ = w.below in
    parse-decimal bits number bytes r (omega arith) (omega arith) (same ∙ w.spelled) parses

-- a word that does not parse spells no number
pub spells_none : (E : Type 0) (bits : ℕ) {low high number : ℕ} (word bytes : List ℕ) (e : E) → high < 2 ^ bits → high < 2 ^ 64 → bytes ≡ word
    → ParsesUnsigned bits 10 bytes (Err e) → IsNumberWord low high word number → ⊥
spells_none E bits {number = number} word bytes e small fits same parses w =
    let P : Result ℕ E → Type 0 = λ s. s ≡ Ok number in
    let is : P (Err e) = parses_number bits word bytes (Err e) small fits same parses w in cc

-- a word that parses spells just that number
pub spells_it : (bits : ℕ) {low high number : ℕ} (word bytes : List ℕ) (n : ℕ) → high < 2 ^ bits → high < 2 ^ 64 → bytes ≡ word
    → ParsesUnsigned {E = ℕ} bits 10 bytes (Ok n) → IsNumberWord low high word number → number ≡ n
spells_it bits {number = number} word bytes n small fits same parses w =
    let P : Result ℕ ℕ → Type 0 = λ s. s ≡ Ok number in
    let is : P (Ok n) = parses_number bits word bytes (Ok n) small fits same parses w in cc

pub same_number : {low high number n : ℕ} {word : List ℕ} → number ≡ n → IsNumberWord low high word number → IsNumberWord low high word n
same_number same w = rw same at w

-- two words that are the same spell one number
pub one_number : {low high a b : ℕ} (one two : List ℕ) → high < 2 ^ 64 → one ≡ two → IsNumberWord low high one a
    → IsNumberWord low high two b → a ≡ b
one_number {a} {b} one two small same first second =
    let a_small : a ≤ _ = first.below in
    let b_small : b ≤ _ = second.below in
    decimal_injective a b (omega arith) (omega arith) (sym first.spelled ∙ same ∙ second.spelled)
