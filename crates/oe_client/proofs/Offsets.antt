-- Texts that spell offsets.
use Rattle.std.proofs.Common.{◌≡◌, ℕ, ◌^◌, ◌<◌, List, Result, Ok, Err, arith}
use Rattle.std.specs.Str.Parse.{ParsesUnsigned}
use Rattle.std.proofs.lemmas.Fmt.{parse-decimal}
use Rattle.oe_client.specs.Arguments.{SpellsOffset}

-- what parsing makes of a text that spells a number
parses_number : {E : Type 0} {number : ℕ} (text : List ℕ) (r : Result ℕ E) → ParsesUnsigned 64 10 text r
    → SpellsOffset text number → r ≡ Ok number
parses_number {number} text r parses s =
    let below : number < 2 ^ 64 = s.below in
    parse-decimal 64 number text r (omega arith) (omega arith) s.spelled parses

-- a text that does not parse spells none
pub spells_none : (E : Type 0) {number : ℕ} (text : List ℕ) (e : E) → ParsesUnsigned 64 10 text (Err e)
    → SpellsOffset text number → ⊥
spells_none E {number} text e parses s =
    let P : Result ℕ E → Type 0 = λ r. r ≡ Ok number in
    let is : P (Err e) = parses_number text (Err e) parses s in cc

-- a text that parses spells just that number
pub spells_it : {number : ℕ} (text : List ℕ) (n : ℕ) → ParsesUnsigned {E = ℕ} 64 10 text (Ok n)
    → SpellsOffset text number → number ≡ n
spells_it {number} text n parses s =
    let P : Result ℕ ℕ → Type 0 = λ r. r ≡ Ok number in
    let is : P (Ok n) = parses_number text (Ok n) parses s in cc

pub same_number : {number n : ℕ} {text : List ℕ} → number ≡ n → SpellsOffset text number → SpellsOffset text n
same_number same s = rw same at s
