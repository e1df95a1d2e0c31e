-- Words that spell ports, and words that are no hyphen.
use Rattle.std.proofs.Common.{◌≡◌, ℕ, ◌^◌, ◌<◌, Bool, true, false, List, Some, Result, Ok, Err, codes, refl, sym, arith}
use Rattle.std.specs.Str.Parse.{ParsesUnsigned}
use Rattle.std.proofs.lemmas.Bool.{cond-false}
use Rattle.std.proofs.lemmas.Fmt.{parse-decimal}
use Rattle.oe_dims.proofs.OrderLemmas.{same_name_is}
use Rattle.oe_dims.specs.Names.{same_name}
use Rattle.oe_dial.specs.Words.{IsPort, token_of}

-- what parsing makes of a word that spells a port
parses_port : {E : Type 0} {port : ℕ} (word : List ℕ) (r : Result ℕ E) → ParsesUnsigned 16 10 word r
    → IsPort word port → r ≡ Ok port
parses_port {port} word r parses s =
    let below : port < 2 ^ 16 = omega (arith, s.below) in
    parse-decimal 16 port word r (omega arith) (omega arith) s.spelled parses

-- a word that does not parse spells none
pub no_port : (E : Type 0) {port : ℕ} (word : List ℕ) (e : E) → ParsesUnsigned 16 10 word (Err e) → IsPort word port → ⊥
no_port E {port} word e parses s =
    let P : Result ℕ E → Type 0 = λ r. r ≡ Ok port in
    let is : P (Err e) = parses_port word (Err e) parses s in cc

-- a word that parses spells just that port
pub one_port : {port : ℕ} (word : List ℕ) (n : ℕ) → ParsesUnsigned {E = ℕ} 16 10 word (Ok n) → IsPort word port → port ≡ n
one_port {port} word n parses s =
    let P : Result ℕ ℕ → Type 0 = λ r. r ≡ Ok port in
    let is : P (Ok n) = parses_port word (Ok n) parses s in cc

pub same_port : {port n : ℕ} {word : List ℕ} → port ≡ n → IsPort word port → IsPort word n
same_port same s = rw same at s

-- a word other than the hyphen is a token
pub token_is : (word : List ℕ) → (word ≡ codes "-" → ⊥) → Some word ≡ token_of word
token_is word other = by_test (same_name word (codes "-")) refl
  where
    by_test : (test : Bool) → same_name word (codes "-") ≡ test → Some word ≡ token_of word
    by_test true is = absurd (other (sym (same_name_is word (codes "-") is)))
    by_test false is = sym (cond-false _ _ _ is)
