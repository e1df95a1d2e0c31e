-- Parts that were added, and the words that need them.
use Rattle.std.proofs.Common.{◌≡◌, ◌↔◌, ℕ, Bool, IsTrue, get_or, ◌+◌, List, [], ◌∷◌, ◌++◌, length, length-append, Result, Ok, Err, IsOk, OnOk, ap, ◌∙◌, arith}

-- where a part was added there is one more
pub one_more : {S E : Type 0} (before after : List S) (part : S) (result : Result (Unit {0}) E) → IsOk result → OnOk result (after ≡ before ++ part ∷ []) → length after ≡ length before + 1
one_more before after part (Ok done) ok is = let long = ap length is ∙ length-append before (part ∷ []) in omega (arith, long)
one_more before after part (Err e) ok is = cc

-- one word, by what stands at its index
pub one_word : (words : List (List ℕ)) (word : List ℕ) → length words ≡ 1 → word ≡ get_or words 0 word → words ≡ word ∷ []
one_word [] word one is = absurd (omega (arith, one))
one_word (first ∷ []) word one is = let same : word ≡ first = is in cc
one_word (first ∷ second ∷ words) word one is = absurd (omega (arith, one))

-- whether it is that verb is whether the words are the verb alone
pub verb_alone : (words : List (List ℕ)) (word verb : List ℕ) (test : Bool) → words ≡ word ∷ [] → (IsTrue test ↔ word ≡ verb)
    → (IsTrue test ↔ words ≡ verb ∷ [])
verb_alone words word verb test are same = (λ yes. let is : word ≡ verb = same.0 yes in cc, λ is. let alone : word ≡ verb = cc in same.1 alone)
