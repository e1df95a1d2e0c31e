-- The spelling of an instant is UTF-8, since it has digits and the other bytes of its pattern.
use Rattle.std.proofs.Common.{Bool, Err, IsUtf8, List, Ok, [], arith, false, lt-ltb, nat_le, nat_lt, refl, subst, suc, sym, true, true≢false, zero, ℕ, ℤ, ◌&&◌, ◌==◌, ◌∷◌, ◌≡◌, ◌≤◌}
use Rattle.std.proofs.lemmas.Bool.{and_parts, eqb-true, leb-true, ltb-true}
use Rattle.std.proofs.lemmas.Str.{IsUtf8-from_ascii}
use Rattle.std.specs.Str.{IsAscii}
use Rattle.std.specs.Prelude.{if◌then◌else◌}
use Rattle.oe_dims.specs.Names.{is_byte_in}
use Rattle.oe_dims.specs.Instant.{date_pattern, follows_pattern, instant_of, instant_pattern, instant_read, is_let_stand, midnight_in, moment_in}
use Rattle.oe_dims.specs.declared.instant.InstantFault.TheVariants.{Spelling}

abbrev all_ascii : List ℕ → Bool
all_ascii [] = true
all_ascii (b ∷ bs) = nat_lt b 128 && all_ascii bs

ascii_from : (bytes : List ℕ) → all_ascii bytes ≡ true → IsAscii bytes
ascii_from [] h i = omega arith
ascii_from (b ∷ bytes) h zero = ltb-true b 128 (and_parts _ _ h).0
ascii_from (b ∷ bytes) h (suc i) = ascii_from bytes (and_parts _ _ h).1 i

let_stand_ascii : (letter b : ℕ) (d : Bool) → (letter == 100) ≡ d → nat_lt letter 128 ≡ true
    → (if d then is_byte_in 48 57 b else b == letter) ≡ true → nat_lt b 128 ≡ true
let_stand_ascii letter b true e p h =
    let below : b ≤ 57 = leb-true b 57 (and_parts (nat_le 48 b) (nat_le b 57) h).1 in
    lt-ltb b 128 (omega (arith, below))
let_stand_ascii letter b false e p h = subst (λ n. nat_lt n 128 ≡ true) (sym (eqb-true b letter h)) p

pattern_ascii : (pattern text : List ℕ) → all_ascii pattern ≡ true → follows_pattern pattern text ≡ true
    → all_ascii text ≡ true
pattern_ascii [] [] p h = refl
pattern_ascii [] (b ∷ text) p h = absurd (true≢false (sym h))
pattern_ascii (letter ∷ pattern) [] p h = absurd (true≢false (sym h))
pattern_ascii (letter ∷ pattern) (b ∷ text) p h =
    let stands = and_parts (is_let_stand letter b) (follows_pattern pattern text) h in
    let parts = and_parts (nat_lt letter 128) (all_ascii pattern) p in
    rw (let_stand_ascii letter b (letter == 100) refl parts.0 stands.0) (pattern_ascii pattern text parts.1 stands.1)

read_ascii : (text : List ℕ) (seconds : ℤ) (long short : Bool) → follows_pattern instant_pattern text ≡ long
    → follows_pattern date_pattern text ≡ short
    → (if long then instant_of (moment_in text) else (if short then instant_of (midnight_in text) else Err Spelling)) ≡ Ok seconds
    → all_ascii text ≡ true
read_ascii text seconds true short e f h = pattern_ascii instant_pattern text refl e
read_ascii text seconds false true e f h = pattern_ascii date_pattern text refl f
read_ascii text seconds false false e f h = absurd cc

pub instant_utf8 : (text : List ℕ) (seconds : ℤ) → instant_read text ≡ Ok seconds → IsUtf8 text
unfolding instant_read
instant_utf8 text seconds h =
    IsUtf8-from_ascii text (ascii_from text (read_ascii text seconds
    (follows_pattern instant_pattern text) (follows_pattern date_pattern text) refl refl h))
