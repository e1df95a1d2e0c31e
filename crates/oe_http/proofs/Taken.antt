-- How much reads that follow one another take.
use Rattle.std.proofs.Common.{◌≡◌, ℕ, ◌+◌, ◌-◌, ◌≤◌, List, ◌++◌, length, drop, ap, sym, ◌∙◌, refl, Option, Some, None, arith}
use Rattle.std.specs.Option.{option_map}
use Rattle.std.proofs.Math.Seq.{drop-append_seam, drop-drop}
use Rattle.oe_outside.specs.Input.{TakesAtMost}
use Rattle.oe_outside.specs.Visible.{Gave}
use Rattle.std.proofs.lemmas.List.{length-append}
use Rattle.oe_outside.proofs.Runs.{Gave-more}
use Rattle.oe_http.specs.Reading.{ReadsMore}
use Rattle.oe_http.proofs.ReadLemmas.{more_given}

-- no read
pub takes_none : (left : Option (List ℕ)) (limit : ℕ) → TakesAtMost left limit left
takes_none None limit = (0, omega arith, refl)
takes_none (Some bytes) limit = (0, omega arith, refl)

-- at most so many, and so at most more
pub takes_fewer : (before after : Option (List ℕ)) (few many : ℕ) → few ≤ many → TakesAtMost before few after → TakesAtMost before many after
takes_fewer before after few many fewer taken = (taken.0, omega (arith, fewer, taken.1), taken.2)

dropped_twice : (before : Option (List ℕ)) (m n : ℕ) → option_map (drop n) (option_map (drop m) before) ≡ option_map (drop (m + n)) before
dropped_twice None m n = refl
dropped_twice (Some bytes) m n = ap Some (drop-drop n m bytes)

-- some reads, and then more
pub takes_both : (before middle after : Option (List ℕ)) (first second : ℕ) → TakesAtMost before first middle → TakesAtMost middle second after → TakesAtMost before (first + second) after
takes_both before middle after first second a b = (
  a.0 + b.0,
  omega (arith, a.1, b.1),
  b.2 ∙ ap (option_map (drop b.0)) a.2 ∙ dropped_twice before a.0 b.0,
)

-- no more than was given
gave_taken : (before after : Option (List ℕ)) (given : List ℕ) → Gave before given after → after ≡ option_map (drop (length given)) before
gave_taken before None given gave = sym (ap (option_map (drop (length given))) gave)
gave_taken before (Some rest) given gave = sym (ap (option_map (drop (length given))) gave ∙ ap Some (drop-append_seam given rest))

takes_given : (before after : Option (List ℕ)) (given : List ℕ) (limit : ℕ) → length given ≤ limit → Gave before given after → TakesAtMost before limit after
takes_given before after given limit few gave = (length given, few, gave_taken before after given gave)

-- some bytes were given, and then at most so many taken
pub takes_later : (before middle after : Option (List ℕ)) (given : List ℕ) (n limit : ℕ) → length given ≡ n → n ≤ limit → Gave before given middle → TakesAtMost middle (limit - n) after → TakesAtMost before limit after
takes_later before middle after given n limit long few gave taken =
    takes_fewer before after (length given + (limit - n)) limit (omega (arith, long, few))
    (takes_both before middle after (length given) (limit - n) (takes_given before middle given (length given) (omega arith) gave) taken)

-- some reads, and then one more
pub takes_with : {limit : ℕ} (before middle after : Option (List ℕ)) {n : ℕ} {held bytes : List ℕ} → Gave before held middle → ReadsMore limit middle n held bytes after → TakesAtMost before limit after
takes_with {limit} before middle after {n} {held} {bytes} gave read = takes_given before after bytes limit read.most (more_given gave read)

-- the same behind the bytes of a body that were read with its head
pub takes_behind : {limit : ℕ} (before middle after : Option (List ℕ)) {n : ℕ} {held bytes : List ℕ} (first given : List ℕ) → held ≡ first ++ given → Gave before given middle → ReadsMore limit middle n held bytes after → TakesAtMost before limit after
takes_behind {limit} before middle after {n} {held} {bytes} first given is gave read =
    let few = read.most in
    takes_given before after (given ++ read.given) limit
    (omega (arith, few, ap length read.follows, length-append held read.given, ap length is, length-append first given, length-append given read.given))
    (Gave-more before middle after given read.given gave read.gave)

-- and where that read stopped
pub takes_behind_until : (before middle after : Option (List ℕ)) (first given held : List ℕ) (n limit : ℕ) → held ≡ first ++ given → length held ≡ n → n ≤ limit → Gave before given middle → TakesAtMost middle (limit - n) after → TakesAtMost before limit after
takes_behind_until before middle after first given held n limit is long few gave taken =
    let shorter : limit - n ≤ limit - length given = omega (arith, long, ap length is, length-append first given) in
    takes_later before middle after given (length given) limit refl (omega (arith, few, long, ap length is, length-append first given)) gave
    (takes_fewer middle after (limit - n) (limit - length given) shorter taken)

-- the bytes of a body, all of them
pub takes_body : (before after : Option (List ℕ)) (first given held : List ℕ) (n limit : ℕ) → held ≡ first ++ given → length held ≡ n → n ≤ limit → Gave before given after → TakesAtMost before limit after
takes_body before after first given held n limit is long few gave =
    takes_given before after given limit (omega (arith, few, long, ap length is, length-append first given)) gave

-- the front of a message, all of it
pub takes_front : (before after : Option (List ℕ)) (held : List ℕ) (n limit : ℕ) → length held ≡ n → n ≤ limit → Gave before held after → TakesAtMost before limit after
takes_front before after held n limit long few gave = takes_given before after held limit (omega (arith, long, few)) gave
