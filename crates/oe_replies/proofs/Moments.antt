-- The spelling of an instant is UTF-8, since it has digits and the other bytes of its pattern; and which moments have one.
use Rattle.std.proofs.Common.{◌≡◌, ℤ, [], Bool, true, false, ◌&&◌, refl, arith}
use Rattle.std.specs.Prelude.{if◌then◌else◌, int_le}
use Rattle.std.proofs.lemmas.Bool.{and_from, and_parts}
use Rattle.std.proofs.lemmas.Int.{ints}
use Rattle.serde_json.specs.Data.{null, string}
use Rattle.oe_dims.specs.Dimensions.{first_instant, last_instant}
use Rattle.oe_dims.specs.Instant.{IsInstant, instant_text}
use Rattle.oe_replies.specs.Json.{moment_data}

-- ---- which moments have a spelling

in_range : (z : ℤ) → IsInstant z → (int_le first_instant z && int_le z last_instant) ≡ true
in_range z is =
    let low = is.first in
    let high = is.last in
    and_from (int_le first_instant z) (int_le z last_instant) (grind (arith, ints)) (grind (arith, ints))

pub moment_spelled : (z : ℤ) → IsInstant z → moment_data z ≡ string (instant_text z)
moment_spelled z is = rw (in_range z is) refl

is_in_range : (z : ℤ) → int_le first_instant z ≡ true → int_le z last_instant ≡ true → IsInstant z
is_in_range z low high = record { first = grind (arith, ints); last = grind (arith, ints) }

null_outside : (z : ℤ) (b : Bool) → (int_le first_instant z && int_le z last_instant) ≡ b → ¬ (IsInstant z)
    → (if b then string (instant_text z) else null) ≡ null
null_outside z true e none =
    let both = and_parts (int_le first_instant z) (int_le z last_instant) e in
    absurd (none (is_in_range z both.0 both.1))
null_outside z false e none = refl

pub moment_null : (z : ℤ) → ¬ (IsInstant z) → moment_data z ≡ null
moment_null z none = null_outside z (int_le first_instant z && int_le z last_instant) refl none
