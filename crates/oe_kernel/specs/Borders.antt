-- What stands in place of a position outside a side: the border rules of `apply_kernel` of openEO Processes.
use Rattle.std.specs.Prelude.{ℕ, ◌-◌, ◌*◌, ◌==◌, min, nat_lt, if◌then◌else◌, Bool, false, ⊤, ℤ, pos, negsuc, unsigned_abs, Option, Some, None}
use Rattle.std.specs.Int.{int_rem_euclid}
use Rattle.oe_kernel.specs.declared.border.Border.{Border}
use Rattle.oe_kernel.specs.declared.border.Border.TheVariants.{Value, Replicate, Reflect, ReflectPixel, Wrap}

-- the position lies on a side of n positions, which are 0 to n - 1
abbrev pub is_on : ℤ → ℕ → Bool
is_on (pos i) n = nat_lt i n
is_on (negsuc i) n = false

-- i modulo n, which is never negative, for n above 0
abbrev pub modulo : ℤ → ℕ → ℕ
modulo i n = unsigned_abs (int_rem_euclid i (pos n))

-- the position of the side that is nearest
abbrev pub nearest : ℤ → ℕ → ℕ
nearest (pos i) n = min i (n - 1)
nearest (negsuc i) n = 0

-- positions that run up the side to n - 1 and then come back: j, or as far before `turn` from n on
abbrev pub folded : ℕ → ℕ → ℕ → ℕ
folded n turn j = if nat_lt j n then j else turn - j

-- the side beside its mirror image, again and again, so that the position at the edge comes twice
abbrev pub reflected : ℤ → ℕ → ℕ
reflected i n = folded n (2 * n - 1) (modulo i (2 * n))

-- mirrored at the position at the edge, which comes once
abbrev pub reflected_at_pixel : ℤ → ℕ → ℕ
reflected_at_pixel i n =
    if n == 1 then 0 else folded n (2 * n - 2) (modulo i (2 * n - 2))

-- the position that a rule puts in place of one outside; a number puts none
abbrev pub outside : Border → ℤ → ℕ → Option ℕ
outside (Value q) i n = None
outside Replicate i n = Some (nearest i n)
outside Reflect i n = Some (reflected i n)
outside ReflectPixel i n = Some (reflected_at_pixel i n)
outside Wrap i n = Some (modulo i n)

-- the position on a side of n that stands for any position: itself where it is on the side
unfoldable pub border_position : Border → ℤ → ℕ → Option ℕ
border_position border i n =
    if is_on i n then Some (unsigned_abs i) else outside border i n

-- after how many positions a rule gives the same ones again: 0 for a rule that does not
abbrev pub period_of : Border → ℕ → ℕ
period_of (Value q) n = 0
period_of Replicate n = 0
period_of Reflect n = 2 * n
period_of ReflectPixel n = 2 * n - 2
period_of Wrap n = n

-- the rule is a number
abbrev pub IsNumberBorder : Border → Type 0
IsNumberBorder (Value q) = ⊤
IsNumberBorder Replicate = ⊥
IsNumberBorder Reflect = ⊥
IsNumberBorder ReflectPixel = ⊥
IsNumberBorder Wrap = ⊥

-- the rule puts the other end of the side
abbrev pub IsWrap : Border → Type 0
IsWrap (Value q) = ⊥
IsWrap Replicate = ⊥
IsWrap Reflect = ⊥
IsWrap ReflectPixel = ⊥
IsWrap Wrap = ⊤

-- the rule puts no position that is further than the one outside is from the window's middle
abbrev pub IsNear : Border → Type 0
IsNear (Value q) = ⊤
IsNear Replicate = ⊤
IsNear Reflect = ⊤
IsNear ReflectPixel = ⊤
IsNear Wrap = ⊥
