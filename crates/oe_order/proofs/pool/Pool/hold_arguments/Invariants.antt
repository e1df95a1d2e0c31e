use Rattle.std.proofs.Common.{◌≡◌, ◌≤◌, ◌||◌, ◌&&◌, ℕ, Bool, true, false, List, length, ltb, get_or, max, take}
use Rattle.oe_order.specs.Pool.{IsPool, is_step_of}
use Rattle.oe_order.proofs.Lists.{count}
use Rattle.oe_order.proofs.pool.Pool.hold_arguments.Given as goal

pub record Holds (named by_node : List ℕ) (step : ℕ) (held0 held : List Bool) (slots0 slots free : List ℕ) (n0 n : ℕ) : Type 0 where
  pub pool : IsPool held slots free n
  pub len : length held ≡ length held0
  pub taken : (i : ℕ) → get_or held i false ≡ get_or held0 i false || (ltb i step && is_step_of named by_node i)
  pub kept : (i : ℕ) → get_or held0 i false ≡ true → get_or slots i 0 ≡ get_or slots0 i 0
  pub later : (i : ℕ) → step ≤ i → get_or slots i 0 ≡ get_or slots0 i 0
  pub most : n ≡ max n0 (count held)

abbrev pub invariant-loop-argument : goal.invariant-loop-argument
invariant-loop-argument l =
    Holds (take l.argument-index l.arguments) l.by_node l.step l.initial.self.held.items l.self.held.items l.initial.self.slots.items l.self.slots.items l.self.free.items l.initial.self.count l.self.count
