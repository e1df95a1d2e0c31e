-- The order of faults, and the least of those that stand. Every phase uses these words.
use Rattle.std.specs.Prelude.{◌≡◌, ℕ, List, [], ◌∷◌, Bool, false, Option, Some, None, if◌then◌else◌}
use Rattle.std.specs.Cmp.Lexicographic.{slice_cmp}
use Rattle.std.specs.declared.cmp.Ordering.{Ordering}
use Rattle.std.specs.Ordering.{nat_cmp, then_cmp, on, is_lt}
use Rattle.oe_graph.specs.Codes.{phase_of, number_in_phase}
use Rattle.oe_graph.specs.declared.code.Code.{Code}
use Rattle.oe_graph.specs.declared.fault.Fault.{Fault}

-- by phase, then by node in byte order, then by number in the phase
abbrev pub fault_cmp : Fault → Fault → Ordering
fault_cmp =
    then_cmp (on (λ f. phase_of f.code) nat_cmp) (
    then_cmp (on (λ f. f.node) (slice_cmp nat_cmp)) (on (λ f. number_in_phase f.code) nat_cmp))

-- the first is reported rather than the other
abbrev pub is_before : Fault → Fault → Bool
is_before a b = is_lt (fault_cmp a b)

-- of the faults that stand at nodes, by code and node, the one that is reported
pub record IsLeast (Stands : Code → List ℕ → Type 0) (fault : Fault) : Type 0 where
  pub stands : Stands fault.code fault.node
  pub least : (other : Fault) → Stands other.code other.node → is_before other fault ≡ false

-- an answer is the least of the faults of which a predicate is true, or none where it is true of none
abbrev pub IsLeastFault : (Fault → Type 0) → Option Fault → Type 0
IsLeastFault P None = (f : Fault) → ¬ P f
IsLeastFault P (Some f) = P f × ((g : Fault) → P g → is_before g f ≡ false)

-- the one of two that is reported
abbrev pub least : Option Fault → Option Fault → Option Fault
least None b = b
least (Some a) None = Some a
least (Some a) (Some b) = if is_before b a then Some b else Some a

-- the least of a fault that was found and of those that a step finds along a list
abbrev pub least_from : {X : Type 0} → (X → Option Fault) → Option Fault → List X → Option Fault
least_from step found [] = found
least_from step found (x ∷ xs) = least_from step (least found (step x)) xs
