-- An input that was read up to the limit.
use Rattle.std.proofs.Common.{◌≡◌, ℕ, zero, suc, ◌<◌, ◌≤◌, ◌⊎◌, inl, inr, List, length, Option, Some, None, IfSome, sym, arith}
use Rattle.oe_graph.specs.Form.{most_input}
use Rattle.oe_outside.specs.Input.{ReadsUpTo}
use Rattle.oe_outside.proofs.Runs.{same_whole}
use Rattle.oe_top.specs.Objects.{IsReadWhole}

-- an input within the limit was read whole
pub whole_same : (visible bytes : List ℕ) (after : Option (List ℕ)) → ReadsUpTo most_input (Some visible) bytes after → length bytes ≤ most_input → bytes ≡ visible
whole_same visible bytes None read short = absurd read.front
whole_same visible bytes (Some rest) read short = same_whole visible bytes rest read.front (read.whole short)

-- what was read is no longer than what was visible
pub within : (visible bytes : List ℕ) (after : Option (List ℕ)) → ReadsUpTo most_input (Some visible) bytes after → length bytes ≤ length visible
within visible bytes None read = absurd read.front
within visible bytes (Some rest) read = read.front.enough

read_all : (before : Option (List ℕ)) (bytes : List ℕ) (after : Option (List ℕ)) → ReadsUpTo most_input before bytes after → length bytes ≤ most_input → IfSome before (λ input. input ≡ bytes)
read_all None bytes after read short = tt
read_all (Some visible) bytes after read short = sym (whole_same visible bytes after read short)

pub read_whole : (before : Option (List ℕ)) (bytes : List ℕ) (after : Option (List ℕ)) → ReadsUpTo most_input before bytes after → length bytes ≤ most_input → IsReadWhole before after bytes
read_whole before bytes after read short = record { all = read_all before bytes after read short; end = read.whole short }

-- of two numbers one is the greater, or they are the same
pub sizes : (m n : ℕ) → (m ≤ n) ⊎ (n < m)
sizes zero n = inl (omega arith)
sizes (suc m) zero = inr (omega arith)
sizes (suc m) (suc n) = elim (sizes m n) [ inl a ↦ inl (omega arith) | inr b ↦ inr (omega arith) ]
