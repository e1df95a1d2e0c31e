-- Texts that are sent to a link.
use Rattle.std.specs.Prelude.{ℕ, List, Option, None, Result}
use Rattle.oe_outside.specs.Stream as stream

-- What a call that sends a text to a link of type L promises: what it promises of a sink whose number of bytes is
-- hidden.
abbrev pub HasSent : {L T E : Type 0} → (L → Option (List ℕ)) → (L → ℕ) → L → List ℕ → List ℕ → L → List ℕ
    → Result T E → Type 0
HasSent written faults before held text after left result =
    stream.HasSent written (λ _. None) faults before held text after left result
