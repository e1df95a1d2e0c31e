-- Bytes that go to a sink through a buffer.
use Rattle.std.specs.Prelude.{◌≡◌, ℕ, List, ◌++◌, length, Option, Result, OnOk, OnErr}
use Rattle.std.specs.Option.{option_map}
use Rattle.oe_outside.specs.Faults.{HasCause}
use Rattle.oe_outside.specs.Visible.{AddsBytes, AddsSome}

-- A text was sent behind the bytes that were held: the front of both together follows what was written, where that is
-- visible, and is counted, where only the number of bytes is visible; the others are held now.
pub record Sends (before : Option (List ℕ)) (size : Option ℕ) (held text : List ℕ) (after : Option (List ℕ))
    (size_after : Option ℕ) (left : List ℕ) : Type 0 where
  pub gone : List ℕ
  pub parts : held ++ text ≡ gone ++ left
  pub visible : after ≡ option_map (λ bytes. bytes ++ gone) before
  pub counted : AddsBytes size (length gone) size_after

-- The sending stopped: some front of both together follows what was written, where that is visible, and no more than
-- both is counted, where only the number of bytes is visible.
pub record Stops (before : Option (List ℕ)) (size : Option ℕ) (held text : List ℕ) (after : Option (List ℕ))
    (size_after : Option ℕ) : Type 0 where
  pub gone : List ℕ
  pub lost : List ℕ
  pub parts : held ++ text ≡ gone ++ lost
  pub visible : after ≡ option_map (λ bytes. bytes ++ gone) before
  pub counted : AddsSome size (length (held ++ text)) size_after

-- What a call that sends a text to a sink of type O promises, by what was written to the sink and its fault counter.
pub record HasSent {O T E : Type 0} (written : O → Option (List ℕ)) (size : O → Option ℕ) (faults : O → ℕ) (before : O)
    (held text : List ℕ) (after : O) (left : List ℕ) (result : Result T E) : Type 0 where
  pub sent : OnOk result (Sends (written before) (size before) held text (written after) (size after) left)
  pub stopped : OnErr result (Stops (written before) (size before) held text (written after) (size after))
  pub cause : HasCause (faults before) (faults after) result

-- the error output before and after a call: what it holds, where that is visible, and its fault counter
pub record ErrorOutput : Type 0 where
  pub before : Option (List ℕ)
  pub before_faults : ℕ
  pub after : Option (List ℕ)
  pub after_faults : ℕ

-- the error output, of a sink of type E
abbrev pub error_output : {E : Type 0} → (E → Option (List ℕ)) → (E → ℕ) → E → E → ErrorOutput
error_output written faults before after = record {
  before = written before;
  before_faults = faults before;
  after = written after;
  after_faults = faults after;
}
