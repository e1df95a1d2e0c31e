-- What holds of the steps that are live, from one step to the next.
use Rattle.std.proofs.Common.{◌≡◌, ◌≢◌, ℕ, ◌+◌, ◌<◌, true, length, get_or, arith, inl, inr, List}
use Rattle.std.proofs.lemmas.Bool.{cases_eq}
use Rattle.oe_order.specs.Evaluation.{IsEvaluationOrder}
use Rattle.oe_order.specs.Graph.{Node}
use Rattle.oe_order.specs.Live.{is_live, IsSlotted, Steps}

module _ (nodes : List Node) (last : ℕ) (order : Steps) where
  abbrev pub EachLiveAt : ℕ → (ℕ → Type 0) → Type 0
  EachLiveAt step Holds = (i : ℕ) → i < step → is_live nodes last order.steps step i ≡ true → Holds i

  -- A step writes the slot of its node alone. What holds of each live step before it, and does not change with that slot
  -- unless the step has it, holds of each live step after it.
  pub live_after : IsEvaluationOrder nodes last order.steps → IsSlotted nodes last order
      → (Holds After : ℕ → Type 0) (step : ℕ) → step < length order.steps
      → ((i : ℕ) → get_or order.slots i 0 ≢ get_or order.slots step 0 → Holds i → After i)
      → After step → EachLiveAt step Holds → EachLiveAt (step + 1) After
  live_after evaluation slotted Holds After step within stays own before i lt live =
      elim (cases_eq i step) [
        | inl here ↦ rw here own
        | inr other ↦
            let earlier : i < step = omega arith in
            let was = evaluation.live_since step (step + 1) i (omega arith) (omega arith) live in
            let apart = slotted.apart step i step within was (evaluation.own_live step) other in
            stays i apart (before i earlier was)
      ]
