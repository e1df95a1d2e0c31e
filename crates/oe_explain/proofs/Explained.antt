-- Texts that explain a fault.
use Rattle.std.proofs.Common.{◌≡◌, ℕ, List, Option, Some, None, IfOk, Result, Ok, Err}
use Rattle.std.specs.Option.{IsSome}
use Rattle.oe_graph.specs.Faults.{IsLeast}
use Rattle.oe_graph.specs.Form as form
use Rattle.oe_graph.specs.Read.{Reads}
use Rattle.oe_graph.specs.Tree.{PlainGraph}
use Rattle.oe_graph.specs.declared.code.Code.TheVariants.{GraphUnreadable}
use Rattle.oe_graph.specs.declared.fault.Fault.{Fault}
use Rattle.oe_explain.specs.AtFault.{at_fault}
use Rattle.oe_explain.specs.Explanation.{Explains, IsOfForm, explanation, of_graph, of_form}

module _ {T E : Type 0} (bytes_of : T → List ℕ) (fault : Fault) where
  -- without an argument, and with a place only where nothing was read
  pub form_said : (place : Option (ℕ × ℕ)) (result : Result T E) → (IsSome place → fault.code ≡ GraphUnreadable)
      → IfOk result (λ text. bytes_of text ≡ explanation fault None place) → IfOk result (λ text. IsOfForm fault (bytes_of text))
  form_said place (Err e) unreadable is = tt
  form_said place (Ok text) unreadable is = record { place = place; unreadable = unreadable; text_is = is }

  -- of bytes that are the text of a graph
  pub graph_explained : (bytes : List ℕ) (g : PlainGraph) (result : Result T E) → Reads bytes g
      → IfOk result (λ text. bytes_of text ≡ explanation fault (at_fault g fault) None)
      → IfOk result (λ text. Explains bytes fault (bytes_of text))
  graph_explained bytes g (Err e) reads is = tt
  graph_explained bytes g (Ok text) reads is = of_graph reads is

  -- of bytes that are not
  pub form_explained : (bytes : List ℕ) (other : Fault) (result : Result T E) → IsLeast (form.Stands bytes) other
      → IfOk result (λ text. IsOfForm fault (bytes_of text)) → IfOk result (λ text. Explains bytes fault (bytes_of text))
  form_explained bytes other (Err e) least said = tt
  form_explained bytes other (Ok text) least said = of_form least.stands said
