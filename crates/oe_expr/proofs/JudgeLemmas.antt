-- The first row that holds at a request, from the row of kinds and those of an element.
use Rattle.std.proofs.Common.{◌≡◌, ◌⊎◌, inl, inr, ℕ, Bool, true, false, ◌||◌, ◌&&◌, if◌then◌else◌, List, [], ◌∷◌, Option, Some, None, refl, sym, is_none, is_some, true≢false}
use Rattle.std.specs.List.{list_any}
use Rattle.oe_cell.specs.declared.cell.Cell.{Cell}
use Rattle.oe_dims.specs.declared.kind.CellKind.{CellKind}
use Rattle.oe_dims.specs.declared.kind.CellKind.TheVariants.{Flags}
use Rattle.oe_graph.specs.declared.code.Code.TheVariants.{CellKindInvalid}
use Rattle.oe_expr.specs.Kinds.{are_mixed, kind_among}
use Rattle.oe_expr.specs.NodeKinds.{scalar_kind, items_kinds}
use Rattle.oe_expr.specs.Operations.{binary_takes, binary_gives}
use Rattle.oe_expr.specs.Requests.{Scalar, Items, binary, choice, element}
use Rattle.oe_expr.specs.Rows.{has_no_element, listings}
use Rattle.oe_expr.specs.Scope.{PlainScope, Label}
use Rattle.oe_expr.specs.States.{fault_or_kind, judged_request, kind_unless}
use Rattle.oe_expr.specs.declared.operation.Binary.{Binary}

unless_row : (b : Bool) (kind : Option CellKind) → kind_unless b kind ≡ fault_or_kind (if b then Some CellKindInvalid else None) kind
unless_row true kind = refl
unless_row false kind = refl

module _ (scope : PlainScope) (context : Cell) (at : List ℕ → Option CellKind) where
  pub judged_binary : (f : Binary) (x y : Scalar) (a b : Option CellKind) → a ≡ scalar_kind scope context at x → b ≡ scalar_kind scope context at y
      → kind_unless (are_mixed (binary_takes f ∷ a ∷ b ∷ [])) (Some (binary_gives f)) ≡ judged_request scope context at (binary f x y)
  judged_binary f x y a b is_x is_y = rw (is_x, is_y) (unless_row _ _)

  pub judged_choice : (value accept reject : Scalar) (v a r : Option CellKind) → v ≡ scalar_kind scope context at value
      → a ≡ scalar_kind scope context at accept → r ≡ scalar_kind scope context at reject
      → kind_unless (are_mixed (Some Flags ∷ v ∷ []) || are_mixed (a ∷ r ∷ [])) (kind_among (a ∷ r ∷ []))
      ≡ judged_request scope context at (choice value accept reject)
  judged_choice value accept reject v a r is_v is_a is_r = rw (is_v, is_a, is_r) (unless_row _ _)

  -- an element that is asked for in one way alone
  one_way : (items : Items) (index : Option ℕ) (label : Option Label) (return_nodata : Bool)
      → (is_none index && is_none label) ≡ false → (is_some index && is_some label) ≡ false
      → (return_nodata ≡ true ⊎ list_any (has_no_element index label) (listings scope items) ≡ false)
      → kind_unless (are_mixed (items_kinds scope context at items)) (kind_among (items_kinds scope context at items))
      ≡ judged_request scope context at (element items index label return_nodata)
  one_way items None None return_nodata missing both there = absurd (true≢false missing)
  one_way items (Some k) (Some label) return_nodata missing both there = absurd (true≢false both)
  one_way items (Some k) None true missing both there = unless_row _ _
  one_way items None (Some label) true missing both there = unless_row _ _
  one_way items (Some k) None false missing both (inl e) = absurd (true≢false (sym e))
  one_way items None (Some label) false missing both (inl e) = absurd (true≢false (sym e))
  one_way items (Some k) None false missing both (inr e) = rw e (unless_row _ _)
  one_way items None (Some label) false missing both (inr e) = rw e (unless_row _ _)

  pub judged_element : (items : Items) (index : Option ℕ) (label : Option Label) (return_nodata : Bool)
      → (is_none index && is_none label) ≡ false → (is_some index && is_some label) ≡ false
      → (return_nodata ≡ false → list_any (has_no_element index label) (listings scope items) ≡ false)
      → kind_unless (are_mixed (items_kinds scope context at items)) (kind_among (items_kinds scope context at items))
      ≡ judged_request scope context at (element items index label return_nodata)
  judged_element items index label true missing both there = one_way items index label true missing both (inl refl)
  judged_element items index label false missing both there = one_way items index label false missing both (inr (there refl))
