-- A fault inside of a callback comes behind one of the same phase at the node that has the callback: its name is longer.
use Rattle.std.proofs.Common.{◌≡◌, ℕ, Bool, true, false, List, [], ◌∷◌, ◌++◌, Option, Some, None, Equal, Greater, nat_cmp, refl, sym, ap, ◌∙◌, subst, append_assoc, if◌then◌else◌}
use Rattle.std.specs.Cmp.Lexicographic.{slice_cmp}
use Rattle.std.specs.Option.{option_map_or}
use Rattle.std.specs.Ordering.{is_lt, ordering_then}
use Rattle.std.proofs.lemmas.Cmp.{nat_cmp_total, tied_itself}
use Rattle.oe_cell.specs.declared.cell.Cell.{Cell}
use Rattle.oe_dims.specs.declared.kind.CellKind.{CellKind}
use Rattle.oe_graph.specs.Codes.{number_in_phase, phase_of}
use Rattle.oe_graph.specs.Faults.{is_before}
use Rattle.oe_graph.specs.Form.{callback_name, node_name}
use Rattle.oe_graph.specs.Tree.{PlainNode}
use Rattle.oe_graph.specs.declared.code.Code.{Code}
use Rattle.oe_graph.specs.declared.code.Code.TheVariants.{ProcessParameterInvalid, ArrayElementParameterMissing, ArrayElementParameterConflict, ArrayElementNotAvailable, CellKindInvalid, CubeTooLarge}
use Rattle.oe_expr.specs.Callback.{Callback, StandsInCallbackAt}
use Rattle.oe_expr.specs.Requests.{CellRequest, cell_request_at}
use Rattle.oe_expr.specs.Rows.{parameter_missing, parameter_conflict, element_not_available, callback_cell_kind_invalid, request_fault, node_fault}
use Rattle.oe_expr.specs.Scope.{PlainScope}

-- ---- a longer name comes behind the one that it begins with

longer : (name : List ℕ) (b : ℕ) (rest : List ℕ) → slice_cmp nat_cmp (name ++ b ∷ rest) name ≡ Greater
longer [] b rest = refl
longer (c ∷ name) b rest = let same : nat_cmp c c ≡ Equal = tied_itself nat_cmp_total c in rw same (longer name b rest)

pub begins : (id argument inner : List ℕ) → node_name (callback_name id argument) inner ≡ id ++ 47 ∷ (argument ++ 47 ∷ inner)
begins [] argument inner = refl
begins (b ∷ id) argument inner = ap (λ xs. b ∷ xs) (append_assoc id (47 ∷ argument) (47 ∷ inner))

-- ---- faults of cells are of the last phase

abbrev IsLast : Code → Type 0
IsLast code = phase_of code ≡ phase_of CubeTooLarge

module _ (scope : PlainScope) (context : Cell) (at : List ℕ → Option CellKind) where
  of_request : (r : CellRequest) (code : Code) → request_fault scope context at r ≡ Some code → IsLast code
  of_request r code e = by (parameter_missing r) (parameter_conflict r) (element_not_available scope r) (callback_cell_kind_invalid scope context at r) e
    where
      by : (a b c d : Bool)
          → (if a then Some ArrayElementParameterMissing else (if b then Some ArrayElementParameterConflict else (if c then Some ArrayElementNotAvailable else (if d then Some CellKindInvalid else None)))) ≡ Some code
          → IsLast code
      by true b c d e = let same : ArrayElementParameterMissing ≡ code = cc in subst IsLast same refl
      by false true c d e = let same : ArrayElementParameterConflict ≡ code = cc in subst IsLast same refl
      by false false true d e = let same : ArrayElementNotAvailable ≡ code = cc in subst IsLast same refl
      by false false false true e = let same : CellKindInvalid ≡ code = cc in subst IsLast same refl
      by false false false false e = absurd cc

  abbrev fault_of : Option CellRequest → Option Code
  fault_of o = option_map_or (request_fault scope context at) o (Some ProcessParameterInvalid)

  of_node : (n : PlainNode) (code : Code) → node_fault scope context at n ≡ Some code → IsLast code
  of_node n code e = by (cell_request_at n) refl
    where
      by : (o : Option CellRequest) → cell_request_at n ≡ o → IsLast code
      by None f =
          let g : Some ProcessParameterInvalid ≡ Some code = sym (ap fault_of f) ∙ e in
          let same : ProcessParameterInvalid ≡ code = cc in
          subst IsLast same refl
      by (Some r) f = of_request r code (sym (ap fault_of f) ∙ e)

-- ---- both

behind : (id argument inner : List ℕ) (code : Code) → IsLast code
    → is_before (record { code = code; node = node_name (callback_name id argument) inner }) (record { code = CubeTooLarge; node = id }) ≡ false
behind id argument inner code last =
    let phases : nat_cmp (phase_of code) (phase_of CubeTooLarge) ≡ Equal =
    ap (λ k. nat_cmp k (phase_of CubeTooLarge)) last ∙ tied_itself nat_cmp_total (phase_of CubeTooLarge) in
    let names : slice_cmp nat_cmp (node_name (callback_name id argument) inner) id ≡ Greater =
    ap (λ xs. slice_cmp nat_cmp xs id) (begins id argument inner) ∙ longer id 47 (argument ++ 47 ∷ inner) in
    let numbers = nat_cmp (number_in_phase code) (number_in_phase CubeTooLarge) in
    ap (λ o. is_lt (ordering_then o (ordering_then (slice_cmp nat_cmp (node_name (callback_name id argument) inner) id) numbers))) phases
    ∙ ap (λ o. is_lt (ordering_then o numbers)) names

pub inside_later : (id argument : List ℕ) (c : Callback) (code : Code) (name : List ℕ) → StandsInCallbackAt c (callback_name id argument) code name
    → is_before (record { code = code; node = name }) (record { code = CubeTooLarge; node = id }) ≡ false
inside_later id argument c code name s =
    subst (λ xs. is_before (record { code = code; node = xs }) (record { code = CubeTooLarge; node = id }) ≡ false) (sym s.is_named)
    (behind id argument s.id code (of_node c.scope c.context _ s.at.node code s.at.first))
