-- What a program computes after it has grown by one request: the request's value, beside the values that it had.
use Rattle.std.proofs.Common.{◌≡◌, ℕ, zero, suc, ◌+◌, ◌-◌, ◌<◌, ◌≤◌, ◌^◌, ◌∷◌, [], ◌++◌, List, Bool, true, false, Option, Some, None, refl, sym, ap, ◌∙◌, subst, length, map, take, drop, get_or, codes, length-append, true≢false, arith, inl, inr, ltb, nat_lt, if◌then◌else◌}
use Rattle.std.specs.List.{All, slice_range, slice_index_or}
use Rattle.std.specs.Option.{option_map_or}
use Rattle.std.proofs.Math.ListN.{get_or-append}
use Rattle.std.proofs.Math.Seq.{get_or-append_seam, drop-append_seam}
use Rattle.std.proofs.lemmas.Bool.{cases_Bool}
use Rattle.std.proofs.lemmas.Bool.Decides.{Decides-ltb, nat_tests}
use Rattle.std.proofs.lemmas.List.{get_or-map, get_or_past, take_all, length-map}
use Rattle.oe_cell.specs.Operations.{choose_of}
use Rattle.oe_cell.specs.declared.cell.Cell.{Cell}
use Rattle.oe_cell.specs.declared.cell.Cell.TheVariants.{Empty}
use Rattle.oe_fold.specs.Value.{reduction_of}
use Rattle.oe_fold.specs.declared.reducer.Reducer.{Reducer}
use Rattle.oe_graph.specs.Tree.{PlainGraph}
use Rattle.oe_graph.specs.declared.tree.Node.{Node}
use Rattle.oe_dims.specs.Plain.{PlainLabels}
use Rattle.oe_dims.specs.declared.kind.CellKind.{CellKind}
use Rattle.std.specs.Bool.{⊤}
use Rattle.oe_expr.specs.declared.scope.ListPart.{ListPart}
use Rattle.oe_expr.specs.Callback.{Callback, callback_of, IsEnvironment, environment}
use Rattle.oe_expr.specs.Operations.{unary_of, binary_of}
use Rattle.oe_expr.specs.PlainRequests.{plain_scalar, plain_scalars}
use Rattle.oe_expr.specs.Places.{null, operand_of, indexed_place, element_place, written_place, items_place, Addition, one_step, no_step, reduction_addition, addition_of, starts_in, IsStarted, Follows, IsPlace}
use Rattle.oe_expr.specs.Programs.{Inputs, inputs_of, operand_value, step_value, register_of, start_of, HasX, HasY, HasList, IsOperand, IsProgramStep, AreSteps}
use Rattle.oe_expr.specs.Requests.{Scalar as PlainScalar, literal, of_node, of_x, of_y, of_context, Items, the_data, written, CellRequest, unary, binary, choice, reduction, element}
use Rattle.oe_expr.specs.Scope.{PlainScope, apply, reduce, merge, Environment, IsScope, AreLists, LiesWithin, Label, text, whole, label_index, count_labels, labels_in, no_labels}
use Rattle.oe_expr.specs.States.{index_named}
use Rattle.oe_expr.specs.Value.{scalar_value, items_value, items_labels, request_value, element_of, element_index, node_value_at}
use Rattle.oe_expr.specs.declared.program.Operand.{Operand}
use Rattle.oe_expr.specs.declared.program.Operand.TheVariants.{Constant, X, Y, At, Labelled, Register}
use Rattle.oe_expr.specs.declared.program.Program.{Program}
use Rattle.oe_expr.specs.declared.program.Step.{Step}
use Rattle.oe_expr.specs.declared.program.Step.TheVariants as step
use Rattle.oe_expr.specs.declared.request.Scalar.{Scalar}
use Rattle.oe_expr.proofs.FitLemmas.{Sees}
use Rattle.oe_expr.proofs.LabelLemmas.{label_element, found_element, count_in}
use Rattle.oe_expr.proofs.ProgramLemmas.{operand_agrees, step_agrees, slice_front, register_is, registers_kept}
use Rattle.oe_expr.proofs.RequestLemmas.{OfScalar, OfScalars, OfItems, OfRequest}
use Rattle.oe_memory.proofs.Lists.{append_none}

-- an element of a list that is written, by its index
pub written_at : (f : PlainScalar → Operand) (scalars : List Scalar) (index : ℕ) (s : Scalar) → index < length scalars → s ≡ get_or scalars index s
    → f (plain_scalar s) ≡ written_place (map f (plain_scalars scalars)) (Some index)
written_at f scalars index s h is =
    let long : length (map plain_scalar scalars) ≡ length scalars = length-map scalars plain_scalar in
    ap (λ (t : Scalar). f (plain_scalar t)) is
    ∙ ap f (sym (get_or-map plain_scalar scalars index s (plain_scalar s) h))
    ∙ sym (get_or-map f (map plain_scalar scalars) index (plain_scalar s) null (omega arith))

-- ---- a program that has grown

-- the number of a register, and what it holds
same_register : (elements : List Operand) (i : Inputs) (steps : List Step) (s : List Step) (more : List Operand) (q_steps : List Step) (q_elements : List Operand)
    → q_steps ≡ steps ++ s → q_elements ≡ elements ++ more → (scope : PlainScope) → AreSteps scope elements steps
    → (r : ℕ) → r < length steps → register_of q_elements i q_steps r ≡ register_of elements i steps r
same_register elements i steps s more q_steps q_elements es ee scope are r h =
    ap (λ (qs : List Step). register_of q_elements i qs r) es
    ∙ ap (λ (qe : List Operand). register_of qe i (steps ++ s) r) ee
    ∙ registers_kept scope elements more i steps s are r h

operand_higher : (scope : PlainScope) (m n : ℕ) → m ≤ n → (o : Operand) → IsOperand scope m o → IsOperand scope n o
operand_higher scope m n h (Constant c) is = is
operand_higher scope m n h X is = is
operand_higher scope m n h Y is = is
operand_higher scope m n h (At k) is = is
operand_higher scope m n h (Labelled k) is = is
operand_higher scope m n h (Register r) is = omega arith

step_wider : (scope : PlainScope) (elements more : List Operand) (n : ℕ) (s : Step) → IsProgramStep scope elements n s → IsProgramStep scope (elements ++ more) n s
step_wider scope elements more n (step.Unary f x) h = h
step_wider scope elements more n (step.Binary f x y) h = h
step_wider scope elements more n (step.Choice value accept reject) h = h
step_wider scope elements more n (step.Reduction reducer ignore) h = h
step_wider scope elements more n (step.Written reducer ignore from to) h =
    let long = length-append elements more in
    let ends = h.ends in
    record {
      rises = h.rises;
      ends = omega arith;
      few = h.few;
      each = subst (λ (os : List Operand). All (IsOperand scope n) os) (sym (slice_front elements more from to h.rises h.ends)) h.each;
    }

module _ (c : Callback) (p q : Program) (a : Addition) (follows : Follows p q a) (started : IsStarted c.scope p) where
  -- what had a value keeps it
  pub place_kept : (value : Environment → Cell) (o : Operand) → IsPlace c p value o → IsPlace c q value o
  place_kept value o place =
      let long : length q.steps.items ≡ length p.steps.items + length a.steps = ap length follows.steps ∙ length-append p.steps.items a.steps in
      let higher : length p.steps.items ≤ length q.steps.items = omega arith in
      record {
        is_operand = operand_higher c.scope (length p.steps.items) (length q.steps.items) higher o place.is_operand;
        has_value = λ x y cells list is.
            let e : Environment = environment c x y cells list in
            let starts : start_of q list ≡ start_of p list = ap (λ (s : List ℕ). slice_index_or s list 0) follows.starts in
            let i : Inputs = inputs_of e (start_of p list) in
            ap (λ (start : ℕ). operand_value (inputs_of e start) (register_of q.elements.items (inputs_of e start) q.steps.items) o) starts
            ∙ operand_agrees c.scope i (length p.steps.items) (register_of q.elements.items i q.steps.items) (register_of p.elements.items i p.steps.items)
            (same_register p.elements.items i p.steps.items a.steps a.elements q.steps.items q.elements.items follows.steps follows.elements c.scope started.steps) o place.is_operand
            ∙ place.has_value x y cells list is;
      }

-- one step more
module _ (c : Callback) (p q : Program) (more : List Operand) (s : Step) (follows : Follows p q (one_step (length p.steps.items) more s)) (started : IsStarted c.scope p)
    (safe : IsProgramStep c.scope (p.elements.items ++ more) (length p.steps.items) s) where
  steps_after : AreSteps c.scope (p.elements.items ++ more) (p.steps.items ++ s ∷ [])
  steps_after k d h = elim (cases_Bool (ltb k (length p.steps.items))) [
    | inl e ↦
        let before : k < length p.steps.items = (Decides-ltb k (length p.steps.items)).0 e in
        subst (λ (t : Step). IsProgramStep c.scope (p.elements.items ++ more) k t) (sym (get_or-append p.steps.items (s ∷ []) d k before))
        (step_wider c.scope p.elements.items more k (get_or p.steps.items k d) (started.steps k d before))
    | inr e ↦
        let long = length-append p.steps.items (s ∷ []) in
        let past : length p.steps.items ≤ k = grind (arith, nat_tests) in
        let here : length p.steps.items ≡ k = omega arith in
        subst (λ (n : ℕ). IsProgramStep c.scope (p.elements.items ++ more) n (get_or (p.steps.items ++ s ∷ []) n d)) here
        (subst (λ (t : Step). IsProgramStep c.scope (p.elements.items ++ more) (length p.steps.items) t) (sym (get_or-append_seam p.steps.items s [] d)) safe)
  ]

  pub started_after : IsStarted c.scope q
  started_after = record {
    steps = subst (λ (steps : List Step). AreSteps c.scope q.elements.items steps) (sym follows.steps)
        (subst (λ (elements : List Operand). AreSteps c.scope elements (p.steps.items ++ s ∷ [])) (sym follows.elements) steps_after);
    starts = follows.starts ∙ started.starts;
  }

  -- has the value that it gives
  pub place_after : (value : Environment → Cell)
      → ((x y : Cell) (cells : List Cell) (list : ℕ) → IsEnvironment c x y cells list
      → step_value (p.elements.items ++ more) (inputs_of (environment c x y cells list) (start_of p list))
      (register_of p.elements.items (inputs_of (environment c x y cells list) (start_of p list)) p.steps.items) s ≡ value (environment c x y cells list))
      → IsPlace c q value (Register (length p.steps.items))
  place_after value gives =
      let long : length q.steps.items ≡ length p.steps.items + 1 = ap length follows.steps ∙ length-append p.steps.items (s ∷ []) in
      record {
        is_operand = omega arith;
        has_value = λ x y cells list is.
            let e : Environment = environment c x y cells list in
            let i : Inputs = inputs_of e (start_of p list) in
            let starts : start_of q list ≡ start_of p list = ap (λ (ss : List ℕ). slice_index_or ss list 0) follows.starts in
            let n : ℕ = length p.steps.items in
            let within : n < length (p.steps.items ++ s ∷ []) = let l = length-append p.steps.items (s ∷ []) in omega arith in
            ap (λ (start : ℕ). register_of q.elements.items (inputs_of e start) q.steps.items n) starts
            ∙ ap (λ (steps : List Step). register_of q.elements.items i steps n) follows.steps
            ∙ ap (λ (elements : List Operand). register_of elements i (p.steps.items ++ s ∷ []) n) follows.elements
            ∙ register_is (p.elements.items ++ more) i c.scope (p.steps.items ++ s ∷ []) steps_after n s within
            ∙ ap (step_value (p.elements.items ++ more) i (register_of (p.elements.items ++ more) i (p.steps.items ++ s ∷ []))) (get_or-append_seam p.steps.items s [] s)
            ∙ step_agrees c.scope i n (register_of (p.elements.items ++ more) i (p.steps.items ++ s ∷ [])) (register_of p.elements.items i p.steps.items)
            (registers_kept c.scope p.elements.items more i p.steps.items (s ∷ []) started.steps) (p.elements.items ++ more) s safe
            ∙ gives x y cells list is;
      }

-- ---- where scalars are taken from

-- the node of a name has a place with its value
pub record HasPlace (c : Callback) (p : Program) (nodes : List Node) (places : List Operand) (name : List ℕ) : Type 0 where
  pub index : ℕ
  pub is_index : index_named nodes name ≡ Some index
  pub is_place : IsPlace c p (λ (e : Environment). node_value_at e c.graph.nodes name) (get_or places index null)

sees_x : (scope : PlainScope) → Sees scope (codes "x") → HasX scope
sees_x (apply kind) seen = tt
sees_x (reduce kind labels lists) seen = absurd (true≢false (sym seen))
sees_x (merge kind) seen = tt

sees_y : (scope : PlainScope) → Sees scope (codes "y") → HasY scope
sees_y (apply kind) seen = absurd (true≢false (sym seen))
sees_y (reduce kind labels lists) seen = absurd (true≢false (sym seen))
sees_y (merge kind) seen = tt

sees_data : (scope : PlainScope) → Sees scope (codes "data") → HasList scope
sees_data (apply kind) seen = absurd (true≢false (sym seen))
sees_data (reduce kind labels lists) seen = tt
sees_data (merge kind) seen = absurd (true≢false (sym seen))

module _ (c : Callback) (p : Program) (nodes : List Node) (places : List Operand) where
  abbrev Values : Environment → List ℕ → Cell
  Values e name = node_value_at e c.graph.nodes name

  pub scalar_place : (s : PlainScalar) → OfScalar (HasPlace c p nodes places) (Sees c.scope) s → IsPlace c p (λ (e : Environment). scalar_value e (Values e) s) (operand_of c.context nodes places s)
  scalar_place (literal v) h = record { is_operand = tt; has_value = λ x y cells list is. refl }
  scalar_place (of_node id) h =
      subst (λ (found : Option ℕ). IsPlace c p (λ (e : Environment). node_value_at e c.graph.nodes id) (option_map_or (λ (k : ℕ). slice_index_or places k null) found null)) (sym h.is_index) h.is_place
  scalar_place of_x h = record { is_operand = sees_x c.scope h; has_value = λ x y cells list is. refl }
  scalar_place of_y h = record { is_operand = sees_y c.scope h; has_value = λ x y cells list is. refl }
  scalar_place of_context h = record { is_operand = tt; has_value = λ x y cells list is. refl }

  scalars_operands : (ss : List PlainScalar) → OfScalars (HasPlace c p nodes places) (Sees c.scope) ss → All (IsOperand c.scope (length p.steps.items)) (map (operand_of c.context nodes places) ss)
  scalars_operands [] h k d below = absurd (omega arith)
  scalars_operands (s ∷ ss) h zero d below = (scalar_place s h.0).is_operand
  scalars_operands (s ∷ ss) h (suc k) d below = scalars_operands ss h.1 k d (omega arith)

  module _ (x y : Cell) (cells : List Cell) (list : ℕ) (is : IsEnvironment c x y cells list) where
    abbrev E : Environment
    E = environment c x y cells list

    abbrev I : Inputs
    I = inputs_of (environment c x y cells list) (start_of p list)

    abbrev R : ℕ → Cell
    R = register_of p.elements.items (inputs_of (environment c x y cells list) (start_of p list)) p.steps.items

    scalars_values : (ss : List PlainScalar) → OfScalars (HasPlace c p nodes places) (Sees c.scope) ss
        → map (operand_value I R) (map (operand_of c.context nodes places) ss) ≡ map (scalar_value E (Values E)) ss
    scalars_values [] h = refl
    scalars_values (s ∷ ss) h =
        let one : operand_value I R (operand_of c.context nodes places s) ≡ scalar_value E (Values E) s = (scalar_place s h.0).has_value x y cells list is in
        let rest : map (operand_value I R) (map (operand_of c.context nodes places) ss) ≡ map (scalar_value E (Values E)) ss = scalars_values ss h.1 in
        cc

  -- ---- an element of a list

  null_place : (value : Environment → Cell) → ((e : Environment) → Empty ≡ value e) → IsPlace c p value null
  null_place value none = record { is_operand = tt; has_value = λ x y cells list is. none (environment c x y cells list) }

  written_element : (ss : List PlainScalar) → OfScalars (HasPlace c p nodes places) (Sees c.scope) ss → (index : ℕ)
      → IsPlace c p (λ (e : Environment). slice_index_or (map (scalar_value e (Values e)) ss) index Empty) (slice_index_or (map (operand_of c.context nodes places) ss) index null)
  written_element [] h index = null_place (λ (e : Environment). Empty) (λ e. refl)
  written_element (s ∷ ss) h zero = scalar_place s h.0
  written_element (s ∷ ss) h (suc index) = written_element ss h.1 index

-- ---- an element of the scope's list

found_operand : (kind : CellKind) (labels : PlainLabels) (lists : List ListPart) (n : ℕ) (found : Option ℕ) → IsOperand (reduce kind labels lists) n (option_map_or Labelled found null)
found_operand kind labels lists n None = tt
found_operand kind labels lists n (Some k) = tt

found_value : (i : Inputs) (at : ℕ → Cell) (found : Option ℕ) → operand_value i at (option_map_or Labelled found null) ≡ found_element i.cells i.start found
found_value i at None = refl
found_value i at (Some k) = refl

module _ (g : PlainGraph) (kind : CellKind) (labels : PlainLabels) (lists : List ListPart) (context : Cell) (p : Program) (starts : p.starts.items ≡ map (λ (part : ListPart). part.from) lists) (scope : AreLists labels lists) where
  abbrev C : Callback
  C = callback_of g (reduce kind labels lists) context

  module _ (x y : Cell) (cells : List Cell) (list : ℕ) (is : IsEnvironment (callback_of g (reduce kind labels lists) context) x y cells list) where
    abbrev Part : ListPart
    Part = get_or lists list (record { from = 0; to = 0 })

    part_lies : LiesWithin (count_labels labels) Part
    part_lies = scope.within list (record { from = 0; to = 0 }) is.list_is

    labels_are : slice_index_or (map (labels_in labels) lists) list no_labels ≡ labels_in labels Part
    labels_are = get_or-map (labels_in labels) lists list (record { from = 0; to = 0 }) no_labels is.list_is

    cells_are : length cells ≡ Part.to - Part.from
    cells_are = is.cells_fit.as_many ∙ ap count_labels labels_are ∙ count_in labels Part part_lies

    start_is : start_of p list ≡ Part.from
    start_is = ap (λ (s : List ℕ). slice_index_or s list 0) starts ∙ get_or-map (λ (part : ListPart). part.from) lists list (record { from = 0; to = 0 }) 0 is.list_is

    labelled_value : (label : Label) → element_of cells (label_index (slice_index_or (map (labels_in labels) lists) list no_labels) label) ≡ found_element cells (start_of p list) (label_index labels label)
    labelled_value label =
        ap (λ (ls : PlainLabels). element_of cells (label_index ls label)) labels_are
        ∙ label_element Part cells cells_are labels label scope.distinct part_lies
        ∙ ap (λ (from : ℕ). found_element cells from (label_index labels label)) (sym start_is)

    past_all : (index : ℕ) → nat_lt index (2 ^ 32) ≡ false → get_or cells index Empty ≡ Empty
    past_all index e =
        let high : 2 ^ 32 ≤ index = grind (arith, nat_tests) in
        let few = scope.few_labels in
        let long = cells_are in
        let ends = part_lies.ends in
        get_or_past cells index Empty (omega arith)

  indexed_data : (index : ℕ) → IsPlace (callback_of g (reduce kind labels lists) context) p (λ (e : Environment). slice_index_or e.cells index Empty) (indexed_place index)
  indexed_data index = by (nat_lt index (2 ^ 32)) refl
    where
      by : (b : Bool) → nat_lt index (2 ^ 32) ≡ b
          → IsPlace (callback_of g (reduce kind labels lists) context) p (λ (e : Environment). slice_index_or e.cells index Empty) (if b then At index else null)
      by true e = record { is_operand = tt; has_value = λ x y cells list is. refl }
      by false e = record { is_operand = tt; has_value = λ x y cells list is. sym (past_all x y cells list is index e) }

  pub reduce_element : (index : Option ℕ) (label : Option Label)
      → IsPlace (callback_of g (reduce kind labels lists) context) p (λ (e : Environment). element_of e.cells (element_index e.labels index label)) (element_place (reduce kind labels lists) index label)
  reduce_element (Some index) label = indexed_data index
  reduce_element None (Some label) = record {
    is_operand = found_operand kind labels lists (length p.steps.items) (label_index labels label);
    has_value = λ x y cells list is.
        found_value (inputs_of (environment (callback_of g (reduce kind labels lists) context) x y cells list) (start_of p list))
        (register_of p.elements.items (inputs_of (environment (callback_of g (reduce kind labels lists) context) x y cells list) (start_of p list)) p.steps.items) (label_index labels label)
        ∙ sym (labelled_value x y cells list is label);
  }
  reduce_element None None = record { is_operand = tt; has_value = λ x y cells list is. refl }

pub data_element : (g : PlainGraph) (scope : PlainScope) (context : Cell) (p : Program) → p.starts.items ≡ starts_in scope → IsScope scope → HasList scope → (index : Option ℕ) (label : Option Label)
    → IsPlace (callback_of g scope context) p (λ (e : Environment). element_of e.cells (element_index e.labels index label)) (element_place scope index label)
data_element g (apply kind) context p starts is has index label = absurd has
data_element g (reduce kind labels lists) context p starts is has index label = reduce_element g kind labels lists context p starts is index label
data_element g (merge kind) context p starts is has index label = absurd has

-- ---- requests

-- lists that are written have at most 64 elements
abbrev pub HasFew : Items → Type 0
HasFew the_data = ⊤
HasFew (written ss) = length ss ≤ 64

abbrev pub AsksFew : CellRequest → Type 0
AsksFew (unary f x) = ⊤
AsksFew (binary f x y) = ⊤
AsksFew (choice value accept reject) = ⊤
AsksFew (reduction reducer ignore items) = HasFew items
AsksFew (element items index label return_nodata) = HasFew items

slice_back : {A : Type 0} (xs ys : List A) (m : ℕ) → length ys ≡ m → slice_range (xs ++ ys) (length xs) (length xs + m) ≡ ys
slice_back xs ys m h =
    let count : length xs + m - length xs ≡ m = omega arith in
    ap (λ (k : ℕ). take k (drop (length xs) (xs ++ ys))) count ∙ ap (take m) (drop-append_seam xs ys) ∙ take_all m ys (omega arith)

-- the program after a request
pub record HasGrown (c : Callback) (q : Program) (value : Environment → Cell) (o : Operand) : Type 0 where
  pub started : IsStarted c.scope q
  pub place : IsPlace c q value o

module _ (g : PlainGraph) (scope : PlainScope) (context : Cell) (p q : Program) (nodes : List Node) (places : List Operand) (started : IsStarted scope p) (is_scope : IsScope scope) where
  abbrev D : Callback
  D = callback_of g scope context

  abbrev V : Environment → List ℕ → Cell
  V e name = node_value_at e g.nodes name

  abbrev Asked : CellRequest → Type 0
  Asked r = OfRequest (HasPlace (callback_of g scope context) p nodes places) (Sees scope) r

  one_more : (value : Environment → Cell) (more : List Operand) (s : Step) → Follows p q (one_step (length p.steps.items) more s) → IsProgramStep scope (p.elements.items ++ more) (length p.steps.items) s
      → ((x y : Cell) (cells : List Cell) (list : ℕ) → IsEnvironment (callback_of g scope context) x y cells list
      → step_value (p.elements.items ++ more) (inputs_of (environment (callback_of g scope context) x y cells list) (start_of p list))
      (register_of p.elements.items (inputs_of (environment (callback_of g scope context) x y cells list) (start_of p list)) p.steps.items) s ≡ value (environment (callback_of g scope context) x y cells list))
      → HasGrown (callback_of g scope context) q value (Register (length p.steps.items))
  one_more value more s follows safe gives = record {
    started = started_after D p q more s follows started safe;
    place = place_after D p q more s follows started safe value gives;
  }

  pub none_more : (value : Environment → Cell) (o : Operand) → Follows p q (no_step o) → IsPlace (callback_of g scope context) p value o → HasGrown (callback_of g scope context) q value o
  none_more value o follows place = record {
    started = record {
      steps = subst (λ (steps : List Step). AreSteps scope q.elements.items steps) (sym (follows.steps ∙ append_none p.steps.items))
          (subst (λ (elements : List Operand). AreSteps scope elements p.steps.items) (sym (follows.elements ∙ append_none p.elements.items)) started.steps);
      starts = follows.starts ∙ started.starts;
    };
    place = place_kept D p q (no_step o) follows started value o place;
  }

  reduction_grown : (reducer : Reducer) (ignore : Bool) (items : Items) → OfItems (HasPlace (callback_of g scope context) p nodes places) (Sees scope) items → HasFew items
      → Follows p q (reduction_addition context nodes places (length p.steps.items) (length p.elements.items) reducer ignore items)
      → HasGrown (callback_of g scope context) q (λ (e : Environment). reduction_of reducer ignore (items_value e (V e) items))
      (reduction_addition context nodes places (length p.steps.items) (length p.elements.items) reducer ignore items).place
  reduction_grown reducer ignore the_data h few follows =
      one_more (λ (e : Environment). reduction_of reducer ignore e.cells) [] (step.Reduction reducer ignore) follows (sees_data scope h) (λ x y cells list is. refl)
  reduction_grown reducer ignore (written ss) h few follows =
      let more : List Operand = map (operand_of context nodes places) ss in
      let from : ℕ = length p.elements.items in
      let count : length more ≡ length ss = length-map ss (operand_of context nodes places) in
      let all : length (p.elements.items ++ more) ≡ from + length more = length-append p.elements.items more in
      let back : slice_range (p.elements.items ++ more) from (from + length ss) ≡ more = slice_back p.elements.items more (length ss) count in
      one_more (λ (e : Environment). reduction_of reducer ignore (map (scalar_value e (V e)) ss)) more (step.Written reducer ignore from (from + length ss)) follows
      (record {
        rises = omega arith;
        ends = omega arith;
        few = omega arith;
        each = subst (λ (os : List Operand). All (IsOperand scope (length p.steps.items)) os) (sym back) (scalars_operands D p nodes places ss h);
      })
      (λ x y cells list is.
      let i : Inputs = inputs_of (environment D x y cells list) (start_of p list) in
      ap (reduction_of reducer ignore) (ap (map (operand_value i (register_of p.elements.items i p.steps.items))) back ∙ scalars_values D p nodes places x y cells list is ss h))

  no_label : (label : Option Label) → element_index no_labels None label ≡ None
  no_label None = refl
  no_label (Some (text t)) = refl
  no_label (Some (whole z)) = refl

  element_grown : (items : Items) (index : Option ℕ) (label : Option Label) → OfItems (HasPlace (callback_of g scope context) p nodes places) (Sees scope) items
      → Follows p q (no_step (items_place scope context nodes places items index label))
      → HasGrown (callback_of g scope context) q (λ (e : Environment). element_of (items_value e (V e) items) (element_index (items_labels e items) index label))
      (items_place scope context nodes places items index label)
  element_grown the_data index label h follows =
      none_more (λ (e : Environment). element_of e.cells (element_index e.labels index label)) (element_place scope index label) follows
      (data_element g scope context p started.starts is_scope (sees_data scope h) index label)
  element_grown (written ss) (Some index) label h follows =
      none_more (λ (e : Environment). slice_index_or (map (scalar_value e (V e)) ss) index Empty) (slice_index_or (map (operand_of context nodes places) ss) index null) follows
      (written_element D p nodes places ss h index)
  element_grown (written ss) None label h follows =
      none_more (λ (e : Environment). element_of (map (scalar_value e (V e)) ss) (element_index no_labels None label)) null follows
      (null_place D p nodes places (λ (e : Environment). element_of (map (scalar_value e (V e)) ss) (element_index no_labels None label))
      (λ e. ap (element_of (map (scalar_value e (V e)) ss)) (sym (no_label label))))

  pub request_grown : (r : CellRequest) → OfRequest (HasPlace (callback_of g scope context) p nodes places) (Sees scope) r → AsksFew r
      → Follows p q (addition_of scope context nodes places (length p.steps.items) (length p.elements.items) r)
      → HasGrown (callback_of g scope context) q (λ (e : Environment). request_value e (λ (name : List ℕ). node_value_at e g.nodes name) r)
      (addition_of scope context nodes places (length p.steps.items) (length p.elements.items) r).place
  request_grown (unary f x) h few follows =
      let px = scalar_place D p nodes places x h in
      one_more (λ (e : Environment). unary_of f (scalar_value e (V e) x)) [] (step.Unary f (operand_of context nodes places x)) follows px.is_operand
      (λ a b cells list is. ap (unary_of f) (px.has_value a b cells list is))
  request_grown (binary f x y) h few follows =
      let px = scalar_place D p nodes places x h.0 in
      let py = scalar_place D p nodes places y h.1 in
      one_more (λ (e : Environment). binary_of f (scalar_value e (V e) x) (scalar_value e (V e) y)) [] (step.Binary f (operand_of context nodes places x) (operand_of context nodes places y)) follows
      (px.is_operand, py.is_operand)
      (λ a b cells list is. let ex = px.has_value a b cells list is in let ey = py.has_value a b cells list is in rw (ex, ey) refl)
  request_grown (choice value accept reject) h few follows =
      let pv = scalar_place D p nodes places value h.0 in
      let pa = scalar_place D p nodes places accept h.1 in
      let pr = scalar_place D p nodes places reject h.2 in
      one_more (λ (e : Environment). choose_of (scalar_value e (V e) value) (scalar_value e (V e) accept) (scalar_value e (V e) reject)) []
      (step.Choice (operand_of context nodes places value) (operand_of context nodes places accept) (operand_of context nodes places reject)) follows
      (pv.is_operand, pa.is_operand, pr.is_operand)
      (λ a b cells list is.
      let ev = pv.has_value a b cells list is in let ea = pa.has_value a b cells list is in let er = pr.has_value a b cells list is in rw (ev, ea, er) refl)
  request_grown (reduction reducer ignore items) h few follows = reduction_grown reducer ignore items h few follows
  request_grown (element items index label return_nodata) h few follows = element_grown items index label h follows
