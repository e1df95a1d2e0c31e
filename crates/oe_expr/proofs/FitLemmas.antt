-- A checked callback never meets a cell of a wrong kind: where no row of kinds holds, each value is of its node's kind.
use Rattle.std.proofs.Common.{◌≡◌, ℕ, zero, suc, ◌∷◌, [], List, Bool, true, false, Option, Some, None, refl, sym, subst, map, codes, ◌&&◌, ◌||◌, true≢false}
use Rattle.std.specs.List.{list_any, list_all, AllByRecursion}
use Rattle.std.specs.List.{slice_index_or}
use Rattle.oe_fold.specs.Reduction.{is_count}
use Rattle.std.proofs.lemmas.List.Elements.{All-from_recursion, recursion_from_All}
use Rattle.oe_cell.specs.Kinds.{IsNumeric, IsLogical}
use Rattle.oe_cell.specs.Operations.{choose_of}
use Rattle.oe_cell.proofs.KindLemmas.{IsNumeric-add_of, IsNumeric-subtract_of, IsNumeric-multiply_of, IsNumeric-divide_of, IsNumeric-modulo_of, IsNumeric-floor_of, IsNumeric-ceil_of, IsNumeric-int_of, IsNumeric-absolute_of, IsNumeric-sgn_of, IsLogical-gt_of, IsLogical-gte_of, IsLogical-lt_of, IsLogical-lte_of, IsLogical-and_of, IsLogical-or_of, IsLogical-xor_of, IsLogical-eq_of, IsLogical-not_of, IsLogical-neq_of, choose_of-keeps}
use Rattle.oe_cell.specs.declared.cell.Cell.{Cell}
use Rattle.oe_cell.specs.declared.cell.Cell.TheVariants.{Empty, Flag, Number, Over}
use Rattle.oe_dims.specs.Names.{same_name}
use Rattle.oe_dims.specs.declared.kind.CellKind.{CellKind}
use Rattle.oe_dims.specs.declared.kind.CellKind.TheVariants.{Numbers, Flags}
use Rattle.oe_fold.proofs.KindLemmas.{IsLogical-reduction_of, IsNumeric-reduction_of, IsNumeric-count}
use Rattle.oe_fold.specs.Value.{reduction_of}
use Rattle.oe_fold.specs.declared.reducer.Reducer.{Reducer}
use Rattle.oe_fold.specs.declared.reducer.Reducer.TheVariants.{Sum, Product, Mean, Min, Max, Median, First, Last, Any, All as EveryOne, Count, CountAll}
use Rattle.oe_cube.specs.Kinds.{IsOfKind}
use Rattle.oe_expr.specs.Kinds.{FitsKind, literal_kind, is_numbers, is_flags, are_mixed, kind_among}
use Rattle.oe_expr.specs.NodeKinds.{x_kind, y_kind, data_kind, scalar_kind, items_kinds, request_kind}
use Rattle.oe_expr.specs.Operations.{unary_of, binary_of, unary_gives, binary_gives, reducer_takes, reducer_gives}
use Rattle.oe_expr.specs.Requests.{Scalar, literal, of_node, of_x, of_y, of_context, Items, the_data, written, CellRequest, unary, binary, choice, reduction, element}
use Rattle.oe_expr.specs.Rows.{callback_cell_kind_invalid}
use Rattle.oe_expr.specs.Scope.{PlainScope, apply, reduce, merge, scope_parameters, Environment, IsEnvironmentOf}
use Rattle.oe_expr.specs.Value.{scalar_value, items_value, request_value, element_of}
use Rattle.oe_expr.specs.declared.operation.Unary.{Unary}
use Rattle.oe_expr.specs.declared.operation.Unary.TheVariants.{Absolute, Sgn, Floor, Ceil, Int, Not}
use Rattle.oe_expr.specs.declared.operation.Binary.{Binary}
use Rattle.oe_expr.specs.declared.operation.Binary.TheVariants.{Add, Subtract, Multiply, Divide, Modulo, Equal, NotEqual, Greater, GreaterOrEqual, Less, LessOrEqual, And, Or, Xor}
use Rattle.oe_expr.proofs.RequestLemmas.{OfScalar, OfScalars, OfItems, OfRequest}

-- ---- operations

pub unary_fits : (f : Unary) (x : Cell) → IsOfKind (unary_gives f) (unary_of f x)
unary_fits Absolute x = IsNumeric-absolute_of x
unary_fits Sgn x = IsNumeric-sgn_of x
unary_fits Floor x = IsNumeric-floor_of x
unary_fits Ceil x = IsNumeric-ceil_of x
unary_fits Int x = IsNumeric-int_of x
unary_fits Not x = IsLogical-not_of x

pub binary_fits : (f : Binary) (x y : Cell) → IsOfKind (binary_gives f) (binary_of f x y)
binary_fits Add x y = IsNumeric-add_of x y
binary_fits Subtract x y = IsNumeric-subtract_of x y
binary_fits Multiply x y = IsNumeric-multiply_of x y
binary_fits Divide x y = IsNumeric-divide_of x y
binary_fits Modulo x y = IsNumeric-modulo_of x y
binary_fits Equal x y = IsLogical-eq_of x y
binary_fits NotEqual x y = IsLogical-neq_of x y
binary_fits Greater x y = IsLogical-gt_of x y
binary_fits GreaterOrEqual x y = IsLogical-gte_of x y
binary_fits Less x y = IsLogical-lt_of x y
binary_fits LessOrEqual x y = IsLogical-lte_of x y
binary_fits And x y = IsLogical-and_of x y
binary_fits Or x y = IsLogical-or_of x y
binary_fits Xor x y = IsLogical-xor_of x y

-- ---- kinds that are not mixed

fits_empty : (kind : Option CellKind) → FitsKind kind Empty
fits_empty None = (tt, tt)
fits_empty (Some Numbers) = tt
fits_empty (Some Flags) = tt

fits_over : (kind : Option CellKind) → FitsKind kind Over
fits_over None = (tt, tt)
fits_over (Some Numbers) = tt
fits_over (Some Flags) = tt

-- open, or the other kind
abbrev pub agrees : Option CellKind → Option CellKind → Bool
agrees all None = true
agrees None (Some kind) = false
agrees (Some Numbers) (Some Numbers) = true
agrees (Some Flags) (Some Flags) = true
agrees (Some Numbers) (Some Flags) = false
agrees (Some Flags) (Some Numbers) = false

fits_all : (all kind : Option CellKind) (c : Cell) → agrees all kind ≡ true → FitsKind kind c → FitsKind all c
fits_all None None c a h = h
fits_all (Some Numbers) None c a h = h.0
fits_all (Some Flags) None c a h = h.1
fits_all None (Some kind) c a h = absurd (true≢false (sym a))
fits_all (Some Numbers) (Some Numbers) c a h = h
fits_all (Some Flags) (Some Flags) c a h = h
fits_all (Some Numbers) (Some Flags) c a h = absurd (true≢false (sym a))
fits_all (Some Flags) (Some Numbers) c a h = absurd (true≢false (sym a))

or_false : (a b : Bool) → (a || b) ≡ false → b ≡ false
or_false true b e = absurd (true≢false e)
or_false false b e = e

-- behind numbers stand no flags, and behind flags no numbers
behind_numbers : (kinds : List (Option CellKind)) → list_any is_flags kinds ≡ false → list_all (agrees (Some Numbers)) kinds ≡ true
behind_numbers [] e = refl
behind_numbers (None ∷ kinds) e = behind_numbers kinds e
behind_numbers (Some Numbers ∷ kinds) e = behind_numbers kinds e
behind_numbers (Some Flags ∷ kinds) e = absurd (true≢false e)

behind_flags : (kinds : List (Option CellKind)) → list_any is_numbers kinds ≡ false → list_all (agrees (Some Flags)) kinds ≡ true
behind_flags [] e = refl
behind_flags (None ∷ kinds) e = behind_flags kinds e
behind_flags (Some Flags ∷ kinds) e = behind_flags kinds e
behind_flags (Some Numbers ∷ kinds) e = absurd (true≢false e)

and_false : (a : Bool) → (a && true) ≡ false → a ≡ false
and_false true e = e
and_false false e = refl

pub unmixed_agree : (kinds : List (Option CellKind)) → are_mixed kinds ≡ false → list_all (agrees (kind_among kinds)) kinds ≡ true
unmixed_agree [] e = refl
unmixed_agree (None ∷ kinds) e = unmixed_agree kinds e
unmixed_agree (Some Numbers ∷ kinds) e = behind_numbers kinds e
unmixed_agree (Some Flags ∷ kinds) e = behind_flags kinds (and_false (list_any is_numbers kinds) e)

-- ---- scalars and lists

literal_fits : (c : Cell) → FitsKind (literal_kind c) c
literal_fits Empty = (tt, tt)
literal_fits (Flag b) = tt
literal_fits (Number q) = tt
literal_fits Over = (tt, tt)

abbrev pub Sees : PlainScope → List ℕ → Type 0
Sees scope name = list_any (same_name name) (scope_parameters scope) ≡ true

x_fits : (scope : PlainScope) (e : Environment) → IsEnvironmentOf scope e → Sees scope (codes "x") → FitsKind (x_kind scope) e.x
x_fits (apply kind) e fits seen = fits
x_fits (reduce kind labels lists) e fits seen = absurd (true≢false (sym seen))
x_fits (merge kind) e fits seen = fits.0

y_fits : (scope : PlainScope) (e : Environment) → IsEnvironmentOf scope e → Sees scope (codes "y") → FitsKind (y_kind scope) e.y
y_fits (apply kind) e fits seen = absurd (true≢false (sym seen))
y_fits (reduce kind labels lists) e fits seen = absurd (true≢false (sym seen))
y_fits (merge kind) e fits seen = fits.1

data_fits : (scope : PlainScope) (e : Environment) → IsEnvironmentOf scope e → Sees scope (codes "data") → AllByRecursion (FitsKind (data_kind scope)) e.cells
data_fits (apply kind) e fits seen = absurd (true≢false (sym seen))
data_fits (reduce kind labels lists) e fits seen = recursion_from_All (IsOfKind kind) e.cells fits.of_kind
data_fits (merge kind) e fits seen = absurd (true≢false (sym seen))

module _ (scope : PlainScope) (context : Cell) (e : Environment) (fits : IsEnvironmentOf scope e) (same_context : e.context ≡ context)
    (kinds : List ℕ → Option CellKind) (values : List ℕ → Cell) where
  abbrev pub NodeFits : List ℕ → Type 0
  NodeFits id = FitsKind (kinds id) (values id)

  scalar_fits : (s : Scalar) → OfScalar NodeFits (Sees scope) s → FitsKind (scalar_kind scope context kinds s) (scalar_value e values s)
  scalar_fits (literal c) h = literal_fits c
  scalar_fits (of_node id) h = h
  scalar_fits of_x h = x_fits scope e fits h
  scalar_fits of_y h = y_fits scope e fits h
  scalar_fits of_context h = subst (λ c. FitsKind (literal_kind c) e.context) same_context (literal_fits e.context)

  -- each element is of a kind that all agree with
  scalars_fit : (all : Option CellKind) (ss : List Scalar) → OfScalars NodeFits (Sees scope) ss
      → list_all (agrees all) (map (scalar_kind scope context kinds) ss) ≡ true → AllByRecursion (FitsKind all) (map (scalar_value e values) ss)
  scalars_fit all [] h a = tt
  scalars_fit all (s ∷ ss) h a = by (agrees all (scalar_kind scope context kinds s)) refl a (λ rest. scalars_fit all ss h.1 rest)
    where
      by : (b : Bool) → agrees all (scalar_kind scope context kinds s) ≡ b
          → (b && list_all (agrees all) (map (scalar_kind scope context kinds) ss)) ≡ true
          → (list_all (agrees all) (map (scalar_kind scope context kinds) ss) ≡ true → AllByRecursion (FitsKind all) (map (scalar_value e values) ss))
          → AllByRecursion (FitsKind all) (map (scalar_value e values) (s ∷ ss))
      by true t rest later = (fits_all all _ _ t (scalar_fits s h.0), later rest)
      by false f rest later = absurd (true≢false (sym rest))

  each_all : (all kind : Option CellKind) (cs : List Cell) → agrees all kind ≡ true → AllByRecursion (FitsKind kind) cs → AllByRecursion (FitsKind all) cs
  each_all all kind [] a h = tt
  each_all all kind (c ∷ cs) a h = (fits_all all kind c a h.0, each_all all kind cs a h.1)

  first_true : (a b : Bool) → (a && b) ≡ true → a ≡ true
  first_true true b e = refl
  first_true false b e = e

  items_fit : (all : Option CellKind) (items : Items) → OfItems NodeFits (Sees scope) items
      → list_all (agrees all) (items_kinds scope context kinds items) ≡ true → AllByRecursion (FitsKind all) (items_value e values items)
  items_fit all the_data h a =
      each_all all (data_kind scope) e.cells (first_true (agrees all (data_kind scope)) true a) (data_fits scope e fits h)
  items_fit all (written ss) h a = scalars_fit all ss h a

  -- ---- reductions, elements and choices

  second_true : (a b : Bool) → (a && b) ≡ true → b ≡ true
  second_true true b e = e
  second_true false b e = absurd (true≢false (sym e))

  reduced_fits : (all : Option CellKind) (r : Reducer) (ignore : Bool) (cs : List Cell) → is_count r ≡ false → AllByRecursion (FitsKind all) cs
      → FitsKind all (reduction_of r ignore cs)
  reduced_fits (Some Numbers) r ignore cs n h = IsNumeric-reduction_of r ignore cs (All-from_recursion IsNumeric cs h)
  reduced_fits (Some Flags) r ignore cs n h = IsLogical-reduction_of r ignore cs n (All-from_recursion IsLogical cs h)
  reduced_fits None r ignore cs n h = (
    IsNumeric-reduction_of r ignore cs (All-from_recursion IsNumeric cs (firsts cs h)),
    IsLogical-reduction_of r ignore cs n (All-from_recursion IsLogical cs (seconds cs h)),
  )
    where
      firsts : (cs : List Cell) → AllByRecursion (FitsKind None) cs → AllByRecursion IsNumeric cs
      firsts [] h = tt
      firsts (c ∷ cs) h = (h.0.0, firsts cs h.1)

      seconds : (cs : List Cell) → AllByRecursion (FitsKind None) cs → AllByRecursion IsLogical cs
      seconds [] h = tt
      seconds (c ∷ cs) h = (h.0.1, seconds cs h.1)

  reduction_fits : (r : Reducer) (ignore : Bool) (items : Items) → OfItems NodeFits (Sees scope) items
      → are_mixed (reducer_takes r ∷ items_kinds scope context kinds items) ≡ false
      → FitsKind (kind_among (reducer_gives r ∷ items_kinds scope context kinds items)) (reduction_of r ignore (items_value e values items))
  reduction_fits Sum ignore items h m = reduced_fits (Some Numbers) Sum ignore _ refl (items_fit (Some Numbers) items h (unmixed_agree (Some Numbers ∷ items_kinds scope context kinds items) m))
  reduction_fits Product ignore items h m = reduced_fits (Some Numbers) Product ignore _ refl (items_fit (Some Numbers) items h (unmixed_agree (Some Numbers ∷ items_kinds scope context kinds items) m))
  reduction_fits Mean ignore items h m = reduced_fits (Some Numbers) Mean ignore _ refl (items_fit (Some Numbers) items h (unmixed_agree (Some Numbers ∷ items_kinds scope context kinds items) m))
  reduction_fits Min ignore items h m = reduced_fits (Some Numbers) Min ignore _ refl (items_fit (Some Numbers) items h (unmixed_agree (Some Numbers ∷ items_kinds scope context kinds items) m))
  reduction_fits Max ignore items h m = reduced_fits (Some Numbers) Max ignore _ refl (items_fit (Some Numbers) items h (unmixed_agree (Some Numbers ∷ items_kinds scope context kinds items) m))
  reduction_fits Median ignore items h m = reduced_fits (Some Numbers) Median ignore _ refl (items_fit (Some Numbers) items h (unmixed_agree (Some Numbers ∷ items_kinds scope context kinds items) m))
  reduction_fits First ignore items h m = reduced_fits (kind_among (items_kinds scope context kinds items)) First ignore _ refl (items_fit _ items h (unmixed_agree (items_kinds scope context kinds items) m))
  reduction_fits Last ignore items h m = reduced_fits (kind_among (items_kinds scope context kinds items)) Last ignore _ refl (items_fit _ items h (unmixed_agree (items_kinds scope context kinds items) m))
  reduction_fits Any ignore items h m = reduced_fits (Some Flags) Any ignore _ refl (items_fit (Some Flags) items h (unmixed_agree (Some Flags ∷ items_kinds scope context kinds items) m))
  reduction_fits EveryOne ignore items h m = reduced_fits (Some Flags) EveryOne ignore _ refl (items_fit (Some Flags) items h (unmixed_agree (Some Flags ∷ items_kinds scope context kinds items) m))
  reduction_fits Count ignore items h m = IsNumeric-count Count ignore (items_value e values items) refl
  reduction_fits CountAll ignore items h m = IsNumeric-count CountAll ignore (items_value e values items) refl

  at_fits : (all : Option CellKind) (cs : List Cell) (k : ℕ) → AllByRecursion (FitsKind all) cs → FitsKind all (slice_index_or cs k Empty)
  at_fits all [] k h = fits_empty all
  at_fits all (c ∷ cs) zero h = h.0
  at_fits all (c ∷ cs) (suc k) h = at_fits all cs k h.1

  element_fits : (all : Option CellKind) (cs : List Cell) (index : Option ℕ) → AllByRecursion (FitsKind all) cs → FitsKind all (element_of cs index)
  element_fits all cs None h = fits_empty all
  element_fits all cs (Some k) h = at_fits all cs k h

  choice_fits : (value accept reject : Scalar) → OfScalar NodeFits (Sees scope) accept → OfScalar NodeFits (Sees scope) reject
      → are_mixed (scalar_kind scope context kinds accept ∷ scalar_kind scope context kinds reject ∷ []) ≡ false
      → FitsKind (kind_among (scalar_kind scope context kinds accept ∷ scalar_kind scope context kinds reject ∷ []))
      (choose_of (scalar_value e values value) (scalar_value e values accept) (scalar_value e values reject))
  choice_fits value accept reject ha hr m =
      let all = kind_among (scalar_kind scope context kinds accept ∷ scalar_kind scope context kinds reject ∷ []) in
      let agree = unmixed_agree (scalar_kind scope context kinds accept ∷ scalar_kind scope context kinds reject ∷ []) m in
      let first = first_true (agrees all (scalar_kind scope context kinds accept)) _ agree in
      let second = first_true (agrees all (scalar_kind scope context kinds reject)) true (second_true (agrees all (scalar_kind scope context kinds accept)) _ agree) in
      choose_of-keeps (FitsKind all) (scalar_value e values value) (scalar_value e values accept) (scalar_value e values reject)
      (fits_empty all) (fits_over all) (fits_all all _ _ first (scalar_fits accept ha)) (fits_all all _ _ second (scalar_fits reject hr))

  -- where no row of kinds holds at a request, its value is of its kind
  pub request_fits : (r : CellRequest) → OfRequest NodeFits (Sees scope) r → callback_cell_kind_invalid scope context kinds r ≡ false
      → FitsKind (request_kind scope context kinds r) (request_value e values r)
  request_fits (unary f x) h m = unary_fits f (scalar_value e values x)
  request_fits (binary f x y) h m = binary_fits f (scalar_value e values x) (scalar_value e values y)
  request_fits (choice value accept reject) h m = choice_fits value accept reject h.1 h.2 (or_false _ _ m)
  request_fits (reduction reducer ignore items) h m = reduction_fits reducer ignore items h m
  request_fits (element items index label return_nodata) h m =
      element_fits (kind_among (items_kinds scope context kinds items)) _ _ (items_fit _ items h (unmixed_agree (items_kinds scope context kinds items) m))
