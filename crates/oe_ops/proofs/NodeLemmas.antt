-- What an operation needs and asks, told for each of them.
use Rattle.std.proofs.Common.{◌≡◌, Bool, ℕ, ◌+◌, ◌*◌, ◌<◌, ◌≤◌, List, [], ◌∷◌, length, refl, sym, subst, arith, Option, Some, None, IfSome}
use Rattle.std.specs.List.{All}
use Rattle.std.specs.Option.{unwrap_or}
use Rattle.oe_cell.specs.Fraction.{Fraction}
use Rattle.oe_cell.specs.declared.cell.Cell.{Cell}
use Rattle.oe_cell.specs.declared.cell.Cell.TheVariants.{Empty}
use Rattle.oe_dims.specs.Cube.{Cube}
use Rattle.oe_dims.specs.Dimensions.{Dimensions, extent}
use Rattle.oe_dims.specs.Positions.{Position}
use Rattle.oe_dims.specs.declared.kind.Kind.{Kind}
use Rattle.oe_dims.specs.declared.kind.Kind.TheVariants.{Time, Bands, Y, X}
use Rattle.oe_expr.specs.Callback.{Callback, KeepsKind}
use Rattle.oe_expr.specs.Scope.{count_labels}
use Rattle.oe_kernel.specs.Kernels.{KernelValues}
use Rattle.oe_kernel.specs.declared.border.Border.{Border}
use Rattle.oe_requests.specs.Extents.{Restriction}
use Rattle.oe_meanings.specs.Meaning.{cube_of}
use Rattle.oe_requests.specs.Operations.{Operation, keep, each_cell, convolve, reduce, aggregate, accumulate, merge, cover, give_back, labels_along, shape_of}
use Rattle.oe_check.specs.Reach.{halo_of, needs_whole}
use Rattle.oe_requests.specs.PlainRequests.{plain_operation, plain_restriction}
use Rattle.oe_requests.specs.declared.extent.Interval.{Interval}
use Rattle.oe_requests.specs.declared.operation.Operation as declared
use Rattle.oe_requests.specs.declared.operation.Operation.TheVariants.{Keep, EachCell, Convolve, Reduce, Aggregate, Accumulate, Merge, Cover, GiveBack}
use Rattle.oe_window.specs.Cells.{cells_on}
use Rattle.oe_window.specs.Windows.{Holds, position_count, positions, span_length, whole_window}
use Rattle.oe_window.specs.declared.window.Window.{Window}
use Rattle.oe_window.proofs.WindowLemmas.{IsFilled, length-positions, within_from_holds}
use Rattle.oe_ops.specs.Calls.{IsResolverOf}
use Rattle.oe_ops.specs.Needs.{HasLabelsBeside, HasLabelsOf, HoldsNeed, IsInReach, IsNeed, Needs, argument_shape}
use Rattle.oe_ops.specs.Nodes.{HasScratch, IsOnOne, TakesInputs}
use Rattle.oe_ops.specs.Slices.{TakesPairs}
use Rattle.oe_ops.specs.declared.slice.Slice.{Slice}
use Rattle.oe_ops.proofs.ListLemmas.{nothing_on}
use Rattle.oe_ops.proofs.NumberLemmas.{are_some}

-- ---- the least window of one need is that of another with the same positions

pub same_need : (needs others : Position → Position → Type 0) (window box : Window) → ((p q : Position) → needs p q → others p q) → ((p q : Position) → others p q → needs p q) → IsNeed needs window box → IsNeed others window box
same_need needs others window box to from h = record {
  holds = λ p q inside n. h.holds p q inside (from p q n);
  least = λ other holds. h.least other (λ p q inside n. holds p q inside (to p q n));
  zero = λ none. h.zero (λ p q inside n. none p q inside (to p q n));
}

-- a kernel reaches as far in any list of shapes
pub reach_in : (kernel : KernelValues) (factor : Fraction) (border : Border) (replace : Fraction) (d : Dimensions) (shapes : List Dimensions) (number : ℕ) → d ≡ argument_shape shapes number → (p q : Position) → Needs (convolve kernel factor border replace) (d ∷ []) 0 p q → Needs (convolve kernel factor border replace) shapes number p q
reach_in kernel factor border replace d shapes number is p q h =
    subst (λ s. IsInReach (needs_whole (convolve kernel factor border replace) shapes) (halo_of (convolve kernel factor border replace)) s p q) is
    (record { is_position = h.is_position; t = h.t; bands = h.bands; y = h.y; x = h.x })

pub reach_from : (kernel : KernelValues) (factor : Fraction) (border : Border) (replace : Fraction) (d : Dimensions) (shapes : List Dimensions) (number : ℕ) → d ≡ argument_shape shapes number → (p q : Position) → Needs (convolve kernel factor border replace) shapes number p q → Needs (convolve kernel factor border replace) (d ∷ []) 0 p q
reach_from kernel factor border replace d shapes number is p q h =
    let own : IsInReach (needs_whole (convolve kernel factor border replace) shapes) (halo_of (convolve kernel factor border replace)) d p q =
    subst (λ s. IsInReach (needs_whole (convolve kernel factor border replace) shapes) (halo_of (convolve kernel factor border replace)) s p q) (sym is) h in
    record { is_position = own.is_position; t = own.t; bands = own.bands; y = own.y; x = own.x }

module _ (shape argument : Dimensions) (shapes : List Dimensions) (number : ℕ) (window box : Window) (is : argument ≡ argument_shape shapes number) where
  -- of a kernel
  pub reach_needs : (o : declared.Operation) (k : KernelValues) (f : Fraction) (b : Border) (r : Fraction) → o ≡ Convolve k f b r → ((factor replace : Fraction) → IsNeed (Needs (convolve k factor b replace) (argument ∷ []) 0) window box) → IsNeed (Needs (plain_operation o) shapes number) window box
  reach_needs o k f b r which h =
      subst (λ (g : declared.Operation). IsNeed (Needs (plain_operation g) shapes number) window box) (sym which)
      (same_need (Needs (convolve k f b r) (argument ∷ []) 0) (Needs (convolve k f b r) shapes number) window box
      (reach_in k f b r argument shapes number is) (reach_from k f b r argument shapes number is) (h f r))

  -- of a reduction and of an aggregation
  beside_same : (along : Kind) (s : Dimensions) → shape ≡ s → IsNeed (HasLabelsBeside along shape argument) window box → IsNeed (HasLabelsBeside along s (argument_shape shapes number)) window box
  beside_same along s same h =
      subst (λ (a : Dimensions). IsNeed (HasLabelsBeside along s a) window box) is (subst (λ (d : Dimensions). IsNeed (HasLabelsBeside along d argument) window box) same h)

  pub reduce_needs : (o : declared.Operation) (along : Kind) (e : Callback) → o ≡ Reduce along e → shape ≡ shape_of (plain_operation o) shapes → IsNeed (HasLabelsBeside along shape argument) window box → IsNeed (Needs (plain_operation o) shapes number) window box
  reduce_needs o along e which same h =
      let here : shape ≡ shape_of (reduce along e) shapes = subst (λ (g : declared.Operation). shape ≡ shape_of (plain_operation g) shapes) which same in
      subst (λ (g : declared.Operation). IsNeed (Needs (plain_operation g) shapes number) window box) (sym which)
      (same_need (HasLabelsBeside along (shape_of (reduce along e) shapes) (argument_shape shapes number)) (Needs (reduce along e) shapes number) window box (λ p q m. m) (λ p q m. m)
      (beside_same along (shape_of (reduce along e) shapes) here h))

  pub aggregate_needs : (o : declared.Operation) (i : List Interval) (e : Callback) → o ≡ Aggregate i e → shape ≡ shape_of (plain_operation o) shapes → IsNeed (HasLabelsBeside Time shape argument) window box → IsNeed (Needs (plain_operation o) shapes number) window box
  aggregate_needs o i e which same h =
      let here : shape ≡ shape_of (aggregate i e) shapes = subst (λ (g : declared.Operation). shape ≡ shape_of (plain_operation g) shapes) which same in
      subst (λ (g : declared.Operation). IsNeed (Needs (plain_operation g) shapes number) window box) (sym which)
      (same_need (HasLabelsBeside Time (shape_of (aggregate i e) shapes) (argument_shape shapes number)) (Needs (aggregate i e) shapes number) window box (λ p q m. m) (λ p q m. m)
      (beside_same Time (shape_of (aggregate i e) shapes) here h))

  pub accumulate_needs : (o : declared.Operation) (ignore : Bool) → o ≡ Accumulate ignore → shape ≡ shape_of (plain_operation o) shapes → IsNeed (HasLabelsBeside Time shape argument) window box → IsNeed (Needs (plain_operation o) shapes number) window box
  accumulate_needs o ignore which same h =
      let here : shape ≡ shape_of (accumulate ignore) shapes = subst (λ (g : declared.Operation). shape ≡ shape_of (plain_operation g) shapes) which same in
      subst (λ (g : declared.Operation). IsNeed (Needs (plain_operation g) shapes number) window box) (sym which)
      (same_need (HasLabelsBeside Time (shape_of (accumulate ignore) shapes) (argument_shape shapes number)) (Needs (accumulate ignore) shapes number) window box (λ p q m. m) (λ p q m. m)
      (beside_same Time (shape_of (accumulate ignore) shapes) here h))

  -- of any other
  labels_same : (o : Operation) → shape ≡ shape_of o shapes → IsNeed (HasLabelsOf shape argument) window box → IsNeed (HasLabelsOf (shape_of o shapes) (argument_shape shapes number)) window box
  labels_same o same h =
      subst (λ (a : Dimensions). IsNeed (HasLabelsOf (shape_of o shapes) a) window box) is (subst (λ (d : Dimensions). IsNeed (HasLabelsOf d argument) window box) same h)

  pub labels_needs : (o : declared.Operation) → ((k : KernelValues) (f : Fraction) (b : Border) (r : Fraction) → o ≡ Convolve k f b r → ⊥) → ((along : Kind) (e : Callback) → o ≡ Reduce along e → ⊥) → ((i : List Interval) (e : Callback) → o ≡ Aggregate i e → ⊥) → ((ignore : Bool) → o ≡ Accumulate ignore → ⊥) → shape ≡ shape_of (plain_operation o) shapes → IsNeed (HasLabelsOf shape argument) window box → IsNeed (Needs (plain_operation o) shapes number) window box
  labels_needs (Keep r) not_c not_r not_a not_s same h = same_need _ (Needs (keep (plain_restriction r)) shapes number) window box (λ p q m. m) (λ p q m. m) (labels_same (keep (plain_restriction r)) same h)
  labels_needs (EachCell e) not_c not_r not_a not_s same h = same_need _ (Needs (each_cell e) shapes number) window box (λ p q m. m) (λ p q m. m) (labels_same (each_cell e) same h)
  labels_needs (Convolve k f b r) not_c not_r not_a not_s same h = absurd (not_c k f b r refl)
  labels_needs (Reduce along e) not_c not_r not_a not_s same h = absurd (not_r along e refl)
  labels_needs (Aggregate i e) not_c not_r not_a not_s same h = absurd (not_a i e refl)
  labels_needs (Accumulate ignore) not_c not_r not_a not_s same h = absurd (not_s ignore refl)
  labels_needs (Merge r) not_c not_r not_a not_s same h = same_need _ (Needs (merge r) shapes number) window box (λ p q m. m) (λ p q m. m) (labels_same (merge r) same h)
  labels_needs (Cover v) not_c not_r not_a not_s same h = same_need _ (Needs (cover v) shapes number) window box (λ p q m. m) (λ p q m. m) (labels_same (cover v) same h)
  labels_needs GiveBack not_c not_r not_a not_s same h = same_need _ (Needs give_back shapes number) window box (λ p q m. m) (λ p q m. m) (labels_same give_back same h)

-- ---- what the operation of a node promises of its shape, of its cubes and of their windows

pub record IsNode (o : Operation) (shape one two : Dimensions) (first second : Slice) (window : Window) : Type 0 where
  pub shape_is : shape ≡ shape_of o (one ∷ two ∷ [])
  pub takes : TakesInputs o one first.cells.now second.cells.now
  pub need : HoldsNeed (Needs o (one ∷ two ∷ []) 0) window first.window
  pub two_need : HoldsNeed (Needs o (one ∷ two ∷ []) 1) window second.window

module _ (shape one two : Dimensions) (first second : Slice) (window : Window) where
  -- the same where it is known which operation it is
  pub node_as : (o given : declared.Operation) → o ≡ given → shape ≡ shape_of (plain_operation o) (one ∷ two ∷ []) → TakesInputs (plain_operation o) one first.cells.now second.cells.now → HoldsNeed (Needs (plain_operation o) (one ∷ two ∷ []) 0) window first.window → HoldsNeed (Needs (plain_operation o) (one ∷ two ∷ []) 1) window second.window → IsNode (plain_operation given) shape one two first second window
  node_as o given is shape_is takes need two_need =
      subst (λ (g : declared.Operation). IsNode (plain_operation g) shape one two first second window) is (record { shape_is = shape_is; takes = takes; need = need; two_need = two_need })

  pub keep_need : (r : Restriction) → IsNode (keep r) shape one two first second window → HoldsNeed (HasLabelsOf shape one) window first.window
  keep_need r n = subst (λ (d : Dimensions). HoldsNeed (HasLabelsOf d one) window first.window) (sym n.shape_is) (λ p q inside m. n.need p q inside m)

  pub apply_need : (c : Callback) → IsNode (each_cell c) shape one two first second window → HoldsNeed (HasLabelsOf shape shape) window first.window
  apply_need c n = subst (λ (d : Dimensions). HoldsNeed (HasLabelsOf d d) window first.window) (sym n.shape_is) (λ p q inside m. n.need p q inside m)

  pub convolve_need : (kernel : KernelValues) (factor : Fraction) (border : Border) (replace : Fraction) → IsNode (convolve kernel factor border replace) shape one two first second window → HoldsNeed (Needs (convolve kernel factor border replace) (shape ∷ []) 0) window first.window
  convolve_need kernel factor border replace n =
      λ p q inside m. n.need p q inside (reach_in kernel factor border replace shape (one ∷ two ∷ []) 0 n.shape_is p q m)

  pub reduce_need : (along : Kind) (c : Callback) → IsNode (reduce along c) shape one two first second window → HoldsNeed (HasLabelsBeside along shape one) window first.window
  reduce_need along c n = subst (λ (d : Dimensions). HoldsNeed (HasLabelsBeside along d one) window first.window) (sym n.shape_is) (λ p q inside m. n.need p q inside m)

  pub aggregate_need : (intervals : List Interval) (c : Callback) → IsNode (aggregate intervals c) shape one two first second window → HoldsNeed (HasLabelsBeside Time shape one) window first.window
  aggregate_need intervals c n = subst (λ (d : Dimensions). HoldsNeed (HasLabelsBeside Time d one) window first.window) (sym n.shape_is) (λ p q inside m. n.need p q inside m)

  pub accumulate_need : (ignore : Bool) → IsNode (accumulate ignore) shape one two first second window → HoldsNeed (HasLabelsBeside Time shape shape) window first.window
  accumulate_need ignore n = subst (λ (d : Dimensions). HoldsNeed (HasLabelsBeside Time d d) window first.window) (sym n.shape_is) (λ p q inside m. n.need p q inside m)

  pub merge_need : (r : Option Callback) → IsNode (merge r) shape one two first second window → HoldsNeed (HasLabelsOf shape one) window first.window
  merge_need r n = subst (λ (d : Dimensions). HoldsNeed (HasLabelsOf d one) window first.window) (sym n.shape_is) (λ p q inside m. n.need p q inside m)

  pub merge_two_need : (r : Option Callback) → IsNode (merge r) shape one two first second window → HoldsNeed (HasLabelsOf shape two) window second.window
  merge_two_need r n = subst (λ (d : Dimensions). HoldsNeed (HasLabelsOf d two) window second.window) (sym n.shape_is) (λ p q inside m. n.two_need p q inside m)

  pub cover_need : (replacement : Cell) → IsNode (cover replacement) shape one two first second window → HoldsNeed (HasLabelsOf shape shape) window first.window
  cover_need replacement n = subst (λ (d : Dimensions). HoldsNeed (HasLabelsOf d d) window first.window) (sym n.shape_is) (λ p q inside m. n.need p q inside m)

  pub cover_two_need : (replacement : Cell) → IsNode (cover replacement) shape one two first second window → HoldsNeed (HasLabelsOf shape two) window second.window
  cover_two_need replacement n = subst (λ (d : Dimensions). HoldsNeed (HasLabelsOf d two) window second.window) (sym n.shape_is) (λ p q inside m. n.two_need p q inside m)

  pub give_back_need : IsNode give_back shape one two first second window → HoldsNeed (HasLabelsOf shape shape) window first.window
  give_back_need n = subst (λ (d : Dimensions). HoldsNeed (HasLabelsOf d d) window first.window) (sym n.shape_is) (λ p q inside m. n.need p q inside m)

-- ---- a resolver

pub resolver_fits : (r : Option Callback) (one two : Slice) → IfSome r (λ c. KeepsKind c × TakesPairs c one.cells.now two.cells.now) → IfSome r (IsResolverOf one two)
resolver_fits None one two h = tt
resolver_fits (Some c) one two h = record { keeps = h.0; takes = h.1 }

pub resolver_keeps : (r : Option Callback) (one two : Slice) → IfSome r (IsResolverOf one two) → IfSome r KeepsKind
resolver_keeps None one two h = tt
resolver_keeps (Some c) one two h = h.keeps

pub resolver_takes : (r : Option Callback) (one two : Slice) → IfSome r (IsResolverOf one two) → IfSome r (λ c. TakesPairs c one.cells.now two.cells.now)
resolver_takes None one two h = tt
resolver_takes (Some c) one two h = h.takes

-- ---- room

within_extent : {L : Type 0} (labels : Option (List L)) (n : ℕ) → 192 + 2 * extent labels ≤ n → 192 + 2 * length (unwrap_or labels []) ≤ n
within_extent None n h = omega arith
within_extent (Some labels) n h = h

-- there is room for a list along any dimension
pub list_room : (along : Kind) (d : Dimensions) (n : ℕ) → HasScratch d n → 192 + 2 * count_labels (labels_along along d) ≤ n
list_room Time d n h = within_extent d.t n (h Time)
list_room Bands d n h = within_extent d.bands n (h Bands)
list_room Y d n h = within_extent d.y n (h Y)
list_room X d n h = within_extent d.x n (h X)

-- and for two rows of a window
pub row_room : (d : Dimensions) (window : Window) (n count : ℕ) → Holds (whole_window d) window → 0 < count → count ≡ position_count window → HasScratch d n → 2 * span_length window.x + 192 ≤ n
row_room d window n count holds more counted h =
    let some = are_some window (omega arith) in
    let t = some.t in
    let bands = some.bands in
    let y = some.y in
    let x = some.x in
    let filled : IsFilled window = record { t = omega arith; bands = omega arith; y = omega arith; x = omega arith } in
    let within = within_from_holds window (whole_window d) filled holds in
    let ends = within.x.to in
    let room = h X in
    omega arith

-- ---- a window without positions

pub nothing_there : (cube : Cube Cell) (window : Window) (cells : List Cell) → length cells ≡ 0 → length cells ≡ position_count window → cells ≡ cells_on Empty cube window
nothing_there cube window cells none counted =
    let long = length-positions window in
    nothing_on cells (positions window) _ none (omega arith)

pub all_of_none : {A : Type 0} (P : A → Type 0) (cells : List A) → length cells ≡ 0 → All P cells
all_of_none P cells none = λ k other lt. absurd (omega arith)

-- ---- an operation on one cube, for which the first cube is handed in again as the second

pub one_shape : (o : Operation) (d : Dimensions) → IsOnOne o → shape_of o (d ∷ d ∷ []) ≡ shape_of o (d ∷ [])
one_shape (keep r) d h = refl
one_shape (each_cell c) d h = refl
one_shape (convolve k f b r) d h = refl
one_shape (reduce along c) d h = refl
one_shape (aggregate i c) d h = refl
one_shape (accumulate i) d h = refl
one_shape (merge r) d h = elim h [ ]
one_shape (cover v) d h = elim h [ ]
one_shape give_back d h = refl

pub one_cube : (o : Operation) (cube : Cube Cell) → IsOnOne o → cube_of o (cube ∷ cube ∷ []) ≡ cube_of o (cube ∷ [])
one_cube (keep r) cube h = refl
one_cube (each_cell c) cube h = refl
one_cube (convolve k f b r) cube h = refl
one_cube (reduce along c) cube h = refl
one_cube (aggregate i c) cube h = refl
one_cube (accumulate i) cube h = refl
one_cube (merge r) cube h = elim h [ ]
one_cube (cover v) cube h = elim h [ ]
one_cube give_back cube h = refl

-- what it needs of either is what it needs of its one cube
pub one_need : (o : Operation) (d : Dimensions) (p q : Position) → IsOnOne o → Needs o (d ∷ d ∷ []) 0 p q → Needs o (d ∷ []) 0 p q
one_need (keep r) d p q h n = n
one_need (each_cell c) d p q h n = n
one_need (convolve k f b r) d p q h n = record { is_position = n.is_position; t = n.t; bands = n.bands; y = n.y; x = n.x }
one_need (reduce along c) d p q h n = n
one_need (aggregate i c) d p q h n = n
one_need (accumulate i) d p q h n = n
one_need (merge r) d p q h n = elim h [ ]
one_need (cover v) d p q h n = elim h [ ]
one_need give_back d p q h n = n

pub second_need : (o : Operation) (d : Dimensions) (p q : Position) → IsOnOne o → Needs o (d ∷ d ∷ []) 1 p q → Needs o (d ∷ []) 0 p q
second_need (keep r) d p q h n = n
second_need (each_cell c) d p q h n = n
second_need (convolve k f b r) d p q h n = record { is_position = n.is_position; t = n.t; bands = n.bands; y = n.y; x = n.x }
second_need (reduce along c) d p q h n = n
second_need (aggregate i c) d p q h n = n
second_need (accumulate i) d p q h n = n
second_need (merge r) d p q h n = elim h [ ]
second_need (cover v) d p q h n = elim h [ ]
second_need give_back d p q h n = n
