-- What an operation asks of the cells that it works on.
use Rattle.std.specs.Prelude.{◌≡◌, ⊤, ℕ, ◌+◌, ◌*◌, ◌≤◌, List, IfSome}
use Rattle.std.specs.List.{All}
use Rattle.oe_cell.specs.declared.cell.Cell.{Cell}
use Rattle.oe_cube.specs.Kinds.{IsOfKind}
use Rattle.oe_dims.specs.Dimensions.{Dimensions}
use Rattle.oe_dims.specs.declared.kind.CellKind.{CellKind}
use Rattle.oe_dims.specs.declared.kind.Kind.{Kind}
use Rattle.oe_expr.specs.Callback.{KeepsKind, callback_kind}
use Rattle.oe_requests.specs.Operations.{Operation, keep, each_cell, convolve, reduce, aggregate, accumulate, merge, cover, give_back}
use Rattle.oe_window.specs.Windows.{extent_along}
use Rattle.oe_ops.specs.Lists.{TakesIntervals, TakesLists}
use Rattle.oe_ops.specs.Slices.{TakesCells, TakesPairs}

-- its callback, if it has one, takes these cells of the first cube, which has these dimensions, and of the second, and
-- gives cells of its kind
abbrev pub TakesInputs : Operation → Dimensions → List Cell → List Cell → Type 0
TakesInputs (keep r) d one two = ⊤
TakesInputs (each_cell c) d one two = KeepsKind c × TakesCells c one
TakesInputs (convolve kernel factor border replace) d one two = ⊤
TakesInputs (reduce along c) d one two = KeepsKind c × TakesLists c along d one
TakesInputs (aggregate intervals c) d one two = KeepsKind c × TakesIntervals c intervals d one
TakesInputs (accumulate ignore) d one two = ⊤
TakesInputs (merge resolver) d one two = IfSome resolver (λ c. KeepsKind c × TakesPairs c one two)
TakesInputs (cover replacement) d one two = ⊤
TakesInputs give_back d one two = ⊤

-- beside cells of a kind of the first cube it works with cells of the kind alone
abbrev pub FitsFirstKind : Operation → CellKind → List Cell → Type 0
FitsFirstKind (keep r) kind two = ⊤
FitsFirstKind (each_cell c) kind two = ⊤
FitsFirstKind (convolve kernel factor border replace) kind two = ⊤
FitsFirstKind (reduce along c) kind two = ⊤
FitsFirstKind (aggregate intervals c) kind two = ⊤
FitsFirstKind (accumulate ignore) kind two = ⊤
FitsFirstKind (merge resolver) kind two = All (IsOfKind kind) two × IfSome resolver (λ c. callback_kind c ≡ kind)
FitsFirstKind (cover replacement) kind two = IsOfKind kind replacement
FitsFirstKind give_back kind two = ⊤

-- 192 cells, and two more for each label of any dimension
abbrev pub HasScratch : Dimensions → ℕ → Type 0
HasScratch d room = (along : Kind) → 192 + 2 * extent_along d along ≤ room

-- the operation is that of a kernel
abbrev pub IsConvolution : Operation → Type 0
IsConvolution (convolve kernel factor border replace) = ⊤
IsConvolution _ = ⊥

-- the operation works on one cube, and not on two
abbrev pub IsOnOne : Operation → Type 0
IsOnOne (keep r) = ⊤
IsOnOne (each_cell c) = ⊤
IsOnOne (convolve kernel factor border replace) = ⊤
IsOnOne (reduce along c) = ⊤
IsOnOne (aggregate intervals c) = ⊤
IsOnOne (accumulate ignore) = ⊤
IsOnOne (merge resolver) = ⊥
IsOnOne (cover replacement) = ⊥
IsOnOne give_back = ⊤
