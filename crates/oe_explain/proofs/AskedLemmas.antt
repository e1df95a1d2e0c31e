-- A node that is made up asks for something exactly where the one argument that it is made up for is held.
use Rattle.std.proofs.Common.{◌≡◌, ℕ, List, [], ◌∷◌, ◌++◌, Option, Some, None, is_some, codes, refl, ap, option_and_then, pos}
use Rattle.oe_graph.specs.Plain.{plain_arg, plain_named}
use Rattle.oe_graph.specs.Tree as tree
use Rattle.oe_graph.specs.Tree.{Argument, Named, named}
use Rattle.oe_graph.specs.declared.tree.Arg.{Arg}
use Rattle.oe_expr.specs.Requests.{with_both}
use Rattle.oe_kernel.specs.Kernels.{KernelValues}
use Rattle.oe_requests.specs.Parameters.{bands_in, box_in, kernel_in}
use Rattle.oe_requests.specs.Requests.{convolution_request, cube_request_at, filter_bands, filter_bbox}
use Rattle.oe_requests.specs.declared.extent.BoundingBox.{BoundingBox}
use Rattle.oe_explain.specs.Asked.{node_with, on_cube, with_argument}

-- one argument more
pub one_more : (args : List (List ℕ × Arg)) (name : List ℕ) (a : Arg)
    → plain_named (args ++ (name, a) ∷ []) ≡ with_argument (plain_named args) name (plain_arg a)
one_more [] name a = refl
one_more (m ∷ args) name a = ap (named m.0 (plain_arg m.1)) (one_more args name a)

pub box_asked : (a : Argument) → is_some (cube_request_at (node_with (codes "filter_bbox") (on_cube (codes "extent") a))) ≡ is_some (box_in a)
box_asked a = by (box_in a)
  where
    by : (o : Option BoundingBox) → is_some (with_both filter_bbox (Some []) o) ≡ is_some o
    by None = refl
    by (Some box) = refl

pub bands_asked : (a : Argument)
    → is_some (cube_request_at (node_with (codes "filter_bands")
    (with_argument (on_cube (codes "bands") a) (codes "wavelengths") (tree.list tree.no_arguments))))
    ≡ is_some (bands_in a)
bands_asked a = by (bands_in a)
  where
    by : (o : Option (List (List ℕ))) → is_some (with_both filter_bands (Some []) o) ≡ is_some o
    by None = refl
    by (Some bands) = refl

-- the arguments of a kernel
abbrev pub on_kernel : Argument → Named
on_kernel a =
    with_argument (with_argument (with_argument (on_cube (codes "kernel") a) (codes "factor") (tree.whole (pos 1)))
    (codes "border") (tree.whole (pos 0)))
    (codes "replace_invalid") (tree.whole (pos 0))

pub kernel_asked : (a : Argument) → is_some (cube_request_at (node_with (codes "apply_kernel") (on_kernel a))) ≡ is_some (kernel_in a)
kernel_asked a = by (kernel_in a)
  where
    by : (o : Option KernelValues) → is_some (option_and_then (λ kernel. convolution_request [] kernel (on_kernel a)) o) ≡ is_some o
    by None = refl
    by (Some kernel) = refl
