-- Positions of a cube: an index along each dimension, the labels that stand there, and the row-major number.
use Rattle.std.specs.Prelude.{◌≡◌, ◌↔◌, ℕ, ◌+◌, ◌*◌, ◌<◌, slice_get, List, Option, Some, None}
use Rattle.std.specs.List.{Contains}
use Rattle.oe_dims.specs.Cube.{Tuple, IsTuple, Cube, IsCube, tuples, row_major, at, tabulate, cell_or}
use Rattle.oe_dims.specs.Dimensions.{Dimensions, extent, cell_count}

-- a position, by its indices along the four dimensions; along one that is missing the only index is 0
pub record Position : Type 0 where
  pub t : ℕ
  pub band : ℕ
  pub y : ℕ
  pub x : ℕ

-- each index is below the extent of its dimension
pub record IsPosition (d : Dimensions) (p : Position) : Type 0 where
  pub t : p.t < extent d.t
  pub band : p.band < extent d.bands
  pub y : p.y < extent d.y
  pub x : p.x < extent d.x

-- the label at an index of a dimension, none where the dimension is missing
abbrev pub label_of : {L : Type 0} → Option (List L) → ℕ → Option L
label_of None index = None
label_of (Some labels) index = slice_get labels index

-- the label tuple at a position
abbrev pub tuple_of : Dimensions → Position → Tuple
tuple_of d p =
    record { t = label_of d.t p.t; band = label_of d.bands p.band; y = label_of d.y p.y; x = label_of d.x p.x }

-- the row-major number of a position: x runs fastest, then y, then bands, then t
abbrev pub number_of : Dimensions → Position → ℕ
number_of d p = ((p.t * extent d.bands + p.band) * extent d.y + p.y) * extent d.x + p.x

-- a position of the dimensions that has this row-major number
pub record IsNumberedBy (d : Dimensions) (number : ℕ) (p : Position) : Type 0 where
  pub inside : IsPosition d p
  pub number_is : number_of d p ≡ number

-- Positions, label tuples and the numbers below the count of cells correspond one to one.
pub record MatchOneToOne (d : Dimensions) : Type 0 where
  -- each position has a number, at which its tuple stands, and by which its tuple is found
  pub number_below : (p : Position) → IsPosition d p → number_of d p < cell_count d
  pub tuple_there : (p : Position) → IsPosition d p → slice_get (tuples d) (number_of d p) ≡ Some (tuple_of d p)
  pub tuple_number : (p : Position) → IsPosition d p → row_major d (tuple_of d p) ≡ Some (number_of d p)
  -- each number is that of a position, and of one alone
  pub position_there : (k : ℕ) → k < cell_count d → (p : Position) × IsNumberedBy d k p
  pub position_alone : (p q : Position) → IsPosition d p → IsPosition d q → number_of d p ≡ number_of d q → p ≡ q
  -- the tuples are those that have a label of each dimension
  pub tuples_are : (tuple : Tuple) → Contains (tuples d) tuple ↔ IsTuple d tuple

-- A cube of these dimensions, over any type of cell, is what it is at each tuple.
pub record AreTabulations (C : Type 0) (d : Dimensions) : Type 0 where
  -- the cell of a tuple is what the cube was made of there
  pub cell_made : (f : Tuple → C) (tuple : Tuple) → IsTuple d tuple → at (tabulate d f) tuple ≡ Some (f tuple)
  -- a cube is made of its own cells
  pub own_cells : (cube : Cube C) (other : C) → cube.shape ≡ d → IsCube cube → tabulate d (cell_or cube other) ≡ cube
  -- and two cubes that agree at each tuple are one
  pub same_cube : (a b : Cube C) → a.shape ≡ d → b.shape ≡ d → IsCube a → IsCube b
      → ((tuple : Tuple) → IsTuple d tuple → at a tuple ≡ at b tuple) → a ≡ b
  -- at the number of a position stands the cell of its tuple
  pub cell_there : (cube : Cube C) (p : Position) → cube.shape ≡ d → IsPosition d p
      → at cube (tuple_of d p) ≡ slice_get cube.cells (number_of d p)
