-- Bytes are the text of one cube at most.
use Rattle.std.proofs.Common.{◌≡◌, ◌≢◌, ℕ, suc, ◌≤◌, List, [], ◌∷◌, length, codes, Result, Ok, Err, IfOk, IfErr, IsErrOf, refl, sym, subst, arith}
use Rattle.std.specs.List.{All}
use Rattle.serde_json.specs.Data.{Data}
use Rattle.serde_json.specs.Read.{read}
use Rattle.oe_cell.specs.Cells.{IsCell}
use Rattle.oe_cell.specs.declared.cell.Cell.{Cell}
use Rattle.oe_cell.specs.declared.cell.Cell.TheVariants.{Over}
use Rattle.oe_dims.specs.Cube.{Cube}
use Rattle.oe_dims.specs.Dimensions.{Dimensions}
use Rattle.oe_dims.specs.declared.kind.CellKind.{CellKind}
use Rattle.oe_render.specs.CubeText.{Each, AreDimensions, IsCubeText, IsCubeValue, IsReadable, SpellsCell, list_in, most_text}
use Rattle.oe_render.specs.Text.{cube_text}
use Rattle.oe_render.specs.declared.reading.CubeText.{CubeText}
use Rattle.oe_render.specs.declared.reading.CubeTextFail.{CubeTextFail}
use Rattle.oe_render.specs.declared.reading.CubeTextFail.TheVariants.{Invalid, OutOfMemory}
use Rattle.oe_render.proofs.Ahead.{each_one}
use Rattle.oe_render.proofs.Values.{same_data}
use Rattle.oe_render.proofs.Shapes.{same_items, one_shape}
use Rattle.oe_render.proofs.Spelled.{one_cell}
use Rattle.oe_render.proofs.Spells.{AreFit}
use Rattle.oe_render.proofs.WrittenCube.{cube_text_read}

one_value : (d : Data) (a b : Dimensions) (k l : CellKind) (xs ys : List Cell) → IsCubeValue d a k xs → IsCubeValue d b l ys → (a ≡ b) × (xs ≡ ys)
one_value d a b k l xs ys p q =
    let dimensions = same_items (list_in (codes "dimensions") d) p.dimensions q.dimensions p.dimensions_at q.dimensions_at in
    let values = same_items (list_in (codes "data") d) p.values q.values p.values_at q.values_at in (
      one_shape q.dimensions a b (subst (λ ds. AreDimensions ds a) dimensions p.dimensions_are) q.dimensions_are,
      each_one SpellsCell one_cell q.values xs ys (subst (λ ds. Each SpellsCell ds xs) values p.cells_are) q.cells_are,
    )

one_cube : (bytes : List ℕ) (a b : Dimensions) (k l : CellKind) (xs ys : List Cell) → IsCubeText bytes a k xs → IsCubeText bytes b l ys → (a ≡ b) × (xs ≡ ys)
one_cube bytes a b k l xs ys p q =
    let same = same_data (read bytes) p.value q.value p.text.is_read q.text.is_read in
    one_value q.value a b k l xs ys (subst (λ d. IsCubeValue d a k xs) same p.cube) q.cube

pub fit_from : (cells : List Cell) → All IsCell cells → All (λ c. c ≢ Over) cells → AreFit cells
fit_from [] h k = tt
fit_from (c ∷ cells) h k =
    (h 0 c (omega arith), k 0 c (omega arith), fit_from cells (λ i d below. h (suc i) d (omega (arith, below))) (λ i d below. k (suc i) d (omega (arith, below))))

-- the text of a readable cube says that cube
pub readable_text : (cube : Cube Cell) (bytes : List ℕ) → (r : IsReadable cube) → bytes ≡ cube_text cube → length bytes ≤ most_text → IsCubeText bytes cube.shape r.kind cube.cells
readable_text cube bytes r is within =
    subst (λ text. IsCubeText text cube.shape r.kind cube.cells) (sym is)
    (cube_text_read cube.shape r.kind cube.cells r.valid (fit_from cube.cells r.fit r.numbered) r.whole_cube r.kind_is (subst (λ text. length text ≤ most_text) is within))

-- what a reader that answers exactly makes of such a text
pub read_again : (bytes : List ℕ) (result : Result CubeText CubeTextFail) → IfOk result (λ c. IsCubeText bytes c.shape c.kind c.cells.items)
    → (IsErrOf result Invalid → (shape : Dimensions) (kind : CellKind) (cells : List Cell) → ¬ IsCubeText bytes shape kind cells)
    → (cube : Cube Cell) → IsReadable cube → bytes ≡ cube_text cube → length bytes ≤ most_text
    → IfErr result (λ e. e ≡ OutOfMemory) × IfOk result (λ c. (c.shape ≡ cube.shape) × (c.cells.items ≡ cube.cells))
read_again bytes (Ok c) text invalid cube r is within =
    (tt, one_cube bytes c.shape cube.shape c.kind r.kind c.cells.items cube.cells text (readable_text cube bytes r is within))
read_again bytes (Err OutOfMemory) text invalid cube r is within = (refl, tt)
read_again bytes (Err Invalid) text invalid cube r is within =
    absurd (invalid refl cube.shape r.kind cube.cells (readable_text cube bytes r is within))
