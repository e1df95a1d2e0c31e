-- A JSON value that says no cube, and one whose parts were read.
use Rattle.std.proofs.Common.{◌≡◌, ℕ, List, codes, Option, Some, sym, ap, ◌∙◌, subst}
use Rattle.serde_json.specs.Data.{Data, Items}
use Rattle.serde_json.specs.Read.{read}
use Rattle.oe_cell.specs.declared.cell.Cell.{Cell}
use Rattle.oe_dims.specs.Cube.{IsCube}
use Rattle.oe_dims.specs.Dimensions.{Dimensions}
use Rattle.oe_dims.specs.declared.kind.CellKind.{CellKind}
use Rattle.oe_render.specs.CubeText.{Each, AreDimensions, IsCubeText, IsCubeValue, IsValueText, SpellsCell, kind_of, list_in}
use Rattle.oe_render.proofs.Ahead.{each_one}
use Rattle.oe_render.proofs.Shapes.{same_items, one_shape}
use Rattle.oe_render.proofs.Spelled.{one_cell}

pub same_data : (o : Option Data) (d e : Data) → o ≡ Some d → o ≡ Some e → d ≡ e
same_data o d e p q = let both : Some d ≡ Some e = sym p ∙ q in cc

-- bytes of a value that says no cube are no cube text
pub no_cube : (bytes : List ℕ) (d : Data) → IsValueText bytes d → ((shape : Dimensions) (kind : CellKind) (cells : List Cell) → ¬ IsCubeValue d shape kind cells)
    → (shape : Dimensions) (kind : CellKind) (cells : List Cell) → ¬ IsCubeText bytes shape kind cells
no_cube bytes d text none shape kind cells is =
    none shape kind cells (subst (λ e. IsCubeValue e shape kind cells) (same_data (read bytes) is.value d is.text.is_read text.is_read) is.cube)

-- a value that says a cube says the one that was read of its parts
pub value_parts : (d : Data) (ds vs : Items) (shape : Dimensions) (cells : List Cell) → Some ds ≡ list_in (codes "dimensions") d → AreDimensions ds shape → Some vs ≡ list_in (codes "data") d → Each SpellsCell vs cells
    → (other : Dimensions) (kind : CellKind) (others : List Cell) → IsCubeValue d other kind others → IsCube (record { shape = shape; cells = cells }) × (kind_of cells ≡ Some kind)
value_parts d ds vs shape cells p dimensions q spelled other kind others is =
    let here = same_items (list_in (codes "dimensions") d) is.dimensions ds is.dimensions_at (sym p) in
    let there = same_items (list_in (codes "data") d) is.values vs is.values_at (sym q) in
    let same = one_shape ds other shape (subst (λ items. AreDimensions items other) here is.dimensions_are) dimensions in
    let alike = each_one SpellsCell one_cell vs others cells (subst (λ items. Each SpellsCell items others) there is.cells_are) spelled in (
      subst (λ (cs : List Cell). IsCube (record { shape = shape; cells = cs })) alike
          (subst (λ (d : Dimensions). IsCube (record { shape = d; cells = others })) same is.whole_cube),
      ap kind_of (sym alike) ∙ is.kind_is,
    )
