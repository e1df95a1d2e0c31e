use Rattle.std.proofs.Common.{◌≡◌, true, List, Option, IfSome, sym, ap, ◌∙◌, subst}
use Rattle.std.specs.List.{list_all}
use Rattle.oe_cell.specs.declared.cell.Cell.{Cell}
use Rattle.oe_cell.specs.declared.cell.Cell.TheVariants.{Empty}
use Rattle.oe_cube.specs.Kinds.{is_null_or_of}
use Rattle.oe_dims.specs.Dimensions.{Dimensions}
use Rattle.oe_dims.specs.declared.kind.CellKind.{CellKind}
use Rattle.oe_sources.specs.Source.{AreCellsOf, Contents, Source}
use Rattle.oe_sources.proofs.SourceLemmas.{none_contained, window_of_kind}
use Rattle.oe_window.specs.Cells.{cells_on}
use Rattle.oe_window.specs.Windows.{Holds, whole_window}
use Rattle.oe_sources.proofs.memory_cube.MemoryCube.copy_cells.Goals as goal

pub copy_window-requires-clause-inside : goal.copy_window-requires-clause-inside
copy_window-requires-clause-inside c =
    subst (λ (s : Source). Holds (whole_window s.shape) c.args.window.now) (sym c.self.view_is) c.requires.inside

pub returns : goal.returns
returns c =
    let shape = ap (λ (s : Source). s.shape) c.self.view_is in
    let kind = ap (λ (s : Source). s.kind) c.self.view_is in
    let contents = ap (λ (s : Source). s.contents) c.self.view_is in
    let cells = c.copy_window.ensures.value Empty ∙ ap (λ (cs : List Cell). cells_on Empty (record { shape = c.self.inside.shape; cells = cs }) c.args.window.now) c.deref.ensures.value in
    record {
      given = subst (λ (o : Option Contents). IfSome o (λ k. AreCellsOf c.args.self.now.shape k c.args.window.now c.copy_window.new.into)) contents
          (record {
            cells_are = cells ∙ ap (λ (d : Dimensions). cells_on Empty (record { shape = d; cells = c.self.inside.cells.items }) c.args.window.now) shape;
            undamaged = λ p inside. none_contained _;
          });
      of_kind = subst (λ (k : CellKind). list_all (is_null_or_of k) c.copy_window.new.into ≡ true) kind
          (ap (list_all (is_null_or_of c.self.inside.kind)) cells ∙ window_of_kind c.self.inside.kind (record { shape = c.self.inside.shape; cells = c.self.inside.cells.items }) c.args.window.now c.self.invariant.of_kind);
      damage = tt;
    }
