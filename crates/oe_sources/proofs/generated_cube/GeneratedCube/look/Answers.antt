use Rattle.std.proofs.Common.{◌≡◌, true, IfSome, sym, ap, subst}
use Rattle.std.specs.List.{list_all}
use Rattle.oe_cube.specs.Kinds.{is_null_or_of}
use Rattle.oe_dims.specs.Dimensions.{Dimensions}
use Rattle.oe_sources.specs.Generated.{generated_shape}
use Rattle.oe_sources.specs.Source.{AreCellsOf, Source}
use Rattle.oe_sources.proofs.GeneratedLemmas.{generated_kind, generated_window}
use Rattle.oe_window.specs.Windows.{Holds, whole_window}
use Rattle.oe_sources.proofs.generated_cube.GeneratedCube.look.Goals as goal

pub returns : goal.returns
returns c =
    let w = c.args.window.now in
    let into = c.make_cells.new.into in
    let seed = c.self.inside.seed in
    let side = c.self.inside.side in
    let shape : generated_shape side ≡ c.args.self.now.shape = ap (λ (s : Source). s.shape) c.self.view_is in
    let inside : Holds (whole_window (generated_shape side)) w = subst (λ (d : Dimensions). Holds (whole_window d) w) (sym shape) c.requires.inside in
    record {
      given = subst (λ (s : Source). IfSome s.contents (λ k. AreCellsOf s.shape k w into)) c.self.view_is (generated_window seed side w into inside c.make_cells.ensures);
      of_kind = subst (λ (s : Source). list_all (is_null_or_of s.kind) into ≡ true) c.self.view_is (generated_kind seed w into c.make_cells.ensures);
      damage = tt;
    }
