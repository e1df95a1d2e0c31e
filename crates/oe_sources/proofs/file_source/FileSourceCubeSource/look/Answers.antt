use Rattle.std.proofs.Common.{◌≡◌, true, sym, subst}
use Rattle.std.specs.Prelude.{IfErr, IfSome, OnOk}
use Rattle.std.specs.List.{list_all}
use Rattle.oe_cube.specs.Kinds.{is_null_or_of}
use Rattle.oe_sources.specs.FileState.{FileState}
use Rattle.oe_sources.specs.Source.{AreCellsOf, Looks, TellsDamage}
use Rattle.oe_sources.proofs.ContentLemmas.{given_shown}
use Rattle.oe_window.specs.Windows.{Holds, whole_window}
use Rattle.oe_sources.proofs.file_source.FileSourceCubeSource.look.Goals as goal

pub read_window-requires-clause-inside : goal.read_window-requires-clause-inside
read_window-requires-clause-inside g c =
    subst (λ (f : FileState). Holds (whole_window f.source.shape) c.args.window.now) (sym c.self.view_is) c.requires.inside

pub returns : goal.returns
returns g c =
    let w = c.args.window.now in
    let into = c.read_window.new.into in
    let result = c.read_window.result in
    subst (Looks c.args.self.now.source w into) (sym c.met.ensures) (record {
      given = subst (λ (f : FileState). OnOk result (IfSome f.source.contents (λ k. AreCellsOf f.source.shape k w into))) c.self.view_is
          (given_shown (g.S.Store.bytes c.self.inside.store) c.self.inside.file.head w into result c.read_window.ensures.given);
      of_kind = subst (λ (f : FileState). OnOk result (list_all (is_null_or_of f.source.kind) into ≡ true)) c.self.view_is c.read_window.ensures.of_kind;
      damage = subst (λ (f : FileState). IfErr result (TellsDamage f.source.shape f.source.contents w)) c.self.view_is c.read_window.ensures.damage;
    })
