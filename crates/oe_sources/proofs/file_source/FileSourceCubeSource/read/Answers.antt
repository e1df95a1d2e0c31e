use Rattle.std.proofs.Common.{◌≡◌, true, sym, ap, ◌∙◌, subst, arith}
use Rattle.std.specs.Prelude.{IfErr, IfSome, OnOk}
use Rattle.std.specs.List.{list_all}
use Rattle.std.specs.Option.{option_map}
use Rattle.oe_cube.specs.Kinds.{is_null_or_of}
use Rattle.oe_outside.specs.Faults.{HasCauseOf}
use Rattle.oe_sources.specs.CubeFile.{contents_of}
use Rattle.oe_sources.specs.FileState.{FileState}
use Rattle.oe_sources.specs.Source.{AreCellsOf, TellsDamage}
use Rattle.oe_sources.specs.declared.source.SourceFail.TheVariants.{Failed}
use Rattle.oe_sources.proofs.ContentLemmas.{given_shown}
use Rattle.oe_sources.proofs.SourceLemmas.{failed_is}
use Rattle.oe_window.specs.Windows.{Holds, whole_window}
use Rattle.oe_sources.proofs.file_source.FileSourceCubeSource.read.Goals as goal

pub read_window-answer-requires-clause-inside : goal.read_window-answer-requires-clause-inside
read_window-answer-requires-clause-inside g c =
    subst (λ (f : FileState). Holds (whole_window f.source.shape) c.args.window.now) (sym c.self.view_is) c.requires.inside

pub returns : goal.returns
returns g c =
    let w = c.args.window.now in
    let into = c.read_window-answer.new.into in
    let result = c.read_window-answer.result in
    let head = c.self.inside.file.head in
    let asked : c.self.inside.asked ≡ c.args.self.now.source.asked = ap (λ (f : FileState). f.source.asked) c.self.view_is in
    record {
      given = subst (λ (f : FileState). OnOk result (IfSome f.source.contents (λ k. AreCellsOf f.source.shape k w into))) c.self.view_is
          (given_shown (g.S.Store.bytes c.self.inside.store) head w into result c.read_window-answer.ensures.given);
      of_kind = subst (λ (f : FileState). OnOk result (list_all (is_null_or_of f.source.kind) into ≡ true)) c.self.view_is c.read_window-answer.ensures.of_kind;
      damage = subst (λ (f : FileState). IfErr result (TellsDamage f.source.shape f.source.contents w)) c.self.view_is c.read_window-answer.ensures.damage;
      cause = subst (λ (f : FileState). HasCauseOf Failed f.source.faults (g.S.Store.faults c.count_looks.new.store) result) c.self.view_is
          (record {
            count = c.count_looks.ensures.falls;
            failed = λ err. c.count_looks.ensures.rose (c.is_failed-failed.ensures ∙ failed_is result err);
          });
      asked = omega (arith, c.count_looks.ensures.asked, c.size.ensures.value, asked);
      shape = ap (λ (f : FileState). f.source.shape) c.self.view_is;
      kind = ap (λ (f : FileState). f.source.kind) c.self.view_is;
      contents = ap (option_map (contents_of head)) c.count_looks.ensures.same ∙ ap (λ (f : FileState). f.source.contents) c.self.view_is;
    }
