use Rattle.std.proofs.Common.{◌≡◌, ℕ, ap, ◌∙◌, subst}
use Rattle.std.specs.Option.{option_map}
use Rattle.oe_outside.specs.Faults.{NeverFalls, Rose}
use Rattle.oe_sources.specs.CubeFile.{contents_of}
use Rattle.oe_sources.specs.FileState.{FileState}
use Rattle.oe_sources.specs.Source.{asked_after}
use Rattle.oe_sources.proofs.file_source.FileSourceCubeSource.count.Goals as goal

pub returns : goal.returns
returns g c =
    let faults = g.S.Store.faults c.count_looks.new.store in
    let asked : c.self.inside.asked ≡ c.args.self.now.source.asked = ap (λ (f : FileState). f.source.asked) c.self.view_is in
    record {
      asked = c.count_looks.ensures.asked ∙ ap (λ (n : ℕ). asked_after n c.args.cells) asked;
      falls = subst (λ (f : FileState). NeverFalls f.source.faults faults) c.self.view_is c.count_looks.ensures.falls;
      rose = λ met. subst (λ (f : FileState). Rose f.source.faults faults) c.self.view_is (c.count_looks.ensures.rose (c.is_some.ensures ∙ met));
      still = λ none. c.count_looks.ensures.still (c.is_some.ensures ∙ none) ∙ ap (λ (f : FileState). f.source.faults) c.self.view_is;
      shape = ap (λ (f : FileState). f.source.shape) c.self.view_is;
      kind = ap (λ (f : FileState). f.source.kind) c.self.view_is;
      contents = ap (option_map (contents_of c.self.inside.file.head)) c.count_looks.ensures.same ∙ ap (λ (f : FileState). f.source.contents) c.self.view_is;
    }
