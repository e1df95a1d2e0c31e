use Rattle.std.proofs.Common.{◌≡◌, sym, ap, subst, arith}
use Rattle.oe_outside.specs.Faults.{NeverFalls}
use Rattle.oe_outside.proofs.Causes.{NeverFalls-refl}
use Rattle.oe_sources.specs.Source.{Source}
use Rattle.oe_sources.proofs.generated_cube.GeneratedCube.count.Goals as goal

pub returns : goal.returns
returns c =
    let asked : c.self.inside.asked ≡ c.args.self.now.asked = ap (λ (s : Source). s.asked) c.self.view_is in
    record {
      asked = omega (arith, c.saturating_add-self-inside.ensures, asked);
      falls = subst (λ (s : Source). NeverFalls s.faults 0) c.self.view_is (NeverFalls-refl 0);
      rose = λ failed. cc;
      still = λ none. ap (λ (s : Source). s.faults) c.self.view_is;
      shape = ap (λ (s : Source). s.shape) c.self.view_is;
      kind = ap (λ (s : Source). s.kind) c.self.view_is;
      contents = ap (λ (s : Source). s.contents) c.self.view_is;
    }
