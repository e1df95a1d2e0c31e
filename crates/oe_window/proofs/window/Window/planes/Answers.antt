use Rattle.std.proofs.Common.{arith, sym, ◌∙◌}
use Rattle.std.proofs.lemmas.Bool.{false≢true}
use Rattle.oe_window.proofs.PartLemmas.{no_planes, counted}
use Rattle.oe_window.proofs.window.Window.planes.Goals as goal

pub returns-then-is_empty-clause-value : goal.returns-then-is_empty-clause-value
returns-then-is_empty-clause-value c = (no_planes c.args.self.now (c.is_empty.ensures.0 c.if-is_empty.true)).0

pub returns-then-is_empty-clause-all : goal.returns-then-is_empty-clause-all
returns-then-is_empty-clause-all c = (no_planes c.args.self.now (c.is_empty.ensures.0 c.if-is_empty.true)).1

pub overflow_mul-result : goal.overflow_mul-result
overflow_mul-result c =
    let all = counted c.args.self.now _ (λ e. false≢true (sym c.if-is_empty.false ∙ c.is_empty.ensures.1 e)) c.requires in
    rw (c.length.ensures, c.length-2.ensures) (omega (arith, all.planes))

pub returns-clause-value : goal.returns-clause-value
returns-clause-value c =
    let all = counted c.args.self.now _ (λ e. false≢true (sym c.if-is_empty.false ∙ c.is_empty.ensures.1 e)) c.requires in
    rw (c.length.ensures, c.length-2.ensures) (sym all.plane_count_is)

pub returns-clause-all : goal.returns-clause-all
returns-clause-all c = rw (c.length.ensures, c.length-2.ensures) (omega arith)
