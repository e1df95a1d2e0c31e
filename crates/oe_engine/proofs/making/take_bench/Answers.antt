use Rattle.std.proofs.Common.{◌≡◌, ◌∙◌, Option, IfSome, sym, subst}
use Rattle.std.proofs.lemmas.List.Elements.{All-pop}
use Rattle.oe_engine.specs.Benches.{BenchOf, IsBenchFor}
use Rattle.oe_engine.specs.Workspaces.{IsIdle, IsPlaceFor}
use Rattle.oe_engine.proofs.WorkspaceLemmas.{a_place_fewer, bench_of_last, idle_of_last, if_ok}
use Rattle.oe_engine.proofs.making.take_bench.Goals as goal

pub returns-clause-bench : goal.returns-clause-bench
returns-clause-bench c = λ p has.
    let last = (All-pop (IsPlaceFor p) c.args.places.now.items c.pop.new.self.items c.pop.result c.pop.ensures.items has).1 in
    if_ok (IsBenchFor p) c.ok_or.result
    (subst (λ (o : Option BenchOf). IfSome o (IsBenchFor p)) (sym c.flatten.ensures ∙ c.ok_or.ensures.ok_part)
    (bench_of_last p c.pop.result last))

pub returns-clause-idle : goal.returns-clause-idle
returns-clause-idle c = λ p has.
    let last = (All-pop (IsPlaceFor p) c.args.places.now.items c.pop.new.self.items c.pop.result c.pop.ensures.items has).1 in
    if_ok IsIdle c.ok_or.result
    (subst (λ (o : Option BenchOf). IfSome o IsIdle) (sym c.flatten.ensures ∙ c.ok_or.ensures.ok_part)
    (idle_of_last p c.pop.result last))

pub returns-clause-others : goal.returns-clause-others
returns-clause-others c = λ p has.
    (All-pop (IsPlaceFor p) c.args.places.now.items c.pop.new.self.items c.pop.result c.pop.ensures.items has).0

pub returns-clause-fewer : goal.returns-clause-fewer
returns-clause-fewer c =
    a_place_fewer c.ok_or.result c.pop.result c.args.places.now.items c.pop.new.self.items c.pop.ensures.items
    (sym c.flatten.ensures ∙ c.ok_or.ensures.ok_part)
