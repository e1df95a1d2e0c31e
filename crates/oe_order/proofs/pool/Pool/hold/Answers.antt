use Rattle.std.proofs.Common.{◌≡◌, Bool, false, get_or, set, true, sym, ◌∙◌, arith}
use Rattle.std.proofs.lemmas.List.{length-set, get_or_read}
use Rattle.std.proofs.lemmas.List.Sums.{count_by-le-length}
use Rattle.std.proofs.lemmas.Grind.{common_steps}
use Rattle.oe_order.proofs.Pools.{IsPool-take, count-set_true}
use Rattle.oe_order.proofs.pool.Pool.hold.Goals as goal

pub overflow_add-self : goal.overflow_add-self
overflow_add-self c =
    let held = c.args.self.now.held.items in
    let was : get_or held c.args.step false ≡ false = sym (get_or_read held c.args.step c.index.result.now c.requires.step c.index.ensures false) ∙ c.if-index.false in
    omega (arith, count-set_true held c.args.step c.requires.step was, count_by-le-length (λ (b : Bool). b) (set held c.args.step true), length-set held c.args.step true, c.requires.few, c.requires.pool.all, c.in-None.ensures.cases.0, c.args.self.now.free.ok.0)

pub returns-in-Some-clause-pool : goal.returns-in-Some-clause-pool
returns-in-Some-clause-pool c =
    let held = c.args.self.now.held.items in
    let was : get_or held c.args.step false ≡ false = sym (get_or_read held c.args.step c.index.result.now c.requires.step c.index.ensures false) ∙ c.if-index.false in
    IsPool-take held c.args.self.now.slots.items c.args.self.now.free.items c.pop.new.self.items c.args.self.now.count c.args.step c.in-Some.slot c.requires.pool c.requires.step was c.in-Some.ensures.items

pub returns-in-None-clause-count : goal.returns-in-None-clause-count
returns-in-None-clause-count c = grind (arith, common_steps) steps 2000000

pub returns-in-None-clause-pool : goal.returns-in-None-clause-pool
returns-in-None-clause-pool c = grind (arith, common_steps) steps 2000000

pub returns-in-Some-clause-count : goal.returns-in-Some-clause-count
returns-in-Some-clause-count c = grind (arith, common_steps) steps 2000000

pub returns-then-index-clause-held : goal.returns-then-index-clause-held
returns-then-index-clause-held c = grind (arith, common_steps) steps 2000000
