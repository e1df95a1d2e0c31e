use Rattle.std.proofs.Common.{◌≤◌, arith}
use Rattle.oe_outside.specs.Faults.{last_count}
use Rattle.oe_serve.proofs.Lengths.{counts_all}
use Rattle.oe_serve.proofs.evaluation.count_text.Goals as goal

pub returns-in-Ok-clause-counted : goal.returns-in-Ok-clause-counted
returns-in-Ok-clause-counted g c =
    let within : c.count.result ≤ last_count = omega (arith, c.count.type_inv) in
    counts_all c.args.run.now c.requires.planned c.requires.complete c.requires.numbers (g.P.Store.bytes c.args.spool.now)
    c.new-count.result c.render.new.out c.count.result c.new-count.ensures c.count.ensures within c.in-Ok.ensures.counted
