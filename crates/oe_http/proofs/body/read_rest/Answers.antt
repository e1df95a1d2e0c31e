use Rattle.std.proofs.Common.{vec_len, sym, arith}
use Rattle.std.proofs.lemmas.Grind.{common_steps}
use Rattle.oe_http.proofs.Taken.{takes_behind, takes_behind_until, takes_body}
use Rattle.oe_http.proofs.body.read_rest.Goals as goal

pub returns-in_err-count-clause-taken : goal.returns-in_err-count-clause-taken
returns-in_err-count-clause-taken g c =
    let given = c.loop-link.invariant.given in
    takes_behind_until _ _ _ _ given.0 _ (vec_len c.loop-link.body) c.args.number given.1 (sym c.loop-link.body.ok.0) c.loop-link.invariant.most given.2 c.in_err-count.ensures.taken

pub returns-then-count-eq0-clause-taken : goal.returns-then-count-eq0-clause-taken
returns-then-count-eq0-clause-taken g c =
    let given = c.loop-link.invariant.given in takes_behind _ _ _ _ given.0 given.1 given.2 c.in_ok-count.ensures.read

pub returns-clause-taken : goal.returns-clause-taken
returns-clause-taken g c =
    let given = c.loop-link.invariant.given in
    takes_body _ _ _ given.0 _ (vec_len c.loop-link.body) c.args.number given.1 (sym c.loop-link.body.ok.0) c.loop-link.invariant.most given.2

pub loop-link-preserved : goal.loop-link-preserved
loop-link-preserved g c = grind (arith, common_steps) steps 2000000

pub loop-link-smaller : goal.loop-link-smaller
loop-link-smaller g c = grind (arith, common_steps) steps 2000000

pub returns-then-count-eq0-clause-read : goal.returns-then-count-eq0-clause-read
returns-then-count-eq0-clause-read g c = grind (arith, common_steps) steps 2000000
