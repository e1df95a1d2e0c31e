use Rattle.std.proofs.Common.{vec_len, sym, arith}
use Rattle.std.proofs.lemmas.Grind.{common_steps, elements}
use borrow.Author.Differences.{ints}
use Rattle.oe_http.specs.Front.{most_head}
use Rattle.oe_http.proofs.Taken.{takes_front, takes_later, takes_with}
use Rattle.oe_http.proofs.front.read_front.Goals as goal

pub returns-in_err-count-clause-taken : goal.returns-in_err-count-clause-taken
returns-in_err-count-clause-taken g c =
    takes_later _ _ _ c.loop-bytes.bytes.items (vec_len c.loop-bytes.bytes) most_head (sym c.loop-bytes.bytes.ok.0) c.loop-bytes.invariant.most c.loop-bytes.invariant.gave c.in_err-count.ensures.taken

pub returns-then-count-eq0-clause-taken : goal.returns-then-count-eq0-clause-taken
returns-then-count-eq0-clause-taken g c = takes_with _ _ _ c.loop-bytes.invariant.gave c.in_ok-count.ensures.read

pub returns-in-Some-clause-taken : goal.returns-in-Some-clause-taken
returns-in-Some-clause-taken g c = takes_with _ _ _ c.loop-bytes.invariant.gave c.in_ok-count.ensures.read

pub returns-clause-taken : goal.returns-clause-taken
returns-clause-taken g c =
    takes_front _ _ c.loop-bytes.bytes.items (vec_len c.loop-bytes.bytes) most_head (sym c.loop-bytes.bytes.ok.0) c.loop-bytes.invariant.most c.loop-bytes.invariant.gave

pub head_end-requires : goal.head_end-requires
head_end-requires g c = grind (arith, elements) steps 2000000

pub loop-bytes-preserved : goal.loop-bytes-preserved
loop-bytes-preserved g c = grind (arith, common_steps) steps 2000000

pub loop-bytes-smaller : goal.loop-bytes-smaller
loop-bytes-smaller g c = grind (arith, common_steps) steps 2000000

pub returns-in-Some-clause-read : goal.returns-in-Some-clause-read
returns-in-Some-clause-read g c = grind (arith, common_steps) steps 2000000

pub returns-then-count-eq0-clause-read : goal.returns-then-count-eq0-clause-read
returns-then-count-eq0-clause-read g c = grind (ints, arith, common_steps) steps 4000000
