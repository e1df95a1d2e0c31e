use Rattle.std.proofs.Common.{ℕ, ◌+◌, ◌<◌, length, take, drop, ap, ◌∙◌, subst, arith}
use Rattle.std.proofs.lemmas.Grind.{common_steps}
use Rattle.oe_routes.specs.Tokens.{entries_in}
use Rattle.oe_routes.proofs.TokenLemmas.{goes_on}
use Rattle.oe_routes.proofs.tokens.read_entries.Goals as goal

pub loop-rest-preserved : goal.loop-rest-preserved
loop-rest-preserved c =
    let rest = c.loop-rest.rest.now in
    let place = c.index_of_byte-end.ensures.place in
    let within = c.index_of_byte-end.ensures.within in
    let on = goes_on (entries_in c.args.bytes.now) c.loop-rest.entries.items c.add_line.new.entries.items rest c.split_at.result.0.now
    c.bytes_behind-rest.result.now c.in_ok-add_line.field-0 c.loop-rest.invariant.left
    (subst (λ (n : ℕ). n < length rest) place (omega (arith, within, c.if-end-rest.false)))
    (c.split_at.ensures.front ∙ ap (λ (n : ℕ). take n rest) place)
    (c.bytes_behind-rest.ensures ∙ ap (λ (n : ℕ). drop (n + 1) rest) place)
    c.in_ok-add_line.ensures c.if-not-branch.false in
    record {
      left = on.0;
      counted = omega (arith, c.loop-rest.invariant.counted, on.1);
      few = on.2;
    }

pub loop-rest-smaller : goal.loop-rest-smaller
loop-rest-smaller c = grind (arith, common_steps) steps 2000000

pub returns : goal.returns
returns c = grind (arith, common_steps) steps 2000000
