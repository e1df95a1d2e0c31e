use Rattle.std.proofs.Common.{◌+◌, vec_len, sym, arith}
use Rattle.std.proofs.lemmas.Grind.{common_steps}
use Rattle.oe_outside.proofs.Causes.{NeverFalls-refl, NeverFalls-trans}
use Rattle.oe_outside.proofs.Inputs.{taken_at_most, taken_later, none_given, none_within, more_given, reads_to_end, reads_past, same_within, same_past, later_cause, answered}
use Rattle.oe_outside.proofs.input.read_up_to.Goals as goal

pub loop-source-init : goal.loop-source-init
loop-source-init g c = record {
  most = none_within _ _ c.new-bytes.ensures.len;
  gave = none_given _ _ c.new-bytes.ensures.items;
  falls = NeverFalls-refl _;
  room = let long = c.in_ok-piece.ensures.len in omega (arith, long);
}

pub returns-in-Err-clause-bounded : goal.returns-in-Err-clause-bounded
returns-in-Err-clause-bounded g c =
    taken_later _ _ _ c.loop-source.bytes.items (vec_len c.loop-source.bytes) (c.args.limit + 1) (sym c.loop-source.bytes.ok.0) c.loop-source.invariant.most c.loop-source.invariant.gave c.read_more.ensures.bounded

pub returns-in-Err-clause-cause : goal.returns-in-Err-clause-cause
returns-in-Err-clause-cause g c = later_cause _ _ _ c.in-Err.refusal _ _ _ c.loop-source.invariant.falls c.in-Err.ensures.cause

pub returns-in-Ok-eq0-clause-read : goal.returns-in-Ok-eq0-clause-read
returns-in-Ok-eq0-clause-read g c =
    reads_to_end _ _ _ _ _ c.loop-source.bytes.items _ c.loop-source.invariant.gave c.in-Ok-eq0.ensures.read c.in-Ok-eq0.field-0-test

pub returns-in-Ok-eq0-clause-bounded : goal.returns-in-Ok-eq0-clause-bounded
returns-in-Ok-eq0-clause-bounded g c =
    taken_later _ _ _ c.loop-source.bytes.items (vec_len c.loop-source.bytes) (c.args.limit + 1) (sym c.loop-source.bytes.ok.0) c.loop-source.invariant.most c.loop-source.invariant.gave c.read_more.ensures.bounded

pub returns-in-Ok-eq0-clause-cause : goal.returns-in-Ok-eq0-clause-cause
returns-in-Ok-eq0-clause-cause g c =
    answered _ _ _ _ (NeverFalls-trans c.loop-source.invariant.falls c.read_more.ensures.cause.count)

pub loop-source-preserved : goal.loop-source-preserved
loop-source-preserved g c = record {
  most = same_within _ _ _ (sym c.read_more.new.bytes.ok.0) c.in-Ok.ensures.read.most;
  gave = more_given _ _ _ _ _ c.loop-source.bytes.items _ c.loop-source.invariant.gave c.in-Ok.ensures.read;
  falls = NeverFalls-trans c.loop-source.invariant.falls c.read_more.ensures.cause.count;
  room = c.loop-source.invariant.room;
}

pub returns-clause-read : goal.returns-clause-read
returns-clause-read g c =
    reads_past _ _ _ c.loop-source.bytes.items c.loop-source.invariant.gave
    (same_within _ _ _ c.loop-source.bytes.ok.0 c.loop-source.invariant.most)
    (same_past _ _ _ _ c.loop-source-test.false c.len.ensures c.loop-source.bytes.ok.0)

pub returns-clause-bounded : goal.returns-clause-bounded
returns-clause-bounded g c =
    taken_at_most _ _ c.loop-source.bytes.items (c.args.limit + 1) (same_within _ _ _ c.loop-source.bytes.ok.0 c.loop-source.invariant.most) c.loop-source.invariant.gave

pub returns-clause-cause : goal.returns-clause-cause
returns-clause-cause g c = answered _ _ _ _ c.loop-source.invariant.falls

pub loop-source-smaller : goal.loop-source-smaller
loop-source-smaller g c = grind (arith, common_steps) steps 2000000
