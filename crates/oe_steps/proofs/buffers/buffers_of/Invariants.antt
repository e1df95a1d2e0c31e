use Rattle.oe_steps.specs.Buffers.{AreOfSize, lists_of}
use Rattle.oe_steps.proofs.buffers.buffers_of.Given as goal

abbrev pub invariant-loop : goal.invariant-loop
invariant-loop l = AreOfSize (lists_of l.buffers.items) l.counter l.cells
