use Rattle.std.proofs.Common.{◌≡◌, ℕ, ◌<◌, Some}
use Rattle.std.specs.List.{slice_get}
use Rattle.oe_parts.specs.Head.{IsPartHead, PartHead}
use Rattle.oe_parts.specs.Parts.{heads_of}
use Rattle.oe_parts.specs.Whole.{IsOfRun}
use Rattle.oe_parts.proofs.whole.first_stranger.Given as goal

abbrev pub invariant-loop-index : goal.invariant-loop-index
invariant-loop-index g l = record {
  of_run : (k : ℕ) (other : PartHead) → k < l.index → slice_get (heads_of l.parts) k ≡ Some other → IsOfRun (record { graph = l.graph; kind = l.kind; shape = l.shape }) l.sides other;
  valid : (k : ℕ) (other : PartHead) → k < l.index → slice_get (heads_of l.parts) k ≡ Some other → IsPartHead other;
}
