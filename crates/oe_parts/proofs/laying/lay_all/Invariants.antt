use Rattle.std.proofs.Common.{◌≡◌, ◌<◌, ℕ, Some, length}
use Rattle.std.specs.List.{slice_get}
use Rattle.oe_cell.specs.declared.cell.Cell.{Cell}
use Rattle.oe_dims.specs.Cube.{Cube}
use Rattle.oe_dims.specs.Positions.{IsPosition}
use Rattle.oe_outside.specs.Faults.{NeverFalls}
use Rattle.oe_spool.specs.Spooled.{ChangesOnly}
use Rattle.oe_parts.specs.Laid.{AreLaid, HaveRecords, IsInFirst, IsUndamaged}
use Rattle.oe_parts.specs.Parts.{ArePartsRead, PartState, ShowPartsOf, heads_of}
use Rattle.oe_parts.proofs.LayLemmas.{part_sets}
use Rattle.oe_parts.proofs.laying.lay_all.Given as goal

abbrev pub invariant-loop-index : goal.invariant-loop-index
invariant-loop-index g l = record {
  cube : (cube : Cube Cell) → cube.shape ≡ l.shape → ShowPartsOf cube l.fn.parts
      → AreLaid (g.P.Store.bytes l.spool) l.base cube (IsInFirst (part_sets (heads_of l.fn.parts)) l.index) l.least;
  some : HaveRecords (g.P.Store.bytes l.spool) l.base l.shape (IsInFirst (part_sets (heads_of l.fn.parts)) l.index) l.least;
  sound : (k : ℕ) (part : PartState) → k < l.index → slice_get l.fn.parts k ≡ Some part → IsUndamaged part;
  changes : ChangesOnly l.base l.shape (IsPosition l.shape) (g.P.Store.bytes l.fn.spool) (g.P.Store.bytes l.spool);
  read : ArePartsRead l.fn.parts l.parts;
  falls : NeverFalls (g.P.Store.faults l.fn.spool) (g.P.Store.faults l.spool);
  bytes : length l.bytes ≡ 69632;
}
