use Rattle.std.proofs.Common.{ℕ, List, Option, IfErr, IfOk, IfSome, OnOk, refl, sym, subst, arith}
use Rattle.oe_cell.specs.declared.cell.Cell.{Cell}
use Rattle.oe_dims.specs.Cube.{Cube}
use Rattle.oe_spool.specs.Spooled.{ChangesOnly}
use Rattle.oe_parts.specs.Laid.{AreLaid, HaveRecords, IsInPart, IsUndamaged, PartStops}
use Rattle.oe_parts.specs.PartFile.{IsPartFile}
use Rattle.oe_parts.specs.Parts.{IsPartRead, PartState, ShowsPartOf}
use Rattle.oe_parts.proofs.OpenLemmas.{length-front}
use Rattle.oe_parts.proofs.PartSteps.{err_stops, ok_cube, ok_some, ok_sound}
use Rattle.oe_parts.proofs.laying.lay_one.Goals as goal

pub lay_part-requires-clause-at : goal.lay_part-requires-clause-at
lay_part-requires-clause-at g c =
    let head = c.part.inside.head in
    let short = c.part.invariant.0.short in
    omega (arith, c.part.invariant.1, length-front head, short)

pub invariant_of-part : goal.invariant_of-part
invariant_of-part g c = (
  c.part.invariant.0,
  c.part.invariant.1,
  subst (λ (o : Option (List ℕ)). IfSome o (λ all. IsPartFile all c.part.inside.head)) (sym c.lay_part.ensures.left.same) c.part.invariant.2,
  c.part.invariant.3,
)

pub returns-clause-cube : goal.returns-clause-cube
returns-clause-cube g c =
    let spool = g.P.Store.bytes c.lay_part.new.spool in
    let inside = c.part.inside in
    let before : PartState = record { name = inside.name; head = inside.head; bytes = g.S.Store.bytes inside.store; faults = g.S.Store.faults inside.store } in
    subst (λ (s : PartState). IfOk c.lay_part.result (λ least. (cube : Cube Cell) → ShowsPartOf cube s → AreLaid spool c.args.base cube (IsInPart s.head) least)) c.part.view_is
    (ok_cube before inside.base c.args.base spool c.lay_part.result c.part.invariant.1 c.lay_part.ensures.laid)

pub returns-clause-some : goal.returns-clause-some
returns-clause-some g c =
    let spool = g.P.Store.bytes c.lay_part.new.spool in
    let inside = c.part.inside in
    let before : PartState = record { name = inside.name; head = inside.head; bytes = g.S.Store.bytes inside.store; faults = g.S.Store.faults inside.store } in
    subst (λ (s : PartState). IfOk c.lay_part.result (HaveRecords spool c.args.base s.head.shape (IsInPart s.head))) c.part.view_is
    (ok_some before inside.base c.args.base spool c.lay_part.result c.lay_part.ensures.laid)

pub returns-clause-sound : goal.returns-clause-sound
returns-clause-sound g c =
    let spool = g.P.Store.bytes c.lay_part.new.spool in
    let inside = c.part.inside in
    let before : PartState = record { name = inside.name; head = inside.head; bytes = g.S.Store.bytes inside.store; faults = g.S.Store.faults inside.store } in
    subst (λ (s : PartState). OnOk c.lay_part.result (IsUndamaged s)) c.part.view_is
    (ok_sound before inside.base c.args.base spool c.lay_part.result c.part.invariant.1 c.lay_part.ensures.laid)

pub returns-clause-stops : goal.returns-clause-stops
returns-clause-stops g c =
    let inside = c.part.inside in
    let store = c.lay_part.new.store in
    let before : PartState = record { name = inside.name; head = inside.head; bytes = g.S.Store.bytes inside.store; faults = g.S.Store.faults inside.store } in
    let after : PartState = record { name = inside.name; head = inside.head; bytes = g.S.Store.bytes store; faults = g.S.Store.faults store } in
    let falls = g.P.Store.faults c.args.spool.now in
    let fallen = g.P.Store.faults c.lay_part.new.spool in
    subst (λ (s : PartState). IfErr c.lay_part.result (PartStops s after falls fallen)) c.part.view_is
    (err_stops before after inside.base falls fallen c.lay_part.result c.part.invariant.1 c.lay_part.ensures.damage c.lay_part.ensures.left.part_cause c.lay_part.ensures.left.spool_cause)

pub returns-clause-changes : goal.returns-clause-changes
returns-clause-changes g c =
    let before = g.P.Store.bytes c.args.spool.now in
    let after = g.P.Store.bytes c.lay_part.new.spool in
    subst (λ (s : PartState). ChangesOnly c.args.base s.head.shape (IsInPart s.head) before after) c.part.view_is c.lay_part.ensures.changes

pub returns-clause-read : goal.returns-clause-read
returns-clause-read g c =
    let inside = c.part.inside in
    let store = c.lay_part.new.store in
    let after : PartState = record { name = inside.name; head = inside.head; bytes = g.S.Store.bytes store; faults = g.S.Store.faults store } in
    subst (λ (s : PartState). IsPartRead s after) c.part.view_is
    (record { name = refl; head = refl; bytes = c.lay_part.ensures.left.same; faults = c.lay_part.ensures.left.part_cause.count })

pub returns-clause-count : goal.returns-clause-count
returns-clause-count g c = c.lay_part.ensures.left.spool_cause.count
