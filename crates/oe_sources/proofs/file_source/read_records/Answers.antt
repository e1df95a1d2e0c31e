use Rattle.std.proofs.Common.{◌≡◌, ◌<◌, ℕ, length, ◌∙◌, subst, arith}
use Rattle.oe_sources.specs.OpenedFile.{AreOfKind}
use Rattle.oe_sources.proofs.PieceLemmas.{piece_cells, piece_damage}
use Rattle.oe_sources.proofs.file_source.read_records.Goals as goal

pub returns-then-read-into-clause-damage : goal.returns-then-read-into-clause-damage
returns-then-read-into-clause-damage g c head spot left records =
    let below = c.if-read-into.true in
    let read = c.read_stored-read.auto.into in
    let inside : c.read_stored-read.result < length c.args.into.now = omega (arith, below, read) in (
      omega arith,
      omega (arith, inside),
      piece_damage (g.S.Store.bytes c.args.store.now) head c.args.spot.kind c.args.spot.width c.args.spot.offset c.args.number (length c.args.into.now) c.read_stored-read.result c.look_whole.new.into spot.kind_is spot.width_is spot.some (omega (arith, left, spot.left_is)) spot.offset_is (c.look_whole.auto.into ∙ c.requires.room) (c.in-Ok-true.ensures.held c.in-Ok-true.field-0-test) (c.read_stored-read.ensures.stop inside) inside,
    )

pub returns-clause-read : goal.returns-clause-read
returns-clause-read g c head spot left =
    let past = c.if-read-into.false in
    let read = c.read_stored-read.auto.into in
    piece_cells (g.S.Store.bytes c.args.store.now) head c.args.spot.kind c.args.spot.width c.args.spot.offset c.args.number (length c.args.into.now) c.read_stored-read.result c.look_whole.new.into c.read_stored-read.new.into spot.kind_is spot.width_is spot.some (omega (arith, left, spot.left_is)) spot.offset_is (c.look_whole.auto.into ∙ c.requires.room) (c.in-Ok-true.ensures.held c.in-Ok-true.field-0-test) c.read_stored-read.ensures.read (omega (arith, past, read))

pub returns-clause-of_kind : goal.returns-clause-of_kind
returns-clause-of_kind g c =
    let past = c.if-read-into.false in
    let read = c.read_stored-read.auto.into in
    let same : c.read_stored-read.result ≡ length c.args.into.now = omega (arith, past, read, c.read_stored-read.ensures.within) in
    subst (λ (n : ℕ). AreOfKind c.args.spot.kind n c.read_stored-read.new.into) same c.read_stored-read.ensures.of_kind
