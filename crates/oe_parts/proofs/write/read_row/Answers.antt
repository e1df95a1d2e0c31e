use Rattle.std.proofs.Common.{◌≡◌, ◌+◌, ◌*◌, ℕ, length, sym, ap, ◌∙◌}
use Rattle.oe_parts.proofs.ReadLemmas.{shown_bytes}
use Rattle.oe_parts.proofs.write.read_row.Goals as goal

pub returns-in-Ok-clause-shown : goal.returns-in-Ok-clause-shown
returns-in-Ok-clause-shown g c shown valid long shows =
    let bytes = c.read_cells.new.bytes in
    let counted : length bytes ≡ 17 * length shown = c.read_cells.auto.bytes ∙ c.requires.room.buffer_long ∙ ap (λ (n : ℕ). 17 * n) (sym long) in
    shown_bytes (g.P.Store.bytes c.args.spool.now) (c.args.base + 17 * c.args.first) bytes shown counted c.in-Ok.ensures.held shows

pub returns-in-Ok-clause-cells : goal.returns-in-Ok-clause-cells
returns-in-Ok-clause-cells g c = (c.in-Ok._over, c.in-Ok.ensures.cells)
