use Rattle.std.proofs.Common.{◌≡◌, ◌+◌, ◌*◌, ◌^◌, ℕ, length, refl, ap, ◌∙◌, subst, arith}
use Rattle.std.specs.Option.{option_map}
use Rattle.oe_outside.specs.Stored.{StaysOutside, StoreHolds}
use Rattle.oe_outside.proofs.Stores.{StaysOutside-put, StaysOutside-refl, StoreHolds-put}
use Rattle.oe_parts.proofs.JudgeLemmas.{over_few}
use Rattle.oe_parts.proofs.laying.lay_row.Goals as goal

pub returns-in-Err-Failed-clause-outside : goal.returns-in-Err-Failed-clause-outside
returns-in-Err-Failed-clause-outside g c =
    StaysOutside-refl (g.P.Store.bytes c.args.spool.now) (c.args.base + 17 * c.args.first) (17 * c.args.count)

pub returns-in-Err-Damaged-clause-outside : goal.returns-in-Err-Damaged-clause-outside
returns-in-Err-Damaged-clause-outside g c =
    StaysOutside-refl (g.P.Store.bytes c.args.spool.now) (c.args.base + 17 * c.args.first) (17 * c.args.count)

pub returns-in-Err-Damaged-clause-damage : goal.returns-in-Err-Damaged-clause-damage
returns-in-Err-Damaged-clause-damage g c =
    let told = rw c.in-Err-Damaged.field-0-is at c.in-Err-Damaged.ensures.damage in
    (c.in-Err-Damaged.index, told.0, refl, told.1)

pub number_at-requires : goal.number_at-requires
number_at-requires g c =
    over_few c.args.first c.args.count (2 ^ 40) c.read_cells.new.bytes c.in-Ok.over c.in-Ok.ensures.cells c.requires.room.few

pub returns-in-Ok-write_at-clause-laid : goal.returns-in-Ok-write_at-clause-laid
returns-in-Ok-write_at-clause-laid g c =
    let before = g.P.Store.bytes c.args.spool.now in
    let after = g.P.Store.bytes c.write_at.new.self in
    let at = c.args.base + 17 * c.args.first in
    let bytes = c.read_cells.new.bytes in
    let read = c.in-Ok.ensures.cells in
    record {
      cells = read.cells;
      many = read.many;
      valid = read.valid;
      read = subst (StoreHolds (g.S.Store.bytes c.args.store.now) c.args.at) read.bytes_are c.in-Ok.ensures.held;
      laid = subst (StoreHolds after at) read.bytes_are (StoreHolds-put before after at bytes c.in-Ok-write_at.ensures.written);
      least_is = c.number_at.ensures ∙ ap (option_map (λ index. c.args.first + index)) read.over_is;
    }

pub returns-in-Ok-write_at-clause-outside : goal.returns-in-Ok-write_at-clause-outside
returns-in-Ok-write_at-clause-outside g c =
    let long : length c.read_cells.new.bytes ≡ 17 * c.args.count = c.read_cells.auto.bytes ∙ c.requires.room.buffer_long in
    StaysOutside-put (g.P.Store.bytes c.args.spool.now) (g.P.Store.bytes c.write_at.new.self) (c.args.base + 17 * c.args.first) (17 * c.args.count) c.read_cells.new.bytes (omega (arith, long)) c.in-Ok-write_at.ensures.written

pub returns-in-Err-clause-outside : goal.returns-in-Err-clause-outside
returns-in-Err-clause-outside g c =
    let long : length c.read_cells.new.bytes ≡ 17 * c.args.count = c.read_cells.auto.bytes ∙ c.requires.room.buffer_long in
    subst (λ (n : ℕ). StaysOutside (g.P.Store.bytes c.args.spool.now) (c.args.base + 17 * c.args.first) n (g.P.Store.bytes c.write_at.new.self)) long c.in-Err.ensures.outside
