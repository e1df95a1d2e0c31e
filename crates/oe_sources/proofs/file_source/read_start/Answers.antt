use Rattle.std.proofs.Common.{◌≡◌, length, arith}
use Rattle.oe_sources.proofs.OpenLemmas.{none_started}
use Rattle.oe_sources.proofs.file_source.read_start.Goals as goal

pub returns-in_default-clause-refused : goal.returns-in_default-clause-refused
returns-in_default-clause-refused g c =
    let long : length c.fill_at.new.into ≡ 12 = omega (arith, c.fill_at.auto.into) in
    none_started (g.S.Store.bytes c.args.store.now) c.fill_at.new.into long (c.in-Ok-true.ensures.held c.in-Ok-true.field-0-test) c.in_default.ensures
