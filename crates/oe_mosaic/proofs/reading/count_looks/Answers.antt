use Rattle.std.proofs.Common.{◌<◌, length, get_or, set, is_some, refl, sym, arith}
use Rattle.std.proofs.lemmas.List.{get_or_read}
use Rattle.oe_mosaic.proofs.ReadLemmas.{count_only, count_rose_in, old_item, one_counts, only_refl}
use Rattle.oe_mosaic.proofs.reading.count_looks.Goals as goal

pub returns-then-is_some-clause-only : goal.returns-then-is_some-clause-only
returns-then-is_some-clause-only g c =
    let items = c.args.items.now in
    let k = c.part_of-part.result in
    let below : k < length items = omega (arith, c.part_of-part.ensures) in
    let is = old_item items k c.index-items-part.result (sym (get_or_read items k c.index-items-part.result below c.index-items-part.is c.index-items-part.result)) in
    count_only g.S.CubeSource.seen items (set items k c.count.new.self) k (get_or items k c.index-items-part.result) c.count.new.self 0 (is_some c.args.fault) below is refl c.count.ensures

pub returns-then-is_some-clause-rose : goal.returns-then-is_some-clause-rose
returns-then-is_some-clause-rose g c = λ met.
    let items = c.args.items.now in
    let k = c.part_of-part.result in
    let below : k < length items = omega (arith, c.part_of-part.ensures) in
    let is = old_item items k c.index-items-part.result (sym (get_or_read items k c.index-items-part.result below c.index-items-part.is c.index-items-part.result)) in
    count_rose_in g.S.CubeSource.seen items (set items k c.count.new.self) k (get_or items k c.index-items-part.result) c.count.new.self 0 (is_some c.args.fault) below is refl c.count.ensures met

pub returns-then-is_some-clause-one : goal.returns-then-is_some-clause-one
returns-then-is_some-clause-one g c = λ met.
    let items = c.args.items.now in
    let k = c.part_of-part.result in
    let below : k < length items = omega (arith, c.part_of-part.ensures) in
    let is = old_item items k c.index-items-part.result (sym (get_or_read items k c.index-items-part.result below c.index-items-part.is c.index-items-part.result)) in
    one_counts g.S.CubeSource.seen items (set items k c.count.new.self) k (get_or items k c.index-items-part.result) c.count.new.self (is_some c.args.fault) below is refl c.count.ensures met

pub returns-else-is_some-clause-only : goal.returns-else-is_some-clause-only
returns-else-is_some-clause-only g c = only_refl g.S.CubeSource.seen c.args.items.now
