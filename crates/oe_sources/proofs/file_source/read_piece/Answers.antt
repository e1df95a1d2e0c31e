use Rattle.std.proofs.Common.{◌≡◌, ◌≤◌, ◌<◌, ◌+◌, ℕ, IfSome, length, take, drop, subst, arith}
use Rattle.std.specs.Prelude.{slice_get}
use Rattle.std.proofs.lemmas.List.{length-take-le}
use Rattle.oe_dims.proofs.ShapeLemmas.{cell_count_within}
use Rattle.oe_dims.specs.declared.kind.CellKind.{CellKind}
use Rattle.oe_sources.specs.CubeFile.{cell_stored}
use Rattle.oe_sources.specs.OpenedFile.{AreOfKind}
use Rattle.oe_sources.proofs.ContentLemmas.{front_of_kind}
use Rattle.oe_sources.proofs.PieceLemmas.{damage_among, has_records, in_front}
use Rattle.oe_sources.proofs.file_source.read_piece.Goals as goal

pub read_records-requires-clause-few : goal.read_records-requires-clause-few
read_records-requires-clause-few g c =
    omega (arith, length-take-le c.min-count.result c.args.into.now (omega (arith, c.min-count.ensures)), c.min-count.ensures, c.requires.within, cell_count_within c.args.file.now.head.shape c.requires.opened.valid.shape)

pub returns-in-Err-clause-damage : goal.returns-in-Err-clause-damage
returns-in-Err-clause-damage g c =
    let head = c.args.file.now.head in
    let store = g.S.Store.bytes c.args.store.now in
    let long : length (take c.min-count.result c.args.into.now) ≡ c.min-count.result = length-take-le c.min-count.result c.args.into.now (omega (arith, c.min-count.ensures)) in
    let some = c.requires.some in
    let within = c.requires.within in
    let left : length (take c.min-count.result c.args.into.now) ≤ c.spot_of-spot.result.left = omega (arith, long, c.min-count.ensures, c.min-most.ensures) in
    damage_among head store c.args.number (length (take c.min-count.result c.args.into.now)) (length c.args.into.now) c.in-Err.fail (omega (arith, long, c.min-count.ensures))
    (c.in-Err.ensures.damage head c.spot_of-spot.ensures left
    (has_records store head c.args.number (length (take c.min-count.result c.args.into.now)) c.requires.opened.valid (omega (arith, some, within)) (omega (arith, left, c.spot_of-spot.ensures.left_is)) c.requires.is_file))

pub returns-in-Ok-clause-read : goal.returns-in-Ok-clause-read
returns-in-Ok-clause-read g c =
    let head = c.args.file.now.head in
    let store = g.S.Store.bytes c.args.store.now in
    let long : length (take c.min-count.result c.args.into.now) ≡ c.min-count.result = length-take-le c.min-count.result c.args.into.now (omega (arith, c.min-count.ensures)) in
    let left : length (take c.min-count.result c.args.into.now) ≤ c.spot_of-spot.result.left = omega (arith, long, c.min-count.ensures, c.min-most.ensures) in
    let room : c.min-count.result ≤ length c.read_records.new.into = omega (arith, long, c.read_records.auto.into) in
    in_front store head c.args.number c.min-count.result c.read_records.new.into (drop c.min-count.result c.args.into.now) room
    (subst (λ (n : ℕ). IfSome store (λ all. (k : ℕ) → k < n → cell_stored head all (c.args.number + k) ≡ slice_get c.read_records.new.into k)) long
    (c.in-Ok.ensures.read head c.spot_of-spot.ensures left))

pub returns-in-Ok-clause-of_kind : goal.returns-in-Ok-clause-of_kind
returns-in-Ok-clause-of_kind g c =
    let count = c.min-count.result in
    let new = c.read_records.new.into in
    let long : length (take count c.args.into.now) ≡ count = length-take-le count c.args.into.now (omega (arith, c.min-count.ensures)) in
    let room : count ≤ length new = omega (arith, long, c.read_records.auto.into) in
    let counted : AreOfKind c.spot_of-spot.result.kind count new = subst (λ (n : ℕ). AreOfKind c.spot_of-spot.result.kind n new) long c.in-Ok.ensures.of_kind in
    front_of_kind c.args.file.now.head.kind count new (drop count c.args.into.now) room
    (subst (λ (k : CellKind). AreOfKind k count new) c.spot_of-spot.ensures.kind_is counted)
