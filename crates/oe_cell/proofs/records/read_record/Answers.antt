use Rattle.std.proofs.Common.{◌≡◌, length, take, drop, sym, ◌∙◌, rules, arith}
use Rattle.std.proofs.lemmas.List.{take_all}
use Rattle.oe_cell.proofs.RecordLemmas.{none_from_round_trip}
use Rattle.oe_cell.proofs.records.read_record.Goals as goal

whole : (c : goal.After-read_at) → take 17 (drop 0 c.args.bytes.now) ≡ c.args.bytes.now
whole c =
    let long : length c.args.bytes.now ≡ 17 = search rules in
    take_all 17 c.args.bytes.now (omega (arith, long))

pub returns-clause-round_trip : goal.returns-clause-round_trip
returns-clause-round_trip c e h k = c.read_at.ensures.round_trip e h (k ∙ sym (whole c))

pub returns-clause-none : goal.returns-clause-none
returns-clause-none c =
    none_from_round_trip c.read_at.result c.args.bytes.now (λ e h k. c.read_at.ensures.round_trip e h (k ∙ sym (whole c)))
