use Rattle.std.proofs.Common.{◌≡◌, ◌+◌, ◌<◌, ℕ, length, get_or, take, drop, w64, FitsSigned, to_z, of_z, sym, ap, ◌∙◌, arith, rules}
use Rattle.std.proofs.lemmas.List.{length-take, length-drop, get_or-take, get_or-drop}
use Rattle.oe_cell.proofs.ListLemmas.{eight-at}
use Rattle.std.proofs.lemmas.Int.{to_z-of_z}
use Rattle.oe_cell.specs.Record.{bytes_of}
use Rattle.oe_cell.proofs.RecordLemmas.{take_below, bytes_of-read, none_from_round_trip, IfSome-same}
use Rattle.oe_cell.proofs.records.read_at.Goals as goal

whole : (c : goal.After-unpack) → bytes_of (get_or c.args.bytes.now c.args.at 0) (to_z w64 (of_z w64 c.from_be_bytes-num.result)) c.from_be_bytes-den.result ≡ take 17 (drop c.args.at c.args.bytes.now)
whole c =
    let bytes = take 17 (drop c.args.at c.args.bytes.now) in
    let len : length bytes ≡ 17 = length-take 17 (drop c.args.at c.args.bytes.now) ∙ omega (arith, length-drop c.args.at c.args.bytes.now, c.requires) in
    let small : (k : ℕ) → get_or c.args.bytes.now k 0 < 256 = search rules in
    let part : (k : ℕ) → get_or bytes k 0 < 256 = take_below 17 (drop c.args.at c.args.bytes.now) (λ k. rw get_or-drop (small (c.args.at + k))) in
    let here : c.args.at + 0 ≡ c.args.at = omega arith in
    let head : get_or c.args.bytes.now c.args.at 0 ≡ get_or bytes 0 0 = sym (get_or-take 17 (drop c.args.at c.args.bytes.now) 0 0 (omega arith) ∙ get_or-drop c.args.at c.args.bytes.now 0 0 ∙ ap (λ (n : ℕ). get_or c.args.bytes.now n 0) here) in
    let fits : FitsSigned w64 c.from_be_bytes-num.result = search rules in
    ap (λ (t : ℕ). bytes_of t (to_z w64 (of_z w64 c.from_be_bytes-num.result)) c.from_be_bytes-den.result) head
    ∙ bytes_of-read bytes c.eight.result c.eight-2.result c.from_be_bytes-num.result _ c.from_be_bytes-den.result len part (c.eight.ensures ∙ eight-at c.args.bytes.now c.args.at 1 (omega arith)) (c.eight-2.ensures ∙ eight-at c.args.bytes.now c.args.at 9 (omega arith)) c.from_be_bytes-num.ensures (to_z-of_z w64 c.from_be_bytes-num.result fits) c.from_be_bytes-den.ensures

pub returns-clause-round_trip : goal.returns-clause-round_trip
returns-clause-round_trip c e h k = c.unpack.ensures.round_trip e h (k ∙ sym (whole c))

pub returns-clause-record : goal.returns-clause-record
returns-clause-record c = IfSome-same c.unpack.result _ (take 17 (drop c.args.at c.args.bytes.now)) (whole c) c.unpack.ensures.«record»

pub returns-clause-none : goal.returns-clause-none
returns-clause-none c =
    none_from_round_trip c.unpack.result (take 17 (drop c.args.at c.args.bytes.now)) (λ e h k. c.unpack.ensures.round_trip e h (k ∙ sym (whole c)))
