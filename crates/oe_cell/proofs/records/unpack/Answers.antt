use Rattle.std.proofs.Common.{◌≡◌, true, false, w64, of_z, inl, inr, Some, sym, ap, ◌∙◌, rules, arith}
use Rattle.std.proofs.lemmas.Int.{to_z-of_z}
use Rattle.std.proofs.lemmas.Bool.{false≢true}
use Rattle.oe_cell.specs.Fraction.{IsNumber}
use Rattle.oe_cell.specs.Record.{bytes_of, record_of}
use Rattle.oe_cell.specs.declared.cell.Cell.TheVariants.{Empty, Flag, Number, Over}
use Rattle.oe_cell.proofs.RecordLemmas.{Fields, fields_from_record, same_from_record, none_from_tag, zeros_from_fields, number_from_fields}
use Rattle.oe_cell.proofs.records.unpack.Goals as goal

pub returns-in-Some-clause-round_trip : goal.returns-in-Some-clause-round_trip
returns-in-Some-clause-round_trip c e h k =
    let number : IsNumber c.in-Some.number = search rules in
    let own : record_of (Number c.in-Some.number) ≡ bytes_of c.args.tag c.args.num c.args.den = search rules in
    ap Some (same_from_record (Number c.in-Some.number) e number h (own ∙ sym k))

pub returns-in-None-clause-round_trip : goal.returns-in-None-clause-round_trip
returns-in-None-clause-round_trip c e h k =
    let fields : Fields e c.args.tag c.args.num c.args.den = fields_from_record e c.args.tag c.args.num c.args.den h c.ranges.num (omega arith) k in
    let number : IsNumber (record { num = c.args.num; den = c.args.den }) = number_from_fields e c.args.tag c.args.num c.args.den c.if-tag-eq3.true h fields in
    absurd (false≢true (c.in-None.ensures.number.1 (rw (to_z-of_z w64 c.args.num c.ranges.num) number)))

pub returns-then-num-ne0-clause-round_trip : goal.returns-then-num-ne0-clause-round_trip
returns-then-num-ne0-clause-round_trip c e h k =
    let fields : Fields e c.args.tag c.args.num c.args.den = fields_from_record e c.args.tag c.args.num c.args.den h c.ranges.num (omega arith) k in
    let zeros = zeros_from_fields e c.args.tag c.args.num c.args.den c.if-tag-eq3.false fields in
    elim c.then-num-ne0.either [ inl f ↦ absurd (f (ap (of_z w64) zeros.0)) | inr g ↦ absurd (g.1 zeros.1) ]

pub returns-in-0-clause-round_trip : goal.returns-in-0-clause-round_trip
returns-in-0-clause-round_trip c e h k =
    let own : record_of Empty ≡ bytes_of c.args.tag c.args.num c.args.den = search rules in
    ap Some (same_from_record Empty e tt h (own ∙ sym k))

pub returns-in-1-clause-round_trip : goal.returns-in-1-clause-round_trip
returns-in-1-clause-round_trip c e h k =
    let own : record_of (Flag false) ≡ bytes_of c.args.tag c.args.num c.args.den = search rules in
    ap Some (same_from_record (Flag false) e tt h (own ∙ sym k))

pub returns-in-2-clause-round_trip : goal.returns-in-2-clause-round_trip
returns-in-2-clause-round_trip c e h k =
    let own : record_of (Flag true) ≡ bytes_of c.args.tag c.args.num c.args.den = search rules in
    ap Some (same_from_record (Flag true) e tt h (own ∙ sym k))

pub returns-in-4-clause-round_trip : goal.returns-in-4-clause-round_trip
returns-in-4-clause-round_trip c e h k =
    let own : record_of Over ≡ bytes_of c.args.tag c.args.num c.args.den = search rules in
    ap Some (same_from_record Over e tt h (own ∙ sym k))

pub returns-in_default-clause-round_trip : goal.returns-in_default-clause-round_trip
returns-in_default-clause-round_trip c e h k =
    let fields : Fields e c.args.tag c.args.num c.args.den = fields_from_record e c.args.tag c.args.num c.args.den h c.ranges.num (omega arith) k in
    absurd (none_from_tag e c.args.tag c.args.num c.args.den (omega arith) fields)
