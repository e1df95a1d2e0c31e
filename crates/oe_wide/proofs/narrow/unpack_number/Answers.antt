use Rattle.std.proofs.Common.{◌≡◌, ℕ, ℤ, pos, w64, Some, to_z, of_z, ap, sym, ◌∙◌, subst}
use Rattle.std.proofs.lemmas.Int.{to_z-of_z}
use Rattle.oe_wide.specs.Wide.{IsRecordIn, nine_bytes}
use Rattle.oe_wide.specs.declared.width.Width.TheVariants.{Nine}
use Rattle.oe_wide.proofs.NineLemmas.{IsSmallCell, small_from_nine, null_from_parts, numeric_in_one}
use Rattle.oe_wide.proofs.narrow.unpack_number.Goals as goal

pub returns-then-tag-eq5-clause-complete : goal.returns-then-tag-eq5-clause-complete
returns-then-tag-eq5-clause-complete c cell h numeric =
    let tagged : IsRecordIn Nine (nine_bytes 5 c.args.num) cell = subst (λ (t : ℕ). IsRecordIn Nine (nine_bytes t c.args.num) cell) c.if-tag-eq5.true h in
    c.whole.ensures.complete cell (subst (λ (z : ℤ). IsRecordIn Nine (nine_bytes 5 z) cell) (sym (to_z-of_z w64 c.args.num c.ranges.num)) tagged)

pub returns-then-num-ne0-clause-complete : goal.returns-then-num-ne0-clause-complete
returns-then-num-ne0-clause-complete c cell h numeric =
    let small : IsSmallCell c.args.tag c.args.num cell = small_from_nine c.args.tag c.args.num cell c.ranges.num c.if-tag-eq5.false h in
    absurd (c.if-num-ne0.true (ap (of_z w64) small.num_is))

pub returns-then-tag-eq0-clause-found : goal.returns-then-tag-eq0-clause-found
returns-then-tag-eq0-clause-found c =
    let num_is : c.args.num ≡ pos 0 = sym (to_z-of_z w64 c.args.num c.ranges.num) ∙ ap (to_z w64) c.if-num-ne0.false in
    null_from_parts c.args.tag c.args.num c.if-tag-eq0.true num_is

pub returns-then-tag-eq0-clause-complete : goal.returns-then-tag-eq0-clause-complete
returns-then-tag-eq0-clause-complete c cell h numeric =
    let small : IsSmallCell c.args.tag c.args.num cell = small_from_nine c.args.tag c.args.num cell c.ranges.num c.if-tag-eq5.false h in
    ap Some (sym (numeric_in_one c.args.tag cell small.one numeric).0)

pub returns-else-tag-eq0-clause-complete : goal.returns-else-tag-eq0-clause-complete
returns-else-tag-eq0-clause-complete c cell h numeric =
    let small : IsSmallCell c.args.tag c.args.num cell = small_from_nine c.args.tag c.args.num cell c.ranges.num c.if-tag-eq5.false h in
    absurd (c.if-tag-eq0.false (numeric_in_one c.args.tag cell small.one numeric).1)
