use Rattle.oe_http.proofs.FieldLemmas.{field_other, field_same, found_first, found_twice}
use Rattle.std.proofs.Common.{sym, ◌∙◌}
use Rattle.oe_http.proofs.fields.only_value.Goals as goal
use Rattle.oe_http.proofs.fields.only_value.Goals.{then-eq_ignore_ascii_case+else-is_some, else-eq_ignore_ascii_case}

pub returns-then-is_some-clause-twice : goal.returns-then-is_some-clause-twice
returns-then-is_some-clause-twice c =
    found_twice c.args.head.now c.loop-field.found _ _ _ (sym c.is_some.ensures ∙ c.if-is_some.true)
    (field_same c.args.name.now c.args.head.now c.args.fields.now c.loop-field.field-index _ _ _ c.of.result.now c.eq_ignore_ascii_case.result c.loop-field-test.true c.of.ensures c.eq_ignore_ascii_case.ensures.test c.if-eq_ignore_ascii_case.true c.loop-field.invariant.values)

pub loop-field-preserved : goal.loop-field-preserved
loop-field-preserved c = elim c.if-eq_ignore_ascii_case.branch [
  | then-eq_ignore_ascii_case+else-is_some w ↦
      let value = field_same c.args.name.now c.args.head.now c.args.fields.now c.loop-field.field-index _ _ _ c.of.result.now c.eq_ignore_ascii_case.result c.loop-field-test.true c.of.ensures c.eq_ignore_ascii_case.ensures.test w.if-eq_ignore_ascii_case.true c.loop-field.invariant.values in
      record {
        values = rw w.found-is (found_first c.args.head.now c.loop-field.found _ _ _ (sym w.is_some.ensures ∙ w.if-is_some.false) value);
        within = rw w.found-is (c.requires c.loop-field.field-index _ c.loop-field-test.true).1;
      }
  | else-eq_ignore_ascii_case w ↦ record {
    values = rw w.found-is (field_other c.args.name.now c.args.head.now c.args.fields.now c.loop-field.field-index _ _ _ c.of.result.now c.eq_ignore_ascii_case.result c.loop-field-test.true c.of.ensures c.eq_ignore_ascii_case.ensures.test w.if-eq_ignore_ascii_case.false c.loop-field.invariant.values);
    within = rw w.found-is c.loop-field.invariant.within;
  }
]
