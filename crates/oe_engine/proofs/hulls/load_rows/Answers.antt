use Rattle.std.proofs.Common.{◌≡◌, ◌*◌, ℕ, ◌∙◌, refl, sym, ap, subst, arith}
use Rattle.std.proofs.lemmas.List.Elements.{All-weaker}
use Rattle.oe_plan.specs.Plans.{schedule_of}
use Rattle.oe_sources.specs.CatalogueRows.{rows_of}
use Rattle.oe_window.specs.Windows.{position_count, span_length}
use Rattle.oe_engine.specs.Benches.{BenchOf, node_at}
use Rattle.oe_engine.specs.Hulls.{IsBegun, IsReadable, IsStripped}
use Rattle.oe_engine.proofs.BenchLoadLemmas.{asked_one_more}
use Rattle.oe_engine.proofs.HullLemmas.{all_rows_of_each, no_row_of_each, none_if_refused}
use Rattle.oe_steps.proofs.PlaneLemmas.{tells_handed}
use Rattle.oe_steps.proofs.ReadLemmas.{AreRead-refl}
use Rattle.oe_steps.proofs.StepLoadLemmas.{mounted_for}
use Rattle.oe_engine.proofs.hulls.load_rows.Goals as goal

pub loop-number-init : goal.loop-number-init
loop-number-init g c =
    let p = c.args.plan.now in
    let rows = rows_of (λ z. (goal.SharedSource-dyn g z).CubeSource.seen z.1) c.args.catalogue.now in
    record {
      many = refl;
      spent = record { left = omega arith; seal = refl };
      stripped = c.requires.stripped;
      loaded = λ first each. no_row_of_each p c.slot-slot.ensures.valid rows first c.args.step c.requires.step c.args.benches.now each;
    }

pub load_row-requires-clause-from : goal.load_row-requires-clause-from
load_row-requires-clause-from g c =
    let p = c.args.plan.now in
    let rows = rows_of (λ z. (goal.SharedSource-dyn g z).CubeSource.seen z.1) c.args.catalogue.now in
    let at = c.place_of-place.ensures in
    record {
      step_in = c.requires.step;
      load = c.requires.load;
      mounted = mounted_for p.graph (schedule_of p) rows rows c.args.step c.place_of-place.result at.0 at.1 at.2 (AreRead-refl rows);
    }

pub load_row-requires-clause-strips : goal.load_row-requires-clause-strips
load_row-requires-clause-strips g c =
    let inv = c.loop-number.invariant in
    record {
      some = omega (arith, c.requires.some, inv.many);
      each = inv.stripped;
      readable = subst (λ (n : ℕ). IsReadable c.args.plan.now c.args.step n c.args.hull.now) (sym inv.many) c.requires.readable;
    }

pub load_row-requires-clause-asked : goal.load_row-requires-clause-asked
load_row-requires-clause-asked g c =
    let n = c.loop-number.number in
    let asked = asked_one_more n c.rows-number-end.result (span_length c.args.hull.now.x) c.loop-number-test.true in
    let spent = c.loop-number.invariant.spent in
    record {
      enough = omega (arith, asked.1, c.rows-number-end.ensures.all, c.requires.readable.few, c.requires.asked.enough, spent.left);
      own = spent.seal ∙ c.requires.asked.own;
    }

pub returns-in_err-load_row-clause-loads : goal.returns-in_err-load_row-clause-loads
returns-in_err-load_row-clause-loads g c =
    let p = c.args.plan.now in
    let rows = rows_of (λ z. (goal.SharedSource-dyn g z).CubeSource.seen z.1) c.args.catalogue.now in
    let fail = c.in_err-load_row.field-0.0 in
    record {
      many = c.load_row.ensures.count ∙ c.loop-number.invariant.many;
      begun = All-weaker (IsStripped p c.args.hull.now c.args.step) (IsBegun p) (λ (b : BenchOf) s. s.begun) c.load_row.new.benches c.load_row.ensures.stripped;
      loaded = λ first each. none_if_refused c.from_residual.result fail c.from_residual.ensures.1 _;
      refused = tells_handed p.graph rows (node_at p c.args.step) fail c.from_residual.result c.from_residual.ensures.1 c.in_err-load_row.ensures.refused;
    }

pub loop-number-preserved : goal.loop-number-preserved
loop-number-preserved g c =
    let inv = c.loop-number.invariant in
    let n = c.loop-number.number in
    let asked = asked_one_more n c.rows-number-end.result (span_length c.args.hull.now.x) c.loop-number-test.true in
    record {
      many = c.load_row.ensures.count ∙ inv.many;
      spent = record {
        left = omega (arith, inv.spent.left, c.load_row.ensures.spent.left, asked.0);
        seal = c.load_row.ensures.spent.seal ∙ inv.spent.seal;
      };
      stripped = c.load_row.ensures.stripped;
      loaded = λ first each. c.in_ok-load_row.ensures.loaded first (inv.loaded first each);
    }

pub returns-clause-loads : goal.returns-clause-loads
returns-clause-loads g c =
    let p = c.args.plan.now in
    let n = c.loop-number.number in
    let rows = rows_of (λ z. (goal.SharedSource-dyn g z).CubeSource.seen z.1) c.args.catalogue.now in
    let inv = c.loop-number.invariant in
    let end : n ≡ c.rows-number-end.result = omega (arith, c.loop-number-test.false, c.loop-number.auto.number-end) in
    record {
      many = inv.many;
      begun = All-weaker (IsStripped p c.args.hull.now c.args.step) (IsBegun p) (λ (b : BenchOf) s. s.begun) c.loop-number.benches inv.stripped;
      loaded = λ first each.
          all_rows_of_each p c.slot-slot.ensures.valid rows first c.args.step c.requires.step c.args.hull.now c.loop-number.benches n
          (end ∙ c.rows-number-end.ensures.value) inv.stripped (inv.loaded first each);
      refused = tt;
    }

pub returns-clause-spent : goal.returns-clause-spent
returns-clause-spent g c =
    let n = c.loop-number.number in
    let width = span_length c.args.hull.now.x in
    let end : n ≡ c.rows-number-end.result = omega (arith, c.loop-number-test.false, c.loop-number.auto.number-end) in
    let all : n * width ≡ position_count c.args.hull.now = ap (λ (m : ℕ). m * width) end ∙ c.rows-number-end.ensures.all in
    let spent = c.loop-number.invariant.spent in
    record { left = omega (arith, all, c.requires.readable.few, spent.left); seal = spent.seal }
