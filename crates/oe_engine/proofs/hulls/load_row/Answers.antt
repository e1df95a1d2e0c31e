use Rattle.std.proofs.Common.{◌≡◌, ◌+◌, ◌++◌, ◌∙◌, length, get_or, set, take, sym, ap, subst, arith, length-append}
use Rattle.std.proofs.lemmas.List.{length-set, length-take-le}
use Rattle.std.specs.List.{All}
use Rattle.oe_sources.specs.CatalogueRows.{rows_of}
use Rattle.oe_window.specs.Parts.{row_of}
use Rattle.oe_window.specs.Windows.{span_length}
use Rattle.oe_window.specs.declared.window.Window.{Window}
use Rattle.oe_engine.specs.Benches.{BenchOf, node_at}
use Rattle.oe_engine.specs.Chunks.{EachBench}
use Rattle.oe_engine.specs.Hulls.{HasLoadedRows, IsStripped}
use Rattle.oe_steps.specs.Loads.{AreLoaded}
use Rattle.oe_engine.proofs.HullLemmas.{both_of_all, both_of_each, none_if_refused, one_row, others_of_all, others_of_each, own_of_all, own_of_each, own_set, row_long, rows_after_read, stripped_after_read}
use Rattle.oe_steps.proofs.PlaneLemmas.{tells_handed}
use Rattle.oe_engine.proofs.hulls.load_row.Goals as goal

pub look_row-requires-clause-row : goal.look_row-requires-clause-row
look_row-requires-clause-row g c =
    let from = c.requires.from in
    let hull = c.args.hull.now in
    let row = c.row-row.result in
    let is = c.row-row.ensures.value in
    record {
      plane = record {
        load = record { step_in = from.step_in; loads = from.load };
        mounted = from.mounted;
        within = λ q in'. c.requires.strips.readable.within q (c.row-row.ensures.part.inside q in');
        one = one_row hull row c.args.number is;
      };
      count = row_long hull row c.args.number is;
    }

pub look_row-requires-clause-room : goal.look_row-requires-clause-room
look_row-requires-clause-room g c =
    let P = IsStripped c.args.plan.now c.args.hull.now c.args.step in
    let own = c.split_at_mut-one.result.0.now in
    let s = own_of_all P own c.split_at_mut-one.result.1.now c.split_at_mut-one.ensures.front_len c.index-one-0.result
    (subst (All P) c.split_at_mut-one.ensures.value c.requires.strips.each) in
    let wide : span_length c.row-row.result.x ≡ span_length c.args.hull.now.x = ap (λ (w : Window). span_length w.x) c.row-row.ensures.value in
    omega (arith, wide, s.begun.room.scratch, c.requires.strips.readable.row)

pub look_row-requires-clause-asked : goal.look_row-requires-clause-asked
look_row-requires-clause-asked g c =
    let wide : span_length c.row-row.result.x ≡ span_length c.args.hull.now.x = ap (λ (w : Window). span_length w.x) c.row-row.ensures.value in
    record { enough = omega (arith, wide, c.requires.asked.enough); own = c.requires.asked.own }

pub returns-in_err-look_row-clause-spent : goal.returns-in_err-look_row-clause-spent
returns-in_err-look_row-clause-spent g c =
    let wide : span_length c.row-row.result.x ≡ span_length c.args.hull.now.x = ap (λ (w : Window). span_length w.x) c.row-row.ensures.value in
    record { left = omega (arith, wide, c.look_row.ensures.spent.left); seal = c.look_row.ensures.spent.seal }

pub returns-in_err-look_row-clause-stripped : goal.returns-in_err-look_row-clause-stripped
returns-in_err-look_row-clause-stripped g c =
    let p = c.args.plan.now in
    let P = IsStripped p c.args.hull.now c.args.step in
    let own = c.split_at_mut-one.result.0.now in
    let others = c.split_at_mut-one.result.1.now in
    let one = c.split_at_mut-one.ensures.front_len in
    let all = subst (All P) c.split_at_mut-one.ensures.value c.requires.strips.each in
    let s = own_of_all P own others one c.index-one-0.result all in
    both_of_all P own others one c.look_row.new.self others
    (stripped_after_read (get_or own 0 c.index-one-0.result) c.look_row.new.self c.look_row.ensures.others c.look_row.ensures.scratch p c.args.hull.now c.args.step s)
    (others_of_all P own others one all)

pub returns-in_err-look_row-clause-loaded : goal.returns-in_err-look_row-clause-loaded
returns-in_err-look_row-clause-loaded g c = λ first each.
    none_if_refused c.from_residual.result c.in_err-look_row.field-0.0 c.from_residual.ensures.1 _

pub returns-in_err-look_row-clause-refused : goal.returns-in_err-look_row-clause-refused
returns-in_err-look_row-clause-refused g c =
    let p = c.args.plan.now in
    tells_handed p.graph (rows_of (λ z. (goal.SharedSource-dyn g z).CubeSource.seen z.1) c.args.catalogue.now) (node_at p c.args.step) c.in_err-look_row.field-0.0 c.from_residual.result c.from_residual.ensures.1 c.in_err-look_row.ensures.refused

pub take_own_row-requires-clause-stripped : goal.take_own_row-requires-clause-stripped
take_own_row-requires-clause-stripped g c =
    let p = c.args.plan.now in
    let P = IsStripped p c.args.hull.now c.args.step in
    let own = c.split_at_mut-one.result.0.now in
    let others = c.split_at_mut-one.result.1.now in
    let one = c.split_at_mut-one.ensures.front_len in
    let all = subst (All P) c.split_at_mut-one.ensures.value c.requires.strips.each in
    let s = own_of_all P own others one c.index-one-0.result all in
    subst P (sym (own_set own c.look_row.new.self c.index-one-0-2.result one))
    (stripped_after_read (get_or own 0 c.index-one-0.result) c.look_row.new.self c.look_row.ensures.others c.look_row.ensures.scratch p c.args.hull.now c.args.step s)

pub take_own_row-requires-clause-room : goal.take_own_row-requires-clause-room
take_own_row-requires-clause-room g c =
    let s = take_own_row-requires-clause-stripped g c in
    omega (arith, s.begun.room.scratch, c.requires.strips.readable.row)

pub scratch-cells-requires : goal.scratch-cells-requires
scratch-cells-requires g c =
    let own = c.split_at_mut-one.result.0.now in
    let one = length-set own 0 c.look_row.new.self ∙ c.split_at_mut-one.ensures.front_len in
    let same = ap (λ (b : BenchOf). length b.scratch) (own_set (set own 0 c.look_row.new.self) c.take_own_row.new.self c.index-one-0-3.result one) in
    omega (arith, same, c.take_own_row.ensures.stripped.begun.room.scratch, c.requires.strips.readable.row)

pub deal_row-requires-clause-stripped : goal.deal_row-requires-clause-stripped
deal_row-requires-clause-stripped g c =
    let P = IsStripped c.args.plan.now c.args.hull.now c.args.step in
    others_of_all P c.split_at_mut-one.result.0.now c.split_at_mut-one.result.1.now c.split_at_mut-one.ensures.front_len
    (subst (All P) c.split_at_mut-one.ensures.value c.requires.strips.each)

pub deal_row-requires-clause-row : goal.deal_row-requires-clause-row
deal_row-requires-clause-row g c =
    let own = c.split_at_mut-one.result.0.now in
    let one = length-set own 0 c.look_row.new.self ∙ c.split_at_mut-one.ensures.front_len in
    let same = ap (λ (b : BenchOf). length b.scratch) (own_set (set own 0 c.look_row.new.self) c.take_own_row.new.self c.index-one-0-3.result one) in
    ap length c.scratch-cells.ensures
    ∙ length-take-le _ _ (omega (arith, same, c.take_own_row.ensures.stripped.begun.room.scratch, c.requires.strips.readable.row))

pub returns-clause-count : goal.returns-clause-count
returns-clause-count g c =
    let own = c.split_at_mut-one.result.0.now in
    let others = c.split_at_mut-one.result.1.now in
    let whole = ap length c.split_at_mut-one.ensures.value in
    let parts = length-append own others in
    let now = length-append (set (set own 0 c.look_row.new.self) 0 c.take_own_row.new.self) c.deal_row.new.benches in
    let first = length-set own 0 c.look_row.new.self in
    let second = length-set (set own 0 c.look_row.new.self) 0 c.take_own_row.new.self in
    omega (arith, whole, parts, now, first, second, c.deal_row.ensures.count)

pub returns-clause-stripped : goal.returns-clause-stripped
returns-clause-stripped g c =
    let own = c.split_at_mut-one.result.0.now in
    let one = length-set own 0 c.look_row.new.self ∙ c.split_at_mut-one.ensures.front_len in
    both_of_all (IsStripped c.args.plan.now c.args.hull.now c.args.step) (set own 0 c.look_row.new.self) c.split_at_mut-one.result.1.now one
    c.take_own_row.new.self c.deal_row.new.benches c.take_own_row.ensures.stripped c.deal_row.ensures.stripped

pub returns-clause-loaded : goal.returns-clause-loaded
returns-clause-loaded g c = λ first each.
    let p = c.args.plan.now in
    let step = c.args.step in
    let number = c.args.number in
    let node = node_at p step in
    let hull = c.args.hull.now in
    let width = span_length hull.x in
    let rows = rows_of (λ z. (goal.SharedSource-dyn g z).CubeSource.seen z.1) c.args.catalogue.now in
    let own = c.split_at_mut-one.result.0.now in
    let others = c.split_at_mut-one.result.1.now in
    let one = c.split_at_mut-one.ensures.front_len in
    let Before = HasLoadedRows p rows step number in
    let After = HasLoadedRows p rows step (number + 1) in
    let all : EachBench first Before (own ++ others) = subst (EachBench first Before) c.split_at_mut-one.ensures.value each in
    let old = get_or own 0 c.index-one-0.result in
    let own_read : Before first c.look_row.new.self =
    rows_after_read old c.look_row.new.self c.look_row.ensures.others c.look_row.ensures.scratch p rows step number first
    (own_of_each Before first own others one c.index-one-0.result all) in
    let row_is = c.row-row.ensures.value in
    let cells : AreLoaded p.graph rows node (row_of hull number) (take width c.look_row.new.self.scratch) =
    subst (λ (w : Window). AreLoaded p.graph rows node w (take (span_length w.x) c.look_row.new.self.scratch)) row_is
    c.in_ok-look_row.ensures.loaded in
    let mine = own_set own c.look_row.new.self c.index-one-0-2.result one in
    let own_new : After first c.take_own_row.new.self =
    c.take_own_row.ensures.loaded rows first
    (subst (λ (b : BenchOf). AreLoaded p.graph rows node (row_of hull number) (take width b.scratch)) (sym mine) cells)
    (subst (λ (b : BenchOf). Before first b) (sym mine) own_read) in
    let kept : (get_or (set (set own 0 c.look_row.new.self) 0 c.take_own_row.new.self) 0 c.index-one-0-3.result).scratch ≡ c.look_row.new.self.scratch =
    ap (λ (b : BenchOf). b.scratch) (own_set (set own 0 c.look_row.new.self) c.take_own_row.new.self c.index-one-0-3.result (length-set own 0 c.look_row.new.self ∙ one))
    ∙ (c.take_own_row.ensures.scratch ∙ ap (λ (b : BenchOf). b.scratch) mine) in
    let dealt : AreLoaded p.graph rows node (row_of hull number) c.scratch-cells.result.now =
    subst (AreLoaded p.graph rows node (row_of hull number)) (sym (c.scratch-cells.ensures ∙ ap (take width) kept)) cells in
    both_of_each After first (set own 0 c.look_row.new.self) others (length-set own 0 c.look_row.new.self ∙ one) c.take_own_row.new.self c.deal_row.new.benches
    own_new (c.deal_row.ensures.loaded rows (first + 1) dealt (others_of_each Before first own others one all))

pub returns-clause-spent : goal.returns-clause-spent
returns-clause-spent g c =
    let wide : span_length c.row-row.result.x ≡ span_length c.args.hull.now.x = ap (λ (w : Window). span_length w.x) c.row-row.ensures.value in
    record { left = omega (arith, wide, c.look_row.ensures.spent.left); seal = c.look_row.ensures.spent.seal }
