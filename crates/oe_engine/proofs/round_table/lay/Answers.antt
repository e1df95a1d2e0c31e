use Rattle.std.proofs.Common.{◌≡◌, ◌∙◌, [], length, refl, sym, ap, arith}
use Rattle.oe_engine.proofs.SeatLemmas.{laying_all, laying_more, laying_none, laying_top, ready_holds, stands_started}
use Rattle.oe_engine.proofs.round_table.lay.Goals as goal

pub start-requires-clause-holds : goal.start-requires-clause-holds
start-requires-clause-holds c = ready_holds c.args.shelf.now.key c.args.seat.now.me c.requires.ready

pub loop-bench-init : goal.loop-bench-init
loop-bench-init c = record {
  table_is = c.start.ensures.table;
  capacity = refl;
  laying = laying_none c.args.plan.now c.args.shelf.now.key c.args.first c.args.benches.now.items c.start.new.seat.me c.requires.many
      (stands_started c.args.shelf.now.key c.args.seat.now.me c.start.new.seat.me c.args.first c.requires.ready c.start.ensures.started);
}

pub give-none-requires-clause-top : goal.give-none-requires-clause-top
give-none-requires-clause-top c =
    laying_top c.args.plan.now c.args.shelf.now.key c.args.first c.args.benches.now.items c.loop-bench.benches.items
    c.pop.new.self.items c.in-Some.bench c.loop-bench.seat.me c.loop-bench.invariant.laying c.in-Some.ensures.items c.len.result (omega (arith, c.len.ensures, c.pop.new.self.ok.0))

pub loop-bench-preserved : goal.loop-bench-preserved
loop-bench-preserved c = record {
  table_is = c.give-none.ensures.table ∙ c.loop-bench.invariant.table_is;
  capacity = c.in-Some.ensures.capacity ∙ c.loop-bench.invariant.capacity;
  laying = laying_more c.args.plan.now c.args.shelf.now.key c.args.first c.args.benches.now.items c.loop-bench.benches.items
      c.pop.new.self.items c.in-Some.bench c.loop-bench.seat.me c.loop-bench.invariant.laying c.in-Some.ensures.items c.len.result (omega (arith, c.len.ensures, c.pop.new.self.ok.0))
      (record { bench = c.in-Some.bench; plan = c.of-plan.result }) c.give-none.new.seat.me refl c.of-plan.ensures c.give-none.ensures.given;
}

pub loop-bench-preserved-in-Some : goal.loop-bench-preserved-in-Some
loop-bench-preserved-in-Some c = record {
  table_is = c.give-none.ensures.table ∙ c.loop-bench.invariant.table_is;
  capacity = c.in-Some.ensures.capacity ∙ c.loop-bench.invariant.capacity;
  laying = laying_more c.args.plan.now c.args.shelf.now.key c.args.first c.args.benches.now.items c.loop-bench.benches.items
      c.pop.new.self.items c.in-Some.bench c.loop-bench.seat.me c.loop-bench.invariant.laying c.in-Some.ensures.items c.len.result (omega (arith, c.len.ensures, c.pop.new.self.ok.0))
      (record { bench = c.in-Some.bench; plan = c.of-plan.result }) c.give-none.new.seat.me refl c.of-plan.ensures c.give-none.ensures.given;
}

pub returns-clause-laid : goal.returns-clause-laid
returns-clause-laid c =
    laying_all c.args.plan.now c.args.shelf.now.key c.args.first c.args.benches.now.items c.loop-bench.benches.items c.loop-bench.seat.me
    c.loop-bench.invariant.laying (omega (arith, c.in_default.ensures.cases.0, c.loop-bench.benches.ok.0))
