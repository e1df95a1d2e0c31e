use denote.Builtin.{u64}
use denote.Param.{param}
use denote.Param.Send.{IsSync, Quiet-if, mut_send, mut_slice_send, param_sync, sendable, shr_send}
use mir.Syntax.{named, of_param}
use Rattle.oe_plan.specs.contracts.plan.Plan as plan
use Rattle.oe_sources.specs.contracts.permit.Permit as permit
use Rattle.oe_engine.specs.contracts.bench.Bench as bench
use Rattle.oe_engine.proofs.CrossLemmas.{bench_send, permit_send, plan_sync}
use Rattle.std.proofs.Common.{rules, ◌≡◌, ◌+◌, ◌*◌, ◌∙◌, ℕ, length, length-append, refl, ap, subst, arith}
use Rattle.std.proofs.Math.Nat.{add-mul}
use Rattle.std.specs.List.{All}
use Rattle.oe_engine.specs.Benches.{IsBenchFor}
use Rattle.oe_engine.specs.Evaluations.{most_asked}
use Rattle.oe_engine.proofs.PieceLemmas.{all_behind, all_front, chunks_and}
use Rattle.oe_engine.proofs.loading.+halves.Goals as goal

pub load_pieces-load-requires : goal.load_pieces-load-requires
load_pieces-load-requires g t c =
    c.requires.load c.args.first c.cells_for-own.result _ c.requires.benches c.requires.chunks c.cells_for-own.ensures.taken

pub load_pieces-returns-then-pieces-lt2 : goal.load_pieces-returns-then-pieces-lt2
load_pieces-returns-then-pieces-lt2 g t c = record { loads = λ rows always. always c.args.first _ _ _ c.load.result c.load.ensures }

pub load_pieces-load_both-answer-requires-clause-one : goal.load_pieces-load_both-answer-requires-clause-one
load_pieces-load_both-answer-requires-clause-one g t c κs within =
    let cut = c.split_at_mut-one in
    all_front (IsBenchFor c.args.plan.now) cut.result.0.now cut.result.1.now
    (subst (All (IsBenchFor c.args.plan.now)) cut.ensures.value c.requires.benches)

pub load_pieces-load_both-answer-requires-clause-others : goal.load_pieces-load_both-answer-requires-clause-others
load_pieces-load_both-answer-requires-clause-others g t c κs within =
    let cut = c.split_at_mut-one in
    all_behind (IsBenchFor c.args.plan.now) cut.result.0.now cut.result.1.now
    (subst (All (IsBenchFor c.args.plan.now)) cut.ensures.value c.requires.benches)

pub load_pieces-load_both-answer-requires-clause-chunks : goal.load_pieces-load_both-answer-requires-clause-chunks
load_pieces-load_both-answer-requires-clause-chunks g t c =
    let cut = c.split_at_mut-one in
    omega (arith, ap length cut.ensures.value, length-append cut.result.0.now cut.result.1.now, c.requires.chunks)

pub load_pieces-load_both-answer-requires-clause-asked : goal.load_pieces-load_both-answer-requires-clause-asked
load_pieces-load_both-answer-requires-clause-asked g t c =
    let cut = c.split_at_mut-one in
    let one = length cut.result.0.now in
    let others = length cut.result.1.now in
    let most = most_asked c.args.plan.now in
    let sum : length c.args.benches.now * most ≡ one * most + others * most =
    ap (λ (n : ℕ). n * most) (ap length cut.ensures.value ∙ length-append cut.result.0.now cut.result.1.now) ∙ add-mul one others most in
    omega (arith, sum, c.requires.asked)

pub load_pieces-returns : goal.load_pieces-returns
load_pieces-returns g t c =
    let cut = c.split_at_mut-one in
    let both = c.load_both-answer in
    record {
      loads = λ rows always.
          chunks_and c.args.plan.now rows c.args.first _ c.args.benches.now cut.result.0.now both.new.one cut.result.1.now both.new.others
          both.result.0 both.result.1 c.and.result cut.ensures.value refl c.and.ensures (both.ensures.one.loads rows always)
          (both.ensures.others.loads rows always);
    }

pub load_both-join_mut-requires-send-F : goal.load_both-join_mut-requires-send-F
load_both-join_mut-requires-send-F g t c κs within =
    let r : IsSync g.row.R = search rules in
    let f : IsSync g.row.F = search rules in
    let s0 = shr_send (named 8) κs.1.1.1.1.1.1.1.1.0 (param 0 g.row.R) (param_sync 0 g.row.R r) in
    let s1 = shr_send (named 9) κs.1.1.1.1.1.1.1.1.1.0 plan.the_row plan_sync in
    let s2 = shr_send (named 10) κs.1.1.1.1.1.1.1.1.1.1.0 (param 1 g.row.F) (param_sync 1 g.row.F f) in
    let number : IsSync u64 = search sendable in
    let s3 = shr_send (named 11) κs.1.1.1.1.1.1.1.1.1.1.1.0 u64 number in
    let s4 = shr_send (named 12) κs.1.1.1.1.1.1.1.1.1.1.1.1.0 u64 number in
    let s5 = mut_slice_send (named 13) κs.1.1.1.1.1.1.1.1.1.1.1.1.1.0 bench.the_row bench_send in
    let s6 = mut_send (named 14) κs.1.1.1.1.1.1.1.1.1.1.1.1.1.1.0 permit.the_row permit_send in
    record {
      owned = λ x vs vss. (tt, (s0.owned x.0 vss.0, (s1.owned x.1 vss.1.0, (s2.owned x.2 vss.1.1.0, (s3.owned x.3 vss.1.1.1.0, (s4.owned x.4 vss.1.1.1.1.0, (s5.owned x.5 vss.1.1.1.1.1.0, (s6.owned x.6 vss.1.1.1.1.1.1.0, tt))))))));
      leaving = λ k. Quiet-if (k (of_param 1)) _ _ (λ x w. (tt, (tt, (tt, (tt, (tt, (tt, (tt, tt)))))))) (λ x w. tt);
    }
