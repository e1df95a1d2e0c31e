use Rattle.std.proofs.Common.{◌≡◌, ◌<◌, ◌≤◌, ◌*◌, ℕ, ap, ◌∙◌, arith}
use Rattle.std.proofs.Math.Nat.{mul-le-mul_right}
use Rattle.oe_plan.proofs.FitLemmas.{fit_memory}
use Rattle.oe_sources.specs.Permits.{PermitOf}
use Rattle.oe_engine.specs.Evaluations.{most_asked}
use Rattle.oe_engine.specs.Runs.{load_count}
use Rattle.oe_engine.proofs.StepLoadLemmas.{loads_are}
use Rattle.oe_engine.proofs.loading.cells_for.Goals as goal

pub overflow_mul-each : goal.overflow_mul-each
overflow_mul-each c =
    let few = (fit_memory.each c.args.plan.now c.loads.ensures.valid).largest in
    let small : c.from.result < 4294967296 = omega (arith, c.from.ensures) in
    let most : c.from.result * c.largest.result ≤ 4294967296 * c.largest.result = mul-le-mul_right c.largest.result (omega (arith, small)) in
    omega (arith, most, few, c.largest.ensures.value)

pub split-requires : goal.split-requires
split-requires c = omega (arith, c.min-cells.ensures, c.left.ensures)

pub returns-clause-taken : goal.returns-clause-taken
returns-clause-taken c =
    let p = c.args.plan.now in
    let loads = c.loads in
    let each : c.from.result * c.largest.result ≡ most_asked p =
    ap (λ (n : ℕ). n * c.largest.result) (c.from.ensures ∙ loads_are p loads.result loads.ensures.most loads.ensures.load loads.ensures.work)
    ∙ ap (λ (n : ℕ). load_count p * n) c.largest.ensures.value in
    let all : c.args.count * (c.from.result * c.largest.result) ≡ c.args.count * most_asked p = ap (λ (n : ℕ). c.args.count * n) each in
    let cells : c.min-cells.result ≡ c.args.count * most_asked p =
    omega (arith, all, c.min-cells.ensures, c.saturating_mul.ensures, c.left.ensures, c.requires) in
    record {
      enough = omega (arith, cells, ap (λ (q : PermitOf). q.left) c.split.ensures.taken);
      own = ap (λ (q : PermitOf). q.seal) c.split.ensures.taken;
    }

pub returns-clause-rest : goal.returns-clause-rest
returns-clause-rest c =
    let p = c.args.plan.now in
    let loads = c.loads in
    let each : c.from.result * c.largest.result ≡ most_asked p =
    ap (λ (n : ℕ). n * c.largest.result) (c.from.ensures ∙ loads_are p loads.result loads.ensures.most loads.ensures.load loads.ensures.work)
    ∙ ap (λ (n : ℕ). load_count p * n) c.largest.ensures.value in
    let all : c.args.count * (c.from.result * c.largest.result) ≡ c.args.count * most_asked p = ap (λ (n : ℕ). c.args.count * n) each in
    let cells : c.min-cells.result ≡ c.args.count * most_asked p =
    omega (arith, all, c.min-cells.ensures, c.saturating_mul.ensures, c.left.ensures, c.requires) in
    record { left = omega (arith, cells, c.split.ensures.rest.left); seal = c.split.ensures.rest.seal }
