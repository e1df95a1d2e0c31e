use Rattle.std.proofs.Common.{◌≡◌, ◌∙◌, ℕ, List, OnOk, length, take, sym, subst, arith}
use Rattle.std.proofs.Math.ListN.{drop}
use Rattle.std.proofs.lemmas.List.{length-take-le}
use Rattle.std.proofs.lemmas.Grind.{common_steps}
use Rattle.oe_fold.specs.declared.pass.Pass.{Pass}
use Rattle.oe_sources.specs.CatalogueRows.{rows_of}
use Rattle.oe_steps.proofs.BufferLemmas.{take_front}
use Rattle.oe_window.specs.Windows.{position_count}
use Rattle.oe_slab.specs.Planes.{AreFolded}
use Rattle.oe_slab.proofs.PutLemmas.{none_are_folded}
use Rattle.oe_slab.proofs.chunk.fold_all.Goals as goal

pub returns-then-count-eq0-clause-folded : goal.returns-then-count-eq0-clause-folded
returns-then-count-eq0-clause-folded g c =
    let p = c.args.plan.now in
    let rows = rows_of (λ z. (goal.SharedSource-dyn g z).CubeSource.seen z.1) c.args.catalogue.now in
    let zero : position_count c.args.plane.now ≡ 0 = omega (arith, c.size-count.ensures.value, c.if-count-eq0.true) in
    subst (λ (n : ℕ). AreFolded p rows c.args.plane.now (take n c.args.folds.now)) (sym zero) (none_are_folded p c.checked-graph.ensures.valid rows c.args.plane.now)

pub returns-clause-folded : goal.returns-clause-folded
returns-clause-folded g c =
    let p = c.args.plan.now in
    let plane = c.args.plane.now in
    let rows = rows_of (λ z. (goal.SharedSource-dyn g z).CubeSource.seen z.1) c.args.catalogue.now in
    let new = c.fold_plane.new.folds in
    let rest = drop c.size-count.result c.args.folds.now in
    let few = length-take-le c.size-count.result c.args.folds.now (omega (arith, c.size-count.ensures.value, c.requires.folds)) in
    let long : length new ≡ position_count plane = c.fold_plane.auto.folds ∙ few ∙ c.size-count.ensures.value in
    subst (λ (folds : List Pass). OnOk c.fold_plane.result (AreFolded p rows plane folds)) (sym (take_front new rest (position_count plane) long)) c.fold_plane.ensures.folded

pub returns-clause-read : goal.returns-clause-read
returns-clause-read g c = grind (arith, common_steps) steps 2000000

pub returns-clause-room : goal.returns-clause-room
returns-clause-room g c = grind (arith, common_steps) steps 2000000

pub returns-then-count-eq0-clause-read : goal.returns-then-count-eq0-clause-read
returns-then-count-eq0-clause-read g c = grind (arith, common_steps) steps 2000000

pub returns-then-count-eq0-clause-room : goal.returns-then-count-eq0-clause-room
returns-then-count-eq0-clause-room g c = grind (arith, common_steps) steps 2000000
