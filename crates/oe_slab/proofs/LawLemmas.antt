-- Each time cut parts its run, and a run has no two.
use Rattle.std.proofs.Common.{◌≡◌, ℕ, List, [], ◌∷◌, length, get_or, refl, arith}
use Rattle.oe_plan.specs.Steps.{arguments_of_node}
use Rattle.oe_check.specs.Checked.{AreFaultless, CheckedGraph}
use Rattle.oe_check.specs.Links.{links_of}
use Rattle.oe_check.proofs.LinkLemmas.{is_acyclic}
use Rattle.oe_slab.specs.Cuts.{IsTimeCut}
use Rattle.oe_slab.specs.Figures.{taken_by}
use Rattle.oe_slab.specs.Laws.{CutsAreOne, CutsPart}
use Rattle.oe_slab.proofs.ApartLemmas.{apart, before_is, parted}
use Rattle.oe_slab.proofs.DateLemmas.{no_dates_behind}
use Rattle.oe_slab.proofs.FoldLemmas.{fold_takes}
use Rattle.oe_slab.proofs.NodeLemmas.{comes_from, reached_below}

single : (xs : List ℕ) → length xs ≡ 1 → xs ≡ get_or xs 0 0 ∷ []
single [] h = absurd (omega arith)
single (x ∷ []) h = refl
single (x ∷ y ∷ xs) h = absurd (omega arith)

-- it takes one cube
pub takes_one : (c : CheckedGraph) → AreFaultless c → (fold : ℕ) → IsTimeCut c fold → arguments_of_node c fold ≡ taken_by c fold ∷ []
takes_one c f fold cut =
    single (arguments_of_node c fold)
    (fold_takes c f fold cut.lone.within (cut.lone.reducer, cut.lone.ignores_nulls) cut.lone.folds)

pub cuts_part : CutsPart
cuts_part c f fold cut =
    let nodes = links_of c.nodes in
    let one = takes_one c f fold cut in
    record {
      one = one;
      before = λ n. before_is nodes fold (taken_by c fold) one n;
      parted = λ n inside. parted nodes fold c.result n inside;
      dateless = no_dates_behind c f fold cut;
      apart = λ n before.
          apart nodes c.result fold (is_acyclic c.nodes f.resolved) cut.through n
          (comes_from c f n (reached_below c f fold n cut.lone.within before)) before;
    }

pub cuts_are_one : CutsAreOne
cuts_are_one c one two a b = b.lone.only one a.lone.of_run a.lone.whole
