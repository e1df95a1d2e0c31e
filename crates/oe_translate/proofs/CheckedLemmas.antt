-- A graph that was checked and its translation, as the code has them.
use Rattle.std.proofs.Common.{◌≡◌, false, List, [], sym, ap, ◌∙◌, subst}
use Rattle.oe_dims.specs.declared.dims.DimsRow.{DimsRow}
use Rattle.oe_graph.specs.Read.{IsFaultless}
use Rattle.oe_graph.specs.Resolved.{IsResolved}
use Rattle.oe_graph.specs.Tree.{PlainGraph}
use Rattle.oe_graph.proofs.ResolvedLemmas.{resolved_object}
use Rattle.oe_check.specs.Checked.{CheckedGraph, AreFaultless}
use Rattle.oe_meanings.specs.Stands.{StandsInGraph}
use Rattle.oe_translate.specs.Laws.{HasFewNodes, HasRoomForSums, HaveValidShapes}
use Rattle.oe_translate.specs.Translated.{has_either, translated}
use Rattle.oe_translate.proofs.FaultlessLemmas.{stays_faultless}
use Rattle.oe_translate.proofs.NameLemmas.{translates_nothing}

-- a graph over collections
abbrev pub graph_over : List DimsRow → PlainGraph → CheckedGraph
graph_over rows g = record { nodes = g.nodes; result = g.result; rows = rows }

module _ (rows : List DimsRow) (g : PlainGraph) (c : CheckedGraph) (is : c ≡ graph_over rows g) where
  pub none_before : IsFaultless (StandsInGraph c.rows c.nodes) → IsFaultless (StandsInGraph rows g.nodes)
  none_before none = subst (λ (k : CheckedGraph). IsFaultless (StandsInGraph k.rows k.nodes)) is none

  -- where nothing is written it is its own translation
  pub nothing_written : IsResolved g → has_either g ≡ false → c ≡ graph_over rows (translated rows g)
  nothing_written resolved neither =
      let object = resolved_object false [] g resolved in
      is ∙ ap (graph_over rows) (sym (translates_nothing rows g object.ids_rise object.has_result neither))

  module _ (f : AreFaultless c) (room : HasRoomForSums g.nodes) (made : PlainGraph) (made_is : made ≡ translated c.rows g) where
    translation : made ≡ translated rows g
    translation = made_is ∙ ap (λ (k : CheckedGraph). translated k.rows g) is

    kept : AreFaultless (graph_over rows g)
    kept = subst AreFaultless is f

    pub made_resolved : HasFewNodes rows g.nodes → IsResolved made
    made_resolved few = subst IsResolved (sym translation) (stays_faultless.resolved (graph_over rows g) kept room few)

    pub made_faultless : HaveValidShapes rows → IsFaultless (StandsInGraph rows made.nodes)
    made_faultless shapes =
        subst (λ (h : PlainGraph). IsFaultless (StandsInGraph rows h.nodes)) (sym translation)
        (stays_faultless.faultless (graph_over rows g) kept room shapes)

    pub made_checked : (k : CheckedGraph) → k ≡ graph_over rows made → k ≡ graph_over rows (translated rows g)
    made_checked k e = e ∙ ap (graph_over rows) translation
