-- Faults of what a graph calls and names come before those of its arguments and cubes.
use Rattle.std.proofs.Common.{◌≡◌, true, false, ℕ, List, IfOk, IfErr, OnOk, Result, Ok, Err, sym, ap, ◌∙◌, subst}
use Rattle.oe_dims.specs.declared.dims.DimsRow.{DimsRow}
use Rattle.oe_graph.specs.Faults.{IsLeast, is_before}
use Rattle.oe_graph.specs.Read.{IsFault, IsFaultless}
use Rattle.oe_graph.specs.Tree.{PlainGraph, PlainStored}
use Rattle.oe_graph.specs.declared.code.Code.{Code}
use Rattle.oe_graph.specs.declared.fault.Fault.{Fault}
use Rattle.oe_graph.specs.declared.fault.Refusal.{Refusal}
use Rattle.oe_graph.specs.declared.fault.Refusal.TheVariants as refusal
use Rattle.oe_judge.specs.Judged.{StandsWithCollections, of_names, of_cubes, checked_over}
use Rattle.oe_calls.specs.Faults as names
use Rattle.oe_resolve.specs.Defaults.{resolved}
use Rattle.oe_check.specs.Checked.{CheckedGraph}
use Rattle.oe_meanings.specs.Stands as cubes

module _ (rows : List DimsRow) (stored : List PlainStored) (g : PlainGraph) where
  names_only : (fault : Fault) → IsLeast (names.StandsWithStored stored g) fault → (code : Code) (node : List ℕ)
      → StandsWithCollections rows stored g code node → is_before (record { code = code; node = node }) fault ≡ false
  names_only fault l code node (of_names s) = l.least (record { code = code; node = node }) s
  names_only fault l code node (of_cubes valid s) = absurd (valid fault.code fault.node l.stands)

  -- a fault of what the graph calls and names comes first
  pub names_first : (r : Refusal) → IsFault (names.StandsWithStored stored g) r
      → IsFault (StandsWithCollections rows stored g) r
  names_first (refusal.Fault fault) l =
      record { stands = of_names l.stands; least = λ f s. names_only fault l f.code f.node s }
  names_first refusal.OutOfMemory l = tt

  module _ (valid : IsFaultless (names.StandsWithStored stored g)) where
    cubes_only : (fault : Fault) → IsLeast (cubes.StandsInGraph rows (resolved stored g).nodes) fault → (code : Code)
        (node : List ℕ) → StandsWithCollections rows stored g code node
        → is_before (record { code = code; node = node }) fault ≡ false
    cubes_only fault l code node (of_names s) = absurd (valid code node s)
    cubes_only fault l code node (of_cubes v s) = l.least (record { code = code; node = node }) s

    -- then one of its arguments and cubes
    pub cubes_next : (r : Refusal) → IsFault (cubes.StandsInGraph rows (resolved stored g).nodes) r
        → IsFault (StandsWithCollections rows stored g) r
    cubes_next (refusal.Fault fault) l =
        record { stands = of_cubes valid l.stands; least = λ f s. cubes_only fault l f.code f.node s }
    cubes_next refusal.OutOfMemory l = tt

    -- or none at all
    pub none_stands : IsFaultless (cubes.StandsInGraph rows (resolved stored g).nodes)
        → IsFaultless (StandsWithCollections rows stored g)
    none_stands none code node (of_names s) = valid code node s
    none_stands none code node (of_cubes v s) = none code node s

-- what the check of the resolved graph says of the graph as it was read
module _ (rows : List DimsRow) (stored : List PlainStored) (g h : PlainGraph)
    (valid : IsFaultless (names.StandsWithStored stored g)) (same : h ≡ resolved stored g) where
  abbrev Outcome : Type 0
  Outcome = Result CheckedGraph Refusal

  pub is_faultless : (result : Outcome) → IfOk result (λ c. c ≡ record { nodes = h.nodes; result = h.result; rows = rows })
      → IfOk result (λ c. IsFaultless (cubes.StandsInGraph c.rows c.nodes))
      → OnOk result (IsFaultless (StandsWithCollections rows stored g))
  is_faultless (Err e) is none = tt
  is_faultless (Ok c) is none =
      let here : IsFaultless (cubes.StandsInGraph rows h.nodes) =
      subst (λ (k : CheckedGraph). IsFaultless (cubes.StandsInGraph k.rows k.nodes)) is none in
      none_stands rows stored g valid (subst (λ (k : PlainGraph). IsFaultless (cubes.StandsInGraph rows k.nodes)) same here)

  pub is_refused : (result : Outcome) → IfErr result (IsFault (cubes.StandsInGraph rows h.nodes))
      → IfErr result (IsFault (StandsWithCollections rows stored g))
  is_refused (Ok c) refused = tt
  is_refused (Err e) refused = cubes_next rows stored g valid e
      (subst (λ (k : PlainGraph). IsFault (cubes.StandsInGraph rows k.nodes) e) same refused)
