-- The graph of an asset as it was judged, by what was read of a job and of a catalogue.
use Rattle.std.proofs.Common.{◌≡◌, ℕ, List, subst, refl}
use Rattle.oe_book.proofs.ProcessLemmas.{no_fault}
use Rattle.oe_dims.specs.declared.dims.DimsRow.{DimsRow}
use Rattle.oe_graph.specs.Form.{Stands as StandsInText}
use Rattle.oe_graph.specs.Read.{IsFault, IsFaultless}
use Rattle.oe_graph.specs.Tree.{PlainGraph, PlainStored}
use Rattle.oe_graph.specs.declared.fault.Fault.{Fault}
use Rattle.oe_graph.specs.declared.fault.Refusal.{Refusal}
use Rattle.oe_graph.specs.declared.fault.Refusal.TheVariants as refusal
use Rattle.oe_jobs.specs.Plain.{PlainRan}
use Rattle.oe_jobs.specs.Valid.{IsProcessText}
use Rattle.oe_judge.specs.Judged.{StandsWithCollections, checked_over}
use Rattle.oe_check.specs.Checked.{CheckedGraph}
use Rattle.oe_service.specs.Causes.{JudgeRefused, Stands}
use Rattle.oe_service.specs.Runs.{asset_graph, asset_source}
use Rattle.oe_service.specs.declared.refusal.RunRefusal.TheVariants.{Graph}

-- no fault of its form is refused in what a job runs
pub no_refusal : (text bytes : List ℕ) (r : Refusal) (fault : Fault) → IsProcessText text → bytes ≡ text
    → r ≡ refusal.Fault fault → IsFault (StandsInText bytes) r → ⊥
no_refusal text bytes r fault p same is stands =
    no_fault text fault p (subst (λ (t : List ℕ). IsFault (StandsInText t) (refusal.Fault fault)) same
    (subst (λ (x : Refusal). IsFault (StandsInText bytes) x) is stands))

module _ (dims shown : List DimsRow) (stored : List PlainStored) (ran : PlainRan) (k : ℕ) (g : PlainGraph)
    (dims_are : dims ≡ shown) (stored_are : stored ≡ ran.stored) (graph_is : g ≡ asset_source ran k) where
  moved : (P : List DimsRow → List PlainStored → PlainGraph → Type 0) → P dims stored g
      → P shown ran.stored (asset_source ran k)
  moved P is =
      subst (λ (d : List DimsRow). P d ran.stored (asset_source ran k)) dims_are
      (subst (λ (s : List PlainStored). P dims s (asset_source ran k)) stored_are
      (subst (λ (x : PlainGraph). P dims stored x) graph_is is))

  pub judged : (c : CheckedGraph) → c ≡ checked_over dims stored g → c ≡ asset_graph shown ran k
  judged c is = moved (λ d s x. c ≡ checked_over d s x) is

  pub judged_faultless : IsFaultless (StandsWithCollections dims stored g) → IsFaultless (Stands shown ran k)
  judged_faultless none = moved (λ d s x. IsFaultless (StandsWithCollections d s x)) none

  pub least_refused : (r : Refusal) (fault : Fault) → r ≡ refusal.Fault fault
      → IsFault (StandsWithCollections dims stored g) r → JudgeRefused shown ran k (Graph fault.code)
  least_refused r fault is refused = record {
    fault = fault;
    least = moved (λ d s x. IsFault (StandsWithCollections d s x) (refusal.Fault fault))
        (subst (λ (x : Refusal). IsFault (StandsWithCollections dims stored g) x) is refused);
    code_is = refl;
  }
