-- Refusals that name a position of a collection.
use Rattle.std.proofs.Common.{◌≡◌, ℕ, List, Some, refl, sym, ap, subst}
use Rattle.oe_render.proofs.Lengths.{name_short}
use Rattle.oe_steps.specs.Refusals.{KeepsDamage}
use Rattle.oe_steps.specs.declared.fail.RunFail.{RunFail}
use Rattle.oe_steps.specs.declared.fail.RunFail.TheVariants as run
use Rattle.oe_check.specs.Checked.{CheckedGraph, collection_of_node}
use Rattle.oe_check.proofs.LinkLemmas.{node_there}
use Rattle.oe_sources.specs.Catalogue.{Row}
use Rattle.oe_sources.specs.CatalogueLaws.{HaveValidIds}
use Rattle.oe_top.specs.Evaluated.{CanBeNamed, IsFailOfRun}
use Rattle.oe_top.specs.declared.evaluation.EvaluationFail.TheVariants.{Damaged}

pub named_damage : (c : CheckedGraph) (fail : RunFail) (node number : ℕ) (id held : List ℕ)
    → fail ≡ run.SourceDamaged node number → collection_of_node c node ≡ Some id → held ≡ id
    → IsFailOfRun c fail (Damaged held number)
named_damage c fail node number id held is loads same =
    subst (λ (f : RunFail). IsFailOfRun c f (Damaged held number)) (sym is) (id, loads, ap (λ i. Damaged i number) same)

-- ---- what can be named

-- a damaged position that a node keeps is one of a collection whose id fits a line
pub can_be_named : (c : CheckedGraph) (rows : List Row) → HaveValidIds rows → (fail : RunFail)
    → ((node number : ℕ) → fail ≡ run.SourceDamaged node number → KeepsDamage c rows node number) → CanBeNamed c fail
can_be_named c rows valid run.SourceFailed says = tt
can_be_named c rows valid (run.SourceDamaged node number) says =
    let keeps = says node number refl in
    let loads = subst (λ (n : ℕ). collection_of_node c n ≡ Some keeps.id) keeps.node_is keeps.loaded.loads in
    record {
      within = node_there c node keeps.id loads;
      id = keeps.id;
      loads = loads;
      short = name_short keeps.id (valid keeps.id keeps.index keeps.mounted.index_is);
    }
can_be_named c rows valid run.SpoolFailed says = tt
can_be_named c rows valid (run.Overflow number) says = tt
