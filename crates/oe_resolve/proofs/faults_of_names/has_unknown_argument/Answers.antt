use Rattle.std.proofs.Common.{Some, None, map, refl}
use Rattle.oe_graph.specs.Catalogue.{parameter_of, plain_parameter}
use Rattle.oe_graph.specs.Plain.{plain_stored}
use Rattle.oe_resolve.specs.NameFaults.{has_unknown_argument}
use Rattle.oe_resolve.proofs.JudgeLemmas.{test_meant}
use Rattle.oe_resolve.proofs.faults_of_names.has_unknown_argument.Goals as goal

pub returns-in-Some-catalogue_parameters : goal.returns-in-Some-catalogue_parameters
returns-in-Some-catalogue_parameters c =
    test_meant (map plain_stored c.args.stored.now) c.args.node.now
    (Some (map plain_parameter (map parameter_of c.in-Some-catalogue_parameters.parameters.now))) c.lack_entry.result has_unknown_argument
    c.in_default.ensures c.in-Some-catalogue_parameters.ensures c.lack_entry.ensures

pub returns-in-None : goal.returns-in-None
returns-in-None c =
    test_meant (map plain_stored c.args.stored.now) c.args.node.now None _ has_unknown_argument
    c.in_default.ensures c.in-None.ensures refl
