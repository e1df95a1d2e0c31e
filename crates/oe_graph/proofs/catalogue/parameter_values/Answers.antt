use Rattle.std.proofs.Common.{◌≡◌, List, [], ◌∷◌, map, take, ap, ◌∙◌, refl}
use Rattle.std.proofs.lemmas.List.{take_all}
use Rattle.serde_json.specs.Data.{item}
use Rattle.serde_json.specs.View.{view, items_of}
use Rattle.oe_graph.specs.Catalogue.{Parameter, parameter_of, parameter_data, each_parameter_data}
use Rattle.oe_graph.proofs.catalogue.parameter_values.Goals as goal

each : (ps : List Parameter) → items_of (map parameter_data ps) ≡ each_parameter_data ps
each [] = refl
each (p ∷ ps) = ap (item (parameter_data p)) (each ps)

pub returns : goal.returns
returns c =
    let full : take c.loop-entry.entry-index c.args.entries.now ≡ c.args.entries.now = take_all _ _ c.loop-entry-test.false in
    let all : map view c.loop-entry.values.items ≡ map parameter_data (map parameter_of c.args.entries.now) =
    rw (c.loop-entry.invariant, full) refl in
    ap items_of all ∙ each (map parameter_of c.args.entries.now)
