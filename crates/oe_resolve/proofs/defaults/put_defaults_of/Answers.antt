use Rattle.std.proofs.Common.{◌≡◌, List, [], map, OnOk, Option, Some, None, option_map, refl, sym, ap, ◌∙◌, subst}
use Rattle.std.specs.Option.{option_map_or}
use Rattle.oe_graph.specs.Catalogue.{Process, process_named, plain_row}
use Rattle.oe_graph.specs.Catalogue as catalogue
use Rattle.oe_graph.specs.Plain.{plain_named, plain_process, plain_parameter}
use Rattle.oe_graph.specs.Tree.{PlainParameter, PlainProcess}
use Rattle.oe_graph.specs.declared.catalogue.ProcessRow.{ProcessRow}
use Rattle.oe_resolve.specs.Defaults.{put_defaults, parameters_named}
use Rattle.oe_resolve.proofs.defaults.put_defaults_of.Goals as goal

-- the parameters of a row, or none
abbrev parameters_in : Option PlainProcess → List PlainParameter
parameters_in row = option_map_or (λ (p : PlainProcess). p.parameters) row []

of_catalogue : (row : Option Process)
    → parameters_in (option_map plain_row row)
    ≡ option_map_or (λ (p : Process). map catalogue.plain_parameter p.parameters) row []
of_catalogue None = refl
of_catalogue (Some p) = refl

pub returns-in-Some : goal.returns-in-Some
returns-in-Some c =
    let id = c.args.process_id.now in
    let row : ProcessRow = c.in-Some.row in
    let found : option_map plain_process (Some row) ≡ option_map plain_row (process_named id) =
    ap (λ (o : Option ProcessRow). option_map plain_process o) (sym c.in-Some.is) ∙ c.in_ok-row.ensures in
    let parameters : map plain_parameter row.parameters.items ≡ parameters_named id =
    ap parameters_in found ∙ of_catalogue (process_named id) in
    subst (λ ps. OnOk c.put_defaults.result
    (plain_named c.put_defaults.new.arguments.items ≡ put_defaults ps (plain_named c.args.arguments.now.items)))
    parameters c.put_defaults.ensures

pub returns-in-None : goal.returns-in-None
returns-in-None c =
    let id = c.args.process_id.now in
    let found : None ≡ option_map plain_row (process_named id) =
    ap (λ (o : Option ProcessRow). option_map plain_process o) (sym c.in-None.is) ∙ c.in_ok-row.ensures in
    let parameters : [] ≡ parameters_named id = ap parameters_in found ∙ of_catalogue (process_named id) in
    ap (λ ps. put_defaults ps (plain_named c.args.arguments.now.items)) parameters
