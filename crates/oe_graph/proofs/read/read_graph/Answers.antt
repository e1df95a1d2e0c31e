use Rattle.std.proofs.Common.{◌≡◌, true}
use Rattle.std.proofs.lemmas.Result.{IfOk-weaker}
use Rattle.serde_json.specs.View.{view}
use Rattle.oe_graph.specs.AsRead.{is_as_read}
use Rattle.oe_graph.specs.Plain.{plain_graph}
use Rattle.oe_graph.specs.Printed.{IsPrintable}
use Rattle.oe_graph.specs.Valid.{IsValidGraph}
use Rattle.oe_graph.proofs.AsReadLemmas.{read_as_read}
use Rattle.oe_graph.proofs.ReadLemmas.{bytes_refused}
use Rattle.oe_graph.proofs.ValidLemmas.{IsPrintable-valid}
use Rattle.oe_graph.proofs.read.read_graph.Goals as goal

pub returns-clause-refused : goal.returns-clause-refused
returns-clause-refused c =
    bytes_refused c.args.bytes.now (view c.in_ok-value.value) c.in_ok-value.ensures.value c.in_ok-value.ensures.within
    c.read_value.result c.read_value.ensures.refused

pub returns-clause-printable : goal.returns-clause-printable
returns-clause-printable c =
    let read = read_as_read c.args.bytes.now (view c.in_ok-value.value) c.in_ok-value.ensures.value.value in
    IfOk-weaker c.read_value.result
    (λ g. is_as_read (view c.in_ok-value.value) ≡ true → IsPrintable (plain_graph g)) (λ g. IsPrintable (plain_graph g))
    (λ g printable. printable read) c.read_value.ensures.printable

pub returns-clause-valid : goal.returns-clause-valid
returns-clause-valid c =
    IfOk-weaker c.read_value.result (λ g. IsPrintable (plain_graph g)) (λ g. IsValidGraph (plain_graph g))
    (λ g. IsPrintable-valid (plain_graph g)) (returns-clause-printable c)
