use Rattle.std.proofs.Common.{◌≡◌, ℕ, List, ◌∙◌, true≢false, sym, subst}
use Rattle.std.proofs.lemmas.Result.{IfOk-weaker}
use Rattle.serde_json.specs.View.{view}
use Rattle.oe_graph.specs.Form.{IsReading}
use Rattle.oe_book.proofs.ProcessLemmas.{process_found}
use Rattle.oe_book.proofs.process.is_process_text.Goals as goal

pub returns-in-Some : goal.returns-in-Some
returns-in-Some c =
    let same : c.as_bytes.result.now ≡ c.args.text.now = c.as_bytes.ensures.value ∙ c.as_str.ensures in
    let is = subst (λ (bytes : List ℕ). IsReading bytes (view c.in-Some.value)) same (rw c.in-Some.is at c.in_ok-value.ensures) in
    IfOk-weaker c.is_graph_text.result _ _
    (λ told found. process_found c.args.text.now (view c.in-Some.value) told is found) c.is_graph_text.ensures

pub returns-in-None : goal.returns-in-None
returns-in-None c =
    let same : c.as_bytes.result.now ≡ c.args.text.now = c.as_bytes.ensures.value ∙ c.as_str.ensures in (
      λ t. absurd (true≢false (sym t)),
      λ p. absurd ((rw c.in-None.is at c.in_ok-value.ensures) p.value (subst (λ (bytes : List ℕ). IsReading bytes p.value) (sym same) p.is_read)),
    )
