use Rattle.std.proofs.Common.{◌≡◌, Some, None, sym, ◌∙◌, true≢false}
use Rattle.serde_json.specs.Read.{read}
use Rattle.oe_routes.proofs.form.read_json.Goals as goal

pub returns-in-Err-2 : goal.returns-in-Err-2
returns-in-Err-2 c = λ d is.
    let none : read c.args.body.now ≡ None = c.in-Err.ensures.err (λ memory. let t = c.is_memory.ensures.1 memory in absurd (true≢false (sym t ∙ c.if-is_memory.false))) is.utf8 in
    let both : None ≡ Some d = sym none ∙ is.value in absurd cc
