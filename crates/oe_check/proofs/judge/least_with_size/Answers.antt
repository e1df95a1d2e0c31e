use Rattle.std.proofs.Common.{◌≡◌, ℕ, List, true, false, is_none, sym, ap, ◌∙◌, subst}
use Rattle.oe_graph.specs.Faults.{IsLeast, is_before}
use Rattle.oe_graph.specs.Plain.{plain_node}
use Rattle.oe_graph.specs.declared.code.Code.TheVariants.{CubeTooLarge}
use Rattle.oe_graph.specs.declared.fault.Fault.{Fault}
use Rattle.oe_expr.proofs.StateLemmas.{plain_id}
use Rattle.oe_meanings.specs.Stands.{StandsHere}
use Rattle.oe_check.proofs.JudgeLemmas.{callback_or_size, callback_alone_least}
use Rattle.oe_check.proofs.judge.least_with_size.Goals as goal
use Rattle.oe_check.proofs.judge.least_with_size.Goals.{then-is_before, else-is_before}

abbrev size : List ℕ → Fault
size name = record { code = CubeTooLarge; node = name }

pub returns-then-not-is_too_large : goal.returns-then-not-is_too_large
returns-then-not-is_too_large c = λ request one two told is rows at p works.
    let large : c.args.is_too_large ≡ is_none told.0 = told.2 in
    callback_alone_least rows at (plain_node c.args.node.now) request p one two works c.args.fault is told.0 told.1
    (let h = c.if-not-is_too_large.true in cc)

pub returns : goal.returns
returns c = λ request one two told is rows at p works.
    let n = plain_node c.args.node.now in
    let large : c.args.is_too_large ≡ is_none told.0 = told.2 in
    let many : is_none told.0 ≡ true = let h = c.if-not-is_too_large.false in cc in
    let id : c.in_ok-copy.field-0 ≡ n.id = c.in_ok-copy.ensures ∙ sym (plain_id c.args.node.now) in
    let before : c.is_before.result ≡ is_before c.args.fault (size n.id) = c.is_before.ensures ∙ ap (λ (name : List ℕ). is_before c.args.fault (size name)) id in
    elim c.if-is_before.branch [
      | then-is_before w ↦
          subst (λ (f : Fault). IsLeast (StandsHere rows at n) f) (sym w.result-is)
          (callback_or_size rows at n request p one two works c.args.fault is told.0 told.1 many true (sym w.if-is_before.true ∙ before))
      | else-is_before w ↦
          subst (λ (f : Fault). IsLeast (StandsHere rows at n) f) (sym (w.result-is ∙ ap size id))
          (callback_or_size rows at n request p one two works c.args.fault is told.0 told.1 many false (sym w.if-is_before.false ∙ before))
    ]
