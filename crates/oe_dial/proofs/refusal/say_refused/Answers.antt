use Rattle.std.proofs.Common.{◌≡◌, ◌++◌, List, ℕ, OnErr, OnOk, codes, decimal, subst}
use Rattle.oe_outside.specs.Visible.{Appends, AppendsPrefix}
use Rattle.oe_outside.proofs.Runs.{first_stopped}
use Rattle.oe_dial.proofs.Sayings.{second_err, second_ok}
use Rattle.oe_dial.proofs.refusal.say_refused.Goals as goal

pub returns-in-Ok-clause-appended : goal.returns-in-Ok-clause-appended
returns-in-Ok-clause-appended g c =
    let written = g.E.Sink.written in
    let text = c.format.ensures.text in
    let value = c.as_bytes.ensures.value in
    let digits : c.as_bytes.result.now ≡ decimal c.args.status = cc in
    let P : List ℕ → Type 0 = λ d.
    OnOk c.say_body.result (Appends (written c.args.err.now)
    ((codes "openeo: Refused " ++ d) ++ ((codes "\n" ++ c.args.body.now) ++ codes "\n"))
    (written c.say_body.new.err)) in
    subst P digits
    (second_ok c.say_body.result (written c.args.err.now) (written c.write_two.new.err) (written c.say_body.new.err)
    (codes "openeo: Refused " ++ c.as_bytes.result.now) ((codes "\n" ++ c.args.body.now) ++ codes "\n")
    c.in-Ok.ensures.appended c.say_body.ensures.appended)

pub returns-in-Ok-clause-prefix : goal.returns-in-Ok-clause-prefix
returns-in-Ok-clause-prefix g c =
    let written = g.E.Sink.written in
    let text = c.format.ensures.text in
    let value = c.as_bytes.ensures.value in
    let digits : c.as_bytes.result.now ≡ decimal c.args.status = cc in
    let P : List ℕ → Type 0 = λ d.
    OnErr c.say_body.result (AppendsPrefix (written c.args.err.now)
    ((codes "openeo: Refused " ++ d) ++ ((codes "\n" ++ c.args.body.now) ++ codes "\n"))
    (written c.say_body.new.err)) in
    subst P digits
    (second_err c.say_body.result (written c.args.err.now) (written c.write_two.new.err) (written c.say_body.new.err)
    (codes "openeo: Refused " ++ c.as_bytes.result.now) ((codes "\n" ++ c.args.body.now) ++ codes "\n")
    c.in-Ok.ensures.appended c.say_body.ensures.prefix)

pub returns-in-Err-clause-prefix : goal.returns-in-Err-clause-prefix
returns-in-Err-clause-prefix g c =
    let written = g.E.Sink.written in
    let text = c.format.ensures.text in
    let value = c.as_bytes.ensures.value in
    let digits : c.as_bytes.result.now ≡ decimal c.args.status = cc in
    let P : List ℕ → Type 0 = λ d.
    AppendsPrefix (written c.args.err.now)
    ((codes "openeo: Refused " ++ d) ++ ((codes "\n" ++ c.args.body.now) ++ codes "\n"))
    (written c.write_two.new.err) in
    subst P digits
    (first_stopped (written c.args.err.now) (written c.write_two.new.err)
    (codes "openeo: Refused " ++ c.as_bytes.result.now) ((codes "\n" ++ c.args.body.now) ++ codes "\n")
    c.in-Err.ensures.prefix)
