use Rattle.std.proofs.Common.{ap, sym, ◌∙◌}
use Rattle.std.specs.Option.{option_map}
use Rattle.oe_client.specs.Verbs.{verb_named, verb_of}
use Rattle.oe_dial.proofs.Spellings.{no_argument}
use Rattle.oe_dial.proofs.words.call_of.Goals as goal

pub returns-then-not-is_argument_of-clause-none : goal.returns-then-not-is_argument_of-clause-none
returns-then-not-is_argument_of-clause-none c = λ call spelled.
    no_argument c.args.word.now c.args.host.now c.args.port.now c.args.token.now c.args.verb.now
    (option_map (λ t. t.now) c.args.argument) call (verb_of c.in_ok-entry.entry.now)
    (ap verb_named (sym c.as_str-3.ensures) ∙ sym c.in_ok-entry.ensures)
    (λ valid.
    let is = c.is_argument_of.ensures.1 valid in
    let isnt = c.if-not-is_argument_of.true in
    cc) spelled
