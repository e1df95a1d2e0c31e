use Rattle.std.specs.Option.{option_map}
use Rattle.oe_client.specs.Verbs.{verb_of}
use Rattle.oe_client.proofs.Writable.{command_writable}
use Rattle.oe_client.proofs.command.client_command.Goals as goal

pub returns-clause-writable : goal.returns-clause-writable
returns-clause-writable c =
    command_writable c.make_command.result (verb_of c.args.verb.now) (option_map (λ t. t.now) c.args.argument)
    (option_map (λ t. t.now) c.args.token) c.args.host c.args.input.items c.make_command.ensures.request
    c.make_command.ensures.host
