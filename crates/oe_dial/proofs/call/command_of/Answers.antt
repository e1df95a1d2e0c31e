use Rattle.oe_client.specs.Commands.{request_of}
use Rattle.oe_dial.proofs.Hosts.{command_for, command_in_form}
use Rattle.oe_dial.specs.Words.{plain_call}
use Rattle.oe_dial.proofs.call.command_of.Goals as goal

pub returns : goal.returns
returns c =
    let call = plain_call c.args.call.now in
    let host = rw c.as_str.ensures at c.in_ok-host.ensures in
    command_for call (request_of call.verb call.argument call.token c.args.input.items) c.client_command.result c.client_command.ensures.request
    (rw host at c.client_command.ensures.host)
    (command_in_form c.client_command.result call c.in_ok-host.host c.args.input.items c.requires.spelled c.requires.short host c.client_command.ensures.writable)
