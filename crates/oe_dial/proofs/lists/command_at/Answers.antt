use Rattle.std.proofs.Common.{[], arith}
use Rattle.oe_dial.proofs.Hosts.{command_for, command_in_form}
use Rattle.oe_dial.specs.Lists.{request_at}
use Rattle.oe_dial.specs.Words.{plain_call}
use Rattle.oe_dial.proofs.lists.command_at.Goals as goal

pub returns : goal.returns
returns c =
    let call = plain_call c.args.call.now in
    let host = rw c.as_str.ensures at c.in_ok-host.ensures in
    command_for call (request_at call c.args.offset) c.page_command.result c.page_command.ensures.request (rw host at c.page_command.ensures.host)
    (command_in_form c.page_command.result call c.in_ok-host.host [] c.requires.spelled (omega arith) host c.page_command.ensures.writable)
