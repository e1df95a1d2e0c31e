use Rattle.std.proofs.Common.{arith}
use Rattle.std.specs.Option.{option_map}
use Rattle.oe_client.specs.Verbs.{verb_of}
use Rattle.oe_client.proofs.Writable.{page_writable}
use Rattle.oe_client.proofs.command.page_command.Goals as goal

pub returns-clause-writable : goal.returns-clause-writable
returns-clause-writable c =
    page_writable c.make_page.result (verb_of c.args.verb.now) (option_map (λ t. t.now) c.args.argument)
    (option_map (λ t. t.now) c.args.token) c.args.host c.args.offset (omega (arith, c.ranges.offset.fits)) c.make_page.ensures.request
    c.make_page.ensures.host
