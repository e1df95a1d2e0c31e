use Rattle.std.proofs.Common.{true≢false, sym, ◌∙◌}
use Rattle.serde_json.specs.View.{view}
use Rattle.oe_parts.proofs.HeadOne.{members_said, unread_header}
use Rattle.oe_parts.proofs.head.read_members.Goals as goal

pub returns-in-Ok : goal.returns-in-Ok
returns-in-Ok c = members_said c.args.bytes.now (view c.in-Ok.value) c.read_value.result c.in-Ok.ensures.ok.1 c.read_value.ensures

pub returns-in-Err-2 : goal.returns-in-Err-2
returns-in-Err-2 c =
    unread_header c.args.bytes.now (c.in-Err.ensures.err (λ memory. true≢false (sym (c.is_memory.ensures.1 memory) ∙ c.if-is_memory.false)))
