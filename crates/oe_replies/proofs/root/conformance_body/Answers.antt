use Rattle.serde_json.proofs.OnLiterals.{serde_json_on_literals}
use Rattle.oe_replies.proofs.root.conformance_body.Goals as goal

-- the bytes are the text of the value
pub returns : goal.returns
unfolding serde_json_on_literals
returns c = c.in_ok-from_slice.ensures.items
