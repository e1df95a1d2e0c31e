use Rattle.std.proofs.Common.{◌≡◌, slice_index, true, false, ◌∙◌, ap}
use Rattle.oe_http.proofs.HeadLemmas.{malformed_length, malformed_authorization, malformed_target}
use Rattle.oe_http.proofs.head.valid_parts.Goals as goal

-- src/head.rt:69:9
pub returns-in_default-clause-refused : goal.returns-in_default-clause-refused
returns-in_default-clause-refused c = malformed_length c.requires.spans c.in_default.ensures.none

-- src/head.rt:72:9
pub returns-in_default-said_authorization-clause-refused :
    goal.returns-in_default-said_authorization-clause-refused
returns-in_default-said_authorization-clause-refused c =
    malformed_authorization c.requires.spans c.in_default-said_authorization.ensures.none

-- src/head.rt:75:9
pub returns-then-not-begins_with_slash-clause-refused :
    goal.returns-then-not-begins_with_slash-clause-refused
returns-then-not-begins_with_slash-clause-refused c = malformed_target c.requires.spans (λ same.
    let wrong : false ≡ true = c.if-not-begins_with_slash.ensures.1 (ap (λ t. slice_index t 0) c.of.ensures ∙ same) in
    absurd (cc wrong))
