use Rattle.oe_client.proofs.FollowLemmas.{pages_are_followed as followed}
use Rattle.oe_client.proofs.laws.pages_are_followed.Goals as goal

pub returns : goal.returns
returns c = followed
