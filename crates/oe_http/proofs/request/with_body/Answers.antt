use Rattle.std.proofs.Common.{◌≡◌, ℕ, List, take, arith, subst}
use Rattle.oe_http.specs.Parts.{HasParts}
use Rattle.oe_http.specs.Plain.{plain_request}
use Rattle.oe_http.specs.Requests.{request_of}
use Rattle.oe_http.proofs.request.with_body.Goals as goal

pub returns-clause-whole : goal.returns-clause-whole
returns-clause-whole c = record {
  whole = omega (arith, c.len.ensures, c.if-len-head.false);
  is =
      let P : List ℕ → Type 0 = λ bytes. (found : HasParts (take c.args.head.now.end bytes) c.args.head.now.parts)
      → plain_request c.in_ok-make_request.field-0 ≡ request_of found.parts c.args.body.items in
      subst P c.deref.ensures.value c.in_ok-make_request.ensures;
}
