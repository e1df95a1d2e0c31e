use Rattle.std.proofs.Common.{◌≡◌, ◌∷◌, [], decimal, refl, sym, ap, ◌∙◌}
use Rattle.std.specs.Fmt.{digits}
use Rattle.oe_wide.specs.Wide.{byte_count}
use Rattle.oe_wide.specs.declared.width.Width.{Width}
use Rattle.oe_sources.proofs.head.digits_of.Goals as goal

one : decimal 1 ≡ 49 ∷ []
unfolding digits
one = refl

nine : decimal 9 ≡ 57 ∷ []
unfolding digits
nine = refl

seventeen : decimal 17 ≡ 49 ∷ 55 ∷ []
unfolding digits
seventeen = refl

pub returns-in-One : goal.returns-in-One
returns-in-One c = sym (ap (λ (w : Width). decimal (byte_count w)) c.in-One.is ∙ one)

pub returns-in-Nine : goal.returns-in-Nine
returns-in-Nine c = sym (ap (λ (w : Width). decimal (byte_count w)) c.in-Nine.is ∙ nine)

pub returns-in-Seventeen : goal.returns-in-Seventeen
returns-in-Seventeen c = sym (ap (λ (w : Width). decimal (byte_count w)) c.in-Seventeen.is ∙ seventeen)
