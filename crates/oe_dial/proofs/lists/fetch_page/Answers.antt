use Rattle.std.proofs.Common.{inl, refl}
use Rattle.oe_dial.proofs.Endings.{stays}
use Rattle.oe_dial.proofs.lists.fetch_page.Goals as goal

pub returns-in-Err : goal.returns-in-Err
returns-in-Err g c = record {
  fetches = λ out out_after faults faults_after. inl (record { door = refl; dial_faults = refl; link_faults = refl });
  next = refl;
  dials = stays _;
  links = stays _;
}
