-- A list by pages is that of the whole list.
use Rattle.std.proofs.Common.{refl}
use Rattle.oe_routes.specs.Laws.{ListsByPages}

pub lists_by_pages : ListsByPages
lists_by_pages s r body = record {
  without_query = refl;
  whole = λ is. rw is refl;
  page = λ asked is. rw is refl;
  invalid = λ is. rw is refl;
}
