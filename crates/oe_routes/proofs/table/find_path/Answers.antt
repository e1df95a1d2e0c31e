use Rattle.oe_routes.proofs.Worked.{routes_go_in}
use Rattle.oe_routes.proofs.table.find_path.Goals as goal

-- the rows behind the reference are those of the constant
pub returns : goal.returns
returns c = c.find_in.ensures

pub find_in-requires : goal.find_in-requires
find_in-requires c = routes_go_in
