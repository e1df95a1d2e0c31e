use Rattle.oe_routes.proofs.table.endpoints.Goals as goal

-- the rows behind the reference are those of the constant
pub returns : goal.returns
returns c = c.endpoints_of.ensures
