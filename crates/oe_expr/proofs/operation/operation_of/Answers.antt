use Rattle.oe_expr.proofs.operation.operation_of.Goals as goal

-- the entries behind the reference are those of the constant
pub returns : goal.returns
returns c = c.operation_in.ensures
