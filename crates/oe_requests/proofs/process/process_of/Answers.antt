use Rattle.oe_requests.proofs.process.process_of.Goals as goal

-- the entries behind the reference are those of the constant
pub returns : goal.returns
returns c = c.process_in.ensures
