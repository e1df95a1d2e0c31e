use Rattle.std.proofs.Common.{arith}
use Rattle.std.proofs.lemmas.Grind.{elements}
use Rattle.oe_dial.proofs.refusal.say.Goals as goal

pub returns-in-InputTooLong-clause-appended : goal.returns-in-InputTooLong-clause-appended
returns-in-InputTooLong-clause-appended c = grind (arith, elements) steps 2000000

pub returns-in-LinkFault-clause-appended : goal.returns-in-LinkFault-clause-appended
returns-in-LinkFault-clause-appended c = grind (arith, elements) steps 2000000

pub returns-in-OutOfMemory-clause-appended : goal.returns-in-OutOfMemory-clause-appended
returns-in-OutOfMemory-clause-appended c = grind (arith, elements) steps 2000000

pub returns-in-OutOfMemory-clause-prefix : goal.returns-in-OutOfMemory-clause-prefix
returns-in-OutOfMemory-clause-prefix c = grind (arith, elements) steps 2000000

pub returns-in-PeerInvalid-clause-appended : goal.returns-in-PeerInvalid-clause-appended
returns-in-PeerInvalid-clause-appended c = grind (arith, elements) steps 2000000

pub returns-in-ReadFault-clause-appended : goal.returns-in-ReadFault-clause-appended
returns-in-ReadFault-clause-appended c = grind (arith, elements) steps 2000000

pub returns-in-ReadFault-clause-prefix : goal.returns-in-ReadFault-clause-prefix
returns-in-ReadFault-clause-prefix c = grind (arith, elements) steps 2000000

pub returns-in-Refused-clause-appended : goal.returns-in-Refused-clause-appended
returns-in-Refused-clause-appended c = grind (arith, elements) steps 2000000

pub returns-in-WriteFault-clause-appended : goal.returns-in-WriteFault-clause-appended
returns-in-WriteFault-clause-appended c = grind (arith, elements) steps 2000000

pub returns-in-WriteFault-clause-prefix : goal.returns-in-WriteFault-clause-prefix
returns-in-WriteFault-clause-prefix c = grind (arith, elements) steps 2000000
