-- The exit status of a server, and the line that says why it ended.
use Rattle.std.specs.Prelude.{ℕ, List, [], codes, Result, Ok, Err}
use Rattle.oe_serve.specs.declared.turns.ServeFail.{ServeFail}
use Rattle.oe_serve.specs.declared.turns.ServeFail.TheVariants.{KeeperFault, LinkFault, OutOfMemory}

abbrev pub status_of : ServeFail → ℕ
status_of KeeperFault = 10
status_of LinkFault = 11
status_of OutOfMemory = 9

abbrev pub line_of : ServeFail → List ℕ
line_of KeeperFault = codes "openeo: KeeperFault\n"
line_of LinkFault = codes "openeo: LinkFault\n"
line_of OutOfMemory = codes "openeo: OutOfMemory\n"
