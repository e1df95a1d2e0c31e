use Rattle.oe_render.proofs.OneCube.{read_again}
use Rattle.oe_render.proofs.reading.read_cube_text.Goals as goal

pub returns-clause-reads_back : goal.returns-clause-reads_back
returns-clause-reads_back c =
    read_again c.args.bytes.now c.read_text.result c.read_text.ensures.text c.read_text.ensures.invalid
