use Rattle.oe_rows.proofs.laws.chunks_are_apart.Goals as goal

pub returns : goal.returns
returns c = λ number a i b j one two. (c.new.ensures.numbers.once number a i b j one two).0
