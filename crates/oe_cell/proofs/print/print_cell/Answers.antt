use Rattle.std.proofs.Common.{true, false, rules}
use Rattle.oe_cell.specs.declared.cell.Cell.TheVariants.{Empty, Flag, Number}
use Rattle.oe_cell.proofs.SpellingLemmas.{only_spelling}
use Rattle.oe_cell.proofs.print.print_cell.Goals as goal

pub returns-in-Empty-clause-one_spelling : goal.returns-in-Empty-clause-one_spelling
returns-in-Empty-clause-one_spelling c other h fits same =
    only_spelling c.args.cell Empty other c.push.new.self c.in-Empty.is tt (search rules) (search rules) h fits same

pub returns-in-Flag-true-clause-one_spelling : goal.returns-in-Flag-true-clause-one_spelling
returns-in-Flag-true-clause-one_spelling c other h fits same =
    only_spelling c.args.cell (Flag true) other c.push-in-Flag-true.new.self (search rules) tt (search rules) (search rules) h fits same

pub returns-in-Flag-false-clause-one_spelling : goal.returns-in-Flag-false-clause-one_spelling
returns-in-Flag-false-clause-one_spelling c other h fits same =
    only_spelling c.args.cell (Flag false) other c.push-in-Flag-false.new.self (search rules) tt (search rules) (search rules) h fits same

pub returns-in-Number-clause-one_spelling : goal.returns-in-Number-clause-one_spelling
returns-in-Number-clause-one_spelling c other h fits same =
    only_spelling c.args.cell (Number c.in-Number.number) other c.push_number.new.into c.in-Number.is c.push_number.ensures.number (search rules) c.push_number.ensures.text h fits same
