use Rattle.std.proofs.Common.{◌-◌, ◌∙◌, length, sym, ap, arith}
use Rattle.oe_meanings.specs.Meaning.{joined}
use Rattle.oe_ops.specs.Indices.{found_in}
use Rattle.oe_ops.specs.Slices.{along_x, at_indices}
use Rattle.oe_ops.proofs.FoundLemmas.{found_on_row, not_on_row, on_row}
use Rattle.oe_ops.proofs.MergeLemmas.{only_first, only_second}
use Rattle.oe_ops.proofs.merge.MergedRowsRows.row.Goals as goal

pub found_row-requires-clause-each : goal.found_row-requires-clause-each
found_row-requires-clause-each c = λ k lt. let all = c.requires.serves k lt in record { inside = all.8; indices = all.9; held = all.11 }

pub found_row-requires-in-None-Some-clause-each : goal.found_row-requires-in-None-Some-clause-each
found_row-requires-in-None-Some-clause-each c = λ k lt. let all = c.requires.serves k lt in record { inside = all.8; indices = all.10; held = all.12 }

pub join_row-requires-clause-one : goal.join_row-requires-clause-one
join_row-requires-clause-one c =
    let cubes = c.args.self.now.cubes in
    let first = c.requires.serves 0 c.requires.some in
    let last = c.requires.serves (length c.args.out.now - 1) (omega (arith, c.requires.some)) in
    record {
      labels = record {
        valid = first.2;
        counted = first.0;
        inside = omega (arith, last.8.x, c.requires.some);
        held = λ k i lt e.
            let all = c.requires.serves k lt in
            all.11 _
            (on_row cubes.one.shape.now cubes.one.argument.now (along_x (at_indices c.args.t c.args.band c.args.y c.args.x) k) c.in-Some-Some.first i
            (sym (c.row_in-first.ensures c.args.t c.args.band all.9.t all.9.band) ∙ c.in-Some-Some.is-0) e);
      };
      some = c.requires.some;
      on_run = λ k lt. (c.requires.serves k lt).9.x;
    }

pub join_row-requires-clause-two : goal.join_row-requires-clause-two
join_row-requires-clause-two c =
    let cubes = c.args.self.now.cubes in
    let first = c.requires.serves 0 c.requires.some in
    let last = c.requires.serves (length c.args.out.now - 1) (omega (arith, c.requires.some)) in
    record {
      labels = record {
        valid = first.2;
        counted = first.1;
        inside = omega (arith, last.8.x, c.requires.some);
        held = λ k i lt e.
            let all = c.requires.serves k lt in
            all.12 _
            (on_row cubes.one.shape.now cubes.other.now (along_x (at_indices c.args.t c.args.band c.args.y c.args.x) k) c.in-Some-Some.second i
            (sym (c.row_in-second.ensures c.args.t c.args.band all.10.t all.10.band) ∙ c.in-Some-Some.is-1) e);
      };
      some = c.requires.some;
      on_run = λ k lt. (c.requires.serves k lt).10.x;
    }

pub returns-in_default-None : goal.returns-in_default-None
returns-in_default-None c = λ k lt.
    let all = c.requires.serves k lt in
    let cubes = c.args.self.now.cubes in
    let p = along_x (at_indices c.args.t c.args.band c.args.y c.args.x) k in
    let one = found_in cubes.one.shape.now cubes.one.argument.now cubes.one.slice p in
    let none = not_on_row cubes.one.shape.now cubes.other.now cubes.other_slice p (sym (c.row_in-second.ensures c.args.t c.args.band all.10.t all.10.band) ∙ c.in_default-None.is-1) in
    c.found_row.ensures k lt ∙ sym (ap (joined cubes.resolver.now one) none ∙ only_first cubes.resolver.now one)

pub returns-in-None-Some : goal.returns-in-None-Some
returns-in-None-Some c = λ k lt.
    let all = c.requires.serves k lt in
    let cubes = c.args.self.now.cubes in
    let p = along_x (at_indices c.args.t c.args.band c.args.y c.args.x) k in
    let two = found_in cubes.one.shape.now cubes.other.now cubes.other_slice p in
    let none = not_on_row cubes.one.shape.now cubes.one.argument.now cubes.one.slice p (sym (c.row_in-first.ensures c.args.t c.args.band all.9.t all.9.band) ∙ c.in-None-Some.is-0) in
    c.found_row-in-None-Some.ensures k lt ∙ sym (ap (λ o. joined cubes.resolver.now o two) none ∙ only_second cubes.resolver.now two)

pub returns-in-Some-Some : goal.returns-in-Some-Some
returns-in-Some-Some c = λ k lt.
    let all = c.requires.serves k lt in
    let cubes = c.args.self.now.cubes in
    let p = along_x (at_indices c.args.t c.args.band c.args.y c.args.x) k in
    let one = found_on_row cubes.one.shape.now cubes.one.argument.now cubes.one.slice p c.in-Some-Some.first (sym (c.row_in-first.ensures c.args.t c.args.band all.9.t all.9.band) ∙ c.in-Some-Some.is-0) in
    let two = found_on_row cubes.one.shape.now cubes.other.now cubes.other_slice p c.in-Some-Some.second (sym (c.row_in-second.ensures c.args.t c.args.band all.10.t all.10.band) ∙ c.in-Some-Some.is-1) in
    c.join_row.ensures k lt
    ∙ sym (ap (λ o. joined cubes.resolver.now o (found_in cubes.one.shape.now cubes.other.now cubes.other_slice p)) one ∙ ap (joined cubes.resolver.now _) two)
