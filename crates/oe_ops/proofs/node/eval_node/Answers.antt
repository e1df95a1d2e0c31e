use Rattle.std.proofs.Common.{◌≡◌, ◌<◌, ◌∷◌, [], length, arith, rules, ◌∙◌, sym, subst}
use Rattle.std.specs.List.{All}
use Rattle.oe_cell.specs.declared.cell.Cell.TheVariants.{Empty}
use Rattle.oe_cube.specs.Kinds.{IsOfKind}
use Rattle.oe_dims.specs.Dimensions.{Dimensions}
use Rattle.oe_dims.specs.declared.kind.Kind.TheVariants.{Time, X}
use Rattle.oe_meanings.specs.Meaning.{cube_of}
use Rattle.oe_requests.specs.Operations.{operation_kind}
use Rattle.oe_requests.specs.PlainRequests.{plain_operation, plain_restriction}
use Rattle.oe_requests.specs.declared.operation.Operation.{Operation}
use Rattle.oe_window.specs.Cells.{cells_on}
use Rattle.oe_window.specs.Windows.{Holds, whole_window}
use Rattle.oe_ops.specs.Nodes.{FitsFirstKind}
use Rattle.oe_ops.proofs.NodeLemmas.{accumulate_need, all_of_none, apply_need, aggregate_need, convolve_need, cover_need, cover_two_need, give_back_need, keep_need, list_room, merge_need, merge_two_need, node_as, nothing_there, reduce_need, resolver_fits, row_room}
use Rattle.oe_ops.proofs.node.eval_node.Goals as goal

pub returns-then-is_empty : goal.returns-then-is_empty
returns-then-is_empty c =
    let none : length c.args.out.now ≡ 0 = search rules in
    record {
      value = λ first second whole same on two_whole two_same two_on. nothing_there (cube_of (plain_operation c.args.operation.now) (first ∷ second ∷ [])) c.args.window.now c.args.out.now none c.requires.out.counted;
      kinds = λ kind h fits. all_of_none (IsOfKind (operation_kind (plain_operation c.args.operation.now) (kind ∷ []))) c.args.out.now none;
    }

pub eval_keep-requires : goal.eval_keep-requires
eval_keep-requires c =
    let k = c.in-Keep in
    let here = node_as c.args.shape.now c.args.one.shape.now c.args.two.shape.now c.args.one.slice c.args.two.slice c.args.window.now c.args.operation.now _ k.is c.requires.works.shape_is c.requires.works.takes c.requires.inputs.first.need c.requires.inputs.second.need in
    record {
      slice = record {
        valid = c.requires.inputs.first.valid;
        counted = c.requires.inputs.first.counted;
        need = keep_need c.args.shape.now c.args.one.shape.now c.args.two.shape.now c.args.one.slice c.args.two.slice c.args.window.now _ here;
      };
      out = c.requires.out;
    }

pub returns-in-Keep : goal.returns-in-Keep
returns-in-Keep c =
    let k = c.in-Keep in
    let here = node_as c.args.shape.now c.args.one.shape.now c.args.two.shape.now c.args.one.slice c.args.two.slice c.args.window.now c.args.operation.now _ k.is c.requires.works.shape_is c.requires.works.takes c.requires.inputs.first.need c.requires.inputs.second.need in
    record {
      value = λ first second whole same on two_whole two_same two_on.
          subst (λ (o : Operation). c.eval_keep.new.out ≡ cells_on Empty (cube_of (plain_operation o) (first ∷ second ∷ [])) c.args.window.now) (sym k.is)
          (c.eval_keep.ensures.value first (plain_restriction k.field-0) whole same (sym here.shape_is) on);
      kinds = λ kind h fits.
          subst (λ (o : Operation). All (IsOfKind (operation_kind (plain_operation o) (kind ∷ []))) c.eval_keep.new.out) (sym k.is)
          (c.eval_keep.ensures.kinds kind h);
    }

pub eval_apply-requires : goal.eval_apply-requires
eval_apply-requires c =
    let k = c.in-EachCell in
    let here = node_as c.args.shape.now c.args.one.shape.now c.args.two.shape.now c.args.one.slice c.args.two.slice c.args.window.now c.args.operation.now _ k.is c.requires.works.shape_is c.requires.works.takes c.requires.inputs.first.need c.requires.inputs.second.need in
    let room = c.requires.room Time in
    record {
      keeps = here.takes.0;
      takes = here.takes.1;
      slice = record {
        valid = c.requires.works.shape_valid;
        counted = c.requires.inputs.first.counted;
        need = apply_need c.args.shape.now c.args.one.shape.now c.args.two.shape.now c.args.one.slice c.args.two.slice c.args.window.now _ here;
      };
      out = c.requires.out;
      room = omega arith;
    }

pub returns-in-EachCell : goal.returns-in-EachCell
returns-in-EachCell c =
    let k = c.in-EachCell in
    let here = node_as c.args.shape.now c.args.one.shape.now c.args.two.shape.now c.args.one.slice c.args.two.slice c.args.window.now c.args.operation.now _ k.is c.requires.works.shape_is c.requires.works.takes c.requires.inputs.first.need c.requires.inputs.second.need in
    record {
      value = λ first second whole same on two_whole two_same two_on.
          subst (λ (o : Operation). c.eval_apply.new.out ≡ cells_on Empty (cube_of (plain_operation o) (first ∷ second ∷ [])) c.args.window.now) (sym k.is)
          (c.eval_apply.ensures.value first whole (same ∙ sym here.shape_is) on);
      kinds = λ kind h fits.
          subst (λ (o : Operation). All (IsOfKind (operation_kind (plain_operation o) (kind ∷ []))) c.eval_apply.new.out) (sym k.is)
          (c.eval_apply.ensures.kinds);
    }

pub eval_convolve-requires : goal.eval_convolve-requires
eval_convolve-requires c =
    let k = c.in-Convolve in
    let here = node_as c.args.shape.now c.args.one.shape.now c.args.two.shape.now c.args.one.slice c.args.two.slice c.args.window.now c.args.operation.now _ k.is c.requires.works.shape_is c.requires.works.takes c.requires.inputs.first.need c.requires.inputs.second.need in
    record {
      slice = record {
        valid = c.requires.works.shape_valid;
        counted = c.requires.inputs.first.counted;
        need = convolve_need c.args.shape.now c.args.one.shape.now c.args.two.shape.now c.args.one.slice c.args.two.slice c.args.window.now _ _ _ _ here;
      };
      inside = subst (λ (d : Dimensions). Holds (whole_window d) c.args.one.slice.window) (sym here.shape_is) c.requires.inside;
      out = c.requires.out;
    }

pub returns-in-Convolve : goal.returns-in-Convolve
returns-in-Convolve c =
    let k = c.in-Convolve in
    let here = node_as c.args.shape.now c.args.one.shape.now c.args.two.shape.now c.args.one.slice c.args.two.slice c.args.window.now c.args.operation.now _ k.is c.requires.works.shape_is c.requires.works.takes c.requires.inputs.first.need c.requires.inputs.second.need in
    record {
      value = λ first second whole same on two_whole two_same two_on.
          subst (λ (o : Operation). c.eval_convolve.new.out ≡ cells_on Empty (cube_of (plain_operation o) (first ∷ second ∷ [])) c.args.window.now) (sym k.is)
          (c.eval_convolve.ensures.value first whole (same ∙ sym here.shape_is) on);
      kinds = λ kind h fits.
          subst (λ (o : Operation). All (IsOfKind (operation_kind (plain_operation o) (kind ∷ []))) c.eval_convolve.new.out) (sym k.is)
          (c.eval_convolve.ensures.kinds);
    }

pub eval_reduce-requires : goal.eval_reduce-requires
eval_reduce-requires c =
    let k = c.in-Reduce in
    let here = node_as c.args.shape.now c.args.one.shape.now c.args.two.shape.now c.args.one.slice c.args.two.slice c.args.window.now c.args.operation.now _ k.is c.requires.works.shape_is c.requires.works.takes c.requires.inputs.first.need c.requires.inputs.second.need in
    record {
      without = here.shape_is;
      keeps = here.takes.0;
      takes = here.takes.1;
      slice = record {
        valid = c.requires.inputs.first.valid;
        counted = c.requires.inputs.first.counted;
        need = reduce_need c.args.shape.now c.args.one.shape.now c.args.two.shape.now c.args.one.slice c.args.two.slice c.args.window.now _ _ here;
      };
      out = c.requires.out;
      room = list_room k.along c.args.one.shape.now _ c.requires.room;
    }

pub returns-in-Reduce : goal.returns-in-Reduce
returns-in-Reduce c =
    let k = c.in-Reduce in
    let here = node_as c.args.shape.now c.args.one.shape.now c.args.two.shape.now c.args.one.slice c.args.two.slice c.args.window.now c.args.operation.now _ k.is c.requires.works.shape_is c.requires.works.takes c.requires.inputs.first.need c.requires.inputs.second.need in
    record {
      value = λ first second whole same on two_whole two_same two_on.
          subst (λ (o : Operation). c.eval_reduce.new.out ≡ cells_on Empty (cube_of (plain_operation o) (first ∷ second ∷ [])) c.args.window.now) (sym k.is)
          (c.eval_reduce.ensures.value first whole same on);
      kinds = λ kind h fits.
          subst (λ (o : Operation). All (IsOfKind (operation_kind (plain_operation o) (kind ∷ []))) c.eval_reduce.new.out) (sym k.is)
          (c.eval_reduce.ensures.kinds);
    }

pub eval_aggregate-requires : goal.eval_aggregate-requires
eval_aggregate-requires c =
    let k = c.in-Aggregate in
    let here = node_as c.args.shape.now c.args.one.shape.now c.args.two.shape.now c.args.one.slice c.args.two.slice c.args.window.now c.args.operation.now _ k.is c.requires.works.shape_is c.requires.works.takes c.requires.inputs.first.need c.requires.inputs.second.need in
    record {
      aggregation = record {
        shape_valid = c.requires.works.shape_valid;
        aggregated = here.shape_is;
        keeps = here.takes.0;
        takes = here.takes.1;
      };
      slice = record {
        valid = c.requires.inputs.first.valid;
        counted = c.requires.inputs.first.counted;
        need = aggregate_need c.args.shape.now c.args.one.shape.now c.args.two.shape.now c.args.one.slice c.args.two.slice c.args.window.now _ _ here;
      };
      out = c.requires.out;
      room = c.requires.room Time;
    }

pub returns-in-Aggregate : goal.returns-in-Aggregate
returns-in-Aggregate c =
    let k = c.in-Aggregate in
    let here = node_as c.args.shape.now c.args.one.shape.now c.args.two.shape.now c.args.one.slice c.args.two.slice c.args.window.now c.args.operation.now _ k.is c.requires.works.shape_is c.requires.works.takes c.requires.inputs.first.need c.requires.inputs.second.need in
    record {
      value = λ first second whole same on two_whole two_same two_on.
          subst (λ (o : Operation). c.eval_aggregate.new.out ≡ cells_on Empty (cube_of (plain_operation o) (first ∷ second ∷ [])) c.args.window.now) (sym k.is)
          (c.eval_aggregate.ensures.value first whole same on);
      kinds = λ kind h fits.
          subst (λ (o : Operation). All (IsOfKind (operation_kind (plain_operation o) (kind ∷ []))) c.eval_aggregate.new.out) (sym k.is)
          (c.eval_aggregate.ensures.kinds);
    }

pub eval_accumulate-requires : goal.eval_accumulate-requires
eval_accumulate-requires c =
    let k = c.in-Accumulate in
    let here = node_as c.args.shape.now c.args.one.shape.now c.args.two.shape.now c.args.one.slice c.args.two.slice c.args.window.now c.args.operation.now _ k.is c.requires.works.shape_is c.requires.works.takes c.requires.inputs.first.need c.requires.inputs.second.need in
    let room = c.requires.shape_room X in
    record {
      slice = record {
        valid = c.requires.works.shape_valid;
        counted = c.requires.inputs.first.counted;
        need = accumulate_need c.args.shape.now c.args.one.shape.now c.args.two.shape.now c.args.one.slice c.args.two.slice c.args.window.now _ here;
      };
      out = c.requires.out;
      room = omega arith;
    }

pub returns-in-Accumulate : goal.returns-in-Accumulate
returns-in-Accumulate c =
    let k = c.in-Accumulate in
    let here = node_as c.args.shape.now c.args.one.shape.now c.args.two.shape.now c.args.one.slice c.args.two.slice c.args.window.now c.args.operation.now _ k.is c.requires.works.shape_is c.requires.works.takes c.requires.inputs.first.need c.requires.inputs.second.need in
    record {
      value = λ first second whole same on two_whole two_same two_on.
          subst (λ (o : Operation). c.eval_accumulate.new.out ≡ cells_on Empty (cube_of (plain_operation o) (first ∷ second ∷ [])) c.args.window.now) (sym k.is)
          (c.eval_accumulate.ensures.value first whole (same ∙ sym here.shape_is) on);
      kinds = λ kind h fits.
          subst (λ (o : Operation). All (IsOfKind (operation_kind (plain_operation o) (kind ∷ []))) c.eval_accumulate.new.out) (sym k.is)
          (c.eval_accumulate.ensures.kinds kind h);
    }

pub eval_merge-requires : goal.eval_merge-requires
eval_merge-requires c =
    let k = c.in-Merge in
    let here = node_as c.args.shape.now c.args.one.shape.now c.args.two.shape.now c.args.one.slice c.args.two.slice c.args.window.now c.args.operation.now _ k.is c.requires.works.shape_is c.requires.works.takes c.requires.inputs.first.need c.requires.inputs.second.need in
    let more : 0 < length c.args.out.now = search rules in
    record {
      merged = here.shape_is;
      resolver = resolver_fits _ c.args.one.slice c.args.two.slice here.takes;
      one = record {
        valid = c.requires.inputs.first.valid;
        counted = c.requires.inputs.first.counted;
        need = merge_need c.args.shape.now c.args.one.shape.now c.args.two.shape.now c.args.one.slice c.args.two.slice c.args.window.now _ here;
      };
      two = record {
        valid = c.requires.inputs.second.valid;
        counted = c.requires.inputs.second.counted;
        need = merge_two_need c.args.shape.now c.args.one.shape.now c.args.two.shape.now c.args.one.slice c.args.two.slice c.args.window.now _ here;
      };
      out = c.requires.out;
      room = row_room c.args.shape.now c.args.window.now _ _ c.requires.out.within more c.requires.out.counted c.requires.shape_room;
    }

pub returns-in-Merge : goal.returns-in-Merge
returns-in-Merge c =
    let k = c.in-Merge in
    let here = node_as c.args.shape.now c.args.one.shape.now c.args.two.shape.now c.args.one.slice c.args.two.slice c.args.window.now c.args.operation.now _ k.is c.requires.works.shape_is c.requires.works.takes c.requires.inputs.first.need c.requires.inputs.second.need in
    record {
      value = λ first second whole same on two_whole two_same two_on.
          subst (λ (o : Operation). c.eval_merge.new.out ≡ cells_on Empty (cube_of (plain_operation o) (first ∷ second ∷ [])) c.args.window.now) (sym k.is)
          (c.eval_merge.ensures.value first second whole same on two_whole two_same two_on);
      kinds = λ kind h fits.
          subst (λ (o : Operation). All (IsOfKind (operation_kind (plain_operation o) (kind ∷ []))) c.eval_merge.new.out) (sym k.is)
          (let f = subst (λ (o : Operation). FitsFirstKind (plain_operation o) kind c.args.two.slice.cells.now) k.is fits in c.eval_merge.ensures.kinds kind h f.0 f.1);
    }

pub eval_cover-requires : goal.eval_cover-requires
eval_cover-requires c =
    let k = c.in-Cover in
    let here = node_as c.args.shape.now c.args.one.shape.now c.args.two.shape.now c.args.one.slice c.args.two.slice c.args.window.now c.args.operation.now _ k.is c.requires.works.shape_is c.requires.works.takes c.requires.inputs.first.need c.requires.inputs.second.need in
    record {
      slice = record {
        valid = c.requires.works.shape_valid;
        counted = c.requires.inputs.first.counted;
        need = cover_need c.args.shape.now c.args.one.shape.now c.args.two.shape.now c.args.one.slice c.args.two.slice c.args.window.now _ here;
      };
      mask = record {
        valid = c.requires.inputs.second.valid;
        counted = c.requires.inputs.second.counted;
        need = cover_two_need c.args.shape.now c.args.one.shape.now c.args.two.shape.now c.args.one.slice c.args.two.slice c.args.window.now _ here;
      };
      out = c.requires.out;
    }

pub returns-in-Cover : goal.returns-in-Cover
returns-in-Cover c =
    let k = c.in-Cover in
    let here = node_as c.args.shape.now c.args.one.shape.now c.args.two.shape.now c.args.one.slice c.args.two.slice c.args.window.now c.args.operation.now _ k.is c.requires.works.shape_is c.requires.works.takes c.requires.inputs.first.need c.requires.inputs.second.need in
    record {
      value = λ first second whole same on two_whole two_same two_on.
          subst (λ (o : Operation). c.eval_cover.new.out ≡ cells_on Empty (cube_of (plain_operation o) (first ∷ second ∷ [])) c.args.window.now) (sym k.is)
          (c.eval_cover.ensures.value first second whole (same ∙ sym here.shape_is) on two_whole two_same two_on);
      kinds = λ kind h fits.
          subst (λ (o : Operation). All (IsOfKind (operation_kind (plain_operation o) (kind ∷ []))) c.eval_cover.new.out) (sym k.is)
          (c.eval_cover.ensures.kinds kind h (subst (λ (o : Operation). FitsFirstKind (plain_operation o) kind c.args.two.slice.cells.now) k.is fits));
    }

pub eval_give_back-requires : goal.eval_give_back-requires
eval_give_back-requires c =
    let k = c.in-GiveBack in
    let here = node_as c.args.shape.now c.args.one.shape.now c.args.two.shape.now c.args.one.slice c.args.two.slice c.args.window.now c.args.operation.now _ k.is c.requires.works.shape_is c.requires.works.takes c.requires.inputs.first.need c.requires.inputs.second.need in
    record {
      slice = record {
        valid = c.requires.works.shape_valid;
        counted = c.requires.inputs.first.counted;
        need = give_back_need c.args.shape.now c.args.one.shape.now c.args.two.shape.now c.args.one.slice c.args.two.slice c.args.window.now here;
      };
      out = c.requires.out;
    }

pub returns-in-GiveBack : goal.returns-in-GiveBack
returns-in-GiveBack c =
    let k = c.in-GiveBack in
    let here = node_as c.args.shape.now c.args.one.shape.now c.args.two.shape.now c.args.one.slice c.args.two.slice c.args.window.now c.args.operation.now _ k.is c.requires.works.shape_is c.requires.works.takes c.requires.inputs.first.need c.requires.inputs.second.need in
    record {
      value = λ first second whole same on two_whole two_same two_on.
          subst (λ (o : Operation). c.eval_give_back.new.out ≡ cells_on Empty (cube_of (plain_operation o) (first ∷ second ∷ [])) c.args.window.now) (sym k.is)
          (c.eval_give_back.ensures.value first whole (same ∙ sym here.shape_is) on);
      kinds = λ kind h fits.
          subst (λ (o : Operation). All (IsOfKind (operation_kind (plain_operation o) (kind ∷ []))) c.eval_give_back.new.out) (sym k.is)
          (c.eval_give_back.ensures.kinds kind h);
    }
