-- What stands on a connection behind the head of a result.
use Rattle.std.proofs.Common.{◌≡◌, ℕ, List, [], take, Option, Some, Err, inl, inr, refl}
use Rattle.std.proofs.lemmas.Option.{same_Some}
use Rattle.oe_cell.specs.declared.cell.Cell.{Cell}
use Rattle.oe_dims.specs.Cube.{Cube}
use Rattle.oe_engine.specs.Runs.{OfRun, RunOf, chunk_total, result_cube, result_shape}
use Rattle.oe_engine.proofs.RenderLemmas.{result_shape_is, result_whole, text_is}
use Rattle.oe_outside.specs.Faults.{HasCauseOf, NeverFalls, Rose}
use Rattle.oe_outside.specs.Visible.{Appends, AppendsPrefix}
use Rattle.oe_outside.proofs.Causes.{NeverFalls-trans, then-Rose}
use Rattle.oe_outside.proofs.Runs.{Appends-more, first_stopped, second_stopped}
use Rattle.oe_plan.specs.Plans.{IsPlan}
use Rattle.oe_render.specs.Rendered.{AppendsCube, IsRefusalWithin}
use Rattle.oe_render.specs.Text.{cube_text}
use Rattle.oe_render.specs.declared.rendering.RenderFail.{RenderFail}
use Rattle.oe_render.specs.declared.rendering.RenderFail.TheVariants as render
use Rattle.oe_serve.specs.Evaluations.{SendsRun, SendsRunText, WritesText, served_of}
use Rattle.oe_serve.specs.Links.{LinkOf}
use Rattle.oe_serve.specs.declared.served.Served.{Served}
use Rattle.oe_serve.specs.declared.served.Served.TheVariants.{Answered, Cut, LinkFailed}

-- ---- the text of a run

module _ (r : RunOf) (is : IsPlan r.plan) (complete : r.done ≡ chunk_total r.plan) (store : Option (List ℕ)) where
  -- what was written whole is one text, and that of the run's result where the bytes are visible
  pub writes_text : (faults faults_after : ℕ) (link link_after : LinkOf)
      → AppendsCube store r.base (result_shape r.plan) link.written link_after.written
      → WritesText r store faults faults_after [] link link_after
  writes_text faults faults_after link link_after h =
      let cube : Cube Cell = record { shape = result_shape r.plan; cells = h.0 } in
      record {
        text = cube_text cube;
        written = h.2;
        text_is = λ collections are shows.
            same_Some (cube_text cube) (cube_text (result_cube collections r.plan))
            (text_is r.plan is r refl complete (result_cube collections r.plan)
            (result_shape_is r.plan is collections are) (result_whole r.plan is collections are) store (Some [])
            (Some (cube_text cube)) shows (h.0, h.1, refl));
      }

  -- what was not
  pub not_whole : (faults faults_after end : ℕ) (link link_after : LinkOf) (fail : RenderFail)
      → OfRun r store (λ cube. AppendsPrefix link.written (cube_text cube) link_after.written)
      → HasCauseOf {T = Unit {0}} render.SpoolFailed faults faults_after (Err fail)
      → HasCauseOf {T = Unit {0}} render.SinkFailed link.faults link_after.faults (Err fail)
      → IsRefusalWithin store 0 end fail
      → SendsRunText r store faults faults_after [] link link_after (served_of fail)
  not_whole faults faults_after end link link_after render.SpoolFailed prefix spool sink damage =
      record { sends = (inl (spool.failed refl), prefix); count = sink.count }
  not_whole faults faults_after end link link_after (render.SpoolDamaged number) prefix spool sink damage =
      record { sends = (inr damage.0, prefix); count = sink.count }
  not_whole faults faults_after end link link_after render.SinkFailed prefix spool sink damage =
      record { sends = (sink.failed refl, prefix); count = sink.count }

-- ---- behind a head

module _ (r : RunOf) (store : Option (List ℕ)) (faults faults_after : ℕ) (head : List ℕ) (before link after : LinkOf)
    (headed : Appends before.written head link.written) (count : NeverFalls before.faults link.faults) where
  behind : (served : Served) → SendsRun r store faults faults_after [] link after served
      → SendsRun r store faults faults_after head before after served
  behind (Answered status) (is, writes) = (
    is,
    record {
      text = writes.text;
      written = Appends-more before.written link.written after.written head writes.text headed writes.written;
      text_is = writes.text_is;
    },
  )
  behind Cut (why, stands) = (
    why,
    λ collections are shows.
        let part = stands collections are shows in (
          part.0,
          Appends-more before.written link.written after.written head
              (take part.0 (cube_text (result_cube collections r.plan))) headed part.1,
        ),
  )
  behind LinkFailed (rose, stands) = (
    then-Rose count rose,
    λ collections are shows.
        second_stopped before.written link.written after.written head (cube_text (result_cube collections r.plan)) headed
        (stands collections are shows),
  )

  pub behind_head : (served : Served) → SendsRunText r store faults faults_after [] link after served
      → SendsRunText r store faults faults_after head before after served
  behind_head served s = record { sends = behind served s.sends; count = NeverFalls-trans count s.count }

-- the connection failed at the head
pub failed_at_head : (r : RunOf) (store : Option (List ℕ)) (faults faults_after : ℕ) (head : List ℕ) (before after : LinkOf)
    → Rose before.faults after.faults → NeverFalls before.faults after.faults
    → AppendsPrefix before.written head after.written
    → SendsRunText r store faults faults_after head before after LinkFailed
failed_at_head r store faults faults_after head before after rose count prefix = record {
  sends = (
    rose,
    λ collections are shows.
        first_stopped before.written after.written head (cube_text (result_cube collections r.plan)) prefix,
  );
  count = count;
}
