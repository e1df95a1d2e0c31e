-- What a request asks for, over the collections as they are.
use Rattle.std.proofs.Common.{◌≡◌, Bool, true, false, List, [], sym, ap, ◌∙◌, subst, inl, inr}
use Rattle.std.specs.Prelude.{if◌then◌else◌}
use Rattle.std.proofs.lemmas.Bool.{cases_Bool}
use Rattle.oe_dims.specs.declared.dims.DimsRow.{DimsRow}
use Rattle.oe_engine.specs.Laws.{GivesCollections}
use Rattle.oe_http.specs.Plain.{PlainRequest}
use Rattle.oe_routes.specs.Actions.{MayBeDone, PlainAction}
use Rattle.oe_routes.specs.Answers.{answer_of}
use Rattle.oe_routes.specs.Asks.{asks_for_rows}
use Rattle.oe_routes.specs.Found.{Found, IsFoundFor}
use Rattle.oe_routes.specs.Laws.{AnswersWithoutRows}
use Rattle.oe_routes.specs.Scenes.{PlainScene}
use Rattle.oe_routes.specs.declared.action.Action.{Action}
use Rattle.oe_routes.specs.declared.action.Action.TheVariants as actions
use Rattle.oe_sources.specs.Catalogue.{Row}
use Rattle.oe_sources.specs.CatalogueDims.{AreDimsOf, dims_of}
use Rattle.oe_serve.specs.Answers.{Asks, DecidesChange}
use Rattle.oe_serve.specs.Rows.{rows_asked}
use Rattle.oe_serve.specs.Serves.{MayAct}

-- with other rows
abbrev over : PlainScene → List DimsRow → PlainScene
over s rows = record s { rows = rows }

module _ (s : PlainScene) (r : PlainRequest) (given : List DimsRow) (given_is : given ≡ rows_asked r s.rows) where
  given_all : asks_for_rows r ≡ true → given ≡ s.rows
  given_all asks = given_is ∙ ap (λ (b : Bool). if b then s.rows else []) asks

  -- what is answered over the rows that were asked for is what is answered over all
  pub asks_by : AnswersWithoutRows → (action : PlainAction)
      → ((f : Found) → IsFoundFor given (asks_for_rows r) f → action ≡ answer_of (over s given) f r) → Asks s r action
  asks_by without action answers f found =
      elim (cases_Bool (asks_for_rows r)) [
        | inl asks ↦
            let same = given_all asks in
            sym (answers f (subst (λ (rows : List DimsRow). IsFoundFor rows (asks_for_rows r) f) (sym same) found)
            ∙ ap (λ (rows : List DimsRow). answer_of (over s rows) f r) same)
        | inr asks ↦
            let read : IsFoundFor given (asks_for_rows r) f =
            record { read = found.read; judged = λ yes. let both : false ≡ true = sym asks ∙ yes in absurd cc } in
            sym (answers f read ∙ without s f r given s.rows asks)
      ]

  -- what may be done may be done over the collections
  pub may_act : (rows : List Row) (action : Action) → s.rows ≡ dims_of rows
      → (asks_for_rows r ≡ true → AreDimsOf rows (dims_of rows)) → (asks_for_rows r ≡ true → GivesCollections rows)
      → MayBeDone (over s given) (asks_for_rows r) action → MayAct s.book rows action
  may_act rows (actions.Answer response) same found collections may = may
  may_act rows (actions.Commit made response) same found collections may = (
    may.0,
    may.1,
    record { user = may.2.user; asked = may.2.asked; now = s.moment; made_is = may.2.made_is },
  )
  may_act rows (actions.RunNow checked) same found collections may =
      let are : checked.rows ≡ dims_of rows = may.1 ∙ given_all may.0 ∙ same in
      record { rows_are = are; found = subst (AreDimsOf rows) (sym are) (found may.0); given = collections may.0 }
  may_act rows (actions.SendAsset job asset) same found collections may = may
  may_act rows (actions.Estimate graphs) same found collections may = tt

  pub decides : (action : Action) → MayBeDone (over s given) (asks_for_rows r) action → DecidesChange s.book s.moment action
  decides (actions.Answer response) may = tt
  decides (actions.Commit made response) may = may.2
  decides (actions.RunNow checked) may = tt
  decides (actions.SendAsset job asset) may = tt
  decides (actions.Estimate graphs) may = tt
