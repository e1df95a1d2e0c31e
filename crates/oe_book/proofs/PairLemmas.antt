-- What no two of a list have in common, from the first on.
use Rattle.std.proofs.Common.{◌≡◌, ◌≢◌, ◌↔◌, ℕ, ◌==◌, ◌&&◌, ◌||◌, Bool, true, false, true≢false, not, List, [], ◌∷◌, map, refl, sym, ap, ◌∙◌, subst, arith}
use Rattle.std.specs.Prelude.{IsTrue}
use Rattle.std.specs.List.{list_any}
use Rattle.std.proofs.lemmas.Bool.{and_parts, not-true}
use Rattle.std.proofs.lemmas.Bool.Decides.{nat_tests}
use Rattle.oe_dims.specs.Names.{same_name}
use Rattle.oe_graph.specs.Plain.{plain_stored}
use Rattle.oe_graph.specs.declared.stored.StoredProcess.{StoredProcess}
use Rattle.oe_jobs.specs.Machine.{is_busy, is_running}
use Rattle.oe_jobs.specs.Plain.{PlainJob}
use Rattle.oe_jobs.specs.Valid.{AreApart, stored_ids}

-- a fact of a list that is one of its first and of its rest
module _ {Y : Type 0} (Of : List Y → Type 0) (Head : Y → List Y → Type 0)
    (into : (y : Y) (ys : List Y) → Of (y ∷ ys) → Head y ys × Of ys) (out : (y : Y) (ys : List Y) → Head y ys → Of ys → Of (y ∷ ys))
    (W : Type 0) where
  pub rest_next : (y : Y) (ys zs : List Y) → zs ≡ y ∷ ys → Head y ys → (W ↔ Of zs) → W ↔ Of ys
  rest_next y ys zs is head left = (
    λ w. (into y ys (subst Of is (left.0 w))).1,
    λ rest. left.1 (subst Of (sym is) (out y ys head rest)),
  )

  pub rest_stops : (y : Y) (ys zs : List Y) → zs ≡ y ∷ ys → ¬ Head y ys → (W ↔ Of zs) → IsTrue false ↔ W
  rest_stops y ys zs is fails left = (
    λ e. absurd (true≢false (sym e)),
    λ w. absurd (fails (into y ys (subst Of is (left.0 w))).0),
  )

  pub rest_ends : (zs : List Y) → zs ≡ [] → Of [] → (W ↔ Of zs) → IsTrue true ↔ W
  rest_ends zs is none left = (λ t. left.1 (subst Of (sym is) none), λ w. refl)

-- ---- two jobs

and_none : (x y : Bool) → (x && y) ≡ false → x ≡ true → y ≡ false
and_none true y none is = none
and_none false y none is = absurd (true≢false (sym is))

no_and : (x y : Bool) → (x ≡ true → y ≡ false) → (x && y) ≡ false
no_and true y none = none refl
no_and false y none = refl

both_true : (x y : Bool) → x ≡ true → y ≡ true → (x && y) ≡ true
both_true true y a b = b
both_true false y a b = absurd (true≢false (sym a))

turns_apart : (m n : ℕ) → (m == n) ≡ false → m ≢ n
turns_apart m n apart = grind (arith, nat_tests)

turns_equal : (m n : ℕ) → (m == n) ≡ true → m ≡ n
turns_equal m n same = grind (arith, nat_tests)

pub apart_is : (job other : PlainJob) → (is_running job.status && is_running other.status) ≡ false
    → (is_busy job.status && is_busy other.status && (job.turn == other.turn)) ≡ false → AreApart job other
apart_is job other run turn = record {
  one_runs = λ runs. and_none (is_running job.status) (is_running other.status) run runs;
  turns_differ = λ busy other_busy.
      turns_apart job.turn other.turn
      (and_none (is_busy job.status && is_busy other.status) (job.turn == other.turn) turn
      (both_true (is_busy job.status) (is_busy other.status) busy other_busy));
}

pub apart_run : (job other : PlainJob) → AreApart job other → (is_running job.status && is_running other.status) ≡ false
apart_run job other apart = no_and (is_running job.status) (is_running other.status) apart.one_runs

pub apart_turn : (job other : PlainJob) → AreApart job other
    → (is_busy job.status && is_busy other.status && (job.turn == other.turn)) ≡ false
apart_turn job other apart =
    no_and (is_busy job.status && is_busy other.status) (job.turn == other.turn) (λ both.
    let busy = and_parts (is_busy job.status) (is_busy other.status) both in
    differ (job.turn == other.turn) refl (apart.turns_differ busy.0 busy.1))
  where
    differ : (b : Bool) → (job.turn == other.turn) ≡ b → job.turn ≢ other.turn → b ≡ false
    differ true same apart = absurd (apart (turns_equal job.turn other.turn same))
    differ false same apart = refl

pub runs_told : (job other : PlainJob) (run : Bool) → run ≡ (is_running job.status && is_running other.status) → run ≡ true
    → IsTrue false ↔ AreApart job other
runs_told job other run is run_true = (
  λ e. absurd (true≢false (sym e)),
  λ a. absurd (true≢false (sym run_true ∙ (is ∙ apart_run job other a))),
)

pub turn_told : (job other : PlainJob) (run turn : Bool) → run ≡ (is_running job.status && is_running other.status) → run ≡ false
    → turn ≡ (is_busy job.status && is_busy other.status && (job.turn == other.turn)) → IsTrue (not turn) ↔ AreApart job other
turn_told job other run turn run_is none is = (
  λ t. apart_is job other (sym run_is ∙ none) (sym is ∙ not-true turn t),
  λ a. ap not (is ∙ apart_turn job other a),
)

-- ---- lists as they are seen

pub any_shown : {X Y : Type 0} (test : Y → Bool) (show : X → Y) (xs : List X)
    → list_any test (map show xs) ≡ list_any (λ x. test (show x)) xs
any_shown test show [] = refl
any_shown test show (x ∷ xs) = ap (λ b. test (show x) || b) (any_shown test show xs)

pub any_id : (id : List ℕ) (xs : List StoredProcess)
    → list_any (same_name id) (stored_ids (map plain_stored xs)) ≡ list_any (λ (p : StoredProcess). same_name id p.id) xs
any_id id [] = refl
any_id id (x ∷ xs) = ap (λ b. same_name id x.id || b) (any_id id xs)
