-- The things that requests name, in a valid book.
use Rattle.std.proofs.Common.{◌≡◌, inl, inr, ℕ, zero, suc, ◌<◌, Bool, false, List, [], ◌∷◌, length, map, drop, get_or, true, Option, Some, None, Result, Ok, Err, refl, sym, ap, ◌∙◌, subst, arith}
use Rattle.std.specs.Prelude.{IsSome, find, unwrap_or}
use Rattle.std.specs.List.{slice_get, AllByRecursion}
use Rattle.std.proofs.lemmas.Bool.{cases_Bool}
use Rattle.std.proofs.lemmas.List.{length-map}
use Rattle.std.proofs.lemmas.Option.{same_Some}
use Rattle.serde_json.specs.Data.{Data, null}
use Rattle.serde_json.specs.Written.{has_float}
use Rattle.oe_graph.specs.Read.{Reads}
use Rattle.oe_graph.specs.Tree.{PlainGraph}
use Rattle.oe_jobs.specs.Plain.{PlainBook, PlainJob, plain_job}
use Rattle.oe_jobs.specs.Valid.{IsBook, IsJob, IsProcessText}
use Rattle.oe_jobs.specs.Verdicts.{is_found, job_of}
use Rattle.oe_jobs.specs.declared.job.Asset.{Asset}
use Rattle.oe_jobs.specs.declared.job.Job.{Job}
use Rattle.oe_replies.specs.Jobs.{process_data}
use Rattle.oe_replies.specs.declared.code.ReplyCode.{ReplyCode}
use Rattle.oe_routes.specs.Actions.{send_asset, text_at}
use Rattle.oe_routes.specs.Answers.{found_or, graph_of_text, has_asset_name, named_asset, named_job}
use Rattle.oe_routes.specs.Forms.{graph_in}
use Rattle.oe_routes.specs.Rejections.{Rejected, as_some, ◌>>=◌}
use Rattle.oe_routes.proofs.FoundLemmas.{graph_is}

-- what a search finds is of the kind that all are of
pub of_all : {X : Type 0} (P : X → Type 0) (test : X → Bool) (xs : List X) (x : X) → find test xs ≡ Some x
    → AllByRecursion P xs → P x
of_all P test [] x e all = absurd cc
of_all P test (a ∷ xs) x e all =
    elim (cases_Bool (test a)) [
      | inl t ↦ let here : Some a ≡ Some x = rw t at e in subst P (same_Some _ _ here) all.0
      | inr f ↦ of_all P test xs x (rw f at e) all.1
    ]

pub found_is : {A : Type 0} (missing : ReplyCode) (o : Option A) (x : A) → found_or missing o ≡ Ok x → o ≡ Some x
found_is missing None x e = absurd cc
found_is missing (Some y) x e = let same : y ≡ x = cc in ap Some same

-- ---- the process of a job

pub job_process : (book : PlainBook) (user id : List ℕ) (job : PlainJob) → IsBook book → named_job book user id ≡ Ok job
    → IsProcessText job.process
job_process book user id job valid named =
    (of_all (IsJob book.next) (is_found user id) book.jobs job (found_is _ (job_of user id book) job named) valid.jobs).process

text_whole : (text : List ℕ) → IsProcessText text → has_float (process_data text) ≡ false
text_whole text is = ap (λ (o : Option Data). has_float (unwrap_or o null)) is.is_read.value ∙ is.whole

pub job_whole : (book : PlainBook) (user id : List ℕ) (job : PlainJob) → IsBook book → named_job book user id ≡ Ok job
    → has_float (process_data job.process) ≡ false
job_whole book user id job valid named = text_whole job.process (job_process book user id job valid named)

pub text_graph : (text : List ℕ) (g : PlainGraph) → Reads text g → g ≡ graph_of_text text
text_graph text g is =
    graph_is is.value g is.is_graph ∙ ap (λ (o : Option Data). graph_in (unwrap_or o null)) (sym is.is_read.value)

-- ---- a job and an asset by their indices

placed_by : (missing : ReplyCode) (jobs : List PlainJob) (index : ℕ) (o : Option PlainJob) (d : PlainJob)
    → slice_get jobs index ≡ Some d → slice_get jobs index ≡ o
    → as_some (found_or missing o) ≡ Ok (slice_get jobs index)
placed_by missing jobs index None d there same = let none : Some d ≡ None = sym there ∙ same in absurd cc
placed_by missing jobs index (Some job) d there same = ap Ok (sym same)

there_is : {X : Type 0} (xs : List X) (index : ℕ) → index < length xs → (x : X) × (slice_get xs index ≡ Some x)
there_is [] index h = absurd (omega (arith, h))
there_is (x ∷ xs) zero h = (x, refl)
there_is (x ∷ xs) (suc index) h = there_is xs index (omega (arith, h))

pub job_placed : (missing : ReplyCode) (jobs : List Job) (index : ℕ) (o : Option PlainJob) → index < length jobs
    → slice_get (map plain_job jobs) index ≡ o
    → as_some (found_or missing o) ≡ Ok (slice_get (map plain_job jobs) index)
job_placed missing jobs index o within same =
    let found = there_is (map plain_job jobs) index (subst (λ (n : ℕ). index < n) (sym (length-map jobs plain_job)) within) in
    placed_by missing (map plain_job jobs) index o found.0 found.1 same

one_more : {A : Type 0} (step : Result A Rejected) (x : A) (o : Option A) → step ≡ Ok x
    → as_some step ≡ Ok o → o ≡ Some x
one_more step x o is next = let both : Ok (Some x) ≡ Ok o = rw is at next in cc

by_asset : (step : Result Asset Rejected) (book : PlainBook) (place index : ℕ) (job : PlainJob)
    → slice_get book.jobs place ≡ Some job → as_some step ≡ Ok (slice_get job.assets index)
    → (step >>= λ asset. Ok (send_asset (Some asset.text))) ≡ Ok (send_asset (text_at book place index))
by_asset (Err rejected) book place index job placed found = absurd cc
by_asset (Ok asset) book place index job placed found =
    let there : slice_get job.assets index ≡ Some asset = cc in
    rw (placed, there) refl

-- the text that is sent is that of the asset
pub sent_text : (book : PlainBook) (user id name : List ℕ) (job : PlainJob) (place index : ℕ) → named_job book user id ≡ Ok job
    → as_some (named_job book user id) ≡ Ok (slice_get book.jobs place)
    → as_some (named_asset job.assets name) ≡ Ok (slice_get job.assets index)
    → (named_asset job.assets name >>= λ asset. Ok (send_asset (Some asset.text)))
    ≡ Ok (send_asset (text_at book place index))
sent_text book user id name job place index named placed found =
    by_asset (named_asset job.assets name) book place index job
    (one_more (named_job book user id) job (slice_get book.jobs place) named placed) found

asset_there : (step : Result Asset Rejected) (book : PlainBook) (place index : ℕ) (job : PlainJob)
    → slice_get book.jobs place ≡ Some job → as_some step ≡ Ok (slice_get job.assets index)
    → IsSome (text_at book place index)
asset_there (Err rejected) book place index job placed found = absurd cc
asset_there (Ok asset) book place index job placed found =
    let there : slice_get job.assets index ≡ Some asset = cc in
    rw (placed, there) refl

pub text_there : (book : PlainBook) (user id name : List ℕ) (job : PlainJob) (place index : ℕ) → named_job book user id ≡ Ok job
    → as_some (named_job book user id) ≡ Ok (slice_get book.jobs place)
    → as_some (named_asset job.assets name) ≡ Ok (slice_get job.assets index)
    → IsSome (text_at book place index)
text_there book user id name job place index named placed found =
    asset_there (named_asset job.assets name) book place index job
    (one_more (named_job book user id) job (slice_get book.jobs place) named placed) found

-- ---- the first that passes, by its index

found_at : {X : Type 0} (test : X → Bool) (xs : List X) (index : ℕ) (d : X) → index < length xs
    → test (get_or xs index d) ≡ true → find test (drop index xs) ≡ slice_get xs index
found_at test [] index d within passes = absurd (omega (arith, within))
found_at test (x ∷ xs) zero d within passes = rw passes refl
found_at test (x ∷ xs) (suc index) d within passes = found_at test xs index d (omega (arith, within)) passes

pub asset_at : (name : List ℕ) (assets : List Asset) (index : ℕ) (d : Asset)
    → find (has_asset_name name) assets ≡ find (has_asset_name name) (drop index assets) → index < length assets
    → has_asset_name name (get_or assets index d) ≡ true → as_some (named_asset assets name) ≡ Ok (slice_get assets index)
asset_at name assets index d first within passes =
    let here : find (has_asset_name name) assets ≡ slice_get assets index =
    first ∙ found_at (has_asset_name name) assets index d within passes in
    let found = there_is assets index within in
    rw (here, found.1) refl
