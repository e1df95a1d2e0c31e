-- Lists that are made one by one: statements, and what is read from rows.
use Rattle.std.proofs.Common.{◌≡◌, ◌∙◌, ◌+◌, ℕ, List, [], ◌∷◌, ◌++◌, ◌<◌, ap, arith, get_or, length, map, refl, subst, sym, take}
use Rattle.std.proofs.lemmas.List.{map-append, take_more}
use Rattle.oe_jobs.specs.declared.job.Asset.{Asset}
use Rattle.oe_jobs.specs.Plain.{PlainJob}
use Rattle.oe_jobs.specs.Texts.{NamesNumber}
use Rattle.sqlite.specs.Held.{Held}
use Rattle.sqlite.specs.Store.{Ghosts}
use Rattle.sqlite_value.specs.Order.{Row}
use Rattle.oe_database.specs.Each.{PlainStatement}
use Rattle.oe_database.specs.Loads.{AreEach, AreEntries, HasEachJob, HasJob}
use Rattle.oe_database.specs.Statements.{adds_asset, entry_of, number_bytes, puts_entry, puts_job}

-- two are pushed, then a run of them, and then one more
pub four_parts : {X Y : Type 0} (f : X → Y) (w1 w2 w3 w4 w5 : List X) (a b d : X) (run : List Y) (fa fb fd : Y) → w1 ≡ []
    → w2 ≡ w1 ++ a ∷ [] → w3 ≡ w2 ++ b ∷ [] → map f w4 ≡ map f w3 ++ run → w5 ≡ w4 ++ d ∷ []
    → f a ≡ fa → f b ≡ fb → f d ≡ fd → map f w5 ≡ fa ∷ fb ∷ run ++ fd ∷ []
four_parts f w1 w2 w3 w4 w5 a b d run fa fb fd one two three four five ha hb hd =
    ap (map f) five ∙ (map-append f w4 (d ∷ [])
    ∙ (ap (λ ys. ys ++ f d ∷ []) (four ∙ ap (λ xs. map f xs ++ run) (three ∙ ap (λ xs. xs ++ b ∷ []) (two ∙ ap (λ xs. xs ++ a ∷ []) one)))
    ∙ (ap (λ y. y ∷ f b ∷ run ++ f d ∷ []) ha ∙ (ap (λ y. fa ∷ y ∷ run ++ f d ∷ []) hb ∙ ap (λ y. fa ∷ fb ∷ run ++ y ∷ []) hd))))

-- statements of equal parts
pub same_puts : (n1 n2 e1 e2 : List ℕ) (a1 a2 : List Asset) (x1 x2 : List ℕ) → n1 ≡ n2 → e1 ≡ e2 → a1 ≡ a2 → x1 ≡ x2
    → puts_job n1 e1 a1 x1 ≡ puts_job n2 e2 a2 x2
same_puts n1 n2 e1 e2 a1 a2 x1 x2 n e a x =
    ap (λ z. puts_job z e1 a1 x1) n ∙ (ap (λ z. puts_job n2 z a1 x1) e
    ∙ (ap (λ z. puts_job n2 e2 z x1) a ∙ ap (λ z. puts_job n2 e2 a2 z) x))

pub same_adds : (n1 n2 e1 e2 : List ℕ) (asset : Asset) → n1 ≡ n2 → e1 ≡ e2 → adds_asset n1 e1 asset ≡ adds_asset n2 e2 asset
same_adds n1 n2 e1 e2 asset n e = ap (λ z. adds_asset z e1 asset) n ∙ ap (λ z. adds_asset n2 z asset) e

-- ---- things that are read from rows in turn

-- one more row, and what it stands for
pub each_more : {A : Type 0} (Is : ℕ → Row → A → Type 0) (first : ℕ) (rows : List Row) (list : List A) (row : Row) (a : A)
    → AreEach Is first rows list → Is (first + length rows) row a → AreEach Is first (rows ++ row ∷ []) (list ++ a ∷ [])
each_more Is first [] [] row a each is = (subst (λ n. Is n row a) (omega arith) is, tt)
each_more Is first (r ∷ rows) (x ∷ list) row a (one, rest) is =
    (one, each_more Is (first + 1) rows list row a rest (subst (λ n. Is n row a) (omega arith) is))
each_more Is first [] (x ∷ list) row a each is = absurd each
each_more Is first (r ∷ rows) [] row a each is = absurd each

pub each_long : {A : Type 0} (Is : ℕ → Row → A → Type 0) (first : ℕ) (rows : List Row) (list : List A)
    → AreEach Is first rows list → length rows ≡ length list
each_long Is first [] [] each = refl
each_long Is first (r ∷ rows) (x ∷ list) (one, rest) = omega (arith, each_long Is (first + 1) rows list rest)
each_long Is first [] (x ∷ list) each = absurd each
each_long Is first (r ∷ rows) [] each = absurd each

-- the step of a loop over rows
pub each_next : {A : Type 0} (Is : ℕ → Row → A → Type 0) (xs : List Row) (i : ℕ) (x : Row) (list more : List A) (a : A)
    → i < length xs → x ≡ get_or xs i x → AreEach Is 0 (take i xs) list → more ≡ list ++ a ∷ [] → Is (length list) x a
    → AreEach Is 0 (take (i + 1) xs) more
each_next {A} Is xs i x list more a within found each is_more is =
    let long : length list ≡ 0 + length (take i xs) = omega (arith, each_long Is 0 (take i xs) list each) in
    let rows : take (i + 1) xs ≡ take i xs ++ x ∷ [] = take_more xs i x within ∙ ap (λ (y : Row). take i xs ++ y ∷ []) (sym found) in
    subst (λ (rs : List Row). AreEach Is 0 rs more) (sym rows)
    (subst (λ (ys : List A). AreEach Is 0 (take i xs ++ x ∷ []) ys) (sym is_more)
    (each_more Is 0 (take i xs) list x a each (subst (λ (n : ℕ). Is n x a) long is)))

pub same_entry : (n1 n2 e1 e2 : List ℕ) → n1 ≡ n2 → e1 ≡ e2 → puts_entry n1 e1 ≡ puts_entry n2 e2
same_entry n1 n2 e1 e2 n e = ap (λ z. puts_entry z e1) n ∙ ap (λ z. puts_entry n2 z) e

-- one more job, and the statement that writes its entry
pub entries_more : (jobs : List PlainJob) (statements : List PlainStatement) (job : PlainJob) (s : PlainStatement)
    → AreEntries jobs statements
    → (number : ℕ) × NamesNumber job.id number × (s ≡ puts_entry (number_bytes number) (entry_of job))
    → AreEntries (jobs ++ job ∷ []) (statements ++ s ∷ [])
entries_more [] [] job s are is = (is, tt)
entries_more (j ∷ jobs) (t ∷ statements) job s (one, rest) is = (one, entries_more jobs statements job s rest is)
entries_more [] (t ∷ statements) job s are is = absurd are
entries_more (j ∷ jobs) [] job s are is = absurd are

-- one more row, and the job that the database has of it
pub jobs_more : {S : Type 0} (g : Ghosts S) (rows : List Row) (jobs : List PlainJob) (row : Row) (job : PlainJob) (a b d : Held S)
    → HasEachJob g rows jobs a b → HasJob g row job b d → HasEachJob g (rows ++ row ∷ []) (jobs ++ job ∷ []) a d
jobs_more g [] [] row job a b d is has = (d, subst (λ h. HasJob g row job h d) is has, refl)
jobs_more g (r ∷ rows) (j ∷ jobs) row job a b d (mid, one, rest) has = (mid, one, jobs_more g rows jobs row job mid b d rest has)
jobs_more g [] (j ∷ jobs) row job a b d none has = absurd none
jobs_more g (r ∷ rows) [] row job a b d none has = absurd none
