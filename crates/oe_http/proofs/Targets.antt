-- The target that a path and a query are written as, and its parts.
use Rattle.std.proofs.Common.{◌≡◌, ◌≢◌, ℕ, ◌+◌, ◌<◌, false, ◌==◌, List, [], ◌∷◌, ◌++◌, length, get_or, refl, sym, ap, ◌∙◌, arith, take, drop, append-nil}
use Rattle.std.proofs.lemmas.List.{take_at, drop_at, take_all, drop_all, append_assoc, get_or_append_left, get_or_at, length_push}
use Rattle.std.proofs.lemmas.List.Sums.{position_or_len_is}
use Rattle.std.proofs.lemmas.Bool.Decides.{nat_tests}
use Rattle.std.proofs.lemmas.Grind.{common_steps}
use Rattle.std.specs.List.{before_first, after_first, position_or_len}
use Rattle.oe_http.specs.Requests.{question_mark}
use Rattle.oe_http.specs.Written.{mark_before}

-- no byte is a question mark
abbrev pub HasNoMark : List ℕ → Type 0
HasNoMark bytes = (i : ℕ) → i < length bytes → get_or bytes i 0 ≢ question_mark

-- the target of a path and a query
abbrev pub target_of : List ℕ → List ℕ → List ℕ
target_of path query = path ++ (mark_before query ++ query)

position_all : (bytes : List ℕ) → HasNoMark bytes → position_or_len (λ b. b == question_mark) bytes ≡ length bytes
position_all bytes none =
    position_or_len_is (λ b. b == question_mark) bytes (length bytes) 0 (omega arith)
    (λ k lt. let other = none k lt in grind (arith, nat_tests)) (λ lt. absurd (omega arith))

position_at : (bytes rest : List ℕ) → HasNoMark bytes → position_or_len (λ b. b == question_mark) (bytes ++ question_mark ∷ rest) ≡ length bytes
position_at bytes rest none =
    position_or_len_is (λ b. b == question_mark) (bytes ++ question_mark ∷ rest) (length bytes) 0 (grind (arith, common_steps))
    (λ k lt. let other = none k lt in rw get_or_append_left (grind (arith, nat_tests)))
    (λ _. rw (get_or_at bytes question_mark rest 0 (length bytes) refl) refl)

-- the mark before a query that is not empty
mark_is : (b : ℕ) (query : List ℕ) → mark_before (b ∷ query) ≡ question_mark ∷ []
mark_is b query = let some : (length (b ∷ query) == 0) ≡ false = grind (arith, nat_tests) in rw some refl

target_is : (path : List ℕ) (b : ℕ) (query : List ℕ) → target_of path (b ∷ query) ≡ path ++ question_mark ∷ b ∷ query
target_is path b query = ap (λ mark. path ++ (mark ++ b ∷ query)) (mark_is b query)

-- the path stands before its first question mark
pub path_of_target : (path query : List ℕ) → HasNoMark path → before_first (λ b. b == question_mark) (target_of path query) ≡ path
path_of_target path [] none =
    ap (before_first (λ b. b == question_mark)) (append-nil path)
    ∙ ap (λ n. take n path) (position_all path none) ∙ take_all (length path) path (omega arith)
path_of_target path (b ∷ query) none =
    ap (before_first (λ b. b == question_mark)) (target_is path b query)
    ∙ ap (λ n. take n (path ++ question_mark ∷ b ∷ query)) (position_at path (b ∷ query) none)
    ∙ take_at path (question_mark ∷ b ∷ query) (length path) refl

-- and the query behind it
pub query_of_target : (path query : List ℕ) → HasNoMark path → after_first (λ b. b == question_mark) (target_of path query) ≡ query
query_of_target path [] none =
    ap (after_first (λ b. b == question_mark)) (append-nil path)
    ∙ ap (λ n. drop (n + 1) path) (position_all path none) ∙ drop_all (length path + 1) path (omega arith)
query_of_target path (b ∷ query) none =
    ap (after_first (λ b. b == question_mark)) (target_is path b query)
    ∙ ap (λ n. drop (n + 1) (path ++ question_mark ∷ b ∷ query)) (position_at path (b ∷ query) none)
    ∙ ap (drop (length path + 1)) (sym (append_assoc path (question_mark ∷ []) (b ∷ query)))
    ∙ drop_at (path ++ question_mark ∷ []) (b ∷ query) (length path + 1) (length_push path question_mark)
