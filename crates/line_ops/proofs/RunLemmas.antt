-- One more arc of a path: the run goes on with it, or ends before it.
use Rattle.std.proofs.Common.{◌≡◌, sym, ap, ◌∙◌, ℕ, ◌+◌, ◌<◌, Bool, true, false, cond, List, [], ◌∷◌, ◌++◌, length, get_or, take, drop, All, append_assoc}
use Rattle.std.specs.List.{flat_map}
use Rattle.std.proofs.lemmas.List.{drop_more, flat_map_more as one_more, take_more}
use Rattle.std.proofs.lemmas.List.Elements.{All-nil, All-cons, All-head, All-tail, All-push, All-append}
use Rattle.line_ops.specs.Runs.{ended, runs_after, runs_where}

module _ {A : Type 0} (test : A → Bool) (xs begun : List A) (runs : List (List A)) (i : ℕ) (a d : A) (within : i < length xs) (is : a ≡ get_or xs i d) where
  pub run_goes_on : test a ≡ true → runs ++ runs_after test (begun ++ a ∷ []) (drop (i + 1) xs) ≡ runs ++ runs_after test begun (drop i xs)
  run_goes_on e =
      ap (λ (rs : List (List A)). runs ++ rs)
      ((λ j. cond (sym e j) (runs_after test (begun ++ a ∷ []) (drop (i + 1) xs)) (ended begun ++ runs_after test [] (drop (i + 1) xs)))
      ∙ ap (runs_after test begun) (sym (drop_more xs i d within ∙ ap (λ (b : A). b ∷ drop (i + 1) xs) (sym is))))

  pub run_ends : test a ≡ false → (runs ++ ended begun) ++ runs_after test [] (drop (i + 1) xs) ≡ runs ++ runs_after test begun (drop i xs)
  run_ends e =
      append_assoc runs (ended begun) (runs_after test [] (drop (i + 1) xs))
      ∙ ap (λ (rs : List (List A)). runs ++ rs)
      ((λ j. cond (sym e j) (runs_after test (begun ++ a ∷ []) (drop (i + 1) xs)) (ended begun ++ runs_after test [] (drop (i + 1) xs)))
      ∙ ap (runs_after test begun) (sym (drop_more xs i d within ∙ ap (λ (b : A). b ∷ drop (i + 1) xs) (sym is))))

-- ---- what holds of each element holds within runs

ended_kept : {A : Type 0} (P : A → Type 0) (begun : List A) → All P begun → All (All P) (ended begun)
ended_kept P [] h = All-nil (All P)
ended_kept P (x ∷ xs) h = All-cons (All P) (x ∷ xs) [] h (All-nil (All P))

either : {B : Type 0} (Q : B → Type 0) (b : Bool) (y z : B) → Q y → Q z → Q (cond b y z)
either Q true y z p q = p
either Q false y z p q = q

runs_kept : {A : Type 0} (P : A → Type 0) (test : A → Bool) (begun xs : List A) → All P begun → All P xs → All (All P) (runs_after test begun xs)
runs_kept P test begun [] g h = ended_kept P begun g
runs_kept P test begun (x ∷ xs) g h =
    let rest = All-tail P x xs h in
    either (All (All P)) (test x) (runs_after test (begun ++ x ∷ []) xs) (ended begun ++ runs_after test [] xs)
    (runs_kept P test (begun ++ x ∷ []) xs (All-push P begun x g (All-head P x xs h)) rest)
    (All-append (All P) (ended begun) (runs_after test [] xs) (ended_kept P begun g) (runs_kept P test [] xs (All-nil P) rest))

pub all_runs : {A : Type 0} (P : A → Type 0) (test : A → Bool) (paths : List (List A)) → All (All P) paths → All (All P) (flat_map (runs_where test) paths)
all_runs P test [] h = All-nil (All P)
all_runs P test (path ∷ paths) h =
    All-append (All P) (runs_where test path) (flat_map (runs_where test) paths) (runs_kept P test [] path (All-nil P) (All-head (All P) path paths h)) (all_runs P test paths (All-tail (All P) path paths h))

pub flat_map_more : {A B : Type 0} (f : A → List B) (xs : List A) (i : ℕ) (x d : A) → i < length xs → x ≡ get_or xs i d → flat_map f (take (i + 1) xs) ≡ flat_map f (take i xs) ++ f x
flat_map_more {A} f xs i x d within is = ap (flat_map f) (take_more xs i d within ∙ ap (λ (y : A). take i xs ++ y ∷ []) (sym is)) ∙ sym (one_more f [] (take i xs) x)
