-- The maximal runs of a list whose elements pass a test, in order.
use Rattle.std.specs.Prelude.{Bool, List, [], ◌∷◌, ◌++◌, if◌then◌else◌}

-- a run, where it is one
abbrev pub ended : {A : Type 0} → List A → List (List A)
ended [] = []
ended (x ∷ xs) = (x ∷ xs) ∷ []

-- the runs of a list, the first of which goes on with a run that has begun
abbrev pub runs_after : {A : Type 0} → (A → Bool) → List A → List A → List (List A)
runs_after test begun [] = ended begun
runs_after test begun (x ∷ xs) = if test x then runs_after test (begun ++ x ∷ []) xs else ended begun ++ runs_after test [] xs

abbrev pub runs_where : {A : Type 0} → (A → Bool) → List A → List (List A)
runs_where test xs = runs_after test [] xs
