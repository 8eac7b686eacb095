-- Runs of steps, as paths of points: those that the model of regions cuts a path into.
use Rattle.std.proofs.Common.{◌≡◌, refl, ap, ◌∙◌, arith, ◌<◌, Bool, true, false, cond, List, [], ◌∷◌, ◌++◌, map, length, Contains, append_assoc}
use Rattle.std.proofs.lemmas.List.{length-append, map-append}
use Rattle.lists.proofs.Members.{Contains-head, Contains-later}
use Rattle.plane_model.specs.Points.{GridPoint, Segment, Path}
use Rattle.plane_model.specs.Drawing.{steps}
use Rattle.line_ops.specs.Runs.{ended, runs_after, runs_where}
use Rattle.region_model.specs.LineCommands as model
use Rattle.region_model.specs.LineCommands.{first_passes, put_step}
use Rattle.line_laws.proofs.RunPieces.{ended_some}

-- ---- paths by their steps

-- the path along some steps
abbrev pub path_along : List Segment → Path
path_along [] = []
path_along (s ∷ ss) = s.start ∷ map (λ (t : Segment). t.stop) (s ∷ ss)

stops : (p : GridPoint) (rest : Path) → map (λ (t : Segment). t.stop) (steps (p ∷ rest)) ≡ rest
stops p [] = refl
stops p (q ∷ rest) = ap (λ (ps : Path). q ∷ ps) (stops q rest)

pub path_is_along : (path : Path) → 1 < length path → path_along (steps path) ≡ path
path_is_along [] l = absurd (omega arith)
path_is_along (p ∷ []) l = absurd (omega arith)
path_is_along (p ∷ q ∷ rest) l = ap (λ (ps : Path). p ∷ ps) (stops p (q ∷ rest))

-- one more step
path_grows : (begun : List Segment) (s : Segment) → 0 < length begun → path_along (begun ++ s ∷ []) ≡ path_along begun ++ s.stop ∷ []
path_grows [] s l = absurd (omega arith)
path_grows (t ∷ ts) s l = ap (λ (ps : Path). t.start ∷ ps) (map-append (λ (u : Segment). u.stop) (t ∷ ts) (s ∷ []))

-- ---- runs

-- a run up to q, before the runs of a path from q on: it is the beginning of their first, or it has ended
abbrev carried : Bool → Path → GridPoint → List Path → List Path
carried false before q runs = (before ++ q ∷ []) ∷ runs
carried true before q [] = (before ++ q ∷ []) ∷ []
carried true before q (run ∷ runs) = (before ++ run) ∷ runs

put_carried : (b : Bool) (before : Path) (q r : GridPoint) (runs : List Path) → carried b (before ++ q ∷ []) r runs ≡ carried true before q (put_step b q r runs)
put_carried false before q r runs = ap (λ (path : Path). path ∷ runs) (append_assoc before (q ∷ []) (r ∷ []))
put_carried true before q r [] = ap (λ (path : Path). path ∷ []) (append_assoc before (q ∷ []) (r ∷ []))
put_carried true before q r (run ∷ runs) = ap (λ (path : Path). path ∷ runs) (append_assoc before (q ∷ []) run)

put_first : (b : Bool) (q r : GridPoint) (runs : List Path) → carried b (q ∷ []) r runs ≡ put_step b q r runs
put_first false q r runs = refl
put_first true q r [] = refl
put_first true q r (run ∷ runs) = refl

module _ (test : Segment → Bool) where
  -- the runs of the steps from q on, afresh and after a run that ends at q
  record AreRuns (q : GridPoint) (rest : Path) : Type 0 where
    afresh : map path_along (runs_after test [] (steps (q ∷ rest))) ≡ model.runs_where test (q ∷ rest)
    past : (before : Path) (begun : List Segment) → 0 < length begun → path_along begun ≡ before ++ q ∷ [] →
        map path_along (runs_after test begun (steps (q ∷ rest))) ≡ carried (first_passes test (q ∷ rest)) before q (model.runs_where test (q ∷ rest))

  one_run : (before : Path) (q : GridPoint) (begun : List Segment) → 0 < length begun → path_along begun ≡ before ++ q ∷ [] → map path_along (ended begun) ≡ (before ++ q ∷ []) ∷ []
  one_run before q begun some is = ap (λ (runs : List (List Segment)). map path_along runs) (ended_some begun some) ∙ ap (λ (path : Path). path ∷ []) is

  module _ (q r : GridPoint) (rest : Path) (next : AreRuns r rest) where
    abbrev first : Segment
    first = record { start = q; stop = r }

    abbrev later : List Segment
    later = steps (r ∷ rest)

    abbrev goes_on : Bool
    goes_on = first_passes test (r ∷ rest)

    abbrev runs : List Path
    runs = model.runs_where test (r ∷ rest)

    fresh : (b : Bool) → map path_along (cond b (runs_after test (first ∷ []) later) (runs_after test [] later)) ≡ cond b (put_step goes_on q r runs) runs
    fresh true = next.past (q ∷ []) (first ∷ []) (omega arith) refl ∙ put_first goes_on q r runs
    fresh false = next.afresh

    grown : (before : Path) (begun : List Segment) → 0 < length begun → path_along begun ≡ before ++ q ∷ [] → (b : Bool) →
        map path_along (cond b (runs_after test (begun ++ first ∷ []) later) (ended begun ++ runs_after test [] later)) ≡ carried b before q (cond b (put_step goes_on q r runs) runs)
    grown before begun some is true =
        let size = length-append begun (first ∷ []) in
        next.past (before ++ q ∷ []) (begun ++ first ∷ []) (omega arith) (path_grows begun first some ∙ ap (λ (path : Path). path ++ r ∷ []) is)
        ∙ put_carried goes_on before q r runs
    grown before begun some is false = map-append path_along (ended begun) (runs_after test [] later) ∙ (λ i. one_run before q begun some is i ++ next.afresh i)

    one_more : AreRuns q (r ∷ rest)
    one_more = record { afresh = fresh (test first); past = λ before begun some is. grown before begun some is (test first) }

  are_runs : (q : GridPoint) (rest : Path) → AreRuns q rest
  are_runs q [] = record { afresh = refl; past = λ before begun some is. one_run before q begun some is }
  are_runs q (r ∷ rest) = one_more q r rest (are_runs r rest)

  pub runs_of_points : (path : Path) → map path_along (runs_where test (steps path)) ≡ model.runs_where test path
  runs_of_points [] = refl
  runs_of_points (q ∷ rest) = (are_runs q rest).afresh

-- tests that agree on the elements cut them into the same runs
pub runs_alike : {A : Type 0} (f g : A → Bool) (xs begun : List A) → ((x : A) → Contains xs x → f x ≡ g x) → runs_after f begun xs ≡ runs_after g begun xs
runs_alike f g [] begun same = refl
runs_alike f g (x ∷ xs) begun same =
    λ i. cond (same x (Contains-head x xs) i) (runs_alike f g xs (begun ++ x ∷ []) (λ y c. same y (Contains-later x xs y c)) i) (ended begun ++ runs_alike f g xs [] (λ y c. same y (Contains-later x xs y c)) i)
