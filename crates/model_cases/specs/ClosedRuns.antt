-- Closed runs, computed: each closed run of some links is a sum of these, so they alone tell which sides of links are
-- joined.
use Rattle.std.specs.Prelude.{ℕ, zero, suc, Bool, true, false, not, List, [], ◌∷◌, map, filter, fold, length}
use Rattle.std.specs.Bool.{beq}
use Rattle.std.specs.List.{flat_map}
use Rattle.lists.specs.Lists.{same_list}
use Rattle.plane_model.specs.Points.{GridPoint, Segment, Path, same_point}
use Rattle.plane_model.specs.Arcs.{joined_to}

-- the ways from p, where `came` was before it, to q along links of a forest, of at most n links: there is one at most
abbrev pub ways : List Segment → ℕ → GridPoint → GridPoint → GridPoint → List Path
ways forest zero came p q = []
ways forest (suc n) came p q = elim (same_point p q) [
  | true ↦ (q ∷ []) ∷ []
  | false ↦ map (λ (way : Path). p ∷ way) (flat_map (λ (r : GridPoint). ways forest n p r q) (filter (λ (r : GridPoint). not (same_point r came)) (joined_to forest p)))
]

-- links without a closed run, and the runs that other links close with them
pub record Forest : Type 0 where
  pub links : List Segment
  pub runs : List Path

-- a link between two vertices that are connected closes a run
abbrev pub with_link : Forest → Segment → Forest
with_link f l = elim (ways f.links (suc (length f.links)) l.start l.start l.stop) [
  | [] ↦ record f { links = l ∷ f.links }
  | way ∷ rest ↦ record f { runs = (l.stop ∷ way) ∷ f.runs }
]

abbrev pub closed_runs : List Segment → List Path
closed_runs links = (fold with_link (record { links = []; runs = [] }) links).runs

-- a side is seen by a test of closed paths: whether they hold it
abbrev pub Side : Type 0
Side = List Path → Bool

-- no run holds just one of the two sides
abbrev pub are_joined : List Path → Side → Side → Bool
are_joined runs a b = same_list beq (map (λ (run : Path). a (run ∷ [])) runs) (map (λ (run : Path). b (run ∷ [])) runs)
