-- Paths, one step after another: their links and darts, points that differ, and the turn at the least vertex.
use Rattle.std.proofs.Common.{◌≡◌, ◌≢◌, suc, refl, sym, ap, subst, ◌∙◌, arith, Bool, true, false, cond, List, [], ◌∷◌, ◌++◌, map}
use Rattle.std.specs.Prelude.{All, AllPairs, if◌then◌else◌}
use Rattle.std.proofs.lemmas.List.{map-append}
use Rattle.std.proofs.lemmas.List.Elements.{All-head, All-tail}
use Rattle.std.proofs.lemmas.List.Kept.{AllPairs-cons}
use Rattle.lists.specs.Lists.{least_of}
use Rattle.plane_model.specs.Points.{GridPoint, Segment, Path, at, turn, same_point, is_before, same_segment, link_between}
use Rattle.plane_model.specs.Arrangement.{IsBefore}
use Rattle.plane_model.specs.Drawing.{steps, steps_of_paths}
use Rattle.plane_model.specs.Parity.{odd_count, links_of_paths}
use Rattle.plane_model.specs.Joined.{IsClosed}
use Rattle.plane_model.specs.Rotation.{Dart}
use Rattle.plane_model.specs.Rings.{turn_at, turn_at_least}
use Rattle.plane_model.proofs.PointOrder.{before_to}
use Rattle.plane_parity.proofs.Determinant.{turn-rotate}
use Rattle.plane_parity.proofs.Telescope.{same_point-self, same_point-true}
use Rattle.plane_faces.specs.Rings.{IsRing, links_of_path, dart_of_step, darts_of_path, darts_of_paths, ring_by}
use Rattle.plane_faces.proofs.Order.{before_not_itself}

-- ---- links and darts

abbrev pub between : GridPoint → GridPoint → Segment
between p q = link_between (record { start = p; stop = q })

abbrev pub dart_between : GridPoint → GridPoint → Dart
dart_between p q = dart_of_step (record { start = p; stop = q })

-- of the path that goes on from p
abbrev pub links_from : GridPoint → Path → List Segment
links_from p run = links_of_path (p ∷ run)

abbrev pub darts_from : GridPoint → Path → List Dart
darts_from p run = darts_of_path (p ∷ run)

-- of several paths, path by path
abbrev pub links_of_runs : List Path → List Segment
links_of_runs [] = []
links_of_runs (run ∷ runs) = links_of_path run ++ links_of_runs runs

abbrev pub darts_of_runs : List Path → List Dart
darts_of_runs [] = []
darts_of_runs (run ∷ runs) = darts_of_path run ++ darts_of_runs runs

pub links_are : (runs : List Path) → links_of_runs runs ≡ links_of_paths runs
links_are [] = refl
links_are (run ∷ runs) = ap (λ (ls : List Segment). links_of_path run ++ ls) (links_are runs) ∙ sym (map-append link_between (steps run) (steps_of_paths runs))

pub darts_are : (runs : List Path) → darts_of_runs runs ≡ darts_of_paths runs
darts_are [] = refl
darts_are (run ∷ runs) = ap (λ (ds : List Dart). darts_of_path run ++ ds) (darts_are runs) ∙ sym (map-append dart_of_step (steps run) (steps_of_paths runs))

-- the path goes along the link a an odd number of times
abbrev pub passes : Segment → Path → Bool
passes a run = odd_count (same_segment a) (links_of_path run)

-- the links of darts
pub all_links : (xs : List Segment) → map (λ (d : Dart). d.link) (map dart_of_step xs) ≡ map link_between xs
all_links [] = refl
all_links (s ∷ xs) = ap (λ (ls : List Segment). link_between s ∷ ls) (all_links xs)

-- ---- points that differ

abbrev pub AreDifferent : List GridPoint → Type 0
AreDifferent [] = Unit {0}
AreDifferent (p ∷ ps) = All (λ q. q ≡ p → ⊥) ps × AreDifferent ps

pub pairs_differ : (ps : List GridPoint) → AreDifferent ps → AllPairs (λ (p q : GridPoint). p ≢ q) ps
pairs_differ [] h = λ i j d lt within. absurd (omega arith)
pairs_differ (p ∷ ps) h = AllPairs-cons (λ (p q : GridPoint). p ≢ q) p ps (λ k d within e. h.0 k d within (sym e)) (pairs_differ ps h.1)

pub differ_pairwise : (ps : List GridPoint) → AllPairs (λ (p q : GridPoint). p ≢ q) ps → AreDifferent ps
differ_pairwise [] h = tt
differ_pairwise (p ∷ ps) h = (
  λ k d within e. h 0 (suc k) d (omega arith) (omega arith) (sym e),
  differ_pairwise ps (λ i j d lt within. h (suc i) (suc j) d (omega arith) (omega arith)),
)

pub ring_closed : (ring : Path) → IsRing ring → IsClosed ring
ring_closed [] h = absurd h
ring_closed (p ∷ []) h = absurd h
ring_closed (p ∷ q ∷ rest) h = h.0

-- ---- the turn at the least vertex, where a closed path starts and ends there

module _ (p r q : GridPoint) (hr : IsBefore p r) (hq : IsBefore p q) where
  lesser : (m x : GridPoint) → m ≡ p → IsBefore p x → (if is_before m x then m else x) ≡ p
  lesser m x e h = ap (λ (n : GridPoint). if is_before n x then n else x) e ∙ ap (λ (b : Bool). if b then p else x) (before_to p x h)

  least_is : (d x : GridPoint) (xs : List GridPoint) → IsBefore p x → All (IsBefore p) xs → least_of is_before d (x ∷ (xs ++ (q ∷ (p ∷ [])))) ≡ p
  least_is d x [] hx h = lesser (least_of is_before d (q ∷ (p ∷ []))) x (lesser p q refl hq) hx
  least_is d x (y ∷ ys) hx h = lesser (least_of is_before d (y ∷ (ys ++ (q ∷ (p ∷ []))))) x (least_is d y ys (All-head (IsBefore p) y ys h) (All-tail (IsBefore p) y ys h)) hx

  not_least : (x : GridPoint) → IsBefore p x → same_point x p ≡ false
  not_least x h = go (same_point x p) refl
    where
      go : (b : Bool) → same_point x p ≡ b → b ≡ false
      go true e = absurd (before_not_itself x (subst (λ (z : GridPoint). IsBefore z x) (same_point-true x p e) h))
      go false e = refl

  turn_is : (a x : GridPoint) (xs : List GridPoint) → IsBefore p x → All (IsBefore p) xs → turn_at p (a ∷ (x ∷ ((xs ++ (q ∷ (p ∷ []))) ++ (r ∷ [])))) ≡ turn (at q) (at p) (at r)
  turn_is a x [] hx h =
      ap (λ (b : Bool). cond b (turn (at a) (at x) (at q)) (turn_at p (x ∷ (q ∷ (p ∷ (r ∷ [])))))) (not_least x hx)
      ∙ ap (λ (b : Bool). cond b (turn (at x) (at q) (at p)) (turn_at p (q ∷ (p ∷ (r ∷ []))))) (not_least q hq)
      ∙ ap (λ (b : Bool). cond b (turn (at q) (at p) (at r)) (turn_at p (p ∷ (r ∷ [])))) (same_point-self p)
  turn_is a x (y ∷ ys) hx h =
      ap (λ (b : Bool). cond b (turn (at a) (at x) (at y)) (turn_at p (x ∷ (y ∷ ((ys ++ (q ∷ (p ∷ []))) ++ (r ∷ [])))))) (not_least x hx)
      ∙ turn_is x y ys (All-head (IsBefore p) y ys h) (All-tail (IsBefore p) y ys h)

  pub turn_by_ends : (ps : List GridPoint) → All (IsBefore p) ps → turn_at_least (ring_by p r ps q) ≡ turn (at p) (at r) (at q)
  turn_by_ends ps h =
      ap (λ (least : GridPoint). turn_at least (ring_by p r ps q ++ (r ∷ []))) (least_is p r ps hr h)
      ∙ turn_is p r ps hr h ∙ turn-rotate (at q) (at p) (at r)
