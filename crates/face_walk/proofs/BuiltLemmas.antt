-- Faces are built by joins of places that are there.
use Rattle.std.proofs.Common.{◌≡◌, refl, sym, ◌∙◌, subst, arith, ℕ, zero, suc, ◌+◌, ◌*◌, ◌<◌, ◌≤◌, Bool, true, false, cond, not, ◌&&◌, nat_lt, List, [], ◌∷◌, ◌++◌, length, get_or, All, Option, Some, None}
use Rattle.std.proofs.lemmas.Bool.{ltb-true}
use Rattle.std.proofs.lemmas.List.Elements.{All-nil, All-cons, All-append, All-contains}
use Rattle.plane_model.specs.Points.{GridPoint, Path, same_point}
use Rattle.plane_model.specs.Arcs.{SignedArc, forward}
use Rattle.arc_table.specs.Direction.{point_at}
use Rattle.arc_table.specs.Around.{IsTurned}
use Rattle.face_walk.specs.Joining.{AreAlone}
use Rattle.face_walk.specs.Joins.{joined_by}
use Rattle.face_walk.specs.Numbering.{IsNumbering}
use Rattle.link_search.specs.PlaceNumbers.{place_of, HasPlaces}
use Rattle.face_walk.specs.Places.{HasJoins}
use Rattle.face_walk.specs.Sectors.{arc_at, first_in_row, next_in_row, place_right_of, sector_after, sectors_below, sectors}
use Rattle.face_walk.specs.Rays.{IsRay, AreRays, IsTopmostBelow, place_met}
use Rattle.link_search.specs.declared.links.ArcLink.{ArcLink}
use Rattle.face_walk.proofs.JoinLemmas.{IsPairBelow, joined_append, numbers_are_joined}
use Rattle.face_walk.proofs.SectorLemmas.{first_within}

-- ---- sectors and rays join places that are there

sectors_within : (n : ℕ) (starts : List GridPoint) (outs : List SignedArc) → length starts ≡ length outs → All (HasPlaces n) outs → (k : ℕ) → k ≤ length outs → All (IsPairBelow n) (sectors_below starts outs k)
sectors_within n starts outs e h zero l = All-nil (IsPairBelow n)
sectors_within n starts outs e h (suc k) l =
    All-append (IsPairBelow n) (sectors_below starts outs k) (sector_after starts outs k ∷ []) (sectors_within n starts outs e h k (omega arith))
    (All-cons (IsPairBelow n) (sector_after starts outs k) [] (left (arc_at outs k) (h k (forward 0) (omega arith)), right (arc_at outs (next_in_row starts k)) (h (next_in_row starts k) (forward 0) (next_within starts outs e k (omega arith)))) (All-nil (IsPairBelow n)))
  where
    left : (a : SignedArc) → HasPlaces n a → place_of a < n
    left a l = go a.is_reversed
      where
        go : (b : Bool) → cond b (2 * a.arc + 2) (2 * a.arc + 1) < n
        go true = omega arith
        go false = omega arith

    right : (a : SignedArc) → HasPlaces n a → place_right_of a < n
    right a l = left (record { arc = a.arc; is_reversed = not a.is_reversed }) l

    next_within : (starts : List GridPoint) (outs : List SignedArc) → length starts ≡ length outs → (k : ℕ) → k < length outs → next_in_row starts k < length outs
    next_within starts outs e k l = go (nat_lt (k + 1) (length starts)) (same_point (point_at starts k) (point_at starts (k + 1))) refl
      where
        go : (a b : Bool) → nat_lt (k + 1) (length starts) ≡ a → cond (a && b) (k + 1) (first_in_row starts k) < length outs
        go true true f = let h = ltb-true (k + 1) (length starts) f in omega arith
        go true false f = let h = first_within starts k in omega arith
        go false b f = let h = first_within starts k in omega arith

rays_within : (n : ℕ) (links : List ArcLink) (rays : List (ℕ × ℕ)) → 0 < n → All (λ (l : ArcLink). HasPlaces n l.along) links → AreRays links rays → All (IsPairBelow n) rays
rays_within n links rays some h r k d l = (subst (λ (m : ℕ). m < n) (sym is.ends) (met is.met is.is_met), subst (λ (m : ℕ). m < n) (sym is.starts) (go (not is.first.along.is_reversed)))
  where
    is : IsRay links (r.each k d l).0 (get_or rays k d)
    is = (r.each k d l).1

    of_first : HasPlaces n is.first.along
    of_first = All-contains (λ (l : ArcLink). HasPlaces n l.along) links is.first h is.is_first.there

    go : (b : Bool) → cond b (2 * is.first.along.arc + 2) (2 * is.first.along.arc + 1) < n
    go true = let x = of_first in omega arith
    go false = let x = of_first in omega arith

    met : (o : Option ArcLink) → IsTopmostBelow links (r.each k d l).0 o → place_met o < n
    met None t = some
    met (Some j) t = place j.along.is_reversed
      where
        at_j : HasPlaces n j.along
        at_j = All-contains (λ (l : ArcLink). HasPlaces n l.along) links j h t.there

        place : (b : Bool) → cond b (2 * j.along.arc + 2) (2 * j.along.arc + 1) < n
        place true = let x = at_j in omega arith
        place false = let x = at_j in omega arith

pub built_by : (arcs : List Path) (links : List ArcLink) (starts : List GridPoint) (outs : List SignedArc) (alone joined numbers : List ℕ) (count : ℕ) → IsTurned arcs starts outs → length starts ≡ length outs →
    All (HasPlaces (length alone)) outs → All (λ (l : ArcLink). HasPlaces (length alone) l.along) links → 0 < length alone → AreAlone alone →
    (rays : List (ℕ × ℕ)) → AreRays links rays → joined ≡ joined_by rays (joined_by (sectors starts outs) alone) → IsNumbering joined numbers count → HasJoins arcs links numbers
built_by arcs links starts outs alone joined numbers count turned each at_outs at_links some own rays r e h = record {
  starts = starts;
  outs = outs;
  turned = turned;
  rays = rays;
  are_rays = r;
  joined = numbers_are_joined (sectors starts outs ++ rays) alone numbers count own
      (All-append (IsPairBelow (length alone)) (sectors starts outs) rays (sectors_within (length alone) starts outs each at_outs (length outs) (omega arith)) (rays_within (length alone) links rays some at_links r))
      (subst (λ (xs : List ℕ). IsNumbering xs numbers count) (e ∙ sym (joined_append (sectors starts outs) rays alone)) h);
}
