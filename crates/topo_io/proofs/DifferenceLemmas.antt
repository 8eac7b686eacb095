-- The differences of an arc's points, one after another.
use Rattle.std.proofs.Common.{◌≡◌, ℕ, suc, ◌+◌, ◌<◌, [], ◌∷◌, length, drop, get_or, refl, sym, ap, ◌∙◌, subst, ◌-ℤ◌}
use Rattle.std.proofs.Math.Seq.{drop-cons}
use Rattle.std.proofs.Math.Numerals.{add-one}
use Rattle.lists.specs.Lists.{tail}
use Rattle.plane_model.specs.Points.{GridPoint, Path}
use Rattle.topo_io.specs.Texts.{differences}
use Rattle.topo_io.proofs.MarkLemmas.{left_after}

pub length-differences : (b : GridPoint) (ps : Path) → length (differences b ps) ≡ length ps
length-differences b [] = refl
length-differences b (p ∷ rest) = ap suc (length-differences p rest)

abbrev pub way : GridPoint → GridPoint → GridPoint
way b p = record { x = p.x -ℤ b.x; y = p.y -ℤ b.y }

module _ (o : GridPoint) (ps : Path) (i : ℕ) (b p : GridPoint) (l : i < length ps) (is : p ≡ get_or ps i p) (h : drop i (differences o ps) ≡ differences b (drop i ps)) where
  here : drop i (differences o ps) ≡ way b p ∷ differences p (drop (i + 1) ps)
  here = h ∙ ap (differences b) (left_after ps i p l is)

  inside : i < length (differences o ps)
  inside = subst (λ (n : ℕ). i < n) (sym (length-differences o ps)) l

  split : get_or (differences o ps) i (way b p) ∷ drop (suc i) (differences o ps) ≡ way b p ∷ differences p (drop (i + 1) ps)
  split = sym (drop-cons (differences o ps) i (way b p) inside) ∙ here

  -- the difference at place i
  pub way_at : way b p ≡ get_or (differences o ps) i (way b p)
  way_at = sym (ap (λ (qs : Path). get_or qs 0 (way b p)) split)

  pub ways_after : drop (i + 1) (differences o ps) ≡ differences p (drop (i + 1) ps)
  ways_after = (λ j. drop (add-one i j) (differences o ps)) ∙ ap tail split

  pub way_inside : i < length (differences o ps)
  way_inside = inside
