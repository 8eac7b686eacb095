-- Points and shapes cut one after another.
use Rattle.std.proofs.Common.{◌≡◌, ℕ, ◌+◌, ◌<◌, Bool, true, false, if◌then◌else◌, List, [], ◌∷◌, ◌++◌, length, get_or, take, refl, sym, ap, subst, ◌∙◌}
use Rattle.std.specs.List.{AllZip}
use Rattle.std.proofs.lemmas.List.{take_more}
use Rattle.plane_model.specs.Points.{GridPoint}
use Rattle.run_plane.proofs.Growth.{zipped_on}
use Rattle.run_shapes.specs.Cutting.{ArePointsLeft, StaysAt, chosen}
use Rattle.run_shapes.specs.declared.cutting.CutKeeps.{CutKeeps}
use Rattle.run_plane.specs.declared.plane.Plane.{Plane}

-- one element more, with its answer
chosen_on : {A : Type 0} (R : A → Bool → Type 0) (xs : List A) (answers : List Bool) (x : A) (b : Bool) → AllZip R xs answers → chosen (xs ++ x ∷ []) (answers ++ b ∷ []) ≡ chosen xs answers ++ (if b then x ∷ [] else [])
chosen_on R [] [] x true h = refl
chosen_on R [] [] x false h = refl
chosen_on R [] (a ∷ answers) x b h = absurd h
chosen_on R (y ∷ xs) [] x b h = absurd h
chosen_on R (y ∷ xs) (true ∷ answers) x b h = ap (λ (ys : List _). y ∷ ys) (chosen_on R xs answers x b h.1)
chosen_on R (y ∷ xs) (false ∷ answers) x b h = chosen_on R xs answers x b h.1

module _ (k : CutKeeps) (plane : Plane) (cut_set : List ℕ) where
  pub no_points : (left : List GridPoint) → left ≡ [] → ArePointsLeft k plane cut_set [] left
  no_points left e = record { answers = []; each = tt; are = e }

  -- a point more, which stays or goes
  pub points_more : (points left : List GridPoint) (i : ℕ) (p : GridPoint) (b : Bool) (now : List GridPoint) → i < length points → p ≡ get_or points i p → ArePointsLeft k plane cut_set (take i points) left → StaysAt k plane cut_set p b →
      now ≡ left ++ (if b then p ∷ [] else []) → ArePointsLeft k plane cut_set (take (i + 1) points) now
  points_more points left i p b now l is h s e =
      subst (λ (ps : List GridPoint). ArePointsLeft k plane cut_set ps now) (sym (take_more points i p l ∙ ap (λ (q : GridPoint). take i points ++ q ∷ []) (sym is)))
      (record {
        answers = h.answers ++ b ∷ [];
        each = zipped_on (StaysAt k plane cut_set) (take i points) h.answers p b h.each s;
        are = e ∙ ap (λ (ps : List GridPoint). ps ++ (if b then p ∷ [] else [])) h.are ∙ sym (chosen_on (StaysAt k plane cut_set) (take i points) h.answers p b h.each);
      })
