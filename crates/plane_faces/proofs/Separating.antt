-- What an even list separates, one ring of it separates.
use Rattle.std.proofs.Common.{◌≡◌, ℕ, refl, sym, ap, ◌∙◌, Bool, true, false, not, List, [], ◌∷◌}
use Rattle.std.specs.Prelude.{All, Contains}
use Rattle.std.specs.List.Sorted.{IsPermutation}
use Rattle.std.proofs.lemmas.List.Elements.{All-head, All-tail, All-weaker, All-contains}
use Rattle.std.proofs.lemmas.List.Sorted.{All-permutation, IsPermutation-sym}
use Rattle.plane_parity.proofs.Telescope.{odd_count-append}
use Rattle.plane_model.specs.Points.{RationalPoint, GridPoint, Segment, Path}
use Rattle.plane_model.specs.Parity.{xor, is_below, odd, links_of_paths}
use Rattle.plane_model.specs.Arrangement.{IsBefore, IsArrangement, IsDistinct}
use Rattle.plane_model.specs.EvenList.{IsEven}
use Rattle.plane_faces.specs.Rings.{links_of_path, IsRing, IsPolygon, IsSeparating}
use Rattle.plane_faces.proofs.Runs.{links_of_runs}
use Rattle.plane_faces.specs.Places.{Place, outside, IsBeside, IsPlaceOf, AgreesWherePlacesMeet, border}
use Rattle.plane_faces.specs.Labels.{IsFaceLabelling, IsPartLabelling, among, in_part}
use Rattle.plane_faces.proofs.Lists.{odd_count-permutation, all_left, all_right}
use Rattle.plane_faces.proofs.EvenRings.{rings_of_even}
use Rattle.plane_faces.proofs.Sorting.{rotations_exist}
use Rattle.plane_faces.proofs.FaceLaws.{different_faces, among_agrees}
use Rattle.plane_faces.proofs.Parts.{different_parts, border_in}
use Rattle.plane_faces.proofs.Laws.{border_paths, least_paths}

module _ (z z' : RationalPoint) where
  abbrev Differs : List Segment → Type 0
  Differs R = odd R z ≡ not (odd R z')

  one_of : (T : List Segment) (runs : List Path) → All IsRing runs → All (Contains T) (links_of_runs runs) → Differs (links_of_runs runs) → (ring : List GridPoint) × IsSeparating T z z' ring
  one_of T [] rings within d = let f : false ≡ true = d in absurd (cc)
  one_of T (run ∷ runs) rings within d = go (odd (links_of_path run) z) refl (odd (links_of_path run) z') refl (λ e. one_of T runs (All-tail IsRing run runs rings) right e)
    where
      left : All (Contains T) (links_of_path run)
      left = all_left (Contains T) (links_of_path run) (links_of_runs runs) within

      right : All (Contains T) (links_of_runs runs)
      right = all_right (Contains T) (links_of_path run) (links_of_runs runs) within

      sum : xor (odd (links_of_path run) z) (odd (links_of_runs runs) z) ≡ not (xor (odd (links_of_path run) z') (odd (links_of_runs runs) z'))
      sum = sym (odd_count-append (is_below z) (links_of_path run) (links_of_runs runs)) ∙ d ∙ ap not (odd_count-append (is_below z') (links_of_path run) (links_of_runs runs))

      here : Differs (links_of_path run) → (ring : List GridPoint) × IsSeparating T z z' ring
      here e = (run, (All-head IsRing run runs rings, left, e))

      unnot : (a b : Bool) → not a ≡ not (not b) → a ≡ not b
      unnot true true e = sym e
      unnot true false e = refl
      unnot false true e = refl
      unnot false false e = sym e

      go : (x : Bool) → odd (links_of_path run) z ≡ x → (y : Bool) → odd (links_of_path run) z' ≡ y → (Differs (links_of_runs runs) → (ring : List GridPoint) × IsSeparating T z z' ring) → (ring : List GridPoint) × IsSeparating T z z' ring
      go true e true f next = next (unnot (odd (links_of_runs runs) z) (odd (links_of_runs runs) z')
          (ap (λ (b : Bool). xor b (odd (links_of_runs runs) z)) (sym e) ∙ sum ∙ ap (λ (b : Bool). not (xor b (odd (links_of_runs runs) z'))) f))
      go true e false f next = here (e ∙ ap not (sym f))
      go false e true f next = here (e ∙ ap not (sym f))
      go false e false f next = next (ap (λ (b : Bool). xor b (odd (links_of_runs runs) z)) (sym e) ∙ sum ∙ ap (λ (b : Bool). not (xor b (odd (links_of_runs runs) z'))) f)

  ring_separates : (T L : List Segment) → All (λ l. IsBefore l.start l.stop) L → All (Contains T) L → IsEven L → Differs L → (ring : List GridPoint) × IsSeparating T z z' ring
  ring_separates T L ordered within even d =
      let r = rings_of_even L ordered even in
      one_of T r.0 r.1 (All-permutation (Contains T) L (links_of_runs r.0) (IsPermutation-sym (links_of_runs r.0) L r.2) within)
      (odd_count-permutation (is_below z) (links_of_runs r.0) L r.2 ∙ d ∙ ap not (sym (odd_count-permutation (is_below z') (links_of_runs r.0) L r.2)))

ordered_in : (S L : List Segment) → IsArrangement S → All (Contains S) L → All (λ l. IsBefore l.start l.stop) L
ordered_in S L arr within = All-weaker (Contains S) (λ l. IsBefore l.start l.stop) (λ l c. All-contains (λ j. IsBefore j.start j.stop) S l arr.ordered c) L within

-- two faces are separated by a ring of links of S
pub faces_by_ring : (S : List Segment) → IsArrangement S → IsDistinct S → (label : Place → ℕ) → AgreesWherePlacesMeet S label
    → (z z' : RationalPoint) → (a a' : Place) → IsPlaceOf S z a → IsPlaceOf S z' a' → (label a ≡ label a' → ⊥) → (ring : List GridPoint) × IsSeparating S z z' ring
faces_by_ring S arr distinct label agrees z z' a a' h h' n =
    let r = different_faces S arr distinct (rotations_exist S arr distinct) label agrees z z' a a' h h' n in
    ring_separates z z' S r.0 (ordered_in S r.0 arr r.1) r.1 r.2 r.3

-- two parts are separated by a ring of links of the border of the whole
pub parts_by_ring : (S : List Segment) → IsArrangement S → IsDistinct S → (label : Place → ℕ) → AgreesWherePlacesMeet S label → (F : ℕ → Bool) → F (label outside) ≡ false → (part : ℕ → ℕ) → IsPartLabelling S label F part
    → (z z' : RationalPoint) → (a a' : Place) → IsPlaceOf S z a → IsPlaceOf S z' a' → among label F a ≡ true → among label F a' ≡ true → (part (label a) ≡ part (label a') → ⊥)
    → (ring : List GridPoint) × IsSeparating (border (among label F) S) z z' ring
parts_by_ring S arr distinct label agrees F none part parts z z' a a' h h' fa fa' n =
    let r = different_parts S arr distinct (rotations_exist S arr distinct) label agrees F none part parts z z' a a' h h' fa fa' n in
    let within : All (Contains S) r.0 = All-weaker (Contains (border (among label F) S)) (Contains S) (λ l c. All-contains (Contains S) (border (among label F) S) l (border_in S (among label F)) c) r.0 r.1 in
    ring_separates z z' (border (among label F) S) r.0 (ordered_in S r.0 arr within) r.1 r.2 (r.3 ∙ ap not (sym r.4))

-- each part is a polygon
pub part_polygon : (S : List Segment) → IsArrangement S → IsDistinct S → (label : Place → ℕ) → IsFaceLabelling S label → (F : ℕ → Bool) → F (label outside) ≡ false → (part : ℕ → ℕ) → IsPartLabelling S label F part → (n : ℕ)
    → (b : Place) → IsBeside S b → in_part F part n (label b) ≡ true
    → (rings : List Path) × All IsRing rings × IsPermutation (links_of_paths rings) (border (among label (in_part F part n)) S) × IsPolygon S (among label (in_part F part n)) rings
part_polygon S arr distinct label faces F none part parts n b hb e =
    let r = border_paths S arr distinct (among label (in_part F part n)) (among_agrees S label faces.agrees (in_part F part n)) in
    (r.0, r.1, r.3, least_paths S arr distinct label faces F none part parts n r.0 r.2 r.4 r.3 b hb e)
