-- The laws in the form of the contracts: with the rotations that every arrangement has.
use Rattle.std.proofs.Common.{◌≡◌, refl, inl, inr, ℕ, sym, ap, subst, ◌∙◌, Bool, true, false, List, [], ◌∷◌, map}
use Rattle.std.specs.Prelude.{All, Contains}
use Rattle.std.specs.List.Sorted.{IsPermutation}
use Rattle.std.proofs.lemmas.List.Elements.{All-weaker, All-contains, All-contains_itself}
use Rattle.std.proofs.lemmas.List.Sorted.{IsPermutation-refl, IsPermutation-sym, IsPermutation-trans, IsPermutation-map, All-permutation}
use Rattle.lists.proofs.Members.{Contains-head, Contains-later, Contains-nil}
use Rattle.plane_parity.proofs.ClosedRun.{closed_run_even}
use Rattle.plane_model.specs.Points.{RationalPoint, GridPoint, Segment, Path}
use Rattle.plane_model.specs.Arrangement.{IsBefore, IsArrangement, IsDistinct}
use Rattle.plane_model.specs.EvenList.{IsEven}
use Rattle.plane_model.specs.Parity.{odd, links_of_paths}
use Rattle.plane_model.specs.Rotation.{Dart}
use Rattle.plane_faces.specs.Rings.{links_of_path, IsRing, StartsLeast, darts_of_path, darts_of_paths, turns_left, IsPolygon}
use Rattle.plane_faces.proofs.Runs.{links_of_runs, darts_of_runs, links_are, darts_are}
use Rattle.plane_faces.specs.Places.{Place, outside, IsBeside, left_of, IsPlaceOf, AgreesWherePlacesMeet, border, border_darts}
use Rattle.plane_faces.specs.Labels.{IsFaceLabelling, IsPartLabelling, among, in_part}
use Rattle.plane_faces.proofs.Lists.{contains_cases}
use Rattle.plane_faces.proofs.EvenRings.{rings_of_even}
use Rattle.plane_faces.proofs.Sorting.{rotations_exist}
use Rattle.plane_faces.proofs.Connected.{parity_at_place}
use Rattle.plane_faces.proofs.FaceLaws.{place_beside}
use Rattle.plane_faces.proofs.Parts.{one_part, border_in}
use Rattle.plane_faces.proofs.BorderRings.{rings_of_border, link_of, links_of_darts}
use Rattle.plane_faces.proofs.LeastFirst.{Bordering, all_turned}
use Rattle.plane_faces.proofs.Turns.{HasLeastStart}
use Rattle.plane_faces.proofs.Polygon.{starts_closed, turned_at, polygon}

pub parts_not_separated : (S : List Segment) → IsArrangement S → (label : Place → ℕ) → IsFaceLabelling S label → (F : ℕ → Bool) → (part : ℕ → ℕ) → IsPartLabelling S label F part → (L : List Segment) → All (Contains (border (among label F) S)) L
    → IsEven L → (z z' : RationalPoint) → (a a' : Place) → IsPlaceOf S z a → IsPlaceOf S z' a' → among label F a ≡ true → among label F a' ≡ true → part (label a) ≡ part (label a') → odd L z ≡ odd L z'
parts_not_separated S arr label faces F part parts L bordering even z z' a a' ha ha' fa fa' e =
    one_part S label F part arr faces parts L (All-weaker (Contains (border (among label F) S)) (Contains S) (λ l c. All-contains (Contains S) (border (among label F) S) l (border_in S (among label F)) c) L bordering) bordering even z z' a a' ha ha' fa fa' e

pub ring_orientation : (S : List Segment) → IsArrangement S → (label : Place → ℕ) → IsFaceLabelling S label → (F : ℕ → Bool) → (part : ℕ → ℕ) → IsPartLabelling S label F part → (n : ℕ) → (run : List GridPoint) → StartsLeast run
    → All (Contains (border (among label (in_part F part n)) S)) (links_of_path run) → All (λ d. in_part F part n (label (left_of d)) ≡ true) (darts_of_path run)
    → (z : RationalPoint) → (b : Place) → IsPlaceOf S z b → in_part F part n (label b) ≡ true → odd (links_of_path run) z ≡ turns_left run
ring_orientation S arr label faces F part parts n run s within left z b h e =
    parity_at_place S (links_of_path run) arr (All-weaker (Contains B) (Contains S) (λ l c. All-contains (Contains S) B l (border_in S (among label (in_part F part n))) c) (links_of_path run) within) (closed_run_even run (starts_closed run s)) z b h
    ∙ turned_at S arr label faces F part parts n run s within left b (place_beside S z b h) e
  where
    B : List Segment
    B = border (among label (in_part F part n)) S

-- the rings of a border, each from its least vertex on
pub border_rings : (S : List Segment) → IsArrangement S → IsDistinct S → (f : Place → Bool) → AgreesWherePlacesMeet S f
    → (rings : List Path) × All IsRing rings × All StartsLeast rings × IsPermutation (links_of_runs rings) (border f S) × All (λ d. f (left_of d) ≡ true) (darts_of_runs rings) × IsPermutation (darts_of_runs rings) (border_darts f S)
border_rings S arr distinct f agrees =
    let r = rings_of_border S arr (rotations_exist S arr distinct) f agrees.sector in
    let t = all_turned S arr f r.0 r.1 (bordering r.0 r.2 r.3) in (
      t.0,
      t.1,
      t.2,
      IsPermutation-trans (links_of_runs t.0) (links_of_runs r.0) (border f S) (IsPermutation-sym (links_of_runs r.0) (links_of_runs t.0) (by_links r.0 t.0 t.3)) r.2,
      All-permutation (λ d. f (left_of d) ≡ true) (darts_of_runs r.0) (darts_of_runs t.0) t.3 r.3,
      IsPermutation-trans (darts_of_runs t.0) (darts_of_runs r.0) (border_darts f S) (IsPermutation-sym (darts_of_runs r.0) (darts_of_runs t.0) t.3) r.4,
    )
  where
    by_links : (xs ys : List Path) → IsPermutation (darts_of_runs xs) (darts_of_runs ys) → IsPermutation (links_of_runs xs) (links_of_runs ys)
    by_links xs ys h =
        subst (λ (ls : List Segment). IsPermutation ls (links_of_runs ys)) (links_of_darts xs)
        (subst (IsPermutation (map link_of (darts_of_runs xs))) (links_of_darts ys) (IsPermutation-map link_of (darts_of_runs xs) (darts_of_runs ys) h))

    bordering : (runs : List Path) → IsPermutation (links_of_runs runs) (border f S) → All (λ d. f (left_of d) ≡ true) (darts_of_runs runs) → All (Bordering S arr f) (darts_of_runs runs)
    bordering runs h left =
        All-weaker (Contains (darts_of_runs runs)) (Bordering S arr f)
        (λ d c. (All-contains (Contains (border f S)) (links_of_runs runs) d.link (All-permutation (Contains (border f S)) (border f S) (links_of_runs runs) (IsPermutation-sym (links_of_runs runs) (border f S) h) (All-contains_itself (border f S))) (link_there runs d c), All-contains (λ e. f (left_of e) ≡ true) (darts_of_runs runs) d left c))
        (darts_of_runs runs) (All-contains_itself (darts_of_runs runs))
      where
        link_there : (runs : List Path) (d : Dart) → Contains (darts_of_runs runs) d → Contains (links_of_runs runs) d.link
        link_there runs d c = subst (λ (ls : List Segment). Contains ls d.link) (links_of_darts runs) (mapped (darts_of_runs runs) d c)
          where
            mapped : (ds : List Dart) (d : Dart) → Contains ds d → Contains (map link_of ds) d.link
            mapped [] d c = absurd (Contains-nil d c)
            mapped (e ∷ ds) d c = elim (contains_cases e ds d c) [
              | inl i ↦ subst (Contains (e.link ∷ map link_of ds)) (ap link_of (sym i)) (Contains-head e.link (map link_of ds))
              | inr k ↦ Contains-later e.link (map link_of ds) d.link (mapped ds d k)
            ]

-- ---- the rings of a border, as paths of one list

-- an even list of links is the links of rings
pub even_rings : (L : List Segment) → All (λ l. IsBefore l.start l.stop) L → IsEven L → (rings : List Path) × All IsRing rings × IsPermutation (links_of_paths rings) L
even_rings L ordered even =
    let r = rings_of_even L ordered even in
    (r.0, r.1, subst (λ (ls : List Segment). IsPermutation ls L) (links_are r.0) r.2)

pub border_paths : (S : List Segment) → IsArrangement S → IsDistinct S → (f : Place → Bool) → AgreesWherePlacesMeet S f
    → (rings : List Path) × All IsRing rings × All StartsLeast rings × IsPermutation (links_of_paths rings) (border f S) × All (λ d. f (left_of d) ≡ true) (darts_of_paths rings)
border_paths S arr distinct f agrees =
    let r = border_rings S arr distinct f agrees in
    (r.0, r.1, r.2, subst (λ (ls : List Segment). IsPermutation ls (border f S)) (links_are r.0) r.3, subst (All (λ d. f (left_of d) ≡ true)) (darts_are r.0) r.4)

pub part_paths : (S : List Segment) → IsArrangement S → IsDistinct S → (label : Place → ℕ) → IsFaceLabelling S label → (F : ℕ → Bool) → F (label outside) ≡ false → (part : ℕ → ℕ) → IsPartLabelling S label F part → (n : ℕ)
    → (rings : List Path) → All HasLeastStart rings → All (λ d. in_part F part n (label (left_of d)) ≡ true) (darts_of_paths rings)
    → IsPermutation (links_of_paths rings) (border (among label (in_part F part n)) S) → (b : Place) → IsBeside S b → in_part F part n (label b) ≡ true → IsPolygon S (among label (in_part F part n)) rings
part_paths S arr distinct label faces F none part parts n rings starts left tracing =
    polygon S arr distinct (rotations_exist S arr distinct) label faces F none part parts n rings starts
    (subst (All (λ d. in_part F part n (label (left_of d)) ≡ true)) (sym (darts_are rings)) left)
    (subst (λ (ls : List Segment). IsPermutation ls (border (among label (in_part F part n)) S)) (sym (links_are rings)) tracing)

pub least_start : (ring : Path) → StartsLeast ring → HasLeastStart ring
least_start ring s = record { closed = starts_closed ring s; begun = ring; least = s; same_darts = IsPermutation-refl (darts_of_path ring); same_turn = refl }

pub least_paths : (S : List Segment) → IsArrangement S → IsDistinct S → (label : Place → ℕ) → IsFaceLabelling S label → (F : ℕ → Bool) → F (label outside) ≡ false → (part : ℕ → ℕ) → IsPartLabelling S label F part → (n : ℕ)
    → (rings : List Path) → All StartsLeast rings → All (λ d. in_part F part n (label (left_of d)) ≡ true) (darts_of_paths rings)
    → IsPermutation (links_of_paths rings) (border (among label (in_part F part n)) S) → (b : Place) → IsBeside S b → in_part F part n (label b) ≡ true → IsPolygon S (among label (in_part F part n)) rings
least_paths S arr distinct label faces F none part parts n rings starts = part_paths S arr distinct label faces F none part parts n rings (All-weaker StartsLeast HasLeastStart least_start rings starts)
