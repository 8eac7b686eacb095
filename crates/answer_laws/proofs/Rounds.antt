-- A closed path begun at another of its points has the same steps.
use Rattle.std.proofs.Common.{◌≡◌, inl, inr, refl, sym, ap, ◌∙◌, subst, suc, Bool, true, false, List, [], ◌∷◌, ◌++◌, length, append_assoc, Contains}
use Rattle.std.specs.Prelude.{◌≢◌, AllPairs, if◌then◌else◌}
use Rattle.std.specs.Bool.{Decides}
use Rattle.std.specs.List.Sorted.{IsPermutation}
use Rattle.std.proofs.lemmas.List.Sorted.{IsPermutation-append_comm, IsPermutation-refl}
use Rattle.std.proofs.lemmas.Map.Keys.{IsDistinct-IsPermutation}
use Rattle.std.proofs.lemmas.Map.Made.{AllPairs-from_IsDistinct, IsDistinct-from_AllPairs}
use Rattle.printed_laws.proofs.ArcSides.{same_back}
use Rattle.arc_laws.proofs.Runs.{least_in, turned_whole}
use Rattle.lists.specs.Lists.{last_of, least_of, place_of, turned}
use Rattle.lists.proofs.Members.{Contains-cases, Contains-nil}
use Rattle.plane_model.specs.Points.{GridPoint, Segment, Path, is_before, same_point}
use Rattle.plane_model.specs.Arcs.{begun_at_least}
use Rattle.plane_model.specs.Drawing.{steps}
use Rattle.plane_model.proofs.PointOrder.{clash, is_before-IsStrictOrder, same_point_from, same_point_to}
use Rattle.plane_snapping.proofs.Steps.{last_of-append}
use Rattle.plane_faces.specs.Rings.{IsRing}
use Rattle.part_laws.proofs.CountLemmas.{steps_joined}

-- ---- steps

steps_on : (p : GridPoint) (ys zs : Path) → steps (p ∷ (ys ++ zs)) ≡ steps (p ∷ ys) ++ steps (last_of p ys ∷ zs)
steps_on p [] zs = refl
steps_on p (y ∷ ys) zs = ap (λ (ss : List Segment). record { start = p; stop = y } ∷ ss) (steps_on y ys zs)

-- the path from c by p and back to c, and from p by c back to p
round_steps : (c : GridPoint) (xs : Path) (p : GridPoint) (ys : Path) → last_of p ys ≡ c → IsPermutation (steps (c ∷ (xs ++ p ∷ ys))) (steps (p ∷ (ys ++ (xs ++ p ∷ []))))
round_steps c xs p ys closes =
    subst (λ (ss : List Segment). IsPermutation ss (steps (p ∷ (ys ++ (xs ++ p ∷ []))))) (sym (steps_joined (c ∷ xs) p ys))
    (subst (IsPermutation (steps (c ∷ (xs ++ p ∷ [])) ++ steps (p ∷ ys))) (ap (λ (q : GridPoint). steps (p ∷ ys) ++ steps (q ∷ (xs ++ p ∷ []))) (sym closes) ∙ sym (steps_on p ys (xs ++ p ∷ [])))
    (IsPermutation-append_comm (steps (c ∷ (xs ++ p ∷ []))) (steps (p ∷ ys))))

-- ---- begun at the least vertex

-- a list, cut at the first element that passes a test
record IsCut {A : Type 0} (test : A → Bool) (xs : List A) : Type 0 where
  before : List A
  here : A
  after : List A
  are : xs ≡ before ++ here ∷ after
  place : length before ≡ place_of test xs
  passes : test here ≡ true

cut : {A : Type 0} (test : A → Bool) (xs : List A) (x : A) → Contains xs x → test x ≡ true → IsCut test xs
cut test [] x c e = Contains-nil x c
cut {A} test (v ∷ xs) x c e = go (test v) refl (λ k. cut test xs x k e)
  where
    go : (b : Bool) → test v ≡ b → (Contains xs x → IsCut test xs) → IsCut test (v ∷ xs)
    go true f later = record { before = []; here = v; after = xs; are = refl; place = ap (λ (b : Bool). if b then 0 else suc (place_of test xs)) (sym f); passes = f }
    go false f later =
        let rest = later (elim (Contains-cases v xs x c) [ inl i ↦ clash (test x) e (sym (ap test i) ∙ f) | inr k ↦ k ]) in
        record {
          before = v ∷ rest.before;
          here = rest.here;
          after = rest.after;
          are = ap (λ (ys : List A). v ∷ ys) rest.are;
          place = ap suc rest.place ∙ ap (λ (b : Bool). if b then 0 else suc (place_of test xs)) (sym f);
          passes = rest.passes;
        }

pub begun_steps : (p : GridPoint) (rest : Path) → last_of p rest ≡ p → IsPermutation (steps (p ∷ rest)) (steps (begun_at_least (p ∷ rest)))
begun_steps p [] closes = IsPermutation-refl []
begun_steps p (x ∷ xs) closes =
    subst (λ (path : Path). IsPermutation (steps (p ∷ path)) (steps (begun_at_least (p ∷ (x ∷ xs))))) (sym k.are)
    (subst (λ (path : Path). IsPermutation (steps (p ∷ (k.before ++ k.here ∷ k.after))) (steps path)) (sym shape) (round_steps p k.before k.here k.after ends))
  where
    k : IsCut (same_point (least_of is_before p (x ∷ xs))) (x ∷ xs)
    k = cut (same_point (least_of is_before p (x ∷ xs))) (x ∷ xs) (least_of is_before p (x ∷ xs)) (least_in is_before is_before-IsStrictOrder p x xs) (same_point_to (least_of is_before p (x ∷ xs)) (least_of is_before p (x ∷ xs)) refl)

    ends : last_of k.here k.after ≡ p
    ends = sym (last_of-append p k.before (k.here ∷ k.after)) ∙ sym (ap (last_of p) k.are) ∙ closes

    shape : begun_at_least (p ∷ (x ∷ xs)) ≡ k.here ∷ (k.after ++ (k.before ++ k.here ∷ []))
    shape =
        (λ i. turned (sym k.place i) (k.are i) ++ same_point_from (least_of is_before p (x ∷ xs)) k.here k.passes i ∷ [])
        ∙ ap (λ (path : Path). path ++ k.here ∷ []) (turned_whole k.before (k.here ∷ k.after))
        ∙ append_assoc (k.here ∷ k.after) k.before (k.here ∷ [])

-- ---- a ring begun at one of its steps

same_point-Decides : (p q : GridPoint) → Decides (same_point p q) (p ≡ q)
same_point-Decides p q = (same_point_from p q, same_point_to p q)

points_moved : (xs ys : Path) → IsPermutation xs ys → AllPairs (λ (p q : GridPoint). p ≢ q) xs → AllPairs (λ (p q : GridPoint). p ≢ q) ys
points_moved xs ys p h =
    AllPairs-from_IsDistinct same_point-Decides ys (IsDistinct-IsPermutation same_point same_back xs ys p (IsDistinct-from_AllPairs same_point-Decides xs h))

ring_parts : (c : GridPoint) (zs : Path) → IsRing (c ∷ zs) → (last_of c zs ≡ c) × AllPairs (λ (p q : GridPoint). p ≢ q) zs
ring_parts c [] h = absurd h
ring_parts c (z ∷ zs) h = h

-- a ring, and the same begun with the step s
pub record IsBegunWith (s : Segment) (ring : Path) : Type 0 where
  pub begun : Path
  pub is_ring : IsRing begun
  pub same_steps : IsPermutation (steps ring) (steps begun)
  pub rest : List Segment
  pub first : steps begun ≡ s ∷ rest

begun_by : (us : Path) (s : Segment) (vs : Path) → IsRing (us ++ s.start ∷ s.stop ∷ vs) → IsBegunWith s (us ++ s.start ∷ s.stop ∷ vs)
begun_by [] s vs h = record { begun = s.start ∷ s.stop ∷ vs; is_ring = h; same_steps = IsPermutation-refl (steps (s.start ∷ s.stop ∷ vs)); rest = steps (s.stop ∷ vs); first = refl }
begun_by (c ∷ xs) s vs h =
    let (closes, apart) = ring_parts c (xs ++ s.start ∷ s.stop ∷ vs) h in
    let ends : last_of s.stop vs ≡ c = sym (last_of-append c xs (s.start ∷ s.stop ∷ vs)) ∙ closes in
    let moved : IsPermutation (xs ++ s.start ∷ s.stop ∷ vs) ((s.stop ∷ vs) ++ (xs ++ s.start ∷ [])) =
    subst (λ (path : Path). IsPermutation path ((s.stop ∷ vs) ++ (xs ++ s.start ∷ []))) (append_assoc xs (s.start ∷ []) (s.stop ∷ vs)) (IsPermutation-append_comm (xs ++ s.start ∷ []) (s.stop ∷ vs)) in
    record {
      begun = s.start ∷ ((s.stop ∷ vs) ++ (xs ++ s.start ∷ []));
      is_ring = (
        last_of-append s.stop vs (xs ++ s.start ∷ []) ∙ last_of-append (last_of s.stop vs) xs (s.start ∷ []),
        points_moved (xs ++ s.start ∷ s.stop ∷ vs) ((s.stop ∷ vs) ++ (xs ++ s.start ∷ [])) moved apart,
      );
      same_steps = round_steps c xs s.start (s.stop ∷ vs) ends;
      rest = steps (s.stop ∷ (vs ++ (xs ++ s.start ∷ [])));
      first = refl;
    }

-- the path goes along s after some points
step_cut : (path : Path) (s : Segment) → Contains (steps path) s → (us : Path) × (vs : Path) × (path ≡ us ++ s.start ∷ s.stop ∷ vs)
step_cut [] s c = Contains-nil s c
step_cut (p ∷ []) s c = Contains-nil s c
step_cut (p ∷ q ∷ rest) s c = elim (Contains-cases (record { start = p; stop = q }) (steps (q ∷ rest)) s c) [
  | inl e ↦ ([], rest, (λ i. (e i).start ∷ (e i).stop ∷ rest))
  | inr k ↦ (let (us, vs, is) = step_cut (q ∷ rest) s k in (p ∷ us, vs, ap (λ (path : Path). p ∷ path) is))
]

pub begun_with : (ring : Path) → IsRing ring → (s : Segment) → Contains (steps ring) s → IsBegunWith s ring
begun_with ring h s c =
    let (us, vs, is) = step_cut ring s c in
    subst (IsBegunWith s) (sym is) (begun_by us s vs (subst IsRing is h))
