-- Both steps along distinct links are distinct; two steps along one link are one step or its twin.
use Rattle.std.proofs.Common.{◌≡◌, ◌⊎◌, inl, inr, refl, sym, ap, ◌∙◌, subst, arith, ℕ, ◌+◌, ◌-◌, ◌<◌, ◌≤◌, Bool, true, false, List, ◌++◌, map, length, get_or, All, AllPairs}
use Rattle.std.specs.Prelude.{◌≢◌, if◌then◌else◌}
use Rattle.std.specs.Bool.{Decides}
use Rattle.std.specs.List.Sorted.{IsPermutation}
use Rattle.std.proofs.Math.ListN.{get_or-append}
use Rattle.std.proofs.Math.Seq.{get_or-append_right}
use Rattle.std.proofs.lemmas.Bool.{cases_lt, and_from}
use Rattle.std.proofs.lemmas.List.{get_or-map, length-map, length-append}
use Rattle.std.proofs.lemmas.List.Sorted.{All-permutation}
use Rattle.std.proofs.lemmas.Map.Keys.{IsDistinct-IsPermutation}
use Rattle.std.proofs.lemmas.Map.Made.{AllPairs-from_IsDistinct, IsDistinct-from_AllPairs}
use Rattle.plane_model.specs.Points.{GridPoint, Segment, same_point, same_segment, is_before, reversed, link_between}
use Rattle.plane_model.specs.Arrangement.{IsBefore}
use Rattle.plane_model.proofs.PointOrder.{same_point_to, before_to, is_before-IsStrictOrder}
use Rattle.arc_table.specs.Steps.{AreLinks, AreProper, AreSteps}
use Rattle.arc_table.proofs.Everywhere.{All-mapped, All-joined}
use Rattle.arc_table.proofs.StepSearch.{same_ends}

pub same_segment-Decides : (s t : Segment) → Decides (same_segment s t) (s ≡ t)
same_segment-Decides s t = (
  (λ e. same_ends s t e),
  (λ e. and_from (same_point s.start t.start) (same_point s.stop t.stop) (same_point_to s.start t.start (λ i. (e i).start)) (same_point_to s.stop t.stop (λ i. (e i).stop))),
)

same_segment-flips : (s t : Segment) → same_segment s t ≡ same_segment t s
same_segment-flips s t = go (same_segment s t) (same_segment t s) refl refl
  where
    go : (a b : Bool) → same_segment s t ≡ a → same_segment t s ≡ b → same_segment s t ≡ same_segment t s
    go true b e f = e ∙ sym ((same_segment-Decides t s).1 (sym ((same_segment-Decides s t).0 e)))
    go false true e f = (same_segment-Decides s t).1 (sym ((same_segment-Decides t s).0 f)) ∙ sym f
    go false false e f = e ∙ sym f

pub once_moved : (xs ys : List Segment) → IsPermutation xs ys → AllPairs (λ (s t : Segment). s ≢ t) xs → AllPairs (λ (s t : Segment). s ≢ t) ys
once_moved xs ys p h =
    AllPairs-from_IsDistinct same_segment-Decides ys
    (IsDistinct-IsPermutation same_segment same_segment-flips xs ys p (IsDistinct-from_AllPairs same_segment-Decides xs h))

-- a link is no link turned round
turned_apart : (k l : Segment) → IsBefore k.start k.stop → IsBefore l.start l.stop → k ≡ reversed l → ⊥
turned_apart k l u v e =
    let down : IsBefore l.stop l.start = subst (λ (s : Segment). IsBefore s.start s.stop) e u in
    is_before-IsStrictOrder.irreflexive l.stop (is_before-IsStrictOrder.trans l.stop l.start l.stop (before_to l.stop l.start down) (before_to l.start l.stop v))

pub moves : (s : Segment) → IsBefore s.start s.stop → s.start ≢ s.stop
moves s u e = is_before-IsStrictOrder.irreflexive s.stop (subst (λ (p : GridPoint). is_before p s.stop ≡ true) e (before_to s.start s.stop u))

module _ (S : List Segment) (h : AreLinks S) where
  size : length (S ++ map reversed S) ≡ length S + length S
  size = length-append S (map reversed S) ∙ ap (λ (n : ℕ). length S + n) (length-map S reversed)

  low : (i : ℕ) (d : Segment) → i < length S → get_or (S ++ map reversed S) i d ≡ get_or S i d
  low i d l = get_or-append S (map reversed S) d i l

  high : (i : ℕ) (d : Segment) → length S ≤ i → i < length S + length S → get_or (S ++ map reversed S) i d ≡ reversed (get_or S (i - length S) d)
  high i d l m = get_or-append_right S (map reversed S) i d l ∙ get_or-map reversed S (i - length S) d d (omega arith)

  both_once : AllPairs (λ (s t : Segment). s ≢ t) (S ++ map reversed S)
  both_once i j d l m e =
      let n = size in
      elim (cases_lt j (length S)) [
        | inl p ↦ h.once i j d l p (sym (low i d (omega arith)) ∙ e ∙ low j d p)
        | inr p ↦ elim (cases_lt i (length S)) [
          | inl q ↦ turned_apart (get_or S i d) (get_or S (j - length S) d) (h.ordered i d q) (h.ordered (j - length S) d (omega arith)) (sym (low i d q) ∙ e ∙ high j d p (omega arith))
          | inr q ↦ h.once (i - length S) (j - length S) d (omega arith) (omega arith) (ap reversed (sym (high i d q (omega arith)) ∙ e ∙ high j d p (omega arith)))
        ]
      ]

  pub proper_steps : (steps : List Segment) → AreSteps S steps → AreProper steps
  proper_steps steps t =
      let P : Segment → Type 0 = λ s. s.start ≢ s.stop in
      let up : All P S = λ k d l. moves (get_or S k d) (h.ordered k d l) in
      let down : All P (map reversed S) = All-mapped P P reversed (λ s p e. p (sym e)) S up in
      record {
        once = once_moved (S ++ map reversed S) steps t.all both_once;
        moving = All-permutation P (S ++ map reversed S) steps t.all (All-joined P S (map reversed S) up down);
      }

-- a step stands at one place
pub place_once : (steps : List Segment) → AreProper steps → (i j : ℕ) (d : Segment) → i < length steps → j < length steps → get_or steps i d ≡ get_or steps j d → i ≡ j
place_once steps h i j d l m e = elim (cases_lt i j) [
  | inl p ↦ absurd (h.once i j d p m e)
  | inr p ↦ elim (cases_lt j i) [ inl q ↦ absurd (h.once j i d q l (sym e)) | inr q ↦ omega arith ]
]

-- ---- links between the ends of steps

pub link_turned : (s : Segment) → s.start ≢ s.stop → link_between (reversed s) ≡ link_between s
link_turned s apart = go (is_before s.start s.stop) (is_before s.stop s.start) refl refl
  where
    go : (b c : Bool) → is_before s.start s.stop ≡ b → is_before s.stop s.start ≡ c → (if c then reversed s else s) ≡ (if b then s else reversed s)
    go true true e f = absurd (is_before-IsStrictOrder.irreflexive s.start (is_before-IsStrictOrder.trans s.start s.stop s.start e f))
    go true false e f = refl
    go false true e f = refl
    go false false e f = absurd (apart (is_before-IsStrictOrder.total s.start s.stop e f))

pub one_link : (s t : Segment) → link_between s ≡ link_between t → (s ≡ t) ⊎ (s ≡ reversed t)
one_link s t = go (is_before s.start s.stop) (is_before t.start t.stop)
  where
    go : (b c : Bool) → (if b then s else reversed s) ≡ (if c then t else reversed t) → (s ≡ t) ⊎ (s ≡ reversed t)
    go true true e = inl e
    go true false e = inr e
    go false true e = inr (ap reversed e)
    go false false e = inl (ap reversed e)

pub link_is : (s : Segment) → (link_between s ≡ s) ⊎ (link_between s ≡ reversed s)
link_is s = go (is_before s.start s.stop)
  where
    go : (b : Bool) → ((if b then s else reversed s) ≡ s) ⊎ ((if b then s else reversed s) ≡ reversed s)
    go true = inl refl
    go false = inr refl
