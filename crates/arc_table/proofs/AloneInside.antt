-- A vertex where no arc starts lies on one arc alone.
use Rattle.std.proofs.Common.{◌≡◌, inl, inr, refl, ap, ◌∙◌, subst, arith, ℕ, suc, ◌-◌, ◌<◌, List, [], length, Contains, Option, Some, None}
use Rattle.std.specs.Prelude.{IfSome}
use Rattle.std.proofs.lemmas.Bool.{cases_lt}
use Rattle.std.proofs.lemmas.List.{get_or_default}
use Rattle.plane_model.specs.Points.{GridPoint, Segment, Path, link_between}
use Rattle.plane_model.specs.Drawing.{Drawing}
use Rattle.plane_model.specs.Arcs.{forward, backward}
use Rattle.plane_model.specs.Snapped.{links_of}
use Rattle.arc_table.specs.Direction.{point_at}
use Rattle.arc_table.specs.Lookup.{IsArcAt}
use Rattle.arc_table.specs.PathArcs.{AreArcsOf, NoneStartsAt, IsAloneAt}
use Rattle.arc_table.specs.WholeArcs.{IsPassed}
use Rattle.arc_table.proofs.ArcSteps.{arc_of, IsStep, one_place, on_link}
use Rattle.arc_table.proofs.Walks.{ends_at_start, ends_at_stop, pick}

module _ (d : Drawing) (arcs : List Path) (table : AreArcsOf d arcs) (p : GridPoint) (free : NoneStartsAt arcs p) where
  step_from : (n k : ℕ) → n < length arcs → suc k < length (arc_of arcs n) → IsStep arcs n k (record { start = point_at (arc_of arcs n) k; stop = point_at (arc_of arcs n) (suc k) })
  step_from n k l m = record { arc = l; there = m; is = refl }

  -- it is no end of an arc
  inside : (n k : ℕ) → n < length arcs → k < length (arc_of arcs n) → point_at (arc_of arcs n) k ≡ p → (0 < k) × (suc k < length (arc_of arcs n))
  inside n k l m e = (
    elim (cases_lt 0 k) [
      | inl v ↦ v
      | inr v ↦ absurd (free (forward n) l (ap (point_at (arc_of arcs n)) (let f : 0 ≡ k = omega arith in f) ∙ e))
    ],
    elim (cases_lt (suc k) (length (arc_of arcs n))) [
      | inl v ↦ v
      | inr v ↦ absurd (free (backward n) l (ap (point_at (arc_of arcs n)) (let f : length (arc_of arcs n) - 1 ≡ k = omega arith in f) ∙ e))
    ],
  )

  one_arc_at : (m n j k : ℕ) → m < length arcs → n < length arcs → j < length (arc_of arcs m) → k < length (arc_of arcs n) → point_at (arc_of arcs m) j ≡ p → point_at (arc_of arcs n) k ≡ p → n ≡ m
  one_arc_at m n j k l_m l_n l_j l_k e f =
      let j_in = inside m j l_m l_j e in
      let k_in = inside n k l_n l_k f in
      let some = j_in.0 in
      let next : suc (j - 1) ≡ j = omega arith in
      let s : Segment = record { start = point_at (arc_of arcs m) (j - 1); stop = point_at (arc_of arcs m) (suc (j - 1)) } in
      let t : Segment = record { start = point_at (arc_of arcs m) j; stop = point_at (arc_of arcs m) (suc j) } in
      let r : Segment = record { start = point_at (arc_of arcs n) k; stop = point_at (arc_of arcs n) (suc k) } in
      let h_s = step_from m (j - 1) l_m (omega arith) in
      let h_t = step_from m j l_m j_in.1 in
      let h_r = step_from n k l_n k_in.1 in
      let on : (i q : ℕ) (x : Segment) → IsStep arcs i q x → Contains (links_of d) (link_between x) = on_link (links_of d) arcs table.arrangement.ordered table.links in
      let passed : IsPassed d p = subst (IsPassed d) e ((table.whole m [] l_m).inner j j_in.0 (let g = j_in.1 in omega arith)) in
      let two = passed.two in
      elim (pick two.one two.another (link_between r) (link_between s) (link_between t) (two.only (link_between r) (on n k r h_r) (ends_at_start r p f))
      (two.only (link_between s) (on m (j - 1) s h_s) (ends_at_stop s p (ap (point_at (arc_of arcs m)) next ∙ e))) (two.only (link_between t) (on m j t h_t) (ends_at_start t p e))
      (λ g. let z = one_place arcs table.links.once m m (j - 1) j s t h_s h_t g in let w = z.1 in omega arith)) [
        | inl g ↦ (one_place arcs table.links.once n m k (j - 1) r s h_r h_s g).0
        | inr g ↦ (one_place arcs table.links.once n m k j r t h_r h_t g).0
      ]

pub alone_from : (arcs : List Path) (p : GridPoint) (r : Option ℕ) → IsArcAt arcs p r → IfSome r (IsAloneAt arcs p)
alone_from arcs p None h = tt
alone_from arcs p (Some m) h = λ d table free n l c.
    (let on = h.on in
    one_arc_at d arcs table p free m n on.0 c.0 h.there l on.1 c.1 (get_or_default (arc_of arcs m) on.0 _ p on.1 ∙ on.2) (get_or_default (arc_of arcs n) c.0 _ p c.1 ∙ c.2))
