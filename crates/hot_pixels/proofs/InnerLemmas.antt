-- The ends of a segment of the drawing, and the points that are looked up for it, are the points of its chain.
use Rattle.std.proofs.Common.{◌≡◌, inl, inr, refl, sym, ap, ◌∙◌, subst, arith, ℕ, Bool, true, false, not, cond, List, [], ◌∷◌, ◌++◌, get_or, Contains, Option, Some, None}
use Rattle.std.specs.List.{slice_get}
use Rattle.std.proofs.lemmas.Option.{slice_get-get_or, slice_get_within}
use Rattle.std.proofs.lemmas.List.Elements.{Contains-append_left, Contains-append_right, Contains-append_cases}
use Rattle.lists.proofs.Members.{Contains-head, Contains-later, Contains-nil, Contains-cases, Contains-filter, filter-Contains}
use Rattle.plane_algebra.proofs.Tests.{by_test, or_cases}
use Rattle.plane_model.specs.Points.{GridPoint, Segment, Path, same_point}
use Rattle.plane_model.specs.Pixel.{meets}
use Rattle.plane_model.proofs.PointOrder.{same_point_from}
use Rattle.plane_snapping.proofs.MeetsComputed.{meets_is_computed}
use Rattle.plane_snapping.proofs.Passing.{meets_start, meets_stop}
use Rattle.hot_pixels.specs.Spots.{is_end}
use Rattle.hot_pixels.specs.Edges.{HasEdgeAt}
use Rattle.hot_pixels.specs.declared.meetings.Meeting.{Meeting}
use Rattle.hot_pixels.specs.Meetings.{AreMetBack}
use Rattle.hot_pixels.specs.Marking.{IsEndOf, IsFound, AreMarks, AreEndsAnd, AreLookedUp, ends_of, others_of}
use Rattle.hot_pixels.proofs.EdgeLemmas.{meets_along, meets_back, end_along}
use Rattle.hot_pixels.proofs.MeetingLemmas.{back_found}
use Rattle.hot_pixels.proofs.ChainLemmas.{AreMet}

-- ---- ends

module _ (s : Segment) where
  end_from : (g : GridPoint) → is_end s g ≡ true → IsEndOf s g
  end_from g e = or_cases (same_point g s.start) (same_point g s.stop) e (λ f. inl (same_point_from g s.start f)) (λ f. inr (same_point_from g s.stop f))

  abbrev ends : Bool → Path
  ends b = cond b (s.start ∷ []) (s.start ∷ s.stop ∷ [])

  listed_end : (g : GridPoint) → Contains (ends_of s) g → IsEndOf s g
  listed_end g c = go (same_point s.start s.stop) c
    where
      go : (b : Bool) → Contains (ends b) g → IsEndOf s g
      go true c = elim (Contains-cases s.start [] g c) [ inl e ↦ inl (sym e) | inr d ↦ Contains-nil g d ]
      go false c = elim (Contains-cases s.start (s.stop ∷ []) g c) [
        | inl e ↦ inl (sym e)
        | inr d ↦ elim (Contains-cases s.stop [] g d) [ inl e ↦ inr (sym e) | inr k ↦ Contains-nil g k ]
      ]

  end_listed : (g : GridPoint) → IsEndOf s g → Contains (ends_of s) g
  end_listed g e = go (same_point s.start s.stop) refl e
    where
      go : (b : Bool) → same_point s.start s.stop ≡ b → IsEndOf s g → Contains (ends b) g
      go true f (inl h) = subst (Contains (s.start ∷ [])) (sym h) (Contains-head s.start [])
      go true f (inr h) = subst (Contains (s.start ∷ [])) (same_point_from s.start s.stop f ∙ sym h) (Contains-head s.start [])
      go false f (inl h) = subst (Contains (s.start ∷ s.stop ∷ [])) (sym h) (Contains-head s.start (s.stop ∷ []))
      go false f (inr h) = subst (Contains (s.start ∷ s.stop ∷ [])) (sym h) (Contains-later s.start (s.stop ∷ []) s.stop (Contains-head s.stop []))

-- the ends, and those of some points that are none
pub with_ends_are : (s : Segment) (met all : List GridPoint) → all ≡ ends_of s ++ others_of s met → AreEndsAnd s met all
with_ends_are s met all e = subst (AreEndsAnd s met) (sym e) (record {
  from = λ g c. elim (Contains-append_cases (ends_of s) (others_of s met) g c) [ inl d ↦ inl (listed_end s g d) | inr d ↦ inr (filter-Contains (λ p. not (is_end s p)) met g d).0 ];
  ends = λ g n. Contains-append_left (ends_of s) (others_of s met) g (end_listed s g n);
  others = λ g c. by_test (is_end s g)
      (λ f. Contains-append_left (ends_of s) (others_of s met) g (end_listed s g (end_from s g f)))
      (λ f. Contains-append_right (ends_of s) (others_of s met) g (Contains-filter (λ p. not (is_end s p)) met g c (ap not f)));
})

-- ---- a segment of the drawing

module _ (points : List GridPoint) (edges : List Segment) (crowded : List Bool) (lasts : List (Option ℕ)) (meetings : List Meeting) (inner : List GridPoint) (i : ℕ) (s : Segment) (all : List GridPoint) (h : AreMarks points edges crowded lasts meetings inner) (at : HasEdgeAt edges s i)
    (looked : AreLookedUp crowded lasts meetings inner s i all) (from : Contains points s.start) (to : Contains points s.stop) where
  end_is_met : (g : GridPoint) → IsEndOf s g → Contains points g × (meets s g ≡ true)
  end_is_met g (inl e) = (subst (Contains points) (sym e) from, subst (λ (p : GridPoint). meets s p ≡ true) (sym e) ((meets_is_computed s s.start).1 (meets_start s)))
  end_is_met g (inr e) = (subst (Contains points) (sym e) to, subst (λ (p : GridPoint). meets s p ≡ true) (sym e) ((meets_is_computed s s.stop).1 (meets_stop s)))

  abbrev last : Option ℕ
  last = get_or lasts i None

  has_last : slice_get lasts i ≡ Some last
  has_last = let l = slice_get_within edges i at.edge at.there in let n = h.lists.each in slice_get-get_or lasts i None (omega arith)

  mine : AreMetBack meetings at.edge last
  mine = h.lists.met i at.edge last at.there has_last

  listed_is_met : (g : GridPoint) → Contains mine.points g → Contains points g × (meets s g ≡ true)
  listed_is_met g c =
      let found = back_found meetings last mine.points g mine.back c in
      (subst (Contains points) found.2 (h.hot found.0 found.1), meets_back s at.edge g at.along (mine.met g c))

  from_all : (g : GridPoint) → Contains all g → Contains points g × (meets s g ≡ true)
  from_all g c = elim looked [
    | inl f ↦ elim ((f.1 last mine.points has_last mine.back).from g c) [ inl e ↦ end_is_met g e | inr d ↦ listed_is_met g d ]
    | inr f ↦ elim (f.1.from g c) [ inl e ↦ end_is_met g e | inr d ↦ (let m = filter-Contains (meets s) inner g d in (h.inside g m.0, m.1)) ]
  ]

  end_in_all : (g : GridPoint) → IsEndOf s g → Contains all g
  end_in_all g e = elim looked [ inl f ↦ (f.1 last mine.points has_last mine.back).ends g e | inr f ↦ f.1.ends g e ]

  found_in_all : (g : GridPoint) → meets s g ≡ true → IsFound crowded lasts meetings (Contains inner g) i g → Contains all g
  found_in_all g m found = elim looked [
    | inl f ↦ elim found [
      | inl k ↦ absurd (let n : Some false ≡ Some true = sym f.0 ∙ k.0 in cc)
      | inr k ↦ (let l = k.1 in (f.1 l.last l.points l.there l.back).others g l.listed)
    ]
    | inr f ↦ elim found [ inl k ↦ f.1.others g (Contains-filter (meets s) inner g k.1 m) | inr k ↦ absurd (f.0 k.0) ]
  ]

  pub looked_up_met : AreMet s points all
  looked_up_met = record {
    from = from_all;
    to = λ g c m. elim (h.seen g c i at.edge at.there (meets_along s at.edge g at.along m)) [ inl f ↦ end_in_all g (end_along s at.edge g at.along f) | inr f ↦ found_in_all g m f ];
  }
