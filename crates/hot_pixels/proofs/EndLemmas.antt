-- The ends of edges, added edge by edge.
use Rattle.std.proofs.Common.{◌≡◌, inl, inr, sym, ap, ◌∙◌, subst, ℕ, ◌+◌, ◌<◌, ◌≤◌, List, [], ◌∷◌, ◌++◌, length, get_or, take, Contains}
use Rattle.std.proofs.lemmas.List.{take_more, take_all}
use Rattle.std.proofs.lemmas.List.Elements.{Contains-append_left, Contains-append_right, Contains-append_cases}
use Rattle.lists.proofs.Members.{Contains-head, Contains-nil, Contains-cases}
use Rattle.plane_model.specs.Points.{GridPoint, Segment}
use Rattle.hot_pixels.specs.Marking.{IsEndOf}
use Rattle.hot_pixels.specs.HotEnds.{HaveHotEnds, AreEndsOf, AddsEnd}

pub end_is_last : (p last : GridPoint) (points : List GridPoint) → p ≡ last → Contains points last → AddsEnd p points points
end_is_last p last points e c = record { kept = λ q k. k; from = λ q k. inl k; there = subst (Contains points) (sym e) c }

pub end_is_new : (p : GridPoint) (old new : List GridPoint) → new ≡ old ++ p ∷ [] → AddsEnd p old new
end_is_new p old new e = record {
  kept = λ q c. subst (λ (xs : List GridPoint). Contains xs q) (sym e) (Contains-append_left old (p ∷ []) q c);
  from = λ q c. elim (Contains-append_cases old (p ∷ []) q (subst (λ (xs : List GridPoint). Contains xs q) e c)) [
    | inl d ↦ inl d
    | inr d ↦ elim (Contains-cases p [] q d) [ inl same ↦ inr (sym same) | inr none ↦ Contains-nil q none ]
  ];
  there = subst (λ (xs : List GridPoint). Contains xs p) (sym e) (Contains-append_right old (p ∷ []) p (Contains-head p []));
}

-- the points are ends of edges, and have those of the first n edges and the last point
pub record AreFirstEnds (edges : List Segment) (n : ℕ) (last : GridPoint) (points : List GridPoint) : Type 0 where
  pub from : (p : GridPoint) → Contains points p → (e : Segment) × Contains edges e × IsEndOf e p
  pub ends : HaveHotEnds points (take n edges)
  pub last_there : Contains points last

pub ends_begin : (edges : List Segment) (e : Segment) (last : GridPoint) (none points : List GridPoint) → 0 < length edges → e ≡ get_or edges 0 e → last ≡ e.start → none ≡ [] → points ≡ none ++ last ∷ [] → AreFirstEnds edges 0 last points
ends_begin edges e last blank points some is first empty made = record {
  from = λ p c. (e, (0, some, sym is), inl (sym (only p c) ∙ first));
  ends = record { start = λ s c. Contains-nil s c; stop = λ s c. Contains-nil s c };
  last_there = subst (λ (xs : List GridPoint). Contains xs last) (sym one) (Contains-head last []);
}
  where
    one : points ≡ last ∷ []
    one = made ∙ ap (λ (xs : List GridPoint). xs ++ last ∷ []) empty

    only : (p : GridPoint) → Contains points p → last ≡ p
    only p c = elim (Contains-cases last [] p (subst (λ (xs : List GridPoint). Contains xs p) one c)) [ inl same ↦ same | inr none ↦ Contains-nil p none ]

pub ends_more : (edges : List Segment) (n : ℕ) (last : GridPoint) (s : Segment) (old mid new : List GridPoint) → n < length edges → s ≡ get_or edges n s → AddsEnd s.start old mid → AddsEnd s.stop mid new → AreFirstEnds edges n last old → AreFirstEnds edges (n + 1) s.stop new
ends_more edges n last s old mid new l is a b h = record {
  from = λ p c. elim (b.from p c) [
    | inr e ↦ (s, here, inr e)
    | inl d ↦ elim (a.from p d) [ inr e ↦ (s, here, inl e) | inl o ↦ h.from p o ]
  ];
  ends = record {
    start = λ e c. elim (Contains-append_cases (take n edges) (s ∷ []) e (subst (λ (xs : List Segment). Contains xs e) next c)) [
      | inl d ↦ b.kept e.start (a.kept e.start (h.ends.start e d))
      | inr d ↦ elim (Contains-cases s [] e d) [ inl same ↦ subst (λ (t : Segment). Contains new t.start) same (b.kept s.start a.there) | inr none ↦ Contains-nil e none ]
    ];
    stop = λ e c. elim (Contains-append_cases (take n edges) (s ∷ []) e (subst (λ (xs : List Segment). Contains xs e) next c)) [
      | inl d ↦ b.kept e.stop (a.kept e.stop (h.ends.stop e d))
      | inr d ↦ elim (Contains-cases s [] e d) [ inl same ↦ subst (λ (t : Segment). Contains new t.stop) same b.there | inr none ↦ Contains-nil e none ]
    ];
  };
  last_there = b.there;
}
  where
    here : Contains edges s
    here = (n, l, sym is)

    next : take (n + 1) edges ≡ take n edges ++ s ∷ []
    next = take_more edges n s l ∙ ap (λ (x : Segment). take n edges ++ x ∷ []) (sym is)

pub ends_all : (edges : List Segment) (n : ℕ) (last : GridPoint) (points : List GridPoint) → length edges ≤ n → AreFirstEnds edges n last points → AreEndsOf edges points
ends_all edges n last points l h = record { from = h.from; ends = subst (HaveHotEnds points) (take_all n edges l) h.ends }
