-- The arcs of a drawing: each link stands in one, and a trail goes along all of an arc or none of it.
use Rattle.std.proofs.Common.{◌≡◌, ◌⊎◌, inl, inr, refl, sym, ap, ◌∙◌, subst, ℕ, ◌<◌, Bool, true, false, not, List, [], ◌∷◌, map, filter, length, get_or, Contains}
use Rattle.std.specs.Prelude.{if◌then◌else◌}
use Rattle.std.proofs.lemmas.List.{get_or_default}
use Rattle.arc_laws.proofs.Modelled.{same_from}
use Rattle.lists.specs.Lists.{each_once, same_list}
use Rattle.lists.proofs.Ascending.{Contains-ascending, ascending-Contains}
use Rattle.lists.proofs.Members.{Contains-cases, Contains-filter, Contains-head, Contains-later, Contains-map, Contains-nil, map-Contains}
use Rattle.plane_model.specs.Points.{Segment, Path, is_before, link_before, link_between, reversed, same_point}
use Rattle.plane_model.specs.Arcs.{arc_along, arcs_of, is_node}
use Rattle.plane_model.specs.Drawing.{Drawing, paths_of, steps, steps_of_paths}
use Rattle.plane_model.specs.Snapped.{links_of}
use Rattle.plane_model.proofs.PointOrder.{link_before-IsStrictOrder}
use Rattle.printed_laws.proofs.ArcSides.{once_there, two_links}
use Rattle.printed_laws.proofs.Constant.{there_or_not}
use Rattle.answer_laws.proofs.Trails.{GoesAlong, IsWhole, arc_goes_along, arc_whole}

there_once : {A : Type 0} (same : A → A → Bool) → ((x y : A) → same x y ≡ true → x ≡ y) → (xs : List A) (y : A) → Contains xs y → Contains (each_once same xs) y
there_once same tells [] y c = c
there_once {A} same tells (x ∷ xs) y c = elim (Contains-cases x xs y c) [
  | inl e ↦ here e
  | inr k ↦ go (same x y) refl (there_once same tells xs y k)
]
  where
    here : x ≡ y → Contains (x ∷ (filter (λ z. not (same x z)) (each_once same xs))) y
    here e = subst (Contains (x ∷ (filter (λ z. not (same x z)) (each_once same xs)))) e (Contains-head x (filter (λ z. not (same x z)) (each_once same xs)))

    go : (b : Bool) → same x y ≡ b → Contains (each_once same xs) y → Contains (x ∷ (filter (λ z. not (same x z)) (each_once same xs))) y
    go true f rest = here (tells x y f)
    go false f rest = Contains-later x (filter (λ z. not (same x z)) (each_once same xs)) y (Contains-filter (λ z. not (same x z)) (each_once same xs) y rest (ap not f))

-- a link is a step along it, or the reverse of one
of_link : (u l : Segment) → link_between u ≡ l → (l ≡ u) ⊎ (l ≡ reversed u)
of_link u l = go (is_before u.start u.stop)
  where
    go : (b : Bool) → (if b then u else reversed u) ≡ l → (l ≡ u) ⊎ (l ≡ reversed u)
    go true e = inl (sym e)
    go false e = inr (sym e)

module _ (s : Drawing) where
  abbrev S : List Segment
  S = links_of s

  abbrev arcs : List Path
  arcs = arcs_of s (links_of s)

  pub arcs_whole : (n : ℕ) → IsWhole (links_of s) (get_or (arcs_of s (links_of s)) n [])
  arcs_whole n = go (there_or_not arcs n [])
    where
      go : Contains (arcs_of s (links_of s)) (get_or (arcs_of s (links_of s)) n []) ⊎ (get_or (arcs_of s (links_of s)) n [] ≡ []) → IsWhole (links_of s) (get_or (arcs_of s (links_of s)) n [])
      go (inr none) = λ X trail t c x. Contains-nil t (subst (λ (path : Path). Contains (steps path) t) none c)
      go (inl there) =
          let (t, at_t, is) = map-Contains (arc_along (is_node s S) S) (steps_of_paths (paths_of s)) (get_or arcs n []) (once_there (same_list same_point) (map (arc_along (is_node s S) S) (steps_of_paths (paths_of s))) (get_or arcs n []) there) in
          subst (IsWhole S) is (arc_whole S (is_node s S) (two_links s S) t (Contains-ascending link_before link_before-IsStrictOrder (map link_between (steps_of_paths (paths_of s))) (link_between t) (Contains-map link_between (steps_of_paths (paths_of s)) t at_t)))

  -- an arc that goes along a link
  pub some_arc : (l : Segment) → Contains (links_of s) l → (n : ℕ) × (n < length (arcs_of s (links_of s))) × GoesAlong l (get_or (arcs_of s (links_of s)) n [])
  some_arc l c =
      let (u, at_u, is) = map-Contains link_between (steps_of_paths (paths_of s)) l (ascending-Contains link_before link_before-IsStrictOrder (map link_between (steps_of_paths (paths_of s))) l c) in
      let arc : Path = arc_along (is_node s S) S u in
      let (n, below, at) = there_once (same_list same_point) same_from (map (arc_along (is_node s S) S) (steps_of_paths (paths_of s))) arc (Contains-map (arc_along (is_node s S) S) (steps_of_paths (paths_of s)) u at_u) in
      let here : get_or arcs n [] ≡ arc = get_or_default arcs n [] arc below ∙ at in
      (n, below, subst (GoesAlong l) (sym here) (along u arc (of_link u l is) (arc_goes_along (is_node s S) S u)))
    where
      along : (u : Segment) (arc : Path) → (l ≡ u) ⊎ (l ≡ reversed u) → GoesAlong u arc → GoesAlong l arc
      along u arc (inl e) (inl k) = inl (subst (Contains (steps arc)) (sym e) k)
      along u arc (inl e) (inr k) = inr (subst (Contains (steps arc)) (ap reversed (sym e)) k)
      along u arc (inr e) (inl k) = inr (subst (Contains (steps arc)) (ap reversed (sym e)) k)
      along u arc (inr e) (inr k) = inl (subst (Contains (steps arc)) (sym e) k)
