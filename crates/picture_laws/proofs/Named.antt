-- The arcs along a drawn path are those that it is made of.
use Rattle.std.proofs.Common.{◌≡◌, refl, sym, ap, ◌∙◌, arith, ℕ, suc, ◌<◌, Bool, true, false, cond, ◌&&◌, ◌||◌, List, [], ◌∷◌, ◌++◌, length, get_or, All, Contains, Option, Some, None}
use Rattle.std.specs.List.{cons_option, filter_map, flat_map}
use Rattle.std.proofs.lemmas.Bool.{and_parts, false_from_ne_true}
use Rattle.std.proofs.lemmas.List.Elements.{All-head, All-tail, Contains-get_or, filter_map-append}
use Rattle.plane_model.specs.Points.{Segment, Path, same_point, same_segment}
use Rattle.plane_model.specs.Drawing.{steps}
use Rattle.plane_model.specs.Arcs.{SignedArc, backward, begins_arc, begun_arc, forward, joined_points, points_of, signed_arcs}
use Rattle.plane_model.specs.Arrangement.{IsArrangement}
use Rattle.plane_model.proofs.PointOrder.{same_point_from, same_point_to, segment_is}
use Rattle.arc_table.specs.Along.{GoAlong}
use Rattle.arc_table.proofs.ArcSteps.{IsStepOf, one_arc_of, step_between, steps_fit, steps_many}
use Rattle.line_laws.specs.Linked.{AreLinked}
use Rattle.line_laws.proofs.LinkedArcs.{arc_of_step}
use Rattle.line_laws.proofs.PathRuns.{long_points}
use Rattle.line_laws.proofs.RunSteps.{linked_steps, steps_along}

-- ---- elements that are picked

none_picked : {A B : Type 0} (pick : A → Option B) (xs : List A) → ((j : ℕ) (d : A) → j < length xs → pick (get_or xs j d) ≡ None) → filter_map pick xs ≡ []
none_picked pick [] none = refl
none_picked pick (x ∷ xs) none =
    ap (λ (o : Option _). cons_option o (filter_map pick xs)) (none 0 x (omega arith))
    ∙ none_picked pick xs (λ j d l. none (suc j) d (omega arith))

-- the first alone
one_picked : {A B : Type 0} (pick : A → Option B) (one : B) (xs : List A) → 0 < length xs → ((d : A) → pick (get_or xs 0 d) ≡ Some one) → ((j : ℕ) (d : A) → suc j < length xs → pick (get_or xs (suc j) d) ≡ None) → filter_map pick xs ≡ one ∷ []
one_picked pick one [] some first none = absurd (omega arith)
one_picked pick one (x ∷ xs) some first none =
    ap (λ (o : Option _). cons_option o (filter_map pick xs)) (first x)
    ∙ ap (λ (ys : List _). one ∷ ys) (none_picked pick xs (λ j d l. none j d (omega arith)))

-- ---- the step that a path begins with

begins_with : (path : Path) (s : Segment) → begins_arc s path ≡ true → (1 < length path) × (get_or (steps path) 0 s ≡ s)
begins_with [] s e = absurd (let f : false ≡ true = e in cc)
begins_with (p ∷ []) s e = absurd (let f : false ≡ true = e in cc)
begins_with (p ∷ q ∷ rest) s e = (omega arith, sym (is (same_segment s (record { start = p; stop = q })) refl e))
  where
    is : (b : Bool) → same_segment s (record { start = p; stop = q }) ≡ b → (b || false) ≡ true → s ≡ record { start = p; stop = q }
    is true f g = let (starts, stops) = and_parts (same_point s.start p) (same_point s.stop q) f in segment_is s (record { start = p; stop = q }) (same_point_from s.start p starts) (same_point_from s.stop q stops)
    is false f g = absurd (let h : false ≡ true = g in cc)

-- ---- the arc that a step begins

module _ (S : List Segment) (arr : IsArrangement S) (arcs : List Path) (long : All (λ arc. 1 < length arc) arcs) (along : GoAlong S arcs) where
  abbrev Step : SignedArc → ℕ → Segment → Type 0
  Step a j s = IsStepOf arcs a j s

  step_at : (a : SignedArc) (j : ℕ) (d : Segment) → a.arc < length arcs → j < length (steps (points_of arcs a)) → Step a j (get_or (steps (points_of arcs a)) j d)
  step_at a j d below l = let there = steps_fit (points_of arcs a) j l in record { arc = below; there = there; is = step_between (points_of arcs a) j d there }

  -- a step that begins a signed arc is its first
  first_of : (a : SignedArc) (s : Segment) → a.arc < length arcs → begins_arc s (points_of arcs a) ≡ true → Step a 0 s
  first_of a s below e =
      let (size, is) = begins_with (points_of arcs a) s e in
      record { arc = below; there = omega arith; is = sym is ∙ step_between (points_of arcs a) 0 s (omega arith) }

  module _ (a : SignedArc) (j : ℕ) (s : Segment) (h : Step a j s) (c : Contains (steps (points_of arcs a)) s) where
    -- only a itself may begin with s
    apart : (b : SignedArc) → b.arc < length arcs → (a ≡ b → j ≡ 0 → ⊥) → begins_arc s (points_of arcs b) ≡ false
    apart b below ne = false_from_ne_true (begins_arc s (points_of arcs b)) (λ e.
        let one = one_arc_of S arcs arr.ordered along a b j 0 s h (first_of b s below e) in
        ne one.0 one.1)

    numbered : begun_arc arcs s ≡ cond (begins_arc s (points_of arcs (forward a.arc))) (Some (forward a.arc)) (cond (begins_arc s (points_of arcs (backward a.arc))) (Some (backward a.arc)) None)
    numbered = ap (λ (n : ℕ). cond (begins_arc s (points_of arcs (forward n))) (Some (forward n)) (cond (begins_arc s (points_of arcs (backward n))) (Some (backward n)) None)) (arc_of_step S arr arcs long along a s h.arc c)

    not_first : 0 < j → begun_arc arcs s ≡ None
    not_first some =
        numbered
        ∙ (λ i. cond (apart (forward a.arc) h.arc (λ e f. absurd (omega arith)) i) (Some (forward a.arc)) (cond (apart (backward a.arc) h.arc (λ e f. absurd (omega arith)) i) (Some (backward a.arc)) None))

  first_begins : (path : Path) (s : Segment) → 1 < length path → get_or (steps path) 0 s ≡ s → begins_arc s path ≡ true
  first_begins [] s l e = absurd (omega arith)
  first_begins (p ∷ []) s l e = absurd (omega arith)
  first_begins (p ∷ q ∷ rest) s l e = ap (λ (b : Bool). b || false) (ap (same_segment s) e ∙ (λ i. same_point_to s.start s.start refl i && same_point_to s.stop s.stop refl i))

  begun_first : (a : SignedArc) (s : Segment) → Step a 0 s → Contains (steps (points_of arcs a)) s → begun_arc arcs s ≡ Some a
  begun_first a s h c = go a.is_reversed a.arc h c
    where
      go : (b : Bool) (n : ℕ) → Step (record { arc = n; is_reversed = b }) 0 s → Contains (steps (points_of arcs (record { arc = n; is_reversed = b }))) s → begun_arc arcs s ≡ Some (record { arc = n; is_reversed = b })
      go false n k on =
          numbered (forward n) 0 s k on
          ∙ ap (λ (b : Bool). cond b (Some (forward n)) (cond (begins_arc s (points_of arcs (backward n))) (Some (backward n)) None))
          (first_begins (points_of arcs (forward n)) s k.there (step_between (points_of arcs (forward n)) 0 s k.there ∙ sym k.is))
      go true n k on =
          numbered (backward n) 0 s k on
          ∙ (λ i. cond (apart (backward n) 0 s k on (forward n) k.arc (λ e f. let g : true ≡ false = ap (λ (x : SignedArc). x.is_reversed) e in absurd (cc)) i) (Some (forward n))
          (cond (first_begins (points_of arcs (backward n)) s k.there (step_between (points_of arcs (backward n)) 0 s k.there ∙ sym k.is) i) (Some (backward n)) None))

  -- the steps of a signed arc name it, once
  arc_named : (a : SignedArc) → a.arc < length arcs → filter_map (begun_arc arcs) (steps (points_of arcs a)) ≡ a ∷ []
  arc_named a below =
      let path = points_of arcs a in
      let many = steps_many path 0 (long_points S arr arcs long along a below) in
      one_picked (begun_arc arcs) a (steps path) many
      (λ d. begun_first a (get_or (steps path) 0 d) (step_at a 0 d below many) (Contains-get_or (steps path) 0 d many))
      (λ j d l. not_first a (suc j) (get_or (steps path) (suc j) d) (step_at a (suc j) d below l) (Contains-get_or (steps path) (suc j) d l) (omega arith))

  all_named : (named : List SignedArc) → All (λ a. a.arc < length arcs) named → filter_map (begun_arc arcs) (flat_map (steps_along arcs) named) ≡ named
  all_named [] there = refl
  all_named (a ∷ named) there =
      filter_map-append (begun_arc arcs) (steps_along arcs a) (flat_map (steps_along arcs) named)
      ∙ (λ i. arc_named a (All-head (λ b. b.arc < length arcs) a named there) i ++ all_named named (All-tail (λ b. b.arc < length arcs) a named there) i)

  pub arcs_named : (named : List SignedArc) → All (λ a. a.arc < length arcs) named → AreLinked arcs named → signed_arcs arcs (joined_points arcs named) ≡ named
  arcs_named named there linked = ap (filter_map (begun_arc arcs)) (linked_steps arcs named linked) ∙ all_named named there
