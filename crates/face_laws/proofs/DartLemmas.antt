-- The darts of steps.
use Rattle.std.proofs.Common.{◌≡◌, ◌⊎◌, inl, inr, refl, sym, ap, ◌∙◌, subst, Bool, true, false, cond, not, List, ◌&&◌, ◌||◌, Contains}
use Rattle.plane_model.specs.Points.{GridPoint, Segment, is_before, link_between, reversed}
use Rattle.plane_model.specs.Arrangement.{IsBefore}
use Rattle.plane_model.specs.Rotation.{Dart, tail, precedes, is_passed, IsNext}
use Rattle.plane_model.proofs.PointOrder.{clash, before_to, is_before-IsStrictOrder}
use Rattle.plane_faces.specs.Around.{opposite}
use Rattle.plane_faces.specs.Rings.{dart_of_step}
use Rattle.plane_faces.proofs.Around.{precedes_not_itself}
use Rattle.plane_faces.proofs.Order.{before_not_itself}

-- the step's link goes from its lesser to its greater end
abbrev pub Moves : Segment → Type 0
Moves s = IsBefore (link_between s).start (link_between s).stop

pub step_tail : (s : Segment) → tail (dart_of_step s) ≡ s.start
step_tail s = go (is_before s.start s.stop)
  where
    go : (b : Bool) → cond b (cond b s (reversed s)).start (cond b s (reversed s)).stop ≡ s.start
    go true = refl
    go false = refl

pub step_head : (s : Segment) → tail (opposite (dart_of_step s)) ≡ s.stop
step_head s = go (is_before s.start s.stop)
  where
    go : (b : Bool) → cond (not b) (cond b s (reversed s)).start (cond b s (reversed s)).stop ≡ s.stop
    go true = refl
    go false = refl

pub ends_differ : (s : Segment) → Moves s → s.start ≡ s.stop → ⊥
ends_differ s m e = go (is_before s.start s.stop) m
  where
    go : (b : Bool) → IsBefore (cond b s (reversed s)).start (cond b s (reversed s)).stop → ⊥
    go true h = before_not_itself s.start (subst (λ (p : GridPoint). IsBefore s.start p) (sym e) h)
    go false h = before_not_itself s.start (subst (λ (p : GridPoint). IsBefore p s.start) (sym e) h)

pub dart_back : (s : Segment) → Moves s → dart_of_step (reversed s) ≡ opposite (dart_of_step s)
dart_back s m = go (is_before s.start s.stop) (is_before s.stop s.start) refl refl m
  where
    go : (a b : Bool) → is_before s.start s.stop ≡ a → is_before s.stop s.start ≡ b → IsBefore (cond a s (reversed s)).start (cond a s (reversed s)).stop
        → ◌≡◌ {A = Dart} (record { link = cond b (reversed s) (reversed (reversed s)); forward = b }) (record { link = cond a s (reversed s); forward = not a })
    go true true e f h = absurd (is_before-IsStrictOrder.irreflexive s.start (is_before-IsStrictOrder.trans s.start s.stop s.start e f))
    go true false e f h = refl
    go false true e f h = refl
    go false false e f h = clash (is_before s.stop s.start) (before_to s.stop s.start h) f

pub twice_opposite : (d : Dart) → opposite (opposite d) ≡ d
twice_opposite d = go d.forward
  where
    go : (b : Bool) → ◌≡◌ {A = Dart} (record { link = d.link; forward = not (not b) }) (record { link = d.link; forward = b })
    go true = refl
    go false = refl

-- a dart of the link of a step is that of the step, or goes against it
pub one_of_two : (s : Segment) (c : Dart) → c.link ≡ link_between s → (c ≡ dart_of_step s) ⊎ (c ≡ opposite (dart_of_step s))
one_of_two s c e = go c.forward (is_before s.start s.stop) (λ b. λ i. record { link = e i; forward = b })
  where
    go : (f b : Bool) → ((g : Bool) → ◌≡◌ {A = Dart} (record { link = c.link; forward = g }) (record { link = link_between s; forward = g }))
        → (◌≡◌ {A = Dart} (record { link = c.link; forward = f }) (record { link = link_between s; forward = b })) ⊎ (◌≡◌ {A = Dart} (record { link = c.link; forward = f }) (record { link = link_between s; forward = not b }))
    go true true h = inl (h true)
    go true false h = inr (h true)
    go false true h = inr (h false)
    go false false h = inl (h false)

-- of two darts alone at a vertex each is the next
pub next_of_two : (S : List Segment) (x y : Dart) → tail y ≡ tail x → ((c : Dart) → Contains S c.link → tail c ≡ tail x → (c ≡ x) ⊎ (c ≡ y)) → IsNext S x y
next_of_two S x y t two = record { same_tail = t; nothing_between = λ c h e. between c (two c h e) }
  where
    first : (p q : Bool) → q ≡ false → cond p (q && p) (q || p) ≡ false
    first true false e = refl
    first false false e = refl
    first true true e = absurd (let f : true ≡ false = e in cc)
    first false true e = absurd (let f : true ≡ false = e in cc)

    second : (p q : Bool) → q ≡ false → cond p (p && q) (p || q) ≡ false
    second true false e = refl
    second false false e = refl
    second true true e = absurd (let f : true ≡ false = e in cc)
    second false true e = absurd (let f : true ≡ false = e in cc)

    between : (c : Dart) → (c ≡ x) ⊎ (c ≡ y) → is_passed x y c ≡ false
    between c (inl e) = subst (λ (d : Dart). is_passed x y d ≡ false) (sym e) (first (precedes x y) (precedes x x) (precedes_not_itself x))
    between c (inr e) = subst (λ (d : Dart). is_passed x y d ≡ false) (sym e) (second (precedes x y) (precedes y y) (precedes_not_itself y))

-- ---- at a vertex where one step follows another and no other link ends

module _ (S : List Segment) (s t : Segment) (meet : s.stop ≡ t.start) (move_s : Moves s) (move_t : Moves t)
    (alone : (l : Segment) → Contains S l → (l.start ≡ t.start) ⊎ (l.stop ≡ t.start) → (l ≡ link_between s) ⊎ (l ≡ link_between t)) where
  end_there : (c : Dart) → tail c ≡ t.start → (c.link.start ≡ t.start) ⊎ (c.link.stop ≡ t.start)
  end_there c = go c.forward
    where
      go : (b : Bool) → cond b c.link.start c.link.stop ≡ t.start → (c.link.start ≡ t.start) ⊎ (c.link.stop ≡ t.start)
      go true e = inl e
      go false e = inr e

  pub two_there : (c : Dart) → Contains S c.link → tail c ≡ t.start → (c ≡ dart_of_step t) ⊎ (c ≡ opposite (dart_of_step s))
  two_there c h e = elim (alone c.link h (end_there c e)) [
    | inl l ↦ elim (one_of_two s c l) [
      | inl i ↦ absurd (ends_differ s move_s (sym (step_tail s) ∙ ap tail (sym i) ∙ e ∙ sym meet))
      | inr i ↦ inr i
    ]
    | inr l ↦ elim (one_of_two t c l) [
      | inl i ↦ inl i
      | inr i ↦ absurd (ends_differ t move_t (sym e ∙ ap tail i ∙ step_head t))
    ]
  ]

  pub on_next : IsNext S (dart_of_step t) (opposite (dart_of_step s))
  on_next = next_of_two S (dart_of_step t) (opposite (dart_of_step s)) (step_head s ∙ meet ∙ sym (step_tail t)) (λ c h e. two_there c h (e ∙ step_tail t))

  pub back_next : IsNext S (opposite (dart_of_step s)) (dart_of_step t)
  back_next = next_of_two S (opposite (dart_of_step s)) (dart_of_step t) (step_tail t ∙ sym meet ∙ sym (step_head s))
      (λ c h e. elim (two_there c h (e ∙ step_head s ∙ meet)) [ inl i ↦ inr i | inr i ↦ inl i ])
