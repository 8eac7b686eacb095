-- A point that sees a vertex, grown to a grid point, and the link between the two.
use Rattle.std.proofs.Common.{◌≡◌, inl, inr, refl, sym, ap, subst, ◌∙◌, arith, Bool, true, false, cond, List}
use Rattle.std.proofs.Math.IntN.{ℤ, pos, ◌+ℤ◌, ◌*ℤ◌, ◌-ℤ◌, neg_ℤ, *ℤ_comm, +ℤ_comm}
use Rattle.std.specs.Prelude.{Contains, ◌≤ℤ◌, ◌<ℤ◌}
use Rattle.std.proofs.lemmas.Int.{ints}
use Rattle.plane_algebra.proofs.Differences.{as_dif, same_dif, difs}
use Rattle.plane_algebra.proofs.Sign.{mul-nonneg, nonneg_of_mul, nonpos_of_mul, zero_of_mul}
use Rattle.plane_algebra.proofs.Tests.{by_test}
use Rattle.plane_parity.proofs.Mix.{nonneg_of_positive}
use Rattle.plane_parity.proofs.Cut.{IsOnSegment-swap}
use Rattle.plane_parity.proofs.Place.{SamePlace-sym}
use Rattle.plane_parity.proofs.AlongLink.{IsOnSegment-first, IsOnSegment-second}
use Rattle.plane_parity.proofs.LinkOrder.{same_grid}
use Rattle.plane_parity.proofs.Sight.{IsOnSegment-moved}
use Rattle.plane_parity.proofs.Sector.{shares_end, still_place}
use Rattle.plane_model.specs.Points.{RationalPoint, GridPoint, Segment, step_x, step_y, turn, IsOnSegment, SameWay, at, IsOn, SamePlace, is_before}
use Rattle.plane_model.specs.Arrangement.{IsBefore, IsEnd, IsArrangement, IsFree}
use Rattle.plane_model.specs.Rotation.{Dart, tail, head}
use Rattle.plane_model.specs.Sees.{SeesPoint, midpoint}
use Rattle.plane_model.proofs.PointOrder.{before_from, is_before-IsStrictOrder}
use Rattle.point_laws.proofs.Grown.{grow, grow_link, shrink, on_shrunk, place_grown, to_grown}
use Rattle.point_laws.proofs.SightLemmas.{seeing_is_off}

-- ---- numbers

stop_step : (w x a d : ℤ) → x *ℤ (w *ℤ d) -ℤ a *ℤ w ≡ w *ℤ (x *ℤ d -ℤ a *ℤ pos 1)
stop_step w x a d = rw (as_dif w, as_dif a, as_dif x, as_dif d, as_dif (pos 1)) (simp difs (same_dif _ _ _ _ (omega arith)))

sight_turn : (w px py x y rx ry d : ℤ)
    → (py *ℤ w -ℤ y *ℤ pos 1) *ℤ rx +ℤ (x *ℤ pos 1 -ℤ px *ℤ w) *ℤ ry +ℤ (px *ℤ y -ℤ py *ℤ x) *ℤ (w *ℤ d)
    ≡ ((w *ℤ py) *ℤ pos 1 -ℤ y *ℤ pos 1) *ℤ rx +ℤ (x *ℤ pos 1 -ℤ (w *ℤ px) *ℤ pos 1) *ℤ ry +ℤ ((w *ℤ px) *ℤ y -ℤ (w *ℤ py) *ℤ x) *ℤ d
sight_turn w px py x y rx ry d =
    rw (as_dif w, as_dif px, as_dif py, as_dif x, as_dif y, as_dif rx, as_dif ry, as_dif d, as_dif (pos 1)) (simp difs (same_dif _ _ _ _ (omega arith)))

-- steps and turns from the middle of the way
half_turn : (w px py x y rx ry d : ℤ)
    → ((w *ℤ py +ℤ y) *ℤ w -ℤ y *ℤ (w *ℤ pos 2)) *ℤ rx +ℤ (x *ℤ (w *ℤ pos 2) -ℤ (w *ℤ px +ℤ x) *ℤ w) *ℤ ry +ℤ ((w *ℤ px +ℤ x) *ℤ y -ℤ (w *ℤ py +ℤ y) *ℤ x) *ℤ d
    ≡ w *ℤ ((py *ℤ w -ℤ y *ℤ pos 1) *ℤ rx +ℤ (x *ℤ pos 1 -ℤ px *ℤ w) *ℤ ry +ℤ (px *ℤ y -ℤ py *ℤ x) *ℤ d)
half_turn w px py x y rx ry d =
    rw (as_dif w, as_dif px, as_dif py, as_dif x, as_dif y, as_dif rx, as_dif ry, as_dif d, as_dif (pos 1), as_dif (pos 2)) (simp difs (same_dif _ _ _ _ (omega arith)))

half_step : (w p x a d : ℤ) → w *ℤ (a *ℤ pos 1 -ℤ p *ℤ d) ≡ (a *ℤ (w *ℤ pos 2) -ℤ (w *ℤ p +ℤ x) *ℤ d) +ℤ (x *ℤ d -ℤ a *ℤ w)
half_step w p x a d = rw (as_dif w, as_dif p, as_dif x, as_dif a, as_dif d, as_dif (pos 1), as_dif (pos 2)) (simp difs (same_dif _ _ _ _ (omega arith)))

back_step : (w p x : ℤ) → p *ℤ (w *ℤ pos 2) -ℤ (w *ℤ p +ℤ x) *ℤ pos 1 ≡ neg_ℤ (x *ℤ pos 1 -ℤ p *ℤ w)
back_step w p x = rw (as_dif w, as_dif p, as_dif x, as_dif (pos 1), as_dif (pos 2)) (simp difs (same_dif _ _ _ _ (omega arith)))

still_there : (w a x : ℤ) → w *ℤ a ≡ x → a *ℤ w -ℤ x *ℤ pos 1 ≡ pos 0
still_there w a x e = (λ i. (*ℤ_comm a w ∙ e) i -ℤ x *ℤ pos 1) ∙ none x
  where
    none : (x : ℤ) → x -ℤ x *ℤ pos 1 ≡ pos 0
    none x = omega (arith, ints)

one_time : (x w : ℤ) → x *ℤ (w *ℤ pos 1) -ℤ x *ℤ w ≡ pos 0
one_time x w = rw (as_dif x, as_dif w, as_dif (pos 1), as_dif (pos 0)) (simp difs (same_dif _ _ _ _ (omega arith)))

way_times : (w a b a' b' : ℤ) → pos 0 <ℤ w → a ≡ a' → b' ≡ w *ℤ b → SameWay a b → SameWay a' b'
way_times w a b a' b' h e f s = elim s [
  | inl i ↦ inl (subst (λ (t : ℤ). pos 0 ≤ℤ t) e i.0, subst (λ (t : ℤ). pos 0 ≤ℤ t) (sym f) (mul-nonneg w b (nonneg_of_positive w h) i.1))
  | inr i ↦ inr (subst (λ (t : ℤ). t ≤ℤ pos 0) e i.0, subst (λ (t : ℤ). t ≤ℤ pos 0) (sym f) (down (w *ℤ neg_ℤ b) (w *ℤ b) (turned w b) (mul-nonneg w (neg_ℤ b) (nonneg_of_positive w h) (up b i.1))))
]
  where
    up : (b : ℤ) → b ≤ℤ pos 0 → pos 0 ≤ℤ neg_ℤ b
    up b i = omega (arith, ints)

    down : (a b : ℤ) → a ≡ neg_ℤ b → pos 0 ≤ℤ a → b ≤ℤ pos 0
    down a b e i = omega (arith, ints)

    turned : (w b : ℤ) → w *ℤ neg_ℤ b ≡ neg_ℤ (w *ℤ b)
    turned w b = rw (as_dif w, as_dif b) (simp difs (same_dif _ _ _ _ (omega arith)))

way_nested : (w a b c : ℤ) → pos 0 <ℤ w → w *ℤ a ≡ b +ℤ c → SameWay b c → SameWay a c
way_nested w a b c h e s = elim s [
  | inl i ↦ inl (nonneg_of_mul w a h (subst (λ (t : ℤ). pos 0 ≤ℤ t) (sym e) (up b c i.0 i.1)), i.1)
  | inr i ↦ inr (nonpos_of_mul w a h (subst (λ (t : ℤ). t ≤ℤ pos 0) (sym e) (down b c i.0 i.1)), i.1)
]
  where
    up : (b c : ℤ) → pos 0 ≤ℤ b → pos 0 ≤ℤ c → pos 0 ≤ℤ (b +ℤ c)
    up b c i j = omega (arith, ints)

    down : (b c : ℤ) → b ≤ℤ pos 0 → c ≤ℤ pos 0 → (b +ℤ c) ≤ℤ pos 0
    down b c i j = omega (arith, ints)

no_way : (a b : ℤ) → a ≡ neg_ℤ b → SameWay a b → b ≡ pos 0
no_way a b e s = elim s [ inl i ↦ one a b e i.0 i.1 | inr i ↦ two a b e i.0 i.1 ]
  where
    one : (a b : ℤ) → a ≡ neg_ℤ b → pos 0 ≤ℤ a → pos 0 ≤ℤ b → b ≡ pos 0
    one a b e h k = omega (arith, ints)

    two : (a b : ℤ) → a ≡ neg_ℤ b → a ≤ℤ pos 0 → b ≤ℤ pos 0 → b ≡ pos 0
    two a b e h k = omega (arith, ints)

-- ---- the grown point

abbrev pub grown_point : RationalPoint → GridPoint
grown_point z = record { x = z.X; y = z.Y }

-- a link between the grown vertex and the grown point, directed away from the vertex
pub record Spoke (p : GridPoint) (z : RationalPoint) : Type 0 where
  pub dart : Dart
  pub before : IsBefore dart.link.start dart.link.stop
  pub start : tail dart ≡ grow z.W p
  pub stop : head dart ≡ grown_point z
  pub on : (r : RationalPoint) → IsOn dart.link r → IsOnSegment (at (grow z.W p)) (at (grown_point z)) r
  pub end : (r : RationalPoint) → SamePlace r (at (grow z.W p)) → IsEnd dart.link r
  pub far : IsOn dart.link (at (grown_point z))
  pub middle : midpoint dart.link ≡ midpoint (record { start = grow z.W p; stop = grown_point z })

module _ (S : List Segment) (arr : IsArrangement S) (d : Dart) (cd : Contains S d.link) (z : RationalPoint) (sees : SeesPoint S (tail d) z) where
  abbrev p : GridPoint
  p = tail d

  abbrev w : ℤ
  w = z.W

  apart : grow z.W (tail d) ≡ grown_point z → ⊥
  apart e = sees.0 (still_there z.W (tail d).x z.X (ap (λ (g : GridPoint). g.x) e), still_there z.W (tail d).y z.Y (ap (λ (g : GridPoint). g.y) e))

  pub spoke : Spoke (tail d) z
  spoke = by_test (is_before (grow z.W (tail d)) (grown_point z))
      (λ e. record {
        dart = record { link = record { start = grow z.W (tail d); stop = grown_point z }; forward = true };
        before = before_from (grow z.W (tail d)) (grown_point z) e;
        start = refl;
        stop = refl;
        on = λ r on. on;
        end = λ r s. inl s;
        far = IsOnSegment-second (at (grow z.W (tail d))) (at (grown_point z));
        middle = refl;
      })
      (λ e. by_test (is_before (grown_point z) (grow z.W (tail d)))
      (λ f. record {
        dart = record { link = record { start = grown_point z; stop = grow z.W (tail d) }; forward = false };
        before = before_from (grown_point z) (grow z.W (tail d)) f;
        start = refl;
        stop = refl;
        on = λ r on. IsOnSegment-swap (at (grown_point z)) (at (grow z.W (tail d))) r on;
        end = λ r s. inr s;
        far = IsOnSegment-first (at (grown_point z)) (at (grow z.W (tail d)));
        middle = λ i. record { X = +ℤ_comm z.X (z.W *ℤ (tail d).x) i; Y = +ℤ_comm z.Y (z.W *ℤ (tail d).y) i; W = pos 2; positive = record { lt = tt } };
      })
      (λ f. absurd (apart (is_before-IsStrictOrder.total (grow z.W (tail d)) (grown_point z) e f))))

  -- back on the sight
  on_sight : (r : RationalPoint) → IsOnSegment (at (grow z.W (tail d))) (at (grown_point z)) r → IsOnSegment (at (tail d)) z (shrink z.W z.positive r)
  on_sight r on = record {
    collinear = sight_turn z.W (tail d).x (tail d).y z.X z.Y r.X r.Y r.W ∙ on.collinear;
    between_x = way_times z.W (step_x (at (grow z.W (tail d))) r) (step_x r (at (grown_point z))) (step_x (at (tail d)) (shrink z.W z.positive r)) (step_x (shrink z.W z.positive r) z) z.positive (to_grown z.W (tail d).x r.X r.W) (stop_step z.W z.X r.X r.W) on.between_x;
    between_y = way_times z.W (step_y (at (grow z.W (tail d))) r) (step_y r (at (grown_point z))) (step_y (at (tail d)) (shrink z.W z.positive r)) (step_y (shrink z.W z.positive r) z) z.positive (to_grown z.W (tail d).y r.Y r.W) (stop_step z.W z.Y r.Y r.W) on.between_y;
  }

  vertex_is_end : IsEnd d.link (at (tail d))
  vertex_is_end = go d.forward
    where
      go : (b : Bool) → IsEnd d.link (at (cond b d.link.start d.link.stop))
      go true = inl (still_place (at d.link.start))
      go false = inr (still_place (at d.link.stop))

  -- the spoke meets grown links in the vertex alone
  pub spoke_aside : (l : Segment) → Contains S l → (r : RationalPoint) → IsOn spoke.dart.link r → IsOn (grow_link z.W l) r → IsEnd spoke.dart.link r × IsEnd (grow_link z.W l) r
  spoke_aside l c r onq onl =
      let back = on_shrunk z.W z.positive l r onl in
      let same : SamePlace (shrink z.W z.positive r) (at (tail d)) = sees.1 l c (shrink z.W z.positive r) (IsOnSegment-swap (at (tail d)) z (shrink z.W z.positive r) (on_sight r (spoke.on r onq))) back in
      let there : SamePlace r (at (grow z.W (tail d))) = place_grown z.W z.positive (tail d) r same in (
        spoke.end r there,
        elim (shares_end S arr l d.link c cd (at (tail d)) vertex_is_end (IsOnSegment-moved (at l.start) (at l.stop) (shrink z.W z.positive r) (at (tail d)) same back)) [
          | inl s ↦ inl (subst (λ (g : GridPoint). SamePlace r (at (grow z.W g))) (same_grid (tail d) l.start s) there)
          | inr s ↦ inr (subst (λ (g : GridPoint). SamePlace r (at (grow z.W g))) (same_grid (tail d) l.stop s) there)
        ],
      )

  -- it is no grown link
  pub spoke_is_new : (l : Segment) → Contains S l → grow_link z.W l ≡ spoke.dart.link → ⊥
  spoke_is_new l c e =
      seeing_is_off S (tail d) z sees l c
      (IsOnSegment-moved (at l.start) (at l.stop) (shrink z.W z.positive (at (grown_point z))) z (one_time z.X z.W, one_time z.Y z.W)
      (on_shrunk z.W z.positive l (at (grown_point z)) (subst (λ (k : Segment). IsOn k (at (grown_point z))) (sym e) spoke.far)))

  pub spoke_turns : (c : Dart) → c.link ≡ spoke.dart.link → tail c ≡ grow z.W (tail d) → c ≡ spoke.dart
  spoke_turns c e t = go c.forward spoke.dart.forward (λ b. λ i. record { link = e i; forward = b }) t spoke.stop
    where
      go : (f g : Bool) → ((b : Bool) → ◌≡◌ {A = Dart} (record { link = c.link; forward = b }) (record { link = spoke.dart.link; forward = b })) → cond f c.link.start c.link.stop ≡ grow z.W (tail d)
          → cond g spoke.dart.link.stop spoke.dart.link.start ≡ grown_point z → ◌≡◌ {A = Dart} (record { link = c.link; forward = f }) (record { link = spoke.dart.link; forward = g })
      go true true same t s = same true
      go false false same t s = same false
      go true false same t s = absurd (apart (sym t ∙ ap (λ (k : Segment). k.start) e ∙ s))
      go false true same t s = absurd (apart (sym t ∙ ap (λ (k : Segment). k.stop) e ∙ s))

  -- ---- the middle of the spoke

  abbrev middle : RationalPoint
  middle = shrink z.W z.positive (midpoint (record { start = grow z.W (tail d); stop = grown_point z }))

  nested : (r : RationalPoint) → IsOnSegment (shrink z.W z.positive (midpoint (record { start = grow z.W (tail d); stop = grown_point z }))) z r → IsOnSegment (at (tail d)) z r
  nested r on = record {
    collinear = zero_of_mul z.W (turn (at (tail d)) z r) z.positive (sym (half_turn z.W (tail d).x (tail d).y z.X z.Y r.X r.Y r.W) ∙ on.collinear);
    between_x = way_nested z.W (step_x (at (tail d)) r) (step_x middle r) (step_x r z) z.positive (half_step z.W (tail d).x z.X r.X r.W) on.between_x;
    between_y = way_nested z.W (step_y (at (tail d)) r) (step_y middle r) (step_y r z) z.positive (half_step z.W (tail d).y z.Y r.Y r.W) on.between_y;
  }

  pub middle_is_free : IsFree S (shrink z.W z.positive (midpoint (record { start = grow z.W (tail d); stop = grown_point z }))) z
  middle_is_free l c r on onl =
      let same : SamePlace r (at (tail d)) = sees.1 l c r (IsOnSegment-swap (at (tail d)) z r (nested r on)) onl in
      let back : IsOnSegment middle z (at (tail d)) = IsOnSegment-moved middle z r (at (tail d)) same on in
      sees.0 (SamePlace-sym (at (tail d)) z (
        no_way (step_x middle (at (tail d))) (step_x (at (tail d)) z) (back_step z.W (tail d).x z.X) back.between_x,
        no_way (step_y middle (at (tail d))) (step_y (at (tail d)) z) (back_step z.W (tail d).y z.Y) back.between_y,
      ))
