-- Going down bucket by bucket: the topmost link so far, and what no link further down can pass.
use Rattle.std.proofs.Common.{◌≡◌, ◌⊎◌, refl, sym, ap, ◌∙◌, subst, arith, ℕ, ◌<◌, Bool, true, false, cond, ◌&&◌, ℤ, pos, ◌-ℤ◌, List, map, length, get_or, Option, Some, None, Contains, All, inl, inr}
use Rattle.std.specs.Prelude.{◌<ℤ◌, ◌≤ℤ◌, int_lt, int_le, slice_get}
use Rattle.std.proofs.lemmas.Int.{ints}
use Rattle.std.proofs.lemmas.Bool.{and_parts}
use Rattle.std.proofs.lemmas.List.{length-map, get_or-map}
use Rattle.std.proofs.lemmas.List.Elements.{All-contains}
use Rattle.std.proofs.lemmas.Option.{slice_get-get_or}
use Rattle.bucket_grid.proofs.Numbers.{Contains-numbers_where}
use Rattle.plane_algebra.proofs.Sign.{zero_or_less}
use Rattle.plane_model.specs.Points.{GridPoint, at, step_x, turn}
use Rattle.plane_model.specs.Parity.{is_over, is_below}
use Rattle.plane_model.specs.Below.{rise, rises}
use Rattle.grid_base.specs.Boxes.{lesser, greater, box_of}
use Rattle.grid_base.specs.Grid.{Corners, greatest, least}
use Rattle.bucket_grid.specs.Rects.{share_point, boxes_near}
use Rattle.grid_base.specs.Grid.{IsOnGrid, is_on_grid, grid_point}
use Rattle.bucket_grid.specs.Rects.{Holds}
use Rattle.link_search.specs.Topmost.{HasGridEnds, IsTopmostBelow, boxes_of}
use Rattle.link_search.specs.Descent.{IsNotAbove, IsFound, IsUpper, IsNextBelow, IsSettled, bottom_of, past_bottom}
use Rattle.link_search.specs.declared.links.ArcLink.{ArcLink}
use Rattle.link_search.proofs.UnderLemmas.{le_step, lt_step, under_chain, under_by, not_under_itself, not_both_under, passes_below, not_below}

pub over_of : (p : GridPoint) (l : ArcLink) → is_below (at p) l.link ≡ true → is_over (at p) l.link ≡ true
over_of p l e = (and_parts (is_over (at p) l.link) (int_lt (pos 0) (turn (at l.link.start) (at l.link.stop) (at p))) e).0

pub turn_of : (p : GridPoint) (l : ArcLink) → is_below (at p) l.link ≡ true → pos 0 <ℤ turn (at l.link.start) (at l.link.stop) (at p)
turn_of p l e = up (turn (at l.link.start) (at l.link.stop) (at p)) (and_parts (is_over (at p) l.link) (int_lt (pos 0) (turn (at l.link.start) (at l.link.stop) (at p))) e).1
  where
    up : (a : ℤ) → int_lt (pos 0) a ≡ true → pos 0 <ℤ a
    up a e = omega (arith, ints)

-- ---- one more link

pub upper_first : (p : GridPoint) (l : ArcLink) → is_below (at p) l.link ≡ true → IsUpper p None l (Some l)
upper_first p l e = record { one = inr (refl, e); this = λ f. not_under_itself p l.link (over_of p l e); kept = λ k b h. absurd h }

pub upper_stays : (p : GridPoint) (k l : ArcLink) → is_below (at p) k.link ≡ true → is_below (at p) l.link ≡ true
    → rises (rise (at p) l.link k.link) (turn (at k.link.start) (at k.link.stop) (at l.link.stop)) ≡ true → IsUpper p (Some k) l (Some k)
upper_stays p k l bk bl e = record { one = inl refl; this = λ f. not_both_under p l.link k.link (over_of p l bl) (over_of p k bk) e; kept = λ m b h. h }

pub upper_replaced : (p : GridPoint) (k l : ArcLink) → is_below (at p) k.link ≡ true → is_below (at p) l.link ≡ true
    → rises (rise (at p) l.link k.link) (turn (at k.link.start) (at k.link.stop) (at l.link.stop)) ≡ false → IsUpper p (Some k) l (Some l)
upper_replaced p k l bk bl e = record {
  one = inr (refl, bl);
  this = λ f. not_under_itself p l.link (over_of p l bl);
  kept = λ m b h. under_chain p l.link k.link m.link (over_of p l bl) (over_of p k bk) (over_of p m b) (ap (λ (t : Bool). is_over (at p) l.link && t) e ∙ nothing (is_over (at p) l.link)) h;
}
  where
    nothing : (a : Bool) → (a && false) ≡ false
    nothing true = refl
    nothing false = refl

pub found_after : (links : List ArcLink) (p : GridPoint) (topmost : Option ArcLink) (l : ArcLink) (result : Option ArcLink) → Contains links l → IsUpper p topmost l result → IsFound links p topmost → IsFound links p result
found_after links p topmost l result c u f = elim u.one [
  | inl e ↦ subst (IsFound links p) (sym e) f
  | inr e ↦ subst (IsFound links p) (sym e.0) (c, e.1)
]

-- ---- further down

-- the point to go on from is straight below p, and a link below p that passes above it is known; at the end every one is
abbrev pub IsKnown : List ArcLink → GridPoint → Option ArcLink → Type 0
IsKnown links p best = (k : ArcLink) → Contains links k → is_below (at p) k.link ≡ true → IsNotAbove p k best

pub record IsDownTo (links : List ArcLink) (p : GridPoint) (best : Option ArcLink) (q : GridPoint) : Type 0 where
  pub straight : q.x ≡ p.x
  pub lower : q.y ≤ℤ p.y
  pub known : (k : ArcLink) → Contains links k → is_below (at p) k.link ≡ true → q.y <ℤ p.y → (greater k.link.start.y k.link.stop.y ≤ℤ q.y) ⊎ IsNotAbove p k best

abbrev pub IsReached : List ArcLink → GridPoint → Option ArcLink → Option GridPoint → Type 0
IsReached links p best None = IsKnown links p best
IsReached links p best (Some q) = IsDownTo links p best q

-- ---- one bucket further

greater_first : (m n : ℤ) → m ≤ℤ greater m n
greater_first m n = go (int_le m n) refl
  where
    go : (b : Bool) → int_le m n ≡ b → m ≤ℤ cond b n m
    go true e = omega (arith, ints)
    go false e = omega (arith, ints)

greater_second : (m n : ℤ) → n ≤ℤ greater m n
greater_second m n = go (int_le m n) refl
  where
    go : (b : Bool) → int_le m n ≡ b → n ≤ℤ cond b n m
    go true e = omega (arith, ints)
    go false e = omega (arith, ints)

lesser_first : (m n : ℤ) → lesser m n ≤ℤ m
lesser_first m n = go (int_le m n) refl
  where
    go : (b : Bool) → int_le m n ≡ b → cond b m n ≤ℤ m
    go true e = omega (arith, ints)
    go false e = omega (arith, ints)

lesser_second : (m n : ℤ) → lesser m n ≤ℤ n
lesser_second m n = go (int_le m n) refl
  where
    go : (b : Bool) → int_le m n ≡ b → cond b m n ≤ℤ n
    go true e = omega (arith, ints)
    go false e = omega (arith, ints)

-- a box over the abscissa x shares no point with a rectangle that holds (x, y): it lies above the rectangle or below it
apart_upright : (ax bx ay by lx hx ly hy x : ℤ) → ax ≤ℤ x → x ≤ℤ bx → lx ≤ℤ x → x ≤ℤ hx
    → ((int_le ax hx && int_le lx bx) && (int_le ay hy && int_le ly by)) ≡ false → (hy <ℤ ay) ⊎ (by <ℤ ly)
apart_upright ax bx ay by lx hx ly hy x a b l h e = go (int_le ax hx) (int_le lx bx) (int_le ay hy) (int_le ly by) refl refl refl refl e
  where
    go : (p q r s : Bool) → int_le ax hx ≡ p → int_le lx bx ≡ q → int_le ay hy ≡ r → int_le ly by ≡ s → ((p && q) && (r && s)) ≡ false → (hy <ℤ ay) ⊎ (by <ℤ ly)
    go false q r s f g i j k = absurd (omega (arith, ints))
    go true false r s f g i j k = absurd (omega (arith, ints))
    go true true false s f g i j k = inl (omega (arith, ints))
    go true true true false f g i j k = inr (omega (arith, ints))
    go true true true true f g i j k = absurd (cc)

module _ (links : List ArcLink) (p : GridPoint) (best result : Option ArcLink) (q : GridPoint) (rect : Corners) (held : Holds rect q) (down : IsDownTo links p best q)
    (kept : (k : ArcLink) → is_below (at p) k.link ≡ true → IsNotAbove p k best → IsNotAbove p k result)
    (near : (k : ArcLink) → Contains links k → share_point rect (box_of k.link) ≡ true → is_below (at p) k.link ≡ true → IsNotAbove p k result) where
  abbrev top : ArcLink → ℤ
  top k = greater k.link.start.y k.link.stop.y

  abbrev foot : ArcLink → ℤ
  foot k = lesser k.link.start.y k.link.stop.y

  within : (k : ArcLink) → is_below (at p) k.link ≡ true → (k.link.start.x ≤ℤ p.x) × (p.x <ℤ k.link.stop.x)
  within k b =
      let both = and_parts (int_le (step_x (at p) (at k.link.start)) (pos 0)) (int_lt (pos 0) (step_x (at p) (at k.link.stop))) (over_of p k b) in (
        le (k.link.start.x) p.x (le_step p k.link.start ∙ both.0),
        lt p.x k.link.stop.x (lt_step p k.link.stop ∙ both.1),
      )
    where
      le : (a b : ℤ) → int_le a b ≡ true → a ≤ℤ b
      le a b e = omega (arith, ints)

      lt : (a b : ℤ) → int_lt a b ≡ true → a <ℤ b
      lt a b e = omega (arith, ints)

  -- a link below p that stands above the rectangle
  above : (k : ArcLink) → Contains links k → is_below (at p) k.link ≡ true → rect.high.y <ℤ foot k → IsNotAbove p k result
  above k c b h = elim (zero_or_less (q.y -ℤ p.y)) [
    | inl level ↦ absurd (not_below p k.link (over_of p k b)
        (let x = lesser_first k.link.start.y k.link.stop.y in let u = held.upper in let d = down.lower in omega (arith, ints))
        (let x = lesser_second k.link.start.y k.link.stop.y in let u = held.upper in let d = down.lower in omega (arith, ints))
        (turn_of p k b))
    | inr less ↦ elim (down.known k c b (omega (arith, ints))) [
      | inl low ↦ (let x = lesser_first k.link.start.y k.link.stop.y in let y = greater_first k.link.start.y k.link.stop.y in let u = held.upper in absurd (omega (arith, ints)))
      | inr known ↦ kept k b known
    ]
  ]

  -- so one that is not known yet lies below the rectangle
  unknown : (k : ArcLink) → Contains links k → is_below (at p) k.link ≡ true → (top k <ℤ rect.low.y) ⊎ IsNotAbove p k result
  unknown k c b = go (share_point rect (box_of k.link)) refl
    where
      go : (t : Bool) → share_point rect (box_of k.link) ≡ t → (top k <ℤ rect.low.y) ⊎ IsNotAbove p k result
      go true e = inr (near k c e b)
      go false e =
          let w = within k b in
          let s = down.straight in
          let hl = held.left in
          let hr = held.right in
          let a = lesser_first k.link.start.x k.link.stop.x in
          let z = greater_second k.link.start.x k.link.stop.x in
          elim (apart_upright rect.low.x rect.high.x rect.low.y rect.high.y (lesser k.link.start.x k.link.stop.x) (greater k.link.start.x k.link.stop.x) (foot k) (top k) p.x
          (omega (arith, ints)) (omega (arith, ints)) (let m = w.0 in omega (arith, ints)) (let m = w.1 in omega (arith, ints)) e) [
            | inl low ↦ inl low
            | inr high ↦ inr (above k c b high)
          ]

  pub goes_on_down : IsDownTo links p result (past_bottom rect p)
  goes_on_down = record {
    straight = refl;
    lower = (let l = held.lower in let d = down.lower in omega (arith, ints));
    known = λ k c b h. elim (unknown k c b) [ inl low ↦ inl (omega (arith, ints)) | inr known ↦ inr known ];
  }

  settled : (best : Option ArcLink) → IsFound links p best → IsSettled best (bottom_of rect p) → (k : ArcLink) → is_below (at p) k.link ≡ true → top k <ℤ rect.low.y → IsNotAbove p k best
  settled None f s k b low = s
  settled (Some l) f s k b low =
      under_by p rect.low.y l.link k.link (over_of p l f.1) (over_of p k b) s
      (passes_below (bottom_of rect p) k.link (over_of p k b)
      (let x = greater_first k.link.start.y k.link.stop.y in omega (arith, ints))
      (let x = greater_second k.link.start.y k.link.stop.y in omega (arith, ints)))

  pub all_known : IsFound links p result → All HasGridEnds links → IsOnGrid p → IsNextBelow rect p result None → IsKnown links p result
  all_known f grid here next k c b = elim (unknown k c b) [
    | inr known ↦ known
    | inl low ↦ elim next [
      | inl s ↦ settled result f s k b low
      | inr off ↦ (
          let ends = All-contains HasGridEnds links k grid c in
          let y = ends.start.y_low in
          let x = greater_first k.link.start.y k.link.stop.y in
          absurd (ends_here (p.x) (rect.low.y -ℤ pos 1) here.x_low here.x_high (omega (arith, ints)) (let l = held.lower in let d = down.lower in let u = here.y_high in omega (arith, ints)) off))
    ]
  ]
    where
      ends_here : (x y : ℤ) → least ≤ℤ x → x ≤ℤ greatest → least ≤ℤ y → y ≤ℤ greatest → ((int_le least x && int_le x greatest) && (int_le least y && int_le y greatest)) ≡ false → ⊥
      ends_here x y a b c d e = go (int_le least x) (int_le x greatest) (int_le least y) (int_le y greatest) refl refl refl refl e
        where
          go : (p q r s : Bool) → int_le least x ≡ p → int_le x greatest ≡ q → int_le least y ≡ r → int_le y greatest ≡ s → ((p && q) && (r && s)) ≡ false → ⊥
          go false q r s f g i j k = absurd (omega (arith, ints))
          go true false r s f g i j k = absurd (omega (arith, ints))
          go true true false s f g i j k = absurd (omega (arith, ints))
          go true true true false f g i j k = absurd (omega (arith, ints))
          go true true true true f g i j k = absurd (cc)

pub reached_after : (links : List ArcLink) (p : GridPoint) (best result : Option ArcLink) (q : GridPoint) (rect : Corners) → Holds rect q → IsDownTo links p best q →
    ((k : ArcLink) → is_below (at p) k.link ≡ true → IsNotAbove p k best → IsNotAbove p k result) →
    ((k : ArcLink) → Contains links k → share_point rect (box_of k.link) ≡ true → is_below (at p) k.link ≡ true → IsNotAbove p k result) →
    (next : Option GridPoint) → IsFound links p result → All HasGridEnds links → IsOnGrid p → IsNextBelow rect p result next → IsReached links p result next
reached_after links p best result q rect held down kept near None f grid here n = all_known links p best result q rect held down kept near f grid here n
reached_after links p best result q rect held down kept near (Some r) f grid here n = subst (IsDownTo links p result) (sym n.0) (goes_on_down links p best result q rect held down kept near)

-- what is near a rectangle is in its bucket
pub near_of : (links : List ArcLink) (rects : List Corners) (near : List (List ℕ)) (place : ℕ) (rect : Corners) → near ≡ map (boxes_near (boxes_of links)) rects → place < length rects → get_or rects place rect ≡ rect →
    (k : ArcLink) → Contains links k → share_point rect (box_of k.link) ≡ true → (ids : List ℕ) × (slice_get near place ≡ Some ids) × ((i : ℕ) × Contains ids i × (slice_get links i ≡ Some k))
near_of links rects near place rect e l is k c s =
    let boxes = boxes_of links in
    let many : length boxes ≡ length links = length-map links (λ (a : ArcLink). box_of a.link) in
    let size : length (map (boxes_near boxes) rects) ≡ length rects = length-map rects (boxes_near boxes) in
    let below = c.1 in (
      boxes_near boxes rect,
      ap (λ (xs : List (List ℕ)). slice_get xs place) e ∙ slice_get-get_or (map (boxes_near boxes) rects) place (boxes_near boxes rect) (omega arith)
          ∙ ap Some (get_or-map (boxes_near boxes) rects place rect (boxes_near boxes rect) l ∙ ap (boxes_near boxes) is),
      (
        c.0,
        Contains-numbers_where (share_point rect) boxes c.0 (box_of k.link) (omega arith)
            (ap (share_point rect) (get_or-map (λ (a : ArcLink). box_of a.link) links c.0 k (box_of k.link) below ∙ ap (λ (a : ArcLink). box_of a.link) c.2) ∙ s),
        slice_get-get_or links c.0 k below ∙ ap Some c.2,
      ),
    )

-- what is left to do below a rectangle
pub next_of : (rect : Corners) (p : GridPoint) (best : Option ArcLink) (next : Option GridPoint) → next ≡ grid_point p.x (rect.low.y -ℤ pos 1) → IsNextBelow rect p best next
next_of rect p best next e = go (is_on_grid (past_bottom rect p)) refl next e
  where
    go : (b : Bool) → is_on_grid (past_bottom rect p) ≡ b → (next : Option GridPoint) → next ≡ cond b (Some (past_bottom rect p)) None → IsNextBelow rect p best next
    go true f None e = absurd (let g : None ≡ Some (past_bottom rect p) = e in cc)
    go true f (Some q) e = (let g : Some q ≡ Some (past_bottom rect p) = e in cc, f)
    go false f None e = inr f
    go false f (Some q) e = absurd (let g : Some q ≡ None = e in cc)

pub at_first : (links : List ArcLink) (p : GridPoint) → IsDownTo links p None p
at_first links p = record { straight = refl; lower = omega (arith, ints); known = λ k c b h. absurd (omega (arith, ints)) }

-- at the end the link is the topmost
pub is_topmost : (links : List ArcLink) (p : GridPoint) (best : Option ArcLink) → IsFound links p best → IsKnown links p best → IsTopmostBelow links p best
is_topmost links p None f known = λ k c. go k c (is_below (at p) k.link) refl
  where
    go : (k : ArcLink) → Contains links k → (b : Bool) → is_below (at p) k.link ≡ b → is_below (at p) k.link ≡ false
    go k c true e = absurd (known k c e)
    go k c false e = e
is_topmost links p (Some l) f known = record { there = f.0; below = f.1; topmost = known }
