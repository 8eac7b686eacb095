-- A row of darts counterclockwise from the positive x axis is, begun at its last quarter, the row from straight down.
use Rattle.std.proofs.Common.{◌≡◌, refl, sym, ap, subst, ◌∙◌, Bool, true, false, List, [], ◌∷◌, ◌++◌}
use Rattle.std.specs.Prelude.{All, Contains}
use Rattle.std.specs.List.Sorted.{IsPermutation}
use Rattle.std.proofs.lemmas.List.{append-nil}
use Rattle.std.proofs.lemmas.List.Elements.{All-head, All-tail, All-cons, All-nil, All-append, All-contains}
use Rattle.std.proofs.lemmas.List.Sorted.{IsPermutation-trans, IsPermutation-append_comm, All-permutation}
use Rattle.plane_snapping.proofs.Steps.{last_of-append}
use Rattle.lists.specs.Lists.{last_of}
use Rattle.plane_model.specs.Points.{GridPoint, Segment}
use Rattle.plane_model.specs.Arrangement.{IsBefore, IsArrangement}
use Rattle.plane_model.specs.Arcs.{turns_before}
use Rattle.plane_model.specs.Rotation.{Dart, tail, precedes, IsNext}
use Rattle.plane_faces.specs.Around.{opposite, darts_at, step_of_dart, InRotation, IsRotation, InTurn, IsTurn}
use Rattle.plane_faces.specs.Places.{Place, left_of, Consecutive, AgreesAround}
use Rattle.plane_faces.proofs.Lists.{all_left, all_right}
use Rattle.plane_faces.proofs.Around.{darts_are_there}
use Rattle.plane_faces.proofs.Quarters.{is_low, low_stays, low_before, high_before, low_first}
use Rattle.plane_faces.proofs.Tables.{sectors_of_table}

module _ (S : List Segment) (arr : IsArrangement S) (p : GridPoint) where
  abbrev Here : Dart → Type 0
  Here d = Contains S d.link × (tail d ≡ p)

  abbrev Low : Dart → Type 0
  Low d = is_low d ≡ true

  abbrev High : Dart → Type 0
  High d = is_low d ≡ false

  ordered : (d : Dart) → Here d → IsBefore d.link.start d.link.stop
  ordered d h = All-contains (λ l. IsBefore l.start l.stop) S d.link arr.ordered h.0

  abbrev Turns : Dart → Dart → Type 0
  Turns d e = turns_before (step_of_dart d) (step_of_dart e) ≡ true

  -- a fact of all of a list from facts of each
  each : {P Q R : Dart → Type 0} → (ds : List Dart) → All P ds → All Q ds → ((e : Dart) → P e → Q e → R e) → All R ds
  each {P} {Q} {R} ds hp hq f = λ k e lt. f _ (hp k e lt) (hq k e lt)

  all_low : (d : Dart) (ds : List Dart) → Here d → All Here ds → Low d → All (Turns d) ds → All Low ds
  all_low d ds hd h low t = each ds h t (λ e he te. low_stays d e (ordered d hd) (ordered e he) (he.1 ∙ sym hd.1) te low)

  -- the others first, then the low ones
  split : (ds : List Dart) → All Here ds → InTurn ds → (xs : List Dart) × (ys : List Dart) × (ds ≡ xs ++ ys) × All High xs × All Low ys
  split [] h t = ([], [], refl, All-nil High, All-nil Low)
  split (d ∷ ds) h t = go (is_low d) refl (split ds (All-tail Here d ds h) t.1)
    where
      go : (b : Bool) → is_low d ≡ b → (xs : List Dart) × (ys : List Dart) × (ds ≡ xs ++ ys) × All High xs × All Low ys → (xs : List Dart) × (ys : List Dart) × (d ∷ ds ≡ xs ++ ys) × All High xs × All Low ys
      go true e r = ([], d ∷ ds, refl, All-nil High, All-cons Low d ds e (all_low d ds (All-head Here d ds h) (All-tail Here d ds h) e t.0))
      go false e r = (d ∷ r.0, r.1, ap (λ (zs : List Dart). d ∷ zs) r.2, All-cons High d r.0 e r.3, r.4)

  low_rotation : (ds : List Dart) → All Here ds → InTurn ds → All Low ds → InRotation ds
  low_rotation [] h t l = tt
  low_rotation (d ∷ ds) h t l =
      let hd = All-head Here d ds h in
      let ld = All-head Low d ds l in (
        each {P = λ e. Here e × Low e} {Q = Turns d} ds (each {R = λ e. Here e × Low e} ds (All-tail Here d ds h) (All-tail Low d ds l) (λ e he le. (he, le))) t.0 (λ e k te. low_before d e (ordered d hd) (ordered e k.0) (k.0.1 ∙ sym hd.1) te ld k.1),
        low_rotation ds (All-tail Here d ds h) t.1 (All-tail Low d ds l),
      )

  high_rotation : (ds : List Dart) → All Here ds → InTurn ds → All High ds → InRotation ds
  high_rotation [] h t l = tt
  high_rotation (d ∷ ds) h t l =
      let hd = All-head Here d ds h in
      let ld = All-head High d ds l in (
        each {P = λ e. Here e × High e} {Q = Turns d} ds (each {R = λ e. Here e × High e} ds (All-tail Here d ds h) (All-tail High d ds l) (λ e he le. (he, le))) t.0 (λ e k te. high_before d e (ordered d hd) (ordered e k.0) (k.0.1 ∙ sym hd.1) te ld k.1),
        high_rotation ds (All-tail Here d ds h) t.1 (All-tail High d ds l),
      )

  turn_left : (xs ys : List Dart) → InTurn (xs ++ ys) → InTurn xs
  turn_left [] ys t = tt
  turn_left (x ∷ xs) ys t = (all_left (Turns x) xs ys t.0, turn_left xs ys t.1)

  turn_right : (xs ys : List Dart) → InTurn (xs ++ ys) → InTurn ys
  turn_right [] ys t = t
  turn_right (x ∷ xs) ys t = turn_right xs ys t.1

  both : (ys xs : List Dart) → All Here ys → All Here xs → All Low ys → All High xs → InRotation ys → InRotation xs → InRotation (ys ++ xs)
  both [] xs hy hx ly lx ry rx = rx
  both (y ∷ ys) xs hy hx ly lx ry rx =
      let h = All-head Here y ys hy in
      let l = All-head Low y ys ly in (
        All-append (λ e. precedes y e ≡ true) ys xs ry.0 (each xs hx lx (λ e he le. low_first y e (ordered y h) (ordered e he) (he.1 ∙ sym h.1) l le)),
        both ys xs (All-tail Here y ys hy) hx (All-tail Low y ys ly) lx ry.1 rx,
      )

-- ---- rows begun elsewhere

module _ {A : Type 0} (f : Place → A) where
  abbrev Agree : Dart → Dart → Type 0
  Agree x y = f (left_of x) ≡ f (left_of (opposite y))

  rows_cut : (a : Dart) (xs : List Dart) (b : Dart) (ys : List Dart) → Consecutive Agree a (xs ++ (b ∷ ys)) → Consecutive Agree a xs × Agree (last_of a xs) b × Consecutive Agree b ys
  rows_cut a [] b ys h = (tt, h.0, h.1)
  rows_cut a (x ∷ xs) b ys h = let r = rows_cut x xs b ys h.1 in ((h.0, r.0), r.1, r.2)

  rows_joined : (a : Dart) (xs : List Dart) (b : Dart) (ys : List Dart) → Consecutive Agree a xs → Agree (last_of a xs) b → Consecutive Agree b ys → Consecutive Agree a (xs ++ (b ∷ ys))
  rows_joined a [] b ys h k l = (k, l)
  rows_joined a (x ∷ xs) b ys h k l = (h.0, rows_joined x xs b ys h.1 k l)

  pub agrees_turned : (xs ys : List Dart) → AgreesAround f (xs ++ ys) → AgreesAround f (ys ++ xs)
  agrees_turned [] ys h = subst (AgreesAround f) (sym (append-nil ys)) h
  agrees_turned (x ∷ xs) [] h = subst (AgreesAround f) (append-nil (x ∷ xs)) h
  agrees_turned (x ∷ xs) (y ∷ ys) h =
      let r = rows_cut x xs y ys h.0 in (
        rows_joined y ys x xs r.2 (subst (λ (d : Dart). Agree d x) (last_of-append x xs (y ∷ ys)) h.1) r.0,
        subst (λ (d : Dart). Agree d y) (sym (last_of-append y ys (x ∷ xs))) r.1,
      )

-- a row from the positive x axis gives one from straight down, around which the same agrees
pub turn_is_rotation : {A : Type 0} (S : List Segment) → IsArrangement S → (f : Place → A) (p : GridPoint) (ds : List Dart) → IsTurn S p ds → AgreesAround f ds → (es : List Dart) × IsRotation S p es × AgreesAround f es
turn_is_rotation S arr f p ds turn agrees =
    let here : All (Here S arr p) ds = All-permutation (Here S arr p) (darts_at p S) ds turn.all (darts_are_there p S) in
    let r = split S arr p ds here turn.sorted in
    let xs = r.0 in
    let ys = r.1 in
    let here' = subst (All (Here S arr p)) r.2 here in
    let hx = all_left (Here S arr p) xs ys here' in
    let hy = all_right (Here S arr p) xs ys here' in
    let t = subst InTurn r.2 turn.sorted in (
      ys ++ xs,
      record {
        all = IsPermutation-trans (darts_at p S) (xs ++ ys) (ys ++ xs) (subst (IsPermutation (darts_at p S)) r.2 turn.all) (IsPermutation-append_comm xs ys);
        sorted = both S arr p ys xs hy hx r.4 r.3 (low_rotation S arr p ys hy (turn_right S arr p xs ys t) r.4) (high_rotation S arr p xs hx (turn_left S arr p xs ys t) r.3);
      },
      agrees_turned f xs ys (subst (AgreesAround f) r.2 agrees),
    )

pub sectors_of_turns : {A : Type 0} (S : List Segment) → IsArrangement S → (f : Place → A) → ((p : GridPoint) → (ds : List Dart) × IsTurn S p ds × AgreesAround f ds)
    → (d e : Dart) → Contains S d.link → Contains S e.link → IsNext S d e → f (left_of d) ≡ f (left_of (opposite e))
sectors_of_turns S arr f turns = sectors_of_table S arr f (λ p. turn_is_rotation S arr f p (turns p).0 (turns p).1 (turns p).2)
