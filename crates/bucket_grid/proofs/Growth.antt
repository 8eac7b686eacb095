-- A tree over a rectangle grows out of trees over its slabs.
use Rattle.std.proofs.Common.{◌≡◌, ◌⊎◌, inl, inr, refl, sym, ap, ◌∙◌, subst, arith, ℕ, zero, suc, ◌+◌, ◌-◌, ◌<◌, ◌≤◌, List, [], ◌∷◌, ◌++◌, length, get_or, map, Option, Some, None, append_assoc, length-append}
use Rattle.std.specs.List.{slice_get}
use Rattle.std.proofs.lemmas.Bool.{cases_lt}
use Rattle.std.proofs.lemmas.List.{append-nil, get_or_append_left, get_or-append_right, get_or-append-add, map-append}
use Rattle.std.proofs.lemmas.Option.{slice_get-get_or}
use Rattle.plane_model.specs.Points.{GridPoint}
use Rattle.grid_base.specs.Grid.{Corners}
use Rattle.bucket_grid.specs.declared.tree.Slabs.{Slabs}
use Rattle.bucket_grid.specs.declared.tree.Node.{Node}
use Rattle.bucket_grid.specs.declared.tree.Node.TheVariants.{Leaf, Split}
use Rattle.bucket_grid.specs.Rects.{Holds, IsPlaceOf, boxes_near}
use Rattle.bucket_grid.specs.Slabs.{along, slab_at, DividesRect, slab_part}
use Rattle.bucket_grid.specs.Tree.{place_by, place_from, place_under, Grew}
use Rattle.bucket_grid.proofs.SlabLemmas.{at_most_last, slab_holds_to, slab_holds_from}

-- ---- items of joined lists

pub slice_get-append_left : {A : Type 0} (xs ys : List A) (i : ℕ) (x : A) → slice_get xs i ≡ Some x → slice_get (xs ++ ys) i ≡ Some x
slice_get-append_left [] ys i x e = absurd (let f : None ≡ Some x = e in cc)
slice_get-append_left (y ∷ xs) ys zero x e = e
slice_get-append_left (y ∷ xs) ys (suc i) x e = slice_get-append_left xs ys i x e

pub slice_get-append_end : {A : Type 0} (xs : List A) (x : A) → slice_get (xs ++ x ∷ []) (length xs) ≡ Some x
slice_get-append_end [] x = refl
slice_get-append_end (y ∷ xs) x = slice_get-append_end xs x

pub slice_get-append_right : {A : Type 0} (xs ys : List A) (i : ℕ) → slice_get (xs ++ ys) (length xs + i) ≡ slice_get ys i
slice_get-append_right [] ys i = ap (slice_get ys) (let e : 0 + i ≡ i = omega arith in e)
slice_get-append_right (x ∷ xs) ys i = ap (slice_get (x ∷ (xs ++ ys))) (let e : suc (length xs) + i ≡ suc (length xs + i) = omega arith in e) ∙ slice_get-append_right xs ys i

-- ---- more nodes lead where the first ones did

pub place_from-more : (steps : ℕ) (nodes more : List Node) (i : ℕ) (g : GridPoint) (k : ℕ) → place_from steps nodes i g ≡ Some k → place_from steps (nodes ++ more) i g ≡ Some k
place_from-more zero nodes more i g k e = absurd (let f : None ≡ Some k = e in cc)
place_from-more (suc steps) nodes more i g k e = go (slice_get nodes i) refl e (λ j f. place_from-more steps nodes more j g k f)
  where
    go : (o : Option Node) → slice_get nodes i ≡ o → place_by (λ j. place_from steps nodes j g) o g ≡ Some k →
        ((j : ℕ) → place_from steps nodes j g ≡ Some k → place_from steps (nodes ++ more) j g ≡ Some k) →
        place_by (λ j. place_from steps (nodes ++ more) j g) (slice_get (nodes ++ more) i) g ≡ Some k
    go None h f rest = absurd (let f' : None ≡ Some k = f in cc)
    go (Some (Leaf place)) h f rest = ap (λ (o : Option Node). place_by (λ j. place_from steps (nodes ++ more) j g) o g) (slice_get-append_left nodes more i (Leaf place) h) ∙ f
    go (Some (Split s children)) h f rest =
        ap (λ (o : Option Node). place_by (λ j. place_from steps (nodes ++ more) j g) o g) (slice_get-append_left nodes more i (Split s children) h)
        ∙ rest (children + (s.last - slab_at s (along s.axis g))) f

pub place_under-more : (steps : ℕ) (nodes more : List Node) (top : Node) (g : GridPoint) (k : ℕ) → place_under steps nodes top g ≡ Some k → place_under steps (nodes ++ more) top g ≡ Some k
place_under-more steps nodes more (Leaf place) g k e = e
place_under-more steps nodes more (Split s children) g k e = place_from-more steps nodes more (children + (s.last - slab_at s (along s.axis g))) g k e

-- ---- places in joined lists of rectangles

pub place_left : (ks bs : List Corners) (g : GridPoint) (k : ℕ) → IsPlaceOf ks g k → ((j : ℕ) (d : Corners) → j < length bs → Holds (get_or bs j d) g → ⊥) → IsPlaceOf (ks ++ bs) g k
place_left ks bs g k p none = record {
  below = let l = p.below in omega (arith, length-append ks bs);
  held = λ d. subst (λ (r : Corners). Holds r g) (sym (get_or_append_left ks bs d k p.below)) (p.held d);
  only = λ j d l h. elim (cases_lt j (length ks)) [
    | inl m ↦ p.only j d m (subst (λ (r : Corners). Holds r g) (get_or_append_left ks bs d j m) h)
    | inr m ↦ absurd (none (j - length ks) d (omega (arith, length-append ks bs)) (subst (λ (r : Corners). Holds r g) (get_or-append_right ks bs (length ks) j d refl m) h))
  ];
}

pub place_right : (ks bs : List Corners) (g : GridPoint) (k : ℕ) → IsPlaceOf bs g k → ((j : ℕ) (d : Corners) → j < length ks → Holds (get_or ks j d) g → ⊥) → IsPlaceOf (ks ++ bs) g (length ks + k)
place_right ks bs g k p none = record {
  below = let l = p.below in omega (arith, length-append ks bs);
  held = λ d. subst (λ (r : Corners). Holds r g) (sym (get_or-append-add ks bs k d)) (p.held d);
  only = λ j d l h. elim (cases_lt j (length ks)) [
    | inl m ↦ absurd (none j d m (subst (λ (r : Corners). Holds r g) (get_or_append_left ks bs d j m) h))
    | inr m ↦ (let e = p.only (j - length ks) d (omega (arith, length-append ks bs)) (subst (λ (r : Corners). Holds r g) (get_or-append_right ks bs (length ks) j d refl m) h) in omega arith)
  ];
}

-- ---- a leaf

pub leaf_grown : (boxes : List Corners) (rect : Corners) (nodes : List Node) (rects new_rects : List Corners) (near new_near : List (List ℕ)) (steps : ℕ) (ids : List ℕ) (place : ℕ) →
    ids ≡ boxes_near boxes rect → place ≡ length rects → new_rects ≡ rects ++ rect ∷ [] → new_near ≡ near ++ ids ∷ [] →
    Grew steps boxes (Holds rect) nodes nodes rects new_rects near new_near (λ g. Leaf place)
leaf_grown boxes rect nodes rects new_rects near new_near steps ids place e f h i = record {
  more_nodes = [];
  more_rects = rect ∷ [];
  nodes_are = sym (append-nil nodes);
  rects_are = h;
  near_are = i ∙ ap (λ (l : List ℕ). near ++ l ∷ []) e;
  leads = λ g h. (
    0,
    ap Some (let n : place ≡ length rects + 0 = omega arith in n),
    record { below = omega arith; held = λ d. h; only = λ k d l i. omega arith },
  );
  inside = λ k d g l h. alone k d g l h;
}
  where
    alone : (k : ℕ) (d : Corners) (g : GridPoint) → k < 1 → Holds (get_or (rect ∷ []) k d) g → Holds rect g
    alone zero d g l h = h
    alone (suc k) d g l h = absurd (omega arith)

-- ---- two regions

module _ (steps : ℕ) (boxes : List Corners) (R R₁ R₂ : GridPoint → Type 0) (n₀ n₁ n₂ : List Node) (a₀ a₁ a₂ : List Corners) (b₀ b₁ b₂ : List (List ℕ)) (top top₁ top₂ : GridPoint → Node)
    (l : Grew steps boxes R₁ n₀ n₁ a₀ a₁ b₀ b₁ top₁) (h : Grew steps boxes R₂ n₁ n₂ a₁ a₂ b₁ b₂ top₂)
    (splits : (g : GridPoint) → R g → R₁ g ⊎ R₂ g) (in₁ : (g : GridPoint) → R₁ g → R g) (in₂ : (g : GridPoint) → R₂ g → R g) (apart : (g : GridPoint) → R₁ g → R₂ g → ⊥)
    (top₁_is : (g : GridPoint) → R₁ g → top₁ g ≡ top g) (top₂_is : (g : GridPoint) → R₂ g → top₂ g ≡ top g) where
  first_leads : (g : GridPoint) (k : ℕ) → R₁ g → place_under steps n₁ (top₁ g) g ≡ Some k → place_under steps n₂ (top g) g ≡ Some k
  first_leads g k r e =
      subst (λ (n : Node). place_under steps n₂ n g ≡ Some k) (top₁_is g r)
      (subst (λ (n : List Node). place_under steps n (top₁ g) g ≡ Some k) (sym h.nodes_are) (place_under-more steps n₁ h.more_nodes (top₁ g) g k e))

  leads_on : (g : GridPoint) → R g → (k : ℕ) × (place_under steps n₂ (top g) g ≡ Some (length a₀ + k)) × IsPlaceOf (l.more_rects ++ h.more_rects) g k
  leads_on g r = elim (splits g r) [
    | inl i ↦ (let w = l.leads g i in
        (w.0, first_leads g (length a₀ + w.0) i w.1, place_left l.more_rects h.more_rects g w.0 w.2 (λ j d b m. apart g i (h.inside j d g b m))))
    | inr i ↦ (let w = h.leads g i in
        let n : length a₁ + w.0 ≡ length a₀ + (length l.more_rects + w.0) = omega (arith, ap length l.rects_are, length-append a₀ l.more_rects) in (
          length l.more_rects + w.0,
          subst (λ (n : Node). place_under steps n₂ n g ≡ Some (length a₀ + (length l.more_rects + w.0))) (top₂_is g i) (w.1 ∙ ap Some n),
          place_right l.more_rects h.more_rects g w.0 w.2 (λ j d b m. apart g (l.inside j d g b m) i),
        ))
  ]

  all_inside : (k : ℕ) (d : Corners) (g : GridPoint) → k < length (l.more_rects ++ h.more_rects) → Holds (get_or (l.more_rects ++ h.more_rects) k d) g → R g
  all_inside k d g b i = elim (cases_lt k (length l.more_rects)) [
    | inl m ↦ in₁ g (l.inside k d g m (subst (λ (r : Corners). Holds r g) (get_or_append_left l.more_rects h.more_rects d k m) i))
    | inr m ↦ in₂ g (h.inside (k - length l.more_rects) d g (omega (arith, length-append l.more_rects h.more_rects)) (subst (λ (r : Corners). Holds r g) (get_or-append_right l.more_rects h.more_rects (length l.more_rects) k d refl m) i))
  ]

  pub joined_grown : Grew steps boxes R n₀ n₂ a₀ a₂ b₀ b₂ top
  joined_grown = record {
    more_nodes = l.more_nodes ++ h.more_nodes;
    more_rects = l.more_rects ++ h.more_rects;
    nodes_are = h.nodes_are ∙ ap (λ (n : List Node). n ++ h.more_nodes) l.nodes_are ∙ append_assoc n₀ l.more_nodes h.more_nodes;
    rects_are = h.rects_are ∙ ap (λ (a : List Corners). a ++ h.more_rects) l.rects_are ∙ append_assoc a₀ l.more_rects h.more_rects;
    near_are = h.near_are ∙ ap (λ (b : List (List ℕ)). b ++ map (boxes_near boxes) h.more_rects) l.near_are ∙ append_assoc b₀ (map (boxes_near boxes) l.more_rects) (map (boxes_near boxes) h.more_rects) ∙ ap (λ (b : List (List ℕ)). b₀ ++ b) (sym (map-append (boxes_near boxes) l.more_rects h.more_rects));
    leads = leads_on;
    inside = all_inside;
  }

-- ---- the slabs of a rectangle, from the last to the first

-- a point of the rectangle lies in slab k or past it
pub record IsFrom (rect : Corners) (s : Slabs) (k : ℕ) (g : GridPoint) : Type 0 where
  pub held : Holds rect g
  pub past : k ≤ slab_at s (along s.axis g)

-- the top node of the slab of a point, among those from the last slab's on
abbrev pub top_of : Slabs → List Node → GridPoint → Node
top_of s tops g = get_or tops (s.last - slab_at s (along s.axis g)) (Leaf 0)

pub nothing_grown : (steps : ℕ) (boxes : List Corners) (rect : Corners) (s : Slabs) (k : ℕ) (nodes : List Node) (rects : List Corners) (near : List (List ℕ)) (tops : List Node) → s.last < k →
    Grew steps boxes (IsFrom rect s k) nodes nodes rects rects near near (top_of s tops)
nothing_grown steps boxes rect s k nodes rects near tops l = record {
  more_nodes = [];
  more_rects = [];
  nodes_are = sym (append-nil nodes);
  rects_are = sym (append-nil rects);
  near_are = sym (append-nil near);
  leads = λ g r. absurd (let p = r.past in let m = at_most_last s (along s.axis g) in omega arith);
  inside = λ k d g b h. absurd (omega arith);
}

pub slab_grown : (steps : ℕ) (boxes : List Corners) (rect : Corners) (s : Slabs) (n₀ n₁ n₂ : List Node) (a₀ a₁ a₂ : List Corners) (b₀ b₁ b₂ : List (List ℕ)) (tops : List Node) (top : Node) (k : ℕ) →
    DividesRect rect s → length tops + k ≡ s.last →
    Grew steps boxes (IsFrom rect s (k + 1)) n₀ n₁ a₀ a₁ b₀ b₁ (top_of s tops) → Grew steps boxes (Holds (slab_part s k rect)) n₁ n₂ a₁ a₂ b₁ b₂ (λ g. top) →
    Grew steps boxes (IsFrom rect s k) n₀ n₂ a₀ a₂ b₀ b₂ (top_of s (tops ++ top ∷ []))
slab_grown steps boxes rect s n₀ n₁ n₂ a₀ a₁ a₂ b₀ b₁ b₂ tops top k divides count l h =
    joined_grown steps boxes (IsFrom rect s k) (IsFrom rect s (k + 1)) (Holds (slab_part s k rect)) n₀ n₁ n₂ a₀ a₁ a₂ b₀ b₁ b₂ (top_of s (tops ++ top ∷ [])) (top_of s tops) (λ g. top) l h
    (λ g r. elim (cases_lt k (slab_at s (along s.axis g))) [
      | inl m ↦ inl (record { held = r.held; past = omega arith })
      | inr m ↦ inr (slab_holds_from rect s divides k g (omega arith) r.held (let p = r.past in omega arith))
    ])
    (λ g r. record { held = r.held; past = let p = r.past in omega arith })
    (λ g r. let w = slab_holds_to rect s divides k g (omega arith) r in record { held = w.0; past = let e = w.1 in omega arith })
    (λ g r i. let w = slab_holds_to rect s divides k g (omega arith) i in let e = w.1 in let p = r.past in omega arith)
    (λ g r. let p = r.past in let m = at_most_last s (along s.axis g) in sym (get_or_append_left tops (top ∷ []) (Leaf 0) (s.last - slab_at s (along s.axis g)) (omega arith)))
    (λ g r. let w = slab_holds_to rect s divides k g (omega arith) r in let e = w.1 in
    let n : length tops + 0 ≡ s.last - slab_at s (along s.axis g) = omega arith in
    sym (get_or-append-add tops (top ∷ []) 0 (Leaf 0)) ∙ ap (λ (i : ℕ). get_or (tops ++ top ∷ []) i (Leaf 0)) n)

pub split_grown : (steps : ℕ) (boxes : List Corners) (rect : Corners) (s : Slabs) (n₀ n₁ n₂ : List Node) (a₀ a₁ : List Corners) (b₀ b₁ : List (List ℕ)) (tops : List Node) (children : ℕ) →
    length tops ≡ s.last + 1 → children ≡ length n₁ → n₂ ≡ n₁ ++ tops →
    Grew steps boxes (IsFrom rect s 0) n₀ n₁ a₀ a₁ b₀ b₁ (top_of s tops) →
    Grew (suc steps) boxes (Holds rect) n₀ n₂ a₀ a₁ b₀ b₁ (λ g. Split s children)
split_grown steps boxes rect s n₀ n₁ n₂ a₀ a₁ b₀ b₁ tops children count c n l = record {
  more_nodes = l.more_nodes ++ tops;
  more_rects = l.more_rects;
  nodes_are = n ∙ ap (λ (m : List Node). m ++ tops) l.nodes_are ∙ append_assoc n₀ l.more_nodes tops;
  rects_are = l.rects_are;
  near_are = l.near_are;
  leads = λ g h. (let w = l.leads g (record { held = h; past = omega arith }) in (w.0, way g (length a₀ + w.0) w.1, w.2));
  inside = λ k d g b h. (l.inside k d g b h).held;
}
  where
    way : (g : GridPoint) (k : ℕ) → place_under steps n₁ (top_of s tops g) g ≡ Some k → place_under (suc steps) n₂ (Split s children) g ≡ Some k
    way g k e =
        let i = s.last - slab_at s (along s.axis g) in
        let f : slice_get (n₁ ++ tops) (length n₁ + i) ≡ Some (top_of s tops g) = slice_get-append_right n₁ tops i ∙ slice_get-get_or tops i (Leaf 0) (omega arith) in
        let m : slice_get n₂ (children + i) ≡ Some (top_of s tops g) = ap (λ (x : List Node). slice_get x (children + i)) n ∙ ap (λ (j : ℕ). slice_get (n₁ ++ tops) (j + i)) c ∙ f in
        ap (λ (o : Option Node). place_by (λ j. place_from steps n₂ j g) o g) m
        ∙ subst (λ (x : List Node). place_under steps x (top_of s tops g) g ≡ Some k) (sym n) (place_under-more steps n₁ tops (top_of s tops g) g k e)
