-- Some parts of a set are the parts of all their faces.
use Rattle.std.proofs.Common.{◌≡◌, inl, inr, refl, sym, ap, subst, ◌∙◌, arith, ℕ, ◌<◌, Bool, List, [], ◌∷◌, Contains, filter, length, get_or, nat_lt}
use Rattle.std.specs.Prelude.{AllPairs}
use Rattle.std.specs.List.Sorted.{IsStrictlyIncreasing}
use Rattle.std.proofs.lemmas.Bool.{cases_lt}
use Rattle.std.proofs.lemmas.List.{get_or_default}
use Rattle.std.proofs.lemmas.List.Elements.{All-contains, All-filter, All-from_get_or, Contains-get_or}
use Rattle.std.proofs.lemmas.List.Kept.{AllPairs-filter}
use Rattle.lists.specs.Lists.{ascending, joined_up}
use Rattle.lists.proofs.Ascending.{Contains-ascending, ascending-Contains}
use Rattle.lists.proofs.Members.{Contains-joined_up, filter-Contains, joined_up-Contains}
use Rattle.plane_model.specs.Arcs.{SignedArc}
use Rattle.face_walk.specs.Places.{FaceTable}
use Rattle.face_sets.specs.Boundary.{IsLeastArc, face_right_of}
use Rattle.face_sets.specs.Joined.{AreJoined, AreParts, IsChain}
use Rattle.face_sets.specs.Parts.{IsPieceOf}
use Rattle.face_sets.proofs.JoinedLemmas.{joined_back, joined_itself, joined_over}
use Rattle.face_sets.proofs.SetLemmas.{nat_order}

module _ (faces : FaceTable) (set : List ℕ) (parts : List (List ℕ)) (are : AreParts faces set parts) (test : List ℕ → Bool) where
  abbrev kept : List (List ℕ)
  kept = filter test parts

  abbrev all : List ℕ
  all = ascending nat_lt (joined_up kept)

  -- ---- the faces of what is kept

  pub from_all : (k : ℕ) → Contains all k → (j : ℕ) × (j < length kept) × Contains (get_or kept j []) k
  from_all k h =
      let (xs, (j, l, is), c) = joined_up-Contains kept k (ascending-Contains nat_lt nat_order (joined_up kept) k h) in
      (j, l, subst (λ (ys : List ℕ). Contains ys k) (sym is ∙ get_or_default kept j xs [] l) c)

  pub to_all : (j k : ℕ) → j < length kept → Contains (get_or kept j []) k → Contains all k
  to_all j k l c = Contains-ascending nat_lt nat_order (joined_up kept) k (Contains-joined_up kept (get_or kept j []) k (Contains-get_or kept j [] l) c)

  -- the place of a part that is kept
  pub part_at : (j : ℕ) → j < length kept → (i : ℕ) × (i < length parts) × (get_or parts i [] ≡ get_or kept j [])
  part_at j l =
      let ((i, m, is), passes) = filter-Contains test parts (get_or kept j []) (Contains-get_or kept j [] l) in
      (i, m, get_or_default parts i [] (get_or kept j []) m ∙ is)

  in_set : (j k : ℕ) → j < length kept → Contains (get_or kept j []) k → Contains set k
  in_set j k l c =
      let (i, m, is) = part_at j l in
      All-contains (Contains set) (get_or parts i []) k (are.divided.faces i [] m).faces (subst (λ (xs : List ℕ). Contains xs k) (sym is) c)

  all_in_set : (k : ℕ) → Contains all k → Contains set k
  all_in_set k h = let (j, l, c) = from_all k h in in_set j k l c

  -- ---- two parts are apart, and in order

  abbrev Apart : List ℕ → List ℕ → Type 0
  Apart xs ys = (f g : ℕ) → Contains xs f → Contains ys g → AreJoined faces set f g → ⊥

  abbrev Ordered : List ℕ → List ℕ → Type 0
  Ordered xs ys = (m n : ℕ) → IsLeastArc faces xs m → IsLeastArc faces ys n → m < n

  parts_apart : AllPairs Apart parts
  parts_apart i j d less l f g c e joined =
      let first : i < length parts = omega arith in
      let same : i ≡ j = (are.joined i j f g first l (subst (λ (xs : List ℕ). Contains xs f) (get_or_default parts i d [] first) c) (subst (λ (xs : List ℕ). Contains xs g) (get_or_default parts j d [] l) e)).1 joined in
      omega arith

  parts_ordered : AllPairs Ordered parts
  parts_ordered i j d less l m n g h =
      let first : i < length parts = omega arith in
      are.in_order i j m n less l (subst (λ (xs : List ℕ). IsLeastArc faces xs m) (get_or_default parts i d [] first) g) (subst (λ (xs : List ℕ). IsLeastArc faces xs n) (get_or_default parts j d [] l) h)

  kept_apart : AllPairs Apart kept
  kept_apart = AllPairs-filter Apart test parts parts_apart

  kept_ordered : AllPairs Ordered kept
  kept_ordered = AllPairs-filter Ordered test parts parts_ordered

  one_index : (i j f g : ℕ) → i < length kept → j < length kept → Contains (get_or kept i []) f → Contains (get_or kept j []) g → AreJoined faces set f g → i ≡ j
  one_index i j f g l m c d joined = elim (cases_lt i j) [
    | inl less ↦ absurd (kept_apart i j [] less m f g c d joined)
    | inr no_less ↦ elim (cases_lt j i) [
      | inl less ↦ absurd (kept_apart j i [] less l g f d c (joined_back faces set f g (in_set i f l c) joined))
      | inr no_more ↦ omega arith
    ]
  ]

  -- ---- chains of faces stay in their part

  chain_within : (j : ℕ) → j < length kept → (f g : ℕ) (chain : List SignedArc) → Contains (get_or kept j []) f → IsChain faces set f chain g → IsChain faces all f chain g
  chain_within j l f g [] c h = h
  chain_within j l f g (a ∷ rest) c (leads, more) =
      let (i, m, is) = part_at j l in
      let (n, o, d) = are.divided.each (face_right_of faces.places a) leads.into in
      let same : i ≡ n = (are.joined i n f (face_right_of faces.places a) m o (subst (λ (xs : List ℕ). Contains xs f) (sym is) c) d).1 (joined_over faces set f a leads) in
      let right : Contains (get_or kept j []) (face_right_of faces.places a) = subst (λ (xs : List ℕ). Contains xs (face_right_of faces.places a)) (ap (λ (p : ℕ). get_or parts p []) (sym same) ∙ is) d in
      (record { arc = leads.arc; from = leads.from; into = to_all j (face_right_of faces.places a) l right }, chain_within j l (face_right_of faces.places a) g rest right more)

  chain_wider : (f g : ℕ) (chain : List SignedArc) → IsChain faces all f chain g → IsChain faces set f chain g
  chain_wider f g [] h = h
  chain_wider f g (a ∷ rest) (leads, more) = (record { arc = leads.arc; from = leads.from; into = all_in_set (face_right_of faces.places a) leads.into }, chain_wider (face_right_of faces.places a) g rest more)

  pub kept_parts : AreParts faces all kept
  kept_parts = record {
    divided = record {
      faces = All-from_get_or (IsPieceOf all) kept [] (λ j l. record {
        faces = All-from_get_or (Contains all) (get_or kept j []) 0 (λ i m. to_all j (get_or (get_or kept j []) i 0) l (Contains-get_or (get_or kept j []) i 0 m));
      });
      some = λ j l e. let (i, m, is) = part_at j l in are.divided.some i m (is ∙ e);
      each = from_all;
      once = λ i j k l m c d. one_index i j k k l m c d (joined_itself faces set k);
    };
    ascending = All-filter test IsStrictlyIncreasing parts are.ascending;
    joined = λ i j f g l m c d. (
      λ e.
          let (n, o, is) = part_at i l in
          let in_f : Contains (get_or parts n []) f = subst (λ (xs : List ℕ). Contains xs f) (sym is) c in
          let in_g : Contains (get_or parts n []) g = subst (λ (xs : List ℕ). Contains xs g) (ap (λ (p : ℕ). get_or kept p []) (sym e) ∙ sym is) d in
          let (chain, h) = (are.joined n n f g o o in_f in_g).0 refl in
          (chain, chain_within i l f g chain c h),
      λ (chain, h). one_index i j f g l m c d (chain, chain_wider f g chain h),
    );
    in_order = λ i j m n less l. kept_ordered i j [] less l m n;
  }
