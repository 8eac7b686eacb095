-- Chains of arcs between faces of a set, and the classes that joining makes of its places.
use Rattle.std.proofs.Common.{◌≡◌, ◌⊎◌, inl, inr, refl, sym, ap, ◌∙◌, subst, arith, ℕ, ◌^◌, ◌<◌, ◌≤◌, Bool, cond, List, [], ◌∷◌, ◌++◌, length, get_or, map, set, nat_lt, Contains, length-set}
use Rattle.std.specs.List.Sorted.{IsStrictlyIncreasing}
use Rattle.std.proofs.lemmas.Bool.{cases_lt, cases_eq, eq-eqb, ne_eqb, lt-ltb, le-ltb}
use Rattle.std.proofs.lemmas.List.{get_or-map, get_or-set_same, get_or-set_other}
use Rattle.std.proofs.lemmas.List.Elements.{Contains-get_or, Contains-append_left, Contains-push, Contains-push_cases}
use Rattle.plane_model.specs.Arcs.{SignedArc}
use Rattle.face_walk.specs.Places.{FaceTable, face_left_of}
use Rattle.face_walk.specs.Joining.{AreAlone, renamed, made_one}
use Rattle.face_sets.specs.declared.joined_faces.Side.{Side}
use Rattle.face_sets.specs.Boundary.{other_way, face_right_of}
use Rattle.face_sets.specs.Joined.{LeadsOver, IsChain, AreJoined, AreJoinedBy, AreSound, IsCoarser, IsJoinedOver, IsJoinedAround, AreLeastNumbers}
use Rattle.face_sets.proofs.BoundaryLemmas.{back_again, one_place, place_in}

-- ---- chains

module _ (faces : FaceTable) (inside : List ℕ) where
  pub joined_itself : (f : ℕ) → AreJoined faces inside f f
  joined_itself f = ([], refl)

  chain_on : (f g h : ℕ) (xs ys : List SignedArc) → IsChain faces inside f xs g → IsChain faces inside g ys h → IsChain faces inside f (xs ++ ys) h
  chain_on f g h [] ys c d = subst (λ (x : ℕ). IsChain faces inside x ys h) (sym c) d
  chain_on f g h (a ∷ xs) ys c d = (c.0, chain_on (face_right_of faces.places a) g h xs ys c.1 d)

  pub joined_on : (f g h : ℕ) → AreJoined faces inside f g → AreJoined faces inside g h → AreJoined faces inside f h
  joined_on f g h c d = (c.0 ++ d.0, chain_on f g h c.0 d.0 c.1 d.1)

  pub joined_over : (f : ℕ) (a : SignedArc) → LeadsOver faces inside f a → AreJoined faces inside f (face_right_of faces.places a)
  joined_over f a over = (a ∷ [], (over, refl))

  chain_back : (f g : ℕ) (xs : List SignedArc) → Contains inside f → IsChain faces inside f xs g → AreJoined faces inside g f
  chain_back f g [] there c = ([], sym c)
  chain_back f g (a ∷ xs) there c =
      let again : face_right_of faces.places (other_way a) ≡ f = ap (face_left_of faces.places) (back_again a) ∙ c.0.from in
      let over : LeadsOver faces inside (face_right_of faces.places a) (other_way a) = record {
        arc = c.0.arc;
        from = refl;
        into = subst (λ (x : ℕ). Contains inside x) (sym again) there;
      } in
      joined_on g (face_right_of faces.places a) f (chain_back (face_right_of faces.places a) g xs c.0.into c.1)
      (subst (λ (x : ℕ). AreJoined faces inside (face_right_of faces.places a) x) again (joined_over (face_right_of faces.places a) (other_way a) over))

  pub joined_back : (f g : ℕ) → Contains inside f → AreJoined faces inside f g → AreJoined faces inside g f
  joined_back f g there c = chain_back f g c.0 there c.1

-- ---- two classes made one

renamed_yes : (m n k : ℕ) → k ≡ m → renamed m n k ≡ n
renamed_yes m n k e = ap (λ (b : Bool). cond b n k) (eq-eqb k m e)

renamed_no : (m n k : ℕ) → (k ≡ m → ⊥) → renamed m n k ≡ k
renamed_no m n k e = ap (λ (b : Bool). cond b n k) (ne_eqb k m e)

-- what is renamed alike
renamed_alike : (x y k l : ℕ) → renamed x y k ≡ renamed x y l → (k ≡ l) ⊎ (((k ≡ x) × (l ≡ y)) ⊎ ((k ≡ y) × (l ≡ x)))
renamed_alike x y k l e = elim (cases_eq k x) [
  | inl f ↦ elim (cases_eq l x) [
    | inl g ↦ inl (f ∙ sym g)
    | inr g ↦ inr (inl (f, sym (sym (renamed_yes x y k f) ∙ e ∙ renamed_no x y l g)))
  ]
  | inr f ↦ elim (cases_eq l x) [
    | inl g ↦ inr (inr (sym (renamed_no x y k f) ∙ e ∙ renamed_yes x y l g, g))
    | inr g ↦ inl (sym (renamed_no x y k f) ∙ e ∙ renamed_no x y l g)
  ]
]

record IsRenamed (classes new : List ℕ) (a b : ℕ) : Type 0 where
  kept : (k l : ℕ) → k < length classes → l < length classes → get_or classes k 0 ≡ get_or classes l 0 → get_or new k 0 ≡ get_or new l 0
  alike : (k l : ℕ) → k < length classes → l < length classes → get_or new k 0 ≡ get_or new l 0 →
      (get_or classes k 0 ≡ get_or classes l 0) ⊎ (((get_or classes k 0 ≡ a) × (get_or classes l 0 ≡ b)) ⊎ ((get_or classes k 0 ≡ b) × (get_or classes l 0 ≡ a)))
  one : (k l : ℕ) → k < length classes → l < length classes → get_or classes k 0 ≡ a → get_or classes l 0 ≡ b → get_or new k 0 ≡ get_or new l 0

renamed_is : (classes : List ℕ) (a b : ℕ) → IsRenamed classes (map (renamed a b) classes) a b
renamed_is classes a b = record {
  kept = λ k l m n e. read k m ∙ ap (renamed a b) e ∙ sym (read l n);
  alike = λ k l m n e. renamed_alike a b (get_or classes k 0) (get_or classes l 0) (sym (read k m) ∙ e ∙ read l n);
  one = λ k l m n e f. read k m ∙ renamed_yes a b (get_or classes k 0) e ∙ sym (read l n ∙ to_b (get_or classes l 0) f);
}
  where
    read : (k : ℕ) → k < length classes → get_or (map (renamed a b) classes) k 0 ≡ renamed a b (get_or classes k 0)
    read k l = get_or-map (renamed a b) classes k 0 0 l

    to_b : (k : ℕ) → k ≡ b → renamed a b k ≡ b
    to_b k e = elim (cases_eq k a) [ inl f ↦ renamed_yes a b k f | inr f ↦ renamed_no a b k f ∙ e ]

turned : (classes new : List ℕ) (a b : ℕ) → IsRenamed classes new b a → IsRenamed classes new a b
turned classes new a b h = record {
  kept = h.kept;
  alike = λ k l m n e. elim (h.alike k l m n e) [ inl f ↦ inl f | inr f ↦ inr (elim f [ inl g ↦ inr g | inr g ↦ inl g ]) ];
  one = λ k l m n e f. sym (h.one l k n m f e);
}

made_from : (classes : List ℕ) (a b : ℕ) → IsRenamed classes (cond (nat_lt a b) (map (renamed b a) classes) (map (renamed a b) classes)) a b
made_from classes a b = elim (cases_lt a b) [
  | inl less ↦ subst (λ (new : List ℕ). IsRenamed classes new a b) (ap (λ (t : Bool). cond t (map (renamed b a) classes) (map (renamed a b) classes)) (sym (lt-ltb a b less)))
      (turned classes (map (renamed b a) classes) a b (renamed_is classes b a))
  | inr more ↦ subst (λ (new : List ℕ). IsRenamed classes new a b) (ap (λ (t : Bool). cond t (map (renamed b a) classes) (map (renamed a b) classes)) (sym (le-ltb a b more)))
      (renamed_is classes a b)
]

made_is : (classes : List ℕ) (m n : ℕ) → IsRenamed classes (made_one m n classes) (get_or classes m 0) (get_or classes n 0)
made_is classes m n = made_from classes (get_or classes m 0) (get_or classes n 0)

pub made_same : (classes : List ℕ) (m n : ℕ) → m < length classes → n < length classes → get_or (made_one m n classes) m 0 ≡ get_or (made_one m n classes) n 0
made_same classes m n l k = (made_is classes m n).one m n l k refl refl

pub made_sound : (faces : FaceTable) (inside classes : List ℕ) (m n : ℕ) → length classes ≡ length inside → m < length inside → n < length inside →
    AreJoined faces inside (get_or inside m 0) (get_or inside n 0) → AreSound faces inside classes → AreSound faces inside (made_one m n classes)
made_sound faces inside classes m n each lm ln two sound i j li lj e =
    let at : ℕ → ℕ = λ k. get_or inside k 0 in
    elim ((made_is classes m n).alike i j (omega arith) (omega arith) e) [
      | inl f ↦ sound i j li lj f
      | inr f ↦ elim f [
        | inl g ↦ joined_on faces inside (at i) (at m) (at j) (sound i m li lm g.0) (joined_on faces inside (at m) (at n) (at j) two (sound n j ln lj (sym g.1)))
        | inr g ↦ joined_on faces inside (at i) (at n) (at j) (sound i n li ln g.0) (joined_on faces inside (at n) (at m) (at j) (joined_back faces inside (at m) (at n) (Contains-get_or inside m 0 lm) two) (sound m j lm lj (sym g.1)))
      ]
    ]

-- ---- from arc to arc

pub alone_sound : (faces : FaceTable) (inside classes : List ℕ) → length classes ≡ length inside → AreAlone classes → AreSound faces inside classes
alone_sound faces inside classes each alone i j li lj e =
    let same : i ≡ j = sym (alone i (omega arith)) ∙ e ∙ alone j (omega arith) in
    subst (λ (k : ℕ). AreJoined faces inside (get_or inside i 0) (get_or inside k 0)) same (joined_itself faces inside (get_or inside i 0))

chain_class : (faces : FaceTable) (inside classes : List ℕ) → IsStrictlyIncreasing inside → ((k : ℕ) → k < length inside → IsJoinedAround faces inside k classes) →
    (f g : ℕ) (chain : List SignedArc) (i j : ℕ) → i < length inside → j < length inside → get_or inside i 0 ≡ f → get_or inside j 0 ≡ g → IsChain faces inside f chain g → get_or classes i 0 ≡ get_or classes j 0
chain_class faces inside classes up around f g [] i j li lj fi gj c = ap (λ (k : ℕ). get_or classes k 0) (one_place inside i j up li lj (fi ∙ c ∙ sym gj))
chain_class faces inside classes up around f g (a ∷ rest) i j li lj fi gj c =
    let (k, lk, is) = place_in inside (face_right_of faces.places a) c.0.into in
    around i li a c.0.arc (c.0.from ∙ sym fi) k lk is ∙ chain_class faces inside classes up around (face_right_of faces.places a) g rest k j lk lj is gj c.1

pub joined_by : (faces : FaceTable) (inside classes : List ℕ) → IsStrictlyIncreasing inside → AreSound faces inside classes → ((k : ℕ) → k < length inside → IsJoinedAround faces inside k classes) → AreJoinedBy faces inside classes
joined_by faces inside classes up sound around i j li lj = (
  λ e. sound i j li lj e,
  λ h. chain_class faces inside classes up around (get_or inside i 0) (get_or inside j 0) h.0 i j li lj refl refl h.1,
)

pub over_kept : (faces : FaceTable) (inside old new : List ℕ) (i : ℕ) (a : SignedArc) → length old ≡ length inside → i < length inside → IsCoarser old new → IsJoinedOver faces inside i a old → IsJoinedOver faces inside i a new
over_kept faces inside old new i a each l kept over j m e = kept i j (omega arith) (omega arith) (over j m e)

pub around_kept : (faces : FaceTable) (inside old new : List ℕ) (i : ℕ) → length old ≡ length inside → i < length inside → IsCoarser old new → IsJoinedAround faces inside i old → IsJoinedAround faces inside i new
around_kept faces inside old new i each l kept around a arc left = over_kept faces inside old new i a each l kept (around a arc left)

-- ---- least numbers

pub least_more : (classes : List ℕ) (some : List Side) (numbers : List ℕ) (s : Side) (n v : ℕ) → AreLeastNumbers classes some numbers → get_or classes s.place 0 ≡ n → n < length numbers → s.arc.arc < 2 ^ 32 →
    v ≤ get_or numbers n 0 → v ≤ s.arc.arc → (v ≡ get_or numbers n 0) ⊎ (v ≡ s.arc.arc) → AreLeastNumbers classes (some ++ s ∷ []) (set numbers n v)
least_more classes some numbers s n v h is ln small low_number low_arc which = record {
  few = λ k d l. few k d l;
  least = λ k t l c e. elim (Contains-push_cases some s t c) [
    | inl old ↦ elim (cases_eq k n) [
      | inl same ↦ (let o = here k same in let r = h.least n t ln old (e ∙ same) in omega arith)
      | inr other ↦ (let o = there k other in let r = h.least k t (within k l) old e in omega arith)
    ]
    | inr new ↦
        (let same : k ≡ n = sym e ∙ ap (λ (u : Side). get_or classes u.place 0) (sym new) ∙ is in
        let o = here k same in
        let a : s.arc.arc ≡ t.arc.arc = ap (λ (u : Side). u.arc.arc) new in
        omega arith)
  ];
  used = λ k l. elim (cases_eq k n) [
    | inl same ↦ elim which [
      | inl e ↦ elim (h.used n ln) [
        | inl most ↦ inl (here k same ∙ e ∙ most)
        | inr w ↦ inr (w.0, Contains-append_left some (s ∷ []) w.0 w.1, w.2 ∙ sym same, w.3 ∙ sym e ∙ sym (here k same))
      ]
      | inr e ↦ inr (s, Contains-push some s, is ∙ sym same, sym e ∙ sym (here k same))
    ]
    | inr other ↦ elim (h.used k (within k l)) [
      | inl most ↦ inl (there k other ∙ most)
      | inr w ↦ inr (w.0, Contains-append_left some (s ∷ []) w.0 w.1, w.2, w.3 ∙ sym (there k other))
    ]
  ];
  below = λ k l. elim (cases_eq k n) [
    | inl same ↦ (let o = here k same in let b = h.below n ln in omega arith)
    | inr other ↦ (let o = there k other in let b = h.below k (within k l) in omega arith)
  ];
}
  where
    within : (k : ℕ) → k < length (set numbers n v) → k < length numbers
    within k l = let e = length-set numbers n v in omega arith

    here : (k : ℕ) → k ≡ n → get_or (set numbers n v) k 0 ≡ v
    here k e = ap (λ (i : ℕ). get_or (set numbers n v) i 0) e ∙ get_or-set_same numbers n v 0 ln

    there : (k : ℕ) → (k ≡ n → ⊥) → get_or (set numbers n v) k 0 ≡ get_or numbers k 0
    there k e = get_or-set_other numbers n k v 0 e

    few : (k : ℕ) (d : Side) → k < length (some ++ s ∷ []) → (get_or (some ++ s ∷ []) k d).arc.arc < 2 ^ 32
    few k d l = elim (Contains-push_cases some s (get_or (some ++ s ∷ []) k d) (Contains-get_or (some ++ s ∷ []) k d l)) [
      | inl (j, m, e) ↦ subst (λ (u : Side). u.arc.arc < 2 ^ 32) e (h.few j (get_or (some ++ s ∷ []) k d) m)
      | inr e ↦ subst (λ (u : Side). u.arc.arc < 2 ^ 32) e small
    ]
