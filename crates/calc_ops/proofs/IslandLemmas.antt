-- Boundaries and lists of sets, one more at a time.
use Rattle.std.proofs.Common.{◌≡◌, refl, sym, ap, ◌∙◌, subst, ℕ, ◌+◌, ◌<◌, Bool, true, false, cond, not, List, [], ◌∷◌, ◌++◌, length, get_or, take, filter, All, append-nil, append_assoc}
use Rattle.std.proofs.lemmas.List.{get_or_default, length_push}
use Rattle.std.proofs.lemmas.List.Elements.{All-append, All-push, filter_more}
use Rattle.lists.specs.Lists.{joined_up}
use Rattle.plane_model.specs.Points.{Path}
use Rattle.plane_model.specs.Arcs.{SignedArc}
use Rattle.face_walk.specs.Places.{FaceTable, face_left_of}
use Rattle.face_sets.specs.Boundary.{face_right_of, other_way}
use Rattle.face_sets.proofs.SetLemmas.{pushed}
use Rattle.calc_ops.specs.Islands.{is_island, mainland, set_at, IsWithoutIslands, AreWithoutIslands}

-- ---- lists that are joined

joined_append : {A : Type 0} (xss yss : List (List A)) → joined_up (xss ++ yss) ≡ joined_up xss ++ joined_up yss
joined_append [] yss = refl
joined_append (xs ∷ xss) yss = ap (λ zs. xs ++ zs) (joined_append xss yss) ∙ sym (append_assoc xs (joined_up xss) (joined_up yss))

one_joined : {A : Type 0} (b : Bool) (xs : List A) → joined_up (cond (not b) (xs ∷ []) []) ≡ cond b [] xs
one_joined true xs = refl
one_joined false xs = append-nil xs

module _ (arcs : List Path) (faces : FaceTable) (sets : List (List ℕ)) (least_area least_links n : ℕ) where
  -- one more part, which is an island or not
  pub mainland_more : (pieces : List (List ℕ)) (i : ℕ) (piece : List ℕ) → i < length pieces → piece ≡ get_or pieces i piece →
      mainland arcs faces sets least_area least_links n (take i pieces) ++ cond (is_island arcs faces sets least_area least_links n piece) [] piece
      ≡ mainland arcs faces sets least_area least_links n (take (i + 1) pieces)
  mainland_more pieces i piece l is =
      let island : List ℕ → Bool = is_island arcs faces sets least_area least_links n in
      let test : List ℕ → Bool = λ p. not (island p) in
      let before : List ℕ = mainland arcs faces sets least_area least_links n (take i pieces) in
      ap (λ (p : List ℕ). before ++ cond (island p) [] p) is
      ∙ sym (ap joined_up (filter_more test pieces i piece l) ∙ joined_append (filter test (take i pieces)) (cond (test (get_or pieces i piece)) (get_or pieces i piece ∷ []) [])
      ∙ ap (λ ys. before ++ ys) (one_joined (island (get_or pieces i piece)) (get_or pieces i piece)))

-- ---- what is left of sets

pub left_more : (arcs : List Path) (faces : FaceTable) (sets : List (List ℕ)) (least_area least_links many : ℕ) (left : List (List ℕ)) (set : List ℕ) →
    AreWithoutIslands arcs faces sets least_area least_links many left → IsWithoutIslands arcs faces sets least_area least_links many (set_at sets many) set →
    AreWithoutIslands arcs faces sets least_area least_links (many + 1) (left ++ set ∷ [])
left_more arcs faces sets least_area least_links many left set h one = record {
  each = length_push left set ∙ ap (λ (m : ℕ). m + 1) h.each;
  exact = pushed left set [] many (λ m kept. IsWithoutIslands arcs faces sets least_area least_links m (set_at sets m) kept) h.each h.exact one;
}

-- ---- boundaries

-- some elements of a list after another list, where one more element passes or not
pub picked_more : {A : Type 0} (test : A → Bool) (old xs : List A) (i : ℕ) (a : A) → i < length xs → a ≡ get_or xs i a →
    (old ++ filter test (take i xs)) ++ cond (test a) (a ∷ []) [] ≡ old ++ filter test (take (i + 1) xs)
picked_more {A} test old xs i a l is =
    append_assoc old (filter test (take i xs)) (cond (test a) (a ∷ []) [])
    ∙ ap (λ ys. old ++ ys) (ap (λ (b : A). filter test (take i xs) ++ cond (test b) (b ∷ []) []) is ∙ sym (filter_more test xs i a l))

pub All-if : {A : Type 0} (P : A → Type 0) (xs : List A) (x : A) (b : Bool) → All P xs → P x → All P (xs ++ cond b (x ∷ []) [])
All-if P xs x true all one = All-push P xs x all one
All-if P xs x false all one = subst (All P) (sym (append-nil xs)) all

pub All-unless : {A : Type 0} (P : A → Type 0) (xs ys : List A) (b : Bool) → All P xs → All P ys → All P (xs ++ cond b [] ys)
All-unless P xs ys true all more = subst (All P) (sym (append-nil xs)) all
All-unless P xs ys false all more = All-append P xs ys all more

-- a read of a list, whatever stands for what is past it
pub read_is : {A : Type 0} (xs : List A) (i : ℕ) (a d : A) → i < length xs → a ≡ get_or xs i a → a ≡ get_or xs i d
read_is xs i a d l is = is ∙ get_or_default xs i a d l

-- the other side of an arc
pub other_side : (places : List ℕ) (a turned : SignedArc) → turned ≡ other_way a → face_left_of places turned ≡ face_right_of places a
other_side places a turned e = ap (face_left_of places) e
