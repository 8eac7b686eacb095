-- The runs of a list whose elements stand for pieces of another are the runs of that list.
use Rattle.std.proofs.Common.{◌≡◌, refl, sym, ap, ◌∙◌, arith, ◌<◌, Bool, true, false, cond, List, [], ◌∷◌, ◌++◌, map, length, All, Contains, append_assoc, append-nil}
use Rattle.std.specs.List.{flat_map}
use Rattle.std.proofs.lemmas.Grind.{flat_map-append}
use Rattle.std.proofs.lemmas.List.{length-append, map-append}
use Rattle.std.proofs.lemmas.List.Elements.{All-nil, All-head, All-tail, All-push}
use Rattle.lists.proofs.Members.{Contains-head, Contains-later}
use Rattle.line_ops.specs.Runs.{ended, runs_after, runs_where}

-- ---- a row of elements that pass, or fail

module _ {B : Type 0} (u : B → Bool) where
  pass_all : (ys rest begun : List B) → ((y : B) → Contains ys y → u y ≡ true) → runs_after u begun (ys ++ rest) ≡ runs_after u (begun ++ ys) rest
  pass_all [] rest begun h = ap (λ (zs : List B). runs_after u zs rest) (sym (append-nil begun))
  pass_all (y ∷ ys) rest begun h =
      (λ j. cond (h y (Contains-head y ys) j) (runs_after u (begun ++ y ∷ []) (ys ++ rest)) (ended begun ++ runs_after u [] (ys ++ rest)))
      ∙ pass_all ys rest (begun ++ y ∷ []) (λ z c. h z (Contains-later y ys z c))
      ∙ ap (λ (zs : List B). runs_after u zs rest) (append_assoc begun (y ∷ []) ys)

  fail_all : (ys rest : List B) → ((y : B) → Contains ys y → u y ≡ false) → runs_after u [] (ys ++ rest) ≡ runs_after u [] rest
  fail_all [] rest h = refl
  fail_all (y ∷ ys) rest h =
      (λ j. cond (h y (Contains-head y ys) j) (runs_after u (y ∷ []) (ys ++ rest)) (runs_after u [] (ys ++ rest)))
      ∙ fail_all ys rest (λ z c. h z (Contains-later y ys z c))

  fail_some : (ys rest begun : List B) → 0 < length ys → ((y : B) → Contains ys y → u y ≡ false) → runs_after u begun (ys ++ rest) ≡ ended begun ++ runs_after u [] rest
  fail_some [] rest begun l h = absurd (omega arith)
  fail_some (y ∷ ys) rest begun l h =
      (λ j. cond (h y (Contains-head y ys) j) (runs_after u (begun ++ y ∷ []) (ys ++ rest)) (ended begun ++ runs_after u [] (ys ++ rest)))
      ∙ ap (λ (rs : List (List B)). ended begun ++ rs) (fail_all ys rest (λ z c. h z (Contains-later y ys z c)))

pub ended_some : {B : Type 0} (ys : List B) → 0 < length ys → ended ys ≡ ys ∷ []
ended_some [] l = absurd (omega arith)
ended_some (y ∷ ys) l = refl

-- ---- pieces

module _ {A B : Type 0} (g : A → List B) (t : A → Bool) (u : B → Bool) where
  -- the piece of x has some element, and each passes exactly if x does
  pub record IsPiece (x : A) : Type 0 where
    pub some : 0 < length (g x)
    pub same : (y : B) → Contains (g x) y → u y ≡ t x

  ended_pieces : (begun : List A) → All IsPiece begun → map (flat_map g) (ended begun) ≡ ended (flat_map g begun)
  ended_pieces [] h = refl
  ended_pieces (x ∷ xs) h =
      let size = length-append (g x) (flat_map g xs) in
      let some = (All-head IsPiece x xs h).some in
      sym (ended_some (g x ++ flat_map g xs) (omega arith))

  -- one more element: its piece goes on with the run, or ends it
  next : (x : A) (xs begun : List A) → All IsPiece begun → IsPiece x → map (flat_map g) (runs_after t (begun ++ x ∷ []) xs) ≡ runs_after u (flat_map g (begun ++ x ∷ [])) (flat_map g xs)
      → map (flat_map g) (runs_after t [] xs) ≡ runs_after u [] (flat_map g xs)
      → (b : Bool) → t x ≡ b → map (flat_map g) (cond b (runs_after t (begun ++ x ∷ []) xs) (ended begun ++ runs_after t [] xs)) ≡ runs_after u (flat_map g begun) (g x ++ flat_map g xs)
  next x xs begun k one on off true e =
      on
      ∙ ap (λ (ys : List B). runs_after u ys (flat_map g xs)) (flat_map-append g begun (x ∷ []) ∙ ap (λ (ys : List B). flat_map g begun ++ ys) (append-nil (g x)))
      ∙ sym (pass_all u (g x) (flat_map g xs) (flat_map g begun) (λ y c. one.same y c ∙ e))
  next x xs begun k one on off false e =
      map-append (flat_map g) (ended begun) (runs_after t [] xs)
      ∙ (λ i. ended_pieces begun k i ++ off i)
      ∙ sym (fail_some u (g x) (flat_map g xs) (flat_map g begun) one.some (λ y c. one.same y c ∙ e))

  runs_of_pieces : (xs begun : List A) → All IsPiece begun → All IsPiece xs → map (flat_map g) (runs_after t begun xs) ≡ runs_after u (flat_map g begun) (flat_map g xs)
  runs_of_pieces [] begun k h = ended_pieces begun k
  runs_of_pieces (x ∷ xs) begun k h =
      let one = All-head IsPiece x xs h in
      let rest = All-tail IsPiece x xs h in
      next x xs begun k one (runs_of_pieces xs (begun ++ x ∷ []) (All-push IsPiece begun x k one) rest) (runs_of_pieces xs [] (All-nil IsPiece) rest) (t x) refl

  pub runs_are_pieces : (xs : List A) → All IsPiece xs → map (flat_map g) (runs_where t xs) ≡ runs_where u (flat_map g xs)
  runs_are_pieces xs h = runs_of_pieces xs [] (All-nil IsPiece) h

pub map_alike : {A B : Type 0} (f g : A → B) (xs : List A) → All (λ x. f x ≡ g x) xs → map f xs ≡ map g xs
map_alike f g [] h = refl
map_alike f g (x ∷ xs) h = λ i. All-head (λ y. f y ≡ g y) x xs h i ∷ map_alike f g xs (All-tail (λ y. f y ≡ g y) x xs h) i
