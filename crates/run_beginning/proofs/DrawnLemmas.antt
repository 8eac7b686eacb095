-- A list that is made of another, item by item.
use Rattle.std.proofs.Common.{◌≡◌, refl, sym, subst, List, [], ◌∷◌, ◌++◌, append_assoc}
use Rattle.std.specs.List.{AllZip}
use Rattle.std.proofs.lemmas.List.{append-nil}

module _ {A B : Type 0} (R : A → B → Type 0) where
  -- what was made, with what is made of the items that are left, is made of all
  abbrev pub ZipsOn : List A → List A → List B → Type 0
  ZipsOn all items made = (more : List B) → AllZip R items more → AllZip R all (made ++ more)

  pub zips_more : (all items rest : List A) (item : A) (made new : List B) (one : B) → items ≡ item ∷ rest → new ≡ made ++ one ∷ [] → R item one → ZipsOn all items made → ZipsOn all rest new
  zips_more all items rest item made new one e grown r go = λ more h.
      subst (λ (ys : List B). AllZip R all (ys ++ more)) (sym grown)
      (subst (λ (ys : List B). AllZip R all ys) (sym (append_assoc made (one ∷ []) more))
      (go (one ∷ more) (subst (λ (xs : List A). AllZip R xs (one ∷ more)) (sym e) (r, h))))

  pub zips_end : (all items : List A) (made : List B) → items ≡ [] → ZipsOn all items made → AllZip R all made
  zips_end all items made none go = subst (λ (ys : List B). AllZip R all ys) (append-nil made) (go [] (subst (λ (xs : List A). AllZip R xs []) (sym none) tt))

  -- nothing is made of nothing alone
  pub none_of_none : (items : List A) → AllZip R items [] → items ≡ []
  none_of_none [] h = refl
  none_of_none (item ∷ items) h = absurd h
