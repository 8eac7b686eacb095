-- What holds of each element of a list that is made from another.
use Rattle.std.proofs.Common.{List, [], ◌∷◌, ◌++◌, map, All}
use Rattle.std.proofs.lemmas.List.Elements.{All-nil, All-cons, All-head, All-tail}

module _ {X Y : Type 0} (P : X → Type 0) (Q : Y → Type 0) (f : X → Y) (step : (x : X) → P x → Q (f x)) where
  pub All-mapped : (xs : List X) → All P xs → All Q (map f xs)
  All-mapped [] h = All-nil Q
  All-mapped (x ∷ xs) h = All-cons Q (f x) (map f xs) (step x (All-head P x xs h)) (All-mapped xs (All-tail P x xs h))

pub All-map_any : {X Y : Type 0} (Q : Y → Type 0) (f : X → Y) → ((x : X) → Q (f x)) → (xs : List X) → All Q (map f xs)
All-map_any Q f step [] = All-nil Q
All-map_any Q f step (x ∷ xs) = All-cons Q (f x) (map f xs) (step x) (All-map_any Q f step xs)

pub All-joined : {X : Type 0} (P : X → Type 0) → (xs ys : List X) → All P xs → All P ys → All P (xs ++ ys)
All-joined P [] ys h k = k
All-joined P (x ∷ xs) ys h k = All-cons P x (xs ++ ys) (All-head P x xs h) (All-joined P xs ys (All-tail P x xs h) k)
