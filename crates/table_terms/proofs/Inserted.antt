-- Keys inserted in order, each once.
use Rattle.std.proofs.Common.{◌≡◌, ℕ, ◌+◌, ◌<◌, Bool, true, false, cond, ◌||◌, List, [], ◌∷◌, ◌++◌, length, take, get_or, refl, sym, ap, ◌∙◌}
use Rattle.std.specs.Bool.{Decides}
use Rattle.std.specs.List.{list_any}
use Rattle.std.specs.Str.{bytes_eq}
use Rattle.std.proofs.lemmas.List.{take_more}
use Rattle.indexmap.specs.IndexSet.{insert_key, insert_all}
use Rattle.table_terms.specs.Names.{Text}

or_false : (b : Bool) → (b || false) ≡ b
or_false true = refl
or_false false = refl

or_assoc : (a b c : Bool) → ((a || b) || c) ≡ (a || (b || c))
or_assoc true b c = refl
or_assoc false b c = refl

pub any-append : {T : Type 0} (test : T → Bool) (xs ys : List T) → list_any test (xs ++ ys) ≡ (list_any test xs || list_any test ys)
any-append test [] ys = refl
any-append test (x ∷ xs) ys = ap (λ (b : Bool). test x || b) (any-append test xs ys) ∙ sym (or_assoc (test x) (list_any test xs) (list_any test ys))

module _ {T : Type 0} (eq : T → T → Bool) (decides : (x y : T) → Decides (eq x y) (x ≡ y)) where
  -- a key is there after another one was inserted
  pub inserted : (k x : T) (ks : List T) → list_any (eq k) (insert_key eq ks x) ≡ (list_any (eq k) ks || eq k x)
  inserted k x ks =
      by (list_any (eq x) ks) refl (eq k x) refl
    where
      by : (b : Bool) → list_any (eq x) ks ≡ b → (c : Bool) → eq k x ≡ c → list_any (eq k) (insert_key eq ks x) ≡ (list_any (eq k) ks || eq k x)
      by true e true f =
          let there : list_any (eq k) ks ≡ true = ap (λ (z : T). list_any (eq z) ks) ((decides k x).0 f) ∙ e in
          ap (λ (b : Bool). list_any (eq k) (cond b ks (ks ++ x ∷ []))) e ∙ there
          ∙ sym (ap (λ (b : Bool). b || eq k x) there)
      by true e false f =
          ap (λ (b : Bool). list_any (eq k) (cond b ks (ks ++ x ∷ []))) e
          ∙ sym (ap (λ (b : Bool). list_any (eq k) ks || b) f ∙ or_false (list_any (eq k) ks))
      by false e c f =
          ap (λ (b : Bool). list_any (eq k) (cond b ks (ks ++ x ∷ []))) e ∙ any-append (eq k) ks (x ∷ [])
          ∙ ap (λ (b : Bool). list_any (eq k) ks || b) (or_false (eq k x))

  pub inserted_all : (k : T) (ks xs : List T) → list_any (eq k) (insert_all eq ks xs) ≡ (list_any (eq k) ks || list_any (eq k) xs)
  inserted_all k ks [] = sym (or_false (list_any (eq k) ks))
  inserted_all k ks (x ∷ xs) =
      inserted_all k (insert_key eq ks x) xs ∙ ap (λ (b : Bool). b || list_any (eq k) xs) (inserted k x ks)
      ∙ or_assoc (list_any (eq k) ks) (eq k x) (list_any (eq k) xs)

pub insert_all-push : {T : Type 0} (eq : T → T → Bool) (ks xs : List T) (x : T) → insert_all eq ks (xs ++ x ∷ []) ≡ insert_key eq (insert_all eq ks xs) x
insert_all-push eq ks [] x = refl
insert_all-push eq ks (y ∷ ys) x = insert_all-push eq (insert_key eq ks y) ys x

-- names, one after the other
pub insert_all-append : (ks xs ys : List Text) → insert_all bytes_eq ks (xs ++ ys) ≡ insert_all bytes_eq (insert_all bytes_eq ks xs) ys
insert_all-append ks [] ys = refl
insert_all-append ks (x ∷ xs) ys = insert_all-append (insert_key bytes_eq ks x) xs ys

pub insert_all_more : (ks xs : List Text) (i : ℕ) (d : Text) → i < length xs → insert_all bytes_eq ks (take (i + 1) xs) ≡ insert_key bytes_eq (insert_all bytes_eq ks (take i xs)) (get_or xs i d)
insert_all_more ks xs i d less = ap (insert_all bytes_eq ks) (take_more xs i d less) ∙ insert_all-append ks (take i xs) (get_or xs i d ∷ [])
