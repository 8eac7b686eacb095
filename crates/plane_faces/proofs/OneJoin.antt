-- What a loop that joins labels pair by pair keeps true.
use Rattle.std.proofs.Common.{◌≡◌, ℕ, refl, sym, ap, ◌∙◌, Bool, true, false, cond, List, [], ◌∷◌}
use Rattle.std.specs.Prelude.{All, nat_eq}
use Rattle.std.proofs.lemmas.Bool.{eq-eqb, eqb-true}
use Rattle.std.proofs.lemmas.List.Elements.{All-head, All-tail, All-cons, All-nil, All-weaker}
use Rattle.plane_model.specs.Points.{Segment}
use Rattle.plane_faces.specs.Places.{Place, IsBeside, AgreesWherePlacesMeet}
use Rattle.plane_faces.specs.Labels.{IsFaceLabelling, IsJoining, relabel}

pub joining_first : (S : List Segment) (label : Place → ℕ) → ((a b : Place) → IsBeside S a → IsBeside S b → label a ≡ label b → a ≡ b) → IsJoining S [] label
joining_first S label one = record { agree = All-nil (λ p. label p.0 ≡ label p.1); joined = λ f h a b ha hb e. ap f (one a b ha hb e) }

relabel_yes : (m n k : ℕ) → nat_eq k m ≡ true → relabel m n k ≡ n
relabel_yes m n k e = ap (λ (b : Bool). cond b n k) e

relabel_no : (m n k : ℕ) → nat_eq k m ≡ false → relabel m n k ≡ k
relabel_no m n k e = ap (λ (b : Bool). cond b n k) e

relabel_second : (m n : ℕ) → relabel m n n ≡ n
relabel_second m n = go (nat_eq n m)
  where
    go : (b : Bool) → cond b n n ≡ n
    go true = refl
    go false = refl

pub joining_more : (S : List Segment) (pairs : List (Place × Place)) (label : Place → ℕ) → IsJoining S pairs label → (p q : Place) → IsBeside S p → IsBeside S q
    → IsJoining S ((p, q) ∷ pairs) (λ a. relabel (label p) (label q) (label a))
joining_more S pairs label j p q hp hq = record {
  agree = All-cons (λ r. new r.0 ≡ new r.1) (p, q) pairs
      (relabel_yes (label p) (label q) (label p) (eq-eqb (label p) (label p) refl) ∙ sym (relabel_second (label p) (label q)))
      (All-weaker (λ r. label r.0 ≡ label r.1) (λ r. new r.0 ≡ new r.1) (λ r e. ap (relabel (label p) (label q)) e) pairs j.agree);
  joined = λ f h a b ha hb e. go f h a b ha hb e (nat_eq (label a) (label p)) refl (nat_eq (label b) (label p)) refl;
}
  where
    new : Place → ℕ
    new a = relabel (label p) (label q) (label a)

    go : (f : Place → Bool) → All (λ r. f r.0 ≡ f r.1) ((p, q) ∷ pairs) → (a b : Place) → IsBeside S a → IsBeside S b → relabel (label p) (label q) (label a) ≡ relabel (label p) (label q) (label b)
        → (x : Bool) → nat_eq (label a) (label p) ≡ x → (y : Bool) → nat_eq (label b) (label p) ≡ y → f a ≡ f b
    go f h a b ha hb e x i y k = table x i y k
      where
        old : (a b : Place) → IsBeside S a → IsBeside S b → label a ≡ label b → f a ≡ f b
        old = j.joined f (All-tail (λ r. f r.0 ≡ f r.1) (p, q) pairs h)

        here : f p ≡ f q
        here = All-head (λ r. f r.0 ≡ f r.1) (p, q) pairs h

        table : (x : Bool) → nat_eq (label a) (label p) ≡ x → (y : Bool) → nat_eq (label b) (label p) ≡ y → f a ≡ f b
        table true i true k = old a b ha hb (eqb-true (label a) (label p) i ∙ sym (eqb-true (label b) (label p) k))
        table true i false k = old a p ha hp (eqb-true (label a) (label p) i) ∙ here ∙ old q b hq hb (sym (relabel_yes (label p) (label q) (label a) i) ∙ e ∙ relabel_no (label p) (label q) (label b) k)
        table false i true k = old a q ha hq (sym (relabel_no (label p) (label q) (label a) i) ∙ e ∙ relabel_yes (label p) (label q) (label b) k) ∙ sym here ∙ old p b hp hb (sym (eqb-true (label b) (label p) k))
        table false i false k = old a b ha hb (sym (relabel_no (label p) (label q) (label a) i) ∙ e ∙ relabel_no (label p) (label q) (label b) k)

-- if what agrees where places meet is one on all pairs, and the labels agree there, they are those of faces
pub joining_done : (S : List Segment) (pairs : List (Place × Place)) (label : Place → ℕ) → IsJoining S pairs label → AgreesWherePlacesMeet S label → ((f : Place → Bool) → AgreesWherePlacesMeet S f → All (λ p. f p.0 ≡ f p.1) pairs) → IsFaceLabelling S label
joining_done S pairs label j agrees true_pairs = record { agrees = agrees; joined = λ a b ha hb e f p. j.joined f (true_pairs f p) a b ha hb e }
