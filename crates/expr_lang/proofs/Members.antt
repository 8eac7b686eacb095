-- `this.id` and `this.properties["name"]`, after `this`.
use Rattle.std.proofs.Common.{ℕ, ◌≡◌, List, [], ◌∷◌, ◌++◌, None, refl, ap, ◌∙◌, sym, subst, codes, Bool, true, false}
use Rattle.std.specs.Str.{bytes_eq}
use Rattle.std.proofs.lemmas.Slice.Eq.{bytes_eq-Decides}
use Rattle.expr_lang.specs.declared.token.Mark.TheVariants as mark
use Rattle.expr_lang.specs.declared.token.Token.{Token}
use Rattle.expr_lang.specs.declared.token.Token.TheVariants as token
use Rattle.expr_lang.specs.declared.expr.Node.TheVariants as expr
use Rattle.expr_lang.specs.declared.parser.Misfit.{Misfit}
use Rattle.expr_lang.specs.declared.parser.Misfit.TheVariants.{Unfit}
use Rattle.expr_lang.specs.Tree.{node_tree, feature_number, column}
use Rattle.expr_lang.specs.Grammar.{Toks, this_id, this_property}
use Rattle.expr_lang.specs.Machine.{Place, Open, operator, after_this, after_dot, after_properties, after_bracket, after_name, run, stopped, step}
use Rattle.expr_lang.specs.Reading.{Around, run_at, anywhere, NextIsNot, IsMark, IsName, IsText, Passes, Breaks, Some_tree, ThisText}
use Rattle.expr_lang.proofs.Runs.{stops}
use Rattle.expr_lang.proofs.Steps.{a_dot-none, a_bracket-none, an_end-none, a_text-none}

abbrev pub id : Token
id = token.Name (codes "id")

abbrev pub properties : Token
properties = token.Name (codes "properties")

abbrev dot : Token
dot = token.Mark mark.Dot

abbrev opening : Token
opening = token.Mark mark.OpenBracket

abbrev closing : Token
closing = token.Mark mark.CloseBracket

-- ---- where the machine stops

false_of : (s w : List ℕ) → (token.Name s ≡ token.Name w → ⊥) → bytes_eq s w ≡ false
false_of s w h = go (bytes_eq s w) refl
  where
    go : (v : Bool) → bytes_eq s w ≡ v → bytes_eq s w ≡ false
    go true e = absurd (h (ap (λ (t : List ℕ). token.Name t) ((bytes_eq-Decides s w).0 e)))
    go false e = e

member-none : (t : Token) (k : List Open) → (IsName (codes "id") t → ⊥) → (IsName (codes "properties") t → ⊥) → step 0 after_dot k t ≡ None
member-none (token.Name s) k h g = rw (false_of s (codes "id") h, false_of s (codes "properties") g)
member-none (token.Number u) k h g = refl
member-none (token.Text s) k h g = refl
member-none token.True k h g = refl
member-none token.False k h g = refl
member-none token.Null k h g = refl
member-none token.This k h g = refl
member-none (token.Operator o) k h g = refl
member-none (token.Mark m) k h g = refl
member-none token.Other k h g = refl
member-none token.Stray k h g = refl

abbrev Stops : Place → Toks → Type 0
Stops q ts = (i : Around) → run_at (anywhere q i) ts ≡ stopped Unfit ts

dot_stops : (ts : Toks) → NextIsNot (IsMark mark.Dot) ts → Stops after_this ts
unfolding run
dot_stops [] h i = refl
dot_stops ((at, t) ∷ ts) h i = stops i.0 after_this i.1 (at, t) ts (a_dot-none t i.1 (h at t ts refl))

bracket_stops : (ts : Toks) → NextIsNot (IsMark mark.OpenBracket) ts → Stops after_properties ts
unfolding run
bracket_stops [] h i = refl
bracket_stops ((at, t) ∷ ts) h i = stops i.0 after_properties i.1 (at, t) ts (a_bracket-none t i.1 (h at t ts refl))

end_stops : (ts : Toks) → NextIsNot (IsMark mark.CloseBracket) ts → Stops after_name ts
unfolding run
end_stops [] h i = refl
end_stops ((at, t) ∷ ts) h i = stops i.0 after_name i.1 (at, t) ts (an_end-none t i.1 (h at t ts refl))

text_stops : (ts : Toks) → NextIsNot IsText ts → Stops after_bracket ts
unfolding run
text_stops [] h i = refl
text_stops ((at, t) ∷ ts) h i = stops i.0 after_bracket i.1 (at, t) ts (a_text-none t i.1 (h at t ts refl))

member_stops : (ts : Toks) → NextIsNot (IsName (codes "id")) ts → NextIsNot (IsName (codes "properties")) ts → Stops after_dot ts
unfolding run
member_stops [] h g i = refl
member_stops ((at, t) ∷ ts) h g i = stops i.0 after_dot i.1 (at, t) ts (member-none t i.1 (h at t ts refl) (g at t ts refl))

-- ---- parts

-- a text is read, and then the machine stops
breaks_after : (at n : ℕ) (text more : Toks) (q : Place) (f : Misfit) (old mid new : Toks) → old ≡ text ++ mid → Some_tree (ThisText at) n false (text ++ more) → ((i : Around) → run_at (anywhere after_this i) (text ++ mid) ≡ run_at (anywhere q i) mid) → Stops q mid → f ≡ Unfit → new ≡ mid → Breaks (Some_tree (ThisText at) n) (anywhere after_this) f old new
breaks_after at n text more q f old mid new e h g s u w =
    subst (λ (f : Misfit). Breaks (Some_tree (ThisText at) n) (anywhere after_this) f old new) (sym u)
    (subst (λ (xs : Toks). Breaks (Some_tree (ThisText at) n) (anywhere after_this) Unfit old xs) (sym w)
    (record {
      begins = (text, more, e, h);
      deeper = λ d. cc;
      fails = λ i. ap (run_at (anywhere after_this i)) e ∙ g i ∙ s i;
    }))

abbrev Absent : (Token → Type 0) → Toks → Toks → Misfit → Type 0
Absent P old new f = (f ≡ Unfit) × (new ≡ old) × NextIsNot P old

pub no_dot : (at n : ℕ) (f : Misfit) (old new : Toks) → Absent (IsMark mark.Dot) old new f → Breaks (Some_tree (ThisText at) n) (anywhere after_this) f old new
no_dot at n f old new h = breaks_after at n [] ((0, dot) ∷ (0, id) ∷ []) after_this f old old new refl (feature_number, this_id) (λ i. refl) (dot_stops old h.2) h.0 h.1

pub no_member : (at n a : ℕ) (old m₁ m₂ new : Toks) → old ≡ (a, dot) ∷ m₁ → (m₂ ≡ m₁) × NextIsNot (IsName (codes "id")) m₁ → (new ≡ m₂) × NextIsNot (IsName (codes "properties")) m₂ → Breaks (Some_tree (ThisText at) n) (anywhere after_this) Unfit old new
unfolding run
no_member at n a old m₁ m₂ new e h g =
    breaks_after at n ((a, dot) ∷ []) ((0, id) ∷ []) after_dot Unfit old m₁ new e (feature_number, this_id) (λ i. refl) (member_stops m₁ h.1 (subst (NextIsNot (IsName (codes "properties"))) h.0 g.1)) refl (g.0 ∙ h.0)

pub no_bracket : (at n a b : ℕ) (f : Misfit) (old m₁ m₂ m₃ new : Toks) → old ≡ (a, dot) ∷ m₁ → m₂ ≡ m₁ → m₂ ≡ (b, properties) ∷ m₃ → Absent (IsMark mark.OpenBracket) m₃ new f → Breaks (Some_tree (ThisText at) n) (anywhere after_this) f old new
unfolding run
no_bracket at n a b f old m₁ m₂ m₃ new e s p h =
    breaks_after at n ((a, dot) ∷ (b, properties) ∷ []) ((0, opening) ∷ (0, token.Text []) ∷ (0, closing) ∷ []) after_properties f old m₃ new (cc) (column at [], this_property) (λ i. refl) (bracket_stops m₃ h.2) h.0 h.1

pub no_text : (at n a b c : ℕ) (f : Misfit) (old m₁ m₂ m₃ m₄ new : Toks) → old ≡ (a, dot) ∷ m₁ → m₂ ≡ m₁ → m₂ ≡ (b, properties) ∷ m₃ → m₃ ≡ (c, opening) ∷ m₄ → Absent IsText m₄ new f → Breaks (Some_tree (ThisText at) n) (anywhere after_this) f old new
unfolding run
no_text at n a b c f old m₁ m₂ m₃ m₄ new e s p q h =
    breaks_after at n ((a, dot) ∷ (b, properties) ∷ (c, opening) ∷ []) ((0, token.Text []) ∷ (0, closing) ∷ []) after_bracket f old m₄ new (cc) (column at [], this_property) (λ i. refl) (text_stops m₄ h.2) h.0 h.1

pub no_end : (at n a b c d : ℕ) (t : List ℕ) (f : Misfit) (old m₁ m₂ m₃ m₄ m₅ new : Toks) → old ≡ (a, dot) ∷ m₁ → m₂ ≡ m₁ → m₂ ≡ (b, properties) ∷ m₃ → m₃ ≡ (c, opening) ∷ m₄ → m₄ ≡ (d, token.Text t) ∷ m₅ → Absent (IsMark mark.CloseBracket) m₅ new f → Breaks (Some_tree (ThisText at) n) (anywhere after_this) f old new
unfolding run
no_end at n a b c d t f old m₁ m₂ m₃ m₄ m₅ new e s p q r h =
    breaks_after at n ((a, dot) ∷ (b, properties) ∷ (c, opening) ∷ (d, token.Text t) ∷ []) ((0, closing) ∷ []) after_name f old m₅ new (cc) (column at t, this_property) (λ i. refl) (end_stops m₅ h.2) h.0 h.1

pub an_id : (at n a b : ℕ) (old m₁ new : Toks) → old ≡ (a, dot) ∷ m₁ → m₁ ≡ (b, id) ∷ new → Passes (λ (s : Toks). ThisText at n s (node_tree expr.FeatureNumber)) (anywhere after_this) (anywhere operator) old new
unfolding run
an_id at n a b old m₁ new e p =
    let all : old ≡ (a, dot) ∷ (b, id) ∷ new = cc in
    record { reads = ((a, dot) ∷ (b, id) ∷ [], all, this_id); runs = λ i. ap (run_at (anywhere after_this i)) all }

pub a_property : (at n a b c d x : ℕ) (t : List ℕ) (old m₁ m₂ m₃ m₄ m₅ new : Toks) → old ≡ (a, dot) ∷ m₁ → m₂ ≡ m₁ → m₂ ≡ (b, properties) ∷ m₃ → m₃ ≡ (c, opening) ∷ m₄ → m₄ ≡ (d, token.Text t) ∷ m₅ → m₅ ≡ (x, closing) ∷ new → Passes (λ (s : Toks). ThisText at n s (node_tree (expr.Column at t))) (anywhere after_this) (anywhere operator) old new
unfolding run
a_property at n a b c d x t old m₁ m₂ m₃ m₄ m₅ new e s p q r w =
    let all : old ≡ (a, dot) ∷ (b, properties) ∷ (c, opening) ∷ (d, token.Text t) ∷ (x, closing) ∷ new = cc in
    record { reads = ((a, dot) ∷ (b, properties) ∷ (c, opening) ∷ (d, token.Text t) ∷ (x, closing) ∷ [], all, this_property); runs = λ i. ap (run_at (anywhere after_this i)) all }
