-- Each text has one tree: a reading that goes from the left, each step by the next token alone.
use Rattle.std.proofs.Common.{ℕ, zero, suc, ◌≡◌, List, [], ◌∷◌, ◌++◌, Some, codes, length, refl, ap, ◌∙◌, sym, subst, append_assoc, arith}
use Rattle.expr_lang.specs.declared.token.Operator.{Operator}
use Rattle.expr_lang.specs.declared.token.Sign.{Sign}
use Rattle.expr_lang.specs.declared.token.Mark.TheVariants as mark
use Rattle.expr_lang.specs.declared.token.Token.{Token}
use Rattle.expr_lang.specs.declared.token.Token.TheVariants as token
use Rattle.expr_lang.specs.Tree.{Tree, column, feature_number, unary, binary, choice}
use Rattle.expr_lang.specs.Grammar.{Placed, Toks, Cond, simple, branches, Level, lowest, single, joined, Unary, atom, signed, Atom, leaf, this_id, this_property, enclosed, level_of, leaf_of, sign_of}
use Rattle.expr_lang.specs.Reading.{EndsLevel, NextIsNot, IsMark, IsSign}

-- no operator of this level comes next
abbrev pub NotLevel : ℕ → Toks → Type 0
NotLevel j ts = (at : ℕ) (o : Operator) (us : Toks) → ts ≡ (at, token.Operator o) ∷ us → level_of o ≡ j → ⊥

mutual
  pub data ReadsCond : Toks → Toks → Tree → Type 0 where
    plain : {ts rest : Toks} {e : Tree} → ReadsLevel 6 ts rest e → NextIsNot (IsMark mark.Question) rest → ReadsCond ts rest e
    chosen : {at colon : ℕ} {ts us vs ws xs rest : Toks} {c d e x : Tree}
        → ReadsLevel 6 ts us c → us ≡ (at, token.Mark mark.Question) ∷ vs → ReadsCond vs ws d → ws ≡ (colon, token.Mark mark.Colon) ∷ xs → ReadsCond xs rest e
        → x ≡ choice at c d e → ReadsCond ts rest x

  pub data ReadsLevel : ℕ → Toks → Toks → Tree → Type 0 where
    base : {ts rest : Toks} {e : Tree} → ReadsUnary ts rest e → ReadsLevel zero ts rest e
    chain : {k : ℕ} {ts us rest : Toks} {d e : Tree} → ReadsLevel k ts us d → ReadsLoop k d us rest e → ReadsLevel (suc k) ts rest e

  -- operators of level suc k and their right operands, after a left operand
  pub data ReadsLoop : ℕ → Tree → Toks → Toks → Tree → Type 0 where
    done : {k : ℕ} {ts rest : Toks} {d e : Tree} → NotLevel (suc k) ts → ts ≡ rest → d ≡ e → ReadsLoop k d ts rest e
    more : {k at : ℕ} {o : Operator} {ts us vs rest : Toks} {d e x : Tree}
        → ts ≡ (at, token.Operator o) ∷ us → level_of o ≡ suc k → ReadsLevel k us vs e → ReadsLoop k (binary at o d e) vs rest x → ReadsLoop k d ts rest x

  pub data ReadsUnary : Toks → Toks → Tree → Type 0 where
    bare : {ts rest : Toks} {e : Tree} → NextIsNot IsSign ts → ReadsAtom ts rest e → ReadsUnary ts rest e
    past : {at : ℕ} {t : Token} {o : Sign} {ts us rest : Toks} {d e : Tree}
        → ts ≡ (at, t) ∷ us → sign_of t ≡ Some o → ReadsUnary us rest d → e ≡ unary at o d → ReadsUnary ts rest e

  pub data ReadsAtom : Toks → Toks → Tree → Type 0 where
    one : {at : ℕ} {t : Token} {ts rest : Toks} {e : Tree} → ts ≡ (at, t) ∷ rest → leaf_of at t ≡ Some e → ReadsAtom ts rest e
    id : {at b c : ℕ} {ts rest : Toks} {e : Tree}
        → ts ≡ (at, token.This) ∷ (b, token.Mark mark.Dot) ∷ (c, token.Name (codes "id")) ∷ rest → e ≡ feature_number → ReadsAtom ts rest e
    property : {at b c d f g : ℕ} {s : List ℕ} {ts rest : Toks} {e : Tree}
        → ts ≡ (at, token.This) ∷ (b, token.Mark mark.Dot) ∷ (c, token.Name (codes "properties")) ∷ (d, token.Mark mark.OpenBracket) ∷ (f, token.Text s) ∷ (g, token.Mark mark.CloseBracket) ∷ rest
        → e ≡ column at s → ReadsAtom ts rest e
    inside : {at b : ℕ} {ts us vs rest : Toks} {e : Tree}
        → ts ≡ (at, token.Mark mark.Open) ∷ us → ReadsCond us vs e → vs ≡ (b, token.Mark mark.Close) ∷ rest → ReadsAtom ts rest e

-- ---- two readings of one text agree

first : Toks → Placed
first [] = (0, token.Stray)
first (t ∷ ts) = t

after_first : Toks → Toks
after_first [] = []
after_first (t ∷ ts) = ts

pub record SameNext (at b : ℕ) (t u : Token) (xs ys : Toks) : Type 0 where
  pub place : at ≡ b
  pub token : t ≡ u
  pub left : xs ≡ ys

pub same_next : {at b : ℕ} {t u : Token} {xs ys ts us : Toks} → ts ≡ (at, t) ∷ xs → ts ≡ us → us ≡ (b, u) ∷ ys → SameNext at b t u xs ys
unfolding first after_first
same_next e f g =
    let h = sym e ∙ f ∙ g in
    record {
      place = ap (λ (z : Toks). (first z).0) h;
      token = ap (λ (z : Toks). (first z).1) h;
      left = ap after_first h;
    }

leaf_token : (at : ℕ) (t u : Token) (e : Tree) → t ≡ u → leaf_of at t ≡ Some e → leaf_of at u ≡ Some e
leaf_token at t u e h g = subst (λ (z : Token). leaf_of at z ≡ Some e) h g

leaf_no_sign : (at : ℕ) (t : Token) (e : Tree) (o : Sign) → leaf_of at t ≡ Some e → sign_of t ≡ Some o → ⊥
leaf_no_sign at (token.Number u) e o h g = cc
leaf_no_sign at (token.Text s) e o h g = cc
leaf_no_sign at token.True e o h g = cc
leaf_no_sign at token.False e o h g = cc
leaf_no_sign at token.Null e o h g = cc
leaf_no_sign at token.This e o h g = cc
leaf_no_sign at (token.Name s) e o h g = cc
leaf_no_sign at (token.Operator p) e o h g = cc
leaf_no_sign at (token.Mark m) e o h g = cc
leaf_no_sign at token.Other e o h g = cc
leaf_no_sign at token.Stray e o h g = cc

abbrev pub Agree : Toks → Toks → Tree → Tree → Type 0
Agree r s d e = (r ≡ s) × (d ≡ e)

id_or_property : token.Name (codes "id") ≡ token.Name (codes "properties") → ⊥
id_or_property e = (let same : codes "id" ≡ codes "properties" = cc in omega (arith, ap length same))

mutual
  pub one_cond : {ts us r s : Toks} {d e : Tree} → ReadsCond ts r d → ts ≡ us → ReadsCond us s e → Agree r s d e
  one_cond (plain a n) f (plain b m) = one_level a f b
  one_cond (plain a n) f (chosen b q x c y g) = absurd (n _ _ _ ((one_level a f b).0 ∙ q) refl)
  one_cond (chosen a q x c y g) f (plain b m) = absurd (m _ _ _ (sym (one_level a f b).0 ∙ q) refl)
  one_cond (chosen a q x c y g) f (chosen b q' x' c' y' g') =
      let i = one_level a f b in
      let j = same_next q i.0 q' in
      let k = one_cond x j.left x' in
      let l = same_next c k.0 c' in
      let m = one_cond y l.left y' in
      let p : _ ≡ _ = j.place in
      (m.0, (let h = i.1 in let u = k.1 in let v = m.1 in cc))

  one_level : {k : ℕ} {ts us r s : Toks} {d e : Tree} → ReadsLevel k ts r d → ts ≡ us → ReadsLevel k us s e → Agree r s d e
  one_level (base a) f (base b) = one_unary a f b
  one_level (chain a l) f (chain b m) = let i = one_level a f b in one_loop l i.1 i.0 m

  one_loop : {k : ℕ} {c d : Tree} {ts us r s : Toks} {x y : Tree} → ReadsLoop k c ts r x → c ≡ d → ts ≡ us → ReadsLoop k d us s y → Agree r s x y
  one_loop (done n e g) h f (done m e' g') = (sym e ∙ f ∙ e', sym g ∙ h ∙ g')
  one_loop (done n e g) h f (more q l a b) = absurd (n _ _ _ (f ∙ q) l)
  one_loop (more q l a b) h f (done m e' g') = absurd (m _ _ _ (sym f ∙ q) l)
  one_loop (more q l a b) h f (more q' l' a' b') =
      let j = same_next q f q' in
      let i = one_level a j.left a' in
      one_loop b (let p = j.place in let t = j.token in let v = i.1 in cc) i.0 b'

  one_unary : {ts us r s : Toks} {d e : Tree} → ReadsUnary ts r d → ts ≡ us → ReadsUnary us s e → Agree r s d e
  one_unary (bare n a) f (bare m b) = one_atom a f b
  one_unary (bare n a) f (past q g b h) = absurd (n _ _ _ (f ∙ q) (_, g))
  one_unary (past q g a h) f (bare m b) = absurd (m _ _ _ (sym f ∙ q) (_, g))
  one_unary (past q g a h) f (past q' g' b h') =
      let j = same_next q f q' in
      let i = one_unary a j.left b in
      let o = sym g ∙ ap sign_of j.token ∙ g' in
      (i.0, (let p = j.place in let v = i.1 in cc))

  one_atom : {ts us r s : Toks} {d e : Tree} → ReadsAtom ts r d → ts ≡ us → ReadsAtom us s e → Agree r s d e
  one_atom (one q g) f (one q' g') =
      let j = same_next q f q' in
      (j.left, (let same = sym g ∙ ap (λ (z : Placed). leaf_of z.0 z.1) (let p = j.place in let t = j.token in cc) ∙ g' in cc))
  one_atom (one q g) f (id q' h) = absurd (let x = leaf_token _ _ _ _ (same_next q f q').token g in cc)
  one_atom (one q g) f (property q' h) = absurd (let x = leaf_token _ _ _ _ (same_next q f q').token g in cc)
  one_atom (one q g) f (inside q' a c) = absurd (let x = leaf_token _ _ _ _ (same_next q f q').token g in cc)
  one_atom (id q h) f (one q' g') = absurd (let x = leaf_token _ _ _ _ (same_next q' (sym f) q).token g' in cc)
  one_atom (id q h) f (id q' h') =
      let j = same_next q f q' in
      let k = same_next refl j.left refl in
      let l = same_next refl k.left refl in
      (l.left, h ∙ sym h')
  one_atom (id q h) f (property q' h') =
      let j = same_next q f q' in
      let k = same_next refl j.left refl in
      absurd (id_or_property (same_next refl k.left refl).token)
  one_atom (id q h) f (inside q' a c) = absurd (let x = (same_next q f q').token in cc)
  one_atom (property q h) f (one q' g') = absurd (let x = leaf_token _ _ _ _ (same_next q' (sym f) q).token g' in cc)
  one_atom (property q h) f (id q' h') =
      let j = same_next q f q' in
      let k = same_next refl j.left refl in
      absurd (id_or_property (sym (same_next refl k.left refl).token))
  one_atom (property q h) f (property q' h') =
      let j = same_next q f q' in
      let k = same_next refl j.left refl in
      let l = same_next refl k.left refl in
      let m = same_next refl l.left refl in
      let n = same_next refl m.left refl in
      let o = same_next refl n.left refl in
      (o.left, (let p = j.place in let t = n.token in cc))
  one_atom (property q h) f (inside q' a c) = absurd (let x = (same_next q f q').token in cc)
  one_atom (inside q a c) f (one q' g') = absurd (let x = leaf_token _ _ _ _ (same_next q' (sym f) q).token g' in cc)
  one_atom (inside q a c) f (id q' h') = absurd (let x = (same_next q f q').token in cc)
  one_atom (inside q a c) f (property q' h') = absurd (let x = (same_next q f q').token in cc)
  one_atom (inside q a c) f (inside q' b c') =
      let j = same_next q f q' in
      let i = one_cond a j.left b in
      ((same_next c i.0 c').left, i.1)

-- ---- each text of the grammar is read so

ended_down : (k : ℕ) (ts : Toks) → EndsLevel (suc k) ts → EndsLevel k ts
ended_down k [] q = tt
ended_down k (t ∷ ts) q = omega arith

ended_level : (k : ℕ) (ts : Toks) → EndsLevel k ts → NotLevel k ts
ended_level k ts q at o us e l = (let h : EndsLevel k ((at, token.Operator o) ∷ us) = subst (EndsLevel k) e q in omega arith)

ended_question : (ts : Toks) → EndsLevel 7 ts → NextIsNot (IsMark mark.Question) ts
ended_question ts q at t us e h = (let g : EndsLevel 7 ((at, token.Mark mark.Question) ∷ us) = subst (λ (z : Token). EndsLevel 7 ((at, z) ∷ us)) h (subst (EndsLevel 7) e q) in omega arith)

leads : (k at : ℕ) (o : Operator) (ts : Toks) → level_of o ≡ suc k → EndsLevel k ((at, token.Operator o) ∷ ts)
leads k at o ts l = omega arith

atom_no_sign : {n : ℕ} {s : Toks} {e : Tree} → Atom n s e → (rest : Toks) → NextIsNot IsSign (s ++ rest)
atom_no_sign (leaf {e = x} f) rest at t us g h = leaf_no_sign _ _ x h.0 f (ap sign_of (same_next refl g refl).token ∙ h.1)
atom_no_sign this_id rest at t us g h = (let x = ap sign_of (same_next refl g refl).token ∙ h.1 in cc)
atom_no_sign this_property rest at t us g h = (let x = ap sign_of (same_next refl g refl).token ∙ h.1 in cc)
atom_no_sign (enclosed b i) rest at t us g h = (let x = ap sign_of (same_next refl g refl).token ∙ h.1 in cc)

mutual
  pub cond_reads : {n : ℕ} {s : Toks} {e : Tree} → Cond n s e → (rest : Toks) → EndsLevel 7 rest → ReadsCond (s ++ rest) rest e
  cond_reads (simple h) rest q = plain (level_reads h rest (ended_down 6 rest q)) (ended_question rest q)
  cond_reads (branches {n} {at} colon {s} {t} {u} {c = i} {d = j} {e = k} c x y) rest q =
      subst (λ (z : Toks). ReadsCond z rest (choice at i j k)) (sym (append_assoc s _ rest ∙ ap (λ (z : Toks). s ++ (at, token.Mark mark.Question) ∷ z) (append_assoc t _ rest)))
      (chosen (level_reads c ((at, token.Mark mark.Question) ∷ (t ++ (colon, token.Mark mark.Colon) ∷ (u ++ rest))) (omega arith)) refl
      (cond_reads x ((colon, token.Mark mark.Colon) ∷ (u ++ rest)) (omega arith)) refl (cond_reads y rest q) refl)

  level_reads : {k n : ℕ} {s : Toks} {e : Tree} → Level k n s e → (rest : Toks) → EndsLevel k rest → ReadsLevel k (s ++ rest) rest e
  level_reads (lowest h) rest q = base (unary_reads h rest)
  level_reads (single {k = k} h) rest q = chain (level_reads h rest (ended_down k rest q)) (done (ended_level (suc k) rest q) refl refl)
  level_reads (joined {k = k} {at = at} {s = s} {t = t} {d = d} {e = e} {o = o} a l b) rest q =
      subst (λ (z : Toks). ReadsLevel (suc k) z rest (binary at o d e)) (sym (append_assoc s _ rest))
      (chain_reads a ((at, token.Operator o) ∷ (t ++ rest)) (leads k at o (t ++ rest) l) rest _
      (more refl l (level_reads b rest (ended_down k rest q)) (done (ended_level (suc k) rest q) refl refl)))

  -- a chain of operators, and the operators after it
  chain_reads : {k n : ℕ} {s : Toks} {d : Tree} → Level (suc k) n s d → (rest : Toks) → EndsLevel k rest → (r : Toks) (x : Tree) → ReadsLoop k d rest r x → ReadsLevel (suc k) (s ++ rest) r x
  chain_reads (single h) rest q r x l = chain (level_reads h rest q) l
  chain_reads (joined {k = k} {at = at} {s = s} {t = t} {o = o} a v b) rest q r x l =
      subst (λ (z : Toks). ReadsLevel (suc k) z r x) (sym (append_assoc s _ rest))
      (chain_reads a ((at, token.Operator o) ∷ (t ++ rest)) (leads k at o (t ++ rest) v) r x (more refl v (level_reads b rest q) l))

  unary_reads : {n : ℕ} {s : Toks} {e : Tree} → Unary n s e → (rest : Toks) → ReadsUnary (s ++ rest) rest e
  unary_reads (atom h) rest = bare (atom_no_sign h rest) (atom_reads h rest)
  unary_reads (signed f h) rest = past refl f (unary_reads h rest) refl

  atom_reads : {n : ℕ} {s : Toks} {e : Tree} → Atom n s e → (rest : Toks) → ReadsAtom (s ++ rest) rest e
  atom_reads (leaf f) rest = one refl f
  atom_reads this_id rest = id refl refl
  atom_reads this_property rest = property refl refl
  atom_reads (enclosed {at = at} b {s = s} h) rest =
      inside (ap (λ (z : Toks). (at, token.Mark mark.Open) ∷ z) (append_assoc s _ rest)) (cond_reads h ((b, token.Mark mark.Close) ∷ rest) (omega arith)) refl

pub one_tree : (m n : ℕ) (s : Toks) (d e : Tree) → Cond m s d → Cond n s e → d ≡ e
one_tree m n s d e h g = (one_cond (cond_reads h [] tt) refl (cond_reads g [] tt)).1
