-- Tokens are assignments in one way at most.
use Rattle.std.proofs.Common.{ℕ, ◌≡◌, ◌⊎◌, inl, inr, List, [], ◌∷◌, refl, ap, ◌∙◌, sym, arith, append-nil}
use Rattle.expr_lang.specs.declared.token.Mark.TheVariants as mark
use Rattle.expr_lang.specs.declared.token.Token.TheVariants as token
use Rattle.expr_lang.specs.Tree.{Tree, Assigned}
use Rattle.expr_lang.specs.Grammar.{Toks, becomes, Assigns, last_assign, ended_assign, more_assigns}
use Rattle.expr_lang.proofs.OneTree.{ReadsCond, same_next, one_cond, cond_reads}

-- a reading from the left
data ReadsAssigns : Toks → List Assigned → Type 0 where
  done : {at b : ℕ} {name : List ℕ} {e : Tree} {ts us vs : Toks} (c : ℕ)
      → ts ≡ (at, token.Name name) ∷ (b, token.Mark mark.Becomes) ∷ us → ReadsCond us vs e → (vs ≡ []) ⊎ (vs ≡ (c, token.Mark mark.Semicolon) ∷ []) → ReadsAssigns ts ((name, e) ∷ [])
  more : {at b c : ℕ} {name : List ℕ} {e : Tree} {xs : List Assigned} {ts us vs ws : Toks}
      → ts ≡ (at, token.Name name) ∷ (b, token.Mark mark.Becomes) ∷ us → ReadsCond us vs e → vs ≡ (c, token.Mark mark.Semicolon) ∷ ws → ReadsAssigns ws xs → ReadsAssigns ts ((name, e) ∷ xs)

not_empty : {ts : Toks} {xs : List Assigned} → ReadsAssigns ts xs → ts ≡ [] → ⊥
not_empty (done c q a z) e = (let h = sym e ∙ q in cc)
not_empty (more q a z g) e = (let h = sym e ∙ q in cc)

-- an end where assignments go on
not_both : {vs us ws : Toks} {xs : List Assigned} (c d : ℕ) → (vs ≡ []) ⊎ (vs ≡ (c, token.Mark mark.Semicolon) ∷ []) → vs ≡ us → us ≡ (d, token.Mark mark.Semicolon) ∷ ws → ReadsAssigns ws xs → ⊥
not_both c d (inl z) f e g = (let h = sym z ∙ f ∙ e in cc)
not_both c d (inr z) f e g = not_empty g (sym (same_next z f e).left)

one_reading : {ts us : Toks} {xs ys : List Assigned} → ReadsAssigns ts xs → ts ≡ us → ReadsAssigns us ys → xs ≡ ys
one_reading (done c q a z) f (done d q' a' z') =
    let j = same_next q f q' in
    let k = same_next refl j.left refl in
    let i = one_cond a k.left a' in
    (let t = j.token in let v = i.1 in cc)
one_reading (done c q a z) f (more {c = d} q' a' z' g) =
    let j = same_next q f q' in
    let k = same_next refl j.left refl in
    absurd (not_both c d z (one_cond a k.left a').0 z' g)
one_reading (more {c = c} q a z g) f (done d q' a' z') =
    let j = same_next q f q' in
    let k = same_next refl j.left refl in
    absurd (not_both d c z' (sym (one_cond a k.left a').0) z g)
one_reading (more q a z g) f (more q' a' z' g') =
    let j = same_next q f q' in
    let k = same_next refl j.left refl in
    let i = one_cond a k.left a' in
    let l = same_next z i.0 z' in
    let m = one_reading g l.left g' in
    (let t = j.token in let v = i.1 in cc)

reads : {n : ℕ} {s : Toks} {xs : List Assigned} → Assigns n s xs → ReadsAssigns s xs
reads (last_assign (becomes {at = at} {b = b} {name = name} {s = s} h)) =
    done 0 (ap (λ (z : Toks). (at, token.Name name) ∷ (b, token.Mark mark.Becomes) ∷ z) (sym (append-nil s))) (cond_reads h [] tt) (inl refl)
reads (ended_assign c (becomes h)) = done c refl (cond_reads h ((c, token.Mark mark.Semicolon) ∷ []) (omega arith)) (inr refl)
reads (more_assigns c {t = t} (becomes h) g) = more refl (cond_reads h ((c, token.Mark mark.Semicolon) ∷ t) (omega arith)) refl (reads g)

pub one_way : (m n : ℕ) (s : Toks) (xs ys : List Assigned) → Assigns m s xs → Assigns n s ys → xs ≡ ys
one_way m n s xs ys h g = one_reading (reads h) refl (reads g)
