-- Where tokens are no text of a grammar, as that of expressions, and why.
use Rattle.std.specs.Prelude.{◌≡◌, ℕ, [], ◌∷◌, ◌++◌, Result, MatchResult}
use Rattle.expr_lang.specs.declared.parser.Misfit.{Misfit}
use Rattle.expr_lang.specs.declared.parser.Misfit.TheVariants.{TooDeep, Unfit}
use Rattle.expr_lang.specs.declared.parser.Stop.{Stop}
use Rattle.expr_lang.specs.Reading.{AtMisfit}
use Rattle.expr_lang.specs.Grammar.{Placed, Toks, Cond}

-- some text of the grammar begins with these tokens
abbrev pub GoesOnIn : {T : Type 0} → (ℕ → Toks → T → Type 0) → ℕ → Toks → Type 0
GoesOnIn {T} G n ts = (more : Toks) × (e : T) × G n (ts ++ more) e

-- the next token is refused for its depth alone; or it, or the end, fits nowhere
abbrev pub IsWhyIn : {T : Type 0} → (ℕ → Toks → T → Type 0) → Misfit → Toks → Toks → Type 0
IsWhyIn G TooDeep front left = (t : Placed) × (us : Toks) × (left ≡ t ∷ us) × (deeper : ℕ) × GoesOnIn G deeper (front ++ t ∷ [])
IsWhyIn G Unfit front left = (t : Placed) (us : Toks) → left ≡ t ∷ us → (deeper : ℕ) → GoesOnIn G deeper (front ++ t ∷ []) → ⊥

-- the front begins some text, and with the next token, or as a whole text, it does not
pub record StuckIn {T : Type 0} (G : ℕ → Toks → T → Type 0) (n : ℕ) (m : Misfit) (front left : Toks) : Type 0 where
  pub goes_on : GoesOnIn G n front
  pub refused : (e : T) → G n (front ++ left) e → ⊥
  pub next : (t : Placed) (us : Toks) → left ≡ t ∷ us → GoesOnIn G n (front ++ t ∷ []) → ⊥
  pub why : IsWhyIn G m front left

-- the same for expressions
abbrev pub GoesOn : ℕ → Toks → Type 0
GoesOn n ts = GoesOnIn Cond n ts

abbrev pub IsWhy : Misfit → Toks → Toks → Type 0
IsWhy m front left = IsWhyIn Cond m front left

abbrev pub Stuck : ℕ → Misfit → Toks → Toks → Type 0
Stuck n m front left = StuckIn Cond n m front left

-- all tokens are a text of the grammar, with its tree; or a parser stands where they are stuck
abbrev pub ReadsAll : {A T : Type 0} → (A → T) → (ℕ → Toks → T → Type 0) → ℕ → Result A Stop → Toks → Toks → Type 0
ReadsAll tree G n result old new =
    MatchResult result (λ x. G n old (tree x)) (AtMisfit (λ m. (front : Toks) × (old ≡ front ++ new) × StuckIn G n m front new))
