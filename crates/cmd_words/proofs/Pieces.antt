-- The pieces of a text, from its first comma on.
use Rattle.std.proofs.Common.{◌≡◌, ℕ, suc, ◌+◌, ◌<◌, Bool, true, false, ◌||◌, eqb, List, [], ◌∷◌, ◌++◌, append_assoc, length, take, drop, refl, ap, sym, ◌∙◌, arith}
use Rattle.std.specs.List.{position_or_len, before_first, after_first}
use Rattle.std.specs.List.{list_any}
use Rattle.cmd_words.specs.Texts.{pieces, put_byte, has_empty_piece, is_empty}

abbrev comma : ℕ → Bool
comma b = eqb b 44

abbrev place : List ℕ → ℕ
place s = position_or_len comma s

-- up to a comma, and after it
pub pieces_at_comma : (s : List ℕ) → position_or_len (λ b. eqb b 44) s < length s → pieces s ≡ before_first (λ b. eqb b 44) s ∷ pieces (after_first (λ b. eqb b 44) s)
pieces_at_comma [] h = absurd (omega arith)
pieces_at_comma (b ∷ s) h = go (eqb b 44) refl (pieces_at_comma s)
  where
    go : (t : Bool) → eqb b 44 ≡ t → (place s < length s → pieces s ≡ take (place s) s ∷ pieces (drop (place s + 1) s)) → pieces (b ∷ s) ≡ take (place (b ∷ s)) (b ∷ s) ∷ pieces (drop (place (b ∷ s) + 1) (b ∷ s))
    go true e later = rw e refl
    go false e later =
        let p : place (b ∷ s) ≡ suc (place s) = rw e (omega arith) in
        let inside : place s < length s = omega (arith, h, p) in
        let read : pieces (b ∷ s) ≡ put_byte b (pieces s) = rw e refl in
        let F : ℕ → List (List ℕ) = λ n. take n (b ∷ s) ∷ pieces (drop (n + 1) (b ∷ s)) in
        let q : suc (place s) + 1 ≡ suc (place s + 1) = omega arith in
        let shown : F (suc (place s)) ≡ (b ∷ take (place s) s) ∷ pieces (drop (place s + 1) s) = ap (λ (n : ℕ). (b ∷ take (place s) s) ∷ pieces (drop n (b ∷ s))) q in
        read ∙ ap (put_byte b) (later inside) ∙ sym (ap F p ∙ shown)

-- a text without a comma
pub pieces_alone : (s : List ℕ) → position_or_len (λ b. eqb b 44) s ≡ length s → pieces s ≡ s ∷ []
pieces_alone [] h = refl
pieces_alone (b ∷ s) h = go (eqb b 44) refl (pieces_alone s)
  where
    go : (t : Bool) → eqb b 44 ≡ t → (place s ≡ length s → pieces s ≡ s ∷ []) → pieces (b ∷ s) ≡ (b ∷ s) ∷ []
    go true e later =
        let p : place (b ∷ s) ≡ 0 = rw e refl in
        absurd (omega (arith, h, p))
    go false e later =
        let p : place (b ∷ s) ≡ suc (place s) = rw e (omega arith) in
        let all : place s ≡ length s = omega (arith, h, p) in
        rw e (ap (put_byte b) (later all))

-- one more piece was read
pub one_piece_more : (all names more_names rest more : List (List ℕ)) (piece : List ℕ) → all ≡ names ++ rest → more_names ≡ names ++ piece ∷ [] → rest ≡ piece ∷ more → all ≡ more_names ++ more
one_piece_more all names more_names rest more piece a n r = a ∙ ap (λ x. names ++ x) r ∙ sym (ap (λ x. x ++ more) n ∙ append_assoc names (piece ∷ []) more)

-- an empty piece of a text is its first, or one after its first comma
pub empty_at_comma : (s piece more : List ℕ) → pieces s ≡ piece ∷ pieces more → has_empty_piece s ≡ (is_empty piece || has_empty_piece more)
empty_at_comma s piece more e = ap (list_any is_empty) e

pub empty_alone : (s : List ℕ) → pieces s ≡ s ∷ [] → has_empty_piece s ≡ is_empty s
empty_alone s e = ap (list_any is_empty) e ∙ or_false (is_empty s)
  where
    or_false : (b : Bool) → (b || false) ≡ b
    or_false true = refl
    or_false false = refl

-- the last piece was read
pub last_piece : (all names more_names rest : List (List ℕ)) (piece : List ℕ) → all ≡ names ++ rest → more_names ≡ names ++ piece ∷ [] → rest ≡ piece ∷ [] → more_names ≡ all
last_piece all names more_names rest piece a n r = n ∙ sym (a ∙ ap (λ x. names ++ x) r)

pub empty_here : (all rest more e : Bool) → all ≡ rest → rest ≡ (e || more) → e ≡ true → true ≡ all
empty_here all rest more e a r t = sym (a ∙ r ∙ ap (λ x. x || more) t)

pub empty_further : (all rest more e : Bool) → all ≡ rest → rest ≡ (e || more) → e ≡ false → all ≡ more
empty_further all rest more e a r f = a ∙ r ∙ ap (λ x. x || more) f
