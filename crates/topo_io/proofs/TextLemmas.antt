-- Texts of topologies, piece by piece.
use Rattle.std.proofs.Common.{◌≡◌, codes, ◌<◌, ◌≤◌, List, [], ◌∷◌, ◌++◌, length, get_or, ap, ◌∙◌, arith}
use Rattle.std.proofs.lemmas.List.{append_assoc}
use Rattle.json_values.specs.Table.{RowValues}
use Rattle.geojson_io.specs.Texts.{Text, list_text, properties_text}
use Rattle.topo_io.specs.Texts.{type_text, one_or_many, row_member}

-- four pieces after a text
pub four : (old p q r s a b c d : Text) → a ≡ old ++ p → b ≡ a ++ q → c ≡ b ++ r → d ≡ c ++ s → d ≡ old ++ (p ++ (q ++ (r ++ s)))
four old p q r s a b c d ea eb ec ed =
    ed ∙ ap (λ (w : Text). w ++ s) (ec ∙ ap (λ (w : Text). w ++ r) (eb ∙ ap (λ (w : Text). w ++ q) ea))
    ∙ append_assoc ((old ++ p) ++ q) r s ∙ append_assoc (old ++ p) q (r ++ s) ∙ append_assoc old p (q ++ (r ++ s))

pub three : (old p q r a b c : Text) → a ≡ old ++ p → b ≡ a ++ q → c ≡ b ++ r → c ≡ old ++ (p ++ (q ++ r))
three old p q r a b c ea eb ec =
    ec ∙ ap (λ (w : Text). w ++ r) (eb ∙ ap (λ (w : Text). w ++ q) ea) ∙ append_assoc (old ++ p) q r ∙ append_assoc old p (q ++ r)

pub two : (old p q a b : Text) → a ≡ old ++ p → b ≡ a ++ q → b ≡ old ++ (p ++ q)
two old p q a b ea eb = eb ∙ ap (λ (w : Text). w ++ q) ea ∙ append_assoc old p q

pub five : (old p q r s t a b c d e : Text) → a ≡ old ++ p → b ≡ a ++ q → c ≡ b ++ r → d ≡ c ++ s → e ≡ d ++ t → e ≡ old ++ (p ++ (q ++ (r ++ (s ++ t))))
five old p q r s t a b c d e ea eb ec ed ee = two old p (q ++ (r ++ (s ++ t))) a e ea (four a q r s t b c d e eb ec ed ee)

pub one_written : {A : Type 0} (one many member : Text) (show : A → Text) (xs : List A) (x : A) (old a e : Text) → 1 ≤ length xs → length xs < 2 → x ≡ get_or xs 0 x
    → a ≡ old ++ type_text one member → e ≡ a ++ show x → e ≡ old ++ one_or_many one many member show xs
one_written one many member show [] x old a e l k is ea ee = absurd (omega arith)
one_written one many member show (y ∷ []) x old a e l k is ea ee = two old (type_text one member) (show x) a e ea ee ∙ ap (λ z. old ++ (type_text one member ++ show z)) is
one_written one many member show (y ∷ z ∷ rest) x old a e l k is ea ee = absurd (omega arith)

pub many_written : {A : Type 0} (one many member : Text) (show : A → Text) (xs : List A) (old a e : Text) → 2 ≤ length xs
    → a ≡ old ++ type_text many member → e ≡ a ++ list_text show xs → e ≡ old ++ one_or_many one many member show xs
many_written one many member show [] old a e l ea ee = absurd (omega arith)
many_written one many member show (y ∷ []) old a e l ea ee = absurd (omega arith)
many_written one many member show (y ∷ z ∷ rest) old a e l ea ee = two old (type_text many member) (list_text show (y ∷ z ∷ rest)) a e ea ee

-- the properties, where there is a column
pub row_written : (keys : List Text) (row : RowValues) (old a e : Text) → 0 < length keys → a ≡ old ++ codes ",\"properties\":" → e ≡ a ++ properties_text keys row → e ≡ old ++ row_member keys row
row_written [] row old a e l ea ee = absurd (omega arith)
row_written (k ∷ ks) row old a e l ea ee = two old (codes ",\"properties\":") (properties_text (k ∷ ks) row) a e ea ee
