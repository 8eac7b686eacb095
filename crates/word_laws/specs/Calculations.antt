-- Items of columns to be calculated, by their grammar: a name, `=`, and `count()` or `sum(field)`, with white space
-- before and after each token.
use Rattle.std.specs.Prelude.{◌≡◌, true, ◌∷◌, [], ◌++◌, codes}
use Rattle.std.specs.List.{list_all}
use Rattle.numerals.specs.Bytes.{is_white}
use Rattle.table_terms.specs.Names.{Text}
use Rattle.join_terms.specs.declared.calculations.Calc.{Calc}
use Rattle.join_terms.specs.declared.calculations.Calc.TheVariants as calc
use Rattle.cmd_words.specs.Calculations.{is_name}

-- s is this word with white space round it
pub record Spaced (word s : Text) : Type 0 where
  pub before : Text
  pub past : Text
  pub white_before : list_all is_white before ≡ true
  pub white_after : list_all is_white past ≡ true
  pub joined : s ≡ before ++ (word ++ past)

-- n = f(p), and e after it
abbrev pub item : Text → Text → Text → Text → Text
item n f p e = n ++ 61 ∷ (f ++ 40 ∷ (p ++ 41 ∷ e))

pub data IsCalculation : Text → Calc → Type 0 where
  counts : {name n f p e : Text} → is_name name ≡ true → Spaced name n → Spaced (codes "count") f → Spaced [] p → Spaced [] e → IsCalculation (item n f p e) (calc.Count name)
  sums : {name field n f p e : Text} → is_name name ≡ true → is_name field ≡ true → Spaced name n → Spaced (codes "sum") f → Spaced field p → Spaced [] e → IsCalculation (item n f p e) (calc.Sum name field)
