-- The text of a number, by its decimal or as it is spelled.
use Rattle.std.proofs.Common.{ℕ, ◌≡◌, List, ap, ℤ, Option, Some, None}
use Rattle.numerals.specs.Decimal.{decimal_text, decimal_of_text}
use Rattle.json_values.specs.Text.{number_text}

pub number_some : (s : List ℕ) (units : ℤ) → decimal_of_text s ≡ Some units → number_text s ≡ decimal_text units
number_some s units e = ap (λ (o : Option ℤ). (elim o as (λ _. List ℕ) [ None ↦ s | Some units ↦ decimal_text units ])) e

pub number_none : (s : List ℕ) → decimal_of_text s ≡ None → number_text s ≡ s
number_none s e = ap (λ (o : Option ℤ). (elim o as (λ _. List ℕ) [ None ↦ s | Some units ↦ decimal_text units ])) e
