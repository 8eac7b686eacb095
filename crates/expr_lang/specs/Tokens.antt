-- The tokens of an expression's text, each with the place of its first byte. Tokens are the longest that fit.
use Rattle.std.specs.Prelude.{ℕ, zero, suc, ◌-◌, Bool, false, ◌&&◌, ◌||◌, ◌==◌, nat_le, nat_eq, List, [], ◌∷◌, ◌++◌, take, drop, length, codes, Option, Some, None, if◌then◌else◌, ℤ}
use Rattle.std.specs.Str.{bytes_eq}
use Rattle.std.specs.List.{starts_with}
use Rattle.expr_lang.specs.declared.token.Operator.TheVariants as op
use Rattle.expr_lang.specs.declared.token.Mark.TheVariants as mark
use Rattle.expr_lang.specs.declared.token.Symbol.{Symbol}
use Rattle.expr_lang.specs.declared.token.Symbol.TheVariants as symbol
use Rattle.expr_lang.specs.declared.token.Token.{Token}
use Rattle.expr_lang.specs.declared.token.Token.TheVariants as token
use Rattle.expr_lang.specs.Grammar.{Toks}
use Rattle.numerals.specs.Bytes.{is_white, is_digit, drop_while}
use Rattle.numerals.specs.Numeral.{skip_sign}
use Rattle.numerals.specs.Decimal.{decimal_of_text}

abbrev pub Text : Type 0
Text = List ℕ

-- a token, and the bytes after it
abbrev pub Lexed : Type 0
Lexed = Token × Text

-- ---- numbers

abbrev pub begins_with_digit : Text → Bool
begins_with_digit [] = false
begins_with_digit (b ∷ rest) = is_digit b

-- a zero stands alone
abbrev pub skip_whole : Text → Text
skip_whole [] = []
skip_whole (b ∷ rest) = if b == 48 then rest else drop_while is_digit (b ∷ rest)

abbrev pub skip_fraction : Text → Text
skip_fraction [] = []
skip_fraction (b ∷ rest) = if (b == 46) && begins_with_digit rest then drop_while is_digit rest else b ∷ rest

abbrev pub skip_exponent : Text → Text
skip_exponent [] = []
skip_exponent (b ∷ rest) = if ((b == 101) || (b == 69)) && begins_with_digit (skip_sign rest) then drop_while is_digit (skip_sign rest) else b ∷ rest

-- what is left after the number that begins the text
abbrev pub after_number : Text → Text
after_number s = skip_exponent (skip_fraction (skip_whole s))

abbrev pub number_token : Option ℤ → Token
number_token None = token.Other
number_token (Some units) = token.Number units

abbrev pub number_at : Text → Lexed
number_at s = (number_token (decimal_of_text (take (length s - length (after_number s)) s)), after_number s)

-- ---- texts

abbrev pub is_quote : ℕ → Bool
is_quote b = (b == 34) || (b == 39)

-- \\, \', \", \n and \t
abbrev pub escape_of : ℕ → Option ℕ
escape_of b = if (b == 92) || (b == 39) || (b == 34) then Some b else if b == 110 then Some 10 else if b == 116 then Some 9 else None

-- a content with one byte more; a content that had another escape is none
abbrev pub with_byte : Option Text → ℕ → Option Text
with_byte None b = None
with_byte (Some content) b = Some (content ++ b ∷ [])

-- a whole text, with its content; or one that has another escape
abbrev pub content_token : Option Text → Token
content_token None = token.Other
content_token (Some content) = token.Text content

-- a text after its quote q, with its content so far; one that does not end, or meets a line feed, is stray
abbrev mutual
  pub text_at : ℕ → Option Text → Text → Lexed
  text_at q content [] = (token.Stray, [])
  text_at q content (b ∷ rest) =
      if b == q then (content_token content, rest)
      else if b == 10 then (token.Stray, [])
      else if b == 92 then escape_at q content rest
      else text_at q (with_byte content b) rest

  -- after a backslash
  pub escape_at : ℕ → Option Text → Text → Lexed
  escape_at q content [] = (token.Stray, [])
  escape_at q content (b ∷ rest) =
      if b == 10 then (token.Stray, [])
      else elim (escape_of b) [ Some e ↦ text_at q (with_byte content e) rest | None ↦ text_at q None rest ]

-- ---- names and words

abbrev pub is_name_start : ℕ → Bool
is_name_start b = (nat_le 65 b && nat_le b 90) || (nat_le 97 b && nat_le b 122) || (b == 95) || (b == 36)

abbrev pub is_name_byte : ℕ → Bool
is_name_byte b = is_name_start b || is_digit b

abbrev pub is_other_word : Text → Bool
is_other_word s =
    bytes_eq s (codes "typeof") || bytes_eq s (codes "new") || bytes_eq s (codes "function") || bytes_eq s (codes "in")
    || bytes_eq s (codes "instanceof") || bytes_eq s (codes "var") || bytes_eq s (codes "let") || bytes_eq s (codes "const")
    || bytes_eq s (codes "delete") || bytes_eq s (codes "void") || bytes_eq s (codes "return")

abbrev pub word_token : Text → Token
word_token s =
    if bytes_eq s (codes "true") then token.True
    else if bytes_eq s (codes "false") then token.False
    else if bytes_eq s (codes "null") then token.Null
    else if bytes_eq s (codes "this") then token.This
    else if is_other_word s then token.Other
    else token.Name s

abbrev pub word_at : Text → Lexed
word_at s = (word_token (take (length s - length (drop_while is_name_byte s)) s), drop_while is_name_byte s)

-- ---- operators and marks

abbrev pub three_bytes : Text → Option Symbol
three_bytes s =
    if starts_with nat_eq s (codes "===") then Some (symbol.Operator op.Same)
    else if starts_with nat_eq s (codes "!==") then Some (symbol.Operator op.NotSame)
    else None

abbrev pub two_bytes : Text → Option Symbol
two_bytes s =
    if starts_with nat_eq s (codes "==") then Some (symbol.Operator op.Equal)
    else if starts_with nat_eq s (codes "!=") then Some (symbol.Operator op.NotEqual)
    else if starts_with nat_eq s (codes "<=") then Some (symbol.Operator op.AtMost)
    else if starts_with nat_eq s (codes ">=") then Some (symbol.Operator op.AtLeast)
    else if starts_with nat_eq s (codes "&&") then Some (symbol.Operator op.Both)
    else if starts_with nat_eq s (codes "||") then Some (symbol.Operator op.Either)
    else if starts_with nat_eq s (codes "**") then Some symbol.Other
    else if starts_with nat_eq s (codes "=>") then Some symbol.Other
    else if starts_with nat_eq s (codes "++") then Some symbol.Other
    else if starts_with nat_eq s (codes "--") then Some symbol.Other
    else if starts_with nat_eq s (codes "<<") then Some symbol.Other
    else if starts_with nat_eq s (codes ">>") then Some symbol.Other
    else if starts_with nat_eq s (codes "?.") then Some symbol.Other
    else None

-- / % & | ^ ~ { } ,
abbrev pub other_byte : ℕ → Option Symbol
other_byte b =
    if (b == 47) || (b == 37) || (b == 38) || (b == 124) || (b == 94) || (b == 126) || (b == 123) || (b == 125) || (b == 44)
    then Some symbol.Other else None

-- ? : < > + - * ! ( ) [ ] . = ;
abbrev pub one_byte : ℕ → Option Symbol
one_byte b =
    if b == 63 then Some (symbol.Mark mark.Question)
    else if b == 58 then Some (symbol.Mark mark.Colon)
    else if b == 60 then Some (symbol.Operator op.Less)
    else if b == 62 then Some (symbol.Operator op.Greater)
    else if b == 43 then Some (symbol.Operator op.Plus)
    else if b == 45 then Some (symbol.Operator op.Minus)
    else if b == 42 then Some (symbol.Operator op.Times)
    else if b == 33 then Some (symbol.Mark mark.Not)
    else if b == 40 then Some (symbol.Mark mark.Open)
    else if b == 41 then Some (symbol.Mark mark.Close)
    else if b == 91 then Some (symbol.Mark mark.OpenBracket)
    else if b == 93 then Some (symbol.Mark mark.CloseBracket)
    else if b == 46 then Some (symbol.Mark mark.Dot)
    else if b == 61 then Some (symbol.Mark mark.Becomes)
    else if b == 59 then Some (symbol.Mark mark.Semicolon)
    else other_byte b

abbrev pub symbol_token : Symbol → Token
symbol_token (symbol.Operator o) = token.Operator o
symbol_token (symbol.Mark m) = token.Mark m
symbol_token symbol.Other = token.Other

-- a symbol of n bytes, or what else stands there
abbrev pub symbol_or : Text → ℕ → Option Symbol → Lexed → Lexed
symbol_or s n None else_token = else_token
symbol_or s n (Some x) else_token = (symbol_token x, drop n s)

-- the longer ones first. A byte that begins no token is stray, and nothing is read after it
abbrev pub symbol_at : ℕ → Text → Lexed
symbol_at b rest =
    symbol_or (b ∷ rest) 3 (three_bytes (b ∷ rest)) (symbol_or (b ∷ rest) 2 (two_bytes (b ∷ rest)) (symbol_or (b ∷ rest) 1 (one_byte b) (token.Stray, [])))

-- ---- all tokens

abbrev pub token_at : ℕ → Text → Lexed
token_at b rest =
    if is_digit b then number_at (b ∷ rest)
    else if is_quote b then text_at b (Some []) rest
    else if is_name_start b then word_at (b ∷ rest)
    else symbol_at b rest

-- the tokens of a text's end, at most n of them and of white bytes; the whole text has `all` bytes
unfoldable pub tokens_from : ℕ → ℕ → Text → Toks
tokens_from zero all s = []
tokens_from (suc n) all [] = []
tokens_from (suc n) all (b ∷ rest) =
    if is_white b then tokens_from n all rest
    else (all - length (b ∷ rest), (token_at b rest).0) ∷ tokens_from n all (token_at b rest).1

abbrev pub tokens_of : Text → Toks
tokens_of s = tokens_from (length s) (length s) s
