use Rattle.std.proofs.Common.{rules, ◌≡◌, ◌∷◌, Some, None, lit<, ◌∙◌, sym}
use Rattle.std.proofs.lemmas.Str.Pattern.{split_once_first}
use Rattle.cmd_words.specs.Texts.{pieces, is_empty}
use Rattle.cmd_words.proofs.Pieces.{pieces_at_comma, pieces_alone, empty_at_comma, empty_alone, empty_here, empty_further}
use Rattle.cmd_words.proofs.texts.has_empty_piece.Goals as goal

pub loop-piece-preserved : goal.loop-piece-preserved
loop-piece-preserved c =
    let parts = split_once_first 44 c.loop-piece.rest.now (Some (c.in-Some.piece, c.in-Some.more)) c.in-Some.ensures.cases (lit< tt) in
    let first : pieces c.loop-piece.rest.now ≡ c.in-Some.piece.now ∷ pieces c.in-Some.more.now = rw (parts.1, parts.2) (pieces_at_comma c.loop-piece.rest.now parts.0) in
    (search rules, empty_further _ _ _ (is_empty c.in-Some.piece.now) c.loop-piece.invariant.1 (empty_at_comma c.loop-piece.rest.now c.in-Some.piece.now c.in-Some.more.now first) (sym c.is_empty.ensures ∙ c.if-is_empty.false))

pub returns-then-is_empty : goal.returns-then-is_empty
returns-then-is_empty c =
    let parts = split_once_first 44 c.loop-piece.rest.now (Some (c.in-Some.piece, c.in-Some.more)) c.in-Some.ensures.cases (lit< tt) in
    let first : pieces c.loop-piece.rest.now ≡ c.in-Some.piece.now ∷ pieces c.in-Some.more.now = rw (parts.1, parts.2) (pieces_at_comma c.loop-piece.rest.now parts.0) in
    record { exact = empty_here _ _ _ (is_empty c.in-Some.piece.now) c.loop-piece.invariant.1 (empty_at_comma c.loop-piece.rest.now c.in-Some.piece.now c.in-Some.more.now first) (sym c.is_empty.ensures ∙ c.if-is_empty.true) }

pub returns : goal.returns
returns c =
    let none = split_once_first 44 c.loop-piece.rest.now None c.in_default.ensures.cases (lit< tt) in
    record { exact = c.is_empty-2.ensures ∙ sym (c.loop-piece.invariant.1 ∙ empty_alone c.loop-piece.rest.now (pieces_alone c.loop-piece.rest.now none)) }
