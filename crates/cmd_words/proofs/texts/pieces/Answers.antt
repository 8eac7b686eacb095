use Rattle.std.proofs.Common.{rules, ◌≡◌, ◌∷◌, [], Some, None, lit<}
use Rattle.std.proofs.lemmas.Str.Pattern.{split_once_first}
use Rattle.cmd_words.specs.Texts.{pieces}
use Rattle.cmd_words.proofs.Pieces.{pieces_at_comma, pieces_alone, one_piece_more, last_piece}
use Rattle.cmd_words.proofs.texts.pieces.Goals as goal

pub loop-piece-preserved : goal.loop-piece-preserved
loop-piece-preserved c =
    let parts = split_once_first 44 c.loop-piece.rest.now (Some (c.in-Some.piece, c.in-Some.more)) c.in-Some.ensures.cases (lit< tt) in
    let first : pieces c.loop-piece.rest.now ≡ c.in-Some.piece.now ∷ pieces c.in-Some.more.now = rw (parts.1, parts.2) (pieces_at_comma c.loop-piece.rest.now parts.0) in
    (search rules, one_piece_more _ _ _ _ _ _ c.loop-piece.invariant.1 (rw c.in_ok-of.ensures.copied at c.in_ok-push.ensures.ok) first)

pub returns : goal.returns
returns c =
    let none = split_once_first 44 c.loop-piece.rest.now None c.in_default.ensures.cases (lit< tt) in
    let last : pieces c.loop-piece.rest.now ≡ c.loop-piece.rest.now ∷ [] = pieces_alone c.loop-piece.rest.now none in
    record { exact = last_piece _ _ _ _ _ c.loop-piece.invariant.1 (rw c.in_ok-of-2.ensures.copied at c.in_ok-push-2.ensures.ok) last }
