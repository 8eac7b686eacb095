-- What the bytes in memory are after a call moved some of them.
use Rattle.std.proofs.Common.{◌≡◌, ℕ, ◌+◌, ◌-◌, ◌<◌, ◌≤◌, min, [], ◌++◌, length, take, drop, sym, ap, ◌∙◌, arith, take-append-drop}
use Rattle.std.proofs.lemmas.List.{drop_all, take_rest, drop-drop}
use Rattle.std.proofs.Math.Seq.{take-append_seam}
use Rattle.io_core.specs.Contents.{Content}

-- the front that was copied, and what is left after it
pub front_and_rest : (left bytes shown piece rest : Content) (at n : ℕ) → left ≡ drop at bytes → shown ≡ bytes → piece ≡ take n (take (length shown - at) (drop at shown)) → length piece ≡ n
    → left ≡ take n (piece ++ rest) ++ drop (at + n) bytes
front_and_rest left bytes shown piece rest at n e lent copied count =
    let same : piece ≡ take n left = copied ∙ ap (take n) (take_rest shown at ∙ ap (drop at) lent ∙ sym e) in
    let front : take n (piece ++ rest) ≡ take n left = ap (λ m. take m (piece ++ rest)) (sym count) ∙ take-append_seam piece rest ∙ same in
    let back : drop (at + n) bytes ≡ drop n left = sym (drop-drop n at bytes) ∙ ap (drop n) (sym e) in
    sym (ap (λ l. l ++ drop (at + n) bytes) front ∙ ap (λ l. take n left ++ l) back ∙ take-append-drop n left)

-- no byte is moved only where none is left, or there is no room
pub none_moved : (bytes shown : Content) (at n room most : ℕ) → n ≡ min (min room (length bytes - at)) most → 1 ≤ most → n ≡ 0 → 0 < room → drop (at + n) bytes ≡ []
none_moved bytes shown at n room most moves some none more = drop_all (at + n) bytes (omega arith)
