use Rattle.std.proofs.Common.{◌≡◌, ℕ, ◌-◌, ◌≤◌, ◌&&◌, ◌↔◌, Bool, true, leb, List, length, drop, map, ap, sym, ◌∙◌, IsTrue, arith}
use Rattle.std.specs.Char.{to_ascii_lowercase}
use Rattle.std.specs.Str.{str_eq_ignore_ascii_case}
use Rattle.std.proofs.lemmas.Slice.Eq.{bytes_eq-Decides}
use Rattle.std.proofs.lemmas.Bool.Decides.{nat_tests, same_from_decides}
use Rattle.cmd_words.specs.Texts.{ends_in}
use Rattle.cmd_words.proofs.texts.ends_in.Goals as goal

-- the end of a text, compared
compared : (r : Bool) (s ending end : List ℕ) → length ending ≤ length s → end ≡ drop (length s - length ending) s → (IsTrue r ↔ (map to_ascii_lowercase end ≡ map to_ascii_lowercase ending)) → r ≡ ends_in s ending
compared r s ending end h e t =
    let same : r ≡ str_eq_ignore_ascii_case end ending = same_from_decides r _ t (bytes_eq-Decides (map to_ascii_lowercase end) (map to_ascii_lowercase ending)) in
    let long : leb (length ending) (length s) ≡ true = grind (arith, nat_tests) in
    same ∙ ap (λ x. str_eq_ignore_ascii_case x ending) e ∙ sym (ap (λ b. b && str_eq_ignore_ascii_case (drop (length s - length ending) s) ending) long)

pub returns : goal.returns
returns c =
    let read = compared c.eq_ignore_ascii_case.result c.as_bytes-text.result.now c.as_bytes-ending.result.now c.split_at.result.1.now c.if-text-ending.false c.split_at.ensures.back c.eq_ignore_ascii_case.ensures.test in
    record { exact = rw (c.as_bytes-text.ensures.value, c.as_bytes-ending.ensures.value) at read }
