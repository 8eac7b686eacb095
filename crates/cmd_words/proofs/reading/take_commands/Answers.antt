use Rattle.std.proofs.Common.{◌≡◌, ℕ, ◌+◌, ◌-◌, ◌∙◌, length, take, drop, refl, ap, sym, subst, Err, length-drop, arith}
use Rattle.std.proofs.lemmas.List.{take_rest}
use Rattle.std.proofs.lemmas.Result.{err_from_is_err_and}
use Rattle.cmd_words.specs.Cuts.{BeginsACommand}
use Rattle.cmd_words.proofs.Readings.{turns_stop, stops, goes_on}
use Rattle.cmd_words.proofs.Cuts.{next_command, begins_after_cut}
use Rattle.cmd_words.proofs.reading.take_commands.Goals as goal

pub returns-in_err-take_command : goal.returns-in_err-take_command
returns-in_err-take_command c =
    let p = err_from_is_err_and c.from_residual.result c.from_residual.ensures.1 in
    let k = c.plain_count.result in
    let left = c.loop-left.left.now in
    record {
      exact = λ refuses right. turns_stop _ _ c.take_command.new.so_far _ _ c.in_err-take_command.field-0.0 (p.1 ∙ ap Err p.2) (c.in_err-take_command.ensures.exact refuses right)
          (λ q e. c.loop-left.invariant.commands refuses right
          ∙ next_command refuses c.args.places c.loop-left.so_far c.loop-left.number ((c.loop-left.number + 1) + k) k c.as_str.result.now c.word-item.result left (take (length left - 1) (drop 1 left)) c.split_at.result.0.now c.split_at.result.1.now
          c.as_str.ensures.lent c.in-len1-up.len_at_least c.word-item.is (take_rest left 1) c.loop-left.invariant.begins c.plain_count.ensures.exact c.split_at.ensures.front c.split_at.ensures.back refl
          ∙ stops _ _ q e);
    }

pub loop-left-preserved : goal.loop-left-preserved
loop-left-preserved c =
    let k = c.plain_count.result in
    let left = c.loop-left.left.now in
    let rest = take (length left - 1) (drop 1 left) in
    let m : c.loop-left.number + (1 + length c.split_at.result.0.now) ≡ (c.loop-left.number + 1) + k = omega (arith, c.split_at.ensures.front_len) in
    let past : length rest ≡ length left - 1 = ap length (take_rest left 1) ∙ length-drop 1 left in
    record {
      number = omega (arith, c.split_at.ensures.front_len, c.split_at.ensures.back_len, c.plain_count.ensures.within, past, c.in-len1-up.len_at_least, c.loop-left.invariant.number);
      begins = subst BeginsACommand (sym (c.split_at.ensures.back ∙ ap (λ (n : ℕ). drop n rest) c.plain_count.ensures.exact)) (begins_after_cut rest);
      commands = λ refuses right. c.loop-left.invariant.commands refuses right
          ∙ next_command refuses c.args.places c.loop-left.so_far c.loop-left.number (c.loop-left.number + (1 + length c.split_at.result.0.now)) k c.as_str.result.now c.word-item.result left rest c.split_at.result.0.now c.split_at.result.1.now
          c.as_str.ensures.lent c.in-len1-up.len_at_least c.word-item.is (take_rest left 1) c.loop-left.invariant.begins c.plain_count.ensures.exact c.split_at.ensures.front c.split_at.ensures.back m
          ∙ goes_on _ _ c.take_command.new.so_far (c.in_ok-take_command.ensures.exact refuses right);
    }
