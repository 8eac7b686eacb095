use Rattle.std.proofs.Common.{arith, refl, codes, true, false, inl, inr, rules}
use Rattle.numerals.specs.Bytes.{is_white}
use Rattle.json_values.specs.Json.{ItemList, FieldList}
use Rattle.json_read.proofs.reader.Reader.+values.Goals.{value-in_default-first-via-then-this-lt48, value-in_default-first-via-else-this-lt48+else-this-lt58}
use Rattle.json_values.specs.Grammar.{is_null, is_true, is_false}
use Rattle.json_read.specs.Machine.{in_array, in_object, first_value, first_name, is_value}
use Rattle.json_read.specs.Reading.{ArrayText, ObjectText}
use Rattle.json_values.specs.declared.json.Json.TheVariants as json
use Rattle.json_read.proofs.Arrays.{array_empty, array_init, array_more, array_ends, array_item_breaks, array_comma_breaks}
use Rattle.json_read.proofs.Objects.{object_empty, object_init, object_more, object_ends, object_name_breaks, object_item_breaks, object_comma_breaks}
use Rattle.json_read.proofs.Values.{padded_passes, padded_breaks, no_value, string_value, string_value_breaks, number_value, number_value_breaks, word_value, word_value_breaks, too_deep, nothing_begins, held_value, held_breaks}
use Rattle.json_read.proofs.Whiles.{next_fails_after}
use Rattle.json_read.proofs.Parts.{at_exit, next_is, seen}
use Rattle.json_read.proofs.reader.Reader.+values.Goals as goal

pub padded-returns-clause-part : goal.padded-returns-clause-part
padded-returns-clause-part t c = padded_passes c.args.depth c.in_ok-value.value _ _ _ _ c.skip_white.ensures.exact c.in_ok-value.ensures.read c.skip_white-2.ensures.exact

pub value-returns-in_default : goal.value-returns-in_default
value-returns-in_default t c = record { read = no_value c.args.depth _ c.in_default.ensures.exact }

pub padded-returns-in_err-value-clause-part : goal.padded-returns-in_err-value-clause-part
padded-returns-in_err-value-clause-part t c =
    at_exit _ _ c.from_residual.result c.in_err-value.field-0.0 c.from_residual.ensures.1 (padded_breaks c.args.depth c.in_err-value.field-0.0 _ _ _ c.skip_white.ensures.exact c.in_err-value.ensures.read)

pub padded-returns-clause-trimmed : goal.padded-returns-clause-trimmed
padded-returns-clause-trimmed t c = next_fails_after is_white c.value.new.self.rest.now _ c.skip_white-2.ensures.exact

pub value-returns-in_err-string-in-34 : goal.value-returns-in_err-string-in-34
value-returns-in_err-string-in-34 t c = record {
  read =
      at_exit _ _ c.from_residual.result c.in_err-string-in-34.field-0.0 c.from_residual.ensures.1 (string_value_breaks c.args.depth c.in_err-string-in-34.field-0.0 _ _ _ (next_is (seen c.in-34.is c.in-Some.ensures.exact) c.advance.ensures.next) (c.in_err-string-in-34.ensures.read is_value));
}

pub value-returns-in_ok-string-in-34 : goal.value-returns-in_ok-string-in-34
value-returns-in_ok-string-in-34 t c = record { read = string_value c.args.depth c.in_ok-string-in-34.field-0 _ _ _ (next_is (seen c.in-34.is c.in-Some.ensures.exact) c.advance.ensures.next) (c.in_ok-string-in-34.ensures.read is_value) }

pub value-returns-in_err-inner-in-91 : goal.value-returns-in_err-inner-in-91
value-returns-in_err-inner-in-91 t c =
    let e = c.in_err-inner-in-91 in
    record { read = at_exit _ _ c.from_residual-in_err-inner-in-91.result e.field-0.0 c.from_residual-in_err-inner-in-91.ensures.1 (rw (e.ensures.deep.1, e.ensures.stays) (too_deep in_array first_value 91 c.args.depth _ (seen c.in-91.is c.in-Some.ensures.exact) (λ n k. refl) refl e.ensures.deep.0)) }

pub value-returns-in_err-inner-in-123 : goal.value-returns-in_err-inner-in-123
value-returns-in_err-inner-in-123 t c =
    let e = c.in_err-inner-in-123 in
    record { read = at_exit _ _ c.from_residual-in_err-inner-in-123.result e.field-0.0 c.from_residual-in_err-inner-in-123.ensures.1 (rw (e.ensures.deep.1, e.ensures.stays) (too_deep in_object first_name 123 c.args.depth _ (seen c.in-123.is c.in-Some.ensures.exact) (λ n k. refl) refl e.ensures.deep.0)) }

pub value-returns-in_err-array-in-91 : goal.value-returns-in_err-array-in-91
value-returns-in_err-array-in-91 t c = record {
  read =
      at_exit _ _ c.from_residual-in_err-array-in-91.result c.in_err-array-in-91.field-0.0 c.from_residual-in_err-array-in-91.ensures.1 (held_breaks in_array first_value 91 c.args.depth c.in_ok-inner-in-91.inner (λ s. (js : ItemList) × ArrayText c.in_ok-inner-in-91.inner js s) c.in_err-array-in-91.field-0.0 _ _ _ c.in_ok-inner-in-91.ensures.inside (next_is (seen c.in-91.is c.in-Some.ensures.exact) c.in_ok-inner-in-91.ensures.next) (λ n l. refl) (λ s h. (json.List h.0, h.1)) c.in_err-array-in-91.ensures.read);
}

pub value-returns-in_ok-array-in-91 : goal.value-returns-in_ok-array-in-91
value-returns-in_ok-array-in-91 t c = record {
  read =
      held_value in_array first_value 91 c.args.depth c.in_ok-inner-in-91.inner (ArrayText c.in_ok-inner-in-91.inner c.in_ok-array-in-91.field-0) (json.List c.in_ok-array-in-91.field-0) _ _ _ c.in_ok-inner-in-91.ensures.inside (next_is (seen c.in-91.is c.in-Some.ensures.exact) c.in_ok-inner-in-91.ensures.next) (λ n l. refl) (λ s h. h) c.in_ok-array-in-91.ensures.read;
}

pub value-returns-in_err-object-in-123 : goal.value-returns-in_err-object-in-123
value-returns-in_err-object-in-123 t c = record {
  read =
      at_exit _ _ c.from_residual-in_err-object-in-123.result c.in_err-object-in-123.field-0.0 c.from_residual-in_err-object-in-123.ensures.1 (held_breaks in_object first_name 123 c.args.depth c.in_ok-inner-in-123.inner (λ s. (fs : FieldList) × ObjectText c.in_ok-inner-in-123.inner fs s) c.in_err-object-in-123.field-0.0 _ _ _ c.in_ok-inner-in-123.ensures.inside (next_is (seen c.in-123.is c.in-Some.ensures.exact) c.in_ok-inner-in-123.ensures.next) (λ n l. refl) (λ s h. (json.Object h.0, h.1)) c.in_err-object-in-123.ensures.read);
}

pub value-returns-in_ok-object-in-123 : goal.value-returns-in_ok-object-in-123
value-returns-in_ok-object-in-123 t c = record {
  read =
      held_value in_object first_name 123 c.args.depth c.in_ok-inner-in-123.inner (ObjectText c.in_ok-inner-in-123.inner c.in_ok-object-in-123.field-0) (json.Object c.in_ok-object-in-123.field-0) _ _ _ c.in_ok-inner-in-123.ensures.inside (next_is (seen c.in-123.is c.in-Some.ensures.exact) c.in_ok-inner-in-123.ensures.next) (λ n l. refl) (λ s h. h) c.in_ok-object-in-123.ensures.read;
}

pub value-returns-in_ok-word-in-110 : goal.value-returns-in_ok-word-in-110
value-returns-in_ok-word-in-110 t c = record { read = word_value c.args.depth 110 (codes "ull") json.Null _ _ (seen c.in-110.is c.in-Some.ensures.exact) (λ n k. refl) refl is_null c.in_ok-word-in-110.ensures.read }

pub value-returns-in_ok-word-in-116 : goal.value-returns-in_ok-word-in-116
value-returns-in_ok-word-in-116 t c = record { read = word_value c.args.depth 116 (codes "rue") (json.Bool true) _ _ (seen c.in-116.is c.in-Some.ensures.exact) (λ n k. refl) refl is_true c.in_ok-word-in-116.ensures.read }

pub value-returns-in_ok-word-in-102 : goal.value-returns-in_ok-word-in-102
value-returns-in_ok-word-in-102 t c = record { read = word_value c.args.depth 102 (codes "alse") (json.Bool false) _ _ (seen c.in-102.is c.in-Some.ensures.exact) (λ n k. refl) refl is_false c.in_ok-word-in-102.ensures.read }

pub value-returns-in_err-word-in-110 : goal.value-returns-in_err-word-in-110
value-returns-in_err-word-in-110 t c = record {
  read =
      at_exit _ _ c.from_residual-in_err-word-in-110.result c.in_err-word-in-110.field-0.0 c.from_residual-in_err-word-in-110.ensures.1 (word_value_breaks c.args.depth 110 (codes "ull") json.Null c.in_err-word-in-110.field-0.0 _ _ (seen c.in-110.is c.in-Some.ensures.exact) (λ n k. refl) refl is_null c.in_err-word-in-110.ensures.read);
}

pub value-returns-in_err-word-in-116 : goal.value-returns-in_err-word-in-116
value-returns-in_err-word-in-116 t c = record {
  read =
      at_exit _ _ c.from_residual-in_err-word-in-116.result c.in_err-word-in-116.field-0.0 c.from_residual-in_err-word-in-116.ensures.1 (word_value_breaks c.args.depth 116 (codes "rue") (json.Bool true) c.in_err-word-in-116.field-0.0 _ _ (seen c.in-116.is c.in-Some.ensures.exact) (λ n k. refl) refl is_true c.in_err-word-in-116.ensures.read);
}

pub value-returns-in_err-word-in-102 : goal.value-returns-in_err-word-in-102
value-returns-in_err-word-in-102 t c = record {
  read =
      at_exit _ _ c.from_residual-in_err-word-in-102.result c.in_err-word-in-102.field-0.0 c.from_residual-in_err-word-in-102.ensures.1 (word_value_breaks c.args.depth 102 (codes "alse") (json.Bool false) c.in_err-word-in-102.field-0.0 _ _ (seen c.in-102.is c.in-Some.ensures.exact) (λ n k. refl) refl is_false c.in_err-word-in-102.ensures.read);
}

pub value-returns-in_ok-number-in-45 : goal.value-returns-in_ok-number-in-45
value-returns-in_ok-number-in-45 t c = record { read = number_value c.args.depth c.in_ok-number-in-45.field-0 _ _ c.in_ok-number-in-45.ensures.read }

pub value-returns-in_err-number-in-45 : goal.value-returns-in_err-number-in-45
value-returns-in_err-number-in-45 t c = record {
  read =
      at_exit _ _ c.from_residual-in_err-number-in-45.result c.in_err-number-in-45.field-0.0 c.from_residual-in_err-number-in-45.ensures.1 (number_value_breaks c.args.depth c.in_err-number-in-45.field-0.0 _ _ c.in_err-number-in-45.ensures.read);
}

pub value-returns-in_default-first : goal.value-returns-in_default-first
value-returns-in_default-first t c = record {
  read =
      elim c.in_default-first.branch [
        | value-in_default-first-via-then-this-lt48 w ↦ nothing_begins c.in-Some.first c.args.depth _ c.in-Some.ensures.exact c.requires.begins (omega arith) (omega arith) (omega arith) (omega arith) (omega arith) (omega arith) (omega arith) (inl (omega arith))
        | value-in_default-first-via-else-this-lt48+else-this-lt58 w ↦ nothing_begins c.in-Some.first c.args.depth _ c.in-Some.ensures.exact c.requires.begins (omega arith) (omega arith) (omega arith) (omega arith) (omega arith) (omega arith) (omega arith) (inr (omega arith))
      ];
}

pub array-returns-then-take : goal.array-returns-then-take
array-returns-then-take t c = record { read = array_empty c.args.depth c.new.result _ _ _ c.new.ensures.exact c.skip_white.ensures.exact (c.take.ensures.taken c.if-take.true) }

pub array-loop-items-init : goal.array-loop-items-init
array-loop-items-init t c = array_init c.args.depth c.in_ok-items.items _ _ _ c.in_ok-items.ensures.exact c.skip_white.ensures.exact (c.take.ensures.stays c.if-take.false) (c.take.ensures.other c.if-take.false)

pub array-returns-in_err-item : goal.array-returns-in_err-item
array-returns-in_err-item t c = record {
  read =
      at_exit _ _ c.from_residual-in_err-item.result c.in_err-item.field-0.0 c.from_residual-in_err-item.ensures.1 (array_item_breaks c.args.depth c.loop-items.items c.in_err-item.field-0.0 _ _ _ c.loop-items.invariant c.in_err-item.ensures.part);
}

pub array-returns-then-take-2 : goal.array-returns-then-take-2
array-returns-then-take-2 t c = record {
  read =
      array_ends c.args.depth c.loop-items.items c.push.new.self c.in_ok-item.item _ _ _ _ c.loop-items.invariant c.in_ok-item.ensures.part c.in_ok-push.ensures.ok (c.take-in-loop-items.ensures.taken c.if-take-2.true);
}

pub array-loop-items-preserved : goal.array-loop-items-preserved
array-loop-items-preserved t c =
    array_more c.args.depth c.loop-items.items c.push.new.self c.in_ok-item.item _ _ _ _ _ c.loop-items.invariant c.in_ok-item.ensures.part c.in_ok-push.ensures.ok (c.take-in-loop-items.ensures.stays c.if-take-2.false) c.in_ok-expect.ensures.read

pub array-returns-in_err-expect : goal.array-returns-in_err-expect
array-returns-in_err-expect t c = record {
  read =
      at_exit _ _ c.from_residual-in_err-expect.result c.in_err-expect.field-0.0 c.from_residual-in_err-expect.ensures.1 (array_comma_breaks c.args.depth c.loop-items.items c.in_ok-item.item c.in_err-expect.field-0.0 _ _ _ _ _ c.loop-items.invariant c.in_ok-item.ensures.part c.in_ok-item.ensures.trimmed (c.take-in-loop-items.ensures.stays c.if-take-2.false) (c.take-in-loop-items.ensures.other c.if-take-2.false) c.in_err-expect.ensures.read);
}

pub padded-value-requires : goal.padded-value-requires
padded-value-requires t c = (search rules, next_fails_after is_white c.args.self.now.rest.now _ c.skip_white.ensures.exact)

pub object-returns : goal.object-returns
object-returns t c = record { read = rw c.finish.ensures.exact c.in_ok-members.ensures.read }

pub object-returns-in_err-members : goal.object-returns-in_err-members
object-returns-in_err-members t c = record { read = at_exit _ _ c.from_residual.result c.in_err-members.field-0.0 c.from_residual.ensures.1 c.in_err-members.ensures.read }

pub members-returns-then-take : goal.members-returns-then-take
members-returns-then-take t c = record { read = object_empty c.args.depth c.args.fields.now _ _ _ c.requires.empty c.skip_white.ensures.exact (c.take.ensures.taken c.if-take.true) }

pub members-loop-name-init : goal.members-loop-name-init
members-loop-name-init t c = object_init c.args.depth c.args.fields.now _ _ _ c.requires.empty c.skip_white.ensures.exact (c.take.ensures.stays c.if-take.false) (c.take.ensures.other c.if-take.false)

pub members-returns-in_err-name : goal.members-returns-in_err-name
members-returns-in_err-name t c = record {
  read =
      at_exit _ _ c.from_residual.result c.in_err-name.field-0.0 c.from_residual.ensures.1 (object_name_breaks c.args.depth c.loop-name.fields c.in_err-name.field-0.0 _ _ _ c.loop-name.invariant c.in_err-name.ensures.read);
}

pub members-returns-in_err-item : goal.members-returns-in_err-item
members-returns-in_err-item t c = record {
  read =
      at_exit _ _ c.from_residual-in_err-item.result c.in_err-item.field-0.0 c.from_residual-in_err-item.ensures.1 (object_item_breaks c.args.depth c.loop-name.fields c.in_ok-name.name c.in_err-item.field-0.0 _ _ _ _ c.loop-name.invariant c.in_ok-name.ensures.read c.in_err-item.ensures.part);
}

pub members-returns-then-take-2 : goal.members-returns-then-take-2
members-returns-then-take-2 t c = record {
  read =
      object_ends c.args.depth c.loop-name.fields c.put.new.self c.in_ok-name.name c.in_ok-item.item _ _ _ _ _ c.loop-name.invariant c.in_ok-name.ensures.read c.in_ok-item.ensures.part c.in_ok-put.ensures.ok (c.take-in-loop-name.ensures.taken c.if-take-2.true);
}

pub members-loop-name-preserved : goal.members-loop-name-preserved
members-loop-name-preserved t c =
    object_more c.args.depth c.loop-name.fields c.put.new.self c.in_ok-name.name c.in_ok-item.item _ _ _ _ _ _ c.loop-name.invariant c.in_ok-name.ensures.read c.in_ok-item.ensures.part c.in_ok-put.ensures.ok (c.take-in-loop-name.ensures.stays c.if-take-2.false) c.in_ok-expect.ensures.read

pub members-returns-in_err-expect : goal.members-returns-in_err-expect
members-returns-in_err-expect t c = record {
  read =
      at_exit _ _ c.from_residual-in_err-expect.result c.in_err-expect.field-0.0 c.from_residual-in_err-expect.ensures.1 (object_comma_breaks c.args.depth c.loop-name.fields c.in_ok-name.name c.in_ok-item.item c.in_err-expect.field-0.0 _ _ _ _ _ _ c.loop-name.invariant c.in_ok-name.ensures.read c.in_ok-item.ensures.part c.in_ok-item.ensures.trimmed (c.take-in-loop-name.ensures.stays c.if-take-2.false) (c.take-in-loop-name.ensures.other c.if-take-2.false) c.in_err-expect.ensures.read);
}
