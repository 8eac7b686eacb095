use Rattle.std.proofs.Common.{sym, ◌∙◌, ◌≡◌, Bool, true, false, codes}
use Rattle.std.proofs.lemmas.Result.{IfOk-weaker}
use Rattle.std.specs.Str.{bytes_eq}
use Rattle.json_values.specs.Seen.{json_value}
use Rattle.json_read.specs.Straight.{HasRead, PutsOne}
use Rattle.json_read.specs.Taking.{HasValue}
use Rattle.json_values.specs.declared.json.Json.{Json}
use Rattle.geojson_io.specs.Straight.{HasParts}
use Rattle.geojson_io.specs.declared.reading.straight_features.PartTaker.{PartTaker}
use Rattle.geojson_io.proofs.StraightLemmas.{has_some, named_member, part_other}
use Rattle.geojson_io.proofs.reading.straight_features.PartTakerMemberTaker.take_member.Goals as goal

pub returns-then-eq : goal.returns-then-eq
returns-then-eq c = record {
  read =
      let named : bytes_eq c.args.name.now (codes "type") ≡ true = sym c.eq.ensures ∙ c.if-eq.true in
      λ e first. (let h = c.take_type.ensures.yes e first in
      (h.0, h.1, named_member (HasParts first c.args.self.now) (HasParts first c.take_type.new.self) c.args.name.now (codes "type") (json_value h.0) named h.2));
}

pub returns-then-eq-2 : goal.returns-then-eq-2
returns-then-eq-2 c = record {
  read =
      let named : bytes_eq c.args.name.now (codes "geometry") ≡ true = sym c.eq-2.ensures ∙ c.if-eq-2.true in
      let new = c.take_geometry.new in
      IfOk-weaker c.take_geometry.result
      (λ (b : Bool). b ≡ true → (first : PartTaker) → HasRead c.args.depth (PutsOne (HasParts first c.args.self.now) (HasParts first new.self) (codes "geometry")) c.args.reader.now new.reader)
      (λ (b : Bool). b ≡ true → (first : PartTaker) → HasRead c.args.depth (PutsOne (HasParts first c.args.self.now) (HasParts first new.self) c.args.name.now) c.args.reader.now new.reader)
      (λ b k e first. (let h = k e first in (h.0, h.1, named_member (HasParts first c.args.self.now) (HasParts first new.self) c.args.name.now (codes "geometry") (json_value h.0) named h.2)))
      c.take_geometry.ensures.read;
}

pub returns-then-eq-3 : goal.returns-then-eq-3
returns-then-eq-3 c = record {
  read =
      let named : bytes_eq c.args.name.now (codes "properties") ≡ true = sym c.eq-3.ensures ∙ c.if-eq-3.true in
      let new = c.take_properties.new in
      IfOk-weaker c.take_properties.result
      (λ (b : Bool). b ≡ true → (first : PartTaker) → HasRead c.args.depth (PutsOne (HasParts first c.args.self.now) (HasParts first new.self) (codes "properties")) c.args.reader.now new.reader)
      (λ (b : Bool). b ≡ true → (first : PartTaker) → HasRead c.args.depth (PutsOne (HasParts first c.args.self.now) (HasParts first new.self) c.args.name.now) c.args.reader.now new.reader)
      (λ b k e first. (let h = k e first in (h.0, h.1, named_member (HasParts first c.args.self.now) (HasParts first new.self) c.args.name.now (codes "properties") (json_value h.0) named h.2)))
      c.take_properties.ensures.read;
}

pub returns : goal.returns
returns c = record {
  read =
      let no_type : bytes_eq c.args.name.now (codes "type") ≡ false = sym c.eq.ensures ∙ c.if-eq.false in
      let no_geometry : bytes_eq c.args.name.now (codes "geometry") ≡ false = sym c.eq-2.ensures ∙ c.if-eq-2.false in
      let no_properties : bytes_eq c.args.name.now (codes "properties") ≡ false = sym c.eq-3.ensures ∙ c.if-eq-3.false in
      λ e first. (let h = has_some (λ (j : Json). HasValue c.args.depth j c.args.reader.now.rest.now c.any_value.new.self.rest.now) c.in_ok-other.other (sym c.is_some.ensures ∙ e) c.in_ok-other.ensures.read in
      (h.0, h.1, part_other first c.args.self.now c.args.name.now (json_value h.0) no_type no_geometry no_properties));
}
