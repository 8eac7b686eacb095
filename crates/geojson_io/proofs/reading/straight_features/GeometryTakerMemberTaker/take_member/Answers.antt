use Rattle.std.proofs.Common.{sym, ◌∙◌, ◌≡◌, Bool, true, codes}
use Rattle.std.proofs.lemmas.Result.{IfOk-weaker}
use Rattle.std.specs.Str.{bytes_eq}
use Rattle.json_values.specs.Seen.{json_value}
use Rattle.json_read.specs.Straight.{HasRead, PutsOne}
use Rattle.geojson_io.specs.Straight.{HasGeometry}
use Rattle.geojson_io.specs.declared.reading.straight_features.GeometryTaker.{GeometryTaker}
use Rattle.geojson_io.proofs.StraightLemmas.{named_member}
use Rattle.geojson_io.proofs.reading.straight_features.GeometryTakerMemberTaker.take_member.Goals as goal

pub returns-then-eq : goal.returns-then-eq
returns-then-eq c = record {
  read =
      let named : bytes_eq c.args.name.now (codes "type") ≡ true = sym c.eq.ensures ∙ c.if-eq.true in
      λ e first. (let h = c.take_type.ensures.yes e first in
      (h.0, h.1, named_member (HasGeometry first c.args.self.now) (HasGeometry first c.take_type.new.self) c.args.name.now (codes "type") (json_value h.0) named h.2));
}

pub returns-then-eq-2 : goal.returns-then-eq-2
returns-then-eq-2 c = record {
  read =
      let named : bytes_eq c.args.name.now (codes "coordinates") ≡ true = sym c.eq-2.ensures ∙ c.if-eq-2.true in
      let new = c.take_coordinates.new in
      IfOk-weaker c.take_coordinates.result
      (λ (b : Bool). b ≡ true → (first : GeometryTaker) → HasRead c.args.depth (PutsOne (HasGeometry first c.args.self.now) (HasGeometry first new.self) (codes "coordinates")) c.args.reader.now new.reader)
      (λ (b : Bool). b ≡ true → (first : GeometryTaker) → HasRead c.args.depth (PutsOne (HasGeometry first c.args.self.now) (HasGeometry first new.self) c.args.name.now) c.args.reader.now new.reader)
      (λ b k e first. (let h = k e first in (h.0, h.1, named_member (HasGeometry first c.args.self.now) (HasGeometry first new.self) c.args.name.now (codes "coordinates") (json_value h.0) named h.2)))
      c.take_coordinates.ensures.read;
}
