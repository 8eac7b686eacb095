use Rattle.std.proofs.Common.{None, refl, subst, List, ℕ}
use Rattle.json_values.specs.Seen.{json_value}
use Rattle.json_read.specs.Straight.{HasRead}
use Rattle.json_read.specs.Taking.{HasValue}
use Rattle.geojson_io.specs.Geometries.{geometry}
use Rattle.geojson_io.specs.Straight.{ReadsAs}
use Rattle.geojson_io.specs.declared.reading.straight_features.GeometryTaker.{GeometryTaker}
use Rattle.geojson_io.specs.declared.shape.GeoShape.{GeoShape}
use Rattle.geojson_io.proofs.StraightLemmas.{geometry_read, no_geometry, some_there}
use Rattle.geojson_io.proofs.reading.straight_features.straight_geometry.Goals as goal

pub returns-then-null : goal.returns-then-null
returns-then-null c =
    let h = c.null.ensures.taken c.if-null.true c.args.depth in
    record { read = (h.0, h.1, no_geometry c.args.places c.args.left.now (json_value h.0) h.2) }

pub returns : goal.returns
returns c =
    let first : GeometryTaker = record { places = c.args.places; left = c.args.left.now; kind = None; shape = None } in
    let now = c.members_by.new.taker in
    let h = c.in_ok-members_by.ensures.read c.if-not-branch.false first in
    let there = subst (λ (bytes : List ℕ). HasValue c.args.depth h.0 bytes c.members_by.new.self.rest.now) (c.null.ensures.stays c.if-null.false) h.1 in
    record { read = some_there (λ (g : GeoShape). HasRead c.args.depth (ReadsAs (geometry c.args.places) c.args.left.now g now.left) c.args.reader.now c.members_by.new.self) now.shape (λ g e. (h.0, there, geometry_read first now g (json_value h.0) h.2 refl refl e)) }
