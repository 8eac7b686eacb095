use Rattle.std.proofs.Common.{◌≡◌, ◌∙◌, sym, refl, Bool, true, false, ◌&&◌}
use Rattle.plane_model.specs.Pixel.{agree}
use Rattle.hot_pixels.proofs.half_open.are_agreed.Goals as goal

-- the six tests of each two of four, as they are joined
abbrev joined : (a b d e f g : Bool) → Bool
joined a b d e f g = (a && (b && (d && true))) && ((e && (f && true)) && ((g && true) && true))

fails_1 : (a b d e f g : Bool) → a ≡ false → false ≡ joined a b d e f g
fails_1 false b d e f g h = refl
fails_1 true b d e f g h = absurd cc

fails_2 : (a b d e f g : Bool) → a ≡ true → b ≡ false → false ≡ joined a b d e f g
fails_2 true false d e f g h k = refl
fails_2 false b d e f g h k = absurd cc
fails_2 true true d e f g h k = absurd cc

fails_3 : (a b d e f g : Bool) → a ≡ true → b ≡ true → d ≡ false → false ≡ joined a b d e f g
fails_3 true true false e f g h k l = refl
fails_3 false b d e f g h k l = absurd cc
fails_3 true false d e f g h k l = absurd cc
fails_3 true true true e f g h k l = absurd cc

fails_4 : (a b d e f g : Bool) → a ≡ true → b ≡ true → d ≡ true → e ≡ false → false ≡ joined a b d e f g
fails_4 true true true false f g h k l m = refl
fails_4 true true true true f g h k l m = absurd cc
fails_4 false b d e f g h k l m = absurd cc
fails_4 true false d e f g h k l m = absurd cc
fails_4 true true false e f g h k l m = absurd cc

fails_5 : (a b d e f g : Bool) → a ≡ true → b ≡ true → d ≡ true → e ≡ true → f ≡ false → false ≡ joined a b d e f g
fails_5 true true true true false g h k l m n = refl
fails_5 true true true true true g h k l m n = absurd cc
fails_5 true true true false f g h k l m n = absurd cc
fails_5 false b d e f g h k l m n = absurd cc
fails_5 true false d e f g h k l m n = absurd cc
fails_5 true true false e f g h k l m n = absurd cc

last : (a b d e f g : Bool) → a ≡ true → b ≡ true → d ≡ true → e ≡ true → f ≡ true → g ≡ joined a b d e f g
last true true true true true true h k l m n = refl
last true true true true true false h k l m n = refl
last true true true true false g h k l m n = absurd cc
last true true true false f g h k l m n = absurd cc
last false b d e f g h k l m n = absurd cc
last true false d e f g h k l m n = absurd cc
last true true false e f g h k l m n = absurd cc

pub returns-then-not-is_agreed : goal.returns-then-not-is_agreed
returns-then-not-is_agreed c =
    let a = c.args in
    record {
      exact = fails_1 (agree a.left a.right) (agree a.left a.lower) (agree a.left a.upper) (agree a.right a.lower) (agree a.right a.upper) (agree a.lower a.upper)
          (sym c.is_agreed.ensures.exact ∙ c.if-not-is_agreed.true);
    }

pub returns-then-not-is_agreed-2 : goal.returns-then-not-is_agreed-2
returns-then-not-is_agreed-2 c =
    let a = c.args in
    record {
      exact = fails_2 (agree a.left a.right) (agree a.left a.lower) (agree a.left a.upper) (agree a.right a.lower) (agree a.right a.upper) (agree a.lower a.upper)
          (sym c.is_agreed.ensures.exact ∙ c.if-not-is_agreed.false) (sym c.is_agreed-2.ensures.exact ∙ c.if-not-is_agreed-2.true);
    }

pub returns-then-not-is_agreed-3 : goal.returns-then-not-is_agreed-3
returns-then-not-is_agreed-3 c =
    let a = c.args in
    record {
      exact = fails_3 (agree a.left a.right) (agree a.left a.lower) (agree a.left a.upper) (agree a.right a.lower) (agree a.right a.upper) (agree a.lower a.upper)
          (sym c.is_agreed.ensures.exact ∙ c.if-not-is_agreed.false) (sym c.is_agreed-2.ensures.exact ∙ c.if-not-is_agreed-2.false) (sym c.is_agreed-3.ensures.exact ∙ c.if-not-is_agreed-3.true);
    }

pub returns-then-not-is_agreed-4 : goal.returns-then-not-is_agreed-4
returns-then-not-is_agreed-4 c =
    let a = c.args in
    record {
      exact = fails_4 (agree a.left a.right) (agree a.left a.lower) (agree a.left a.upper) (agree a.right a.lower) (agree a.right a.upper) (agree a.lower a.upper)
          (sym c.is_agreed.ensures.exact ∙ c.if-not-is_agreed.false) (sym c.is_agreed-2.ensures.exact ∙ c.if-not-is_agreed-2.false) (sym c.is_agreed-3.ensures.exact ∙ c.if-not-is_agreed-3.false) (sym c.is_agreed-4.ensures.exact ∙ c.if-not-is_agreed-4.true);
    }

pub returns-then-not-is_agreed-5 : goal.returns-then-not-is_agreed-5
returns-then-not-is_agreed-5 c =
    let a = c.args in
    record {
      exact = fails_5 (agree a.left a.right) (agree a.left a.lower) (agree a.left a.upper) (agree a.right a.lower) (agree a.right a.upper) (agree a.lower a.upper)
          (sym c.is_agreed.ensures.exact ∙ c.if-not-is_agreed.false) (sym c.is_agreed-2.ensures.exact ∙ c.if-not-is_agreed-2.false) (sym c.is_agreed-3.ensures.exact ∙ c.if-not-is_agreed-3.false) (sym c.is_agreed-4.ensures.exact ∙ c.if-not-is_agreed-4.false) (sym c.is_agreed-5.ensures.exact ∙ c.if-not-is_agreed-5.true);
    }

pub returns : goal.returns
returns c =
    let a = c.args in
    record {
      exact = c.is_agreed-6.ensures.exact ∙
          last (agree a.left a.right) (agree a.left a.lower) (agree a.left a.upper) (agree a.right a.lower) (agree a.right a.upper) (agree a.lower a.upper)
          (sym c.is_agreed.ensures.exact ∙ c.if-not-is_agreed.false) (sym c.is_agreed-2.ensures.exact ∙ c.if-not-is_agreed-2.false) (sym c.is_agreed-3.ensures.exact ∙ c.if-not-is_agreed-3.false) (sym c.is_agreed-4.ensures.exact ∙ c.if-not-is_agreed-4.false) (sym c.is_agreed-5.ensures.exact ∙ c.if-not-is_agreed-5.false);
    }
