-- What the commands on polygons make of the regions of a layer's features, after mapshaper's Command Reference.
use Rattle.std.specs.Prelude.{ℕ, Bool, not, ◌&&◌, ◌||◌, nat_eq, nat_lt, ℤ, pos, int_le, int_lt, List, [], ◌∷◌, ◌++◌, map, filter, take, length, if◌then◌else◌}
use Rattle.std.specs.List.{flat_map, list_all, list_any, range_with_len}
use Rattle.lists.specs.Lists.{has, numbers_where, same_list, sort_stable}
use Rattle.plane_model.specs.Points.{Segment}
use Rattle.grid_base.specs.declared.kinds.OverlapRule.{OverlapRule}
use Rattle.grid_base.specs.declared.kinds.OverlapRule.TheVariants.{MinId, MaxId, MinArea, MaxArea}
use Rattle.region_model.specs.Region.{Region, any_of, both, gap_of, less, part, regions_of}
use Rattle.region_model.specs.Answers.{Plane, Answers, area_of, boundary, is_empty, is_nil}
use Rattle.region_model.specs.LineCommands.{on_left, on_right}

-- the regions of these numbers
abbrev pub regions_at : (ℕ → Region) → List ℕ → List Region
regions_at region numbers = map region numbers

-- ---- clip and erase, by a source

abbrev pub clipped : Region → Region → Region
clipped source r = both r source

abbrev pub erased : Region → Region → Region
erased source r = less r source

-- ---- dissolve: any of the regions of the members of a group

abbrev pub dissolved : (ℕ → Region) → List ℕ → Region
dissolved region members = any_of (regions_at region members)

-- ---- clean

-- of two areas of features m and n: less, or equal and of the lower number
abbrev pub by_size : Bool → Bool → Bool → Bool
by_size smaller greater lower = smaller || (not greater && lower)

-- feature m, of twice the area a, ranks before feature n, of twice the area b
abbrev pub ranks_before : OverlapRule → ℕ → ℤ → ℕ → ℤ → Bool
ranks_before MinId m a n b = nat_lt m n
ranks_before MaxId m a n b = nat_lt n m
ranks_before MinArea m a n b = by_size (int_lt a b) (int_lt b a) (nat_lt m n)
ranks_before MaxArea m a n b = by_size (int_lt b a) (int_lt a b) (nat_lt m n)

-- of `many` features, those that rank before feature n by the areas of their regions
abbrev pub earlier_in_rank : Plane → Answers → OverlapRule → (ℕ → Region) → ℕ → ℕ → List ℕ
earlier_in_rank P A rule region many n = filter (λ (m : ℕ). ranks_before rule m (area_of P A (region m)) n (area_of P A (region n))) (range_with_len 0 many)

-- the region of feature n less all that rank before it
abbrev pub cleaned : Plane → Answers → OverlapRule → (ℕ → Region) → ℕ → ℕ → Region
cleaned P A rule region many n = less (region n) (any_of (regions_at region (earlier_in_rank P A rule region many n)))

-- ---- clean, with the gaps between all features that are filled

-- the numbers of `many` features, the first in rank first
abbrev pub ranking : Plane → Answers → OverlapRule → (ℕ → Region) → ℕ → List ℕ
ranking P A rule region many = sort_stable (λ (m n : ℕ). ranks_before rule m (area_of P A (region m)) n (area_of P A (region n))) (range_with_len 0 many)

-- all regions of `many` features
abbrev pub all_regions : (ℕ → Region) → ℕ → List Region
all_regions region many = regions_at region (range_with_len 0 many)

-- the gaps that are filled: those of at most this area, doubled
abbrev pub filled_gaps : Plane → Answers → ℕ → List Region → List ℕ
filled_gaps P A most rs = filter (λ (j : ℕ). int_le (area_of P A (gap_of rs j)) (pos most)) (range_with_len 0 (A.gaps (regions_of rs)))

-- some link of the gap's boundary has its other side in the region
abbrev pub borders : Plane → Answers → Region → Region → Bool
borders P A hole r = list_any (on_right A r) (boundary P A hole)

-- the feature that a gap goes to, where there is one: the first in rank that it borders
abbrev pub goes_to : Plane → Answers → OverlapRule → (ℕ → Region) → ℕ → ℕ → List ℕ
goes_to P A rule region many j =
    take 1 (filter (λ (n : ℕ). borders P A (gap_of (all_regions region many) j) (cleaned P A rule region many n)) (ranking P A rule region many))

-- what clean leaves of feature n, with the filled gaps that go to it
abbrev pub cleaned_and_filled : Plane → Answers → OverlapRule → ℕ → (ℕ → Region) → ℕ → ℕ → Region
cleaned_and_filled P A rule most region many n =
    any_of (cleaned P A rule region many n ∷ map (gap_of (all_regions region many)) (filter (λ (j : ℕ). same_list nat_eq (n ∷ []) (goes_to P A rule region many j)) (filled_gaps P A most (all_regions region many))))

-- ---- mosaic

-- the nonempty ascending lists of these numbers, in lexicographic order
abbrev pub ascending_lists : List ℕ → List (List ℕ)
ascending_lists [] = []
ascending_lists (n ∷ ns) = (n ∷ []) ∷ (map (λ (L : List ℕ). n ∷ L) (ascending_lists ns) ++ ascending_lists ns)

-- all of some regions, at least one
abbrev pub all_of : List Region → Region
all_of [] = any_of []
all_of (r ∷ []) = r
all_of (r ∷ s ∷ rs) = both r (all_of (s ∷ rs))

-- of `many` regions, what just those of the numbers have
abbrev pub exactly : (ℕ → Region) → ℕ → List ℕ → Region
exactly region many numbers = less (all_of (regions_at region numbers)) (any_of (regions_at region (filter (λ (n : ℕ). not (has nat_eq numbers n)) (range_with_len 0 many))))

-- the parts of a region, in order
abbrev pub parts_of : Answers → Region → List Region
parts_of A r = map (part r) (range_with_len 0 (A.parts r))

-- the lists of numbers for which just the features of these numbers share something
abbrev pub sharing : Plane → Answers → (ℕ → Region) → ℕ → List (List ℕ)
sharing P A region many = filter (λ (L : List ℕ). not (is_empty P A (exactly region many L))) (ascending_lists (range_with_len 0 many))

-- each such list, with each part of what they share
abbrev pub mosaic : Plane → Answers → (ℕ → Region) → ℕ → List (List ℕ × Region)
mosaic P A region many = flat_map (λ (L : List ℕ). map (λ (r : Region). (L, r)) (parts_of A (exactly region many L))) (sharing P A region many)

-- ---- explode: one region for each part; an empty region stays one

abbrev pub exploded : Plane → Answers → Region → List Region
exploded P A r = if is_empty P A r then r ∷ [] else parts_of A r

-- ---- islands that are dropped

-- of a step with a part of feature n on its left: that feature alone has the left side, and none the right one
abbrev pub stands_alone : Answers → List Region → ℕ → Segment → Bool
stands_alone A rs n s = is_nil (numbers_where (λ (r : Region). on_right A r s) rs) && same_list nat_eq (numbers_where (λ (r : Region). on_left A r s) rs) (n ∷ [])

abbrev pub is_detached : Plane → Answers → List Region → ℕ → Region → Bool
is_detached P A rs n piece = list_all (stands_alone A rs n) (boundary P A piece)

-- twice its area, or the number of links in its boundary, is below what is asked
abbrev pub is_small : Plane → Answers → ℕ → ℕ → Region → Bool
is_small P A least_area least_links piece = int_lt (area_of P A piece) (pos least_area) || nat_lt (length (boundary P A piece)) least_links

-- feature n, one of `many`, without the parts that are detached and small
abbrev pub without_islands : Plane → Answers → ℕ → ℕ → (ℕ → Region) → ℕ → ℕ → Region
without_islands P A least_area least_links region many n =
    any_of (filter (λ (piece : Region). not (is_detached P A (all_regions region many) n piece && is_small P A least_area least_links piece)) (parts_of A (region n)))
