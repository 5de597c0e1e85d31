-- The map: four regions of the address space, each a part of memory with rights.
use Rattle.std.specs.Prelude.{Bool, cond, Option, Some, None, ◌&&◌, ◌||◌, List, ℕ, zero, suc, ◌+◌, ◌-◌, ◌*◌, ◌/◌, ◌%◌, ◌^◌, eqb, ltb, leb, get_or}

-- region k has four words of the map
abbrev pub base : List ℕ → ℕ → ℕ
base map k = get_or map (4 * k) 0

abbrev pub size : List ℕ → ℕ → ℕ
size map k = get_or map (4 * k + 1) 0

abbrev pub offset : List ℕ → ℕ → ℕ
offset map k = get_or map (4 * k + 2) 0

abbrev pub rights : List ℕ → ℕ → ℕ
rights map k = get_or map (4 * k + 3) 0

-- Rights, summed
abbrev pub READ : ℕ
READ = 1

abbrev pub WRITE : ℕ
WRITE = 2

abbrev pub FETCH : ℕ
FETCH = 4

-- region k covers the address a and has this right
unfoldable pub covers : List ℕ → ℕ → ℕ → ℕ → Bool
covers map right a k = leb (base map k) a && (ltb (a - base map k) (size map k) && eqb (rights map k / right % 2) 1)

-- where the address a lies in memory: n regions from k on are tried in order
unfoldable pub find_from : List ℕ → ℕ → ℕ → ℕ → ℕ → Option ℕ
find_from map right a zero k = None
find_from map right a (suc n) k = cond (covers map right a k) (Some (offset map k + (a - base map k))) (find_from map right a n (suc k))

abbrev pub find : List ℕ → ℕ → ℕ → Option ℕ
find map right a = find_from map right a 4 0

-- MAP, for a memory of n bytes: an unused region has length 0 and no other field, a used one lies within bounds
abbrev pub unused : List ℕ → ℕ → Bool
unused map k = eqb (base map k) 0 && (eqb (offset map k) 0 && eqb (rights map k) 0)

abbrev pub bounded : List ℕ → ℕ → ℕ → Bool
bounded map n k =
    eqb (base map k % 4) 0 && (eqb (size map k % 4) 0
    && (leb (base map k + size map k) (2 ^ 24) && (leb (offset map k + size map k) n && leb (rights map k) (READ + WRITE + FETCH))))

unfoldable pub good_region : List ℕ → ℕ → ℕ → Bool
good_region map n k = cond (eqb (size map k) 0) (unused map k) (bounded map n k)

-- the l numbers from a on and the m numbers from b on do not meet
abbrev pub apart : ℕ → ℕ → ℕ → ℕ → Bool
apart a l b m = leb (a + l) b || leb (b + m) a

-- used regions overlap neither in addresses nor in offsets
unfoldable pub separate : List ℕ → ℕ → ℕ → Bool
separate map j k =
    eqb (size map j) 0 || (eqb (size map k) 0
    || (apart (base map j) (size map j) (base map k) (size map k) && apart (offset map j) (size map j) (offset map k) (size map k)))

unfoldable pub good_map : List ℕ → ℕ → Bool
good_map map n =
    good_region map n 0 && (good_region map n 1 && (good_region map n 2 && (good_region map n 3
    && (separate map 0 1 && (separate map 0 2 && (separate map 0 3 && (separate map 1 2 && (separate map 1 3 && separate map 2 3))))))))
