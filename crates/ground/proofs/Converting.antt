-- A code in another table: what it keeps of the cell.
-- Assumes nothing.
use mathlib.Core.Path.{◌≡◌, refl, sym, ap, ◌∙◌, subst}
use mathlib.Core.Bool.{true, false}
use mathlib.Core.Logic.{inl, inr}
use mathlib.Core.List.{map}
use Prim.Native.Nat.{ℕ, ◌≤◌, ◌<◌}
use native.Mathlib.Omega.{arith}
use lib.ListN.{length, get_or, take, length-map}
use lib.Seq.{length-take-le, get_or-take}
use lib.Dec.{eqb}
use borrow.Author.Tests.{ne_eqb}
use Rattle.lists.specs.Lists.{In}
use Rattle.lists.proofs.Lists.{in_left, in_right, in_cases, in_map, map_in, get_d_map}
use Rattle.lists.proofs.Members.{in_member, member_in}
use Rattle.ground.specs.Compass.{Dir, E, SE, S, SW, W, NW, N, NE, dirs}
use Rattle.ground.specs.Tables.{Table, pond, undirected, codes_of, is_code, dir_of}
use Rattle.ground.specs.Grid.{Grid, cell_count}
use Rattle.ground.specs.Converting.{code_by, recoded, converted_codes}
use Rattle.ground.proofs.Tables.{all_dirs, table_facts}

-- a code of a table stands for no direction, or for one
pub data Means (t : Table) (code : ℕ) : Type 0 where
  no_direction : In code undirected → Means t code
  direction : (d : Dir) → code ≡ t.code_of d → Means t code

module _ (t : Table) where
  pub means : (code : ℕ) → is_code t code ≡ true → Means t code
  unfolding is_code
  means code e = in_cases code undirected (map t.code_of dirs) no_direction
      (λ i. let p = map_in t.code_of code dirs i in direction p.from p.is) (member_in code (codes_of t) e)

  pub undirected_code : (code : ℕ) → In code undirected → is_code t code ≡ true
  unfolding is_code
  undirected_code code i = in_member code (codes_of t) (in_left code undirected (map t.code_of dirs) i)

  pub direction_code : (d : Dir) → is_code t (t.code_of d) ≡ true
  unfolding is_code
  direction_code d = in_member (t.code_of d) (codes_of t)
      (in_right (t.code_of d) undirected (map t.code_of dirs) (in_map t.code_of d dirs (all_dirs d)))

module _ (from to : Table) where
  -- by cases
  pub recoded_none : (code : ℕ) → In code undirected → recoded from to code ≡ code
  unfolding recoded
  recoded_none code i = ap (code_by to code) ((table_facts from).gives_none code i)

  pub recoded_dir : (d : Dir) → recoded from to (from.code_of d) ≡ to.code_of d
  unfolding recoded
  recoded_dir d = ap (code_by to (from.code_of d)) ((table_facts from).found d)

  -- THE TABLES' CODES ONE BY ONE: the source table's, converted, are the target table's
  pub recoded_codes : map (recoded from to) (codes_of from) ≡ codes_of to
  recoded_codes = rw (
    recoded_none 0 (inl refl),
    recoded_none pond (inr (inl refl)),
    recoded_dir E,
    recoded_dir SE,
    recoded_dir S,
    recoded_dir SW,
    recoded_dir W,
    recoded_dir NW,
    recoded_dir N,
    recoded_dir NE,
  )

  module _ (code : ℕ) (e : is_code from code ≡ true) where
    -- the direction is kept
    pub recoded_dir_of : dir_of to (recoded from to code) ≡ dir_of from code
    recoded_dir_of = go (means from code e)
      where
        go : Means from code → dir_of to (recoded from to code) ≡ dir_of from code
        go (no_direction i) = ap (dir_of to) (recoded_none code i) ∙ (table_facts to).gives_none code i
            ∙ sym ((table_facts from).gives_none code i)
        go (direction d q) = rw (q, recoded_dir d, (table_facts to).found d, (table_facts from).found d)

    -- and each code of no direction: null stays null, and a pond a pond
    pub recoded_kept : (u : ℕ) → In u undirected → eqb (recoded from to code) u ≡ eqb code u
    recoded_kept u k = go (means from code e)
      where
        directed : (t : Table) (d : Dir) → eqb (t.code_of d) u ≡ false
        directed t d = ne_eqb (t.code_of d) u
            (λ q. (table_facts t).directed d (subst (λ (c : ℕ). In c undirected) (sym q) k))

        go : Means from code → eqb (recoded from to code) u ≡ eqb code u
        go (no_direction i) = ap (λ (c : ℕ). eqb c u) (recoded_none code i)
        go (direction d q) = rw (q, recoded_dir d, directed to d, directed from d)

    -- the code is one of the target table
    pub recoded_code : is_code to (recoded from to code) ≡ true
    recoded_code = go (means from code e)
      where
        go : Means from code → is_code to (recoded from to code) ≡ true
        go (no_direction i) = ap (is_code to) (recoded_none code i) ∙ undirected_code to code i
        go (direction d q) = rw (q, recoded_dir d) (direction_code to d)

-- BY WAY OF ANOTHER TABLE the same code comes out
pub recoded_on : (from mid to : Table) (code : ℕ) → is_code from code ≡ true
    → recoded mid to (recoded from mid code) ≡ recoded from to code
recoded_on from mid to code e = go (means from code e)
  where
    go : Means from code → recoded mid to (recoded from mid code) ≡ recoded from to code
    go (no_direction i) = ap (recoded mid to) (recoded_none from mid code i) ∙ recoded_none mid to code i
        ∙ sym (recoded_none from to code i)
    go (direction d q) = rw (q, recoded_dir from mid d, recoded_dir mid to d, recoded_dir from to d)

-- and in its own table it stays
pub recoded_same : (t : Table) (code : ℕ) → is_code t code ≡ true → recoded t t code ≡ code
recoded_same t code e = go (means t code e)
  where
    go : Means t code → recoded t t code ≡ code
    go (no_direction i) = recoded_none t t code i
    go (direction d q) = rw (q, recoded_dir t t d)

-- the codes of a grid in another table, place by place
module _ (g : Grid) (to : Table) (h : cell_count g ≤ length g.codes) where
  pub converted_length : length (converted_codes g to) ≡ cell_count g
  unfolding converted_codes
  converted_length = length-map (take (cell_count g) g.codes) (recoded g.table to)
      ∙ length-take-le (cell_count g) g.codes h

  pub converted_at : (x : ℕ) → x < cell_count g
      → get_or (converted_codes g to) x 0 ≡ recoded g.table to (get_or g.codes x 0)
  unfolding converted_codes
  converted_at x i = get_d_map (recoded g.table to) (take (cell_count g) g.codes) x 0
      (omega (arith, length-take-le (cell_count g) g.codes h))
      ∙ ap (recoded g.table to) (get_or-take (cell_count g) g.codes x 0 i)
