-- The words that the lent grid holds while it is being filled, over any network. A cell's word is
--
--     flag + 2 ^ 25 × waiting + partial
--
-- where `flag` marks an outlet, `waiting` is how many inflows are not yet passed down, and `partial` is 1 and the sum
-- of those that are. The word of a null cell is 0. Assumes nothing.
use Rattle.std.specs.Prelude.{◌≡◌, Bool, true, false, cond, not, ◌&&◌, ◌||◌, List, ℕ, suc, ◌+◌, ◌*◌, ◌≤◌, ◌<◌, ◌^◌, eqb, ltb}
use Rattle.lists.specs.Lists.{how_many}
use Rattle.ground.specs.Grid.{Link}
use Rattle.ground.specs.Accumulation.{total}

abbrev pub one_each : ℕ → ℕ
one_each c = 1

-- the flag in an outlet's word
abbrev pub flag_if : Bool → ℕ
flag_if b = cond b (2 ^ 30) 0

-- a cell is done that is passed down, or null and looked at
abbrev pub is_done : (ℕ → Bool) → (ℕ → Bool) → ℕ → ℕ → Bool
is_done ground passed looked x = passed x || (ltb x looked && not (ground x))

-- so many cells are done, and none but cells of ground are passed down
pub record Tally (ground : ℕ → Bool) (cell_count : ℕ) (passed : ℕ → Bool) (looked done : ℕ) : Type 0 where
  pub only_ground : (x : ℕ) → passed x ≡ true → ground x ≡ true
  pub done_is : how_many (is_done ground passed looked) cell_count ≡ done

module _ {S : Type 0} (ups : ℕ → List (Link S)) where
  -- how many inflows of a cell are not yet passed down
  abbrev pub waiting : (ℕ → Bool) → ℕ → ℕ
  waiting passed x = total ups passed one_each (ups x)

  -- the sum over those that are
  abbrev pub arrived : (ℕ → Bool) → (ℕ → ℕ) → ℕ → ℕ
  arrived passed partial x = total ups (λ c. not (passed c)) partial (ups x)

  -- FLAGGING: the cells of `out` are flagged, no cell waits for one of them, and nothing is passed down
  pub record Flagging (ground : ℕ → Bool) (cell_count : ℕ) (word : ℕ → ℕ) (out : ℕ → Bool) : Type 0 where
    pub is_word : (x : ℕ) → ground x ≡ true → word x ≡ flag_if (out x) + (2 ^ 25 * waiting out x + 1)
    pub null_word : (x : ℕ) → x < cell_count → ground x ≡ false → word x ≡ 0

  module _ (ground : ℕ → Bool) (cell_count : ℕ) (flag : ℕ → ℕ) where
    -- PASSING DOWN: the cells before `looked` are looked at, and those of `busy` are on the way down. What waits for
    -- nothing is passed down, but for those on the way and the headwaters ahead, and of these none is
    pub record Packed (word : ℕ → ℕ) (looked : ℕ) (busy : ℕ → Bool) (done : ℕ) : Type 0 where
      pub passed : ℕ → Bool
      pub partial : ℕ → ℕ
      pub is_partial : (x : ℕ) → ground x ≡ true → partial x ≡ suc (arrived passed partial x)
      pub is_word : (x : ℕ) → ground x ≡ true → word x ≡ flag x + (2 ^ 25 * waiting passed x + partial x)
      pub null_word : (x : ℕ) → x < cell_count → ground x ≡ false → word x ≡ 0
      pub passed_waits : (x : ℕ) → passed x ≡ true → waiting passed x ≡ 0
      pub is_passed : (x : ℕ) → ground x ≡ true → waiting passed x ≡ 0 → busy x ≡ false
          → (looked ≤ x → partial x ≡ 1 → ⊥) → passed x ≡ true
      pub ahead : (x : ℕ) → ground x ≡ true → looked ≤ x → partial x ≡ 1 → passed x ≡ false
      pub tally : Tally ground cell_count passed looked done

    -- on the way down, at a cell that waits for nothing and is to be passed down next
    pub record Walking (word : ℕ → ℕ) (looked here done : ℕ) : Type 0 where
      pub held : Packed word looked (λ x. eqb x here) done
      pub is_ground : ground here ≡ true
      pub not_passed : held.passed here ≡ false
      pub waits : waiting held.passed here ≡ 0
      pub not_ahead : looked ≤ here → held.partial here ≡ 1 → ⊥
