-- THE SEARCH LISTS THE LONGEST, whatever it drops; and every cell is visited or dropped.
-- Assumes nothing.
use mathlib.Core.Path.{◌≡◌, refl, sym, ap, ◌∙◌, subst}
use mathlib.Core.Bool.{Bool, true, false, ◌&&◌, true≢false}
use mathlib.Core.List.{List, [], ◌∷◌}
use Prim.Native.Nat.{ℕ, zero, suc, ◌+◌, ◌-◌, ◌≤◌}
use native.Mathlib.Omega.{arith}
use Rattle.lengths.specs.Lengths.{Lengths}
use Rattle.lengths.proofs.Laws.{LengthLaws, irrefl}
use Rattle.lists.specs.Lists.{Every, keep_if}
use Rattle.ground.specs.Walk.{At}
use Rattle.ground.specs.Forest.{Forest, bare, tree, size, Which, cells_above, cells_from}
use Rattle.lists.proofs.Lists.{every_append, every_map, every_keep, keep_append}
use Rattle.search.specs.Search.{longest, State, fresh, meet_if, below_greatest, Limit, Rule, first_limit, tight_limit}
use Rattle.search.specs.Search.{drops, drop_cells, visit, search_above, search_from}
use Rattle.lengths.specs.Lengths.{farthest}
use Rattle.search.proofs.Meeting.{AtMost, meets, meets_append, meets_keep, le_lt, meets_longest}
use Rattle.search.proofs.Meeting.{meets_vain}

pub and_right : (a b : Bool) → (a && b) ≡ true → b ≡ true
and_right true b h = h
and_right false b h = absurd (true≢false (sym h))

module _ {S : Type 0} (𝓛 : Lengths S) where
  open 𝓛 use {Len, ◌▹◌}

  -- the cells of a tree, its own among them
  abbrev pub valley : Which S → Len → ℕ → S → Forest S → List (At Len)
  valley w d c s above = keep_if (w c above) (record { cell = c; len = d ▹ s }) (cells_above 𝓛 w (d ▹ s) above)

  module _ (rule : Rule 𝓛) where
    -- the search at a tree, by cases
    pub search_dropped : (d : Len) (st : State 𝓛) (c : ℕ) (s : S) (above rest : Forest S)
        → drops 𝓛 rule st.starts d s (suc (size above)) ≡ true
        → search_above 𝓛 rule d st (tree c s above rest) ≡ search_above 𝓛 rule d (drop_cells 𝓛 st (suc (size above))) rest
    search_dropped d st c s above rest e = rw (e, search_above)

    pub search_entered : (d : Len) (st : State 𝓛) (c : ℕ) (s : S) (above rest : Forest S)
        → drops 𝓛 rule st.starts d s (suc (size above)) ≡ false
        → search_above 𝓛 rule d st (tree c s above rest) ≡ search_above 𝓛 rule d
        (search_above 𝓛 rule (d ▹ s) (visit 𝓛 rule st c (d ▹ s) above) above) rest
    search_entered d st c s above rest e = rw (e, search_above)

module _ {S : Type 0} (𝓛 : Lengths S) (laws : LengthLaws 𝓛) where
  open 𝓛 use {Len, start, ◌▹◌, top, shorter}
  open laws use {asym, trans, grows, mono, at_top}

  far_mono : (n : ℕ) (x y : Len) → AtMost 𝓛 x y → AtMost 𝓛 (farthest 𝓛 x n) (farthest 𝓛 y n)
  far_mono zero x y h = h
  far_mono (suc n) x y h = far_mono n (x ▹ top) (y ▹ top) (mono x y top h)

  far_out : (n : ℕ) (x : Len) → AtMost 𝓛 x (farthest 𝓛 x n)
  far_out zero x = irrefl 𝓛 laws x
  far_out (suc n) x = trans x (x ▹ top) (farthest 𝓛 (x ▹ top) n) (asym x (x ▹ top) (grows x top)) (far_out n (x ▹ top))

  far_more : (n m : ℕ) (x : Len) → n ≤ m → AtMost 𝓛 (farthest 𝓛 x n) (farthest 𝓛 x m)
  far_more zero m x h = far_out m x
  far_more (suc n) zero x h = absurd (omega arith)
  far_more (suc n) (suc m) x h = far_more n m (x ▹ top) (omega arith)

  -- beyond the step into a neighbour each of its other cells is one of the longest steps
  tight_is : (d : Len) (s : S) (n : ℕ) → tight_limit 𝓛 d s (suc n) ≡ farthest 𝓛 (d ▹ s) n
  tight_is d s n = let e : suc n - 1 ≡ n = omega arith in ap (farthest 𝓛 (d ▹ s)) e

  -- a limit under which no cell is dropped wrongly: no walk into a neighbour of n cells is longer. The tight limit is
  -- the least of these
  unfoldable pub Covers : Limit 𝓛 → Type 0
  Covers limit = (d : Len) (s : S) (n : ℕ) → AtMost 𝓛 (tight_limit 𝓛 d s (suc n)) (limit d s (suc n))

  pub tight_covers : Covers (tight_limit 𝓛)
  unfolding Covers
  tight_covers d s n = irrefl 𝓛 laws (tight_limit 𝓛 d s (suc n))

  pub first_covers : Covers (first_limit 𝓛)
  unfolding Covers
  first_covers d s n = subst (λ l. AtMost 𝓛 l (first_limit 𝓛 d s (suc n))) (sym (tight_is d s n))
      (far_mono n (d ▹ s) (d ▹ top) (at_top d s))

  wider : (k l : Len) (xs : List (At Len)) → AtMost 𝓛 k l → Every (λ x. AtMost 𝓛 x.len k) xs
      → Every (λ x. AtMost 𝓛 x.len l) xs
  wider k l xs h = every_map (λ x. AtMost 𝓛 x.len k) (λ x. AtMost 𝓛 x.len l) (λ x i. trans x.len k l i h) xs

  -- every cell of a forest of n cells above d is within n longest steps of d, and of a tree, within those of the step
  -- into it
  valley_within : (w : Which S) (d : Len) (c : ℕ) (s : S) (above : Forest S)
      → Every (λ x. AtMost 𝓛 x.len (farthest 𝓛 (d ▹ s) (size above))) (cells_above 𝓛 w (d ▹ s) above)
      → Every (λ x. AtMost 𝓛 x.len (farthest 𝓛 (d ▹ s) (size above))) (valley 𝓛 w d c s above)
  valley_within w d c s above h = every_keep (λ x. AtMost 𝓛 x.len (farthest 𝓛 (d ▹ s) (size above))) (w c above)
      (record { cell = c; len = d ▹ s }) (cells_above 𝓛 w (d ▹ s) above) (far_out (size above) (d ▹ s)) h

  within : (w : Which S) (d : Len) (f : Forest S) → Every (λ x. AtMost 𝓛 x.len (farthest 𝓛 d (size f)))
      (cells_above 𝓛 w d f)
  within w d bare = tt
  within w d (tree c s above rest) =
      rw (keep_append (w c above) (record { cell = c; len = d ▹ s }) (cells_above 𝓛 w (d ▹ s) above)
      (cells_above 𝓛 w d rest)) (
      every_append (λ x. AtMost 𝓛 x.len (farthest 𝓛 d (size (tree c s above rest)))) (valley 𝓛 w d c s above)
      (cells_above 𝓛 w d rest)
      (wider (farthest 𝓛 (d ▹ s) (size above)) (farthest 𝓛 d (size (tree c s above rest))) (valley 𝓛 w d c s above)
      (trans (farthest 𝓛 (d ▹ s) (size above)) (farthest 𝓛 d (suc (size above)))
      (farthest 𝓛 d (size (tree c s above rest))) (far_mono (size above) (d ▹ s) (d ▹ top) (at_top d s))
      (far_more (suc (size above)) (size (tree c s above rest)) d (omega arith)))
      (valley_within w d c s above (within w (d ▹ s) above)))
      (wider (farthest 𝓛 d (size rest)) (farthest 𝓛 d (size (tree c s above rest))) (cells_above 𝓛 w d rest)
      (far_more (size rest) (size (tree c s above rest)) d (omega arith)) (within w d rest)))

  module _ (rule : Rule 𝓛) (covers : Covers rule.limit) where
    -- a dropped valley is met in vain
    pub drop_vain : (gs : List (At Len)) (d : Len) (c : ℕ) (s : S) (above : Forest S)
        → below_greatest 𝓛 gs (rule.limit d s (suc (size above))) ≡ true
        → meets 𝓛 gs (valley 𝓛 rule.meets d c s above) ≡ gs
    unfolding Covers
    drop_vain [] d c s above h = absurd (true≢false (sym h))
    drop_vain (g ∷ gs) d c s above h = meets_vain 𝓛 laws g gs (valley 𝓛 rule.meets d c s above)
        (every_map (λ x. AtMost 𝓛 x.len (farthest 𝓛 (d ▹ s) (size above))) (λ x. shorter x.len g.len ≡ true)
        (λ x i. le_lt 𝓛 laws x.len (rule.limit d s (suc (size above))) g.len
        (trans x.len (farthest 𝓛 (d ▹ s) (size above)) (rule.limit d s (suc (size above))) i
        (subst (λ l. AtMost 𝓛 l (rule.limit d s (suc (size above)))) (tight_is d s (size above))
        (covers d s (size above)))) h)
        (valley 𝓛 rule.meets d c s above)
        (valley_within rule.meets d c s above (within rule.meets (d ▹ s) above)))

    -- the search has met the lengths of all the cells that count, whatever it dropped
    pub search_meets : (d : Len) (st : State 𝓛) (f : Forest S)
        → (search_above 𝓛 rule d st f).starts ≡ meets 𝓛 st.starts
        (cells_above 𝓛 rule.meets d f)
    unfolding meets
    search_meets d st bare = refl
    search_meets d st (tree c s above rest) =
        go (drops 𝓛 rule st.starts d s (suc (size above))) refl (λ st'. search_meets d st' rest)
        (search_meets (d ▹ s) (visit 𝓛 rule st c (d ▹ s) above) above)
        ∙ sym (ap (meets 𝓛 st.starts) (keep_append (rule.meets c above) (record { cell = c; len = d ▹ s })
        (cells_above 𝓛 rule.meets (d ▹ s) above) (cells_above 𝓛 rule.meets d rest))
        ∙ meets_append 𝓛 st.starts (valley 𝓛 rule.meets d c s above) (cells_above 𝓛 rule.meets d rest))
      where
        go : (b : Bool) → drops 𝓛 rule st.starts d s (suc (size above)) ≡ b
            → ((st' : State 𝓛) → (search_above 𝓛 rule d st' rest).starts ≡ meets 𝓛 st'.starts
            (cells_above 𝓛 rule.meets d rest))
            → (search_above 𝓛 rule (d ▹ s) (visit 𝓛 rule st c (d ▹ s) above) above).starts
            ≡ meets 𝓛 (meet_if 𝓛 (rule.meets c above) st.starts (record { cell = c; len = d ▹ s }))
            (cells_above 𝓛 rule.meets (d ▹ s) above)
            → (search_above 𝓛 rule d st (tree c s above rest)).starts
            ≡ meets 𝓛 (meets 𝓛 st.starts (valley 𝓛 rule.meets d c s above)) (cells_above 𝓛 rule.meets d rest)
        go true e ihr iha = rw (search_dropped 𝓛 rule d st c s above rest e) (ihr (drop_cells 𝓛 st (suc (size above)))
            ∙ ap (λ gs. meets 𝓛 gs (cells_above 𝓛 rule.meets d rest))
            (sym (drop_vain st.starts d c s above
            (and_right rule.dropping (below_greatest 𝓛 st.starts (rule.limit d s (suc (size above)))) e))))
        go false e ihr iha = rw (search_entered 𝓛 rule d st c s above rest e)
            (ihr (search_above 𝓛 rule (d ▹ s) (visit 𝓛 rule st c (d ▹ s) above) above)
            ∙ ap (λ gs. meets 𝓛 gs (cells_above 𝓛 rule.meets d rest)) (iha
            ∙ meets_keep 𝓛 (rule.meets c above) st.starts (record { cell = c; len = d ▹ s })
            (cells_above 𝓛 rule.meets (d ▹ s) above)))

    -- THE THEOREM: the starts are the longest of the cells that count, in order
    pub search_longest : (o : ℕ) (above : Forest S) → (search_from 𝓛 rule o above).starts
        ≡ longest 𝓛 (cells_from 𝓛 rule.meets o above)
    unfolding meets
    search_longest o above =
        search_meets start (visit 𝓛 rule (fresh 𝓛) o start above) above
        ∙ meets_keep 𝓛 (rule.meets o above) [] (record { cell = o; len = start })
        (cells_above 𝓛 rule.meets start above)
        ∙ meets_longest 𝓛 laws (cells_from 𝓛 rule.meets o above)

module _ {S : Type 0} (𝓛 : Lengths S) (rule : Rule 𝓛) where
  open 𝓛 use {Len, start, ◌▹◌}

  -- every cell is visited or dropped
  pub search_counts : (d : Len) (st : State 𝓛) (f : Forest S)
      → (search_above 𝓛 rule d st f).visited + (search_above 𝓛 rule d st f).dropped ≡ st.visited + st.dropped + size f
  search_counts d st bare = omega arith
  search_counts d st (tree c s above rest) =
      go (drops 𝓛 rule st.starts d s (suc (size above))) refl (λ st'. search_counts d st' rest)
      (search_counts (d ▹ s) (visit 𝓛 rule st c (d ▹ s) above) above)
    where
      go : (b : Bool) → drops 𝓛 rule st.starts d s (suc (size above)) ≡ b
          → ((st' : State 𝓛) → (search_above 𝓛 rule d st' rest).visited + (search_above 𝓛 rule d st' rest).dropped
          ≡ st'.visited + st'.dropped + size rest)
          → (search_above 𝓛 rule (d ▹ s) (visit 𝓛 rule st c (d ▹ s) above) above).visited +
          (search_above 𝓛 rule (d ▹ s) (visit 𝓛 rule st c (d ▹ s) above) above).dropped
          ≡ st.visited + 1 + st.dropped + size above
          → (search_above 𝓛 rule d st (tree c s above rest)).visited +
          (search_above 𝓛 rule d st (tree c s above rest)).dropped
          ≡ st.visited + st.dropped + size (tree c s above rest)
      go true e ihr iha = rw (search_dropped 𝓛 rule d st c s above rest e)
          (omega (arith, ihr (drop_cells 𝓛 st (suc (size above)))))
      go false e ihr iha = rw (search_entered 𝓛 rule d st c s above rest e)
          (omega (arith, iha, ihr (search_above 𝓛 rule (d ▹ s) (visit 𝓛 rule st c (d ▹ s) above) above)))

  pub search_all : (o : ℕ) (above : Forest S)
      → (search_from 𝓛 rule o above).visited + (search_from 𝓛 rule o above).dropped ≡ suc (size above)
  search_all o above = omega (arith, search_counts start (visit 𝓛 rule (fresh 𝓛) o start above) above)

  -- without dropping nothing is dropped
  module _ (off : rule.dropping ≡ false) where
    none_drops : (gs : List (At Len)) (d : Len) (s : S) (n : ℕ) → drops 𝓛 rule gs d s n ≡ false
    none_drops gs d s n = rw off

    search_whole : (d : Len) (st : State 𝓛) (f : Forest S) → (search_above 𝓛 rule d st f).dropped ≡ st.dropped
    search_whole d st bare = refl
    search_whole d st (tree c s above rest) =
        rw (search_entered 𝓛 rule d st c s above rest (none_drops st.starts d s (suc (size above))))
        (search_whole d (search_above 𝓛 rule (d ▹ s) (visit 𝓛 rule st c (d ▹ s) above) above) rest
        ∙ search_whole (d ▹ s) (visit 𝓛 rule st c (d ▹ s) above) above)

    pub none_dropped : (o : ℕ) (above : Forest S) → (search_from 𝓛 rule o above).dropped ≡ 0
    none_dropped o above = search_whole start (visit 𝓛 rule (fresh 𝓛) o start above) above
