-- THE TIGHTER LIMIT lists the same as any limit that covers and visits no more cells. Both searches hold the same starts
-- whenever they turn to a neighbour: what the one drops and the other enters is met in vain.
-- Assumes nothing.
use mathlib.Core.Path.{◌≡◌, refl, sym, ap, ◌∙◌}
use mathlib.Core.Bool.{Bool, true, false, ◌&&◌, true≢false}
use mathlib.Core.List.{List, [], ◌∷◌, map}
use Prim.Native.Nat.{ℕ, suc, ◌+◌, ◌≤◌}
use native.Mathlib.Omega.{arith}
use lib.ListN.{length}
use Rattle.lengths.specs.Lengths.{Lengths}
use Rattle.lengths.proofs.Laws.{LengthLaws}
use Rattle.ground.specs.Compass.{Dir, squares}
use Rattle.ground.specs.Grid.{Grid, ground}
use Rattle.ground.specs.Walk.{At}
use Rattle.ground.specs.Accumulation.{agrees}
use Rattle.ground.specs.Forest.{Forest, bare, tree, size, Which, forest, cells_above}
use Rattle.ground.proofs.Ground.{squares_laws, sub_size}
use Rattle.search.specs.Search.{State, fresh, meet_if, below_greatest, Rule, tight_limit, first_rule, limited_by, tracing_rule}
use Rattle.search.specs.Search.{drops, drop_cells, visit, search_above, search_from}
use Rattle.search.specs.Editions.{meets_by}
use Rattle.search.specs.Tracing.{first_length, tracing_by, tracing, first_tracing}
use Rattle.search.specs.Tighter.{Tighter}
use Rattle.search.proofs.Meeting.{le_lt, meets, meets_keep}
use Rattle.search.proofs.Dropping.{and_right, valley, search_dropped, search_entered, Covers, tight_covers}
use Rattle.search.proofs.Dropping.{first_covers, drop_vain, search_meets, search_all}

and_also : (a b c : Bool) → (b ≡ true → c ≡ true) → (a && b) ≡ true → (a && c) ≡ true
and_also true b c f h = f h
and_also false b c f h = h

-- a search never forgets a visit
visited_grows : {S : Type 0} (𝓛 : Lengths S) (rule : Rule 𝓛) (d : 𝓛.Len) (st : State 𝓛) (f : Forest S)
    → st.visited ≤ (search_above 𝓛 rule d st f).visited
visited_grows 𝓛 rule d st bare = omega arith
visited_grows {S} 𝓛 rule d st (tree c s above rest) =
    go (drops 𝓛 rule st.starts d s (suc (size above))) refl (λ st'. visited_grows 𝓛 rule d st' rest)
    (visited_grows 𝓛 rule there (visit 𝓛 rule st c there above) above)
  where
    there : 𝓛.Len
    there = 𝓛.◌▹◌ d s

    go : (b : Bool) → drops 𝓛 rule st.starts d s (suc (size above)) ≡ b
        → ((st' : State 𝓛) → st'.visited ≤ (search_above 𝓛 rule d st' rest).visited)
        → st.visited + 1 ≤ (search_above 𝓛 rule there (visit 𝓛 rule st c there above) above).visited
        → st.visited ≤ (search_above 𝓛 rule d st (tree c s above rest)).visited
    go true e ihr iha = rw (search_dropped 𝓛 rule d st c s above rest e) (ihr (drop_cells 𝓛 st (suc (size above))))
    go false e ihr iha = rw (search_entered 𝓛 rule d st c s above rest e)
        (omega (arith, iha, ihr (search_above 𝓛 rule there (visit 𝓛 rule st c there above) above)))

-- one search holds the same starts as another and has visited no more
pub record Behind {S : Type 0} (𝓛 : Lengths S) (a b : State 𝓛) : Type 0 where
  pub same_starts : a.starts ≡ b.starts
  pub no_more_visited : a.visited ≤ b.visited

module _ {S : Type 0} (𝓛 : Lengths S) (laws : LengthLaws 𝓛) (rule : Rule 𝓛) (covers : Covers 𝓛 laws rule.limit) where
  open 𝓛 use {Len, start, ◌▹◌}

  -- the same rule by the tight limit
  abbrev tight : Rule 𝓛
  tight = limited_by 𝓛 (tight_limit 𝓛) rule

  -- what the rule drops, the tight one drops
  drops_too : (gs : List (At Len)) (d : Len) (s : S) (n : ℕ) → drops 𝓛 rule gs d s (suc n) ≡ true
      → drops 𝓛 tight gs d s (suc n) ≡ true
  unfolding Covers
  drops_too [] d s n h = h
  drops_too (g ∷ gs) d s n h = and_also rule.dropping (below_greatest 𝓛 (g ∷ gs) (rule.limit d s (suc n)))
      (below_greatest 𝓛 (g ∷ gs) (tight_limit 𝓛 d s (suc n)))
      (le_lt 𝓛 laws (tight_limit 𝓛 d s (suc n)) (rule.limit d s (suc n)) g.len (covers d s n)) h

  behind : (d : Len) (f : Forest S) (a b : State 𝓛) → Behind 𝓛 a b
      → Behind 𝓛 (search_above 𝓛 tight d a f) (search_above 𝓛 rule d b f)
  behind d bare a b h = h
  behind d (tree c s above rest) a b h = go (drops 𝓛 rule b.starts d s n) refl (drops 𝓛 tight a.starts d s n)
      refl (λ x y. behind d rest x y) (λ x y. behind (d ▹ s) above x y)
    where
      n : ℕ
      n = suc (size above)

      in_tight : State 𝓛
      in_tight = search_above 𝓛 tight (d ▹ s) (visit 𝓛 tight a c (d ▹ s) above) above

      in_rule : State 𝓛
      in_rule = search_above 𝓛 rule (d ▹ s) (visit 𝓛 rule b c (d ▹ s) above) above

      -- dropped by the tight limit alone: met in vain
      in_vain : drops 𝓛 tight a.starts d s n ≡ true → a.starts ≡ in_rule.starts
      in_vain q = sym (search_meets 𝓛 laws rule covers (d ▹ s) (visit 𝓛 rule b c (d ▹ s) above) above
          ∙ meets_keep 𝓛 (rule.meets c above) b.starts (record { cell = c; len = d ▹ s })
          (cells_above 𝓛 rule.meets (d ▹ s) above)
          ∙ ap (λ gs. meets 𝓛 gs (valley 𝓛 rule.meets d c s above)) (sym h.same_starts)
          ∙ drop_vain 𝓛 laws tight (tight_covers 𝓛 laws) a.starts d c s above
          (and_right rule.dropping (below_greatest 𝓛 a.starts (tight_limit 𝓛 d s n)) q))

      go : (p : Bool) → drops 𝓛 rule b.starts d s n ≡ p → (q : Bool) → drops 𝓛 tight a.starts d s n ≡ q
          → ((x y : State 𝓛) → Behind 𝓛 x y → Behind 𝓛 (search_above 𝓛 tight d x rest) (search_above 𝓛 rule d y rest))
          → ((x y : State 𝓛) → Behind 𝓛 x y
          → Behind 𝓛 (search_above 𝓛 tight (d ▹ s) x above) (search_above 𝓛 rule (d ▹ s) y above))
          → Behind 𝓛 (search_above 𝓛 tight d a (tree c s above rest)) (search_above 𝓛 rule d b (tree c s above rest))
      go true p true q ihr iha =
          rw (search_dropped 𝓛 tight d a c s above rest q, search_dropped 𝓛 rule d b c s above rest p)
          (ihr (drop_cells 𝓛 a n) (drop_cells 𝓛 b n)
          (record { same_starts = h.same_starts; no_more_visited = h.no_more_visited }))
      go true p false q ihr iha = absurd (true≢false
          (sym (drops_too a.starts d s (size above) (ap (λ gs. drops 𝓛 rule gs d s n) h.same_starts ∙ p)) ∙ q))
      go false p true q ihr iha =
          rw (search_dropped 𝓛 tight d a c s above rest q, search_entered 𝓛 rule d b c s above rest p)
          (ihr (drop_cells 𝓛 a n) in_rule (record {
            same_starts = in_vain q;
            no_more_visited = omega (
              arith,
              h.no_more_visited,
              visited_grows 𝓛 rule (d ▹ s) (visit 𝓛 rule b c (d ▹ s) above) above,
            );
          }))
      go false p false q ihr iha =
          rw (search_entered 𝓛 tight d a c s above rest q, search_entered 𝓛 rule d b c s above rest p)
          (ihr in_tight in_rule (iha (visit 𝓛 tight a c (d ▹ s) above) (visit 𝓛 rule b c (d ▹ s) above) (record {
            same_starts = ap (λ gs. meet_if 𝓛 (rule.meets c above) gs (record { cell = c; len = d ▹ s }))
                h.same_starts;
            no_more_visited = omega (arith, h.no_more_visited);
          })))

  -- of all limits that cover, the tight one visits the fewest cells of any forest
  pub tightest : (o : ℕ) (above : Forest S) → Behind 𝓛 (search_from 𝓛 tight o above) (search_from 𝓛 rule o above)
  tightest o above = behind start above (visit 𝓛 tight (fresh 𝓛) o start above) (visit 𝓛 rule (fresh 𝓛) o start above)
      (record { same_starts = refl; no_more_visited = omega arith })

-- on every grid, from every cell, by either edition, with and without dropping
module _ (edition : ℕ) (dropping : Bool) (g : Grid) (outlets : List ℕ) (o : ℕ) where
  abbrev where_met : Which Dir
  where_met = meets_by edition g outlets o

  beside_first : Behind squares (search_from squares (tracing_rule squares where_met dropping) o (forest g outlets o))
      (search_from squares (first_rule squares where_met dropping) o (forest g outlets o))
  beside_first = tightest squares squares_laws (first_rule squares where_met dropping) (first_covers squares squares_laws) o
      (forest g outlets o)

  pub no_more_visited : (tracing edition dropping g outlets o).visited ≤ (first_tracing edition dropping g outlets o).visited
  unfolding tracing_by
  no_more_visited = beside_first.no_more_visited

-- THE THEOREM, on every grid with an accumulation, from every outlet, by either edition, with and without dropping
pub tighter : (g : Grid) (a : List ℕ) → agrees g a ≡ true → (outlets : List ℕ) (o : ℕ) → ground g o ≡ true
    → (edition : ℕ) (dropping : Bool)
    → Tighter g outlets o (tracing edition dropping g outlets o) (first_tracing edition dropping g outlets o)
unfolding tracing_by
tighter g a h outlets o v edition dropping =
    let t = beside_first edition dropping g outlets o in
    let cells = sub_size g a h outlets o v in
    let sum = search_all squares (tracing_rule squares (meets_by edition g outlets o) dropping) o (forest g outlets o) in
    let first-sum = search_all squares (first_rule squares (meets_by edition g outlets o) dropping) o (forest g outlets o) in
    record {
      same_starts = ap (map (λ x. x.cell)) t.same_starts;
      same_len = ap first_length t.same_starts;
      same_paths = ap length t.same_starts;
      no_more_visited = t.no_more_visited;
      no_fewer_dropped = omega (arith, t.no_more_visited, sum, first-sum);
      counts = sum ∙ sym cells;
      first_counts = first-sum ∙ sym cells;
    }
