-- Laws of the starts that stand before an end, and of a length that is met.
-- Assumes nothing.
use mathlib.Core.Path.{◌≡◌, refl, sym, ap, ◌∙◌}
use mathlib.Core.Bool.{Bool, true, false, ◌&&◌, not}
use mathlib.Core.Logic.{inl, inr}
use mathlib.Core.List.{List, [], ◌∷◌, ◌++◌, map, map-append}
use Prim.Native.Nat.{ℕ, zero, suc, ◌+◌, ◌-◌, ◌≤◌, ◌<◌}
use native.Mathlib.Numerals.{add-one}
use native.Mathlib.Omega.{arith}
use lib.ListN.{length, get_or, set, length-append}
use lib.Seq.{get_or-set_same, get_or-set_other}
use lib.Dec.{eqb}
use borrow.Author.Tests.{ne_eqb}
use Rattle.lengths.specs.declared.Length.{Length}
use Rattle.std.specs.declared.cmp.Ordering.{Ordering}
use Rattle.std.specs.declared.cmp.Ordering.TheVariants.{Less, Equal, Greater}
use Rattle.lengths.specs.Rule.{compared, says_shorter, is_shorter}
use Rattle.lengths.proofs.Ordered.{opposite, compared_back, same_counts}
use Rattle.ground.specs.Compass.{squares}
use Rattle.search.specs.Search.{meet, below_greatest}
use Rattle.search.proofs.Meeting.{meet_shorter, meet_longer, meet_tie}
use Rattle.progress.specs.declared.Progress.{Progress}
use Rattle.progress.specs.Starts.{kept, start_at, starts_of, Met, Visited, is_below}

-- ---- the starts

-- two slices that are the same there
pub kept_same : (l m : List ℕ) (end k : ℕ) → k ≤ end → ((i : ℕ) → end - k ≤ i → i < end → get_or l i 0 ≡ get_or m i 0)
    → kept l end k ≡ kept m end k
unfolding kept
kept_same l m end zero h f = refl
kept_same l m end (suc k) h f =
    let e : get_or l (end - suc k) 0 ≡ get_or m (end - suc k) 0 = f (end - suc k) (omega arith) (omega arith) in
    rw (e, kept_same l m end k (omega arith) (λ i a b. f i (omega arith) b))

-- one more
pub kept_add : (l : List ℕ) (end k c : ℕ) → k < end → end ≤ length l → kept (set l (end - suc k) c) end (suc k)
    ≡ kept l end k ++ (c ∷ [])
unfolding kept
kept_add l end k c h f =
    let e : get_or (set l (end - suc k) c) (end - suc k) 0 ≡ c = get_or-set_same l (end - suc k) c 0 (omega arith) in
    rw (
      e,
      kept_same (set l (end - suc k) c) l end k (omega arith)
          (λ i a b. get_or-set_other l (end - suc k) i c 0 (λ q. omega arith)),
    )

pub kept_length : (l : List ℕ) (end k : ℕ) → length (kept l end k) ≡ k
unfolding kept
kept_length l end zero = refl
kept_length l end (suc k) = omega (
  arith,
  length-append (kept l end k)
      (get_or l (end - suc k) 0 ∷ []),
  kept_length l end k,
)

-- ---- a length compared

shorter_says : (l m : Length) (o : Ordering) → compared l m ≡ o → is_shorter l m ≡ says_shorter o
unfolding is_shorter
shorter_says l m o e = ap says_shorter e

back_says : (l m : Length) (o : Ordering) → compared l m ≡ o → is_shorter m l ≡ says_shorter (opposite o)
back_says l m o e = shorter_says m l (opposite o) (compared_back l m ∙ ap opposite e)

-- ---- a length met among starts of one length

map_snoc : (l : Length) (cs : List ℕ) (c : ℕ)
    → map (start_at l) (cs ++ (c ∷ [])) ≡ map (start_at l) cs ++ (start_at l c ∷ [])
map_snoc l cs c = map-append (start_at l) cs (c ∷ [])

module _ (g : Length) (cs : List ℕ) (some_start : 0 < length cs) (l : Length) (c : ℕ) where
  pub met_shorter : compared l g ≡ Less → meet squares (map (start_at g) cs) (start_at l c) ≡ map (start_at g) cs
  met_shorter e = go cs some_start
    where
      go : (ds : List ℕ) → 0 < length ds → meet squares (map (start_at g) ds) (start_at l c) ≡ map (start_at g) ds
      go [] h = absurd (omega arith)
      go (d ∷ ds) h = meet_shorter squares (start_at g d) (map (start_at g) ds) (start_at l c) (shorter_says l g Less e)

  pub met_longer : compared l g ≡ Greater → meet squares (map (start_at g) cs) (start_at l c) ≡ start_at l c ∷ []
  met_longer e = go cs some_start
    where
      go : (ds : List ℕ) → 0 < length ds → meet squares (map (start_at g) ds) (start_at l c) ≡ start_at l c ∷ []
      go [] h = absurd (omega arith)
      go (d ∷ ds) h = meet_longer squares (start_at g d) (map (start_at g) ds) (start_at l c) (shorter_says l g Greater e)
          (back_says l g Greater e)

  pub met_same : compared l g ≡ Equal → meet squares (map (start_at g) cs) (start_at l c)
      ≡ map (start_at g) (cs ++ (c ∷ []))
  met_same e = go cs some_start ∙ ap (λ (k : Length). map (start_at g) cs ++ (start_at k c ∷ [])) (same_counts l g e)
      ∙ sym (map_snoc g cs c)
    where
      go : (ds : List ℕ) → 0 < length ds → meet squares (map (start_at g) ds) (start_at l c) ≡ map (start_at g) ds
          ++ (start_at l c ∷ [])
      go [] h = absurd (omega arith)
      go (d ∷ ds) h = meet_tie squares (start_at g d) (map (start_at g) ds) (start_at l c) (shorter_says l g Equal e)
          (back_says l g Equal e)

-- ---- what the functions promise

module _ (old : List ℕ) (end cell : ℕ) (len : Length) (p : Progress) (room : p.paths < end)
    (within : end ≤ length old) where
  -- the length takes the place of all before
  pub restarted : (r : Progress) (new : List ℕ)
      → r ≡ record { greatest = len; paths = 1; visited = p.visited; dropped = p.dropped }
      → new ≡ set old (end - 1) cell
      → meet squares (starts_of p old end) (start_at len cell) ≡ start_at len cell ∷ [] → Met old new end cell len p r
  unfolding kept
  restarted r new e f m = rw (e, f) (record {
    starts = ap (map (start_at len)) (kept_add old end 0 cell (omega arith) within) ∙ sym m;
    same_visited = refl;
    same_dropped = refl;
    few = omega arith;
    one_of = inr refl;
    only = record {
      below = λ i q. get_or-set_other old (end - 1) i cell 0 (λ k. omega arith);
      beyond = λ i q. get_or-set_other old (end - 1) i cell 0 (λ k. omega arith);
    };
  })

  -- it is forgotten
  pub forgotten : meet squares (starts_of p old end) (start_at len cell) ≡ starts_of p old end
      → Met old old end cell len p p
  forgotten m = record {
    starts = sym m;
    same_visited = refl;
    same_dropped = refl;
    few = omega arith;
    one_of = inl refl;
    only = record { below = λ i q. refl; beyond = λ i q. refl };
  }

  -- it joins them
  pub joined : (r : Progress) (new : List ℕ)
      → r ≡ record { greatest = p.greatest; paths = p.paths + 1; visited = p.visited; dropped = p.dropped }
      → new ≡ set old (end - (p.paths + 1)) cell
      → meet squares (starts_of p old end) (start_at len cell) ≡ map (start_at p.greatest)
      (kept old end p.paths ++ (cell ∷ [])) → Met old new end cell len p r
  joined r new e f m =
      let k : kept (set old (end - (p.paths + 1)) cell) end (p.paths + 1) ≡ kept old end p.paths ++ (cell ∷ []) =
      rw (add-one p.paths) (kept_add old end p.paths cell room within) in
      rw (e, f) (record {
        starts = ap (map (start_at p.greatest)) k ∙ sym m;
        same_visited = refl;
        same_dropped = refl;
        few = omega arith;
        one_of = inl refl;
        only = record {
          below = λ i q. get_or-set_other old (end - (p.paths + 1)) i cell 0 (λ t. omega arith);
          beyond = λ i q. get_or-set_other old (end - (p.paths + 1)) i cell 0 (λ t. omega arith);
        };
      })

  pub first_met : p.paths ≡ 0 → meet squares (starts_of p old end) (start_at len cell) ≡ start_at len cell ∷ []
  unfolding kept
  first_met e = ap (λ (k : ℕ). meet squares (map (start_at p.greatest) (kept old end k)) (start_at len cell)) e

  pub some_kept : (p.paths ≡ 0 → ⊥) → 0 < length (kept old end p.paths)
  some_kept n = omega (arith, kept_length old end p.paths, n)

-- a cell is visited: one more is counted, and its length is met or not
abbrev pub counted : Progress → Progress
counted p = record { greatest = p.greatest; paths = p.paths; visited = p.visited + 1; dropped = p.dropped }

pub visited_met : (old new : List ℕ) (end cell : ℕ) (met : Bool) (len : Length) (p r : Progress) → met ≡ true
    → Met old new end cell len (counted p) r → Visited old new end cell met len p r
visited_met old new end cell met len p r e m = record {
  state = rw e (λ t. record { starts = m.starts t; visited = m.same_visited t; dropped = m.same_dropped t });
  few = m.few;
  one_of = m.one_of;
  only = m.only;
}

pub visited_past : (old : List ℕ) (end cell : ℕ) (met : Bool) (len : Length) (p : Progress) → met ≡ false
    → Visited old old end cell met len p (counted p)
visited_past old end cell met len p e = record {
  state = rw e;
  few = omega arith;
  one_of = inl refl;
  only = record { below = λ i q. refl; beyond = λ i q. refl };
}

-- ---- the drop test

-- what an engine holds, and the starts that it holds, say the same
module _ (limit : Length) (p : Progress) where
  pub below_starts : (work : List ℕ) (end : ℕ) → is_below limit p ≡ below_greatest squares (starts_of p work end) limit
  unfolding is_below
  below_starts work end = go (kept work end p.paths) (kept_length work end p.paths)
    where
      go : (cs : List ℕ) → length cs ≡ p.paths
          → (not (eqb p.paths 0) && is_shorter limit p.greatest)
          ≡ below_greatest squares (map (start_at p.greatest) cs) limit
      go [] e = rw (sym e)
      go (c ∷ cs) e = rw (ne_eqb p.paths 0 (λ z. omega (arith, z, e)))
