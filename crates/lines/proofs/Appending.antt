-- How a held text grows.
-- Assumes nothing.
use mathlib.Core.Path.{◌≡◌, sym, ap, ◌∙◌, subst}
use mathlib.Core.List.{List, [], ◌∷◌, ◌++◌, append_assoc, append-nil}
use Prim.Native.Nat.{ℕ, suc, ◌+◌, ◌≤◌, ◌<◌}
use native.Mathlib.Omega.{arith}
use lib.ListN.{length, get_or, set, drop, length-append}
use lib.Seq.{drop-cons, set-append_seam, take-nil}
use Rattle.lists.specs.Slices.{overlaid}
use Rattle.lists.proofs.Overlaid.{overlaid_length, overlaid_front, overlaid_full}
use Rattle.lines.specs.Appending.{Holds, HoldsWhole, Appends}

-- ---- one byte

longer : (byte : ℕ) (text : List ℕ) → length (text ++ (byte ∷ [])) ≡ length text + 1
longer byte text = length-append text (byte ∷ [])

room : {text lent old : List ℕ} {at : ℕ} → Holds text lent at old → length old ≡ length lent
room {text} {lent} held = ap (λ (l : List ℕ). length l) held.laid ∙ overlaid_length text lent

module _ (byte at : ℕ) (old text lent : List ℕ) (held : Holds text lent at old) where
  -- where there is room, the byte follows the text
  in_place : at < length old → Holds (text ++ (byte ∷ [])) lent (at + 1) (set old at byte)
  in_place h =
      let fits : length text < length lent = omega (arith, held.counted, room held) in
      let at_end : at ≡ length text = omega (arith, held.counted, room held) in
      let after : length (text ++ (byte ∷ [])) ≡ suc (length text) = omega (arith, longer byte text) in
      let cell = drop-cons lent (length text) 0 fits in
      record {
        counted = omega (arith, longer byte text, held.counted, room held);
        laid = ap (λ (l : List ℕ). set l at byte) (held.laid ∙ overlaid_front text lent (omega arith)
            ∙ ap (λ (l : List ℕ). text ++ l) cell)
            ∙ ap (λ (i : ℕ). set (text ++ (get_or lent (length text) 0 ∷ drop (suc (length text)) lent)) i byte) at_end
            ∙ set-append_seam text (get_or lent (length text) 0) (drop (suc (length text)) lent) byte
            ∙ sym (append_assoc text (byte ∷ []) (drop (suc (length text)) lent))
            ∙ sym (overlaid_front (text ++ (byte ∷ [])) lent (omega (arith, longer byte text))
            ∙ ap (λ (i : ℕ). (text ++ (byte ∷ [])) ++ drop i lent) after);
      }

  -- where there is none, it is left out
  left_out : length old ≤ at → Holds (text ++ (byte ∷ [])) lent at old
  left_out h = record {
    counted = omega (arith, longer byte text, held.counted, room held);
    laid = held.laid ∙ sym (overlaid_full text (byte ∷ []) lent (omega (arith, held.counted, room held)));
  }

pub put_in : (byte at : ℕ) (old : List ℕ) → at < length old → Appends (byte ∷ []) at old (at + 1) (set old at byte)
put_in byte at old h = record { held = λ text lent t. in_place byte at old text lent t h }

pub put_out : (byte at : ℕ) (old : List ℕ) → length old ≤ at → Appends (byte ∷ []) at old at old
put_out byte at old h = record { held = λ text lent t. left_out byte at old text lent t h }

-- ---- one after the other

pub appends_none : (at : ℕ) (old : List ℕ) → Appends [] at old at old
appends_none at old = record {
  held = λ text lent t. subst (λ (l : List ℕ). Holds l lent at old) (sym (append-nil text)) t;
}

pub appends_both : {a b : List ℕ} {at m r : ℕ} {old mid new : List ℕ} → Appends a at old m mid → Appends b m mid r new
    → Appends (a ++ b) at old r new
appends_both {a} {b} {r = r} {new = new} f g = record {
  held = λ text lent t. subst (λ (l : List ℕ). Holds l lent r new) (append_assoc text a b)
      (g.held (text ++ a) lent (f.held text lent t));
}

pub appends_as : {a b : List ℕ} {at r : ℕ} {old new : List ℕ} → a ≡ b → Appends a at old r new → Appends b at old r new
appends_as {at = at} {r} {old} {new} e f = subst (λ (l : List ℕ). Appends l at old r new) e f

-- from the first place on, what is put is what is held
pub whole : {bytes : List ℕ} {r : ℕ} {old new : List ℕ} → Appends bytes 0 old r new → Holds bytes old r new
unfolding overlaid
whole {old = old} f = f.held [] old (record { counted = omega arith; laid = nothing })
  where
    nothing : old ≡ overlaid [] old
    nothing = sym (ap (λ (l : List ℕ). l ++ old) (take-nil (length old)))

-- with room for all of it, a held text is held whole
pub holds_whole : {text lent now : List ℕ} {at : ℕ} → length text ≤ length lent → Holds text lent at now
    → HoldsWhole text lent at now
holds_whole {text} {lent} h held = record {
  counted = omega (arith, held.counted);
  fits = omega (arith, held.counted, room held);
  laid = held.laid ∙ overlaid_front text lent h;
}
