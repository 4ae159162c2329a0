-- Laws of lists that are equal in every open place.
-- Assumes nothing.
use Prim.Native.Nat.{ℕ, ◌+◌, ◌-◌, ◌*◌, ◌≤◌, ◌<◌}
use mathlib.Core.Path.{◌≡◌, refl, sym, ap₂, ◌∙◌, subst}
use mathlib.Core.List.{List, [], ◌∷◌, Memᴰ}
use native.Mathlib.Decide.{dec_lt}
use native.Mathlib.Omega.{arith}
use lib.ListN.{length, get_or, get_or-eq_default}
use lib.Seq.{paste, length-paste}
use Rattle.lists.specs.Lists.{Each, number_at}
use Rattle.lists.proofs.Tables.{paste_before, paste_inside, paste_after}
use Rattle.machine.specs.TwoRuns.{EqualOpen}

pub each_of : {P : ℕ → Type 0} (xs : List ℕ) → ((x : ℕ) → Memᴰ x xs → P x) → Each P xs
each_of [] h = tt
each_of (x ∷ xs) h = (h x (Memᴰ.head refl), each_of xs (λ y k. h y (Memᴰ.tail k)))

-- ---- what is read

module _ {Hidden : ℕ → Type 0} {l m : List ℕ} (e : EqualOpen Hidden l m) where
  -- past the end both read as 0, so only a place of the lists need be open
  pub equal_at : (p : ℕ) → (p < length l → ¬ Hidden p) → get_or l p 0 ≡ get_or m p 0
  equal_at p h = go (dec_lt p (length l))
    where
      go : Dec (p < length l) → get_or l p 0 ≡ get_or m p 0
      go (yes k) = e.places p k (h k)
      go (no k) =
          let f : length l ≤ p = omega arith in
          let g : length m ≤ p = omega (arith, e.lengths) in
          get_or-eq_default l 0 f ∙ sym (get_or-eq_default m 0 g)

  pub numbers_equal : (ps : List ℕ) → Each (λ p. p < length l → ¬ Hidden p) ps → number_at l ps ≡ number_at m ps
  numbers_equal [] h = refl
  numbers_equal (p ∷ ps) h = ap₂ (λ (x y : ℕ). x + y * 256) (equal_at p h.0) (numbers_equal ps h.1)

-- ---- what is written: the same part of two such lists is replaced

pub paste_equal : {Hidden : ℕ → Type 0} {l m : List ℕ} (at n : ℕ) (s t : List ℕ)
    → EqualOpen Hidden l m → at + n ≤ length l → length s ≡ n → length t ≡ n
    → ((k : ℕ) → k < n → ¬ Hidden (at + k) → get_or s k 0 ≡ get_or t k 0)
    → EqualOpen Hidden (paste l at s n) (paste m at t n)
paste_equal {Hidden} {l} {m} at n s t e fits ls lt h =
    record {
      lengths = length-paste l at s n fits hs ∙ e.lengths ∙ sym (length-paste m at t n fits' ht);
      places = λ p _ o. go p o (dec_lt p at) (dec_lt p (at + n));
    }
  where
    hs : n ≤ length s
    hs = omega arith

    ht : n ≤ length t
    ht = omega arith

    fits' : at + n ≤ length m
    fits' = omega (arith, e.lengths)

    go : (p : ℕ) → ¬ Hidden p → Dec (p < at) → Dec (p < at + n) → get_or (paste l at s n) p 0 ≡ get_or (paste m at t n) p 0
    go p o (yes b) _ = paste_before l at s n fits hs 0 p b ∙ equal_at e p (λ _. o) ∙ sym (paste_before m at t n fits' ht 0 p b)
    go p o (no b) (yes c) =
        let q : at + (p - at) ≡ p = omega arith in
        subst (λ (x : ℕ). get_or (paste l at s n) x 0 ≡ get_or (paste m at t n) x 0) q
        (paste_inside l at s n fits hs 0 (p - at) (omega arith)
        ∙ h (p - at) (omega arith) (subst (λ (x : ℕ). ¬ Hidden x) (sym q) o)
        ∙ sym (paste_inside m at t n fits' ht 0 (p - at) (omega arith)))
    go p o (no b) (no c) =
        let q : at + n + (p - (at + n)) ≡ p = omega arith in
        subst (λ (x : ℕ). get_or (paste l at s n) x 0 ≡ get_or (paste m at t n) x 0) q
        (paste_after l at s n fits hs 0 (p - (at + n))
        ∙ equal_at e (at + n + (p - (at + n))) (λ _. subst (λ (x : ℕ). ¬ Hidden x) (sym q) o)
        ∙ sym (paste_after m at t n fits' ht 0 (p - (at + n))))
