-- Texts put into a buffer one behind the other: a byte (`one`), a text and then another (`followed`), nothing (`none`).
-- Assumes nothing.
use Prim.Native.Nat.{ℕ, ◌+◌, ◌≤◌, ◌<◌}
use mathlib.Core.Path.{◌≡◌, refl, sym, ap, ap₂, ◌∙◌}
use mathlib.Core.List.{List, [], ◌∷◌, ◌++◌, append_assoc, append-nil}
use native.Mathlib.Omega.{arith}
use native.Mathlib.Nat.{add-zero, add_assoc}
use native.Mathlib.Numerals.{add-one}
use lib.ListN.{length, take, drop, set, take-append-drop, length-append}
use lib.Seq.{take_at, drop_at, drop-drop, set_split, append_snoc, length-take-le}
use Rattle.text.specs.Put.{Put}
use Rattle.text.specs.Text.{Wrote}

pub none : (a : List ℕ) (n : ℕ) → Put [] a n n a
none a n = record { place = sym (add-zero n); buffer = rw (add-zero, append-nil) (sym (take-append-drop n a)) }

pub one : (a : List ℕ) (n v : ℕ) → n < length a → Put (v ∷ []) a n (n + 1) (set a n v)
one a n v h = record { place = refl; buffer = rw (add-one, append_snoc) (set_split a n v h) }

pub followed : {t a : List ℕ} {n m : ℕ} {b u : List ℕ} {k : ℕ} {c : List ℕ} → n ≤ length a → Put t a n m b → Put u b m k c
    → Put (t ++ u) a n k c
followed {t} {a} {n} {m} {b} {u} {k} {c} h w v =
    let long : length (take n a ++ t) ≡ m = simp length-append (omega (arith, length-take-le n a h)) in
    let front : take m b ≡ take n a ++ t = ap (take m) w.buffer ∙ take_at (take n a ++ t) (drop (n + length t) a) m long in
    let back : drop m b ≡ drop (n + length t) a = ap (drop m) w.buffer ∙ drop_at (take n a ++ t) (drop (n + length t) a) m long in
    let rest : drop (m + length u) b ≡ drop (n + length (t ++ u)) a =
    sym (drop-drop (length u) m b) ∙ ap (drop (length u)) back ∙ drop-drop (length u) (n + length t) a
    ∙ ap (λ (j : ℕ). drop j a) (add_assoc n (length t) (length u) ∙ ap (λ (j : ℕ). n + j) (sym (length-append t u)))
    in
    record {
      place = simp length-append (omega arith);
      buffer =
          v.buffer ∙ ap₂ (λ (x y : List ℕ). x ++ u ++ y) front rest ∙ ap (λ (x : List ℕ). x ++ drop (n + length (t ++ u)) a)
          (append_assoc (take n a) t u);
    }

-- from the start of the buffer on
pub wrote : {t a : List ℕ} {n : ℕ} {b : List ℕ} → n ≤ length b → Put t a 0 n b → Wrote t a n b
wrote {t} {a} {n} {b} h w =
    let e : 0 + length t ≡ length t = omega arith in
    record { count = w.place ∙ e; buffer = w.buffer ∙ ap (λ (j : ℕ). t ++ drop j a) e; within = h }
