-- The statement of specs/Reports.antt: the replay goes through the items in order, so after n of them that agree it stands at item n.
-- Assumes nothing.
use Prim.Native.Nat.{ℕ, zero, suc, ◌+◌, ◌-◌, ◌≤◌, ◌<◌}
use mathlib.Core.Path.{◌≡◌, refl, sym, subst, ◌∙◌}
use mathlib.Core.Bool.{Bool, true, false, cond, true≢false}
use mathlib.Core.List.{List}
use native.Mathlib.Decide.{dec_lt}
use native.Mathlib.Nat.{zero-add}
use native.Mathlib.Numerals.{add-one}
use native.Mathlib.Omega.{arith}
use borrow.Author.Tests.{eqb-true, eqb-false, eq-eqb, ne_eqb}
use lib.Dec.{eqb}
use lib.ListN.{length, length-drop}
use lib.Seq.{drop-drop}
use Rattle.forms.specs.Saved.{size_at, load_front}
use Rattle.forms.proofs.Front.{front_cut}
use Rattle.recording.specs.Item.{item_size, is_bad}
use Rattle.recording.specs.Replay.{differs, replay_from, items_in, replay}
use Rattle.recording.specs.Reports.{WellFormed, Agrees, Loads, item_at, from, state_before, stepped_at, GoodBefore, Says, Reports}
use Rattle.recording.specs.declared.Report.{Report}
use Rattle.recording.specs.declared.Report.TheVariants.{Same, Differs, BadItem, BadState}
use Rattle.recording.proofs.Tests.{well_formed, not_bad, agree, not_differs}
use Rattle.recording.proofs.Turns.{turn_ends, turn_bad, turn_differs, turn_on}

-- a test that holds refutes what would make it fail
refuted : {A : Type 0} {t : Bool} → (A → t ≡ false) → t ≡ true → ¬ A
refuted h e a = true≢false (sym e ∙ h a)

-- and one whose failing is refuted holds
holds : (t : Bool) → ¬ (t ≡ false) → t ≡ true
holds true h = refl
holds false h = absurd (h refl)

module _ (r : List ℕ) where
  -- ---- where the items stand

  whole : Loads r → size_at r ≤ length r
  whole l =
      elim (dec_lt (length r) (size_at r)) [
        | yes y ↦ absurd (let e : 0 ≡ 10 = sym l ∙ front_cut r y in omega arith)
        | no y ↦ omega arith
      ]

  record Placed (n : ℕ) : Type 0 where
    least : size_at r + n ≤ item_at r n
    most : item_at r n ≤ length r

  placed : Loads r → (n : ℕ) → GoodBefore r n → Placed n
  unfolding item_at
  placed l zero a = record { least = omega arith; most = whole l }
  placed l (suc n) a =
      let p : Placed n = placed l n (λ k h. a k (omega arith)) in
      let w : item_size (from r n) ≤ length (from r n) = (a n (omega arith)).0.whole in
      record { least = omega (arith, p.least); most = omega (arith, p.most, w, length-drop (item_at r n) r) }

  -- an item that is well formed has bytes
  inside : (n : ℕ) → WellFormed (from r n) → item_at r n < length r
  inside n w = omega (arith, w.whole, length-drop (item_at r n) r)

  -- ---- one item, and any number of them

  abbrev at : ℕ → ℕ → Report
  at m n = replay_from m (state_before r n) (from r n) n

  turn : (m n : ℕ) → WellFormed (from r n) → Agrees (stepped_at r n) (from r n) → at (suc m) n ≡ at m (suc n)
  unfolding item_at state_before
  turn m n w a =
      turn_on (state_before r n) (from r n) n m (not_bad (from r n) w) (not_differs (from r n) (stepped_at r n) a)
      ∙ rw (drop-drop (item_size (from r n)) (item_at r n) r, add-one n)

  reached : (n m : ℕ) → GoodBefore r n → at (n + m) 0 ≡ at m n
  reached zero m a = rw (zero-add m)
  reached (suc n) m a =
      let e : suc n + m ≡ n + suc m = omega arith in
      rw e (reached n (suc m) (λ k h. a k (omega arith)) ∙ turn m n (a n (omega arith)).0 (a n (omega arith)).1)

  -- ---- the report is given where it is true

  replayed : Loads r → (n : ℕ) → GoodBefore r n → (m : ℕ) → n + m ≡ length (items_in r) → replay r ≡ at m n
  unfolding replay item_at state_before
  replayed l n a m e = rw (eq-eqb (load_front r).number 0 l, ← e) (reached n m a)

  -- while bytes are left, one more item can be looked at
  more : Loads r → (n : ℕ) → GoodBefore r n → item_at r n < length r → replay r ≡ at (suc (length (items_in r) - suc n)) n
  more l n a h =
      let p : Placed n = placed l n a in
      replayed l n a (suc (length (items_in r) - suc n)) (omega (arith, p.least, length-drop (size_at r) r))

  given : (x : Report) → Says r x → replay r ≡ x
  unfolding replay
  given (Same n) s =
      let p : Placed n = placed s.0 n s.1 in
      replayed s.0 n s.1 (length (items_in r) - n) (omega (arith, p.least, p.most, length-drop (size_at r) r))
      ∙ turn_ends (state_before r n) (from r n) n (length (items_in r) - n) (omega (arith, s.2, length-drop (item_at r n) r))
  given (BadItem n) s =
      more s.0 n s.1 s.2
      ∙ turn_bad (state_before r n) (from r n) n _ (omega (arith, s.2, length-drop (item_at r n) r))
      (holds (is_bad (from r n)) (λ e. s.3 (well_formed (from r n) e)))
  given (Differs n) s =
      more s.0 n s.1 (inside n s.2)
      ∙ turn_differs (state_before r n) (from r n) n _ (not_bad (from r n) s.2)
      (holds (differs (stepped_at r n) (from r n)) (λ e. s.3 (agree (from r n) (stepped_at r n) e)))
  given BadState s = rw (ne_eqb (load_front r).number 0 s)

  -- ---- and true where it is given

  -- with item n, where those before it agree
  one_more : (n : ℕ) → GoodBefore r n → WellFormed (from r n) → Agrees (stepped_at r n) (from r n) → GoodBefore r (suc n)
  one_more n a w g k h =
      elim (dec_lt k n) [
        | yes y ↦ a k y
        | no y ↦ let e : n ≡ k = omega arith in subst (λ j. WellFormed (from r j) × Agrees (stepped_at r j) (from r j)) e (w, g)
      ]

  true_from : Loads r → (m n : ℕ) → GoodBefore r n → n + m ≡ length (items_in r) → Says r (at m n)
  unfolding replay_from
  true_from l zero n a e = let p : Placed n = placed l n a in (l, a, omega (arith, p.least, p.most, length-drop (size_at r) r))
  true_from l (suc m) n a e =
      go (eqb (length (from r n)) 0) (is_bad (from r n)) (differs (stepped_at r n) (from r n)) refl refl refl
      (λ w g. subst (Says r) (sym (turn m n w g)) (true_from l m (suc n) (one_more n a w g) (omega arith)))
    where
      go : (t b d : Bool) → eqb (length (from r n)) 0 ≡ t → is_bad (from r n) ≡ b → differs (stepped_at r n) (from r n) ≡ d
          → (WellFormed (from r n) → Agrees (stepped_at r n) (from r n) → Says r (at (suc m) n)) → Says r (at (suc m) n)
      go true b d f g h later =
          let p : Placed n = placed l n a in
          rw f (l, a, omega (arith, p.most, eqb-true (length (from r n)) 0 f, length-drop (item_at r n) r))
      go false true d f g h later =
          rw (f, g) (l, a, omega (arith, eqb-false (length (from r n)) 0 f, length-drop (item_at r n) r), refuted (not_bad (from r n)) g)
      go false false true f g h later =
          rw (f, g, h) (l, a, well_formed (from r n) g, refuted (not_differs (from r n) (stepped_at r n)) h)
      go false false false f g h later = later (well_formed (from r n) g) (agree (from r n) (stepped_at r n) h)

  holds_true : Says r (replay r)
  unfolding replay item_at state_before
  holds_true = go (eqb (load_front r).number 0) refl
    where
      go : (t : Bool) → eqb (load_front r).number 0 ≡ t → Says r (cond t (at (length (items_in r)) 0) BadState)
      go true e = true_from (eqb-true (load_front r).number 0 e) (length (items_in r)) 0 (λ k h. absurd (omega arith)) (omega arith)
      go false e = eqb-false (load_front r).number 0 e

pub reports : Reports
reports r x = (λ e. subst (Says r) e (holds_true r), given r x)
