-- The tests of specs/ and what they say: an item is bad exactly if it is not well formed, and a step differs from its item exactly if it does
-- not agree.
-- Assumes nothing.
use Prim.Native.Nat.{ℕ}
use mathlib.Core.Path.{◌≡◌, refl, ap₂}
use mathlib.Core.Bool.{Bool, true, false, ◌&&◌, false≢true}
use mathlib.Core.List.{List, [], ◌∷◌}
use borrow.Author.Tests.{ltb-false, le-ltb, eqb-true, eq-eqb, not-false}
use lib.Dec.{eqb}
use Rattle.lists.proofs.Tests.{neither, equal, same}
use Rattle.machine.specs.State.{Stepped}
use Rattle.recording.specs.Item.{expected_destination, is_bad}
use Rattle.recording.specs.Replay.{same_bytes, differs}
use Rattle.recording.specs.Reports.{WellFormed, Agrees}

-- ---- bytes

pub same_equal : (a b : List ℕ) → same_bytes a b ≡ true → a ≡ b
same_equal [] [] e = refl
same_equal [] (y ∷ b) e = absurd (false≢true e)
same_equal (x ∷ a) [] e = absurd (false≢true e)
same_equal (x ∷ a) (y ∷ b) e = go (eqb x y) refl (same_equal a b) e
  where
    go : (t : Bool) → eqb x y ≡ t → (same_bytes a b ≡ true → a ≡ b) → (t && same_bytes a b) ≡ true → x ∷ a ≡ y ∷ b
    go true f rest e = ap₂ ◌∷◌ (eqb-true x y f) (rest e)
    go false f rest e = absurd (false≢true e)

pub equal_same : (a : List ℕ) → same_bytes a a ≡ true
equal_same [] = refl
equal_same (x ∷ a) = rw (eq-eqb x x refl) (equal_same a)

-- ---- items

module _ (bytes : List ℕ) where
  pub well_formed : is_bad bytes ≡ false → WellFormed bytes
  unfolding is_bad
  well_formed e =
      let four : _ = neither _ _ e in
      let three : _ = neither _ _ four.0 in
      let two : _ = neither _ _ three.0 in
      let one : _ = neither _ _ two.0 in
      record {
        whole = ltb-false _ _ one.0;
        field = equal _ _ one.1;
        version = equal _ _ two.1;
        code = ltb-false _ _ three.1;
        memory = ltb-false _ _ four.1;
      }

  pub not_bad : WellFormed bytes → is_bad bytes ≡ false
  unfolding is_bad
  not_bad w =
      rw (le-ltb _ _ w.whole, same _ _ w.field, same _ _ w.version, le-ltb _ _ w.code, le-ltb _ _ w.memory)

  module _ (o : Stepped) where
    pub agree : differs o bytes ≡ false → Agrees o bytes
    unfolding differs
    agree e =
        let two : _ = neither _ _ e in
        let one : _ = neither _ _ two.0 in
        record {
          number = equal _ _ one.0;
          control = equal _ _ one.1;
          destination = same_equal _ _ (not-false _ two.1);
        }

    pub not_differs : Agrees o bytes → differs o bytes ≡ false
    unfolding differs
    not_differs a =
        rw (same _ _ a.number, same _ _ a.control, a.destination, equal_same (expected_destination bytes))
