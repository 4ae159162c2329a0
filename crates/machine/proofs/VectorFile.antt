-- R5.9, R5.10: the statement of specs/VectorFile.antt. Outside the destination the file is as before; inside, a byte goes by what becomes
-- of its lane, and each case of that is one of the statement's.
-- Assumes nothing.
use Prim.Native.Nat.{ℕ, ◌+◌, ◌-◌, ◌/◌, ◌<◌, ◌≤◌}
use mathlib.Core.Path.{◌≡◌, refl, sym, ap, subst, ◌∙◌}
use mathlib.Core.Logic.{◌≢◌}
use mathlib.Core.Bool.{Bool, true, false, cond, ◌&&◌, and-false, not-eq-not}
use mathlib.Core.List.{List}
use native.Mathlib.Decide.{dec_lt}
use native.Mathlib.Omega.{arith}
use borrow.Author.Tests.{lt-ltb, le-ltb}
use lib.Dec.{ltb}
use lib.ListN.{length, get_or}
use lib.Seq.{length-paste}
use Rattle.std.specs.Prelude.{Option, Some}
use Rattle.lists.proofs.Tables.{get_or-table, paste_before, paste_inside, paste_after}
use Rattle.evex.specs.declared.Destination.TheVariants.{Vector}
use Rattle.evex.specs.declared.Instruction.{Instruction}
use Rattle.evex.proofs.Bounds.{DestinationIn, bounds}
use Rattle.machine.specs.State.{State, Stepped, register_at, byte_at, byte_of_half}
use Rattle.machine.specs.Memory.{on}
use Rattle.machine.specs.Lanes.{gathered, lane_of, results, Fill, computed, copied, zeroed, register_or, upper_from}
use Rattle.machine.specs.Lanes.{fill, filled, new_register, vectors_with, vectors_after}
use Rattle.machine.specs.Step.{completed}
use Rattle.machine.specs.TwoRuns.{IsDecoded, SwitchesOn}
use Rattle.machine.specs.VectorFile.{FileAfter, VectorFile}
use Rattle.machine.proofs.Ends.{decoded_size, step_done}
use Rattle.machine.proofs.TwoRuns.{new_length, new_byte}
use Rattle.machine.proofs.OffLanes.{above_off}

-- ---- what a test picks

below_eight : (scalar : Bool) (x : Fill) (j : ℕ) → scalar ≡ true → j < 8 → cond (scalar && ltb j 8) x zeroed ≡ x
below_eight scalar x j e h = rw (e, lt-ltb j 8 h)

from_eight : (scalar : Bool) (x : Fill) (j : ℕ) → 8 ≤ j → cond (scalar && ltb j 8) x zeroed ≡ zeroed
from_eight scalar x j h = rw (le-ltb j 8 h, and-false scalar)

own : (accumulates : Bool) (n m : ℕ) → accumulates ≡ true → cond accumulates n m ≡ n
own accumulates n m e = rw e

of_first : (accumulates : Bool) (n m : ℕ) (x : Option ℕ) → accumulates ≡ false → x ≡ Some m
    → cond accumulates n (register_or n x) ≡ m
of_first accumulates n m x e f = rw (e, f)

-- ---- a step that is done

module _ (memory : List ℕ) (s : State) (code : List ℕ) (i : Instruction) (is : IsDecoded s code i) (d : ℕ) (to : i.destination ≡ Vector d)
  where
    abbrev halves : List ℕ
    halves = results s i (gathered memory s i)

    abbrev after : List ℕ
    after = vectors_with (fill s i d) s.vectors halves d

    abbrev new : List ℕ
    new = new_register (fill s i d) s.vectors halves

    -- ---- the file around the destination

    fits : register_at d + 64 ≤ length s.vectors
    fits = let h : d < 32 = subst DestinationIn to (bounds code is.1).destination in omega (arith, decoded_size s code is.0)

    enough : 64 ≤ length new
    enough = omega (arith, new_length (fill s i d) s.vectors halves)

    same_size : length after ≡ length s.vectors
    unfolding vectors_with
    same_size = length-paste s.vectors (register_at d) new 64 fits enough

    outside : (n q : ℕ) → n ≢ d → q < 64 → byte_at after n q ≡ byte_at s.vectors n q
    unfolding vectors_with
    outside n q apart h =
        let at : ℕ = register_at d in
        elim (dec_lt n d) [
          | yes l ↦ paste_before s.vectors at new 64 fits enough 0 (register_at n + q) (omega arith)
          | no l ↦
              let behind : at + 64 ≤ register_at n + q = omega (arith, apart) in
              let e : at + 64 + (register_at n + q - (at + 64)) ≡ register_at n + q = omega arith in
              subst (λ (p : ℕ). get_or after p 0 ≡ get_or s.vectors p 0) e
              (paste_after s.vectors at new 64 fits enough 0 (register_at n + q - (at + 64)))
        ]

    -- ---- inside it

    abbrev byte_by : ℕ → Fill → ℕ
    byte_by q f = filled s.vectors halves q f

    inside : (q : ℕ) → q < 64 → {f : Fill} → fill s i d (q / 2) ≡ f → byte_at after d q ≡ byte_by q f
    unfolding vectors_with
    inside q h e =
        paste_inside s.vectors (register_at d) new 64 fits enough 0 q h
        ∙ new_byte (fill s i d) s.vectors halves q h
        ∙ ap (byte_by q) e

    result_on : (j : ℕ) → j < 32 → SwitchesOn s i j → get_or halves j 0 ≡ (lane_of s i (gathered memory s i) j).value
    unfolding results
    result_on j h t = get_or-table 32 _ j 0 h ∙ rw t

    zeroed_or : (q : ℕ) (z : Bool) → byte_by q (cond z zeroed (copied d)) ≡ cond z 0 (byte_at s.vectors d q)
    zeroed_or q true = refl
    zeroed_or q false = refl

    -- a lane above the elements
    fill_above : (j : ℕ) → i.elements ≤ j → fill s i d j ≡ cond (i.shape.scalar && ltb j 8) (copied (upper_from i d)) zeroed
    unfolding fill
    fill_above j h = rw (above_off s i j h, le-ltb j i.elements h)

    upper : i.shape.scalar ≡ true → (q : ℕ) → 2 ≤ q → q < 16 → byte_at after d q ≡ byte_at s.vectors (upper_from i d) q
    upper one q l h =
        let lane : i.elements ≤ q / 2 = omega (arith, (bounds code is.1).one one) in
        inside q (omega arith) (fill_above (q / 2) lane ∙ below_eight i.shape.scalar _ (q / 2) one (omega arith))

    -- ---- all together

    file_after : FileAfter memory s i d after
    unfolding fill
    file_after =
        record {
          size = same_size;
          others = outside;
          on = λ q h t. inside q h {f = computed} (rw t) ∙ ap (λ (n : ℕ). byte_of_half n q) (result_on (q / 2) (omega arith) t);
          off = λ q h l n.
              inside q h {f = cond i.zeroing zeroed (copied d)}
              (rw ((not-eq-not {a = on s i (q / 2)} {b = false}).0 n, lt-ltb (q / 2) i.elements l))
              ∙ zeroed_or q i.zeroing;
          taken = λ one plain n first q l h.
              upper one q l h ∙ ap (λ (m : ℕ). byte_at s.vectors m q) (of_first i.shape.accumulates d n _ plain first);
          stays = λ one operand q l h.
              upper one q l h ∙ ap (λ (m : ℕ). byte_at s.vectors m q) (own i.shape.accumulates d _ operand);
          above = λ q h l m. inside q h (fill_above (q / 2) l ∙ from_eight i.shape.scalar _ (q / 2) (omega arith));
        }

pub vector_file : VectorFile
unfolding completed vectors_after
vector_file memory s code i is done d to =
    let left : vectors_after s i (results s i (gathered memory s i)) i.destination ≡ after memory s code i is d to =
    ap (vectors_after s i (results s i (gathered memory s i))) to in
    subst (λ (o : Stepped). FileAfter memory s i d o.state.vectors) (sym (step_done memory s code is done))
    (subst (FileAfter memory s i d) (sym left) (file_after memory s code i is d to))
