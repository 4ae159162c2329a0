-- A search of the list of instructions: which rows it may pass; and what no row is that it finds.
-- Assumes nothing.
use mathlib.Core.Path.{◌≡◌, refl}
use mathlib.Core.Bool.{Bool, true, false, ◌&&◌, and-false, true≢false}
use mathlib.Core.List.{List, [], ◌∷◌}
use Prim.Native.Nat.{ℕ, zero, suc}
use lib.Dec.{eqb}
use lib.ListN.{take, drop}
use Rattle.std.specs.Prelude.{Option, Some, None}
use Rattle.lists.specs.Lists.{some}
use Rattle.lists.proofs.Tests.{either, neither}
use Rattle.evex.specs.declared.list.Row.{Row}
use Rattle.evex.specs.List.{is_for, find}

-- rows that are passed, since none of them has the prefix and the opcode
pub skips : (l : List Row) (n prefix map w opcode : ℕ) → some (λ row. eqb row.0 prefix && eqb row.3 opcode) (take n l) ≡ false
    → find (drop n l) prefix map w opcode ≡ find l prefix map w opcode
skips l zero prefix map w opcode e = refl
skips [] (suc n) prefix map w opcode e = refl
skips (r ∷ l) (suc n) prefix map w opcode e =
    let both = neither (eqb r.0 prefix && eqb r.3 opcode) (some (λ row. eqb row.0 prefix && eqb row.3 opcode) (take n l)) e in
    rw (not_it (eqb r.0 prefix) (eqb r.1 map) (eqb r.2 w) (eqb r.3 opcode) both.0) (skips l n prefix map w opcode both.1)
  where
    not_it : (a b c d : Bool) → (a && d) ≡ false → (a && b && c && d) ≡ false
    not_it true b c true e = absurd (true≢false e)
    not_it true true true false e = refl
    not_it true true false false e = refl
    not_it true false c false e = refl
    not_it false b c d e = refl

-- no row has the opcode, so none has it with a prefix
pub without : (l : List Row) (prefix opcode : ℕ) → some (λ row. eqb row.3 opcode) l ≡ false
    → some (λ row. eqb row.0 prefix && eqb row.3 opcode) l ≡ false
without [] prefix opcode e = refl
without (r ∷ l) prefix opcode e =
    let both = neither (eqb r.3 opcode) (some (λ row. eqb row.3 opcode) l) e in
    rw (both.0, and-false (eqb r.0 prefix)) (without l prefix opcode both.1)

-- what passes a test that no row passes: nothing that is found
abbrev pub passes_test : (Row → Bool) → Option Row → Bool
passes_test p (Some row) = p row
passes_test p None = false

pub none_found : (p : Row → Bool) (l : List Row) (prefix map w opcode : ℕ) → some p l ≡ false
    → passes_test p (find l prefix map w opcode) ≡ false
none_found p [] prefix map w opcode e = refl
none_found p (r ∷ l) prefix map w opcode e =
    let both = neither (p r) (some p l) e in
    either (λ x. passes_test p x ≡ false) (is_for r prefix map w opcode) both.0 (none_found p l prefix map w opcode both.1)
