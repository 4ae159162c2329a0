-- All lanes at once: what is computed of them is what each by itself gives, where it is on.
-- Assumes nothing.
use Prim.Native.Nat.{ℕ, ◌-◌, ◌^◌, ◌<◌}
use mathlib.Core.Path.{◌≡◌, refl, sym, ap, ◌∙◌}
use mathlib.Core.Bool.{Bool, true, false, cond}
use mathlib.Core.List.{List}
use Rattle.std.specs.Prelude.{Some}
use borrow.Author.Tests.{lt-ltb}
use lib.ListN.{get_or}
use Rattle.half.specs.Comparison.{predicate_of}
use Rattle.half.specs.declared.comparison.Predicate.{Predicate}
use Rattle.half.proofs.Predicates.{minimum_is, maximum_is, compare_is}
use Rattle.lists.specs.Lists.{or_all}
use Rattle.lists.proofs.Tests.{either_equal}
use Rattle.lists.proofs.Tables.{table_equal, get_or-table}
use Rattle.evex.specs.Bits.{is_set}
use Rattle.evex.specs.declared.Operation.{Operation}
use Rattle.evex.specs.declared.Operation.TheVariants.{Minimum, Maximum, Compare}
use Rattle.evex.proofs.Bitwise.{ones_bit}
use Rattle.machine.specs.Lanes.{lanes_on, rounded, operated}
use Rattle.machine.specs.declared.Environment.{Environment}
use Rattle.machine.specs.declared.Element.{Element}
use Rattle.sources.specs.Work.{every_lane}
use Rattle.lanes.specs.declared.Results.{Results}
use Rattle.lanes.specs.declared.Lanes.{Lanes}
use Rattle.lanes.specs.declared.Picking.{Picking}
use Rattle.lanes.specs.Work.{lanes_of, results_by, picked_by, picked_at, Serves}

-- ---- results are alike where each lane leaves the same

results_same : (on other : ℕ → Bool) (lane lane_too : ℕ → Element)
    → ((of : Element → ℕ) (j : ℕ) → j < 32 → cond (on j) (of (lane j)) 0 ≡ cond (other j) (of (lane_too j)) 0)
    → results_by on lane ≡ results_by other lane_too
unfolding results_by
results_same on other lane lane_too same = λ i.
    record {
      halves = table_equal 32 (same (λ r. r.value)) i;
      joined = ap or_all (table_equal 32 (same (λ r. r.value))) i;
      flags = ap or_all (table_equal 32 (same (λ r. r.flags))) i;
    }

-- where the lanes that are on are alike
pub results_alike : (on : ℕ → Bool) {lane other : ℕ → Element} → ((j : ℕ) → j < 32 → on j ≡ true → lane j ≡ other j)
    → results_by on lane ≡ results_by on other
results_alike on {lane} {other} same = results_same on on lane other (λ of j h. either_equal 0 (on j) (λ t. ap of (same j h t)))

-- every lane, where all are on
pub all_on : {on : ℕ} → on ≡ 2 ^ 32 - 1 → (lane : ℕ → Element) → results_by every_lane lane ≡ results_by (is_set on) lane
all_on {on} e lane = results_same every_lane (is_set on) lane lane (λ of j h. sym (rw (e, ones_bit 32 j, lt-ltb j 32 h)))

-- ---- zeros where a lane is off, which raise nothing

zeros_raise_nothing : (p : Picking) → (picked_by p 0 0).flags ≡ 0
zeros_raise_nothing p = refl

module _ (on : ℕ → Bool) (p : Picking) (f x : List ℕ) where
  abbrev of : List ℕ → List ℕ
  of l = lanes_on on (λ j. get_or l j 0)

  at : (l : List ℕ) (j : ℕ) → j < 32 → get_or (of l) j 0 ≡ cond (on j) (get_or l j 0) 0
  at l j h = get_or-table 32 (λ j. cond (on j) (get_or l j 0) 0) j 0 h

  abbrev all : Results
  all = results_by every_lane (picked_at p (of f) (of x))

  half_at : (j : ℕ) → j < 32 → on j ≡ true → get_or all.halves j 0 ≡ (picked_at p f x j).value
  unfolding results_by
  half_at j h t = get_or-table 32 (λ j. (picked_at p (of f) (of x) j).value) j 0 h ∙ rw (at f j h, at x j h, t)

  flags_at : (j : ℕ) → j < 32 → (picked_at p (of f) (of x) j).flags ≡ cond (on j) (picked_at p f x j).flags 0
  flags_at j h = rw (at f j h, at x j h) (go (on j))
    where
      go : (t : Bool)
          → (picked_by p (cond t (get_or f j 0) 0) (cond t (get_or x j 0) 0)).flags ≡ cond t (picked_by p (get_or f j 0) (get_or x j 0)).flags 0
      go true = refl
      go false = zeros_raise_nothing p

  left : lanes_on on (λ j. get_or all.halves j 0) ≡ lanes_on on (λ j. (picked_at p f x j).value)
  left = table_equal 32 (λ j h. either_equal 0 (on j) (half_at j h))

  pub zeros_where_off : {r : Results} {l : Lanes} → r ≡ all → l ≡ lanes_of on (λ j. get_or r.halves j 0)
      → record { halves = l.halves; joined = l.joined; flags = r.flags } ≡ results_by on (picked_at p f x)
  unfolding results_by
  zeros_where_off {r} {l} e k =
      rw (k, e) (λ i. record { halves = left i; joined = ap or_all left i; flags = ap or_all (table_equal 32 flags_at) i })

-- ---- the three operations

module _ {op : Operation} (e : Environment) {p : Predicate} where
  pub minimum_serves : op ≡ Minimum → p ≡ predicate_of 1 → Serves op e (Some (record { predicate = p; compares = false }))
  unfolding operated
  minimum_serves o q d f x = rw (o, q) (ap rounded (sym (minimum_is f x)))

  pub maximum_serves : op ≡ Maximum → p ≡ predicate_of 14 → Serves op e (Some (record { predicate = p; compares = false }))
  unfolding operated
  maximum_serves o q d f x = rw (o, q) (ap rounded (sym (maximum_is f x)))

  pub compare_serves : op ≡ Compare → p ≡ predicate_of e.immediate → Serves op e (Some (record { predicate = p; compares = true }))
  unfolding operated
  compare_serves o q d f x = rw (o, q) (ap rounded (sym (compare_is f x e.immediate)))
