-- What the parts of a step compute is what the machine defines.
-- Assumes nothing.
use Rattle.std.specs.Prelude.{Ok, Option, Some, None}
use Rattle.std.proofs.Common.{◌≡◌, ℕ, ◌/◌, ◌%◌, ◌^◌, ◌<◌, Bool, true, false, cond, not, ◌&&◌, ltb, List, [], ◌∷◌, length, get_or, set, sym, refl, ap, ◌∙◌, true≢false, arith, ltb-false}
use mathlib.Core.Bool.{false≢true}
use native.Mathlib.Nat.{zero-div}
use lib.Seq.{paste}
use Rattle.evex.specs.declared.Operation.{Operation}
use Rattle.evex.specs.declared.Operation.TheVariants.{Compare}
use Rattle.evex.specs.declared.Destination.{Destination}
use Rattle.evex.specs.declared.Destination.TheVariants.{Vector, Mask}
use Rattle.evex.specs.declared.Instruction.{Instruction}
use Rattle.evex.specs.Decode.{decoded}
use Rattle.evex.proofs.Bounds.{Bounds}
use Rattle.lists.specs.Lists.{or_all, binary}
use Rattle.lists.proofs.Tables.{table_equal, get_or-table}
use Rattle.machine.specs.declared.Located.{Located}
use Rattle.machine.specs.declared.Located.TheVariants as place
use Rattle.machine.specs.declared.Environment.{Environment}
use Rattle.machine.specs.declared.Answer.{Answer}
use Rattle.machine.specs.State.{State, Stepped, register_at, state_of, stepped_of}
use Rattle.machine.specs.Memory.{is_on, on, next_pointer, located, outside, second_at, needs_outside}
use Rattle.machine.specs.Lanes.{Sources, environment_of, register_halves, destination_halves, first_halves}
use Rattle.machine.specs.Lanes.{second_halves, gathered, lane_of, results, raised, raises_unmasked, control_after, Fill, computed}
use Rattle.machine.specs.Lanes.{copied, zeroed, upper_from, fill, filled, new_register, vectors_with, vectors_after, masks_after}
use Rattle.machine.specs.Step.{refused, stopped, completed, step}
use Rattle.machine.proofs.Ends.{refuses_memory, stops, completes}
use Rattle.machine.proofs.OffLanes.{above_off}
use Rattle.machine.proofs.Masks.{lane_digit}
use Rattle.lanes.specs.declared.Results.{Results}
use Rattle.sources.specs.Work.{every_lane, second_gathered}
use Rattle.lanes.specs.Work.{results_by, results_where}
use Rattle.lanes.proofs.AtOnce.{results_alike}
use Rattle.store.specs.Work.{kept_by, kept_or, scalar_or, stored_by, halves_of, vectors_stored}
use Rattle.store.specs.Work.{lowest_bits, masks_stored}
use Rattle.step.specs.Work.{stepped, finished, executed}
use Rattle.store.proofs.Upper.{lane_half, one_lane, first_alone}

-- ---- sources: what a lane that is off has does not count

module _ (p : ℕ → Bool) where
  abbrev AgreeOn : List ℕ → List ℕ → Type 0
  AgreeOn l m = (j : ℕ) → j < 32 → p j ≡ true → get_or l j 0 ≡ get_or m j 0

  register_agrees : (vectors : List ℕ) (n : ℕ) → AgreeOn (register_halves every_lane vectors n) (register_halves p vectors n)
  unfolding register_halves
  register_agrees vectors n j h t = get_or-table 32 _ j 0 h ∙ sym (get_or-table 32 _ j 0 h ∙ rw t)

  destination_agrees : (vectors : List ℕ) (t : Bool) (x : Destination)
      → AgreeOn (destination_halves every_lane vectors t x) (destination_halves p vectors t x)
  destination_agrees vectors true (Vector n) = register_agrees vectors n
  destination_agrees vectors false (Vector n) = λ j h t. refl
  destination_agrees vectors t (Mask n) = λ j h t. refl

  first_agrees : (vectors : List ℕ) (x : Option ℕ) → AgreeOn (first_halves every_lane vectors x) (first_halves p vectors x)
  first_agrees vectors None = λ j h t. refl
  first_agrees vectors (Some n) = register_agrees vectors n

  second_agrees : (vectors memory : List ℕ) (x : Located) → AgreeOn (second_gathered p vectors memory x) (second_halves p vectors memory x)
  second_agrees vectors memory (place.Register n) = register_agrees vectors n
  second_agrees vectors memory (place.Words at broadcast) = λ j h t. refl

  module _ (op : Operation) (e : Environment) (g h : Sources) (d : AgreeOn g.destination h.destination)
      (f : AgreeOn g.first h.first) (x : AgreeOn g.second h.second) where
    results_equal : results_where p op e g ≡ results_where p op e h
    results_equal = results_alike p (λ j k t. rw (d j k t, f j k t, x j k t))

-- ---- lanes, and the destination: a result is 0 where its lane is off

module _ (s : State) (i : Instruction) (g : Sources) where
  abbrev joined_of : ℕ
  joined_of = or_all (results s i g)

  abbrev results_of : Results
  results_of = record { halves = results s i g; joined = joined_of; flags = raised s i g }

  results_are : results_where (on s i) i.operation (environment_of i s.control) g ≡ results_of
  unfolding results_by results raised
  results_are = refl

  off : (j : ℕ) → j < 32 → on s i j ≡ false → get_or (results s i g) j 0 ≡ 0
  unfolding results
  off j h e = get_or-table 32 _ j 0 h ∙ rw e

  abbrev byte_by : ℕ → Fill → ℕ
  byte_by q f = filled s.vectors (results s i g) q f

  -- ---- a vector register n

  module _ (n : ℕ) where
    -- by whether the lane is on, holds an element, and is zeroed where it is off
    element_by : (q : ℕ) (t u z : Bool) → (t ≡ false → get_or (results s i g) (q / 2) 0 ≡ 0)
        → byte_by q (cond (not t && (u && not z)) (copied n) computed)
        ≡ byte_by q (cond t computed (cond u (cond z zeroed (copied n)) zeroed))
    element_by q true u z e = refl
    element_by q false true true e = rw (e refl, zero-div (256 ^ (q % 2)))
    element_by q false true false e = refl
    element_by q false false z e = rw (e refl, zero-div (256 ^ (q % 2)))

    -- and by whether the instruction is scalar, the lane its first, and one of eight
    lane_by : (q : ℕ) (scalar first eight t u z : Bool) → (t ≡ false → get_or (results s i g) (q / 2) 0 ≡ 0)
        → (u ≡ false → t ≡ false) → (scalar ≡ true → first ≡ u)
        → byte_by q
        (cond scalar (cond first (cond (not t && (u && not z)) (copied n) computed) (cond eight (copied (upper_from i n)) zeroed))
        (cond (not t && (u && not z)) (copied n) computed))
        ≡ byte_by q (cond t computed (cond u (cond z zeroed (copied n)) (cond (scalar && eight) (copied (upper_from i n)) zeroed)))
    lane_by q false first eight t u z e below same = element_by q t u z e
    lane_by q true true eight t true z e below same = element_by q t true z e
    lane_by q true false eight false false z e below same = refl
    lane_by q true false eight true false z e below same = absurd (true≢false (below refl))
    lane_by q true true eight t false z e below same = absurd (true≢false (same refl))
    lane_by q true false eight t true z e below same = absurd (false≢true (same refl))

    all_stored : (i.shape.scalar ≡ true → i.elements ≡ 1)
        → vectors_with (stored_by (on s i) i n) s.vectors (results s i g) n ≡ vectors_with (fill s i n) s.vectors (results s i g) n
    unfolding vectors_with new_register fill
    all_stored one =
        ap (λ (bytes : List ℕ). paste s.vectors (register_at n) bytes 64)
        (table_equal 64
        (λ q h.
        lane_by q i.shape.scalar (ltb (q / 2) 1) (ltb (q / 2) 8) (on s i (q / 2)) (ltb (q / 2) i.elements) i.zeroing
        (off (q / 2) (omega arith)) (λ e. above_off s i (q / 2) (ltb-false _ _ e)) (λ e. ap (λ (n : ℕ). ltb (q / 2) n) (sym (one e)))))

    -- one half is all that is joined
    joined_is : i.elements ≡ 1 → joined_of ≡ get_or (results s i g) 0 0
    unfolding results
    joined_is one =
        sym (one_lane (on s i) (λ j. (lane_of s i g j).value) (λ j h. above_off s i j (rw one h)))
        ∙ sym (lane_half (on s i) (λ j. (lane_of s i g j).value))

    -- so that it counts for them
    counts : (scalar : Bool) (kept : ℕ → Bool) (m : ℕ) → (scalar ≡ true → joined_of ≡ get_or (results s i g) 0 0)
        → vectors_with (λ j. cond scalar (scalar_or kept m n j) (kept_or kept n j)) s.vectors
        (cond scalar (joined_of ∷ []) (results s i g)) n
        ≡ vectors_with (λ j. cond scalar (scalar_or kept m n j) (kept_or kept n j)) s.vectors (results s i g) n
    counts true kept m e = rw (e refl) (first_alone kept (results s i g) m n s.vectors)
    counts false kept m e = refl

    vector_stored : (i.shape.scalar ≡ true → i.elements ≡ 1)
        → vectors_with (stored_by (on s i) i n) s.vectors (halves_of i results_of) n ≡ vectors_with (fill s i n) s.vectors (results s i g) n
    vector_stored one = counts i.shape.scalar (kept_by (on s i) i) (upper_from i n) (λ e. joined_is (one e)) ∙ all_stored one

  -- ---- a mask: what a comparison gives are its digits

  mask_is : i.operation ≡ Compare → lowest_bits (results s i g) ≡ binary (results s i g)
  unfolding results
  mask_is c =
      let lane : ℕ → ℕ = λ j. cond (on s i j) (lane_of s i g j).value 0 in
      ap binary (table_equal 32 (λ j h.
      let own : lane j % 2 ≡ lane j = omega (arith, lane_digit s i g c j) in
      rw (get_or-table 32 lane j 0 h) own))

  -- ---- either

  stored_is : (i.shape.scalar ≡ true → i.elements ≡ 1) → (x : Destination)
      → vectors_stored (on s i) i results_of s.vectors x ≡ vectors_after s i (results s i g) x
  unfolding vectors_after
  stored_is one (Vector n) = vector_stored n one
  stored_is one (Mask n) = refl

  masks_are : (x : Destination) → ((n : ℕ) → x ≡ Mask n → i.operation ≡ Compare)
      → masks_stored results_of s.masks x ≡ masks_after s.masks (results s i g) x
  unfolding masks_after
  masks_are (Vector n) c = refl
  masks_are (Mask n) c = ap (set s.masks n) (mask_is (c n refl))

-- ---- the whole, from what the parts give

module _ (memory : List ℕ) (s : State) (i : Instruction) (p : ℕ → Bool) (e : p ≡ is_on s.masks i.mask i.elements)
    (next : ℕ) (n : next ≡ next_pointer s i) (second : Located) (at : second ≡ located s.general next i.second) where
  lanes_are : p ≡ on s i
  unfolding on
  lanes_are = e

  second_is : second ≡ second_at s i
  second_is = rw n at at

  outside_is : outside p (length memory) second ≡ needs_outside s i (length memory)
  unfolding needs_outside
  outside_is = rw (lanes_are, second_is)

  -- what the code gathers
  abbrev sources_by : (ℕ → Bool) → Located → Sources
  sources_by p second =
      record {
        destination = destination_halves every_lane s.vectors i.shape.accumulates i.destination;
        first = first_halves every_lane s.vectors i.first;
        second = second_gathered p s.vectors memory second;
      }

  pub refuses : outside p (length memory) second ≡ true → refused 7 s ≡ executed memory s i
  unfolding executed
  refuses t = rw (← outside_is, t)

  module _ (inside : outside p (length memory) second ≡ false) (r : Results)
      (by : r ≡ results_where p i.operation (environment_of i s.control) (sources_by p second)) where
    computed_is : r ≡ results_of s i (gathered memory s i)
    unfolding gathered
    computed_is =
        rw (by, second_is, lanes_are)
        (results_equal (on s i) i.operation (environment_of i s.control) (sources_by (on s i) (second_at s i)) (gathered memory s i)
        (destination_agrees (on s i) s.vectors i.shape.accumulates i.destination) (first_agrees (on s i) s.vectors i.first)
        (second_agrees (on s i) s.vectors memory (second_at s i))
        ∙ results_are s i (gathered memory s i))

    pub finishes : Bounds i → {o : Stepped} → o ≡ finished p i r next s → o ≡ executed memory s i
    unfolding executed finished raises_unmasked stopped completed control_after
    finishes b left =
        let g = gathered memory s i in
        rw (
          left,
          ← outside_is,
          inside,
          computed_is,
          lanes_are,
          stored_is s i g b.one i.destination,
          masks_are s i g i.destination b.compared,
          n,
        )
        refl

-- ---- a step of a decoded instruction

module _ (memory : List ℕ) (s : State) (code : List ℕ) (size : length s.vectors ≡ 2048) (control : s.control < 2 ^ 16)
    {i : Instruction} (fields : decoded code ≡ Ok i) where
  pub executes : executed memory s i ≡ step memory s code
  unfolding executed
  executes = go (needs_outside s i (length memory)) refl (raises_unmasked s i (gathered memory s i)) refl
    where
      go : (t : Bool) → needs_outside s i (length memory) ≡ t → (u : Bool) → raises_unmasked s i (gathered memory s i) ≡ u
          → cond t (refused 7 s) (cond u (stopped memory s i) (completed memory s i)) ≡ step memory s code
      go true o u x = sym (refuses_memory memory s code size control fields o)
      go false o true x = sym (stops memory s code size control fields o x)
      go false o false x = sym (completes memory s code size control fields o x)

-- ---- a step of the parts, where those of a state begin and end as they do

pub by_parts : {s t : State} {a : Answer} (memory code : List ℕ) {v w m n g h : List ℕ} {c d p q : ℕ}
    → stepped a t ≡ step memory s code
    → (v ≡ s.vectors) × (m ≡ s.masks) × (g ≡ s.general) × (c ≡ s.control) × (p ≡ s.pointer)
    → (w ≡ t.vectors) × (n ≡ t.masks) × (h ≡ t.general) × (d ≡ t.control) × (q ≡ t.pointer)
    → stepped_of a w n h d q ≡ step memory (state_of v m g c p) code
by_parts memory code e starts ends =
    rw (starts.0, starts.1, starts.2, starts.3, starts.4, ends.0, ends.1, ends.2, ends.3, ends.4) e
