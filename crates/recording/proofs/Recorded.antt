-- The statement of specs/Recorded.antt: each part of an item is found where it was put, a step keeps what an item needs of a state, and so
-- the replay goes on behind each item.
-- Assumes nothing.
use Prim.Native.Nat.{ℕ, zero, suc, ◌+◌, ◌^◌, ◌≤◌, ◌<◌}
use mathlib.Core.List.{List, [], ◌∷◌, ◌++◌, append_assoc}
use mathlib.Core.Path.{◌≡◌, refl, sym, ap, ◌∙◌}
use native.Mathlib.Omega.{arith}
use borrow.Author.Tests.{leb-false}
use lib.Bits.{or_lt}
use lib.ListN.{length, take, drop, length-append, length-drop}
use lib.Seq.{take_at, drop_at, drop-drop, length-paste}
use Rattle.std.specs.Prelude.{Result, Ok, Err}
use Rattle.lists.specs.Lists.{table}
use Rattle.lists.proofs.Tests.{either, equal}
use Rattle.evex.specs.Decode.{decoded}
use Rattle.evex.specs.declared.Destination.{Destination}
use Rattle.evex.specs.declared.Destination.TheVariants.{Vector, Mask}
use Rattle.evex.specs.declared.Rounding.{Rounding}
use Rattle.evex.specs.declared.Rounding.TheVariants.{Control, Embedded, Suppressed}
use Rattle.evex.specs.declared.Instruction.{Instruction}
use Rattle.evex.specs.declared.Refusal.{Refusal}
use Rattle.evex.proofs.Bounds.{DestinationIn, bounds}
use Rattle.machine.specs.State.{State, Stepped, register_at}
use Rattle.machine.specs.Lanes as lanes
use Rattle.machine.specs.Lanes.{gathered, control_after, results, fill, new_register, vectors_with, vectors_after}
use Rattle.machine.specs.Step.{of_fields, wrong_vector_file, high_control_bit, stopped, completed, step}
use Rattle.machine.proofs.Ends.{of_step}
use Rattle.machine.proofs.Flags.{added_below}
use Rattle.machine.proofs.TwoRuns.{new_length}
use Rattle.forms.specs.Numbers.{big, value_from}
use Rattle.forms.specs.File.{zeros}
use Rattle.forms.specs.Form.{saved_form}
use Rattle.forms.specs.Saved.{size_at}
use Rattle.forms.proofs.Numbers.{length-big, value_big}
use Rattle.forms.proofs.Slices.{length_part}
use Rattle.forms.proofs.Sizes.{forms_in_front}
use Rattle.forms.proofs.Front.{front_loads}
use Rattle.recording.specs.Item.{item_version, expected_number, code_count, code_in, memory_count, memory_in, expected_control}
use Rattle.recording.specs.Item.{expected_destination, item_size}
use Rattle.recording.specs.Replay.{step_of, held, has_destination, shown, replay_from, items_in, replay}
use Rattle.recording.specs.Reports.{WellFormed, Agrees}
use Rattle.recording.specs.Recorded.{item_of, items_of, Short, Recorded}
use Rattle.recording.specs.declared.Report.TheVariants.{Same}
use Rattle.recording.proofs.Tests.{not_bad, not_differs}
use Rattle.recording.proofs.Turns.{turn_ends, turn_on}

-- ---- one part behind the other

-- at a place of the bytes stands x, and behind it y
record Stands (bytes : List ℕ) (at : ℕ) (x y : List ℕ) : Type 0 where
  is : drop at bytes ≡ x ++ y

module _ {bytes : List ℕ} {at : ℕ} {x y : List ℕ} (n : ℕ) (h : Stands bytes at x y) (long : length x ≡ n) where
  part : take n (drop at bytes) ≡ x
  part = ap (take n) h.is ∙ take_at x y n long

  behind : (next : ℕ) → at + n ≡ next → drop next bytes ≡ y
  behind next e = rw (← e) (sym (drop-drop n at bytes) ∙ ap (drop n) h.is ∙ drop_at x y n long)

nested : (a b c d e f : List ℕ) → a ++ b ++ c ++ d ++ e ++ f ≡ a ++ (b ++ (c ++ (d ++ (e ++ f))))
nested a b c d e f =
    append_assoc (a ++ b ++ c ++ d) e f
    ∙ append_assoc (a ++ b ++ c) d (e ++ f)
    ∙ append_assoc (a ++ b) c (d ++ (e ++ f))
    ∙ append_assoc a b (c ++ (d ++ (e ++ f)))

-- ---- what an item needs of a state, and a step keeps

record Right (s : State) : Type 0 where
  file : length s.vectors ≡ 2048
  control : s.control < 2 ^ 16

-- flags are bits of the word
control_kept : (r : Rounding) (control flags : ℕ) → control < 2 ^ 16 → flags < 64 → lanes.recorded r control flags < 2 ^ 16
control_kept Control control flags h k = or_lt 16 control flags h (omega arith)
control_kept (Embedded mode) control flags h k = h
control_kept Suppressed control flags h k = h

file_kept : (s : State) (i : Instruction) (halves : List ℕ) (x : Destination) → length s.vectors ≡ 2048 → DestinationIn x
    → length (vectors_after s i halves x) ≡ 2048
unfolding vectors_after vectors_with
file_kept s i halves (Vector d) long h =
    length-paste s.vectors (register_at d) (new_register (fill s i d) s.vectors halves) 64 (omega (arith, long))
    (omega (arith, new_length (fill s i d) s.vectors halves))
    ∙ long
file_kept s i halves (Mask d) long h = long

kept : (memory : List ℕ) (s : State) (code : List ℕ) → Right s → Right (step memory s code).state
unfolding stopped completed control_after
kept memory s code r =
    of_step memory s code (λ (o : Stepped). Right o.state) (λ n h. r) r
    (λ i d.
    let low : control_after s i (gathered memory s i) < 2 ^ 16 =
    control_kept i.rounding s.control _ r.control (added_below s i (gathered memory s i)) in (
      record { file = r.file; control = low },
      record {
        file = file_kept s i (results s i (gathered memory s i)) i.destination r.file (bounds code d.1).destination;
        control = low;
      },
    ))

-- a destination has its 64 bytes
held_long : (vectors masks : List ℕ) (x : Destination) → length vectors ≡ 2048 → DestinationIn x → length (held vectors masks x) ≡ 64
unfolding big table
held_long vectors masks (Vector n) long h = length_part (register_at n) 64 vectors (omega (arith, long))
held_long vectors masks (Mask n) long h = refl

shown_long : (code : List ℕ) (n : ℕ) (vectors masks : List ℕ) → length vectors ≡ 2048 → length (shown code n vectors masks) ≡ 64
unfolding shown table
shown_long code n vectors masks long =
    either (λ (l : List ℕ). length l ≡ 64) (has_destination n) (go (decoded code) refl) refl
  where
    go : (d : Result Instruction Refusal) → decoded code ≡ d
        → length (of_fields d (zeros 64) (λ (i : Instruction). held vectors masks i.destination)) ≡ 64
    go (Ok i) e = held_long vectors masks i.destination long (bounds code e).destination
    go (Err r) e = refl

-- ---- an item in front of others

module _ (s : State) (r : Right s) (code memory rest : List ℕ) (short : length code ≤ 15) (small : length memory ≤ 4096) where
  abbrev o : Stepped
  o = step memory s code

  abbrev bytes : List ℕ
  bytes = item_of code memory o ++ rest

  abbrev control : List ℕ
  control = big 4 o.state.control

  abbrev destination : List ℕ
  destination = shown code o.answer.number o.state.vectors o.state.masks

  low : o.state.control < 2 ^ 16
  low = (kept memory s code r).control

  wide : length destination ≡ 64
  wide = shown_long code o.answer.number o.state.vectors o.state.masks (kept memory s code r).file

  -- where each part stands
  code_there : Stands bytes 7 code (big 2 (length memory) ++ (memory ++ (control ++ (destination ++ rest))))
  unfolding item_of big
  code_there = record { is = nested code (big 2 (length memory)) memory control destination rest }

  count_there : Stands bytes (7 + length code) (big 2 (length memory)) (memory ++ (control ++ (destination ++ rest)))
  count_there = record { is = behind (length code) code_there refl (7 + length code) refl }

  memory_there : Stands bytes (9 + length code) memory (control ++ (destination ++ rest))
  memory_there = record { is = behind 2 count_there (length-big 2 (length memory)) (9 + length code) (omega arith) }

  control_there : Stands bytes (9 + length code + length memory) control (destination ++ rest)
  control_there = record { is = behind (length memory) memory_there refl (9 + length code + length memory) refl }

  destination_there : Stands bytes (9 + length code + length memory + 4) destination rest
  destination_there = record { is = behind 4 control_there (length-big 4 o.state.control) (9 + length code + length memory + 4) refl }

  -- and what is read there
  head_read : (item_version bytes ≡ 1) × (expected_number bytes ≡ o.answer.number) × (code_count bytes ≡ length code)
  unfolding item_of big
  head_read = (refl, refl, refl)

  code_count_lem : code_count bytes ≡ length code
  code_count_lem = head_read.2

  code_read : code_in bytes ≡ code
  code_read = rw code_count_lem (part (length code) code_there refl)

  memory_count_lem : memory_count bytes ≡ length memory
  unfolding memory_count
  memory_count_lem =
      rw code_count_lem (ap (value_from 0) (part 2 count_there (length-big 2 (length memory))) ∙ value_big 2 (length memory) (omega arith))

  memory_read : memory_in bytes ≡ memory
  memory_read = rw (code_count_lem, memory_count_lem) (part (length memory) memory_there refl)

  length_read : size_at bytes ≡ 77 + length code + length memory
  unfolding size_at item_of big
  length_read =
      let h : value_from 0 (big 4 (73 + length code + length memory)) ≡ 73 + length code + length memory =
      value_big 4 (73 + length code + length memory) (omega arith) in
      omega (arith, h)

  control_read : expected_control bytes ≡ o.state.control
  unfolding expected_control
  control_read =
      rw (code_count_lem, memory_count_lem)
      (ap (value_from 0) (part 4 control_there (length-big 4 o.state.control)) ∙ value_big 4 o.state.control (omega (arith, low)))

  destination_read : expected_destination bytes ≡ destination
  unfolding expected_destination
  destination_read = rw (code_count_lem, memory_count_lem) (part 64 destination_there wide)

  size : item_size bytes ≡ 77 + length code + length memory
  size = rw (code_count_lem, memory_count_lem) (omega arith)

  rest_behind : drop (item_size bytes) bytes ≡ rest
  rest_behind = behind 64 destination_there wide (item_size bytes) (rw (code_count_lem, memory_count_lem))

  total : length bytes ≡ 77 + length code + length memory + length rest
  total =
      let at : ℕ = 9 + length code + length memory + 4 in
      omega (arith, length-drop at bytes, ap length destination_there.is, length-append destination rest, wide)

  good : WellFormed bytes
  good =
      record {
        whole = omega (arith, size, total);
        field = length_read ∙ sym size;
        version = head_read.0;
        code = omega (arith, code_count_lem);
        memory = omega (arith, memory_count_lem);
      }

  agrees : Agrees o bytes
  agrees =
      record {
        number = sym head_read.1;
        control = sym control_read;
        destination = rw code_read (sym destination_read);
      }

  -- so the replay goes on behind it, with enough turns for what is left
  turn : (m k : ℕ) → length bytes ≤ m
      → (n : ℕ) × (length rest ≤ n) × (replay_from m s bytes k ≡ replay_from n o.state rest (k + 1))
  turn zero k h = absurd (omega (arith, h, total))
  turn (suc m) k h =
      let same : step_of s bytes ≡ o = rw (code_read, memory_read) in (
        m,
        omega (arith, h, total),
        turn_on s bytes k m (not_bad bytes good) (rw same (not_differs bytes o agrees)) ∙ rw (same, rest_behind),
      )

-- ---- all items

goes : (steps : List (List ℕ × List ℕ)) (s : State) → Right s → Short steps → (m k : ℕ) → length (items_of s steps) ≤ m
    → replay_from m s (items_of s steps) k ≡ Same (k + length steps)
unfolding items_of
goes [] s r h m k e = turn_ends s [] k m refl ∙ ap Same (omega arith)
goes (x ∷ steps) s r h m k e =
    let next : State = (step x.1 s x.0).state in
    let t = turn s r x.0 x.1 (items_of next steps) h.0 h.1 m k e in
    t.2 ∙ goes steps next (kept x.1 s x.0 r) h.2 t.0 (k + 1) t.1 ∙ ap Same (omega arith)

pub recorded : Recorded
unfolding replay wrong_vector_file high_control_bit
recorded v s steps S file control short =
    let right : Right s = record { file = equal (length s.vectors) 2048 file; control = leb-false (2 ^ 16) s.control control } in
    let form : List ℕ = saved_form v s in
    let items : List ℕ = items_of s steps in
    let behind-form : items_in (form ++ items) ≡ items =
    rw (forms_in_front v s items right.file) (drop_at form items (length form) refl) in
    rw (front_loads v s items S file control, behind-form)
    (goes steps s right short (length items) 0 (omega arith) ∙ ap Same (omega arith))
