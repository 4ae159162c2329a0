-- The code of a load: the answer after each test, and what it has read where none refused.
-- Assumes nothing.
use Prim.Native.Nat.{ℕ, ◌+◌, ◌-◌, ◌*◌, ◌^◌, ◌≤◌, ◌<◌, min}
use mathlib.Core.Bool.{Bool, true, false, not}
use mathlib.Core.Path.{◌≡◌, refl, sym, ap, ◌∙◌}
use mathlib.Core.List.{List}
use native.Mathlib.Omega.{arith}
use borrow.Author.Tests.{ne_eqb, le-leb, lt-leb}
use lib.Dec.{eqb, lit≤}
use Rattle.std.proofs.Math.Nat.{min_comm}
use Rattle.std.proofs.lemmas.List.{take_min}
use lib.ListN.{length, take, drop, length-drop, length-take}
use lib.Seq.{take_all}
use Rattle.lists.specs.Lists.{first_of, table, NoneHolds}
use Rattle.lists.proofs.First.{holds_none}
use Rattle.machine.specs.State.{State, state_of}
use Rattle.machine.specs.Step.{wrong_vector_file, high_control_bit}
use Rattle.forms.specs.declared.Refusal.{Refusal}
use Rattle.forms.specs.Refusal.{refusal_number}
use Rattle.forms.specs.Version.{is_packed, no_version}
use Rattle.forms.specs.Numbers.{value_from, number_in}
use Rattle.forms.specs.File.{packed_size, file_form}
use Rattle.forms.specs.Form.{file_at, file, loaded_state}
use Rattle.forms.specs.Saved.{size_at, version_number, version_in, state_in, wrong_size, wrong_length, wrong_file, source_conditions}
use Rattle.forms.specs.Saved.{load_conditions, load}
use Rattle.lists.proofs.Tests.{same, differ}
use Rattle.forms.proofs.Apart.{registers_in, file_size}
use Rattle.forms.proofs.Answered.{load_done, load_refused}
use Rattle.forms.proofs.Refusals.{source_non_zero, pick, some_number}
use Rattle.parts.proofs.Reading.{four_bytes}

-- ---- the length field

pub field : (l : List ℕ) {end x : ℕ} → end ≡ min (length l) 4 → (x ≡ value_from 0 (take end l)) × (x < 256 ^ length (take end l))
    → (4 + x ≡ size_at l) × (4 + x < 2 ^ 33)
unfolding size_at
field l {end} {x} m e =
    let first : take end l ≡ take 4 l = rw (m, min_comm (length l) 4) (take_min 4 l) in
    let some : length (take end l) ≤ 4 = omega (arith, length-take end l) in
    (rw e.0 (rw first), omega (arith, four_bytes x (length (take end l)) e.1 some))

-- ---- whether the bytes are a form, after each test

-- a file takes 4 bytes or more
least : (packed : Bool) (l : List ℕ) → 4 ≤ (file_form packed).size l
unfolding file_form packed_size
least true l = omega arith
least false l = lit≤ tt

-- the file, as it is lent
abbrev pub lent_file : List ℕ → List ℕ
lent_file bytes = take (length bytes - 209) (drop 209 bytes)

pub file_lent : (bytes : List ℕ) → lent_file bytes ≡ drop file_at bytes
file_lent bytes = take_all (length bytes - 209) (drop 209 bytes) (omega (arith, length-drop 209 bytes))

-- a form, but for its control word
pub record Right (bytes : List ℕ) : Type 0 where
  pub named : no_version (version_number bytes) ≡ false
  pub size : wrong_size bytes ≡ false
  pub field : wrong_length bytes ≡ false
  pub file : wrong_file bytes ≡ false

module _ (bytes : List ℕ) where
  by_size : wrong_size bytes ≡ true → 10 ≡ first_of (source_conditions bytes) 0
  unfolding source_conditions
  by_size h = sym (pick 10 (no_version (version_number bytes)) (rw h))

  pub too_short : length bytes < 213 → 10 ≡ first_of (source_conditions bytes) 0
  unfolding wrong_size
  too_short h =
      by_size (differ (length bytes) (file_at + (file (version_in bytes)).size (drop file_at bytes))
      (λ e. omega (arith, least (is_packed (version_in bytes)) (drop file_at bytes))))

  pub no_such : no_version (version_number bytes) ≡ true → {k : ℕ} → k ≡ 10 → k ≡ first_of (source_conditions bytes) 0
  unfolding source_conditions
  no_such e h = h ∙ sym (rw e)

  pub other_length : {n : ℕ} → n ≡ size_at bytes → (n ≡ length bytes → ⊥) → 10 ≡ first_of (source_conditions bytes) 0
  unfolding source_conditions wrong_length
  other_length e h =
      let d : not (eqb (size_at bytes) (length bytes)) ≡ true = differ _ _ (λ k. h (e ∙ k)) in
      sym (pick 10 (no_version (version_number bytes)) (pick 10 (wrong_size bytes) (rw d)))

  module _ {packed : Bool} (pack : packed ≡ is_packed (version_in bytes)) where
    size_lent : (file_form packed).size (lent_file bytes) ≡ (file (version_in bytes)).size (drop file_at bytes)
    size_lent = rw (pack, file_lent bytes)

    pub other_size : {n : ℕ} → n ≡ (file_form packed).size (lent_file bytes) → (length bytes ≡ 209 + n → ⊥)
        → 10 ≡ first_of (source_conditions bytes) 0
    unfolding wrong_size
    other_size {n} e h =
        let k : n ≡ (file (version_in bytes)).size (drop file_at bytes) = e ∙ size_lent in
        by_size (differ (length bytes) (file_at + (file (version_in bytes)).size (drop file_at bytes)) (λ d. h (omega arith)))

    wrong_lent : {w : Bool} → w ≡ (file_form packed).wrong (lent_file bytes) → wrong_file bytes ≡ w
    unfolding wrong_file
    wrong_lent e = sym (e ∙ rw (pack, file_lent bytes))

    pub wrong_one : {w : Bool} → w ≡ (file_form packed).wrong (lent_file bytes) → w ≡ true → 10 ≡ first_of (source_conditions bytes) 0
    unfolding source_conditions
    wrong_one e h =
        let d : wrong_file bytes ≡ true = wrong_lent e ∙ h in
        sym (pick 10 (no_version (version_number bytes)) (pick 10 (wrong_size bytes) (pick 10 (wrong_length bytes) (rw d))))

    -- the four tests passed
    pub right : {n k : ℕ} {w : Bool} → no_version (version_number bytes) ≡ false → n ≡ (file_form packed).size (lent_file bytes)
        → length bytes ≡ 209 + n → k ≡ size_at bytes → k ≡ length bytes → w ≡ (file_form packed).wrong (lent_file bytes) → w ≡ false
        → Right bytes
    unfolding wrong_size wrong_length
    right asked en hn ek hk ew hw =
        record {
          named = asked;
          size = same (length bytes) (file_at + (file (version_in bytes)).size (drop file_at bytes)) (omega (arith, en ∙ size_lent));
          field = same (size_at bytes) (length bytes) (sym ek ∙ hk);
          file = wrong_lent ew ∙ hw;
        }

  module _ (R : Right bytes) {x : ℕ} (control : x ≡ number_in bytes 5 4) where
    pub high_control : 2 ^ 16 ≤ x → 2 ≡ first_of (source_conditions bytes) 0
    unfolding source_conditions high_control_bit loaded_state
    high_control h = sym (rw (R.named, R.size, R.field, R.file, ← control, le-leb _ _ h))

    pub is_form : x < 2 ^ 16 → 0 ≡ first_of (source_conditions bytes) 0
    unfolding source_conditions high_control_bit loaded_state
    is_form h = sym (rw (R.named, R.size, R.field, R.file, ← control, lt-leb _ _ h))

-- ---- what was read of a form that is right

module _ (bytes : List ℕ) (right : 0 ≡ first_of (source_conditions bytes) 0) where
  pub passed : NoneHolds (source_conditions bytes)
  passed = holds_none (source_conditions bytes) (source_non_zero bytes) (sym right)

  pub whole_length : 213 ≤ length bytes
  whole_length = omega (arith, length-drop file_at bytes, file_size bytes passed, least (is_packed (version_in bytes)) (drop file_at bytes))

  module _ {packed : Bool} (pack : packed ≡ is_packed (version_in bytes)) where
    pub room_lent : length (lent_file bytes) ≡ (file_form packed).size (lent_file bytes)
    room_lent = rw (pack, file_lent bytes) (file_size bytes passed)

    pub vectors_read : {vectors : List ℕ} → vectors ≡ (file_form packed).get (lent_file bytes) → vectors ≡ (state_in bytes).vectors
    unfolding loaded_state
    vectors_read e = e ∙ rw (pack, file_lent bytes)

pub state_read : (bytes : List ℕ) {vectors masks general : List ℕ} {control pointer m g : ℕ} → m ≡ 8 → g ≡ 16
    → control ≡ number_in bytes 5 4
    → pointer ≡ number_in bytes 9 8
    → general ≡ table g (λ k. number_in (take 128 (drop 17 bytes)) (8 * k) 8)
    → masks ≡ table m (λ k. number_in (take 64 (drop 145 bytes)) (8 * k) 8)
    → vectors ≡ (state_in bytes).vectors
    → state_of vectors masks general control pointer ≡ state_in bytes
unfolding loaded_state
state_read bytes {vectors} {masks} {general} hm hg c p r k v =
    let lower : general ≡ table 16 (λ i. number_in bytes (17 + 8 * i) 8) = r ∙ rw hg (registers_in bytes 17 16) in
    let upper : masks ≡ table 8 (λ i. number_in bytes (145 + 8 * i) 8) = k ∙ rw hm (registers_in bytes 145 8) in
    λ i. record { vectors = v i; masks = upper i; general = lower i; control = c i; pointer = p i }

-- ---- the answer of a load

module _ (bytes : List ℕ) (s : State) where
  pub wrong_file_lem : (length s.vectors ≡ 2048 → ⊥) → record { number = 1; state = s } ≡ load bytes s
  unfolding load_conditions wrong_vector_file
  wrong_file_lem h = sym (load_refused bytes s 1 refl (rw (ne_eqb _ _ h)))

  module _ (long : length s.vectors ≡ 2048) where
    by_source : {k : ℕ} → k ≡ first_of (source_conditions bytes) 0 → first_of (load_conditions bytes s) 0 ≡ k
    unfolding load_conditions wrong_vector_file
    by_source answer = rw long (sym answer)

    pub wrong_form : (refusal : Refusal) → refusal_number refusal ≡ first_of (source_conditions bytes) 0 → {k : ℕ}
        → k ≡ refusal_number refusal → record { number = k; state = s } ≡ load bytes s
    wrong_form refusal answer h = rw h (sym (load_refused bytes s _ (ne_eqb _ _ (some_number refusal)) (by_source answer)))

    pub loaded : {t : State} → 0 ≡ first_of (source_conditions bytes) 0 → t ≡ state_in bytes → record { number = 0; state = t } ≡ load bytes s
    loaded answer e = ap (λ (t : State). record { number = 0; state = t }) e ∙ sym (load_done bytes s (by_source answer))
