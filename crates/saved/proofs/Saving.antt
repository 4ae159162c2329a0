-- The code of a save: the answer after each test, and what it has written where none refused. The parts that it lends come back one after
-- another, each as the form has it there.
-- Assumes nothing.
use Prim.Native.Nat.{ℕ, ◌+◌, ◌-◌, ◌^◌, ◌≤◌, ◌<◌}
use mathlib.Core.Bool.{Bool, true, false, true≢false}
use mathlib.Core.List.{List, [], ◌∷◌, ◌++◌}
use mathlib.Core.Path.{◌≡◌, refl, sym, ap, subst, ◌∙◌}
use native.Mathlib.Omega.{arith}
use borrow.Author.Tests.{ne_eqb, eq-eqb, le-leb, lt-leb}
use Rattle.std.specs.Prelude.{Option, Some, None, Result, Ok, Err, is_some, unwrap_or, ◌≢◌}
use Rattle.std.specs.Result.{result_ok}
use lib.Dec.{lit≤}
use lib.ListN.{length, take, drop}
use lib.Seq.{take_all}
use Rattle.machine.specs.State.{State}
use Rattle.machine.specs.Step.{wrong_vector_file, high_control_bit}
use Rattle.forms.specs.declared.Version.{Version}
use Rattle.forms.specs.declared.Version.TheVariants.{One, Two}
use Rattle.forms.specs.Version.{version_byte, is_packed, version_of, no_version}
use Rattle.forms.specs.Numbers.{big, registers}
use Rattle.forms.specs.File.{word_for, size_for, file_form}
use Rattle.forms.specs.Form.{numbers, file_at, file, content, saved_form, form_size}
use Rattle.forms.specs.Saved.{wrong_target, save_conditions, save, saved_size, size_of}
use Rattle.forms.proofs.Files.{pack_size}
use Rattle.forms.proofs.Places.{length-numbers, control_there, pointer_there, general_there, masks_there, length-content, length_saved}
use Rattle.forms.proofs.Places.{length_there, version_there, numbers_there, file_there}
use Rattle.forms.proofs.Answered.{save_done, save_refused}
use Rattle.parts.proofs.Written.{Written, nothing, more, lent, all}

-- ---- what holds of a result holds of the variant that its option tells

pub at_ok : {T E : Type 0} (r : Result T E) {x : T} → Some x ≡ result_ok r → (P : Result T E → Type 0) → P r → P (Ok x)
at_ok (Ok y) {x} e P h = subst (λ o. P (Ok (unwrap_or o y))) (sym e) h
at_ok (Err y) e P h = absurd (true≢false (ap is_some e))

pub at_err : {T E : Type 0} (r : Result T E) → None ≡ result_ok r → (P : Result T E → Type 0) → P r → (y : E) × P (Err y)
at_err (Ok y) e P h = absurd (true≢false (ap is_some (sym e)))
at_err (Err y) e P h = (y, h)

-- ---- the size, by the word

file_size : (packed : Bool) (vectors : List ℕ) {word : Option ℕ} → length vectors ≡ 2048 → word ≡ word_for packed vectors
    → size_for word ≡ length ((file_form packed).put vectors)
unfolding file_form
file_size true vectors h e = rw e (sym (pack_size vectors h))
file_size false vectors h e = rw e (sym h)

-- a file has a word where it is packed
pub has_word : (packed : Bool) (vectors : List ℕ) {word : Option ℕ} → word ≡ word_for packed vectors → is_some word ≡ packed
has_word true vectors e = rw e
has_word false vectors e = rw e

pub size_by_word : (v : Version) (vectors : List ℕ) {word : Option ℕ} → length vectors ≡ 2048 → word ≡ word_for (is_packed v) vectors
    → {n : ℕ} → n ≡ file_at + size_for word → n ≡ form_size v vectors
unfolding form_size
size_by_word v vectors h e k = k ∙ ap (λ (n : ℕ). file_at + n) (file_size (is_packed v) vectors h e)

-- a form has a size other than 0
pub some_size : (v : Version) (vectors : List ℕ) {k n : ℕ} → k ≡ n → k ≡ form_size v vectors → Some k ≡ size_of n
unfolding form_size
some_size v vectors {k} {n} e h = let some : n ≢ 0 = omega arith in rw (ne_eqb n 0 some, e)

-- ---- the answer after each test

-- what the tests have shown, where v and k are the version and the size that the code has come to
pub record Shown (n : ℕ) (vectors : List ℕ) (v : Version) (k : ℕ) : Type 0 where
  pub asked : no_version n ≡ false
  pub long : length vectors ≡ 2048
  pub version : v ≡ version_of n
  pub size : k ≡ form_size v vectors

module _ (n : ℕ) (s : State) (target : List ℕ) where
  pub no_such : no_version n ≡ true → {k : ℕ} → k ≡ 10 → record { number = k; target = target } ≡ save n s target
  unfolding save_conditions
  no_such e h = rw h (sym (save_refused n s target 10 refl (rw e)))

  pub wrong_file_lem : no_version n ≡ false → (length s.vectors ≡ 2048 → ⊥) → record { number = 1; target = target } ≡ save n s target
  unfolding save_conditions wrong_vector_file
  wrong_file_lem e h = sym (save_refused n s target 1 refl (rw (e, ne_eqb _ _ h)))

  module _ {v : Version} {k : ℕ} (S : Shown n s.vectors v k) where
    pub wrong_total : (length target ≡ k → ⊥) → record { number = 1; target = target } ≡ save n s target
    unfolding save_conditions wrong_vector_file wrong_target
    wrong_total h = sym (save_refused n s target 1 refl (rw (S.asked, S.long, ← S.version, ← S.size, ne_eqb _ _ h)))

    pub high_control : length target ≡ k → 2 ^ 16 ≤ s.control → record { number = 2; target = target } ≡ save n s target
    unfolding save_conditions wrong_vector_file wrong_target high_control_bit
    high_control t h =
        sym (save_refused n s target 2 refl (rw (S.asked, S.long, ← S.version, ← S.size, eq-eqb _ _ t, le-leb _ _ h)))

    pub saved : {x : List ℕ} → length target ≡ k → s.control < 2 ^ 16 → x ≡ saved_form v s
        → record { number = 0; target = x } ≡ save n s target
    unfolding save_conditions wrong_vector_file wrong_target high_control_bit
    saved t h e =
        ap (λ (x : List ℕ). record { number = 0; target = x }) (e ∙ rw S.version)
        ∙ sym (save_done n s target (rw (S.asked, S.long, ← S.version, ← S.size, eq-eqb _ _ t, lt-leb _ _ h)))

-- the size that is needed, by the same tests
module _ (n : ℕ) (vectors : List ℕ) where
  pub size_no_such : no_version n ≡ true → None ≡ size_of (saved_size n vectors)
  unfolding saved_size
  size_no_such e = rw e

  pub size_wrong_file : no_version n ≡ false → (length vectors ≡ 2048 → ⊥) → None ≡ size_of (saved_size n vectors)
  unfolding saved_size
  size_wrong_file e h = rw (e, ne_eqb _ _ h)

  pub size_there : no_version n ≡ false → length vectors ≡ 2048 → {k : ℕ} → k ≡ form_size (version_of n) vectors
      → Some k ≡ size_of (saved_size n vectors)
  unfolding saved_size
  size_there e h k = some_size (version_of n) vectors (k ∙ rw (e, h)) k

-- ---- what was written

-- n elements from a place on, changed for others: what a lent part leaves
abbrev put : ℕ → ℕ → List ℕ → List ℕ → List ℕ
put at n l p = take at l ++ (p ++ drop n (drop at l))

-- a number was put there
number_put : {w d l : List ℕ} {at : ℕ} → Written w d l at → (end x : ℕ) (p : List ℕ) → at ≤ end → end ≤ length d
    → take (end - at) (drop at w) ≡ big (end - at) x → p ≡ big (length (take (end - at) (drop at l))) x → Written w d
    (put at (end - at) l p) end
number_put W end x p b h e k = more W end p b h (k ∙ rw (lent W end b h) (sym e))

pub numbers_written : (control pointer : ℕ) (general masks d : List ℕ) {p q r t : List ℕ} → length general ≡ 16 → length masks ≡ 8
    → length d ≡ 204
    → p ≡ big (length (take 4 (drop 0 d))) control
    → q ≡ big (length (take 8 (drop 4 (put 0 4 d p)))) pointer
    → r ≡ registers (length general) general
    → t ≡ registers (length masks) masks
    → put 140 64 (put 12 128 (put 4 8 (put 0 4 d p) q) r) t ≡ numbers control pointer general masks
numbers_written control pointer general masks d {p} {q} {r} {t} hg hm size hp hq hr ht =
    let w0 = nothing (numbers control pointer general masks) d (length-numbers control pointer general masks ∙ sym size) in
    let w1 = number_put w0 4 control p (lit≤ tt) (omega arith) (control_there control pointer general masks) hp in
    let w2 = number_put w1 12 pointer q (lit≤ tt) (omega arith) (pointer_there control pointer general masks) hq in
    let w3 = more w2 140 r (lit≤ tt) (omega arith) (hr ∙ rw hg (sym (general_there control pointer general masks))) in
    let w4 = more w3 204 t (lit≤ tt) (omega arith) (ht ∙ rw hm (sym (masks_there control pointer general masks))) in
    all w4 (omega arith)

-- a version's number fits its byte
one_byte : (v : Version) → version_byte v ∷ [] ≡ big 1 (version_byte v)
unfolding big
one_byte One = refl
one_byte Two = refl

-- a target of a form's size
module _ (v : Version) (vectors d : List ℕ) (size : length d ≡ form_size v vectors) where
  pub at_least : 209 ≤ length d
  unfolding form_size
  at_least = omega (arith, size)

  pub file-length : length d - 209 ≡ length ((file v).put vectors)
  unfolding form_size
  file-length = omega (arith, size)

module _ (v : Version) (s : State) (d : List ℕ) (size : length d ≡ form_size v s.vectors) where
  counted : length d ≡ 4 + length (content v s)
  unfolding form_size
  counted = omega (arith, size, length-content v s)

  pub form_written : {p q r t : List ℕ} {b : ℕ} → b ≡ version_byte v
      → p ≡ big (length (take 4 (drop 0 d))) (length d - 4)
      → q ≡ big (length (take 1 (drop 4 (put 0 4 d p)))) b
      → r ≡ numbers s.control s.pointer s.general s.masks
      → t ≡ (file v).put s.vectors
      → put 209 (length d - 209) (put 5 204 (put 4 1 (put 0 4 d p) q) r) t ≡ saved_form v s
  form_written {p} {q} {r} {t} {b} byte hp hq hr ht =
      let enough : 209 ≤ length d = at_least v s.vectors d size in
      let n : length d - 4 ≡ length (content v s) = omega (arith, counted) in
      let tail : take (length d - 209) (drop 209 (saved_form v s)) ≡ (file v).put s.vectors =
      rw (file_there v s) (take_all (length d - 209) ((file v).put s.vectors) (omega (arith, file-length v s.vectors d size))) in
      let w0 = nothing (saved_form v s) d (length_saved v s ∙ sym size) in
      let w1 = number_put w0 4 (length d - 4) p (lit≤ tt) (omega (arith, enough)) (rw n (length_there v s)) hp in
      let w2 = number_put w1 5 b q (lit≤ tt) (omega (arith, enough)) (rw byte (version_there v s ∙ one_byte v)) hq in
      let w3 = more w2 209 r (lit≤ tt) enough (hr ∙ sym (numbers_there v s)) in
      let w4 = more w3 (length d) t enough (omega arith) (ht ∙ sym tail) in
      all w4 (omega arith)
