-- docs/RULES.md, R12.7: a state in both versions of its saved form, byte by byte. The statement; its proof, by computation, is in
-- proofs/Rows.antt.
use Rattle.std.specs.Prelude.{ℕ, List, [], ◌∷◌, ◌++◌, ◌≡◌, take, drop}
use Rattle.machine.specs.State.{State}
use Rattle.forms.specs.declared.Version.{Version}
use Rattle.forms.specs.declared.Version.TheVariants.{One, Two}
use Rattle.forms.specs.File.{zeros}
use Rattle.forms.specs.Form.{saved_form}

-- ---- R12.7

-- 1.0 in lane 0 of register 1 and the negative zero in lane 31 of register 31; a pointer, a general register and a mask whose bytes
-- differ; all else is zero
abbrev pub first_register : List ℕ
first_register = 0 ∷ 0x3C ∷ zeros 62

abbrev pub last_register : List ℕ
last_register = zeros 62 ++ (0 ∷ 0x80 ∷ [])

abbrev pub sample : State
sample =
    record {
      vectors = zeros 64 ++ first_register ++ zeros 1856 ++ last_register;
      masks = zeros 7 ++ (0x4142434445464748 ∷ []);
      general = 0x1112131415161718 ∷ zeros 15;
      control = 0x1F80;
      pointer = 0x0102030405060708;
    }

pub record FormRows : Type 0 where
  -- the first nine bytes: the length field, the version, the control word
  pub one : take 9 (saved_form One sample) ≡ 0 ∷ 0 ∷ 0x08 ∷ 0xCD ∷ 1 ∷ 0 ∷ 0 ∷ 0x1F ∷ 0x80 ∷ []
  pub two : take 9 (saved_form Two sample) ≡ 0 ∷ 0 ∷ 0x01 ∷ 0x51 ∷ 2 ∷ 0 ∷ 0 ∷ 0x1F ∷ 0x80 ∷ []
  -- in both: the pointer and the first general register, the last mask
  pub numbers : (v : Version)
      → take 16 (drop 9 (saved_form v sample))
      ≡ 1 ∷ 2 ∷ 3 ∷ 4 ∷ 5 ∷ 6 ∷ 7 ∷ 8 ∷ 0x11 ∷ 0x12 ∷ 0x13 ∷ 0x14 ∷ 0x15 ∷ 0x16 ∷ 0x17 ∷ 0x18 ∷ []
  pub mask : (v : Version)
      → take 8 (drop 201 (saved_form v sample)) ≡ 0x41 ∷ 0x42 ∷ 0x43 ∷ 0x44 ∷ 0x45 ∷ 0x46 ∷ 0x47 ∷ 0x48 ∷ []
  -- the file: whole; packed, with a word whose bits 1 and 31 are set
  pub whole : drop 209 (saved_form One sample) ≡ sample.vectors
  pub packed : drop 209 (saved_form Two sample) ≡ (0x80 ∷ 0 ∷ 0 ∷ 0x02 ∷ []) ++ first_register ++ last_register
