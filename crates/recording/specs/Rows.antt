-- docs/RULES.md, R12.8: a recording byte by byte, and what is reported of it and of others like it. The statement; its proof, by
-- computation, is in proofs/Rows.antt.
use Rattle.std.specs.Prelude.{ℕ, List, [], ◌∷◌, ◌++◌, ◌≡◌, take}
use Rattle.machine.specs.State.{State}
use Rattle.forms.specs.declared.Version.{Version}
use Rattle.forms.specs.declared.Version.TheVariants.{Two}
use Rattle.forms.specs.File.{zeros}
use Rattle.forms.specs.Form.{saved_form}
use Rattle.recording.specs.Replay.{replay}
use Rattle.recording.specs.declared.Report.TheVariants.{Same, Differs, BadItem, BadState}

-- ---- R12.8

-- 1.0 in lane 0 of register 1
abbrev pub start : State
start =
    record {
      vectors = zeros 64 ++ (0 ∷ 0x3C ∷ zeros 1982);
      masks = zeros 8;
      general = zeros 16;
      control = 0x1F80;
      pointer = 0;
    }

-- the head of an item whose length has this last byte: version, answer, number of code bytes
abbrev head : ℕ → ℕ → ℕ → ℕ → List ℕ
head last version answer count = 0 ∷ 0 ∷ 0 ∷ last ∷ version ∷ answer ∷ count ∷ []

-- the control word 1F80
abbrev control : List ℕ
control = 0 ∷ 0 ∷ 0x1F ∷ 0x80 ∷ []

-- VADDSH xmm0, xmm1, xmm1, without memory: 2.0 in lane 0
abbrev adds : ℕ → List ℕ
adds version =
    head 79 version 0 6 ++ (0x62 ∷ 0xF5 ∷ 0x76 ∷ 0x08 ∷ 0x58 ∷ 0xC1 ∷ 0 ∷ 0 ∷ []) ++ control ++ (0 ∷ 0x40 ∷ zeros 62)

-- VCMPPH k3, zmm0, zmm1, 30 (greater): bit 0 of the mask alone
abbrev compares : ℕ → List ℕ
compares lowest =
    head 80 1 0 7 ++ (0x62 ∷ 0xF3 ∷ 0x7C ∷ 0x48 ∷ 0xC2 ∷ 0xD9 ∷ 0x1E ∷ 0 ∷ 0 ∷ []) ++ control
    ++ (0 ∷ 0 ∷ 0 ∷ 0 ∷ 0 ∷ 0 ∷ 0 ∷ lowest ∷ zeros 56)

-- a byte that begins no instruction
abbrev refuses : List ℕ
refuses = head 74 1 4 1 ++ (0x90 ∷ 0 ∷ 0 ∷ []) ++ control ++ zeros 64

-- VADDSH xmm0, xmm0, [rax] with 1.0 in two bytes of memory: 3.0 in lane 0
abbrev loads : List ℕ
loads = head 81 1 0 6 ++ (0x62 ∷ 0xF5 ∷ 0x7E ∷ 0x08 ∷ 0x58 ∷ 0x00 ∷ 0 ∷ 2 ∷ 0 ∷ 0x3C ∷ []) ++ control ++ (0 ∷ 0x42 ∷ zeros 62)

-- the same without memory: 7, and the destination as before
abbrev outside : List ℕ
outside = head 79 1 7 6 ++ (0x62 ∷ 0xF5 ∷ 0x7E ∷ 0x08 ∷ 0x58 ∷ 0x00 ∷ 0 ∷ 0 ∷ []) ++ control ++ (0 ∷ 0x40 ∷ zeros 62)

-- VDIVSH xmm1, xmm1, xmm0, 1.0 by 0, with ZE unmasked: 8, ZE is set, and the destination as before
abbrev unmasked : State
unmasked =
    record {
      vectors = start.vectors;
      masks = start.masks;
      general = start.general;
      control = 0x1D80;
      pointer = start.pointer;
    }

abbrev divides : List ℕ
divides =
    head 79 1 8 6 ++ (0x62 ∷ 0xF5 ∷ 0x76 ∷ 0x08 ∷ 0x5E ∷ 0xC8 ∷ 0 ∷ 0 ∷ []) ++ (0 ∷ 0 ∷ 0x1D ∷ 0x84 ∷ []) ++ (0 ∷ 0x3C ∷ zeros 62)

abbrev recording : Version → List ℕ → List ℕ
recording v items = saved_form v start ++ items

pub record ReplayRows : Type 0 where
  pub none : (v : Version) → replay (recording v []) ≡ Same 0
  pub four : (v : Version) → replay (recording v (adds 1 ++ compares 1 ++ refuses ++ loads)) ≡ Same 4
  -- refused by memory, and by an exception
  pub seven : replay (recording Two (adds 1 ++ outside)) ≡ Same 2
  pub eight : replay (saved_form Two unmasked ++ divides) ≡ Same 1
  -- a mask that is not ours
  pub other : replay (recording Two (adds 1 ++ compares 0 ++ refuses)) ≡ Differs 1
  -- another version of an item; bytes behind the last item
  pub version : replay (recording Two (adds 1 ++ adds 2)) ≡ BadItem 1
  pub rest : replay (recording Two (adds 1 ++ (0 ∷ []))) ≡ BadItem 1
  -- the saved form without its last byte
  pub cut : replay (take 276 (recording Two [])) ≡ BadState
