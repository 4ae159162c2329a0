-- What is proved of the machine, all in one: proofs/Theorems.antt. The clauses are those of docs/RULES.md.
use Rattle.machine.specs.Answers.{Answers, BytesAfter, FirstBytes, NoSix, Lengths}
use Rattle.machine.specs.OffLanes.{OffLanes, ScalarLanes}
use Rattle.machine.specs.VectorFile.{VectorFile}
use Rattle.machine.specs.Masks.{Masks}
use Rattle.machine.specs.ControlWord.{ControlWord}
use Rattle.machine.specs.TwoRuns.{TwoRuns}
use Rattle.machine.specs.Bytes.{DecodedBytes}
use Rattle.machine.specs.Rows.{StarredRows, TwoStages, ScalarRows, CompareRows}

-- R4.12, R4.17 to R4.19, R5.1, R5.2, R5.9 to R5.11, R7.2, R7.4, R7.5, R11.7, R12.1, R12.2, R12.4 to R12.6
pub record Theorems : Type 1 where
  -- R4.2, R4.15 to R4.17: which answer is given, and what it leaves
  pub answers : Answers
  -- R4.18: and that it turns on no byte behind the instruction, nor behind the longest
  pub bytes_after : BytesAfter
  pub first_bytes : FirstBytes
  -- R4.12: and is never 6; R3.14, R4.17: the length that is handed back
  pub no_six : NoSix
  pub lengths : Lengths
  -- R5.2: the conditions of 7 and 8, and the flags
  pub off_lanes : OffLanes
  -- R5.1: lane 0 of a scalar instruction
  pub scalar_lanes : ScalarLanes
  -- R5.9, R5.10: the vector file
  pub vector_file : VectorFile
  -- R1.4, R5.11: the masks
  pub masks : Masks
  -- R7.2, R7.4, R7.5: the control word
  pub control_word : ControlWord
  -- R11.7: two runs
  pub two_runs : TwoRuns
  -- R12.2: bytes of the examples
  pub decoded_bytes : DecodedBytes
  -- R12.1: examples through a step
  pub starred_rows : StarredRows
  -- R12.4: and in two lanes at once
  pub two_stages : TwoStages
  -- R12.5: and of scalar instructions
  pub scalar_rows : ScalarRows
  -- R12.6: and of minimum, maximum and comparison
  pub compare_rows : CompareRows
